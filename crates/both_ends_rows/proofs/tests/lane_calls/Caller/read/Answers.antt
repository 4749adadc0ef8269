use Rattle.endpoint_history.specs.Conditions.{history_of, allocations_of}
use Rattle.both_ends_rows.proofs.Serving.{served-read}
use Rattle.both_ends_rows.proofs.tests.lane_calls.Caller.read.Goals as goal

pub returns : goal.returns
returns c =
    let it = c.args.self.now in
    let is = c.requires in
    let e = c.take_up.ensures in
    served-read it.lane it.dst it.round it.before it.last c.take_up.new.self c.args.bytes.now _ is e.same.endpoint e.same.endpoints e.same.b e.same.g e.same.round
    (e.answer (history_of is.calls) (allocations_of is.calls) is.stands) e.unchanged
    (λ own. e.stands own (history_of is.calls) (allocations_of is.calls) is.stands)
