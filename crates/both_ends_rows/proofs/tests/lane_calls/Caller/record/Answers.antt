use Rattle.endpoint_history.specs.Conditions.{history_of, allocations_of}
use Rattle.both_ends_rows.proofs.Serving.{served-recorded}
use Rattle.both_ends_rows.proofs.tests.lane_calls.Caller.record.Goals as goal

pub count_slot-requires-clause-played : goal.count_slot-requires-clause-played
count_slot-requires-clause-played g c =
    let it = c.args.self.now in
    let is = c.requires in
    let e = c.in_ok-record.ensures in
    served-recorded it.lane it.dst it.round it.before it.last c.record.new.self is e.frame (e.stands (history_of is.calls) (allocations_of is.calls) is.stands)
