use Rattle.std.proofs.Common.{List, sym, ◌∙◌, ap, subst}
use Rattle.ack_window.specs.Arrivals.{receive_verdict, is_fresh}
use Rattle.ack_window.specs.Sends.{decided_by}
use Rattle.ack_window.specs.Versions.{reorder_of, span_of}
use Rattle.fcp_framing.specs.declared.packet.Demand.{Demand as DemandItem}
use Rattle.endpoint_history.specs.Confirmed.{total_named}
use Rattle.arbiter_lane.specs.Lines.{Become, RisesTo, slots_shown, slots_lost}
use Rattle.arbiter_lane.specs.Parts.{acknowledgement_in}
use Rattle.arbiter_lane.proofs.Hearing.{Hears-fresh, Hears-stale}
use Rattle.arbiter_lane.proofs.lane.take_request.Goals as goal

pub returns-in-Fresh-clause-lines : goal.returns-in-Fresh-clause-lines
returns-in-Fresh-clause-lines c = λ numbers events heard done.
    let sent = c.args.sent.now in
    let up = c.args.up.now in
    let found = decided_by (reorder_of sent.version) (span_of sent.version) events (acknowledgement_in up) in
    let verdict = receive_verdict (reorder_of c.args.arrived.now.version) numbers up.seq in
    Hears-fresh (slots_shown found) (slots_lost found) (λ dst. total_named dst up.demands.items) (is_fresh verdict) c.args.lines.now c.read_ack.new.lines c.raise.new.lines
    (ap is_fresh (sym (c.take.ensures.verdict numbers heard) ∙ c.in-Fresh.is)) (c.read_ack.ensures.lines events done)
    (subst (λ (demands : List DemandItem). Become (λ dst. RisesTo (total_named dst demands)) c.read_ack.new.lines c.raise.new.lines) c.as_slice.ensures.value c.raise.ensures.raised)

pub returns-in-Repeat-clause-lines : goal.returns-in-Repeat-clause-lines
returns-in-Repeat-clause-lines c = λ numbers events heard done.
    let sent = c.args.sent.now in
    let up = c.args.up.now in
    let found = decided_by (reorder_of sent.version) (span_of sent.version) events (acknowledgement_in up) in
    let verdict = receive_verdict (reorder_of c.args.arrived.now.version) numbers up.seq in
    Hears-stale (slots_shown found) (slots_lost found) (λ dst. total_named dst up.demands.items) (is_fresh verdict) c.args.lines.now c.read_ack.new.lines
    (ap is_fresh (sym (c.take.ensures.verdict numbers heard) ∙ c.in-Repeat.is)) (c.read_ack.ensures.lines events done)

pub returns-in-Old-clause-lines : goal.returns-in-Old-clause-lines
returns-in-Old-clause-lines c = λ numbers events heard done.
    let sent = c.args.sent.now in
    let up = c.args.up.now in
    let found = decided_by (reorder_of sent.version) (span_of sent.version) events (acknowledgement_in up) in
    let verdict = receive_verdict (reorder_of c.args.arrived.now.version) numbers up.seq in
    Hears-stale (slots_shown found) (slots_lost found) (λ dst. total_named dst up.demands.items) (is_fresh verdict) c.args.lines.now c.read_ack.new.lines
    (ap is_fresh (sym (c.take.ensures.verdict numbers heard) ∙ c.in-Old.is)) (c.read_ack.ensures.lines events done)
