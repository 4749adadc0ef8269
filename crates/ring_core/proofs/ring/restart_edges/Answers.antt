use Rattle.std.proofs.Common.{◌≡◌, ◌<◌, ℕ, List, [], length, get_or, refl, sym, ap, ◌∙◌, arith, length-set}
use Rattle.std.proofs.lemmas.Option.{slice_get_read, slice_get_within}
use Rattle.ring_core.specs.States.{EdgeState}
use Rattle.ring_core.specs.Edges.{room_of}
use Rattle.ring_core.proofs.PlayLemmas.{get_set_other}
use Rattle.ring_core.proofs.EdgeLemmas.{set_each, room_kept}
use Rattle.ring_core.proofs.ring.restart_edges.Goals as goal

pub loop-edge-preserved : goal.loop-edge-preserved
loop-edge-preserved c =
    let was = c.loop-edge.invariant in
    let at : ℕ = c.loop-edge.edge-index in
    let items : List EdgeState = c.loop-edge.edge-items in
    let within : at < length items = omega (arith, c.loop-edge-test.true, was.count) in
    let old : EdgeState = get_or items at c.edge-item.result in
    let is : old ≡ get_or items at old = ap (get_or items at) c.edge-item.is in
    let room = c.restart.ensures.room ∙ sym (ap room_of (slice_get_read items (length items) at old refl within is)) in
    record {
      count = length-set items at c.restart.new.self ∙ was.count;
      empty = set_each (λ k e. (e.pieces ≡ []) × (e.taken ≡ 0) × (e.sent ≡ 0)) items at c.restart.new.self (c.restart.ensures.pieces ∙ c.requires.empty at old (sym (was.rest at (omega arith)) ∙ slice_get_read items (length items) at old refl within is), c.restart.ensures.taken, c.restart.ensures.sent) was.empty;
      rest = λ number past. get_set_other items at number c.restart.new.self (λ q. omega (arith, q, past)) ∙ was.rest number (omega (arith, past));
      rooms = λ number. room_kept items at c.restart.new.self number room within ∙ was.rooms number;
    }

pub returns-clause-empty : goal.returns-clause-empty
returns-clause-empty c = λ number edge is.
    c.loop-edge.invariant.empty number edge (omega (arith, slice_get_within c.loop-edge.edge-items number edge is, c.loop-edge-test.false, c.loop-edge.invariant.count)) is
