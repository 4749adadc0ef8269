use Rattle.std.proofs.Common.{◌≡◌, ◌++◌, ◌∷◌, sym, ◌∙◌, ap, subst}
use Rattle.std.specs.List.{filter_map, range_with_len}
use Rattle.std.specs.Vec.{with_items}
use Rattle.endpoint_history.specs.Entries.{next_entry}
use Rattle.endpoint_history.specs.Lane.{Records}
use Rattle.arbiter_lane.specs.Lines.{IsEntered}
use Rattle.arbiter_lane.specs.Parts.{CanRise, RisenAreMarked, entries_on}
use Rattle.arbiter_lane.specs.State.{LaneState}
use Rattle.arbiter_lane.specs.Standing.{LaneStandsFor}
use Rattle.arbiter_lane.specs.contracts.lane.Lane.{the_view}
use Rattle.arbiter_lane.proofs.Held.{Become-written, each-told-is-owed}
use Rattle.arbiter_lane.proofs.Recording.{can_rise, entries-are, stands-recorded, sound-recorded}
use Rattle.arbiter_lane.proofs.Marking.{marked-written}
use Rattle.arbiter_lane.proofs.lane.Lane.record.Goals as goal

pub record-requires-clause-can_rise : goal.record-requires-clause-can_rise
record-requires-clause-can_rise c = subst CanRise (sym c.deref_mut.ensures.value) (can_rise (the_view c.self.inside) c.self.invariant.0)

pub record-requires-clause-marked : goal.record-requires-clause-marked
record-requires-clause-marked c = subst (RisenAreMarked c.self.inside.risen) (sym c.deref_mut.ensures.value) c.self.invariant.2

pub invariant_of-self-2 : goal.invariant_of-self-2
invariant_of-self-2 c =
    let was : LaneState = the_view c.self.inside in
    let before = c.self.invariant in
    let lines = (with_items c.self.inside.lines c.record.new.lines).items in
    let become = Become-written (λ dst. IsEntered) c.self.inside.lines c.deref_mut.result.now c.record.new.lines c.deref_mut.ensures.value c.in_ok-record.ensures.entered in
    let now : was.round ≡ c.args.round = ap (λ (l : LaneState). l.round) c.self.view_is ∙ sym c.requires.round in (
      sound-recorded was c.args.round lines now before.0 c.requires.rounds become,
      (Records c.args.round ∷ before.1.0, before.1.1, stands-recorded was c.args.round lines before.1.0 before.1.1 now before.1.2 become, before.1.3),
      marked-written c.record.new.risen c.self.inside.lines c.deref_mut.result.now c.record.new.lines c.deref_mut.ensures.value c.in_ok-record.ensures.entered.as_many c.record.ensures.marked,
    )

pub returns-clause-entries : goal.returns-clause-entries
returns-clause-entries c = λ history allocations stands.
    let was : LaneState = the_view c.self.inside in
    c.in_ok-record.ensures.entries
    ∙ ap (λ xs. c.args.batch.now.entries ++ xs)
    (ap (λ ls. entries_on ls was.endpoint was.is_reset) c.deref_mut.ensures.value
    ∙ (entries-are was history allocations c.self.invariant.0.as_many (subst (λ (l : LaneState). LaneStandsFor l history allocations) (sym c.self.view_is) stands)
    ∙ ap (λ (l : LaneState). filter_map (next_entry l.endpoint l.g history) (range_with_len 0 l.endpoints)) c.self.view_is))

pub returns-clause-stands : goal.returns-clause-stands
returns-clause-stands c = λ history allocations stands.
    let was : LaneState = the_view c.self.inside in
    let lines = (with_items c.self.inside.lines c.record.new.lines).items in
    let become = Become-written (λ dst. IsEntered) c.self.inside.lines c.deref_mut.result.now c.record.new.lines c.deref_mut.ensures.value c.in_ok-record.ensures.entered in
    let now : was.round ≡ c.args.round = ap (λ (l : LaneState). l.round) c.self.view_is ∙ sym c.requires.round in
    stands-recorded was c.args.round lines history allocations now (subst (λ (l : LaneState). LaneStandsFor l history allocations) (sym c.self.view_is) stands) become

pub returns-clause-told : goal.returns-clause-told
returns-clause-told c = λ history allocations stands dst below.
    let was : LaneState = the_view c.self.inside in
    let lines = (with_items c.self.inside.lines c.record.new.lines).items in
    let become = Become-written (λ dst. IsEntered) c.self.inside.lines c.deref_mut.result.now c.record.new.lines c.deref_mut.ensures.value c.in_ok-record.ensures.entered in
    let now : was.round ≡ c.args.round = ap (λ (l : LaneState). l.round) c.self.view_is ∙ sym c.requires.round in
    each-told-is-owed c.lanes_count_slots.ensures.sums _ (sound-recorded was c.args.round lines now c.self.invariant.0 c.requires.rounds become) history allocations stands dst below
