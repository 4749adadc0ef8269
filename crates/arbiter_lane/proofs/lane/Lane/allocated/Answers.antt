use Rattle.std.proofs.Common.{◌≡◌, ◌<◌, ◌≤◌, ◌∷◌, ℕ, Some, slice_get, get_or, set, sym, ◌∙◌, ap, subst, refl, arith}
use Rattle.std.proofs.lemmas.Option.{slice_get-get_or}
use Rattle.arbiter_lane.specs.declared.line.LaneLine.{LaneLine as LineOf}
use Rattle.arbiter_lane.specs.Lines.{AllocatesSlots}
use Rattle.arbiter_lane.specs.State.{LaneState, IsSoundLane}
use Rattle.arbiter_lane.specs.Standing.{LaneStandsFor}
use Rattle.arbiter_lane.specs.contracts.lane.Lane.{the_view}
use Rattle.arbiter_lane.proofs.Allocating.{counted, allocates_at, room_left, stands-allocated, sound-allocated}
use Rattle.arbiter_lane.proofs.Marking.{marked-allocated}
use Rattle.arbiter_lane.proofs.lane.Lane.allocated.Goals as goal

-- the line of the destination
here : (was now : LaneState) (dst : ℕ) (line : LineOf) → was ≡ now → IsSoundLane was → dst < now.endpoints → line ≡ get_or was.lines dst line → slice_get was.lines dst ≡ Some line
here was now dst line view_is sound within is =
    let endpoints = ap (λ (l : LaneState). l.endpoints) view_is in
    let as_many = sound.as_many in
    slice_get-get_or was.lines dst line (omega (arith, within, endpoints, as_many)) ∙ ap Some (sym is)

pub allocate-requires-clause-fits : goal.allocate-requires-clause-fits
allocate-requires-clause-fits c =
    let was : LaneState = the_view c.self.inside in
    let line = c.index_mut.result.now in
    let at_it = here was c.args.self.now c.args.dst line c.self.view_is c.self.invariant.0 c.requires.destination c.index_mut.ensures.value in
    let from : c.args.self.now.last_reset ≤ c.args.batch = subst (λ (l : LaneState). l.last_reset ≤ c.args.batch) c.self.view_is c.if-batch-self.true in
    room_left was c.args.dst c.args.n line c.self.invariant.0 at_it (c.requires.pending from line (subst (λ (l : LaneState). slice_get l.lines c.args.dst ≡ Some line) c.self.view_is at_it))

pub invariant_of-self : goal.invariant_of-self
invariant_of-self c =
    let was : LaneState = the_view c.self.inside in
    let before = c.self.invariant in
    let line = c.index_mut.result.now in
    let new : LineOf = record { opened = line.opened; entered = line.entered; count = c.allocate.new.self } in
    let at_it = here was c.args.self.now c.args.dst line c.self.view_is before.0 c.requires.destination c.index_mut.ensures.value in
    let changes : AllocatesSlots c.args.n line new =
    record { opened = refl; entered = refl; count = record { demanded = c.allocate.ensures.demanded; allocated = c.allocate.ensures.allocated; acknowledged = c.allocate.ensures.acknowledged; lost = c.allocate.ensures.lost } } in
    let become = allocates_at was c.args.dst c.args.batch c.args.n line new c.if-batch-self.true at_it changes in
    let past : c.args.batch < was.round = subst (λ (l : LaneState). c.args.batch < l.round) (sym c.self.view_is) c.requires.recorded in (
      sound-allocated was (set was.lines c.args.dst new) c.args.dst c.args.batch c.args.n become before.0,
      (
        before.1.0,
        record { dst = c.args.dst; batch = c.args.batch; slots = c.args.n } ∷ before.1.1,
        stands-allocated was (set was.lines c.args.dst new) c.args.dst c.args.batch c.args.n before.1.0 before.1.1 past become before.1.2,
        before.1.3,
      ),
      marked-allocated (counted was.last_reset c.args.dst c.args.batch c.args.n) c.self.inside.risen was.lines (set was.lines c.args.dst new) become before.2,
    )

pub returns-then-batch-self-clause-stands : goal.returns-then-batch-self-clause-stands
returns-then-batch-self-clause-stands c = λ history allocations stands.
    let was : LaneState = the_view c.self.inside in
    let before = c.self.invariant in
    let line = c.index_mut.result.now in
    let new : LineOf = record { opened = line.opened; entered = line.entered; count = c.allocate.new.self } in
    let at_it = here was c.args.self.now c.args.dst line c.self.view_is before.0 c.requires.destination c.index_mut.ensures.value in
    let changes : AllocatesSlots c.args.n line new =
    record { opened = refl; entered = refl; count = record { demanded = c.allocate.ensures.demanded; allocated = c.allocate.ensures.allocated; acknowledged = c.allocate.ensures.acknowledged; lost = c.allocate.ensures.lost } } in
    let become = allocates_at was c.args.dst c.args.batch c.args.n line new c.if-batch-self.true at_it changes in
    let past : c.args.batch < was.round = subst (λ (l : LaneState). c.args.batch < l.round) (sym c.self.view_is) c.requires.recorded in
    stands-allocated was (set was.lines c.args.dst new) c.args.dst c.args.batch c.args.n history allocations past become (subst (λ (l : LaneState). LaneStandsFor l history allocations) (sym c.self.view_is) stands)
