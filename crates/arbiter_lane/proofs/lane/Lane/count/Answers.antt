use Rattle.std.proofs.Common.{◌≡◌, ◌<◌, ℕ, List, get_or, Some, slice_get, sym, ◌∙◌, ap, subst, refl, arith}
use Rattle.std.proofs.lemmas.Bool.{false≢true}
use Rattle.std.proofs.lemmas.Option.{slice_get-get_or, get_or_from_slice_get}
use Rattle.arbiter_lane.specs.declared.line.LaneLine.{LaneLine as LineOf}
use Rattle.endpoint_history.specs.CountLaws.{CountsAddUp}
use Rattle.endpoint_history.specs.Counts.{Allocation}
use Rattle.endpoint_history.specs.Lane.{LaneHistory}
use Rattle.arbiter_lane.specs.Standing.{LaneStandsFor, FlowIsWithinLedger}
use Rattle.arbiter_lane.specs.State.{LaneState, IsSoundLane}
use Rattle.arbiter_lane.specs.contracts.lane.Lane.{the_view}
use Rattle.arbiter_lane.proofs.Held.{told-is-owed}
use Rattle.arbiter_lane.proofs.lane.Lane.count.Goals as goal

-- the line that is read
read_line : (was now : LaneState) (dst : ℕ) (line : LineOf) → was ≡ now → IsSoundLane was → dst < now.endpoints → line ≡ get_or was.lines dst line → slice_get now.lines dst ≡ Some line
read_line was now dst line view_is sound within is =
    let endpoints = ap (λ (l : LaneState). l.endpoints) view_is in
    let as_many = sound.as_many in
    subst (λ (l : LaneState). slice_get l.lines dst ≡ Some line) view_is (slice_get-get_or was.lines dst line (omega (arith, within, endpoints, as_many)) ∙ ap Some (sym is))

-- what is told to it is owed
read_told : CountsAddUp → (was now : LaneState) (dst : ℕ) (line : LineOf) → was ≡ now → IsSoundLane was → slice_get now.lines dst ≡ Some line →
    (history : LaneHistory) (allocations : List Allocation) → LaneStandsFor now history allocations → FlowIsWithinLedger now.g history allocations dst
read_told sums was now dst line view_is sound here history allocations stands =
    told-is-owed sums now (subst IsSoundLane view_is sound) history allocations dst line here stands

pub returns-then-line-clause-opened : goal.returns-then-line-clause-opened
returns-then-line-clause-opened c = λ history allocations stands.
    let here = read_line (the_view c.self.inside) c.args.self.now c.args.dst c.index-line.result.now c.self.view_is c.self.invariant.0 c.requires c.index-line.ensures in
    ((λ _. sym (stands.flows c.args.dst c.index-line.result.now here).opened ∙ c.if-line.true), (λ _. refl))

pub returns-then-line-clause-line : goal.returns-then-line-clause-line
returns-then-line-clause-line c = λ line there.
    let here = read_line (the_view c.self.inside) c.args.self.now c.args.dst c.index-line.result.now c.self.view_is c.self.invariant.0 c.requires c.index-line.ensures in
    ap (λ (l : LineOf). l.count)
    (sym (get_or_from_slice_get c.args.self.now.lines c.args.dst c.index-line.result.now line here) ∙ get_or_from_slice_get c.args.self.now.lines c.args.dst line line there)

pub returns-then-line-clause-counts : goal.returns-then-line-clause-counts
returns-then-line-clause-counts c = λ history allocations stands.
    let here = read_line (the_view c.self.inside) c.args.self.now c.args.dst c.index-line.result.now c.self.view_is c.self.invariant.0 c.requires c.index-line.ensures in
    let flow = stands.flows c.args.dst c.index-line.result.now here in
    (flow.demanded, flow.allocated, flow.acknowledged, flow.lost)

pub returns-else-line-clause-opened : goal.returns-else-line-clause-opened
returns-else-line-clause-opened c = λ history allocations stands.
    let here = read_line (the_view c.self.inside) c.args.self.now c.args.dst c.index-line.result.now c.self.view_is c.self.invariant.0 c.requires c.index-line.ensures in
    let none = sym (stands.flows c.args.dst c.index-line.result.now here).opened ∙ c.if-line.false in
    ((λ h. absurd (false≢true h)), (λ h. absurd (false≢true (sym none ∙ h))))

pub returns-then-line-clause-told : goal.returns-then-line-clause-told
returns-then-line-clause-told c =
    let here = read_line (the_view c.self.inside) c.args.self.now c.args.dst c.index-line.result.now c.self.view_is c.self.invariant.0 c.requires c.index-line.ensures in
    read_told c.lanes_count_slots.ensures.sums (the_view c.self.inside) c.args.self.now c.args.dst c.index-line.result.now c.self.view_is c.self.invariant.0 here

pub returns-else-line-clause-told : goal.returns-else-line-clause-told
returns-else-line-clause-told c =
    let here = read_line (the_view c.self.inside) c.args.self.now c.args.dst c.index-line.result.now c.self.view_is c.self.invariant.0 c.requires c.index-line.ensures in
    read_told c.lanes_count_slots.ensures.sums (the_view c.self.inside) c.args.self.now c.args.dst c.index-line.result.now c.self.view_is c.self.invariant.0 here
