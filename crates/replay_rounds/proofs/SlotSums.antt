-- How often a flow is among the first slots of a schedule, and what a lane's allocations sum to.
use Rattle.std.proofs.Common.{◌≡◌, ◌<◌, ◌≤◌, ◌+◌, ◌-◌, ◌*◌, ◌/◌, ◌==◌, ◌&&◌, ◌||◌, ℕ, List, [], ◌∷◌, take, drop, cond, Bool, true, false, Option, Some, None, find, All, refl, sym, ap, ◌∙◌, subst, inl, inr, arith}
use Rattle.std.specs.Prelude.{nat_le}
use Rattle.std.specs.List.{sum_by}
use Rattle.std.specs.Option.{option_map}
use Rattle.std.proofs.lemmas.Bool.{cond-true, cond-false, cases_lt, cases_eq, eq-eqb, ne_eqb, le-leb, lt-leb}
use Rattle.std.proofs.lemmas.Option.{same_Some, none-some}
use Rattle.std.proofs.lemmas.List.{take-take, length-take, drop_all}
use Rattle.std.proofs.lemmas.List.Sums.{sum_by-cons, sum_by-take-le, sum_by-take-drop}
use Rattle.std.proofs.lemmas.List.Elements.{All-head, All-tail, All-weaker}
use Rattle.std.proofs.lemmas.List.Folds.{list_any_none}
use Rattle.std.proofs.lemmas.Nat.{le-div, div_below}
use Rattle.std.proofs.Math.Bool.{or-false}
use Rattle.greedy_rules.specs.declared.flows.Flow.{Flow}
use Rattle.greedy_rules.specs.Flows.{same_flow}
use Rattle.greedy_rules.specs.Slot.{has_flow}
use Rattle.greedy_rules.specs.SlotTable.{destination_of}
use Rattle.greedy_rules.specs.Cells.{flow_of}
use Rattle.greedy_rules.proofs.SlotSources.{Rises}
use Rattle.list_facts.proofs.Pairs.{AllPairs-head, AllPairs-tail}
use Rattle.list_facts.proofs.Bools.{cond-same}
use Rattle.endpoint_history.specs.Counts.{Allocation}
use Rattle.trace_run.specs.Allocations.{since}
use Rattle.replay_rounds.specs.Publishing.{with_slot}

-- ---- sums over the first items

pub front_grows : {X : Type 0} (weight : X → ℕ) (xs : List X) (k n : ℕ) → k ≤ n → sum_by weight (take k xs) ≤ sum_by weight (take n xs)
front_grows weight xs k n le =
    let first : sum_by weight (take k (take n xs)) ≡ sum_by weight (take k xs) = ap (sum_by weight) (take-take k n xs le) in
    let fewer = sum_by-take-le weight (take n xs) k in
    omega arith

-- those after k of the first n
pub between : {X : Type 0} (weight : X → ℕ) (xs : List X) (k n : ℕ) → sum_by weight (drop k (take n xs)) ≡ sum_by weight (take n xs) - sum_by weight (take k xs)
between weight xs k n =
    elim (cases_lt n k) [
      | inl past ↦
          let none : sum_by weight (drop k (take n xs)) ≡ 0 = ap (sum_by weight) (drop_all k (take n xs) (omega (arith, length-take n xs))) in
          let grows = front_grows weight xs n k (omega arith) in
          omega arith
      | inr within ↦
          let first : sum_by weight (take k (take n xs)) ≡ sum_by weight (take k xs) = ap (sum_by weight) (take-take k n xs within) in
          let parts = sum_by-take-drop weight (take n xs) k in
          omega arith
    ]

-- ---- a source's flow in a slot

abbrev pub goes_to : Option ℕ → ℕ → Bool
goes_to None dst = false
goes_to (Some to) dst = to == dst

other_source : (f : Flow) (src dst : ℕ) → (f.src == src) ≡ false → same_flow f (flow_of src dst) ≡ false
other_source f src dst other = ap (λ (c : Bool). c && (f.dst == dst)) other

this_source : (f : Flow) (src dst : ℕ) → (f.src == src) ≡ true → same_flow f (flow_of src dst) ≡ (f.dst == dst)
this_source f src dst same = ap (λ (c : Bool). c && (f.dst == dst)) same

none_above : (slot : List Flow) (src dst : ℕ) → All (λ f. src < f.src) slot → has_flow slot (flow_of src dst) ≡ false
none_above slot src dst above =
    list_any_none (λ (f : Flow). same_flow f (flow_of src dst)) slot (All-weaker (λ f. src < f.src) (λ f. same_flow f (flow_of src dst) ≡ false) (λ f lt. other_source f src dst (ne_eqb f.src src (λ same. omega arith))) slot above)

-- a slot has the flow that its source's destination tells
pub flow_goes : (slot : List Flow) (src dst : ℕ) → Rises slot → has_flow slot (flow_of src dst) ≡ goes_to (destination_of slot src) dst
flow_goes [] src dst rises = refl
flow_goes (f ∷ slot) src dst rises =
    let later : All (λ g. f.src < g.src) slot = AllPairs-head (λ f g. f.src < g.src) f slot rises in
    let rest = flow_goes slot src dst (AllPairs-tail (λ f g. f.src < g.src) f slot rises) in
    elim (cases_eq f.src src) [
      | inl here ↦
          let same : (f.src == src) ≡ true = eq-eqb f.src src here in
          let goes : destination_of (f ∷ slot) src ≡ Some f.dst =
          ap (option_map (λ (g : Flow). g.dst)) (cond-true (f.src == src) (Some f) (find (λ (g : Flow). g.src == src) slot) same) in
          let none : has_flow slot (flow_of src dst) ≡ false = none_above slot src dst (subst (λ (n : ℕ). All (λ g. n < g.src) slot) here later) in
          ap (λ (c : Bool). c || has_flow slot (flow_of src dst)) (this_source f src dst same)
          ∙ (ap (λ (c : Bool). (f.dst == dst) || c) none
          ∙ (or-false (f.dst == dst)
          ∙ sym (ap (λ (o : Option ℕ). goes_to o dst) goes)))
      | inr there ↦
          let other : (f.src == src) ≡ false = ne_eqb f.src src there in
          let goes : destination_of (f ∷ slot) src ≡ destination_of slot src =
          ap (option_map (λ (g : Flow). g.dst)) (cond-false (f.src == src) (Some f) (find (λ (g : Flow). g.src == src) slot) other) in
          ap (λ (c : Bool). c || has_flow slot (flow_of src dst)) (other_source f src dst other)
          ∙ (rest ∙ sym (ap (λ (o : Option ℕ). goes_to o dst) goes))
    ]

-- which is below the endpoints
pub sent_within : (endpoints : ℕ) (slot : List Flow) (src dst : ℕ) → All (λ f. (f.src < endpoints) × (f.dst < endpoints)) slot → destination_of slot src ≡ Some dst → dst < endpoints
sent_within endpoints [] src dst within goes = absurd (none-some dst goes)
sent_within endpoints (f ∷ slot) src dst within goes =
    let P : Flow → Type 0 = λ g. (g.src < endpoints) × (g.dst < endpoints) in
    let first : P f = All-head P f slot within in
    elim (cases_eq f.src src) [
      | inl here ↦
          let to : f.dst ≡ dst = same_Some f.dst dst (sym (ap (option_map (λ (g : Flow). g.dst)) (cond-true (f.src == src) (Some f) (find (λ (g : Flow). g.src == src) slot) (eq-eqb f.src src here))) ∙ goes) in
          let low = first.1 in
          omega arith
      | inr there ↦
          sent_within endpoints slot src dst (All-tail P f slot within)
          (sym (ap (option_map (λ (g : Flow). g.dst)) (cond-false (f.src == src) (Some f) (find (λ (g : Flow). g.src == src) slot) (ne_eqb f.src src there))) ∙ goes)
    ]

-- ---- allocations

-- one slot more counts from its batch on
pub since_more : (batch from dst : ℕ) (to : Option ℕ) (allocations : List Allocation) →
    since from (with_slot batch to allocations) dst ≡ since from allocations dst + cond (nat_le from batch) (cond (goes_to to dst) 1 0) 0
since_more batch from dst None allocations = omega (arith, cond-same {X = ℕ} (nat_le from batch) 0)
since_more batch from dst (Some to) allocations =
    let a : Allocation = record { dst = to; batch = batch; slots = 1 } in
    let push = sum_by-cons (λ (x : Allocation). cond (x.dst == dst && nat_le from x.batch) x.slots 0) a allocations in
    let both = nested (to == dst) (nat_le from batch) in
    omega arith
  where
    nested : (c d : Bool) → cond {A = ℕ} (c && d) 1 0 ≡ cond d (cond c 1 0) 0
    nested true true = refl
    nested true false = refl
    nested false true = refl
    nested false false = refl

-- the batch of a slot, by its place, is at least one whose first slot is not after it
pub batch_reached : (from size place : ℕ) → 0 < size → from * size ≤ place → nat_le from (place / size) ≡ true
batch_reached from size place some le = le-leb from (place / size) (le-div from place size some le)

pub batch_ahead : (from size place : ℕ) → 0 < size → place < from * size → nat_le from (place / size) ≡ false
batch_ahead from size place some lt = lt-leb from (place / size) (div_below place size from some lt)
