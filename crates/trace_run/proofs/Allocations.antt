-- What the lanes are told of the slots that are published.
use Rattle.std.proofs.Common.{◌≡◌, ◌<◌, ◌≤◌, ◌+◌, ◌*◌, ◌==◌, ◌&&◌, ℕ, suc, List, [], ◌∷◌, ◌++◌, length, map, drop, cond, nat_lt, Bool, true, false, All, refl, sym, ap, ◌∙◌, subst, inl, inr, arith, mul-le-mul_right}
use Rattle.std.specs.Prelude.{nat_le}
use Rattle.std.proofs.Math.Seq.{drop-append_seam}
use Rattle.std.proofs.lemmas.Bool.{cases_eq, cases_lt, eq-eqb, ne_eqb, lt-leb, le-leb, lt-ltb, le-ltb}
use Rattle.std.proofs.lemmas.List.{length-drop}
use Rattle.std.proofs.lemmas.List.Sums.{sum_by-cons, count_by-le-length}
use Rattle.std.proofs.lemmas.List.Folds.{list_any_none}
use Rattle.std.proofs.lemmas.List.Elements.{All-drop, All-head, All-tail}
use Rattle.list_facts.proofs.Bools.{cond-same}
use Rattle.greedy_rules.specs.declared.flows.Flow.{Flow}
use Rattle.greedy_rules.specs.Batches.{DemandBatch, entry_of}
use Rattle.greedy_rules.specs.Demands.{need_with}
use Rattle.greedy_rules.specs.Slot.{has_flow}
use Rattle.greedy_rules.specs.SlotTable.{IsSlotOf}
use Rattle.greedy_rules.specs.Matching.{EverySlotIsInRange}
use Rattle.greedy_rules.specs.Allocation.{slots_of}
use Rattle.greedy_rules.specs.Schedule.{schedule}
use Rattle.greedy_rules.specs.Cells.{flow_of}
use Rattle.endpoint_history.specs.Lane.{last_reset}
use Rattle.endpoint_history.specs.Counts.{Allocation, owed}
use Rattle.endpoint_history.specs.Rest.{need_through}
use Rattle.trace_run.specs.Run.{Setting, replayed}
use Rattle.trace_run.specs.Histories.{lane_after}
use Rattle.trace_run.specs.Windows.{batch_at}
use Rattle.trace_run.specs.Applicable.{EveryRunIsApplicable, EverySlotIsOfTheRun}
use Rattle.trace_run.specs.Rest.{allocated_from, allocated_in_batch, left_after, need_after, OwedIsAllocatedOrLeft, PublishedIsPending}
use Rattle.trace_run.specs.Counts.{ToldIsAllocated}
use Rattle.trace_run.specs.Sends.{ToldIsOwedInEachRound}
use Rattle.trace_run.specs.Allocations.{since, OneFlowMore, AFlowWithoutSlots, ABatchMore, NeedsAreOwed, AllocationIsPending}
use Rattle.trace_run.specs.Premises.{Schedules}
use Rattle.trace_run.proofs.Fronts.{length-schedule, run_length}
use Rattle.trace_run.proofs.Rest.{one_batch_more}

-- the batches are all before this one
pub none_from : (s : Schedules) (setting : Setting) (allocated reset src dst : ℕ) → allocated ≤ reset → allocated_from setting allocated reset src dst ≡ 0
none_from s setting allocated reset src dst past =
    let flow : Flow = flow_of src dst in
    let b : ℕ = setting.b in
    let all : List (List Flow) = schedule b (replayed setting allocated).batches in
    let size : length all ≡ allocated * b = length-schedule s b (replayed setting allocated).batches ∙ ap (λ (n : ℕ). n * b) (run_length setting allocated) in
    let far : allocated * b ≤ reset * b = mul-le-mul_right b past in
    let fewer = length-drop (reset * b) all in
    let count = count_by-le-length (λ (slot : List Flow). has_flow slot flow) (drop (reset * b) all) in
    omega arith

-- one batch more, whether it is counted or not
batch_counted : (s : Schedules) (setting : Setting) (batches rounds reset src dst : ℕ) → batches < rounds →
    allocated_from setting (batches + 1) reset src dst
    ≡ allocated_from setting batches reset src dst + cond (nat_le reset batches) (allocated_in_batch setting batches rounds src dst) 0
batch_counted s setting batches rounds reset src dst below =
    let on : suc batches ≡ batches + 1 = omega arith in
    let there = ap (λ (n : ℕ). allocated_from setting n reset src dst) on in
    elim (cases_lt batches reset) [
      | inr kept ↦
          let more = one_batch_more s setting batches rounds reset src dst below kept in
          rw (le-leb reset batches kept) (omega arith)
      | inl past ↦
          let none = none_from s setting batches reset src dst (omega arith) in
          let none_more = none_from s setting (batches + 1) reset src dst (omega arith) in
          rw (lt-leb reset batches past) (omega arith)
    ]

-- for another flow nothing changes
other_flow : (setting : Setting) (batches src dst batch to : ℕ) (n : ℕ) → (dst ≡ to → ⊥) →
    n ≡ allocated_from setting (cond (nat_lt to dst) (batches + 1) batches) batch src to →
    n ≡ allocated_from setting (cond (nat_lt to (dst + 1)) (batches + 1) batches) batch src to
other_flow setting batches src dst batch to n other before =
    let same : nat_lt to (dst + 1) ≡ nat_lt to dst = elim (cases_lt to dst) [
      | inl less ↦ lt-ltb to (dst + 1) (omega arith) ∙ sym (lt-ltb to dst less)
      | inr more ↦ le-ltb to (dst + 1) (omega arith) ∙ sym (le-ltb to dst more)
    ] in
    rw same before

pub one_flow_more : Schedules → OneFlowMore
one_flow_more s setting batches rounds src dst allocations below are batch to low =
    let a : Allocation = record { dst = dst; batch = batches; slots = allocated_in_batch setting batches rounds src dst } in
    let push = sum_by-cons (λ (x : Allocation). cond (x.dst == to && nat_le batch x.batch) x.slots 0) a allocations in
    let before = are batch to low in
    elim (cases_eq dst to) [
      | inr other ↦
          let skip = ap (λ (c : Bool). cond {A = ℕ} (c && nat_le batch batches) a.slots 0) (ne_eqb dst to other) in
          let stays = other_flow setting batches src dst batch to (since batch allocations to) other before in
          omega arith
      | inl here ↦
          let counted = batch_counted s setting batches rounds batch src dst below in
          let its = ap (λ (c : Bool). cond {A = ℕ} (c && nat_le batch batches) a.slots 0) (eq-eqb dst to here) in
          let was : since batch allocations to ≡ allocated_from setting batches batch src to = before ∙ ap (λ (c : Bool). allocated_from setting (cond c (batches + 1) batches) batch src to) (le-ltb to dst (omega arith)) in
          let same = ap (λ (d : ℕ). allocated_from setting batches batch src d) here in
          let same_more = ap (λ (d : ℕ). allocated_from setting (batches + 1) batch src d) here in
          rw (lt-ltb to (dst + 1) (omega arith)) (omega arith)
    ]

pub a_flow_without_slots : Schedules → AFlowWithoutSlots
a_flow_without_slots s setting batches rounds src dst allocations below are none batch to low =
    let before = are batch to low in
    elim (cases_eq dst to) [
      | inr other ↦ other_flow setting batches src dst batch to (since batch allocations to) other before
      | inl here ↦
          let counted = batch_counted s setting batches rounds batch src dst below in
          let nothing : cond {A = ℕ} (nat_le batch batches) (allocated_in_batch setting batches rounds src dst) 0 ≡ 0 =
          ap (λ (n : ℕ). cond {A = ℕ} (nat_le batch batches) n 0) none ∙ cond-same (nat_le batch batches) 0 in
          let was : since batch allocations to ≡ allocated_from setting batches batch src to = before ∙ ap (λ (c : Bool). allocated_from setting (cond c (batches + 1) batches) batch src to) (le-ltb to dst (omega arith)) in
          let same = ap (λ (d : ℕ). allocated_from setting batches batch src d) here in
          let same_more = ap (λ (d : ℕ). allocated_from setting (batches + 1) batch src d) here in
          rw (lt-ltb to (dst + 1) (omega arith)) (omega arith)
    ]

pub a_batch_more : ABatchMore
a_batch_more setting batches src allocations are batch dst low =
    are batch dst low ∙ ap (λ (c : Bool). allocated_from setting (cond c (batches + 1) batches) batch src dst) (lt-ltb dst setting.endpoints low)
    ∙ sym (ap (λ (c : Bool). allocated_from setting (cond c (batches + 1 + 1) (batches + 1)) batch src dst) (le-ltb dst 0 (omega arith)))

pub needs_are_owed : OwedIsAllocatedOrLeft → NeedsAreOwed
needs_are_owed owed_is setting rounds src dst low high =
    let flow : Flow = flow_of src dst in
    let front = (replayed setting rounds).batches in
    let last : DemandBatch = batch_at setting rounds in
    let is = owed_is setting rounds (suc rounds) src dst (omega arith) low high in
    let later : drop rounds (front ++ last ∷ []) ≡ last ∷ [] = ap (λ (n : ℕ). drop n (front ++ last ∷ [])) (sym (run_length setting rounds)) ∙ drop-append_seam front (last ∷ []) in
    let need : need_after setting rounds (suc rounds) src dst ≡ need_with (entry_of last.entries flow) (left_after setting rounds src dst) =
    ap (λ (xs : List DemandBatch). need_through (map (λ (x : DemandBatch). entry_of x.entries flow) xs) (left_after setting rounds src dst)) later in
    let on : suc rounds ≡ rounds + 1 = omega arith in
    subst (λ (n : ℕ). need_with (entry_of last.entries flow) (left_after setting rounds src dst) ≤ owed setting.g (lane_after setting n src) dst) on (omega arith)

pub every_slot_is_of_the_run : EverySlotIsInRange → EveryRunIsApplicable → EverySlotIsOfTheRun
every_slot_is_of_the_run in_range applicable setting rounds = in_range setting.endpoints setting.b (replayed setting rounds).batches (applicable setting rounds).among

-- no slot has a flow beyond the endpoints
none_beyond : (endpoints : ℕ) (flow : Flow) (slots : List (List Flow)) → endpoints ≤ flow.dst → All (IsSlotOf endpoints) slots → slots_of flow slots ≡ 0
none_beyond endpoints flow [] beyond are = refl
none_beyond endpoints flow (slot ∷ slots) beyond are =
    let here = All-head (IsSlotOf endpoints) slot slots are in
    let rest = none_beyond endpoints flow slots beyond (All-tail (IsSlotOf endpoints) slot slots are) in
    let push = sum_by-cons (λ (s : List Flow). cond (has_flow s flow) 1 0) slot slots in
    let none : has_flow slot flow ≡ false = list_any_none (λ (f : Flow). (f.src == flow.src) && (f.dst == flow.dst)) slot
    (λ k d below. let is = here.in_range k d below in and_false _ _ (ne_eqb _ flow.dst (λ same. let low = is.1 in absurd (omega arith)))) in
    let nothing : cond {A = ℕ} (has_flow slot flow) 1 0 ≡ 0 = ap (λ (c : Bool). cond {A = ℕ} c 1 0) none in
    omega arith
  where
    and_false : (a b : Bool) → b ≡ false → a && b ≡ false
    and_false true b h = h
    and_false false b h = refl

pub told_is_owed_in_each_round : OwedIsAllocatedOrLeft → ToldIsAllocated → EverySlotIsOfTheRun → ToldIsOwedInEachRound
told_is_owed_in_each_round owed_is told_is in_run setting some rounds src low dst =
    let told_yet = told_is setting some rounds rounds src dst (omega arith) in
    elim (cases_lt dst setting.endpoints) [
      | inl high ↦ let is = owed_is setting rounds rounds src dst (omega arith) low high in omega arith
      | inr beyond ↦
          let all : List (List Flow) = schedule setting.b (replayed setting rounds).batches in
          let reset : ℕ = last_reset (lane_after setting rounds src) in
          let none = none_beyond setting.endpoints (flow_of src dst) (drop (reset * setting.b) all) beyond (All-drop (IsSlotOf setting.endpoints) (reset * setting.b) all (in_run setting rounds)) in
          omega arith
    ]

pub allocation_is_pending : PublishedIsPending → AllocationIsPending
allocation_is_pending pending setting batches rounds src dst allocations below low high are kept =
    let reset : ℕ = last_reset (lane_after setting rounds src) in
    let is = pending setting batches rounds src dst below low high kept in
    let so_far : since reset allocations dst ≡ allocated_from setting batches reset src dst =
    are reset dst high ∙ ap (λ (c : Bool). allocated_from setting (cond c (batches + 1) batches) reset src dst) (le-ltb dst dst (omega arith)) in
    omega arith
