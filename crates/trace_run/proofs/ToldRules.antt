-- What the lanes are handed keeps the rules of packets.
use Rattle.std.proofs.Common.{◌≡◌, ◌≢◌, ◌<◌, ◌≤◌, ◌+◌, ◌-◌, ◌*◌, ◌==◌, ℕ, zero, suc, List, [], ◌∷◌, ◌++◌, length, map, drop, cond, Bool, true, false, IsTrue, Option, Some, None, All, refl, sym, ap, ◌∙◌, subst, inl, inr, arith}
use Rattle.std.specs.Prelude.{nat_le, option_map}
use Rattle.std.specs.List.{find, slice_index}
use Rattle.std.specs.List.Sorted.{IsStrictlyIncreasing}
use Rattle.std.proofs.lemmas.Bool.{cases_Bool, eq-eqb, eqb-true}
use Rattle.std.proofs.lemmas.List.{length-take}
use Rattle.std.proofs.lemmas.List.Elements.{All-nil, All-cons, All-head, All-tail, All-take, All-drop}
use Rattle.fcp_framing.specs.declared.packet.Told.{Told}
use Rattle.fcp_framing.specs.Spelling.{IsCore}
use Rattle.greedy_rules.specs.declared.flows.Flow.{Flow}
use Rattle.greedy_rules.specs.Batches.{DemandBatch}
use Rattle.greedy_rules.specs.SlotTable.{destination_of}
use Rattle.greedy_rules.specs.Schedule.{first_slot, schedule}
use Rattle.greedy_rules.specs.Cells.{flow_of}
use Rattle.endpoint_history.specs.Tellings.{RisesFrom}
use Rattle.trace_run.specs.Run.{Setting, slots_in_batch, told_at, slots_told_from, told_of, replayed}
use Rattle.trace_run.specs.Applicable.{EverySlotIsOfTheRun}
use Rattle.trace_run.specs.Recorded.{KeepsTraceRules}
use Rattle.trace_run.specs.Told.{AreOfBatch, WhatIsToldIsOfABatch}
use Rattle.trace_run.specs.Premises.{Schedules}
use Rattle.trace_run.proofs.Apart.{AreApart, is_other, other_flows}
use Rattle.trace_run.proofs.ToldOf.{told_in-rises}

-- what holds of all flows of a slot holds of the one that the source has
of_source : (P : Flow → Type 0) (slot : List Flow) (endpoint dst : ℕ) → All P slot → destination_of slot endpoint ≡ Some dst → P (flow_of endpoint dst)
of_source P [] endpoint dst all is = absurd (cc)
of_source P (flow ∷ slot) endpoint dst all is = elim (cases_Bool (flow.src == endpoint)) [
  | inl its ↦
      let found : Some flow.dst ≡ Some dst = sym (ap (λ (b : Bool). option_map (λ (f : Flow). f.dst) (cond b (Some flow) (find (λ (f : Flow). f.src == endpoint) slot))) its) ∙ is in
      let to : flow.dst ≡ dst = cc in
      let same : flow ≡ flow_of endpoint dst = ap (λ (s : ℕ). flow_of s flow.dst) (eqb-true flow.src endpoint its) ∙ ap (λ (d : ℕ). flow_of endpoint d) to in
      subst P same (All-head P flow slot all)
  | inr other ↦
      of_source P slot endpoint dst (All-tail P flow slot all)
      (sym (ap (λ (b : Bool). option_map (λ (f : Flow). f.dst) (cond b (Some flow) (find (λ (f : Flow). f.src == endpoint) slot))) other) ∙ is)
]

-- what holds of each slot in which the endpoint sends holds of all that it is told
each_told : (Q : Told → Type 0) (P : List Flow → Type 0) (core : ℕ → ℕ) (endpoint offset : ℕ) (slots : List (List Flow)) → All P slots →
    ((place : ℕ) (slot : List Flow) (dst : ℕ) → offset ≤ place → place < offset + length slots → P slot → destination_of slot endpoint ≡ Some dst → Q (record { offset = place; core = core place; dst = dst })) →
    All Q (slots_told_from core endpoint offset slots)
each_told Q P core endpoint offset [] all each = All-nil Q
each_told Q P core endpoint offset (slot ∷ slots) all each =
    one (destination_of slot endpoint) refl
    (each_told Q P core endpoint (offset + 1) slots (All-tail P slot slots all) (λ place s dst low high holds is. each place s dst (omega arith) (omega arith) holds is))
  where
    one : (o : Option ℕ) → destination_of slot endpoint ≡ o → All Q (slots_told_from core endpoint (offset + 1) slots) → All Q (told_at offset (core offset) o ++ slots_told_from core endpoint (offset + 1) slots)
    one None is rest = rest
    one (Some dst) is rest = All-cons Q (record { offset = offset; core = core offset; dst = dst }) (slots_told_from core endpoint (offset + 1) slots) (each offset slot dst (omega arith) (omega arith) (All-head P slot slots all) is) rest

few_told : (core : ℕ → ℕ) (endpoint offset : ℕ) (slots : List (List Flow)) → length (slots_told_from core endpoint offset slots) ≤ length slots
few_told core endpoint offset [] = omega arith
few_told core endpoint offset (slot ∷ slots) = one (destination_of slot endpoint) (few_told core endpoint (offset + 1) slots)
  where
    one : (o : Option ℕ) → length (slots_told_from core endpoint (offset + 1) slots) ≤ length slots → length (told_at offset (core offset) o ++ slots_told_from core endpoint (offset + 1) slots) ≤ suc (length slots)
    one None rest = omega arith
    one (Some dst) rest = omega arith

increases : (low : ℕ) (told : List Told) → RisesFrom low told → IsStrictlyIncreasing (map (λ (t : Told). t.offset) told)
increases low [] rises k below = absurd (omega arith)
increases low (t ∷ []) rises k below = absurd (omega arith)
increases low (t ∷ (u ∷ told)) rises zero below = let next = rises.1.0 in omega arith
increases low (t ∷ (u ∷ told)) rises (suc k) below =
    let offsets : List ℕ = map (λ (x : Told). x.offset) (t ∷ (u ∷ told)) in
    let on : suc (k + 1) ≡ suc k + 1 = omega arith in
    subst (λ (n : ℕ). slice_index offsets (suc k) < slice_index offsets n) on (increases (t.offset + 1) (u ∷ told) rises.1 k (omega arith))

-- a slot whose flows are between the endpoints, none to its own source
record IsFair (endpoints : ℕ) (slot : List Flow) : Type 0 where
  within : All (λ (f : Flow). (f.src < endpoints) × (f.dst < endpoints)) slot
  other : All (λ (f : Flow). IsTrue (is_other f)) slot

differ : (f : Flow) → IsTrue (is_other f) → f.dst ≢ f.src
differ f other same = let is = rw (eq-eqb f.src f.dst (sym same)) at other in absurd (cc)

of_slots : (endpoints b endpoint : ℕ) (core : ℕ → ℕ) (slots : List (List Flow)) → ((place : ℕ) → IsCore (core place)) → length slots ≤ b → All (IsFair endpoints) slots →
    RisesFrom 0 (slots_told_from core endpoint 0 slots) → AreOfBatch endpoints b endpoint (slots_told_from core endpoint 0 slots)
of_slots endpoints b endpoint core slots cores long fair rises =
    record {
      few = let few = few_told core endpoint 0 slots in omega arith;
      rising = increases 0 (slots_told_from core endpoint 0 slots) rises;
      offsets = each_told (λ (t : Told). t.offset < b) (IsFair endpoints) core endpoint 0 slots fair (λ place slot dst low high holds is. omega arith);
      cores = each_told (λ (t : Told). IsCore t.core) (IsFair endpoints) core endpoint 0 slots fair (λ place slot dst low high holds is. cores place);
      destinations = each_told (λ (t : Told). t.dst < endpoints) (IsFair endpoints) core endpoint 0 slots fair
          (λ place slot dst low high holds is. (of_source (λ (f : Flow). (f.src < endpoints) × (f.dst < endpoints)) slot endpoint dst holds.within is).1);
      others = each_told (λ (t : Told). t.dst ≢ endpoint) (IsFair endpoints) core endpoint 0 slots fair
          (λ place slot dst low high holds is. differ (flow_of endpoint dst) (of_source (λ (f : Flow). IsTrue (is_other f)) slot endpoint dst holds.other is));
    }

pub what_is_told_is_of_a_batch : Schedules → EverySlotIsOfTheRun → ((setting : Setting) (rounds all : ℕ) → rounds ≤ all → KeepsTraceRules setting all → AreApart (replayed setting rounds).batches) → WhatIsToldIsOfABatch
what_is_told_is_of_a_batch s in_run apart setting rounds all endpoint within trace cores =
    let batches : List DemandBatch = (replayed setting rounds).batches in
    let k : ℕ = rounds - 2 * setting.g in
    let whole : List (List Flow) = schedule setting.b batches in
    let others = other_flows s.flows setting.b batches (apart setting rounds all within trace) in
    let fair : All (IsFair setting.endpoints) whole = λ i d below. record { within = (in_run setting rounds i d below).in_range; other = others i d below } in
    let long = length-take setting.b (drop (k * setting.b) whole) in
    either (nat_le (2 * setting.g) rounds) (told_in-rises setting batches rounds endpoint)
    (λ rises. of_slots setting.endpoints setting.b endpoint (λ offset. setting.cores (first_slot setting.b k + offset) endpoint) (slots_in_batch setting.b k batches)
    (λ place. cores (first_slot setting.b k + place) endpoint) (omega arith)
    (All-take (IsFair setting.endpoints) setting.b (drop (k * setting.b) whole) (All-drop (IsFair setting.endpoints) (k * setting.b) whole fair)) rises)
  where
    either : (late : Bool) → RisesFrom 0 (cond late (told_of setting (replayed setting rounds).batches (rounds - 2 * setting.g) endpoint) []) →
        (RisesFrom 0 (told_of setting (replayed setting rounds).batches (rounds - 2 * setting.g) endpoint) → AreOfBatch setting.endpoints setting.b endpoint (told_of setting (replayed setting rounds).batches (rounds - 2 * setting.g) endpoint)) →
        AreOfBatch setting.endpoints setting.b endpoint (cond late (told_of setting (replayed setting rounds).batches (rounds - 2 * setting.g) endpoint) [])
    either true rises of = of rises
    either false rises of = record {
      few = omega arith;
      rising = λ j below. absurd (omega arith);
      offsets = All-nil (λ (t : Told). t.offset < setting.b);
      cores = All-nil (λ (t : Told). IsCore t.core);
      destinations = All-nil (λ (t : Told). t.dst < setting.endpoints);
      others = All-nil (λ (t : Told). t.dst ≢ endpoint);
    }
