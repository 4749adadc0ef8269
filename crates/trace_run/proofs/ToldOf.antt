-- What an endpoint is told of slots.
use Rattle.std.proofs.Common.{◌≡◌, ◌<◌, ◌≤◌, ◌+◌, ◌-◌, ◌*◌, ◌==◌, ◌&&◌, ◌||◌, ℕ, suc, List, [], ◌∷◌, ◌++◌, length, get_or, drop, cond, Bool, true, false, Option, Some, None, refl, sym, ap, ◌∙◌, inl, inr, arith}
use Rattle.std.specs.Prelude.{nat_le, option_map}
use Rattle.std.specs.List.{find}
use Rattle.std.proofs.lemmas.Bool.{cases_Bool, cases_eq, eq-eqb, ne_eqb, eqb-true}
use Rattle.std.proofs.lemmas.List.{length-take}
use Rattle.std.proofs.lemmas.List.Sums.{sum_by-cons}
use Rattle.fcp_framing.specs.declared.packet.Told.{Told}
use Rattle.greedy_rules.specs.declared.flows.Flow.{Flow}
use Rattle.greedy_rules.specs.Flows.{same_flow}
use Rattle.greedy_rules.specs.Batches.{DemandBatch}
use Rattle.greedy_rules.specs.Slot.{has_flow}
use Rattle.greedy_rules.specs.SlotTable.{destination_of}
use Rattle.greedy_rules.specs.Allocation.{slots_of}
use Rattle.greedy_rules.specs.Schedule.{schedule}
use Rattle.greedy_rules.specs.Cells.{flow_of}
use Rattle.greedy_rules.proofs.CellLemmas.{is_same}
use Rattle.endpoint_history.specs.Packets.{slots_to}
use Rattle.endpoint_history.specs.Sending.{Slot}
use Rattle.endpoint_history.specs.Sending as sending
use Rattle.endpoint_history.specs.Tellings.{Among, SlotsAreWithin, RisesFrom}
use Rattle.endpoint_history.proofs.Sending.{count_by-cons}
use Rattle.trace_run.specs.Run.{Setting, slots_in_batch, told_at, slots_told_from, told_of, told_in}

from-within : (b : ℕ) (core : ℕ → ℕ) (endpoint offset : ℕ) (slots : List (List Flow)) → offset + length slots ≤ b → SlotsAreWithin b (slots_told_from core endpoint offset slots)
from-within b core endpoint offset [] fits = tt
from-within b core endpoint offset (slot ∷ slots) fits = one (destination_of slot endpoint) (from-within b core endpoint (offset + 1) slots (omega arith))
  where
    one : (o : Option ℕ) → SlotsAreWithin b (slots_told_from core endpoint (offset + 1) slots) → SlotsAreWithin b (told_at offset (core offset) o ++ slots_told_from core endpoint (offset + 1) slots)
    one None rest = rest
    one (Some dst) rest = (omega arith, rest)

from-rises : (core : ℕ → ℕ) (endpoint low offset : ℕ) (slots : List (List Flow)) → low ≤ offset → RisesFrom low (slots_told_from core endpoint offset slots)
from-rises core endpoint low offset [] above = tt
from-rises core endpoint low offset (slot ∷ slots) above =
    one (destination_of slot endpoint) (from-rises core endpoint low (offset + 1) slots (omega arith)) (from-rises core endpoint (offset + 1) (offset + 1) slots (omega arith))
  where
    one : (o : Option ℕ) → RisesFrom low (slots_told_from core endpoint (offset + 1) slots) → RisesFrom (offset + 1) (slots_told_from core endpoint (offset + 1) slots) →
        RisesFrom low (told_at offset (core offset) o ++ slots_told_from core endpoint (offset + 1) slots)
    one None skip rest = skip
    one (Some dst) skip rest = (above, rest)

-- each slot told is one in which the endpoint sends
pub record IsIn (b batch offset endpoint : ℕ) (slots : List (List Flow)) (s : Slot) : Type 0 where
  pub place : ℕ
  pub below : place < length slots
  pub is : s.slot ≡ batch * b + 1 + (offset + place)
  pub sends : destination_of (get_or slots place []) endpoint ≡ Some s.dst

from-among : (b batch : ℕ) (core : ℕ → ℕ) (endpoint offset : ℕ) (slots : List (List Flow)) (s : Slot) →
    Among s (sending.slots_of_telling b (record { batch = batch; told = slots_told_from core endpoint offset slots })) → IsIn b batch offset endpoint slots s
from-among b batch core endpoint offset [] s among = absurd among
from-among b batch core endpoint offset (slot ∷ slots) s among = one (destination_of slot endpoint) refl among (from-among b batch core endpoint (offset + 1) slots s)
  where
    later : IsIn b batch (offset + 1) endpoint slots s → IsIn b batch offset endpoint (slot ∷ slots) s
    later i =
        let below = i.below in
        let on : offset + 1 + i.place ≡ offset + suc i.place = omega arith in
        record { place = suc i.place; below = omega arith; is = i.is ∙ ap (λ (n : ℕ). batch * b + 1 + n) on; sends = i.sends }

    one : (o : Option ℕ) → destination_of slot endpoint ≡ o → Among s (sending.slots_of_telling b (record { batch = batch; told = told_at offset (core offset) o ++ slots_told_from core endpoint (offset + 1) slots })) →
        (Among s (sending.slots_of_telling b (record { batch = batch; told = slots_told_from core endpoint (offset + 1) slots })) → IsIn b batch (offset + 1) endpoint slots s) → IsIn b batch offset endpoint (slot ∷ slots) s
    one None is it rest = later (rest it)
    one (Some dst) is it rest = elim it [
      | inl here ↦
          let on : offset ≡ offset + 0 = omega arith in
          record { place = 0; below = omega arith; is = ap (λ (x : Slot). x.slot) (sym here) ∙ ap (λ (n : ℕ). batch * b + 1 + n) on; sends = is ∙ ap (λ (x : Slot). Some x.dst) here }
      | inr there ↦ later (rest there)
    ]

pub sends_flow : (slot : List Flow) (endpoint dst : ℕ) → destination_of slot endpoint ≡ Some dst → has_flow slot (flow_of endpoint dst) ≡ true
sends_flow [] endpoint dst is = absurd (cc)
sends_flow (flow ∷ slot) endpoint dst is = elim (cases_Bool (flow.src == endpoint)) [
  | inl its ↦
      let found : Some flow.dst ≡ Some dst = sym (ap (λ (b : Bool). option_map (λ (f : Flow). f.dst) (cond b (Some flow) (find (λ (f : Flow). f.src == endpoint) slot))) its) ∙ is in
      let to : flow.dst ≡ dst = cc in
      let src : flow.src ≡ endpoint = eqb-true flow.src endpoint its in
      let same : flow ≡ flow_of endpoint dst = ap (λ (s : ℕ). flow_of s flow.dst) src ∙ ap (λ (d : ℕ). flow_of endpoint d) to in
      ap (λ (b : Bool). b || has_flow slot (flow_of endpoint dst)) (is_same flow (flow_of endpoint dst) same)
  | inr other ↦
      let found : destination_of slot endpoint ≡ Some dst = sym (ap (λ (b : Bool). option_map (λ (f : Flow). f.dst) (cond b (Some flow) (find (λ (f : Flow). f.src == endpoint) slot))) other) ∙ is in
      let skip : same_flow flow (flow_of endpoint dst) ≡ false = ap (λ (b : Bool). b && (flow.dst == dst)) other in
      ap (λ (b : Bool). b || has_flow slot (flow_of endpoint dst)) skip ∙ sends_flow slot endpoint dst found
]

-- ---- of a batch

pub told_in-within : (setting : Setting) (batches : List DemandBatch) (round endpoint : ℕ) → SlotsAreWithin setting.b (told_in setting batches round endpoint)
told_in-within setting batches round endpoint =
    let k : ℕ = round - 2 * setting.g in
    let slots : List (List Flow) = slots_in_batch setting.b k batches in
    let long = length-take setting.b (drop (k * setting.b) (schedule setting.b batches)) in
    elim (nat_le (2 * setting.g) round) as (λ c. SlotsAreWithin setting.b (cond c (told_of setting batches k endpoint) [])) [
      | true ↦ from-within setting.b _ endpoint 0 slots (omega arith)
      | false ↦ tt
    ]

pub told_in-rises : (setting : Setting) (batches : List DemandBatch) (round endpoint : ℕ) → RisesFrom 0 (told_in setting batches round endpoint)
told_in-rises setting batches round endpoint =
    let k : ℕ = round - 2 * setting.g in
    elim (nat_le (2 * setting.g) round) as (λ c. RisesFrom 0 (cond c (told_of setting batches k endpoint) [])) [
      | true ↦ from-rises _ endpoint 0 0 (slots_in_batch setting.b k batches) (omega arith)
      | false ↦ tt
    ]

pub told_of-among : (setting : Setting) (batches : List DemandBatch) (batch endpoint : ℕ) (s : Slot) →
    Among s (sending.slots_of_telling setting.b (record { batch = batch; told = told_of setting batches batch endpoint })) → IsIn setting.b batch 0 endpoint (slots_in_batch setting.b batch batches) s
told_of-among setting batches batch endpoint s among = from-among setting.b batch _ endpoint 0 (slots_in_batch setting.b batch batches) s among

-- ---- how many slots of a flow are told

-- what is told of a flow of some slots is in them
pub slots_from-told : (core : ℕ → ℕ) (src dst offset : ℕ) (slots : List (List Flow)) → slots_to dst (slots_told_from core src offset slots) ≤ slots_of (flow_of src dst) slots
slots_from-told core src dst offset [] = omega arith
slots_from-told core src dst offset (slot ∷ slots) =
    let flow : Flow = flow_of src dst in
    let push = sum_by-cons (λ (s : List Flow). cond (has_flow s flow) 1 0) slot slots in
    one (destination_of slot src) refl (slots_from-told core src dst (offset + 1) slots) push
  where
    one : (o : Option ℕ) → destination_of slot src ≡ o → slots_to dst (slots_told_from core src (offset + 1) slots) ≤ slots_of (flow_of src dst) slots →
        slots_of (flow_of src dst) (slot ∷ slots) ≡ cond (has_flow slot (flow_of src dst)) 1 0 + slots_of (flow_of src dst) slots →
        slots_to dst (told_at offset (core offset) o ++ slots_told_from core src (offset + 1) slots) ≤ slots_of (flow_of src dst) (slot ∷ slots)
    one None is rest push = omega arith
    one (Some to) is rest push =
        let more = count_by-cons (λ (t : Told). t.dst == dst) (record { offset = offset; core = core offset; dst = to }) (slots_told_from core src (offset + 1) slots) in
        elim (cases_eq to dst) [
          | inr other ↦
              let skip = ap (λ c. cond c (1 + slots_to dst (slots_told_from core src (offset + 1) slots)) (slots_to dst (slots_told_from core src (offset + 1) slots))) (ne_eqb to dst other) in
              omega arith
          | inl same ↦
              let count = ap (λ c. cond c (1 + slots_to dst (slots_told_from core src (offset + 1) slots)) (slots_to dst (slots_told_from core src (offset + 1) slots))) (eq-eqb to dst same) in
              let there : destination_of slot src ≡ Some dst = is ∙ ap (λ (n : ℕ). Some n) same in
              let has_it : has_flow slot (flow_of src dst) ≡ true = sends_flow slot src dst there in
              let one_more : cond {A = ℕ} (has_flow slot (flow_of src dst)) 1 0 ≡ 1 = ap (λ (c : Bool). cond c 1 0) has_it in
              omega arith
        ]
