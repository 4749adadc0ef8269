-- What a publisher tells is what the run tells.
use Rattle.std.proofs.Common.{◌≡◌, ◌+◌, ◌-◌, ◌*◌, ◌==◌, ◌≤◌, ℕ, zero, suc, List, [], ◌∷◌, ◌++◌, map, take, drop, cond, Bool, true, false, Option, Some, None, refl, sym, ap, ◌∙◌, inl, inr, arith}
use Rattle.std.specs.Prelude.{nat_le, option_map}
use Rattle.std.proofs.lemmas.Bool.{cases_Bool, eqb-true, leb-true}
use Rattle.std.proofs.lemmas.List.{drop-drop}
use Rattle.fcp_framing.specs.declared.packet.Told.{Told}
use Rattle.greedy_rules.specs.declared.flows.Flow.{Flow}
use Rattle.greedy_rules.specs.Schedule.{first_slot, schedule}
use Rattle.greedy_rules.specs.SlotTable.{destination_of}
use Rattle.clos_topology.specs.NetSlots.{SlotCores}
use Rattle.slot_publisher.specs.Window.{RoutedFlow, with_cores}
use Rattle.slot_publisher.specs.Told as publisher
use Rattle.slot_publisher.specs.Told.{packet_sent, slots_told}
use Rattle.trace_run.specs.Run.{Setting, slots_in_batch, told_at, slots_told_from, told_of, replayed}
use Rattle.trace_run.specs.Windows.{EveryBatchIsNext}
use Rattle.replay_rounds.specs.Setting.{byte_of, setting_of}
use Rattle.replay_rounds.specs.Standing.{routed_from}
use Rattle.replay_rounds.specs.Parts.{WhatIsToldIsHeld}

-- ---- slot after slot

-- the packet of a source in a slot, as it is routed
abbrev pub routed : Option ℕ → ℕ → ℕ → RoutedFlow
routed core endpoint dst = record { flow = record { src = endpoint; dst = dst }; core = core }

pub found : (cores : ℕ → Option ℕ) (endpoint : ℕ) (slot : List Flow) → packet_sent endpoint (with_cores cores slot) ≡ option_map (routed (cores endpoint) endpoint) (destination_of slot endpoint)
found cores endpoint [] = refl
found cores endpoint (flow ∷ slot) = elim (cases_Bool (flow.src == endpoint)) [
  | inl its ↦
      let src : flow.src ≡ endpoint = eqb-true flow.src endpoint its in
      here src its
  | inr other ↦ skip other (found cores endpoint slot)
]
  where
    here : flow.src ≡ endpoint → (flow.src == endpoint) ≡ true → packet_sent endpoint (with_cores cores (flow ∷ slot)) ≡ option_map (routed (cores endpoint) endpoint) (destination_of (flow ∷ slot) endpoint)
    here src its = rw its (ap (λ (s : ℕ). Some (routed (cores s) s flow.dst)) src)

    skip : (flow.src == endpoint) ≡ false → packet_sent endpoint (with_cores cores slot) ≡ option_map (routed (cores endpoint) endpoint) (destination_of slot endpoint) →
        packet_sent endpoint (with_cores cores (flow ∷ slot)) ≡ option_map (routed (cores endpoint) endpoint) (destination_of (flow ∷ slot) endpoint)
    skip other rest = rw other rest

-- the slots with their cores, of which the first has this number and this offset in its batch
told-same : (cores : SlotCores) (endpoint first offset : ℕ) (slots : List (List Flow)) →
    publisher.told_from offset (map (packet_sent endpoint) (routed_from cores (first + offset) slots)) ≡ slots_told_from (λ at. byte_of (cores (first + at) endpoint)) endpoint offset slots
told-same cores endpoint first offset [] = refl
told-same cores endpoint first offset (slot ∷ slots) =
    let on : first + offset + 1 ≡ first + (offset + 1) = omega arith in
    let rest : publisher.told_from (offset + 1) (map (packet_sent endpoint) (routed_from cores (first + offset + 1) slots)) ≡ slots_told_from (λ at. byte_of (cores (first + at) endpoint)) endpoint (offset + 1) slots =
    ap (λ (n : ℕ). publisher.told_from (offset + 1) (map (packet_sent endpoint) (routed_from cores n slots))) on ∙ told-same cores endpoint first (offset + 1) slots in
    ap (λ (o : Option RoutedFlow). publisher.told_from offset (o ∷ map (packet_sent endpoint) (routed_from cores (first + offset + 1) slots))) (found (cores (first + offset)) endpoint slot)
    ∙ one (destination_of slot endpoint) rest
  where
    one : (o : Option ℕ) →
        publisher.told_from (offset + 1) (map (packet_sent endpoint) (routed_from cores (first + offset + 1) slots)) ≡ slots_told_from (λ at. byte_of (cores (first + at) endpoint)) endpoint (offset + 1) slots →
        publisher.told_from offset (option_map (routed (cores (first + offset) endpoint) endpoint) o ∷ map (packet_sent endpoint) (routed_from cores (first + offset + 1) slots))
        ≡ told_at offset (byte_of (cores (first + offset) endpoint)) o ++ slots_told_from (λ at. byte_of (cores (first + at) endpoint)) endpoint (offset + 1) slots
    one None rest = rest
    one (Some dst) rest = ap (λ (xs : List Told). record { offset = offset; core = byte_of (cores (first + offset) endpoint); dst = dst } ∷ xs) rest

-- ---- the slots of a batch

routed-drop : (cores : SlotCores) (first n : ℕ) (slots : List (List Flow)) → drop n (routed_from cores first slots) ≡ routed_from cores (first + n) (drop n slots)
routed-drop cores first zero slots = let none : first ≡ first + 0 = omega arith in ap (λ (k : ℕ). routed_from cores k slots) none
routed-drop cores first (suc n) [] = refl
routed-drop cores first (suc n) (slot ∷ slots) =
    let on : first + 1 + n ≡ first + suc n = omega arith in
    routed-drop cores (first + 1) n slots ∙ ap (λ (k : ℕ). routed_from cores k (drop n slots)) on

routed-take : (cores : SlotCores) (first n : ℕ) (slots : List (List Flow)) → take n (routed_from cores first slots) ≡ routed_from cores first (take n slots)
routed-take cores first zero slots = refl
routed-take cores first (suc n) [] = refl
routed-take cores first (suc n) (slot ∷ slots) = ap (λ (xs : List (List RoutedFlow)). with_cores (cores first) slot ∷ xs) (routed-take cores (first + 1) n slots)

-- of the slots from one batch on, those of another that comes later
batch-within : (b first batch : ℕ) (cores : SlotCores) (slots : List (List Flow)) → first ≤ batch →
    take b (drop ((batch - first) * b) (routed_from cores (first * b + 1) (drop (first * b) slots))) ≡ routed_from cores (first_slot b batch) (take b (drop (batch * b) slots))
batch-within b first batch cores slots within =
    let more : first * b + (batch - first) * b ≡ batch * b = grind arith in
    let number : first * b + 1 + (batch - first) * b ≡ batch * b + 1 = omega arith in
    ap (take b) (routed-drop cores (first * b + 1) ((batch - first) * b) (drop (first * b) slots)
    ∙ ap (routed_from cores (first * b + 1 + (batch - first) * b)) (drop-drop ((batch - first) * b) (first * b) slots ∙ ap (λ (n : ℕ). drop n slots) more))
    ∙ routed-take cores (first * b + 1 + (batch - first) * b) b (drop (batch * b) slots)
    ∙ ap (λ (n : ℕ). routed_from cores n (take b (drop (batch * b) slots))) number

-- ---- what a publisher tells

pub what_is_told_is_published : EveryBatchIsNext → WhatIsToldIsHeld
what_is_told_is_published next trace b g cores is batch rounds window published round endpoint same_b count slots behind held = either (nat_le (2 * g) round) refl
  where
    setting : Setting
    setting = setting_of trace b g cores

    either : (late : Bool) → nat_le (2 * g) round ≡ late → cond late (slots_told window endpoint (round - 2 * g)) [] ≡ cond late (told_of setting (replayed setting round).batches (round - 2 * g) endpoint) []
    either false early = refl
    either true late =
        let here = held (leb-true (2 * g) round late) in
        let k : ℕ = round - 2 * g in
        let whole : List (List Flow) = schedule b (replayed setting published).batches in
        let same : slots_in_batch b k (replayed setting published).batches ≡ slots_in_batch b k (replayed setting round).batches = (next setting k).slots published here.1 ∙ sym ((next setting k).slots round (omega arith)) in
        let its : take window.b (drop ((k - window.first_batch) * window.b) window.slots) ≡ routed_from cores (first_slot b k) (slots_in_batch b k (replayed setting round).batches) =
        ap (λ (n : ℕ). take n (drop ((k - window.first_batch) * n) window.slots)) same_b ∙ (ap (λ (xs : List (List RoutedFlow)). take b (drop ((k - window.first_batch) * b) xs)) slots
        ∙ (batch-within b window.first_batch k cores whole here.0 ∙ ap (routed_from cores (first_slot b k)) same)) in
        let none : first_slot b k ≡ first_slot b k + 0 = omega arith in
        ap (λ (xs : List (List RoutedFlow)). publisher.told_from 0 (map (packet_sent endpoint) xs)) (its ∙ ap (λ (n : ℕ). routed_from cores n (slots_in_batch b k (replayed setting round).batches)) none)
        ∙ told-same cores endpoint (first_slot b k) 0 (slots_in_batch b k (replayed setting round).batches)
