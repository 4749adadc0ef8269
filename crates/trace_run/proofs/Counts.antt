-- The counts.
use Rattle.std.proofs.Common.{◌≡◌, ◌<◌, ◌≤◌, ◌+◌, ◌-◌, ◌*◌, ◌&&◌, ℕ, zero, suc, List, [], ◌∷◌, length, map, drop, cond, Option, Some, None, refl, sym, ap, ◌∙◌, subst, inl, inr, arith}
use Rattle.std.specs.Prelude.{nat_le}
use Rattle.std.proofs.Math.Seq.{drop-length}
use Rattle.std.proofs.lemmas.Bool.{cases_Bool, cases_lt, leb-true, and_parts}
use Rattle.std.proofs.lemmas.List.{length-drop}
use Rattle.std.proofs.lemmas.List.Sums.{sum_by-cons, count_by-le-length}
use Rattle.fcp_framing.specs.declared.packet.Told.{Told}
use Rattle.greedy_rules.specs.declared.flows.Flow.{Flow}
use Rattle.greedy_rules.specs.declared.flows.Entry.{Entry}
use Rattle.greedy_rules.specs.Batches.{DemandBatch, entry_of}
use Rattle.greedy_rules.specs.Slot.{has_flow}
use Rattle.greedy_rules.specs.Schedule.{first_slot, schedule}
use Rattle.greedy_rules.specs.Balance.{added_by, added_of}
use Rattle.greedy_rules.specs.Cells.{flow_of}
use Rattle.endpoint_history.specs.Packets.{UpPacket, Resets, Requests, slots_to}
use Rattle.endpoint_history.specs.Lane.{LaneHistory, MakesDown, TakesUp, epoch_of, restarts, last_reset, telling_in}
use Rattle.endpoint_history.specs.Counts.{told}
use Rattle.endpoint_history.specs.Rest.{need_through, add_of, adds_from}
use Rattle.trace_run.specs.Run.{Setting, slots_in_batch, told_of, told_in, replayed}
use Rattle.trace_run.specs.Histories.{played_after, lane_after}
use Rattle.trace_run.specs.Applicable.{EveryRunIsApplicable}
use Rattle.trace_run.specs.Rest.{allocated_from, left_after, OwedIsAllocatedOrLeft}
use Rattle.trace_run.specs.Counts.{ToldIsAllocated, TellingHasRoom, ToldFitsSlots, EveryFlowIsCounted, AddsAreDemandedAndLost}
use Rattle.trace_run.specs.Premises.{Schedules, EndsLaws}
use Rattle.trace_run.proofs.Fronts.{run_length, length-schedule}
use Rattle.trace_run.proofs.Applicable.{round_after, recording}
use Rattle.trace_run.proofs.Rest.{one_batch_more, allocated_grows}
use Rattle.trace_run.proofs.Through.{through, rounds_length}
use Rattle.trace_run.proofs.ToldOf.{slots_from-told}

-- ---- what is told is allocated

-- the next telling is of one batch more
telling-fits : (s : Schedules) (setting : Setting) → 0 < setting.g → (rounds src dst : ℕ) (h : LaneHistory) →
    allocated_from setting (rounds - 2 * setting.g) (last_reset h) src dst + slots_to dst (telling_in setting.g h rounds (told_in setting (replayed setting rounds).batches rounds src)).told
    ≤ allocated_from setting (rounds + 1 - 2 * setting.g) (last_reset h) src dst
telling-fits s setting some rounds src dst h =
    let k : ℕ = rounds - 2 * setting.g in
    let batches = (replayed setting rounds).batches in
    let told_now : List Told = told_in setting batches rounds src in
    elim (cases_Bool (nat_le (2 * setting.g) rounds && nat_le (last_reset h) k)) [
      | inr none ↦
          let nothing : slots_to dst (telling_in setting.g h rounds told_now).told ≡ 0 = ap (λ c. slots_to dst (cond c told_now [])) none in
          let grows = allocated_grows s setting k (rounds + 1 - 2 * setting.g) (last_reset h) src dst (omega arith) in
          omega arith
      | inl tells ↦
          let parts = and_parts (nat_le (2 * setting.g) rounds) (nat_le (last_reset h) k) tells in
          let late = leb-true (2 * setting.g) rounds parts.0 in
          let kept = leb-true (last_reset h) k parts.1 in
          let whole : slots_to dst (telling_in setting.g h rounds told_now).told ≡ slots_to dst (told_of setting batches k src) =
          ap (λ c. slots_to dst (cond c told_now [])) tells ∙ ap (λ c. slots_to dst (cond c (told_of setting batches k src) [])) parts.0 in
          let its = slots_from-told (λ offset. setting.cores (first_slot setting.b k + offset) src) src dst 0 (slots_in_batch setting.b k batches) in
          let below : k < rounds = omega arith in
          let more = one_batch_more s setting k rounds (last_reset h) src dst below kept in
          let on : suc k ≡ rounds + 1 - 2 * setting.g = omega arith in
          let there = ap (λ n. allocated_from setting n (last_reset h) src dst) on in
          omega arith
    ]

abbrev ToldFits : Setting → ℕ → ℕ → ℕ → LaneHistory → Type 0
ToldFits setting allocated src dst h = told setting.g h dst ≤ allocated_from setting allocated (last_reset h) src dst

takes-fit : (ends : EndsLaws) (setting : Setting) (allocated src dst round : ℕ) (packet : UpPacket) (h : LaneHistory) → ToldFits setting allocated src dst h → ToldFits setting allocated src dst (TakesUp round packet ∷ h)
takes-fit ends setting allocated src dst round (Requests packet) h fits = let same = ends.reading.tells_none setting.g round packet h dst in omega arith
takes-fit ends setting allocated src dst round (Resets epoch version) h fits =
    elim (cases_Bool (restarts h epoch)) [
      | inl new ↦ let none = (ends.resets.anew setting.g round epoch version h dst new).1 in omega arith
      | inr old ↦
          let same = (ends.resets.as_before setting.g round epoch version h dst old).1 in
          let stays : last_reset (TakesUp round (Resets epoch version) ∷ h) ≡ last_reset h = rw old refl in
          let there = ap (λ n. allocated_from setting allocated n src dst) stays in
          omega arith
    ]

-- at most what is to be told is told
pub told-makes : (ends : EndsLaws) (g round : ℕ) (slots : List Told) (h : LaneHistory) (dst : ℕ) → told g (MakesDown round slots ∷ h) dst ≤ told g h dst + slots_to dst (telling_in g h round slots).told
told-makes ends g round slots h dst =
    elim (cases_lt 0 (epoch_of h)) [
      | inl begun ↦ let tells = ends.making.tells g round slots h dst begun in omega arith
      | inr none ↦ let same = (ends.making.before g round slots h dst (omega arith)).0 in omega arith
    ]

told-so_far : (s : Schedules) (ends : EndsLaws) (setting : Setting) → 0 < setting.g → (rounds src dst : ℕ) → ToldFits setting (rounds - 2 * setting.g) src dst (lane_after setting rounds src)
told-so_far s ends setting some zero src dst = let parts = ends.sums.three setting.g [] dst in let sum = ends.adds setting.g [] dst in omega arith
told-so_far s ends setting some (suc rounds) src dst =
    let g : ℕ = setting.g in
    let number : ℕ = length ((replayed setting rounds).rounds src) in
    let count : rounds ≡ number = sym (rounds_length setting rounds src) in
    let told_now : List Told = told_in setting (replayed setting rounds).batches rounds src in
    let before = told-so_far s ends setting some rounds src dst in
    let on : rounds + 1 - 2 * g ≡ suc rounds - 2 * g = omega arith in
    subst (λ (n : ℕ). ToldFits setting n src dst (lane_after setting (suc rounds) src)) on
    (through (ToldFits setting (rounds + 1 - 2 * g) src dst) (λ r p h fits. takes-fit ends setting (rounds + 1 - 2 * g) src dst r p h fits) setting.endpoints g number
    (round_after setting rounds src) (played_after setting rounds src)
    (λ h same fits. makes number count told_now h (subst (ToldFits setting (rounds - 2 * g) src dst) (sym same) before) (telling-fits s setting some rounds src dst h))
    (let grows = allocated_grows s setting (rounds - 2 * g) (rounds + 1 - 2 * g) (last_reset (lane_after setting rounds src)) src dst (omega arith) in omega arith))
  where
    makes : (number : ℕ) → rounds ≡ number → (told_now : List Told) (h : LaneHistory) → ToldFits setting (rounds - 2 * setting.g) src dst h →
        allocated_from setting (rounds - 2 * setting.g) (last_reset h) src dst + slots_to dst (telling_in setting.g h rounds told_now).told ≤ allocated_from setting (rounds + 1 - 2 * setting.g) (last_reset h) src dst →
        ToldFits setting (rounds + 1 - 2 * setting.g) src dst (MakesDown number told_now ∷ h)
    makes number count told_now h fits more =
        subst (λ (n : ℕ). ToldFits setting (rounds + 1 - 2 * setting.g) src dst (MakesDown n told_now ∷ h)) count
        (let push = told-makes ends setting.g rounds told_now h dst in omega arith)

pub told_is_allocated : Schedules → EndsLaws → ToldIsAllocated
told_is_allocated s ends setting some allocated rounds src dst enough =
    let h = lane_after setting rounds src in
    let before = told-so_far s ends setting some rounds src dst in
    let now = telling-fits s setting some rounds src dst h in
    let grows = allocated_grows s setting (rounds + 1 - 2 * setting.g) allocated (last_reset h) src dst (omega arith) in
    omega arith

pub telling_has_room : EndsLaws → ToldIsAllocated → TellingHasRoom
telling_has_room ends told_is setting some allocated rounds src dst enough =
    let fits = told_is setting some allocated rounds src dst enough in
    let parts = ends.sums.three setting.g (lane_after setting rounds src) dst in
    omega arith

pub told_fits_slots : Schedules → ToldIsAllocated → ToldFitsSlots
told_fits_slots s told_is setting some rounds src dst =
    let flow : Flow = flow_of src dst in
    let b : ℕ = setting.b in
    let reset : ℕ = last_reset (lane_after setting rounds src) in
    let is = told_is setting some rounds rounds src dst (omega arith) in
    let all : List (List Flow) = schedule b (replayed setting rounds).batches in
    let size : length all ≡ rounds * b = length-schedule s b (replayed setting rounds).batches ∙ ap (λ (n : ℕ). n * b) (run_length setting rounds) in
    let fewer = length-drop (reset * b) all in
    let count = count_by-le-length (λ (slot : List Flow). has_flow slot flow) (drop (reset * b) all) in
    omega arith

-- ---- counts

pub every_flow_is_counted : Schedules → EndsLaws → OwedIsAllocatedOrLeft → EveryFlowIsCounted
every_flow_is_counted s ends owed_is setting some rounds src dst low high =
    let h = lane_after setting rounds src in
    let is = owed_is setting rounds rounds src dst (omega arith) low high in
    let told_yet = told_is_allocated s ends setting some rounds rounds src dst (omega arith) in
    let resolved = ends.sums.three setting.g h dst in
    let all = none_after rounds (replayed setting rounds).batches (run_length setting rounds) src dst (left_after setting rounds src dst) in
    record { within = omega arith; counted = omega arith }
  where
    none_after : (n : ℕ) (batches : List DemandBatch) → length batches ≡ n → (src dst need : ℕ) →
        need_through (map (λ batch. entry_of batch.entries (flow_of src dst)) (drop n batches)) need ≡ need
    none_after n batches long src dst need =
        ap (λ (xs : List DemandBatch). need_through (map (λ batch. entry_of batch.entries (flow_of src dst)) xs) need)
        (ap (λ (k : ℕ). drop k batches) (sym long) ∙ drop-length batches)

-- ---- adds

adds_from-is : (flow : Flow) (k : ℕ) (batches : List DemandBatch) → adds_from k (map (λ batch. entry_of batch.entries flow) batches) ≡ added_of flow (drop k batches)
adds_from-is flow zero [] = refl
adds_from-is flow (suc k) [] = refl
adds_from-is flow zero (batch ∷ batches) =
    let same : (o : Option Entry) → add_of o ≡ added_by o = λ o. elim o as (λ x. add_of x ≡ added_by x) [ None ↦ refl | Some e ↦ refl ] in
    let here = same (entry_of batch.entries flow) in
    let rest = adds_from-is flow zero batches in
    let push = sum_by-cons (λ (x : DemandBatch). added_by (entry_of x.entries flow)) batch batches in
    omega arith
adds_from-is flow (suc k) (batch ∷ batches) = adds_from-is flow k batches

pub adds_are_demanded_and_lost : EndsLaws → EveryRunIsApplicable → AddsAreDemandedAndLost
adds_are_demanded_and_lost ends applicable setting zero src dst low high =
    let sum = ends.adds setting.g [] dst in omega arith
adds_are_demanded_and_lost ends applicable setting (suc rounds) src dst low high =
    let g : ℕ = setting.g in
    let h = recording setting rounds src in
    let takes = (ends.order setting.endpoints g ((replayed setting (suc rounds)).rounds src)).takes in
    let is = ends.entries src g (length ((replayed setting rounds).rounds src)) h dst takes in
    let same = ap (λ (es : List (Option Entry)). adds_from (last_reset h) es) ((applicable setting (suc rounds)).entries src dst low high) in
    let list = adds_from-is (flow_of src dst) (last_reset h) (replayed setting (suc rounds)).batches in
    omega arith
