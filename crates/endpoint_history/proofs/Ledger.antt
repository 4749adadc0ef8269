-- The lane's ledger.
use Rattle.std.proofs.Common.{◌≡◌, ℕ, ◌+◌, ◌-◌, ◌*◌, ◌≤◌, true, false, ◌&&◌, cond, ◌==◌, List, [], ◌∷◌, sym, ◌∙◌, ap, subst, refl, inl, inr, arith}
use Rattle.std.specs.Prelude.{nat_le, sum_by}
use Rattle.std.proofs.lemmas.Bool.{cases_eq, cases_Bool, cases_lt, leb-true, le-leb, lt-leb, eq-eqb, ne_eqb, cond-true, cond-false}
use Rattle.std.proofs.lemmas.List.Sums.{sum_by-cons, sum_by-le-sum_by}
use Rattle.ack_window.specs.Ends.{Numbered}
use Rattle.fcp_framing.specs.declared.packet.Demand.{Demand}
use Rattle.fcp_framing.specs.declared.packet.Told.{Told}
use Rattle.endpoint_history.specs.Packets.{Resets, Requests, slots_to}
use Rattle.endpoint_history.specs.Lane.{LaneEvent, LaneHistory, MakesDown, TakesUp, Records, epoch_of, restarts, last_reset, is_current, takes, may_send, numbers}
use Rattle.endpoint_history.specs.Counts.{Allocation, slots_in, recorded, owed, told, allocated}
use Rattle.endpoint_history.specs.Entries.{counted_from, rounds_recorded, adds}
use Rattle.endpoint_history.specs.Steps.{rounds_begun}
use Rattle.endpoint_history.specs.Conditions.{LaneCall, Happens, Allocates, history_of, allocations_of, allocated_in, MeetsConditions}
use Rattle.endpoint_history.specs.CountLaws.{telling_to, CountsAddUp}
use Rattle.endpoint_history.specs.LedgerLaws.{LedgerIsWithin, AddsSumToOwed}
use Rattle.endpoint_history.specs.Windows.{Windows}
use Rattle.endpoint_history.proofs.CallCounts.{making_tells, reading_decides, resets_count_anew}
use Rattle.endpoint_history.proofs.SlotSums.{slots_in-nothing, slots-three}

-- ---- what is owed only grows between resets

record Steady (g : ℕ) (event : LaneEvent) (history : LaneHistory) : Type 0 where
  grows : (dst : ℕ) → owed g history dst ≤ owed g (event ∷ history) dst
  resets : last_reset (event ∷ history) ≡ last_reset history

recorded-grows : (history : LaneHistory) (round : ℕ) (packet : Numbered (List Demand)) (dst : ℕ) → recorded history dst ≤ recorded (TakesUp round (Requests packet) ∷ history) dst
recorded-grows history round packet dst = elim (cases_Bool (takes history packet)) [
  | inl takes_it ↦ rw takes_it (omega arith)
  | inr left ↦ rw left (omega arith)
]

steady-requests : (w : Windows) (g round : ℕ) (packet : Numbered (List Demand)) (history : LaneHistory) → Steady g (TakesUp round (Requests packet)) history
steady-requests w g round packet history =
    record {
      grows = λ dst.
          let more = recorded-grows history round packet dst in
          elim (cases_Bool (is_current history packet)) [
            | inl current ↦ let found = (reading_decides w).finds g round packet history dst current in omega arith
            | inr other ↦ let same = (reading_decides w).refused g round packet history dst other in let found = same.1 in omega arith
          ];
      resets = refl;
    }

steady-makes : (w : Windows) (g round : ℕ) (slots : List Told) (history : LaneHistory) → Steady g (MakesDown round slots) history
steady-makes w g round slots history =
    record {
      grows = λ dst.
          elim (cases_lt 0 (epoch_of history)) [
            | inr none ↦ let same = ((making_tells w).before g round slots history dst (omega arith)).1 in omega arith
            | inl begun ↦
                elim (cases_Bool (may_send history (numbers g history))) [
                  | inl new ↦ let same = (making_tells w).loses_none g round slots history dst begun new in omega arith
                  | inr stopped ↦ let more = (making_tells w).loses_all g round slots history dst begun stopped in omega arith
                ]
          ];
      resets = refl;
    }

steady-old : (g round epoch version : ℕ) (history : LaneHistory) → restarts history epoch ≡ false → Steady g (TakesUp round (Resets epoch version)) history
steady-old g round epoch version history old = record {
  grows = λ dst. let same = (resets_count_anew.as_before g round epoch version history dst old).4 in omega arith;
  resets = rw old refl;
}

owed-anew : (g round epoch version : ℕ) (history : LaneHistory) (dst : ℕ) → restarts history epoch ≡ true → owed g (TakesUp round (Resets epoch version) ∷ history) dst ≡ 0
owed-anew g round epoch version history dst new = (resets_count_anew.anew g round epoch version history dst new).4

counted-new : (history : LaneHistory) (round epoch version : ℕ) → restarts history epoch ≡ true → counted_from (TakesUp round (Resets epoch version) ∷ history) ≡ TakesUp round (Resets epoch version) ∷ history
counted-new history round epoch version new = cond-true (restarts history epoch) (TakesUp round (Resets epoch version) ∷ history) (counted_from history) new

counted-old : (history : LaneHistory) (round epoch version : ℕ) → restarts history epoch ≡ false → counted_from (TakesUp round (Resets epoch version) ∷ history) ≡ counted_from history
counted-old history round epoch version old = cond-false (restarts history epoch) (TakesUp round (Resets epoch version) ∷ history) (counted_from history) old

-- ---- the adds

counted-within : (w : Windows) (g : ℕ) (history : LaneHistory) (dst : ℕ) → owed g (counted_from history) dst ≤ owed g history dst
counted-within w g [] dst = omega arith
counted-within w g (Records round ∷ history) dst = omega arith
counted-within w g (MakesDown round slots ∷ history) dst = omega (arith, (steady-makes w g round slots history).grows dst, counted-within w g history dst)
counted-within w g (TakesUp round (Requests packet) ∷ history) dst = omega (arith, (steady-requests w g round packet history).grows dst, counted-within w g history dst)
counted-within w g (TakesUp round (Resets epoch version) ∷ history) dst =
    elim (cases_Bool (restarts history epoch)) [
      | inl new ↦ subst (λ (h : LaneHistory). owed g h dst ≤ owed g (TakesUp round (Resets epoch version) ∷ history) dst) (sym (counted-new history round epoch version new)) (omega arith)
      | inr old ↦
          subst (λ (h : LaneHistory). owed g h dst ≤ owed g (TakesUp round (Resets epoch version) ∷ history) dst) (sym (counted-old history round epoch version old))
          (omega (arith, (steady-old g round epoch version history old).grows dst, counted-within w g history dst))
    ]

owed-nothing : (g dst : ℕ) → 0 ≡ owed g [] dst
unfolding slots_in
owed-nothing g dst = refl

adds-counted : (w : Windows) (g : ℕ) (history : LaneHistory) (dst : ℕ) → adds g history dst ≡ owed g (counted_from history) dst
adds-counted w g [] dst = owed-nothing g dst
adds-counted w g (Records round ∷ history) dst = omega (arith, adds-counted w g history dst, counted-within w g history dst)
adds-counted w g (MakesDown round slots ∷ history) dst = adds-counted w g history dst
adds-counted w g (TakesUp round (Requests packet) ∷ history) dst = adds-counted w g history dst
adds-counted w g (TakesUp round (Resets epoch version) ∷ history) dst =
    elim (cases_Bool (restarts history epoch)) [
      | inl new ↦
          subst (λ (h : LaneHistory). cond (restarts history epoch) 0 (adds g history dst) ≡ owed g h dst) (sym (counted-new history round epoch version new))
          (cond-true (restarts history epoch) 0 (adds g history dst) new ∙ sym (owed-anew g round epoch version history dst new))
      | inr old ↦
          subst (λ (h : LaneHistory). cond (restarts history epoch) 0 (adds g history dst) ≡ owed g h dst) (sym (counted-old history round epoch version old))
          (cond-false (restarts history epoch) 0 (adds g history dst) old ∙ adds-counted w g history dst)
    ]

pub counts_add_up : (w : Windows) → CountsAddUp
counts_add_up w = record { three = λ g history dst. slots-three w g history dst; grows = λ g history dst. counted-within w g history dst }

pub adds_sum_to_owed : (w : Windows) → AddsSumToOwed
adds_sum_to_owed w g history dst = omega (arith, adds-counted w g history dst, counted-within w g history dst)

-- ---- slots told and slots allocated

-- those of batches that were told: of rounds that have begun
abbrev allocated_before : ℕ → ℕ → List Allocation → ℕ → ℕ
allocated_before reset begun allocations dst = sum_by (λ (a : Allocation). cond (a.dst == dst && nat_le reset a.batch && nat_le (a.batch + 1) begun) a.slots 0) allocations

-- rounds begun, less two windows
abbrev batches_told : ℕ → ℕ → ℕ
batches_told g begun = begun - 2 * g

-- one batch more
before-more : (reset batch : ℕ) (allocations : List Allocation) (dst : ℕ) → reset ≤ batch →
    allocated_before reset batch allocations dst + allocated_in batch allocations dst ≤ allocated_before reset (batch + 1) allocations dst
before-more reset batch [] dst low = omega arith
before-more reset batch (a ∷ allocations) dst low =
    let rest = before-more reset batch allocations dst low in
    let one = sum_by-cons (λ (x : Allocation). cond (x.dst == dst && nat_le reset x.batch && nat_le (x.batch + 1) batch) x.slots 0) a allocations in
    let two = sum_by-cons (λ (x : Allocation). cond (x.dst == dst && x.batch == batch) x.slots 0) a allocations in
    let all = sum_by-cons (λ (x : Allocation). cond (x.dst == dst && nat_le reset x.batch && nat_le (x.batch + 1) (batch + 1)) x.slots 0) a allocations in
    let here : cond (a.dst == dst && nat_le reset a.batch && nat_le (a.batch + 1) batch) a.slots 0 + cond (a.dst == dst && a.batch == batch) a.slots 0 ≤ cond (a.dst == dst && nat_le reset a.batch && nat_le (a.batch + 1) (batch + 1)) a.slots 0 =
    elim (a.dst == dst) as (λ b. cond (b && nat_le reset a.batch && nat_le (a.batch + 1) batch) a.slots 0 + cond (b && a.batch == batch) a.slots 0 ≤ cond (b && nat_le reset a.batch && nat_le (a.batch + 1) (batch + 1)) a.slots 0) [
      | false ↦ omega arith
      | true ↦
          elim (cases_eq a.batch batch) [
            | inl same ↦
                rw (eq-eqb a.batch batch same, le-leb reset a.batch (omega arith), lt-leb (a.batch + 1) batch (omega arith), le-leb (a.batch + 1) (batch + 1) (omega arith)) (omega arith)
            | inr other ↦
                elim (cases_lt a.batch batch) [
                  | inl below ↦ rw (ne_eqb a.batch batch other, le-leb (a.batch + 1) batch (omega arith), le-leb (a.batch + 1) (batch + 1) (omega arith)) (omega arith)
                  | inr above ↦ rw (ne_eqb a.batch batch other, lt-leb (a.batch + 1) batch (omega arith), lt-leb (a.batch + 1) (batch + 1) (omega arith)) (omega arith)
                ]
          ]
    ] in
    omega arith

-- ---- all calls

abbrev since : ℕ → List Allocation → ℕ → ℕ
since reset allocations dst = sum_by (λ (a : Allocation). cond (a.dst == dst && nat_le reset a.batch) a.slots 0) allocations

-- what is told, and what was allocated of the batches told
record Within (g : ℕ) (calls : List LaneCall) : Type 0 where
  told_within : (dst : ℕ) → told g (history_of calls) dst ≤ allocated_before (last_reset (history_of calls)) (batches_told g (rounds_begun (history_of calls))) (allocations_of calls) dst
  owed_within : (dst : ℕ) → allocated (history_of calls) (allocations_of calls) dst ≤ owed g (history_of calls) dst
  batches : (dst : ℕ) (reset : ℕ) → rounds_recorded (history_of calls) ≤ reset → sum_by (λ (a : Allocation). cond (a.dst == dst && nat_le reset a.batch) a.slots 0) (allocations_of calls) ≡ 0

-- more batches told, more allocated of them
before-grows : (reset less more : ℕ) (allocations : List Allocation) (dst : ℕ) → less ≤ more → allocated_before reset less allocations dst ≤ allocated_before reset more allocations dst
before-grows reset less more allocations dst le =
    sum_by-le-sum_by _ (λ (a : Allocation). cond (a.dst == dst && nat_le reset a.batch && nat_le (a.batch + 1) more) a.slots 0) allocations
    (λ a. elim (a.dst == dst && nat_le reset a.batch) as (λ b. cond (b && nat_le (a.batch + 1) less) a.slots 0 ≤ cond (b && nat_le (a.batch + 1) more) a.slots 0) [
      | false ↦ omega arith
      | true ↦
          elim (cases_Bool (nat_le (a.batch + 1) less)) [
            | inr no_more ↦ rw no_more (omega arith)
            | inl told_yet ↦ let low = leb-true (a.batch + 1) less told_yet in rw (told_yet, le-leb (a.batch + 1) more (omega arith)) (omega arith)
          ]
    ])

before-all : (reset begun : ℕ) (allocations : List Allocation) (dst : ℕ) → allocated_before reset begun allocations dst ≤ sum_by (λ (a : Allocation). cond (a.dst == dst && nat_le reset a.batch) a.slots 0) allocations
before-all reset begun allocations dst =
    sum_by-le-sum_by _ (λ (a : Allocation). cond (a.dst == dst && nat_le reset a.batch) a.slots 0) allocations
    (λ a. elim (a.dst == dst && nat_le reset a.batch) as (λ b. cond (b && nat_le (a.batch + 1) begun) a.slots 0 ≤ cond b a.slots 0) [
      | false ↦ omega arith
      | true ↦ elim (nat_le (a.batch + 1) begun) as (λ b. cond b a.slots 0 ≤ a.slots) [ true ↦ omega arith | false ↦ omega arith ]
    ])

-- at most a round's slots are told more
told-makes : (w : Windows) (g round : ℕ) (slots : List Told) (history : LaneHistory) (dst : ℕ) → told g (MakesDown round slots ∷ history) dst ≤ told g history dst + telling_to g history round slots dst
told-makes w g round slots history dst =
    elim (cases_lt 0 (epoch_of history)) [
      | inl begun ↦ let more = (making_tells w).tells g round slots history dst begun in omega arith
      | inr none ↦ let same = ((making_tells w).before g round slots history dst (omega arith)).0 in omega arith
    ]

pub told-nothing : (w : Windows) (g dst : ℕ) → told g [] dst ≡ 0
told-nothing w g dst = let none = slots_in-nothing w (λ number. true) dst in omega arith

telling-within : (g round : ℕ) (slots : List Told) (history : LaneHistory) (allocations : List Allocation) (dst : ℕ) → rounds_begun history ≤ round →
    (2 * g ≤ round → last_reset history ≤ round - 2 * g → (d : ℕ) → slots_to d slots ≤ allocated_in (round - 2 * g) allocations d) →
    allocated_before (last_reset history) (batches_told g (rounds_begun history)) allocations dst + telling_to g history round slots dst
    ≤ allocated_before (last_reset history) (batches_told g (round + 1)) allocations dst
telling-within g round slots history allocations dst rise published =
    let grows = before-grows (last_reset history) (batches_told g (rounds_begun history)) (batches_told g (round + 1)) allocations dst (omega arith) in
    elim (cases_Bool (nat_le (2 * g) round)) [
      | inr early ↦ rw early (omega arith)
      | inl late ↦
          rw late (elim (cases_Bool (nat_le (last_reset history) (round - 2 * g))) [
            | inr old ↦ rw old (omega arith)
            | inl new ↦
                let is_late = leb-true (2 * g) round late in
                let is_new = leb-true (last_reset history) (round - 2 * g) new in
                let upto = before-grows (last_reset history) (batches_told g (rounds_begun history)) (round - 2 * g) allocations dst (omega arith) in
                let one = before-more (last_reset history) (round - 2 * g) allocations dst is_new in
                let all = ap (λ n. allocated_before (last_reset history) n allocations dst) (next g round is_late) in
                let enough = published is_late is_new dst in
                rw new (omega arith)
          ])
    ]
  where
    next : (g round : ℕ) → 2 * g ≤ round → (round - 2 * g) + 1 ≡ batches_told g (round + 1)
    next g round late = omega arith

within : (w : Windows) (g : ℕ) (calls : List LaneCall) → MeetsConditions g calls → Within g calls
within w g [] meets = record {
  told_within = λ dst. let none = told-nothing w g dst in omega arith;
  owed_within = λ dst. omega arith;
  batches = λ dst reset low. refl;
}
within w g (Happens (Records round) ∷ calls) meets =
    let before = within w g calls meets in
    record { told_within = before.told_within; owed_within = before.owed_within; batches = λ dst reset low. before.batches dst reset (omega arith) }
within w g (Happens (MakesDown round slots) ∷ calls) meets =
    let before = within w g calls meets.2 in
    record {
      told_within = λ dst.
          let so_far = before.told_within dst in
          let more = told-makes w g round slots (history_of calls) dst in
          let enough = telling-within g round slots (history_of calls) (allocations_of calls) dst meets.0 meets.1 in
          omega arith;
      owed_within = λ dst. let so_far = before.owed_within dst in let grows = (steady-makes w g round slots (history_of calls)).grows dst in omega arith;
      batches = before.batches;
    }
within w g (Happens (TakesUp round (Requests packet)) ∷ calls) meets =
    let before = within w g calls meets.1 in
    record {
      told_within = λ dst. let so_far = before.told_within dst in let same = (reading_decides w).tells_none g round packet (history_of calls) dst in omega arith;
      owed_within = λ dst. let so_far = before.owed_within dst in let grows = (steady-requests w g round packet (history_of calls)).grows dst in omega arith;
      batches = before.batches;
    }
within w g (Happens (TakesUp round (Resets epoch version)) ∷ calls) meets =
    let before = within w g calls meets.1 in
    elim (cases_Bool (restarts (history_of calls) epoch)) [
      | inr old ↦
          let steady = steady-old g round epoch version (history_of calls) old in
          record {
            told_within = λ dst.
                let so_far = before.told_within dst in
                let same = (resets_count_anew.as_before g round epoch version (history_of calls) dst old).1 in
                let there = ap (λ r. allocated_before r (batches_told g (rounds_begun (history_of calls))) (allocations_of calls) dst) steady.resets in
                omega arith;
            owed_within = λ dst.
                let so_far = before.owed_within dst in
                let grows = steady.grows dst in
                let there = ap (λ r. since r (allocations_of calls) dst) steady.resets in
                omega arith;
            batches = before.batches;
          }
      | inl new ↦
          let reset : last_reset (TakesUp round (Resets epoch version) ∷ history_of calls) ≡ round = rw new refl in
          record {
            told_within = λ dst. let none = (resets_count_anew.anew g round epoch version (history_of calls) dst new).1 in omega arith;
            owed_within = λ dst.
                let none = before.batches dst round meets.0 in
                let there = ap (λ r. since r (allocations_of calls) dst) reset in
                omega arith;
            batches = before.batches;
          }
    ]
within w g (Allocates a ∷ calls) meets =
    let before = within w g calls meets.2 in
    record {
      told_within = λ dst.
          let so_far = before.told_within dst in
          let push = sum_by-cons (λ (x : Allocation). cond (x.dst == dst && nat_le (last_reset (history_of calls)) x.batch && nat_le (x.batch + 1) (batches_told g (rounds_begun (history_of calls)))) x.slots 0) a (allocations_of calls) in
          omega arith;
      owed_within = λ dst.
          let so_far = before.owed_within dst in
          let push = sum_by-cons (λ (x : Allocation). cond (x.dst == dst && nat_le (last_reset (history_of calls)) x.batch) x.slots 0) a (allocations_of calls) in
          let here : cond (a.dst == dst && nat_le (last_reset (history_of calls)) a.batch) a.slots 0 + since (last_reset (history_of calls)) (allocations_of calls) dst ≤ owed g (history_of calls) dst =
          elim (cases_eq a.dst dst) [
            | inr other ↦ rw (ne_eqb a.dst dst other) (omega arith)
            | inl same ↦
                elim (cases_Bool (nat_le (last_reset (history_of calls)) a.batch)) [
                  | inr old ↦ rw (eq-eqb a.dst dst same, old) (omega arith)
                  | inl new ↦
                      let room = subst (λ (d : ℕ). since (last_reset (history_of calls)) (allocations_of calls) d + a.slots ≤ owed g (history_of calls) d) same (meets.1 (leb-true (last_reset (history_of calls)) a.batch new)) in
                      rw (eq-eqb a.dst dst same, new) (omega arith)
                ]
          ] in
          omega arith;
      batches = λ dst reset low.
          let none = before.batches dst reset low in
          let recorded_it = meets.0 in
          let push = sum_by-cons (λ (x : Allocation). cond (x.dst == dst && nat_le reset x.batch) x.slots 0) a (allocations_of calls) in
          let here : cond (a.dst == dst && nat_le reset a.batch) a.slots 0 ≡ 0 =
          rw (lt-leb reset a.batch (omega arith)) (elim (a.dst == dst) as (λ b. cond (b && false) a.slots 0 ≡ 0) [ true ↦ refl | false ↦ refl ]) in
          omega arith;
    }

pub ledger_is_within : (w : Windows) → LedgerIsWithin
ledger_is_within w g calls meets dst =
    let it = within w g calls meets in
    let told_yet = it.told_within dst in
    let all = before-all (last_reset (history_of calls)) (batches_told g (rounds_begun (history_of calls))) (allocations_of calls) dst in
    (omega arith, it.owed_within dst)
