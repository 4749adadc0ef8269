-- A run begins with each shorter run.
use Rattle.std.proofs.Common.{◌≡◌, ◌<◌, ◌≤◌, ◌+◌, ◌-◌, ◌*◌, ℕ, zero, suc, List, [], ◌∷◌, ◌++◌, length, get_or, take, drop, cond, refl, sym, ap, ◌∙◌, subst, inl, inr, arith}
use Rattle.std.specs.Prelude.{nat_le}
use Rattle.std.proofs.Math.Seq.{take-append_seam, drop-append_seam}
use Rattle.std.proofs.lemmas.Bool.{cases_Bool, cases_lt, leb-true}
use Rattle.std.proofs.lemmas.List.{take-append-le, append_assoc, append-nil, length-append, get_or_append_left}
use Rattle.fcp_framing.specs.declared.packet.Told.{Told}
use Rattle.greedy_rules.specs.declared.flows.Flow.{Flow}
use Rattle.greedy_rules.specs.declared.flows.Item.{Item}
use Rattle.greedy_rules.specs.Batches.{DemandBatch}
use Rattle.greedy_rules.specs.Schedule.{first_slot, slots_then, schedule, rest}
use Rattle.greedy_rules.proofs.BatchLemmas.{no_batch}
use Rattle.endpoint_history.specs.Rounds.{Round}
use Rattle.trace_run.specs.Run.{Setting, slots_in_batch, slots_told_from, told_in, round_of, recorded_together, next_rounds, replayed}
use Rattle.trace_run.specs.Fronts.{EveryRoundHasABatch, ARunBeginsWithEach, RoundsAreOfTheWholeRun}
use Rattle.trace_run.specs.Premises.{Schedules}

-- ---- a schedule and its first batches

one_batch : (b : ℕ) → 1 * b ≡ b
one_batch b = omega arith

pub length-slots : (s : Schedules) (b k : ℕ) (batch : DemandBatch) (list : List Item) → length (slots_then b k batch list) ≡ b
length-slots s b k batch list =
    ap length (sym (append-nil (slots_then b k batch list))) ∙ (s.count b k list (batch ∷ []) ∙ one_batch b)

pub length-schedule : (s : Schedules) (b : ℕ) (batches : List DemandBatch) → length (schedule b batches) ≡ length batches * b
length-schedule s b batches = s.count b 0 [] batches

-- the slots of a batch are those of the schedule of any batches that begin with it and those before it
pub fronts_of_schedule : (s : Schedules) (b k : ℕ) (front later : List DemandBatch) → k < length front → slots_in_batch b k (front ++ later) ≡ slots_in_batch b k front
fronts_of_schedule s b k front later below =
    let long : k < length (front ++ later) = omega (arith, length-append front later) in
    (s.each b k (front ++ later) no_batch long).0
    ∙ (ap (λ (xs : List DemandBatch). slots_then b k (get_or (front ++ later) k no_batch) (rest b xs)) (take-append-le k front later (omega arith))
    ∙ (ap (λ (e : DemandBatch). slots_then b k e (rest b (take k front))) (get_or_append_left front later no_batch k below)
    ∙ sym ((s.each b k front no_batch below).0)))

-- ---- a run and its first rounds

pub run_length : EveryRoundHasABatch
run_length setting zero = refl
run_length setting (suc n) =
    let before = (replayed setting n).batches in
    let last : DemandBatch = recorded_together setting (next_rounds setting n (replayed setting n)) in
    omega (arith, length-append before (last ∷ []), run_length setting n)

-- the batches that come after
pub record Begins (front whole : List DemandBatch) : Type 0 where
  pub later : List DemandBatch
  pub is : whole ≡ front ++ later

pub run_begins : (setting : Setting) (rounds all : ℕ) → rounds ≤ all → Begins (replayed setting rounds).batches (replayed setting all).batches
run_begins setting rounds zero within =
    let none : rounds ≡ 0 = omega arith in
    subst (λ (n : ℕ). Begins (replayed setting n).batches []) (sym none) (record { later = []; is = refl })
run_begins setting rounds (suc all) within =
    elim (cases_lt all rounds) [
      | inl last ↦
          let same : suc all ≡ rounds = omega arith in
          subst (λ (n : ℕ). Begins (replayed setting n).batches (replayed setting (suc all)).batches) same
          (record { later = []; is = sym (append-nil (replayed setting (suc all)).batches) })
      | inr before ↦
          let b = run_begins setting rounds all before in
          let last : List DemandBatch = recorded_together setting (next_rounds setting all (replayed setting all)) ∷ [] in
          record { later = b.later ++ last; is = ap (λ (xs : List DemandBatch). xs ++ last) b.is ∙ append_assoc (replayed setting rounds).batches b.later last }
    ]

-- what comes after is what is left without the first
pub later_is : (setting : Setting) (rounds all : ℕ) (within : rounds ≤ all) → drop rounds (replayed setting all).batches ≡ (run_begins setting rounds all within).later
later_is setting rounds all within =
    let b = run_begins setting rounds all within in
    let front = (replayed setting rounds).batches in
    ap (drop rounds) b.is ∙ (ap (λ (n : ℕ). drop n (front ++ b.later)) (sym (run_length setting rounds)) ∙ drop-append_seam front b.later)

pub a_run_begins_with_each : ARunBeginsWithEach
a_run_begins_with_each setting rounds all within =
    let b = run_begins setting rounds all within in
    let front = (replayed setting rounds).batches in
    ap (take rounds) b.is ∙ (ap (λ (n : ℕ). take n (front ++ b.later)) (sym (run_length setting rounds)) ∙ take-append_seam front b.later)

-- ---- what is told

pub told-whole : (s : Schedules) (setting : Setting) → 0 < setting.g → (round all endpoint : ℕ) → round ≤ all →
    told_in setting (replayed setting round).batches round endpoint ≡ told_in setting (replayed setting all).batches round endpoint
told-whole s setting some round all endpoint within =
    let front = (replayed setting round).batches in
    let whole = (replayed setting all).batches in
    let k : ℕ = round - 2 * setting.g in
    elim (cases_Bool (nat_le (2 * setting.g) round)) [
      | inr early ↦ rw early refl
      | inl late ↦
          let le = leb-true (2 * setting.g) round late in
          let b = run_begins setting round all within in
          let below : k < length front = omega (arith, run_length setting round) in
          let same : slots_in_batch setting.b k front ≡ slots_in_batch setting.b k whole =
          sym (ap (slots_in_batch setting.b k) b.is ∙ fronts_of_schedule s setting.b k front b.later below) in
          ap (λ (xs : List (List Flow)). cond (nat_le (2 * setting.g) round) (slots_told_from (λ offset. setting.cores (first_slot setting.b k + offset) endpoint) endpoint 0 xs) []) same
    ]

pub rounds_are_of_the_whole_run : Schedules → RoundsAreOfTheWholeRun
rounds_are_of_the_whole_run s setting some zero all within endpoint = refl
rounds_are_of_the_whole_run s setting some (suc n) all within endpoint =
    let o = setting.outside in
    ap (λ (told : List Told). record { boots = o.boots n endpoint; asks = o.asks n endpoint; up = o.up n endpoint; down = o.down n endpoint; raw = o.raw n endpoint; told = told } ∷ (replayed setting n).rounds endpoint)
    (told-whole s setting some n all endpoint (omega arith))
    ∙ ap (λ (rs : List Round). round_of setting (replayed setting all).batches n endpoint ∷ rs) (rounds_are_of_the_whole_run s setting some n all (omega arith) endpoint)
