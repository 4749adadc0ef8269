-- Window by window.
use Rattle.std.proofs.Common.{◌≡◌, ◌+◌, ◌-◌, ◌*◌, ℕ, zero, suc, List, [], ◌∷◌, ◌++◌, length, get_or, take, drop, refl, sym, ap, ◌∙◌, subst, inl, inr, arith}
use Rattle.std.proofs.Math.Seq.{take-append_seam, drop-append_seam}
use Rattle.std.proofs.lemmas.List.{get_or_append_left}
use Rattle.greedy_rules.specs.declared.flows.Item.{Item}
use Rattle.greedy_rules.specs.Batches.{DemandBatch}
use Rattle.greedy_rules.specs.Schedule.{slots_then, list_then, schedule, schedule_from, rest, rest_from}
use Rattle.greedy_rules.proofs.BatchLemmas.{no_batch}
use Rattle.trace_run.specs.Run.{slots_in_batch, replayed}
use Rattle.trace_run.specs.Windows.{batch_at, EveryBatchIsNext, EveryWindowIsAllocated, InWindows, StepsGoOn, collected_after, EveryStepIsInWindows, WhatIsToldIsPublished}
use Rattle.trace_run.specs.Premises.{Schedules}
use Rattle.trace_run.proofs.Fronts.{Begins, length-schedule, fronts_of_schedule, run_length, run_begins, later_is}

-- ---- the next batch

at_end : (xs : List DemandBatch) (x other : DemandBatch) (k : ℕ) → length xs ≡ k → get_or (xs ++ x ∷ []) k other ≡ x
at_end [] x other zero long = refl
at_end [] x other (suc k) long = absurd (omega arith)
at_end (y ∷ xs) x other zero long = absurd (omega arith)
at_end (y ∷ xs) x other (suc k) long = at_end xs x other k (omega arith)

pub every_batch_is_next : Schedules → EveryBatchIsNext
every_batch_is_next s setting k =
    record {
      at = λ rounds other below.
          let begins = run_begins setting (suc k) rounds (omega arith) in
          let long = run_length setting (suc k) in
          ap (λ (xs : List DemandBatch). get_or xs k other) begins.is ∙ (get_or_append_left (front ++ last ∷ []) begins.later other k (omega arith) ∙ at_end front last other k count);
      slots = λ rounds below.
          let begins = run_begins setting (suc k) rounds (omega arith) in
          let long = run_length setting (suc k) in
          ap (slots_in_batch b k) begins.is
          ∙ (fronts_of_schedule s b k (front ++ last ∷ []) begins.later (omega arith)
          ∙ ((s.each b k (front ++ last ∷ []) no_batch (omega arith)).0
          ∙ (ap (λ (x : DemandBatch). slots_then b k x (rest b (take k (front ++ last ∷ [])))) (at_end front last no_batch k count)
          ∙ ap (λ (xs : List DemandBatch). slots_then b k last (rest b xs)) first)));
      list = (s.more b 0 [] front (last ∷ [])).1 ∙ ap (λ (n : ℕ). list_then b n last (rest b front)) place;
    }
  where
    b : ℕ
    b = setting.b

    front : List DemandBatch
    front = (replayed setting k).batches

    last : DemandBatch
    last = batch_at setting k

    count : length front ≡ k
    count = run_length setting k

    place : 0 + length front ≡ k
    place = omega (arith, count)

    first : take k (front ++ last ∷ []) ≡ front
    first = ap (λ (n : ℕ). take n (front ++ last ∷ [])) (sym count) ∙ take-append_seam front (last ∷ [])

-- ---- a window

pub every_window_is_allocated : Schedules → EveryWindowIsAllocated
every_window_is_allocated s setting allocated collected within =
    record {
      slots = sym (ap (λ (xs : List DemandBatch). drop (allocated * b) (schedule b xs)) whole_is
          ∙ (ap (drop (allocated * b)) (s.more b 0 [] front later).0
          ∙ (ap (λ (n : ℕ). drop n (schedule b front ++ schedule_from b (0 + length front) left later)) (sym size)
          ∙ (drop-append_seam (schedule b front) (schedule_from b (0 + length front) left later)
          ∙ ap (λ (n : ℕ). schedule_from b n left later) place))));
      list = sym (ap (rest b) whole_is ∙ ((s.more b 0 [] front later).1 ∙ ap (λ (n : ℕ). rest_from b n left later) place));
    }
  where
    b : ℕ
    b = setting.b

    front : List DemandBatch
    front = (replayed setting allocated).batches

    whole : List DemandBatch
    whole = (replayed setting collected).batches

    later : List DemandBatch
    later = drop allocated whole

    left : List Item
    left = rest b front

    begins : Begins front whole
    begins = run_begins setting allocated collected within

    whole_is : whole ≡ front ++ later
    whole_is = begins.is ∙ ap (λ (xs : List DemandBatch). front ++ xs) (sym (later_is setting allocated collected within))

    place : 0 + length front ≡ allocated
    place = let long = run_length setting allocated in omega arith

    size : length (schedule b front) ≡ allocated * b
    size = length-schedule s b front ∙ ap (λ (n : ℕ). n * b) (run_length setting allocated)

-- ---- step after step

pub steps_go_on : StepsGoOn
steps_go_on g all collected allocated first is =
    let w = is.within in
    let behind = is.behind in
    let one = is.one_window in
    record {
      within = omega arith;
      behind = omega arith;
      published = behind;
      one_window = omega arith;
      full = λ more. inr (omega arith);
      next = λ more. elim (is.full (omega arith)) [ inl start ↦ omega arith | inr even ↦ omega arith ];
    }

pub every_step_is_in_windows : EveryStepIsInWindows
every_step_is_in_windows g all zero = record { within = omega arith; behind = omega arith; published = omega arith; one_window = omega arith; full = λ more. inr (omega arith); next = λ more. omega arith }
every_step_is_in_windows g all (suc steps) =
    let on : suc steps - 1 ≡ steps = omega arith in
    subst (λ (n : ℕ). InWindows g all (collected_after g all (suc (suc steps))) (collected_after g all (suc steps)) (collected_after g all n)) (sym on)
    (steps_go_on g all (collected_after g all (suc steps)) (collected_after g all steps) (collected_after g all (steps - 1)) (every_step_is_in_windows g all steps))

pub what_is_told_is_published : WhatIsToldIsPublished
what_is_told_is_published g all collected allocated first round is some from below within late =
    let next = is.next (omega arith) in
    elim (is.full (omega arith)) [
      | inl start ↦ absurd (omega arith)
      | inr full ↦ (omega arith, omega arith, omega arith)
    ]
