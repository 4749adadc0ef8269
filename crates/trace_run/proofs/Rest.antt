-- The ledger of each lane and the demand list.
use Rattle.std.proofs.Common.{◌≡◌, ◌<◌, ◌≤◌, ◌+◌, ◌-◌, ◌*◌, ℕ, zero, suc, List, [], ◌∷◌, ◌++◌, length, map, take, drop, Option, sym, ap, ◌∙◌, subst, arith, mul-le-mul_right}
use Rattle.std.proofs.Math.Seq.{drop-append_seam, drop-append-add, drop-nil}
use Rattle.std.proofs.lemmas.List.{take_all, drop-append-le, append-nil}
use Rattle.greedy_rules.specs.declared.flows.Flow.{Flow}
use Rattle.greedy_rules.specs.declared.flows.Item.{Item}
use Rattle.greedy_rules.specs.declared.flows.Entry.{Entry}
use Rattle.greedy_rules.specs.Batches.{DemandBatch, entry_of}
use Rattle.greedy_rules.specs.Demands.{item_of, need_in, need_with}
use Rattle.greedy_rules.specs.Allocation.{slots_of}
use Rattle.greedy_rules.specs.Schedule.{first_slot, slots_then, list_then, schedule, schedule_from, rest, rest_from}
use Rattle.greedy_rules.specs.Cells.{flow_of}
use Rattle.greedy_rules.proofs.BalanceLemmas.{slots_of-append}
use Rattle.endpoint_history.specs.Lane.{LaneHistory, last_reset}
use Rattle.endpoint_history.specs.Counts.{owed}
use Rattle.endpoint_history.specs.Entries.{entries_of_batches}
use Rattle.endpoint_history.specs.Rest.{need_through, need_left, FitNeeds, slots_from}
use Rattle.endpoint_history.specs.LedgerLaws.{AddsSumToOwed}
use Rattle.endpoint_history.specs.Steps.{TakesInRound}
use Rattle.endpoint_history.proofs.OneRest.{none-allocated}
use Rattle.trace_run.specs.Run.{Setting, slots_in_batch, replayed}
use Rattle.trace_run.specs.Histories.{lane_after}
use Rattle.trace_run.specs.Windows.{batch_at}
use Rattle.trace_run.specs.Rest.{allocated_from, allocated_in_batch, left_after, need_after, OwedIsAllocatedOrLeft, PublishedIsPending}
use Rattle.trace_run.specs.Premises.{Schedules, EndsLaws}
use Rattle.trace_run.proofs.Fronts.{Begins, length-slots, length-schedule, fronts_of_schedule, run_length, run_begins, later_is}
use Rattle.trace_run.proofs.Applicable.{EachFollows, runs, recording}

-- the flow's slots in each of these batches
abbrev pub slots_by_batch : Flow → ℕ → ℕ → List Item → List DemandBatch → List ℕ
slots_by_batch flow b k list [] = []
slots_by_batch flow b k list (batch ∷ batches) = slots_of flow (slots_then b k batch list) ∷ slots_by_batch flow b (k + 1) (list_then b k batch list) batches

record IsLeft (flow : Flow) (b k : ℕ) (list : List Item) (batches later : List DemandBatch) : Type 0 where
  left : need_left (map (λ x. entry_of x.entries flow) (batches ++ later)) (slots_by_batch flow b k list batches) (need_in (item_of list flow))
      ≡ need_through (map (λ x. entry_of x.entries flow) later) (need_in (item_of (rest_from b k list batches) flow))
  fits : FitNeeds (map (λ x. entry_of x.entries flow) (batches ++ later)) (slots_by_batch flow b k list batches) (need_in (item_of list flow))

-- of the batches allocated and those still to come
flow_is_left : (s : Schedules) (endpoints b k : ℕ) (list : List Item) (batches later : List DemandBatch) (flow : Flow) →
    EachFollows endpoints b k list batches → IsLeft flow b k list batches later
flow_is_left s endpoints b k list [] later flow each = record { left = none-allocated (map (λ x. entry_of x.entries flow) later) (need_in (item_of list flow)); fits = fits_none (map (λ x. entry_of x.entries flow) later) }
  where
    fits_none : (es : List (Option Entry)) → FitNeeds es [] (need_in (item_of list flow))
    fits_none [] = tt
    fits_none (e ∷ es) = tt
flow_is_left s endpoints b k list (batch ∷ batches) later flow each =
    let after = list_then b k batch list in
    let slots = slots_then b k batch list in
    let a = each.0 in
    let balanced = (s.balances batch.limits endpoints (first_slot b k) b batch.entries list a.rises a.opens a.once a.below).balance flow in
    let more = flow_is_left s endpoints b (k + 1) after batches later flow each.1 in
    let needed = need_with (entry_of batch.entries flow) (need_in (item_of list flow)) in
    let less : needed - slots_of flow slots ≡ need_in (item_of after flow) = omega arith in
    record {
      left = ap (λ n. need_left (map (λ x. entry_of x.entries flow) (batches ++ later)) (slots_by_batch flow b (k + 1) after batches) n) less ∙ more.left;
      fits = (omega arith, subst (λ (n : ℕ). FitNeeds (map (λ x. entry_of x.entries flow) (batches ++ later)) (slots_by_batch flow b (k + 1) after batches) n) (sym less) more.fits);
    }

from_batch : (s : Schedules) (flow : Flow) (b batch k : ℕ) (list : List Item) (batches : List DemandBatch) →
    slots_from batch (slots_by_batch flow b k list batches) ≡ slots_of flow (drop (batch * b) (schedule_from b k list batches))
from_batch s flow b batch k list [] = sym (ap (slots_of flow) (drop-nil (batch * b)))
from_batch s flow b zero k list (x ∷ batches) =
    let start : 0 ≡ zero * b = omega arith in
    let later : List (List Flow) = schedule_from b (k + 1) (list_then b k x list) batches in
    ap (λ n. slots_of flow (slots_then b k x list) + n) (from_batch s flow b zero (k + 1) (list_then b k x list) batches ∙ ap (λ (n : ℕ). slots_of flow (drop n later)) (sym start))
    ∙ (sym (slots_of-append flow (slots_then b k x list) later) ∙ ap (λ (n : ℕ). slots_of flow (drop n (slots_then b k x list ++ later))) start)
from_batch s flow b (suc batch) k list (x ∷ batches) =
    let later : List (List Flow) = schedule_from b (k + 1) (list_then b k x list) batches in
    let slots : List (List Flow) = slots_then b k x list in
    let size : length slots ≡ b = length-slots s b k x list in
    let on : length slots + batch * b ≡ suc batch * b = ap (λ (n : ℕ). n + batch * b) size ∙ times_more batch b in
    from_batch s flow b batch (k + 1) (list_then b k x list) batches
    ∙ (ap (slots_of flow) (sym (drop-append-add slots later (batch * b))) ∙ ap (λ (n : ℕ). slots_of flow (drop n (slots ++ later))) on)
  where
    times_more : (n b : ℕ) → b + n * b ≡ suc n * b
    times_more n b = grind arith

-- ---- at the end of each round

owed-none : (g dst : ℕ) → AddsSumToOwed → owed g [] dst ≡ 0
owed-none g dst sums = let sum = sums g [] dst in omega arith

pub owed_is_allocated_or_left : Schedules → EndsLaws → OwedIsAllocatedOrLeft
owed_is_allocated_or_left s ends setting allocated zero src dst within low high =
    let none : allocated ≡ 0 = omega arith in
    subst (λ (m : ℕ). owed setting.g [] dst ≡ allocated_from setting m 0 src dst + need_after setting m 0 src dst) (sym none)
    (owed-none setting.g dst ends.adds ∙ sym (ap (λ (xs : List (List Flow)). slots_of (flow_of src dst) xs + 0) (drop-nil (0 * setting.b))))
owed_is_allocated_or_left s ends setting allocated (suc rounds) src dst within low high =
    rest_now
    ∙ (ap (λ n. n + need_left (entries_of_batches src setting.g all_calls dst) slots 0) (from_batch s flow setting.b (last_reset calls) 0 [] front)
    ∙ ap (λ n. allocated_from setting allocated (last_reset calls) src dst + n)
    (ap (λ (es : List (Option Entry)). need_left es slots 0) (sym entries)
    ∙ (left.left ∙ ap (λ (bs : List DemandBatch). need_through (map (λ x. entry_of x.entries flow) bs) (left_after setting allocated src dst)) (sym later))))
  where
    flow : Flow
    flow = flow_of src dst

    calls : LaneHistory
    calls = recording setting rounds src

    all_calls : LaneHistory
    all_calls = lane_after setting (suc rounds) src

    front : List DemandBatch
    front = (replayed setting allocated).batches

    whole : List DemandBatch
    whole = (replayed setting (suc rounds)).batches

    begins : Begins front whole
    begins = run_begins setting allocated (suc rounds) within

    slots : List ℕ
    slots = slots_by_batch flow setting.b 0 [] front

    later : drop allocated whole ≡ begins.later
    later = later_is setting allocated (suc rounds) within

    left : IsLeft flow setting.b 0 [] front begins.later
    left = flow_is_left s setting.endpoints setting.b 0 [] front begins.later flow (runs s setting allocated).follows

    entries : map (λ x. entry_of x.entries flow) (front ++ begins.later) ≡ entries_of_batches src setting.g all_calls dst
    entries = ap (λ (bs : List DemandBatch). map (λ x. entry_of x.entries flow) bs) (sym begins.is) ∙ (runs s setting (suc rounds)).is.entries src dst low high

    takes : TakesInRound calls
    takes = (ends.order setting.endpoints setting.g ((replayed setting (suc rounds)).rounds src)).takes

    rest_now : owed setting.g calls dst ≡ slots_from (last_reset calls) slots + need_left (entries_of_batches src setting.g all_calls dst) slots 0
    rest_now = ends.rest src setting.g (length ((replayed setting rounds).rounds src)) calls dst slots takes
        (subst (λ (es : List (Option Entry)). FitNeeds es slots 0) entries left.fits)

-- ---- one batch more is allocated

whole_new : (s : Schedules) (b k : ℕ) (x : DemandBatch) (list : List Item) → take b (slots_then b k x list ++ []) ≡ slots_then b k x list ++ []
whole_new s b k x list =
    let size : length (slots_then b k x list ++ []) ≡ b = ap length (append-nil (slots_then b k x list)) ∙ length-slots s b k x list in
    take_all b (slots_then b k x list ++ []) (omega arith)

one_more : (s : Schedules) (flow : Flow) (b batch reset : ℕ) (front : List DemandBatch) (last : DemandBatch) → length front ≡ batch → reset ≤ batch →
    slots_of flow (drop (reset * b) (schedule b (front ++ last ∷ []))) ≡ slots_of flow (drop (reset * b) (schedule b front)) + slots_of flow (slots_in_batch b batch (front ++ last ∷ []))
one_more s flow b batch reset front last count within =
    let next : List DemandBatch = front ++ last ∷ [] in
    let new : List (List Flow) = slots_then b (0 + length front) last (rest b front) ++ [] in
    let splits : schedule b next ≡ schedule b front ++ new = (s.more b 0 [] front (last ∷ [])).0 in
    let size : length (schedule b front) ≡ batch * b = length-schedule s b front ∙ ap (λ (n : ℕ). n * b) count in
    let fits : reset * b ≤ length (schedule b front) = subst (λ (n : ℕ). reset * b ≤ n) (sym size) (mul-le-mul_right b within) in
    let its : slots_in_batch b batch next ≡ new = ap (λ (xs : List (List Flow)). take b (drop (batch * b) xs)) splits
    ∙ (ap (λ (n : ℕ). take b (drop n (schedule b front ++ new))) (sym size)
    ∙ (ap (take b) (drop-append_seam (schedule b front) new)
    ∙ whole_new s b (0 + length front) last (rest b front))) in
    ap (λ (xs : List (List Flow)). slots_of flow (drop (reset * b) xs)) splits
    ∙ (ap (slots_of flow) (drop-append-le (reset * b) (schedule b front) new fits)
    ∙ (slots_of-append flow (drop (reset * b) (schedule b front)) new
    ∙ ap (λ (xs : List (List Flow)). slots_of flow (drop (reset * b) (schedule b front)) + slots_of flow xs) (sym its)))

pub one_batch_more : (s : Schedules) (setting : Setting) (batch rounds reset src dst : ℕ) → batch < rounds → reset ≤ batch →
    allocated_from setting (suc batch) reset src dst ≡ allocated_from setting batch reset src dst + allocated_in_batch setting batch rounds src dst
one_batch_more s setting batch rounds reset src dst below kept =
    let flow : Flow = flow_of src dst in
    let b : ℕ = setting.b in
    let front = (replayed setting batch).batches in
    let last : DemandBatch = batch_at setting batch in
    let next : List DemandBatch = front ++ last ∷ [] in
    let begins = run_begins setting (suc batch) rounds (omega arith) in
    let count = run_length setting batch in
    let long = run_length setting (suc batch) in
    let here : slots_in_batch b batch (replayed setting rounds).batches ≡ slots_in_batch b batch next =
    ap (slots_in_batch b batch) begins.is ∙ fronts_of_schedule s b batch next begins.later (omega arith) in
    one_more s flow b batch reset front last count kept ∙ ap (λ (xs : List (List Flow)). allocated_from setting batch reset src dst + slots_of flow xs) (sym here)

pub published_is_pending : Schedules → OwedIsAllocatedOrLeft → PublishedIsPending
published_is_pending s owed_is setting batch rounds src dst below low high kept =
    let is = owed_is setting (suc batch) rounds src dst (omega arith) low high in
    let more = one_batch_more s setting batch rounds (last_reset (lane_after setting rounds src)) src dst below kept in
    omega arith

-- more batches have more slots
more_slots : (flow : Flow) (n : ℕ) (xs ys : List (List Flow)) → slots_of flow (drop n xs) ≤ slots_of flow (drop n (xs ++ ys))
more_slots flow zero xs ys = let all = slots_of-append flow xs ys in omega arith
more_slots flow (suc n) [] ys = omega arith
more_slots flow (suc n) (x ∷ xs) ys = more_slots flow n xs ys

pub allocated_grows : (s : Schedules) (setting : Setting) (less more reset src dst : ℕ) → less ≤ more → allocated_from setting less reset src dst ≤ allocated_from setting more reset src dst
allocated_grows s setting less more reset src dst within =
    let flow : Flow = flow_of src dst in
    let b : ℕ = setting.b in
    let front = (replayed setting less).batches in
    let begins = run_begins setting less more within in
    let whole : schedule b (replayed setting more).batches ≡ schedule b front ++ schedule_from b (0 + length front) (rest b front) begins.later =
    ap (schedule b) begins.is ∙ (s.more b 0 [] front begins.later).0 in
    subst (λ (xs : List (List Flow)). allocated_from setting less reset src dst ≤ slots_of flow (drop (reset * b) xs)) (sym whole)
    (more_slots flow (reset * b) (schedule b front) (schedule_from b (0 + length front) (rest b front) begins.later))
