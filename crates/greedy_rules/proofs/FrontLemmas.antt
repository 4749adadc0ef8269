-- The schedule of batches and the demand that they leave, some batches more.
use Rattle.std.proofs.Common.{◌≡◌, ◌<◌, ◌+◌, ◌*◌, ℕ, suc, List, [], ◌∷◌, ◌++◌, length, get_or, take, drop, sym, ap, ◌∙◌, arith}
use Rattle.std.proofs.lemmas.List.{take_more, drop_more, take_at, drop_at, append_assoc, length-append, length-take, take-append-drop}
use Rattle.greedy_rules.specs.declared.flows.Flow.{Flow}
use Rattle.greedy_rules.specs.declared.flows.Item.{Item}
use Rattle.greedy_rules.specs.Batches.{DemandBatch}
use Rattle.greedy_rules.specs.Demands.{Key, last_served, after_batch_by}
use Rattle.greedy_rules.specs.Limits.{is_barred}
use Rattle.greedy_rules.specs.Schedule.{first_slot, slots_then_by, list_then_by, schedule_by, schedule_from_by, rest_by, rest_from_by}
use Rattle.greedy_rules.specs.Fronts.{SchedulesGoOnBy, FrontsAreFrontsBy, EveryBatchHasItsSlotsBy, SlotsOfABatchBy, SchedulesGoOn, FrontsAreFronts, EveryBatchHasItsSlots, SlotsOfABatch}
use Rattle.greedy_rules.proofs.ScheduleLemmas.{length-batch_slots}

rest-append_by : (key : Key) (b k : ℕ) (list : List Item) (xs ys : List DemandBatch) → rest_from_by key b k list (xs ++ ys) ≡ rest_from_by key b (k + length xs) (rest_from_by key b k list xs) ys
rest-append_by key b k list [] ys = ap (λ (n : ℕ). rest_from_by key b n list ys) (omega arith)
rest-append_by key b k list (x ∷ xs) ys =
    let on : k + 1 + length xs ≡ k + suc (length xs) = omega arith in
    rest-append_by key b (k + 1) (list_then_by key b k x list) xs ys ∙ ap (λ (n : ℕ). rest_from_by key b n (rest_from_by key b (k + 1) (list_then_by key b k x list) xs) ys) on

schedule-append_by : (key : Key) (b k : ℕ) (list : List Item) (xs ys : List DemandBatch) → schedule_from_by key b k list (xs ++ ys) ≡ schedule_from_by key b k list xs ++ schedule_from_by key b (k + length xs) (rest_from_by key b k list xs) ys
schedule-append_by key b k list [] ys = ap (λ (n : ℕ). schedule_from_by key b n list ys) (omega arith)
schedule-append_by key b k list (x ∷ xs) ys =
    let on : k + 1 + length xs ≡ k + suc (length xs) = omega arith in
    let then : List Item = list_then_by key b k x list in
    ap (λ (s : List (List Flow)). slots_then_by key b k x list ++ s)
    (schedule-append_by key b (k + 1) then xs ys ∙ ap (λ (n : ℕ). schedule_from_by key b (k + 1) then xs ++ schedule_from_by key b n (rest_from_by key b (k + 1) then xs) ys) on)
    ∙ sym (append_assoc (slots_then_by key b k x list) (schedule_from_by key b (k + 1) then xs) (schedule_from_by key b (k + suc (length xs)) (rest_from_by key b (k + 1) then xs) ys))

pub schedules_go_on_by : (key : Key) → SchedulesGoOnBy key
schedules_go_on_by key b k list front later = (schedule-append_by key b k list front later, rest-append_by key b k list front later)

pub times_more : (n b : ℕ) → suc n * b ≡ b + n * b
times_more n b = grind arith

length-slots_then_by : (key : Key) (b k : ℕ) (batch : DemandBatch) (list : List Item) → length (slots_then_by key b k batch list) ≡ b
length-slots_then_by key b k batch list = length-batch_slots (is_barred batch.limits) (first_slot b k) b (after_batch_by key batch.entries list)

pub every_batch_has_its_slots_by : (key : Key) → EveryBatchHasItsSlotsBy key
every_batch_has_its_slots_by key b k list [] = let none : 0 ≡ 0 * b = omega arith in none
every_batch_has_its_slots_by key b k list (x ∷ batches) =
    let then : List Item = list_then_by key b k x list in
    omega (
      arith,
      length-append (slots_then_by key b k x list) (schedule_from_by key b (k + 1) then batches),
      length-slots_then_by key b k x list,
      every_batch_has_its_slots_by key b (k + 1) then batches,
      times_more (length batches) b,
    )

pub fronts_are_fronts_by : (key : Key) → FrontsAreFrontsBy key
fronts_are_fronts_by key b front later =
    let start : 0 + length front ≡ length front = omega arith in
    let whole : schedule_by key b (front ++ later) ≡ schedule_by key b front ++ schedule_from_by key b (length front) (rest_by key b front) later =
    schedule-append_by key b 0 [] front later ∙ ap (λ (n : ℕ). schedule_by key b front ++ schedule_from_by key b n (rest_by key b front) later) start in (
      whole,
      rest-append_by key b 0 [] front later ∙ ap (λ (n : ℕ). rest_from_by key b n (rest_by key b front) later) start,
      ap (take (length front * b)) whole
          ∙ take_at (schedule_by key b front) (schedule_from_by key b (length front) (rest_by key b front) later) (length front * b) (every_batch_has_its_slots_by key b 0 [] front),
    )

-- the schedule from batch k on
split_at_by : (key : Key) (b k : ℕ) (batches : List DemandBatch) (d : DemandBatch) → k < length batches
    → drop (k * b) (schedule_by key b batches)
    ≡ slots_then_by key b k (get_or batches k d) (rest_by key b (take k batches)) ++ schedule_from_by key b (k + 1) (list_then_by key b k (get_or batches k d) (rest_by key b (take k batches))) (drop (k + 1) batches)
split_at_by key b k batches d below =
    let first : List (List Flow) = schedule_by key b (take k batches) in
    let left : List Item = rest_by key b (take k batches) in
    let count : length (take k batches) ≡ k = omega (arith, length-take k batches) in
    let place : 0 + length (take k batches) ≡ k = omega (arith, count) in
    let long : length first ≡ k * b = every_batch_has_its_slots_by key b 0 [] (take k batches) ∙ ap (λ (n : ℕ). n * b) count in
    ap (λ (xs : List DemandBatch). drop (k * b) (schedule_by key b xs)) (sym (take-append-drop k batches))
    ∙ (ap (drop (k * b)) (schedule-append_by key b 0 [] (take k batches) (drop k batches))
    ∙ (drop_at first (schedule_from_by key b (0 + length (take k batches)) left (drop k batches)) (k * b) long
    ∙ (ap (λ (n : ℕ). schedule_from_by key b n left (drop k batches)) place
    ∙ ap (schedule_from_by key b k left) (drop_more batches k d below))))

pub slots_of_a_batch_by : (key : Key) → SlotsOfABatchBy key
slots_of_a_batch_by key b k batches d below =
    let batch : DemandBatch = get_or batches k d in
    let left : List Item = rest_by key b (take k batches) in
    let place : 0 + length (take k batches) ≡ k = omega (arith, length-take k batches) in (
      ap (take b) (split_at_by key b k batches d below)
          ∙ take_at (slots_then_by key b k batch left) (schedule_from_by key b (k + 1) (list_then_by key b k batch left) (drop (k + 1) batches)) b (length-slots_then_by key b k batch left),
      ap (rest_by key b) (take_more batches k d below)
          ∙ (rest-append_by key b 0 [] (take k batches) (batch ∷ []) ∙ ap (λ (n : ℕ). list_then_by key b n batch left) place),
    )

-- ---- by the slot in which a flow was last served

pub schedules_go_on : SchedulesGoOn
schedules_go_on = schedules_go_on_by last_served

pub every_batch_has_its_slots : EveryBatchHasItsSlots
every_batch_has_its_slots = every_batch_has_its_slots_by last_served

pub fronts_are_fronts : FrontsAreFronts
fronts_are_fronts = fronts_are_fronts_by last_served

pub slots_of_a_batch : SlotsOfABatch
slots_of_a_batch = slots_of_a_batch_by last_served
