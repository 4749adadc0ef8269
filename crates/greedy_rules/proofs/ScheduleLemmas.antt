-- Each slot of a schedule is the greedy slot of the list before it, by the limits of its batch.
use Rattle.std.proofs.Common.{◌≡◌, ◌<◌, ℕ, zero, suc, ◌+◌, ◌-◌, List, [], ◌∷◌, ◌++◌, length, replicate, get_or, All, refl, sym, ap, ◌∙◌, subst, arith, inl, inr}
use Rattle.std.proofs.lemmas.Bool.{cases_lt}
use Rattle.std.proofs.lemmas.List.{get_or_append_left, get_or-append_right, get_or-replicate, length-replicate}
use Rattle.std.proofs.lemmas.List.Elements.{All-weaker}
use Rattle.greedy_rules.specs.declared.flows.Flow.{Flow}
use Rattle.greedy_rules.specs.declared.flows.Item.{Item}
use Rattle.greedy_rules.specs.declared.flows.Entry.{Entry}
use Rattle.greedy_rules.specs.declared.limits.Limits.{Limits}
use Rattle.greedy_rules.specs.Batches.{DemandBatch}
use Rattle.greedy_rules.specs.Demands.{Key, last_served, after_batch_by}
use Rattle.greedy_rules.specs.Slot.{Bar, greedy_slot}
use Rattle.greedy_rules.specs.Limits.{is_barred, KeepsLimits}
use Rattle.greedy_rules.specs.Allocation.{after_slot, batch_slots, batch_lists}
use Rattle.greedy_rules.specs.Schedule.{first_slot, slots_then_by, lists_then_by, list_then_by, schedule_from_by, lists_from_by, slot_limits, schedule_by, slot_at, list_before_by, limits_at, need_before_by}
use Rattle.greedy_rules.specs.Matching.{IsMatching, EverySlotIsAMaximalMatchingBy, EverySlotKeepsItsLimitsBy, EverySlotKeepsTheLimitsBy, IsMaximalMatching, EverySlotIsAMaximalMatching, EverySlotKeepsItsLimits, EverySlotKeepsTheLimits}
use Rattle.list_facts.proofs.Pairs.{AllPairs-nil}
use Rattle.greedy_rules.proofs.OnceLemmas.{FlowsAre}
use Rattle.greedy_rules.proofs.SlotLemmas.{Apart, Keeps, apart_from_all, IsMatching-slot_with, holds-chosen_after, barred-chosen_after}
use Rattle.greedy_rules.proofs.BarLemmas.{taken_is_barred, barred_for_good, not_taken, keeps_limits}
use Rattle.greedy_rules.proofs.KeptLemmas.{All-scheduleBy}
use Rattle.greedy_rules.specs.Allocation.{served, list_through}
use Rattle.std.proofs.lemmas.List.{length-map}

pub length-batch_slots : (bar : Bar) (number count : ℕ) (list : List Item) → length (batch_slots bar number count list) ≡ count
length-batch_slots bar number zero list = refl
length-batch_slots bar number (suc count) list = ap suc (length-batch_slots bar (number + 1) count (after_slot bar number list))

pub length-batch_lists : (bar : Bar) (number count : ℕ) (list : List Item) → length (batch_lists bar number count list) ≡ count
length-batch_lists bar number zero list = refl
length-batch_lists bar number (suc count) list = ap suc (length-batch_lists bar (number + 1) count (after_slot bar number list))

-- a slot of a batch
pub slot_in_batch : (bar : Bar) (number count at : ℕ) (list : List Item) → at < count → get_or (batch_slots bar number count list) at [] ≡ greedy_slot bar (get_or (batch_lists bar number count list) at [])
slot_in_batch bar number zero at list below = absurd (omega arith)
slot_in_batch bar number (suc count) zero list below = refl
slot_in_batch bar number (suc count) (suc at) list below = slot_in_batch bar (number + 1) count at (after_slot bar number list) (omega arith)

slot_in_schedule_by : (key : Key) (b k at : ℕ) (list : List Item) (batches : List DemandBatch) (none : Limits)
    → get_or (schedule_from_by key b k list batches) at [] ≡ greedy_slot (is_barred (get_or (slot_limits b batches) at none)) (get_or (lists_from_by key b k list batches) at [])
slot_in_schedule_by key b k at list [] none = refl
slot_in_schedule_by key b k at list (batch ∷ batches) none =
    let bar : Bar = is_barred batch.limits in
    let applied : List Item = after_batch_by key batch.entries list in
    let left : List Item = list_then_by key b k batch list in
    let slots : List (List Flow) = slots_then_by key b k batch list in
    let lists : List (List Item) = lists_then_by key b k batch list in
    let limits : List Limits = replicate b batch.limits in
    let later_slots : List (List Flow) = schedule_from_by key b (k + 1) left batches in
    let later_lists : List (List Item) = lists_from_by key b (k + 1) left batches in
    let later_limits : List Limits = slot_limits b batches in
    let as_many = length-batch_slots bar (first_slot b k) b applied in
    let as_many_lists = length-batch_lists bar (first_slot b k) b applied in
    elim (cases_lt at b) [
      | inl here ↦
          let by : get_or (limits ++ later_limits) at none ≡ batch.limits = get_or_append_left limits later_limits none at (omega (arith, length-replicate b batch.limits)) ∙ get_or-replicate b at batch.limits none here in
          get_or_append_left slots later_slots [] at (omega (arith, as_many))
          ∙ (slot_in_batch bar (first_slot b k) b at applied here
          ∙ (ap (greedy_slot bar) (sym (get_or_append_left lists later_lists [] at (omega (arith, as_many_lists))))
          ∙ ap (λ (l : Limits). greedy_slot (is_barred l) (get_or (lists ++ later_lists) at [])) (sym by)))
      | inr there ↦
          get_or-append_right slots later_slots b at [] as_many there
          ∙ (slot_in_schedule_by key b (k + 1) (at - b) left batches none
          ∙ (ap (λ (l : Limits). greedy_slot (is_barred l) (get_or later_lists (at - b) [])) (sym (get_or-append_right limits later_limits b at none (length-replicate b batch.limits) there))
          ∙ ap (greedy_slot (is_barred (get_or (limits ++ later_limits) at none))) (sym (get_or-append_right lists later_lists b at [] as_many_lists there))))
    ]

slot_at-schedule_by : (key : Key) (b : ℕ) (batches : List DemandBatch) (number : ℕ) → slot_at (schedule_by key b batches) number ≡ greedy_slot (is_barred (limits_at b batches number)) (list_before_by key b batches number)
slot_at-schedule_by key b batches number = slot_in_schedule_by key b 0 (number - 1) [] batches (record { hosts = 0; cores = 0 })

-- what flows of any kind keep true
abbrev pub Any : Flow → Type 0
Any flow = Unit {0}

pub any_flows : (list : List Item) → FlowsAre Any list
any_flows list k d below = tt

pub keeps_matching : (limits : Limits) → Keeps (is_barred limits) Any IsMatching
keeps_matching limits slot flow any free pairs = IsMatching-slot_with flow slot (apart_from_all slot flow (not_taken limits slot flow free)) pairs

pub empty_keeps : (limits : Limits) → KeepsLimits limits []
empty_keeps limits rack = (omega arith, omega arith)

pub every_slot_by : (key : Key) → EverySlotIsAMaximalMatchingBy key
every_slot_by key b batches number positive within =
    let limits = limits_at b batches number in
    let list = list_before_by key b batches number in
    let P : List Flow → Type 0 = λ slot. IsMaximalMatching limits (need_before_by key b batches number) slot in
    subst P (sym (slot_at-schedule_by key b batches number)) (record {
      matching = holds-chosen_after (is_barred limits) Any IsMatching (keeps_matching limits) [] list (any_flows list) (AllPairs-nil Apart);
      maximal = λ flow needs out. barred-chosen_after (is_barred limits) (taken_is_barred limits) (barred_for_good limits) [] list flow needs;
    })

pub every_slot_keeps_its_limits_by : (key : Key) → EverySlotKeepsItsLimitsBy key
every_slot_keeps_its_limits_by key b batches number =
    let limits = limits_at b batches number in
    let list = list_before_by key b batches number in
    subst (KeepsLimits limits) (sym (slot_at-schedule_by key b batches number))
    (holds-chosen_after (is_barred limits) Any (KeepsLimits limits) (keeps_limits limits) [] list (any_flows list) (empty_keeps limits))

pub every_slot_keeps_the_limits_by : (key : Key) → EverySlotKeepsTheLimitsBy key
every_slot_keeps_the_limits_by key b limits batches same =
    let P : Limits → Type 0 = λ l. Keeps (is_barred l) Any (KeepsLimits limits) in
    All-scheduleBy key Any (KeepsLimits limits) (empty_keeps limits) b batches
    (All-weaker (λ (batch : DemandBatch). batch.limits ≡ limits) (λ batch. All (λ (entry : Entry). Any entry.flow) batch.entries × Keeps (is_barred batch.limits) Any (KeepsLimits limits))
    (λ batch is. ((λ k d below. tt), subst P (sym is) (keeps_limits limits))) batches same)

-- ---- by the slot in which a flow was last served

pub every_slot : EverySlotIsAMaximalMatching
every_slot = every_slot_by last_served

pub every_slot_keeps_its_limits : EverySlotKeepsItsLimits
every_slot_keeps_its_limits = every_slot_keeps_its_limits_by last_served

pub every_slot_keeps_the_limits : EverySlotKeepsTheLimits
every_slot_keeps_the_limits = every_slot_keeps_the_limits_by last_served

pub length-through : (bar : Bar) (number count : ℕ) (list : List Item) → length (list_through bar number count list) ≡ length list
length-through bar number zero list = refl
length-through bar number (suc count) list =
    length-through bar (number + 1) count (after_slot bar number list) ∙ length-map list (served number (greedy_slot bar list))
