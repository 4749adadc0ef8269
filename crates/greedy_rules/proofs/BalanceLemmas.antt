-- What batches in order leave, batch after batch: the flows that are listed, and the need of each.
use Rattle.std.proofs.Common.{◌≡◌, ◌≢◌, ◌+◌, ◌*◌, ℕ, List, [], ◌∷◌, ◌++◌, length, drop, Bool, false, not, ◌||◌, cond, Option, Some, None, All, refl, sym, ap, ◌∙◌, subst, arith}
use Rattle.std.specs.Option.{is_some}
use Rattle.std.proofs.lemmas.Bool.{cond-false}
use Rattle.std.proofs.lemmas.List.{append_assoc, append-nil, drop_at}
use Rattle.std.proofs.lemmas.List.Elements.{All-head, All-tail, All-weaker}
use Rattle.std.proofs.lemmas.List.Folds.{list_any-append}
use Rattle.std.proofs.lemmas.List.Sums.{sum_by-append, sum_by-cons}
use Rattle.greedy_rules.specs.declared.flows.Flow.{Flow}
use Rattle.greedy_rules.specs.declared.flows.Item.{Item}
use Rattle.greedy_rules.specs.declared.flows.Entry.{Entry}
use Rattle.greedy_rules.specs.Batches.{DemandBatch, entry_of}
use Rattle.greedy_rules.specs.Demands.{Key, last_served, HasEachFlowOnce, OpensNewFlows, is_listed, item_of, need_in, need_with, after_batch_by}
use Rattle.greedy_rules.specs.Slot.{Bar, has_flow}
use Rattle.greedy_rules.specs.Limits.{is_barred}
use Rattle.greedy_rules.specs.Allocation.{slots_of}
use Rattle.greedy_rules.specs.Schedule.{first_slot, slots_then_by, list_then_by, schedule_by, schedule_from_by, rest_by, rest_from_by}
use Rattle.greedy_rules.specs.Balance.{is_recorded, AreInOrder, EveryRestIsListedBy, added_by, added_of, clears, NoneClears, EveryScheduleBalancesBy, EveryRestIsListed, EveryScheduleBalances}
use Rattle.list_facts.proofs.Pairs.{AllPairs-nil}
use Rattle.std.proofs.Math.Bool.{or-false}
use Rattle.greedy_rules.proofs.OnceLemmas.{once-after_batch_by}
use Rattle.greedy_rules.proofs.NeedLemmas.{once-after_slots_by, listed-after_slots_by, listed-after_batch_by, balance_by}
use Rattle.greedy_rules.proofs.FrontLemmas.{every_batch_has_its_slots_by, fronts_are_fronts_by}

-- what batches in order leave
pub record Leaves (before : List DemandBatch) (list : List Item) : Type 0 where
  pub once : HasEachFlowOnce list
  pub listed : (flow : Flow) → is_listed list flow ≡ is_recorded before flow

opens_new : (before : List DemandBatch) (list : List Item) (entries : List Entry) → Leaves before list → All (λ entry. entry.opens ≡ not (is_recorded before entry.flow)) entries → OpensNewFlows entries list
opens_new before list entries leaves opens =
    All-weaker (λ (entry : Entry). entry.opens ≡ not (is_recorded before entry.flow)) (λ entry. entry.opens ≡ not (is_listed list entry.flow)) (λ entry is. is ∙ ap not (sym (leaves.listed entry.flow))) entries opens

recorded-more : (before : List DemandBatch) (batch : DemandBatch) (flow : Flow) → (is_recorded before flow || is_some (entry_of batch.entries flow)) ≡ is_recorded (before ++ batch ∷ []) flow
recorded-more before batch flow =
    let here : Bool = is_some (entry_of batch.entries flow) in
    ap (λ b. is_recorded before flow || b) (sym (or-false here))
    ∙ sym (list_any-append (λ (x : DemandBatch). is_some (entry_of x.entries flow)) before (batch ∷ []))

leaves_more_by : (key : Key) (b k : ℕ) (before : List DemandBatch) (batch : DemandBatch) (later : List DemandBatch) (list : List Item) → Leaves before list → AreInOrder before (batch ∷ later) → Leaves (before ++ batch ∷ []) (list_then_by key b k batch list)
leaves_more_by key b k before batch later list leaves order =
    let bar : Bar = is_barred batch.limits in
    let entries : List Entry = batch.entries in
    let opens = opens_new before list entries leaves order.1 in
    record {
      once = once-after_slots_by key bar (first_slot b k) b (after_batch_by key entries list) (once-after_batch_by key entries list order.0 opens leaves.once);
      listed = λ flow.
          listed-after_slots_by key bar (first_slot b k) b (after_batch_by key entries list) flow
          ∙ (listed-after_batch_by key entries list flow order.0 opens
          ∙ (ap (λ b. b || is_some (entry_of entries flow)) (leaves.listed flow) ∙ recorded-more before batch flow));
    }

leaves_all_by : (key : Key) (b k : ℕ) (before batches : List DemandBatch) (list : List Item) → Leaves before list → AreInOrder before batches → Leaves (before ++ batches) (rest_from_by key b k list batches)
leaves_all_by key b k before [] list leaves order = subst (λ (bs : List DemandBatch). Leaves bs list) (sym (append-nil before)) leaves
leaves_all_by key b k before (batch ∷ later) list leaves order =
    subst (λ (bs : List DemandBatch). Leaves bs (rest_from_by key b (k + 1) (list_then_by key b k batch list) later)) (append_assoc before (batch ∷ []) later)
    (leaves_all_by key b (k + 1) (before ++ batch ∷ []) later (list_then_by key b k batch list) (leaves_more_by key b k before batch later list leaves order) order.2)

nothing_left : Leaves [] []
nothing_left = record { once = AllPairs-nil (λ (i j : Item). i.flow ≢ j.flow); listed = λ flow. refl }

pub every_rest_by : (key : Key) → EveryRestIsListedBy key
every_rest_by key b batches order = let all = leaves_all_by key b 0 [] batches [] nothing_left order in (all.once, all.listed)

-- the batches after a front of batches in order are in order after it
order_after : (before front later : List DemandBatch) → AreInOrder before (front ++ later) → AreInOrder before front × AreInOrder (before ++ front) later
order_after before [] later order = (tt, subst (λ (bs : List DemandBatch). AreInOrder bs later) (sym (append-nil before)) order)
order_after before (batch ∷ front) later order =
    let more = order_after (before ++ batch ∷ []) front later order.2 in
    ((order.0, order.1, more.0), subst (λ (bs : List DemandBatch). AreInOrder bs later) (append_assoc before (batch ∷ []) front) more.1)

-- an entry that does not clear adds to the need
need_added : (entry : Option Entry) (need : ℕ) → clears entry ≡ false → need_with entry need ≡ need + added_by entry
need_added None need keeps = omega arith
need_added (Some entry) need keeps = ap (λ (n : ℕ). n + entry.add) (cond-false entry.clear 0 need keeps)

pub slots_of-append : (flow : Flow) (one two : List (List Flow)) → slots_of flow (one ++ two) ≡ slots_of flow one + slots_of flow two
slots_of-append flow one two = sum_by-append (λ (slot : List Flow). cond (has_flow slot flow) 1 0) one two

one_batch_by : (key : Key) (b k : ℕ) (before : List DemandBatch) (batch : DemandBatch) (later : List DemandBatch) (list : List Item) (flow : Flow) → Leaves before list → AreInOrder before (batch ∷ later)
    → need_in (item_of (list_then_by key b k batch list) flow) + slots_of flow (slots_then_by key b k batch list) ≡ need_with (entry_of batch.entries flow) (need_in (item_of list flow))
one_batch_by key b k before batch later list flow leaves order =
    balance_by key (is_barred batch.limits) (first_slot b k) b batch.entries list flow order.0 (opens_new before list batch.entries leaves order.1) leaves.once

-- batches of which none clears the flow
none_cleared_by : (key : Key) (b k : ℕ) (before batches : List DemandBatch) (list : List Item) (flow : Flow) → Leaves before list → AreInOrder before batches → NoneClears flow batches
    → slots_of flow (schedule_from_by key b k list batches) + need_in (item_of (rest_from_by key b k list batches) flow) ≡ need_in (item_of list flow) + added_of flow batches
none_cleared_by key b k before [] list flow leaves order keep = omega arith
none_cleared_by key b k before (batch ∷ later) list flow leaves order keep =
    let then : List Item = list_then_by key b k batch list in
    omega (
      arith,
      one_batch_by key b k before batch later list flow leaves order,
      need_added (entry_of batch.entries flow) (need_in (item_of list flow)) (All-head (λ (x : DemandBatch). clears (entry_of x.entries flow) ≡ false) batch later keep),
      none_cleared_by key b (k + 1) (before ++ batch ∷ []) later then flow (leaves_more_by key b k before batch later list leaves order) order.2 (All-tail (λ (x : DemandBatch). clears (entry_of x.entries flow) ≡ false) batch later keep),
      slots_of-append flow (slots_then_by key b k batch list) (schedule_from_by key b (k + 1) then later),
      sum_by-cons (λ (x : DemandBatch). added_by (entry_of x.entries flow)) batch later,
    )

pub every_schedule_by : (key : Key) → EveryScheduleBalancesBy key
every_schedule_by key b front batch later flow order keep =
    let parts = order_after [] front (batch ∷ later) order in
    let list : List Item = rest_by key b front in
    let k : ℕ = length front in
    let leaves : Leaves front list = leaves_all_by key b 0 [] front [] nothing_left parts.0 in
    let then : List Item = list_then_by key b k batch list in
    let goes_on = fronts_are_fronts_by key b front (batch ∷ later) in
    let slots : drop (k * b) (schedule_by key b (front ++ batch ∷ later)) ≡ schedule_from_by key b k list (batch ∷ later) =
    ap (drop (k * b)) goes_on.0 ∙ drop_at (schedule_by key b front) (schedule_from_by key b k list (batch ∷ later)) (k * b) (every_batch_has_its_slots_by key b 0 [] front) in
    omega (
      arith,
      ap (slots_of flow) slots,
      ap (λ (items : List Item). need_in (item_of items flow)) goes_on.1,
      one_batch_by key b k front batch later list flow leaves parts.1,
      none_cleared_by key b (k + 1) (front ++ batch ∷ []) later then flow (leaves_more_by key b k front batch later list leaves parts.1) parts.1.2 keep,
      slots_of-append flow (slots_then_by key b k batch list) (schedule_from_by key b (k + 1) then later),
    )

-- ---- by the slot in which a flow was last served

pub every_rest : EveryRestIsListed
every_rest = every_rest_by last_served

pub every_schedule : EveryScheduleBalances
every_schedule = every_schedule_by last_served
