-- A list before a batch may be fed, item by item.
use Rattle.std.proofs.Common.{◌-◌, take, drop, get_or, length, ◌+◌, ◌∷◌, sym, ◌∙◌, subst, ◌≡◌, ◌<◌, ℕ, List, [], ◌++◌, All, ap}
use Rattle.std.proofs.lemmas.Bool.{not-true}
use Rattle.std.proofs.Math.Seq.{take-add}
use Rattle.std.proofs.lemmas.List.{take_more, take_rest, append_assoc, take-append-drop}
use Rattle.list_facts.proofs.StableSort.{Floor, Rises, rises_from}
use Rattle.list_facts.proofs.Lists.{All-front}
use Rattle.greedy_rules.proofs.Facts.{InRange}
use Rattle.greedy_rules.specs.declared.flows.Item.{Item}
use Rattle.greedy_rules.specs.declared.flows.Entry.{Entry}
use Rattle.greedy_rules.specs.Demands.{OpensNewFlows, is_listed}
use Rattle.greedy_rules.proofs.OnceLemmas.{Other, not_listed}
use Rattle.slot_batches.specs.Feeding.{IsInOrder}
use Rattle.slot_batches.specs.ArrayStands.{ArrayState, IsSameArrayWork, OpensOthers, MayBeFed, ListsMayBeFed, array_endpoints, array_first, array_size, array_number}
use Rattle.slot_batches.proofs.ListOrder.{in_order_from}
use Rattle.slot_batches.proofs.StageLemmas.{AllPairs-front}
use Rattle.slot_batches.proofs.NextList.{last_of}

floor-front : (n : ℕ) (xs ys : List Item) → Floor last_of n (xs ++ ys) → Floor last_of n xs
floor-front n [] ys floor = tt
floor-front n (x ∷ xs) ys floor = (floor.0, floor-front n xs ys floor.1)

rises-front : (xs ys : List Item) → Rises last_of (xs ++ ys) → Rises last_of xs
rises-front [] ys rises = tt
rises-front (x ∷ xs) ys rises = (floor-front x.last xs ys rises.0, rises-front xs ys rises.1)

pub in_order-front : (xs ys : List Item) → IsInOrder (xs ++ ys) → IsInOrder xs
in_order-front xs ys up = in_order_from last_of xs (rises-front xs ys (rises_from last_of (xs ++ ys) up))

-- a flow that opens is no item's
pub others_open : (batch : List Entry) (list : List Item) → OpensNewFlows batch list → All (OpensOthers batch) list
others_open batch list opens = λ k d below j e within yes same.
    not_listed list _ (not-true (is_listed list _) (sym (opens j e within) ∙ yes)) k d below (sym same)

pub lists_may_be_fed : ListsMayBeFed
lists_may_be_fed batch endpoints number fed rest before in_range opens = record {
  in_order = in_order-front fed rest before.in_order;
  once = AllPairs-front Other fed rest before.once;
  in_range = All-front (InRange endpoints) fed rest in_range;
  below = All-front (λ item. item.last < number) fed rest before.below;
  others_open = All-front (OpensOthers batch) fed rest (others_open batch (fed ++ rest) opens);
}

may_front : (batch : List Entry) (endpoints number : ℕ) (xs ys : List Item) → MayBeFed batch endpoints number (xs ++ ys) → MayBeFed batch endpoints number xs
may_front batch endpoints number xs ys may = record {
  in_order = in_order-front xs ys may.in_order;
  once = AllPairs-front Other xs ys may.once;
  in_range = All-front (InRange endpoints) xs ys may.in_range;
  below = All-front (λ item. item.last < number) xs ys may.below;
  others_open = All-front (OpensOthers batch) xs ys may.others_open;
}

pub one_more_fed : (fed items : List Item) (at : ℕ) (d : Item) → at < length items → fed ++ take (at + 1) items ≡ (fed ++ take at items) ++ get_or items at d ∷ []
one_more_fed fed items at d below = ap (λ (xs : List Item). fed ++ xs) (take_more items at d below) ∙ sym (append_assoc fed (take at items) (get_or items at d ∷ []))

-- of the items that may be fed one after the other, the next
pub may_next : (batch : List Entry) (endpoints number endpoints' number' : ℕ) (fed items : List Item) (at : ℕ) (d : Item) → at < length items → MayBeFed batch endpoints number (fed ++ items)
    → endpoints' ≡ endpoints → number' ≡ number → MayBeFed batch endpoints' number' ((fed ++ take at items) ++ get_or items at d ∷ [])
may_next batch endpoints number endpoints' number' fed items at d below may endpoints_are number_is =
    let front : List Item = fed ++ take (at + 1) items in
    let rest : List Item = drop (at + 1) items in
    let whole : fed ++ items ≡ front ++ rest =
    ap (λ (xs : List Item). fed ++ xs) (sym (take-append-drop (at + 1) items)) ∙ sym (append_assoc fed (take (at + 1) items) rest) in
    subst (λ (n : ℕ). MayBeFed batch n number' ((fed ++ take at items) ++ get_or items at d ∷ [])) (sym endpoints_are)
    (subst (λ (n : ℕ). MayBeFed batch endpoints n ((fed ++ take at items) ++ get_or items at d ∷ [])) (sym number_is)
    (subst (MayBeFed batch endpoints number) (one_more_fed fed items at d below) (may_front batch endpoints number front rest (subst (MayBeFed batch endpoints number) whole may))))

pub may_feed_part : (batch : List Entry) (endpoints number : ℕ) (fed items : List Item) (n : ℕ) → MayBeFed batch endpoints number (fed ++ items) → MayBeFed batch endpoints number (fed ++ take n items)
may_feed_part batch endpoints number fed items n may =
    let whole : fed ++ items ≡ (fed ++ take n items) ++ drop n items =
    ap (λ (xs : List Item). fed ++ xs) (sym (take-append-drop n items)) ∙ sym (append_assoc fed (take n items) (drop n items)) in
    may_front batch endpoints number (fed ++ take n items) (drop n items) (subst (MayBeFed batch endpoints number) whole may)

-- so many of the items, and so many of the rest
pub part_on : (fed items : List Item) (from count : ℕ) → (fed ++ take from items) ++ take count (take (length items - from) (drop from items)) ≡ fed ++ take (from + count) items
part_on fed items from count =
    ap (λ (xs : List Item). (fed ++ take from items) ++ take count xs) (take_rest items from)
    ∙ (append_assoc fed (take from items) (take count (drop from items)) ∙ ap (λ (xs : List Item). fed ++ xs) (sym (take-add from count items)))

pub may_feed_rest : (batch : List Entry) (endpoints number endpoints' number' : ℕ) (fed items : List Item) (from : ℕ) → MayBeFed batch endpoints number (fed ++ items) → endpoints' ≡ endpoints → number' ≡ number
    → MayBeFed batch endpoints' number' ((fed ++ take from items) ++ take (length items - from) (drop from items))
may_feed_rest batch endpoints number endpoints' number' fed items from may endpoints_are number_is =
    let whole : (fed ++ take from items) ++ take (length items - from) (drop from items) ≡ fed ++ items =
    ap (λ (xs : List Item). (fed ++ take from items) ++ xs) (take_rest items from)
    ∙ (append_assoc fed (take from items) (drop from items) ∙ ap (λ (xs : List Item). fed ++ xs) (take-append-drop from items)) in
    subst (MayBeFed batch endpoints' number') (sym whole)
    (subst (λ (n : ℕ). MayBeFed batch n number' (fed ++ items)) (sym endpoints_are) (subst (λ (n : ℕ). MayBeFed batch endpoints n (fed ++ items)) (sym number_is) may))

-- one work after the other
pub same_on : (was mid now : ArrayState) → IsSameArrayWork (array_endpoints was) (array_size was) (array_number was) (array_first was) mid
    → IsSameArrayWork (array_endpoints mid) (array_size mid) (array_number mid) (array_first mid) now → IsSameArrayWork (array_endpoints was) (array_size was) (array_number was) (array_first was) now
same_on was mid now first then = record {
  same_endpoints = then.same_endpoints ∙ first.same_endpoints;
  same_size = then.same_size ∙ first.same_size;
  same_number = then.same_number ∙ first.same_number;
  same_first = then.same_first ∙ first.same_first;
}
