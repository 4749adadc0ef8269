-- What becomes of the items in the slots of their batch.
use Rattle.std.proofs.Common.{◌≡◌, ◌<◌, ◌≤◌, ◌+◌, ℕ, zero, suc, List, [], ◌∷◌, ◌++◌, map, length, take, drop, set, get_or, refl, sym, ap, ◌∙◌, arith, length-append}
use Rattle.std.proofs.lemmas.List.{take_all, take-append-le, take_more_set, drop-set-lt, drop_more, append_assoc, length-map}
use Rattle.list_facts.proofs.StableSort.{length-sort_by}
use Rattle.greedy_rules.specs.declared.flows.Flow.{Flow}
use Rattle.greedy_rules.specs.declared.flows.Item.{Item}
use Rattle.greedy_rules.specs.declared.flows.Entry.{Entry}
use Rattle.greedy_rules.specs.Slot.{Bar, greedy_slot}
use Rattle.greedy_rules.specs.Demands.{Key, with_batch, opened, after_batch_by}
use Rattle.greedy_rules.specs.Allocation.{served, after_slot, batch_slots, list_through}
use Rattle.greedy_rules.proofs.ScheduleLemmas.{length-batch_slots}
use Rattle.fewest_order.specs.Orders.{served_through}

-- one item more is changed in its place
pub map_more_set : (f : Item → Item) (items : List Item) (i : ℕ) (d item : Item) → i < length items → item ≡ f (get_or items i d)
    → take (i + 1) (set items i item) ++ map f (drop (i + 1) (set items i item)) ≡ take i items ++ map f (drop i items)
map_more_set f items i d item below is =
    ap (λ (xs : List Item). xs ++ map f (drop (i + 1) (set items i item))) (take_more_set items i item below)
    ∙ (append_assoc (take i items) (item ∷ []) (map f (drop (i + 1) (set items i item)))
    ∙ (ap (λ (xs : List Item). take i items ++ (item ∷ map f xs)) (drop-set-lt (i + 1) items i item (omega arith))
    ∙ (ap (λ (x : Item). take i items ++ (x ∷ map f (drop (i + 1) items))) is
    ∙ ap (λ (xs : List Item). take i items ++ map f xs) (sym (drop_more items i d below)))))

pub map-map : (f g : Item → Item) (xs : List Item) → map g (map f xs) ≡ map (λ x. g (f x)) xs
map-map f g [] = refl
map-map f g (x ∷ xs) = ap (λ (ys : List Item). g (f x) ∷ ys) (map-map f g xs)

pub map-same : (xs : List Item) → map (λ x. x) xs ≡ xs
map-same [] = refl
map-same (x ∷ xs) = ap (λ (ys : List Item). x ∷ ys) (map-same xs)

-- item by item, through the slots that they fill, is slot by slot
served_in_slots : (bar : Bar) (number count : ℕ) (list : List Item) → map (served_through number (batch_slots bar number count list)) list ≡ list_through bar number count list
served_in_slots bar number zero list = map-same list
served_in_slots bar number (suc count) list =
    let next : List Item = after_slot bar number list in
    sym (map-map (served number (greedy_slot bar list)) (served_through (number + 1) (batch_slots bar (number + 1) count next)) list)
    ∙ served_in_slots bar (number + 1) count next

pub served_in_batch : (bar : Bar) (number count : ℕ) (list : List Item) (slots rest : List (List Flow)) → slots ≡ batch_slots bar number count list ++ rest
    → map (served_through number (take count slots)) list ≡ list_through bar number count list
served_in_batch bar number count list slots rest are =
    let filled : List (List Flow) = batch_slots bar number count list in
    let many : length filled ≡ count = length-batch_slots bar number count list in
    let front : take count slots ≡ filled =
    ap (λ (xs : List (List Flow)). take count xs) are ∙ (take-append-le count filled rest (omega arith) ∙ take_all count filled (omega arith)) in
    ap (λ (xs : List (List Flow)). map (served_through number xs) list) front ∙ served_in_slots bar number count list

pub enough_slots : (bar : Bar) (number count : ℕ) (list : List Item) (slots rest : List (List Flow)) → slots ≡ batch_slots bar number count list ++ rest → count ≤ length slots
enough_slots bar number count list slots rest are =
    omega (arith, ap length are, length-append (batch_slots bar number count list) rest, length-batch_slots bar number count list)

-- how long the list is with the batch applied
pub length-applied : (key : Key) (entries : List Entry) (list : List Item) → length (after_batch_by key entries list) ≡ length list + length (opened entries)
length-applied key entries list =
    let applied : List Item = map (with_batch entries) list ++ opened entries in
    length-sort_by (λ (item : Item). key item.need item.last) applied
    ∙ omega (arith, length-append (map (with_batch entries) list) (opened entries), length-map list (with_batch entries))
