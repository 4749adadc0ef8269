-- A list by need: what a batch changes, and what its slots leave, stands apart from the others.
use Rattle.std.proofs.Common.{◌≡◌, ◌≢◌, ◌<◌, ◌≤◌, ◌+◌, ◌-◌, ◌*◌, ◌⊎◌, ℕ, List, length, take, drop, [], ◌∷◌, ◌++◌, map, filter, Bool, true, false, not, ◌&&◌, nat_lt, nat_le, All, replicate, refl, sym, ap, ◌∙◌, subst, arith, inl, inr}
use Rattle.std.specs.List.Sorted.{IsNonDecreasingBy}
use Rattle.std.proofs.lemmas.Bool.{cond_both, cond-true, cond-false, cases_Bool, and_parts, and_left, not-true, not-false, ltb-true, ltb-false, leb-true, lt-ltb, le-ltb}
use Rattle.std.proofs.lemmas.List.{append-nil, append_assoc, length-map, map-append, length-drop, take-append-drop, take_rest}
use Rattle.std.proofs.lemmas.List.Elements.{All-nil, All-cons, All-head, All-tail, All-append, All-map, All-drop, filter-append}
use Rattle.list_facts.specs.Order.{sort_by}
use Rattle.list_facts.proofs.StableSort.{Floor, Rises, floor_lower, rises_from, All-sort_by}
use Rattle.greedy_rules.specs.declared.flows.Flow.{Flow}
use Rattle.greedy_rules.specs.declared.flows.Item.{Item}
use Rattle.greedy_rules.specs.declared.flows.Entry.{Entry}
use Rattle.greedy_rules.specs.declared.limits.Limits.{Limits}
use Rattle.greedy_rules.specs.Slot.{Bar, slot_with}
use Rattle.greedy_rules.specs.Limits.{is_barred}
use Rattle.greedy_rules.specs.Walk.{turn}
use Rattle.greedy_rules.specs.Demands.{HasEachFlowOnce, with_batch, opened, after_batch_by}
use Rattle.greedy_rules.specs.Allocation.{batch_slots, list_after_slots_by}
use Rattle.greedy_rules.specs.Examples.{remaining}
use Rattle.greedy_rules.specs.Batches.{IsBatch}
use Rattle.greedy_rules.proofs.Facts.{few, once-after_batch_by, flows-after_batch_by}
use Rattle.slot_batches.specs.Filled.{Fill, MayBeTakenUp, HasTakenUp}
use Rattle.slot_batches.specs.Progress.{StandsAfter}
use Rattle.slot_batches.specs.FlowByFlow.{slots_with, item_after, slots_after, items_after}
use Rattle.slot_batches.specs.Feeding.{unserved, newly_served}
use Rattle.slot_batches.proofs.SlotExchange.{slot_by_slot}
use Rattle.slot_batches.proofs.ListOrder.{in_order_from, in_order-sort_by, sort_by-rises}
use Rattle.slot_batches.proofs.FilledLemmas.{lengths_after}
use Rattle.slot_batches.proofs.NextList.{lasts-opened}
use Rattle.slot_batches.proofs.SortedRuns.{item_after_low}
use Rattle.slot_batches.proofs.TurnFacts.{item_after_need}
use Rattle.fewest_order.specs.FewestFirst.{MayServe, is_held, is_raised, held, kept_items, raised_of, lowered_of}
use Rattle.fewest_order.proofs.ServeLemmas.{map-same, length-applied}
use Rattle.fewest_order.proofs.PartLemmas.{Apart, sort_by-apart}
use Rattle.fewest_order.specs.declared.places.Side.TheVariants.{Front, Behind}
use Rattle.fewest_order.proofs.PlaceLemmas.{need_of, rises-take, rises-drop, below_behind, low_first, sorted_others}

-- what a batch raises of a list is above what it left no higher than the list's first need
raised_above : (entries : List Entry) (n m : ℕ) (list : List Item) → m ≤ n → Floor need_of n list → All (λ y. m ≢ y.need) (map (with_batch entries) (filter (is_raised entries) list))
raised_above entries n m [] le floor = All-nil (λ y. m ≢ y.need)
raised_above entries n m (item ∷ list) le floor =
    let f : Item → Item = with_batch entries in
    let P : Item → Type 0 = λ y. m ≢ y.need in
    let rest : List Item = filter (is_raised entries) list in
    let later = raised_above entries n m list le floor.1 in
    cond_both (is_raised entries item) (item ∷ rest) rest (λ xs. All P (map f xs))
    (λ is. All-cons P (f item) (map f rest) (λ e. let up : item.need < (f item).need = ltb-true _ _ is in omega (arith, e, up, floor.0, le)) later)
    (λ _. later)

raised_apart : (entries : List Entry) (list : List Item) → Rises need_of list → Apart need_of (with_batch entries) (is_raised entries) list
raised_apart entries [] rises = tt
raised_apart entries (item ∷ list) rises = (
  λ not_it. let low : (with_batch entries item).need ≤ item.need = ltb-false _ _ not_it in raised_above entries item.need (with_batch entries item).need list low rises.0,
  raised_apart entries list rises.1,
)

-- what a batch holds of a list is above what it lowered below the list's first need
held_above : (entries : List Entry) (n m : ℕ) (list : List Item) → m < n → Floor need_of n list → All (λ y. m ≢ y.need) (map (with_batch entries) (held entries list))
held_above entries n m [] less floor = All-nil (λ y. m ≢ y.need)
held_above entries n m (item ∷ list) less floor =
    let f : Item → Item = with_batch entries in
    let P : Item → Type 0 = λ y. m ≢ y.need in
    let rest : List Item = held entries list in
    let later = held_above entries n m list less floor.1 in
    cond_both (is_held entries item) (item ∷ rest) rest (λ xs. All P (map f xs))
    (λ is. All-cons P (f item) (map f rest) (λ e. let up : item.need ≤ (f item).need = ltb-false _ _ (not-true _ is) in omega (arith, e, up, floor.0, less)) later)
    (λ _. later)

held_apart : (entries : List Entry) (list : List Item) → Rises need_of list → Apart need_of (with_batch entries) (is_held entries) list
held_apart entries [] rises = tt
held_apart entries (item ∷ list) rises = (
  λ not_it. let low : (with_batch entries item).need < item.need = ltb-true _ _ (not-false _ not_it) in held_above entries item.need (with_batch entries item).need list low rises.0,
  held_apart entries list rises.1,
)

floor-held : (entries : List Entry) (n : ℕ) (list : List Item) → Floor need_of n list → Floor need_of n (held entries list)
floor-held entries n [] floor = tt
floor-held entries n (item ∷ list) floor =
    let later = floor-held entries n list floor.1 in
    cond_both (is_held entries item) (item ∷ held entries list) (held entries list) (Floor need_of n) (λ _. (floor.0, later)) (λ _. later)

rises-held : (entries : List Entry) (list : List Item) → Rises need_of list → Rises need_of (held entries list)
rises-held entries [] rises = tt
rises-held entries (item ∷ list) rises =
    let later = rises-held entries list rises.1 in
    cond_both (is_held entries item) (item ∷ held entries list) (held entries list) (Rises need_of) (λ _. (floor-held entries item.need list rises.0, later)) (λ _. later)

-- so the list may be sorted in these parts
pub sorted_with_batch : (entries : List Entry) (list : List Item) → Rises need_of list
    → sort_by need_of (raised_of entries list ++ (kept_items entries list ++ (lowered_of entries list ++ opened entries))) ≡ after_batch_by remaining entries list
sorted_with_batch entries list rises =
    let f : Item → Item = with_batch entries in
    sym (sort_by-apart need_of f (is_raised entries) (held entries list) (lowered_of entries list ++ opened entries) (raised_apart entries (held entries list) (rises-held entries list rises)))
    ∙ sym (sort_by-apart need_of f (is_held entries) list (opened entries) (held_apart entries list rises))

-- so only what it raises, and what it lowers and opens, is to be sorted
pub sorted_among : (entries : List Entry) (list : List Item) → Rises need_of list
    → sort_by need_of (sort_by need_of (raised_of entries list) ++ sort_by need_of (kept_items entries list ++ sort_by need_of (lowered_of entries list ++ opened entries))) ≡ after_batch_by remaining entries list
sorted_among entries list rises =
    let raised : List Item = raised_of entries list in
    let kept : List Item = kept_items entries list in
    let others : List Item = lowered_of entries list ++ opened entries in
    sorted_others Front (sort_by need_of (kept ++ sort_by need_of others)) raised
    ∙ (sorted_others Behind raised (kept ++ sort_by need_of others)
    ∙ (ap (sort_by need_of) (sym (append_assoc raised kept (sort_by need_of others)))
    ∙ (sorted_others Behind (raised ++ kept) others ∙ (ap (sort_by need_of) (append_assoc raised kept others) ∙ sorted_with_batch entries list rises))))

-- what a batch keeps is in order
floor-kept : (entries : List Entry) (n : ℕ) (list : List Item) → Floor need_of n list → Floor need_of n (kept_items entries list)
floor-kept entries n [] floor = tt
floor-kept entries n (item ∷ list) floor =
    let f : Item → Item = with_batch entries in
    let level : Item → Bool = λ x. not (is_raised entries x) in
    let rest : List Item = held entries list in
    let later = floor-kept entries n list floor.1 in
    cond_both (is_held entries item) (item ∷ rest) rest (λ xs. Floor need_of n (map f (filter level xs)))
    (λ is. cond_both (level item) (item ∷ filter level rest) (filter level rest) (λ xs. Floor need_of n (map f xs))
    (λ _. ((let up : item.need ≤ (f item).need = ltb-false _ _ (not-true _ is) in omega (arith, up, floor.0)), later))
    (λ _. later))
    (λ _. later)

pub rises-kept : (entries : List Entry) (list : List Item) → Rises need_of list → Rises need_of (kept_items entries list)
rises-kept entries [] rises = tt
rises-kept entries (item ∷ list) rises =
    let f : Item → Item = with_batch entries in
    let level : Item → Bool = λ x. not (is_raised entries x) in
    let rest : List Item = held entries list in
    let later = rises-kept entries list rises.1 in
    cond_both (is_held entries item) (item ∷ rest) rest (λ xs. Rises need_of (map f (filter level xs)))
    (λ _. cond_both (level item) (item ∷ filter level rest) (filter level rest) (λ xs. Rises need_of (map f xs))
    (λ is. (
      (let low : (f item).need ≤ item.need = ltb-false _ _ (not-true _ is) in
          floor_lower need_of (f item).need item.need (kept_items entries list) low (floor-kept entries item.need list rises.0)),
      later,
    ))
    (λ _. later))
    (λ _. later)

-- an item is among the ones or the others
split_length : (f : Item → Item) (test : Item → Bool) (list : List Item) → length (map f (filter test list)) + length (map f (filter (λ x. not (test x)) list)) ≡ length list
split_length f test [] = refl
split_length f test (item ∷ list) =
    let yes_them : List Item = filter test list in
    let no_them : List Item = filter (λ x. not (test x)) list in
    let rest = split_length f test list in
    let count : List Item → ℕ = λ xs. length (map f xs) in
    elim (cases_Bool (test item)) [
      | inl is ↦ omega (
        arith,
        rest,
        ap count (cond-true (test item) (item ∷ yes_them) yes_them is),
        ap count (cond-false (not (test item)) (item ∷ no_them) no_them (ap not is)),
      )
      | inr not_it ↦ omega (
        arith,
        rest,
        ap count (cond-false (test item) (item ∷ yes_them) yes_them not_it),
        ap count (cond-true (not (test item)) (item ∷ no_them) no_them (ap not not_it)),
      )
    ]

pub parts_length : (entries : List Entry) (list : List Item) → length (raised_of entries list) + (length (kept_items entries list) + length (lowered_of entries list)) ≡ length list
parts_length entries list =
    let f : Item → Item = with_batch entries in
    omega (arith, split_length f (is_raised entries) (held entries list), split_length f (is_held entries) list, length-map (held entries list) f)

-- the parts of a list are those of its front and then those of the rest
pub kept_of-append : (entries : List Entry) (xs ys : List Item) → kept_items entries (xs ++ ys) ≡ kept_items entries xs ++ kept_items entries ys
kept_of-append entries xs ys =
    let f : Item → Item = with_batch entries in
    let level : Item → Bool = λ x. not (is_raised entries x) in
    ap (λ (zs : List Item). map f (filter level zs)) (filter-append (is_held entries) xs ys)
    ∙ (ap (map f) (filter-append level (held entries xs) (held entries ys)) ∙ map-append f (filter level (held entries xs)) (filter level (held entries ys)))

pub raised_of-append : (entries : List Entry) (xs ys : List Item) → raised_of entries (xs ++ ys) ≡ raised_of entries xs ++ raised_of entries ys
raised_of-append entries xs ys =
    let f : Item → Item = with_batch entries in
    ap (λ (zs : List Item). map f (filter (is_raised entries) zs)) (filter-append (is_held entries) xs ys)
    ∙ (ap (map f) (filter-append (is_raised entries) (held entries xs) (held entries ys)) ∙ map-append f (filter (is_raised entries) (held entries xs)) (filter (is_raised entries) (held entries ys)))

pub lowered_of-append : (entries : List Entry) (xs ys : List Item) → lowered_of entries (xs ++ ys) ≡ lowered_of entries xs ++ lowered_of entries ys
lowered_of-append entries xs ys =
    let f : Item → Item = with_batch entries in
    let under : Item → Bool = λ x. not (is_held entries x) in
    ap (map f) (filter-append under xs ys) ∙ map-append f (filter under xs) (filter under ys)

-- the parts of a list that the batch leaves as it is
pub record StayParts (entries : List Entry) (list : List Item) : Type 0 where
  pub kept : kept_items entries list ≡ list
  pub raised : raised_of entries list ≡ []
  pub lowered : lowered_of entries list ≡ []

pub stay_parts : (entries : List Entry) (list : List Item) → All (λ item. with_batch entries item ≡ item) list → StayParts entries list
stay_parts entries [] all = record { kept = refl; raised = refl; lowered = refl }
stay_parts entries (item ∷ list) all =
    let f : Item → Item = with_batch entries in
    let same : f item ≡ item = All-head (λ x. f x ≡ x) item list all in
    let level : nat_lt item.need item.need ≡ false = le-ltb _ _ (omega arith) in
    let holds : is_held entries item ≡ true = ap (λ (i : Item). not (nat_lt i.need item.need)) same ∙ ap not level in
    let stays : is_raised entries item ≡ false = ap (λ (i : Item). nat_lt item.need i.need) same ∙ level in
    let test : Item → Bool = λ x. not (is_raised entries x) in
    let rest : List Item = held entries list in
    let front : held entries (item ∷ list) ≡ item ∷ rest = cond-true (is_held entries item) (item ∷ rest) rest holds in
    let later = stay_parts entries list (All-tail (λ x. f x ≡ x) item list all) in
    record {
      kept = ap (λ (xs : List Item). map f (filter test xs)) front
          ∙ (ap (map f) (cond-true (test item) (item ∷ filter test rest) (filter test rest) (ap not stays))
          ∙ (ap (λ (i : Item). i ∷ kept_items entries list) same ∙ ap (λ (xs : List Item). item ∷ xs) later.kept));
      raised = ap (λ (xs : List Item). map f (filter (is_raised entries) xs)) front
          ∙ (ap (map f) (cond-false (is_raised entries item) (item ∷ filter (is_raised entries) rest) (filter (is_raised entries) rest) stays) ∙ later.raised);
      lowered = ap (map f) (cond-false (not (is_held entries item)) (item ∷ filter (λ x. not (is_held entries x)) list) (filter (λ x. not (is_held entries x)) list) (ap not holds)) ∙ later.lowered;
    }

-- a batch without entries leaves a list in order as it is
pub nothing_applied : (list : List Item) → Rises need_of list → after_batch_by remaining [] list ≡ list
nothing_applied list rises =
    ap (sort_by need_of) (append-nil (map (with_batch []) list) ∙ map-same list) ∙ sort_by-rises need_of list rises

-- the list with the batch applied is as long as there are pairs of endpoints, at most
pub fits_pairs : (endpoints b number : ℕ) (entries : List Entry) (list : List Item) → IsBatch entries → MayServe endpoints b number entries list → length list + length (opened entries) ≤ endpoints * endpoints
fits_pairs endpoints b number entries list rising may =
    omega (
      arith,
      few endpoints (after_batch_by remaining entries list) (once-after_batch_by remaining entries list rising may.opens may.once) (flows-after_batch_by remaining (λ flow. (flow.src < endpoints) × (flow.dst < endpoints)) entries list may.in_range),
      length-applied remaining entries list,
    )

-- its items may take their slots
pub may_fill : (endpoints b number : ℕ) (entries : List Entry) (list : List Item) → IsBatch entries → MayServe endpoints b number entries list → MayBeTakenUp endpoints number (after_batch_by remaining entries list)
may_fill endpoints b number entries list rising may =
    let P : Item → Type 0 = λ item. item.last < number in
    record {
      once = once-after_batch_by remaining entries list rising may.opens may.once;
      in_range = flows-after_batch_by remaining (λ flow. (flow.src < endpoints) × (flow.dst < endpoints)) entries list may.in_range;
      below = All-sort_by P need_of (map (with_batch entries) list ++ opened entries)
          (All-append P (map (with_batch entries) list) (opened entries) (All-map P (with_batch entries) list may.below) (lasts-opened number entries may.positive));
    }

pub applied_in_order : (entries : List Entry) (list : List Item) → IsNonDecreasingBy need_of (after_batch_by remaining entries list)
applied_in_order entries list = in_order-sort_by need_of (map (with_batch entries) list ++ opened entries)

module _ (bar : Bar) where
  -- an item is as it was, or needs less
  served_less : (number : ℕ) (item : Item) (slots : List (List Flow)) → (item_after bar number item slots ≡ item) ⊎ ((item_after bar number item slots).need < item.need)
  served_less number item [] = inl refl
  served_less number item (slot ∷ slots) =
      let fits : Bool = nat_lt 0 item.need && not (bar slot item.flow) in
      let put : Item = record item { need = item.need - 1; last = number } in
      let P : Item → Type 0 = λ now. (item_after bar (number + 1) now slots ≡ item) ⊎ ((item_after bar (number + 1) now slots).need < item.need) in
      cond_both fits put item P
      (λ is. let some : 0 < item.need = ltb-true _ _ ((and_parts (nat_lt 0 item.need) (not (bar slot item.flow)) is).0) in inr (omega (arith, some, item_after_need bar (number + 1) put slots)))
      (λ _. served_less (number + 1) item slots)

  -- those that got no slot need what they did
  waiting_above : (number n m : ℕ) (list : List Item) (slots : List (List Flow)) → m < n → Floor need_of n list → All (λ y. m ≢ y.need) (map (λ x. x) (unserved number (items_after bar number list slots)))
  waiting_above number n m [] slots less floor = All-nil (λ y. m ≢ y.need)
  waiting_above number n m (item ∷ list) slots less floor =
      let P : Item → Type 0 = λ y. m ≢ y.need in
      let now : Item = item_after bar number item slots in
      let rest : List Item = unserved number (items_after bar number list (slots_with bar number item slots)) in
      let later = waiting_above number n m list (slots_with bar number item slots) less floor.1 in
      cond_both (nat_lt now.last number) (now ∷ rest) rest (λ xs. All P (map (λ x. x) xs))
      (λ low. All-cons P now (map (λ x. x) rest) (λ e. let same : now.need ≡ item.need = ap need_of (item_after_low bar number item slots low) in omega (arith, e, same, floor.0, less)) later)
      (λ _. later)

  waiting_apart : (number : ℕ) (list : List Item) (slots : List (List Flow)) → Rises need_of list → All (λ item. item.last < number) list
      → Apart need_of (λ x. x) (λ item. nat_lt item.last number) (items_after bar number list slots)
  waiting_apart number [] slots rises below = tt
  waiting_apart number (item ∷ list) slots rises below = (
    λ high. elim (served_less number item slots) [
      | inl same ↦ (
          let low : nat_lt (item_after bar number item slots).last number ≡ true =
          ap (λ (x : Item). nat_lt x.last number) same ∙ lt-ltb _ _ (All-head (λ x. x.last < number) item list below) in absurd (cc)
          )
      | inr less ↦ waiting_above number item.need (item_after bar number item slots).need list (slots_with bar number item slots) less rises.0
    ],
    waiting_apart number list (slots_with bar number item slots) rises.1 (All-tail (λ x. x.last < number) item list below),
  )

  -- so these may stand in front as the list that they leave is sorted
  pub sorted_after_slots : (number b : ℕ) (list waiting served : List Item) → Rises need_of list → HasEachFlowOnce list → All (λ item. item.last < number) list
      → waiting ≡ unserved number (items_after bar number list (replicate b [])) → served ≡ newly_served number (items_after bar number list (replicate b []))
      → sort_by need_of (waiting ++ served) ≡ list_after_slots_by remaining bar number b list
  sorted_after_slots number b list waiting served rises once below waits serves =
      let items : List Item = items_after bar number list (replicate b []) in
      let w : List Item = unserved number items in
      let s : List Item = newly_served number items in
      let apart = sort_by-apart need_of (λ x. x) (λ item. nat_lt item.last number) items [] (waiting_apart number list (replicate b []) rises below) in
      let left : sort_by need_of (map (λ x. x) items ++ []) ≡ sort_by need_of items = ap (sort_by need_of) (append-nil (map (λ x. x) items) ∙ map-same items) in
      let right : sort_by need_of (map (λ x. x) w ++ (map (λ x. x) s ++ [])) ≡ sort_by need_of (w ++ s) =
      ap (λ (xs : List Item). sort_by need_of (xs ++ (map (λ x. x) s ++ []))) (map-same w) ∙ ap (λ (xs : List Item). sort_by need_of (w ++ xs)) (append-nil (map (λ x. x) s) ∙ map-same s) in
      ap (λ (xs : List Item). sort_by need_of (xs ++ served)) waits
      ∙ (ap (λ (xs : List Item). sort_by need_of (w ++ xs)) serves
      ∙ (sym right
      ∙ (sym apart
      ∙ (left
      ∙ ap (sort_by need_of) (slot_by_slot bar number b list once).items))))

  -- what waits is in order
  floor-waiting : (number n : ℕ) (list : List Item) (slots : List (List Flow)) → Floor need_of n list → Floor need_of n (unserved number (items_after bar number list slots))
  floor-waiting number n [] slots floor = tt
  floor-waiting number n (item ∷ list) slots floor =
      let now : Item = item_after bar number item slots in
      let rest : List Item = unserved number (items_after bar number list (slots_with bar number item slots)) in
      let later = floor-waiting number n list (slots_with bar number item slots) floor.1 in
      cond_both (nat_lt now.last number) (now ∷ rest) rest (Floor need_of n)
      (λ low. ((let same : now.need ≡ item.need = ap need_of (item_after_low bar number item slots low) in omega (arith, same, floor.0)), later))
      (λ _. later)

  pub rises-waiting : (number : ℕ) (list : List Item) (slots : List (List Flow)) → Rises need_of list → Rises need_of (unserved number (items_after bar number list slots))
  rises-waiting number [] slots rises = tt
  rises-waiting number (item ∷ list) slots rises =
      let now : Item = item_after bar number item slots in
      let then : List (List Flow) = slots_with bar number item slots in
      let rest : List Item = unserved number (items_after bar number list then) in
      let later = rises-waiting number list then rises.1 in
      cond_both (nat_lt now.last number) (now ∷ rest) rest (Rises need_of)
      (λ low. (
        (let same : now.need ≡ item.need = ap need_of (item_after_low bar number item slots low) in
            subst (λ (n : ℕ). Floor need_of n rest) (sym same) (floor-waiting number item.need list then rises.0)),
        later,
      ))
      (λ _. later)

  -- an item that needs no slot takes none
  none_offered : (number : ℕ) (item : Item) (slots : List (List Flow)) → item.need ≡ 0 → (slots_with bar number item slots ≡ slots) × (item_after bar number item slots ≡ item)
  none_offered number item [] none = (refl, refl)
  none_offered number item (slot ∷ slots) none =
      let out : (nat_lt 0 item.need && not (bar slot item.flow)) ≡ false = and_left _ _ (ap (nat_lt 0) none) in
      let same : turn bar number slot item ≡ item = cond-false (nat_lt 0 item.need && not (bar slot item.flow)) (record item { need = item.need - 1; last = number }) item out in
      let rest = none_offered (number + 1) item slots none in (
        ap (λ (s : List Flow). s ∷ slots_with bar (number + 1) (turn bar number slot item) slots) (cond-false (nat_lt 0 item.need && not (bar slot item.flow)) (slot_with item.flow slot) slot out)
            ∙ ap (λ (ss : List (List Flow)). slot ∷ ss) (ap (λ (i : Item). slots_with bar (number + 1) i slots) same ∙ rest.0),
        ap (λ (i : Item). item_after bar (number + 1) i slots) same ∙ rest.1,
      )

  idle_front : (number : ℕ) (idle list : List Item) (slots : List (List Flow)) → All (λ item. nat_le item.need 0 ≡ true) idle
      → (slots_after bar number (idle ++ list) slots ≡ slots_after bar number list slots) × (items_after bar number (idle ++ list) slots ≡ idle ++ items_after bar number list slots)
  idle_front number [] list slots all = (refl, refl)
  idle_front number (item ∷ idle) list slots all =
      let none : item.need ≡ 0 = (let le : item.need ≤ 0 = leb-true _ _ (All-head (λ x. nat_le x.need 0 ≡ true) item idle all) in omega (arith, le)) in
      let here = none_offered number item slots none in
      let rest = idle_front number idle list slots (All-tail (λ x. nat_le x.need 0 ≡ true) item idle all) in (
        ap (slots_after bar number (idle ++ list)) here.0 ∙ rest.0,
        ap (λ (ss : List (List Flow)). item_after bar number item slots ∷ items_after bar number (idle ++ list) ss) here.0
            ∙ (ap (λ (i : Item). i ∷ items_after bar number (idle ++ list) slots) here.1 ∙ ap (λ (xs : List Item). item ∷ xs) rest.1),
      )

  floor_zero : (list : List Item) → Floor need_of 0 list
  floor_zero [] = tt
  floor_zero (item ∷ list) = (omega arith, floor_zero list)

  -- so what needs no slot may be left in front
  pub behind_idle : (number b : ℕ) (idle list : List Item) → Rises need_of idle → All (λ item. nat_le item.need 0 ≡ true) idle → HasEachFlowOnce (idle ++ list) → HasEachFlowOnce list
      → (batch_slots bar number b (idle ++ list) ≡ batch_slots bar number b list) × (list_after_slots_by remaining bar number b (idle ++ list) ≡ idle ++ list_after_slots_by remaining bar number b list)
  behind_idle number b idle list rises none once once_list =
      let all = slot_by_slot bar number b (idle ++ list) once in
      let later = slot_by_slot bar number b list once_list in
      let front = idle_front number idle list (replicate b []) none in
      let items : List Item = items_after bar number list (replicate b []) in (
        sym all.slots ∙ (front.0 ∙ later.slots),
        ap (sort_by need_of) (sym all.items ∙ front.1)
            ∙ (low_first need_of 1 0 [] idle items (omega arith) rises (below_behind 0 idle none) tt (floor_zero items)
            ∙ ap (λ (xs : List Item). idle ++ sort_by need_of xs) later.items),
      )

-- what a list by need becomes once the items from a place on had their turns, those before it needing no slot
pub record IsFilled (bar : Bar) (number b idle : ℕ) (items : List Item) (slots : List (List Flow)) (waiting served : List Item) : Type 0 where
  pub slots_are : slots ≡ batch_slots bar number b items
  pub left : take idle items ++ sort_by need_of (waiting ++ sort_by need_of served) ≡ list_after_slots_by remaining bar number b items
  pub order : IsNonDecreasingBy need_of waiting
  pub lengths : length waiting + length served + idle ≡ length items

filled_behind : (bar : Bar) (number b idle : ℕ) (items : List Item) (slots : List (List Flow)) (waiting served : List Item) → Rises need_of items → HasEachFlowOnce items
    → All (λ item. item.last < number) items → HasEachFlowOnce (drop idle items) → idle ≤ length items → All (λ item. nat_le item.need 0 ≡ true) (take idle items)
    → StandsAfter bar number b (drop idle items) slots waiting served → IsFilled bar number b idle items slots waiting served
filled_behind bar number b idle items slots waiting served rises once below once_rest within none stands =
    let front : List Item = take idle items in
    let rest : List Item = drop idle items in
    let both : front ++ rest ≡ items = take-append-drop idle items in
    let later : Rises need_of rest = rises-drop need_of idle items rises in
    let law = behind_idle bar number b front rest (rises-take need_of idle items rises) none (subst HasEachFlowOnce (sym both) once) once_rest in
    let sorted : sort_by need_of (waiting ++ served) ≡ list_after_slots_by remaining bar number b rest =
    sorted_after_slots bar number b rest waiting served later once_rest (All-drop (λ item. item.last < number) idle items below) stands.waiting_are stands.served_are in
    record {
      slots_are = stands.slots_are ∙ ((slot_by_slot bar number b rest once_rest).slots ∙ (sym law.0 ∙ ap (batch_slots bar number b) both));
      left = ap (λ (xs : List Item). front ++ xs) (sorted_others Behind waiting served ∙ sorted) ∙ (sym law.1 ∙ ap (list_after_slots_by remaining bar number b) both);
      order = in_order_from need_of waiting (subst (Rises need_of) (sym stands.waiting_are) (rises-waiting bar number rest (replicate b []) later));
      lengths = omega (arith, lengths_after bar number b rest slots waiting served stands, length-drop idle items, within);
    }

pub filled : (limits : Limits) (number b idle : ℕ) (items xs ys : List Item) (now : Fill) → IsNonDecreasingBy need_of items → MayBeTakenUp now.endpoints number items
    → xs ≡ items → idle ≤ length xs → All (λ item. nat_le item.need 0 ≡ true) (take idle xs)
    → ys ≡ items → HasTakenUp (take (length ys - idle) (drop idle ys)) now → now.b ≡ b → now.first_slot ≡ number → now.maps.limits ≡ limits
    → IsFilled (is_barred limits) number b idle items now.slots now.waiting now.served
filled limits number b idle items xs ys now up may same within none same_too taken b_is number_is limits_are =
    let there : HasTakenUp (drop idle items) now =
    subst (λ (zs : List Item). HasTakenUp zs now) (take_rest items idle) (subst (λ (zs : List Item). HasTakenUp (take (length zs - idle) (drop idle zs)) now) same_too taken) in
    let stands : StandsAfter (is_barred limits) number b (drop idle items) now.slots now.waiting now.served =
    subst (λ (n : ℕ). StandsAfter (is_barred limits) number n (drop idle items) now.slots now.waiting now.served) b_is
    (subst (λ (n : ℕ). StandsAfter (is_barred limits) n now.b (drop idle items) now.slots now.waiting now.served) number_is
    (subst (λ (l : Limits). StandsAfter (is_barred l) now.first_slot now.b (drop idle items) now.slots now.waiting now.served) limits_are there.stands)) in
    filled_behind (is_barred limits) number b idle items now.slots now.waiting now.served (rises_from need_of items up) may.once may.below there.may.once
    (subst (λ (zs : List Item). idle ≤ length zs) same within) (subst (λ (zs : List Item). All (λ item. nat_le item.need 0 ≡ true) (take idle zs)) same none) stands
