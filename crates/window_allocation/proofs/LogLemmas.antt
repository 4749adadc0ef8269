-- A log of items with gaps: the bits of its places, and what is picked by them.
use Rattle.std.proofs.Common.{◌≡◌, ◌≢◌, ◌<◌, ◌≤◌, ◌+◌, ◌-◌, ◌*◌, ◌/◌, ◌%◌, ◌^◌, ℕ, zero, suc, List, [], ◌∷◌, ◌++◌, length, get_or, map, Bool, true, false, not, ◌==◌, ◌&&◌, ◌||◌, cond, filter, All, bit_and, w64, Some, None, refl, sym, ap, ◌∙◌, subst, arith, inl, inr}
use Rattle.std.specs.Prelude.{find}
use Rattle.std.specs.List.{range_with_len}
use Rattle.std.specs.Int.{trailing_zeros}
use Rattle.std.proofs.lemmas.Bool.{cond-true, cond-false, cases_Bool, cases_eq, cases_lt, and_left, and_right, or_right, eq-eqb, ne_eqb, both_ways, false_from_ne_true}
use Rattle.std.proofs.Math.Bool.{and-true}
use Rattle.std.proofs.lemmas.List.{get_or_past}
use Rattle.std.proofs.lemmas.List.Elements.{All-nil, All-cons, All-head, All-tail, All-weaker, All-get_or, All-from_get_or, filter-append, filter_agree, filter_passes}
use Rattle.std.proofs.lemmas.Nat.Bits.{bit_at-trailing_zeros}
use Rattle.list_facts.proofs.Lists.{range_both}
use Rattle.list_facts.specs.Bits.{names_place}
use Rattle.greedy_rules.specs.declared.flows.Flow.{Flow}
use Rattle.greedy_rules.specs.declared.flows.Item.{Item}
use Rattle.greedy_rules.specs.declared.flows.Entry.{Entry}
use Rattle.greedy_rules.specs.Flows.{same_flow}
use Rattle.greedy_rules.specs.Batches.{DemandBatch, entry_of}
use Rattle.greedy_rules.specs.Demands.{is_listed}
use Rattle.greedy_rules.proofs.Facts.{same_flow-true, same_flow-refl}
use Rattle.greedy_rules.proofs.OnceLemmas.{not_listed}
use Rattle.endpoint_bitmaps.specs.Slots.{has_slot}
use Rattle.endpoint_bitmaps.proofs.Facts.{lowest_is, without_lowest}
use Rattle.endpoint_bitmaps.proofs.WordLemmas.{has_slot-above}
use Rattle.slot_batches.specs.Woven.{picked, places_from, HaveNoEntry, NeedNothing}
use Rattle.window_allocation.specs.Needs.{place_of}
use Rattle.window_allocation.specs.Logged.{gap, is_gap, is_left, is_passed, standing, item_at, items_at, ArePlaced, NeedsHaveBits, HasBit, HaveBits, bits_of, standing_at, places_of_bits, busy_places}
use Rattle.window_allocation.proofs.Places.{no_place, picked_at}

-- ---- numbers that pass a test

same_numbers : (p q : ℕ → Bool) (from n : ℕ) → ((k : ℕ) → from ≤ k → p k ≡ q k) → filter p (range_with_len from n) ≡ filter q (range_with_len from n)
same_numbers p q from zero same = refl
same_numbers p q from (suc n) same =
    let left : List ℕ = filter p (range_with_len (from + 1) n) in
    ap (λ (b : Bool). cond b (from ∷ left) left) (same from (omega arith)) ∙ ap (λ (ks : List ℕ). cond (q from) (from ∷ ks) ks) (same_numbers p q (from + 1) n (λ k above. same k (omega (arith, above))))

no_numbers : (p : ℕ → Bool) (from n : ℕ) → ((k : ℕ) → from ≤ k → p k ≡ false) → filter p (range_with_len from n) ≡ []
no_numbers p from zero none = refl
no_numbers p from (suc n) none =
    let left : List ℕ = filter p (range_with_len (from + 1) n) in
    cond-false (p from) (from ∷ left) left (none from (omega arith)) ∙ no_numbers p (from + 1) n (λ k above. none k (omega (arith, above)))

first_number : (p : ℕ → Bool) (t from n : ℕ) → p t ≡ true → ((k : ℕ) → k < t → p k ≡ false) → from ≤ t → t < from + n
    → filter p (range_with_len from n) ≡ t ∷ filter (λ k. p k && not (k == t)) (range_with_len from n)
first_number p t from zero passes none above below = absurd (omega (arith, above, below))
first_number p t from (suc n) passes none above below =
    let on : ℕ = from + 1 in
    let q : ℕ → Bool = λ k. p k && not (k == t) in
    let ps : List ℕ = filter p (range_with_len on n) in
    let qs : List ℕ = filter q (range_with_len on n) in
    elim (cases_eq from t) [
      | inl same ↦
          cond-true (p from) (from ∷ ps) ps (ap p same ∙ passes)
          ∙ (ap (λ (k : ℕ). k ∷ ps) same
          ∙ ap (λ (ks : List ℕ). t ∷ ks)
          (same_numbers p q on n (λ k later. sym (and-true (p k)) ∙ ap (λ (b : Bool). p k && not b) (sym (ne_eqb k t (λ e. omega (arith, e, later, same)))))
          ∙ sym (cond-false (q from) (from ∷ qs) qs (and_right (p from) (not (from == t)) (ap not (eq-eqb from t same))))))
      | inr apart ↦
          cond-false (p from) (from ∷ ps) ps (none from (omega (arith, above, apart)))
          ∙ (first_number p t on n passes none (omega (arith, above, apart)) (omega (arith, below))
          ∙ ap (λ (ks : List ℕ). t ∷ ks) (sym (cond-false (q from) (from ∷ qs) qs (and_left (p from) (not (from == t)) (none from (omega (arith, above, apart)))))))
    ]

mapped_choice : (f : ℕ → ℕ) (b : Bool) (k : ℕ) (ks : List ℕ) → cond b (f k ∷ map f ks) (map f ks) ≡ map f (cond b (k ∷ ks) ks)
mapped_choice f true k ks = refl
mapped_choice f false k ks = refl

numbers_on : (p q : ℕ → Bool) (from k n : ℕ) → ((i : ℕ) → i < k + n → p (from + i) ≡ q i) → filter p (range_with_len (from + k) n) ≡ map (λ (i : ℕ). from + i) (filter q (range_with_len k n))
numbers_on p q from k zero same = refl
numbers_on p q from k (suc n) same =
    let later : ℕ → ℕ = λ i. from + i in
    let next : from + k + 1 ≡ from + (k + 1) = omega arith in
    let left : List ℕ = filter p (range_with_len (from + k + 1) n) in
    let more : left ≡ map later (filter q (range_with_len (k + 1) n)) =
    ap (λ (a : ℕ). filter p (range_with_len a n)) next ∙ numbers_on p q from (k + 1) n (λ i below. same i (omega (arith, below))) in
    ap (λ (b : Bool). cond b ((from + k) ∷ left) left) (same k (omega arith))
    ∙ (ap (λ (ks : List ℕ). cond (q k) ((from + k) ∷ ks) ks) more ∙ mapped_choice later (q k) k (filter q (range_with_len (k + 1) n)))

filter_both : {X : Type 0} (p q : X → Bool) (xs : List X) → filter q (filter p xs) ≡ filter (λ x. p x && q x) xs
filter_both p q [] = refl
filter_both {X} p q (x ∷ xs) =
    let ps : List X = filter p xs in
    let both : List X = filter (λ y. p y && q y) xs in
    elim (cases_Bool (p x)) [
      | inl is ↦
          ap (filter q) (cond-true (p x) (x ∷ ps) ps is)
          ∙ (ap (λ (ys : List X). cond (q x) (x ∷ ys) ys) (filter_both p q xs) ∙ ap (λ (b : Bool). cond (b && q x) (x ∷ both) both) (sym is))
      | inr not_it ↦
          ap (filter q) (cond-false (p x) (x ∷ ps) ps not_it) ∙ (filter_both p q xs ∙ ap (λ (b : Bool). cond (b && q x) (x ∷ both) both) (sym not_it))
    ]

-- ---- the places of a word's bits

bits_from_lowest : (word : ℕ) → word < 2 ^ 64 → word ≢ 0 → bits_of word ≡ trailing_zeros w64 word ∷ bits_of (bit_and word (word - 1))
bits_from_lowest word fits some =
    let t : ℕ = trailing_zeros w64 word in
    let here = lowest_is word fits some in
    let lowest = bit_at-trailing_zeros w64 word (omega (arith, some)) fits in
    let within : t < 64 = elim (cases_lt t 64) [
      | inl below ↦ below
      | inr above ↦ absurd (both_ways (has_slot word t) (has_slot-above word t fits above) here)
    ] in
    first_number (has_slot word) t 0 64 here (λ k below. ap (λ (n : ℕ). n == 1) (lowest.2 k below)) (omega arith) (omega (arith, within))
    ∙ ap (λ (ks : List ℕ). t ∷ ks) (same_numbers (λ k. has_slot word k && not (k == t)) (has_slot (bit_and word (word - 1))) 0 64 (λ k above. sym (without_lowest word k fits some)))

one_or_gap : (b : Bool) (k : ℕ) (ks : List ℕ) → cond (not b) (k ∷ ks) ks ≡ cond b [] (k ∷ []) ++ ks
one_or_gap true k ks = refl
one_or_gap false k ks = refl

pub word_step : (items : List Item) (from word : ℕ) → word < 2 ^ 64 → word ≢ 0
    → places_of_bits items from word ≡ cond (is_gap (item_at items (from + trailing_zeros w64 word))) [] ((from + trailing_zeros w64 word) ∷ []) ++ places_of_bits items from (bit_and word (word - 1))
word_step items from word fits some =
    let later : ℕ → ℕ = λ bit. from + bit in
    let t : ℕ = trailing_zeros w64 word in
    ap (λ (bits : List ℕ). standing_at items (map later bits)) (bits_from_lowest word fits some)
    ∙ one_or_gap (is_gap (item_at items (from + t))) (from + t) (places_of_bits items from (bit_and word (word - 1)))

place_in_word : (words : List ℕ) (at i : ℕ) → i < 64 → names_place words (at * 64 + i) ≡ has_slot (get_or words at 0) i
place_in_word words at i below =
    let word : (at * 64 + i) / 64 ≡ at = omega (arith, below) in
    let bit : (at * 64 + i) % 64 ≡ i = omega (arith, below) in
    ap (λ (n : ℕ). has_slot (get_or words n 0) ((at * 64 + i) % 64)) word ∙ ap (λ (n : ℕ). has_slot (get_or words at 0) n) bit

pub busy_step : (items : List Item) (words : List ℕ) (at : ℕ) → busy_places items words ((at + 1) * 64) ≡ busy_places items words (at * 64) ++ places_of_bits items (at * 64) (get_or words at 0)
busy_step items words at =
    let from : ℕ = at * 64 in
    let ahead : (at + 1) * 64 ≡ from + 64 = omega arith in
    let there : 0 + from ≡ from + 0 = omega arith in
    let busy : ℕ → Bool = names_place words in
    let stands : ℕ → Bool = λ place. not (is_gap (item_at items place)) in
    let first : List ℕ = range_with_len 0 from in
    let then : List ℕ = range_with_len (0 + from) 64 in
    ap (λ (n : ℕ). busy_places items words n) ahead
    ∙ (ap (λ (ks : List ℕ). filter stands (filter busy ks)) (range_both 0 from 64)
    ∙ (ap (filter stands) (filter-append busy first then)
    ∙ (filter-append stands (filter busy first) (filter busy then)
    ∙ ap (λ (ks : List ℕ). filter stands (filter busy first) ++ filter stands ks)
    (ap (λ (a : ℕ). filter busy (range_with_len a 64)) there ∙ numbers_on busy (has_slot (get_or words at 0)) from 0 64 (λ i below. place_in_word words at i (omega (arith, below)))))))

-- ---- the items that stand

pub standing_each : (Q : Item → Type 0) (items : List Item) → ((place : ℕ) → is_gap (item_at items place) ≡ false → Q (item_at items place)) → All Q (standing items)
standing_each Q [] each = All-nil Q
standing_each Q (item ∷ items) each =
    let rest : List Item = standing items in
    let more = standing_each Q items (λ place. each (suc place)) in
    elim (cases_Bool (is_gap item)) [
      | inl is ↦ subst (All Q) (sym (cond-false (not (is_gap item)) (item ∷ rest) rest (ap not is))) more
      | inr not_it ↦ subst (All Q) (sym (cond-true (not (is_gap item)) (item ∷ rest) rest (ap not not_it))) (All-cons Q item rest (each zero not_it) more)
    ]

pub each_standing : (Q : Item → Type 0) (items : List Item) → All Q (standing items) → (place : ℕ) → is_gap (item_at items place) ≡ false → Q (item_at items place)
each_standing Q [] all place there = absurd (both_ways (is_gap (item_at [] place)) there (ap is_gap (get_or_past [] place gap (omega arith))))
each_standing Q (item ∷ items) all zero there = All-head Q item (standing items) (subst (All Q) (cond-true (not (is_gap item)) (item ∷ standing items) (standing items) (ap not there)) all)
each_standing Q (item ∷ items) all (suc place) there =
    let rest : List Item = standing items in
    let more : All Q rest = elim (cases_Bool (is_gap item)) [
      | inl is ↦ subst (All Q) (cond-false (not (is_gap item)) (item ∷ rest) rest (ap not is)) all
      | inr not_it ↦ All-tail Q item rest (subst (All Q) (cond-true (not (is_gap item)) (item ∷ rest) rest (ap not not_it)) all)
    ] in
    each_standing Q items more place there

-- a flow that is new has no item
pub new_has_bit : (words : List ℕ) (items : List Item) (flow : Flow) → is_listed (standing items) flow ≡ false → HasBit words items flow
new_has_bit words items flow new = λ place there is. absurd (each_standing (λ item. item.flow ≢ flow) items (not_listed (standing items) flow new) place there is)

-- ---- the items that are picked

-- as the bits say
abbrev pub is_quiet : ℕ → List ℕ → List ℕ → Flow → Bool
is_quiet endpoints table words flow = (flow.src == 65535) || not (names_place words (get_or table (place_of endpoints flow.src flow.dst) 0))

quiet_item : (b c : Bool) → c ≡ false → (b && not c) ≡ not (c || not b)
quiet_item true c not_it = ap not not_it ∙ ap (λ (d : Bool). not (d || false)) (sym not_it)
quiet_item false c not_it = ap (λ (d : Bool). not (d || true)) (sym not_it)

pub quiet_at : (endpoints : ℕ) (table words : List ℕ) (items : List Item) (place : ℕ) → ArePlaced endpoints table items
    → (names_place words place && not (is_gap (item_at items place))) ≡ not (is_quiet endpoints table words (item_at items place).flow)
quiet_at endpoints table words items place placed =
    let item : Item = item_at items place in
    let there : ℕ = get_or table (place_of endpoints item.flow.src item.flow.dst) 0 in
    elim (cases_Bool (is_gap item)) [
      | inl is ↦
          and_right (names_place words place) (not (is_gap item)) (ap not is) ∙ ap (λ (d : Bool). not (d || not (names_place words there))) (sym is)
      | inr not_it ↦
          let at : there ≡ place = (placed place not_it).there in
          quiet_item (names_place words place) (is_gap item) not_it ∙ ap (λ (n : ℕ). not (is_gap item || not (names_place words n))) (sym at)
    ]

-- places that pass a test are those of the items that are not set aside
places_passed : (aside : Item → Bool) (test : ℕ → Bool) (from : ℕ) (xs : List Item) (n : ℕ) → length xs ≤ n → aside gap ≡ true → ((i : ℕ) → test (from + i) ≡ not (aside (item_at xs i)))
    → filter test (range_with_len from n) ≡ places_from aside from xs
places_passed aside test from [] n long gaps same =
    no_numbers test from n
    (λ k above.
    let there : from + (k - from) ≡ k = omega (arith, above) in
    ap test (sym there) ∙ (same (k - from) ∙ ap not (ap aside (get_or_past [] (k - from) gap (omega arith)) ∙ gaps)))
places_passed aside test from (x ∷ xs) zero long gaps same = absurd (omega (arith, long))
places_passed aside test from (x ∷ xs) (suc n) long gaps same =
    let on : ℕ = from + 1 in
    let here : from ≡ from + 0 = omega arith in
    let left : List ℕ = filter test (range_with_len on n) in
    let ps : List ℕ = places_from aside on xs in
    let more : left ≡ ps = places_passed aside test on xs n (omega (arith, long)) gaps (λ i. let next : on + i ≡ from + suc i = omega arith in ap test next ∙ same (suc i)) in
    let this : test from ≡ not (aside x) = ap test here ∙ same 0 in
    elim (cases_Bool (aside x)) [
      | inl is ↦ cond-false (test from) (from ∷ left) left (this ∙ ap not is) ∙ (more ∙ sym (cond-true (aside x) ps (from ∷ ps) is))
      | inr not_it ↦ cond-true (test from) (from ∷ left) left (this ∙ ap not not_it) ∙ (ap (λ (ks : List ℕ). from ∷ ks) more ∙ sym (cond-false (aside x) ps (from ∷ ps) not_it))
    ]

pub places_agree : (a b : Item → Bool) (from : ℕ) (xs : List Item) → All (λ x. a x ≡ b x) xs → places_from a from xs ≡ places_from b from xs
places_agree a b from [] all = refl
places_agree a b from (x ∷ xs) all =
    let Same : Item → Type 0 = λ y. a y ≡ b y in
    let ps : List ℕ = places_from a (from + 1) xs in
    ap (λ (is : Bool). cond is ps (from ∷ ps)) (All-head Same x xs all) ∙ ap (λ (ks : List ℕ). cond (b x) ks (from ∷ ks)) (places_agree a b (from + 1) xs (All-tail Same x xs all))

-- no flow of the list
pub none_listed : (list : List Item) (flow : Flow) → All (λ y. same_flow y.flow flow ≡ false) list → is_listed list flow ≡ false
none_listed [] flow all = refl
none_listed (y ∷ list) flow all =
    let Differs : Item → Type 0 = λ x. same_flow x.flow flow ≡ false in
    ap (λ (b : Bool). b || is_listed list flow) (All-head Differs y list all) ∙ none_listed list flow (All-tail Differs y list all)

-- an item is listed among those picked where its flow is not quiet
listed_there : (quiet : Flow → Bool) (items : List Item) (i : ℕ) (d : Item) → i < length items → quiet (get_or items i d).flow ≡ false → is_listed (picked (λ x. quiet x.flow) items) (get_or items i d).flow ≡ true
listed_there quiet [] i d inside loud = absurd (omega (arith, inside))
listed_there quiet (x ∷ items) zero d inside loud =
    let left : List Item = picked (λ y. quiet y.flow) items in
    ap (λ (xs : List Item). is_listed xs x.flow) (cond-true (not (quiet x.flow)) (x ∷ left) left (ap not loud)) ∙ ap (λ (b : Bool). b || is_listed left x.flow) (same_flow-refl x.flow)
listed_there quiet (x ∷ items) (suc i) d inside loud =
    let left : List Item = picked (λ y. quiet y.flow) items in
    let flow : Flow = (get_or items i d).flow in
    let more : is_listed left flow ≡ true = listed_there quiet items i d (omega (arith, inside)) loud in
    elim (cases_Bool (quiet x.flow)) [
      | inl is ↦ ap (λ (xs : List Item). is_listed xs flow) (cond-false (not (quiet x.flow)) (x ∷ left) left (ap not is)) ∙ more
      | inr not_it ↦ ap (λ (xs : List Item). is_listed xs flow) (cond-true (not (quiet x.flow)) (x ∷ left) left (ap not not_it)) ∙ or_right (same_flow x.flow flow) (is_listed left flow) more
    ]

quiet_differs : (quiet : Flow → Bool) (flow : Flow) → quiet flow ≡ true → (y : Item) → not (quiet y.flow) ≡ true → same_flow y.flow flow ≡ false
quiet_differs quiet flow is y loud = false_from_ne_true _ (λ same. both_ways (not (quiet y.flow)) (ap not (ap quiet (same_flow-true y.flow flow same) ∙ is)) loud)

pub left_as_quiet : (quiet : Flow → Bool) (items : List Item) → All (λ x. is_left (picked (λ y. quiet y.flow) items) x ≡ quiet x.flow) items
left_as_quiet quiet items = All-from_get_or (λ x. is_left (picked (λ y. quiet y.flow) items) x ≡ quiet x.flow) items gap (λ i inside.
    let x : Item = get_or items i gap in
    let chosen : List Item = picked (λ y. quiet y.flow) items in
    elim (cases_Bool (quiet x.flow)) [
      | inl is ↦
          ap not (none_listed chosen x.flow (All-weaker (λ y. not (quiet y.flow) ≡ true) (λ y. same_flow y.flow x.flow ≡ false) (quiet_differs quiet x.flow is) chosen (filter_passes (λ y. not (quiet y.flow)) items)))
          ∙ sym is
      | inr not_it ↦ ap not (listed_there quiet items i gap inside not_it) ∙ sym not_it
    ])

neither_of : (b c : Bool) → not (b || c) ≡ (not b && not c)
neither_of true c = refl
neither_of false c = refl

or_again : (b c : Bool) → (b || (b || c)) ≡ (b || c)
or_again true c = refl
or_again false c = refl

passed_picked : (chosen items : List Item) → picked (is_passed chosen) items ≡ picked (is_left chosen) (standing items)
passed_picked chosen items =
    filter_agree (λ x. not (is_gap x || is_left chosen x)) (λ x. not (is_gap x) && not (is_left chosen x)) (λ x. neither_of (is_gap x) (is_left chosen x)) items
    ∙ sym (filter_both (λ x. not (is_gap x)) (λ x. not (is_left chosen x)) items)

-- of a log, the items at the places
pub items_picked : (items : List Item) (places : List ℕ) → places ≡ places_from (is_passed (items_at items places)) 0 items
    → items_at items places ≡ picked (is_left (items_at items places)) (standing items)
items_picked items places are =
    let chosen : List Item = items_at items places in
    ap (items_at items) are ∙ (picked_at (is_passed chosen) items gap 0 items refl ∙ passed_picked chosen items)

pub nothing_picked : (items : List Item) → [] ≡ places_from (is_passed []) 0 items
nothing_picked items = sym (no_place (is_passed []) 0 items (All-from_get_or (λ x. is_passed [] x ≡ true) items gap (λ i inside. or_right (is_gap (get_or items i gap)) true refl)))

-- what the bits say of the items
pub record SayBits (endpoints : ℕ) (table words : List ℕ) (items : List Item) (places : List ℕ) : Type 0 where
  pub places_are : places ≡ places_from (is_passed (items_at items places)) 0 items
  pub quiet : All (λ x. is_passed (items_at items places) x ≡ is_quiet endpoints table words x.flow) items

pub bits_picked : (endpoints : ℕ) (table words : List ℕ) (items : List Item) (places : List ℕ) (n : ℕ) → ArePlaced endpoints table items → length items ≤ n → places ≡ busy_places items words n
    → SayBits endpoints table words items places
bits_picked endpoints table words items places n placed long noted =
    let quiet : Flow → Bool = is_quiet endpoints table words in
    let aside : Item → Bool = λ x. quiet x.flow in
    let chosen : List Item = items_at items places in
    let test : ℕ → Bool = λ place. names_place words place && not (is_gap (item_at items place)) in
    let are : places ≡ places_from aside 0 items =
    noted
    ∙ (filter_both (names_place words) (λ place. not (is_gap (item_at items place))) (range_with_len 0 n)
    ∙ places_passed aside test 0 items n long refl (λ i. let same : 0 + i ≡ i = omega arith in ap test same ∙ quiet_at endpoints table words items i placed)) in
    let chosen_are : chosen ≡ picked aside items = ap (items_at items) are ∙ picked_at aside items gap 0 items refl in
    let all : All (λ x. is_passed chosen x ≡ quiet x.flow) items =
    All-weaker (λ x. is_left (picked aside items) x ≡ quiet x.flow) (λ x. is_passed chosen x ≡ quiet x.flow)
    (λ x left.
    ap (λ (xs : List Item). is_passed xs x) chosen_are
    ∙ (ap (λ (b : Bool). is_gap x || b) left ∙ or_again (is_gap x) (not (names_place words (get_or table (place_of endpoints x.flow.src x.flow.dst) 0)))))
    items (left_as_quiet quiet items) in
    record { places_are = are ∙ sym (places_agree (is_passed chosen) aside 0 items all); quiet = all }

-- an item without a bit has no entry
no_entry : (words : List ℕ) (items : List Item) (place : ℕ) (entries : List Entry) → is_gap (item_at items place) ≡ false → names_place words place ≡ false → HaveBits words items entries
    → entry_of entries (item_at items place).flow ≡ None
no_entry words items place [] there silent marked = refl
no_entry words items place (entry ∷ entries) there silent marked =
    let Marked : Entry → Type 0 = λ e. HasBit words items e.flow in
    let flow : Flow = (item_at items place).flow in
    let differs : same_flow entry.flow flow ≡ false =
    false_from_ne_true _ (λ same. both_ways (names_place words place) silent (All-head Marked entry entries marked place there (sym (same_flow-true entry.flow flow same)))) in
    cond-false (same_flow entry.flow flow) (Some entry) (find (λ e. same_flow e.flow flow) entries) differs ∙ no_entry words items place entries there silent (All-tail Marked entry entries marked)

silent_bit : (b c : Bool) → c ≡ false → (b && not c) ≡ false → b ≡ false
silent_bit true c there none = sym (ap not there) ∙ none
silent_bit false c there none = refl

pub nothing_needed : (endpoints : ℕ) (table words : List ℕ) (items : List Item) (places : List ℕ) (batches : List DemandBatch) → ArePlaced endpoints table items → NeedsHaveBits words items
    → All (λ batch. HaveBits words items batch.entries) batches → SayBits endpoints table words items places → NeedNothing (is_left (items_at items places)) batches (standing items)
nothing_needed endpoints table words items places batches placed bits marked say =
    let chosen : List Item = items_at items places in
    standing_each (λ x. is_left chosen x ≡ true → (x.need ≡ 0) × HaveNoEntry batches x.flow) items (λ place there left. elim (cases_lt place (length items)) [
      | inl below ↦
          let x : Item = item_at items place in
          let passes : is_quiet endpoints table words x.flow ≡ true = sym (All-get_or (λ y. is_passed chosen y ≡ is_quiet endpoints table words y.flow) items place gap below say.quiet) ∙ or_right (is_gap x) (is_left chosen x) left in
          let silent : names_place words place ≡ false = silent_bit (names_place words place) (is_gap x) there (quiet_at endpoints table words items place placed ∙ ap not passes) in (
            bits place silent,
            All-weaker (λ b. HaveBits words items b.entries) (λ b. entry_of b.entries x.flow ≡ None) (λ b has. no_entry words items place b.entries there silent has) batches marked,
          )
      | inr above ↦ absurd (both_ways (is_gap (item_at items place)) there (ap is_gap (get_or_past items place gap above)))
    ])
