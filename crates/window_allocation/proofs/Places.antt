-- The places of the items that are picked, and a list that is woven from place to place.
use Rattle.std.proofs.Common.{◌≡◌, ◌<◌, ◌≤◌, ◌+◌, ◌-◌, ℕ, zero, suc, List, [], ◌∷◌, ◌++◌, length, take, drop, get_or, map, Bool, true, false, not, nat_lt, cond, All, refl, sym, ap, ◌∙◌, subst, arith, inl, inr}
use Rattle.std.specs.List.Sorted.{IsNonDecreasingBy, IsPartitionPoint}
use Rattle.std.proofs.lemmas.Bool.{cond-true, cond-false, cases_Bool, ltb-true, ltb-false}
use Rattle.std.proofs.lemmas.List.Elements.{All-nil, All-cons, All-head, All-tail}
use Rattle.std.proofs.lemmas.List.{append_assoc, length-append, take-append-drop, take_at, drop_at, drop_more, take_rest, length-take-le, length-drop, get_or-drop, drop-drop, get_or_append_left, get_or-append_right, nil_from_length}
use Rattle.greedy_rules.specs.declared.flows.Item.{Item}
use Rattle.slot_batches.specs.Woven.{picked, stays, weave, never_served, once_served, woven, places_from}
use Rattle.window_allocation.specs.Picked.{staying}
use Rattle.window_allocation.proofs.Weaving.{run_aside, followed}

-- the places of two lists, one behind the other
pub places_append : (aside : Item → Bool) (place : ℕ) (xs ys : List Item) → places_from aside place (xs ++ ys) ≡ places_from aside place xs ++ places_from aside (place + length xs) ys
places_append aside place [] ys = ap (λ (n : ℕ). places_from aside n ys) (omega arith)
places_append aside place (x ∷ xs) ys =
    let on : ℕ = place + 1 in
    let more : places_from aside on (xs ++ ys) ≡ places_from aside on xs ++ places_from aside (place + suc (length xs)) ys =
    places_append aside on xs ys ∙ ap (λ (n : ℕ). places_from aside on xs ++ places_from aside n ys) (omega arith) in
    elim (cases_Bool (aside x)) [
      | inl is ↦
          cond-true (aside x) (places_from aside on (xs ++ ys)) (place ∷ places_from aside on (xs ++ ys)) is
          ∙ (more ∙ ap (λ (ps : List ℕ). ps ++ places_from aside (place + suc (length xs)) ys) (sym (cond-true (aside x) (places_from aside on xs) (place ∷ places_from aside on xs) is)))
      | inr not_it ↦
          cond-false (aside x) (places_from aside on (xs ++ ys)) (place ∷ places_from aside on (xs ++ ys)) not_it
          ∙ (ap (λ (ps : List ℕ). place ∷ ps) more
          ∙ ap (λ (ps : List ℕ). ps ++ places_from aside (place + suc (length xs)) ys) (sym (cond-false (aside x) (places_from aside on xs) (place ∷ places_from aside on xs) not_it)))
    ]

-- items that are all set aside have none
pub no_place : (aside : Item → Bool) (place : ℕ) (items : List Item) → All (λ item. aside item ≡ true) items → places_from aside place items ≡ []
no_place aside place [] all = refl
no_place aside place (item ∷ items) all =
    cond-true (aside item) (places_from aside (place + 1) items) (place ∷ places_from aside (place + 1) items) (All-head (λ x. aside x ≡ true) item items all)
    ∙ no_place aside (place + 1) items (All-tail (λ x. aside x ≡ true) item items all)

-- the list goes on to its next place, so far ahead: up to there all is set aside
pub record IsNext (aside : Item → Bool) (from ahead : ℕ) (places : List ℕ) (list : List Item) : Type 0 where
  pub within : ahead < length list
  pub run : All (λ item. aside item ≡ true) (take ahead list)
  pub item : (d : Item) → aside (get_or list ahead d) ≡ false
  pub left : places ≡ places_from aside (from + ahead + 1) (drop (suc ahead) list)

pub next_place : (aside : Item → Bool) (from place : ℕ) (places : List ℕ) (list : List Item) → place ∷ places ≡ places_from aside from list → (from ≤ place) × IsNext aside from (place - from) places list
next_place aside from place places [] is = absurd (cc)
next_place aside from place places (item ∷ list) is = elim (cases_Bool (aside item)) [
  | inl aside_it ↦
      let on : ℕ = from + 1 in
      let more = next_place aside on place places list (is ∙ cond-true (aside item) (places_from aside on list) (from ∷ places_from aside on list) aside_it) in
      let up : on ≤ place = more.0 in
      let k : ℕ = place - on in
      let next : IsNext aside on k places list = more.1 in
      let ahead : suc k ≡ place - from = omega (arith, up) in
      let there : on + k + 1 ≡ from + suc k + 1 = omega arith in (
        omega (arith, up),
        subst (λ (n : ℕ). IsNext aside from n places (item ∷ list)) ahead
            (record {
              within = omega (arith, next.within);
              run = All-cons (λ x. aside x ≡ true) item (take k list) aside_it next.run;
              item = next.item;
              left = next.left ∙ ap (λ (n : ℕ). places_from aside n (drop (suc k) list)) there;
            }),
      )
  | inr not_it ↦
      let on : ℕ = from + 1 in
      let same : place ∷ places ≡ from ∷ places_from aside on list = is ∙ cond-false (aside item) (places_from aside on list) (from ∷ places_from aside on list) not_it in
      let head : place ≡ from = ap (λ (ps : List ℕ). get_or ps 0 place) same in
      let tail : places ≡ places_from aside on list = ap (λ (ps : List ℕ). drop 1 ps) same in
      let ahead : 0 ≡ place - from = omega (arith, head) in
      let there : on ≡ from + 0 + 1 = omega arith in (
        omega (arith, head),
        subst (λ (n : ℕ). IsNext aside from n places (item ∷ list)) ahead
            (record {
              within = omega arith;
              run = All-nil (λ x. aside x ≡ true);
              item = λ d. not_it;
              left = tail ∙ ap (λ (n : ℕ). places_from aside n list) there;
            }),
      )
]

-- where no place is left, all is set aside
pub none_next : (aside : Item → Bool) (from : ℕ) (list : List Item) → [] ≡ places_from aside from list → All (λ item. aside item ≡ true) list
none_next aside from [] none = All-nil (λ item. aside item ≡ true)
none_next aside from (item ∷ list) none = elim (cases_Bool (aside item)) [
  | inl is ↦
      All-cons (λ x. aside x ≡ true) item list is
      (none_next aside (from + 1) list (none ∙ cond-true (aside item) (places_from aside (from + 1) list) (from ∷ places_from aside (from + 1) list) is))
  | inr not_it ↦
      (let some : [] ≡ from ∷ places_from aside (from + 1) list = none ∙ cond-false (aside item) (places_from aside (from + 1) list) (from ∷ places_from aside (from + 1) list) not_it in absurd (cc))
]

-- each place is one of the list's
within_cons : (from n : ℕ) (ps : List ℕ) (i d value : ℕ) → value ≡ get_or (from ∷ ps) i d → i < suc (length ps)
    → ((k : ℕ) → k < length ps → (from + 1 ≤ get_or ps k d) × (get_or ps k d < from + 1 + n)) → (from ≤ value) × (value < from + suc n)
within_cons from n ps zero d value is inside more = (omega (arith, is), omega (arith, is))
within_cons from n ps (suc k) d value is inside more = let one = more k (omega (arith, inside)) in (omega (arith, is, one.0), omega (arith, is, one.1))

pub within_list : (aside : Item → Bool) (from : ℕ) (list : List Item) (i d : ℕ) → i < length (places_from aside from list)
    → (from ≤ get_or (places_from aside from list) i d) × (get_or (places_from aside from list) i d < from + length list)
within_list aside from [] i d inside = absurd (omega arith)
within_list aside from (item ∷ list) i d inside = elim (cases_Bool (aside item)) [
  | inl is ↦
      let same : places_from aside from (item ∷ list) ≡ places_from aside (from + 1) list = cond-true (aside item) (places_from aside (from + 1) list) (from ∷ places_from aside (from + 1) list) is in
      let more = within_list aside (from + 1) list i d (omega (arith, inside, ap length same)) in
      let value : get_or (places_from aside from (item ∷ list)) i d ≡ get_or (places_from aside (from + 1) list) i d = ap (λ (ps : List ℕ). get_or ps i d) same in
      (omega (arith, value, more.0), omega (arith, value, more.1))
  | inr not_it ↦
      let same : places_from aside from (item ∷ list) ≡ from ∷ places_from aside (from + 1) list = cond-false (aside item) (places_from aside (from + 1) list) (from ∷ places_from aside (from + 1) list) not_it in
      let value : get_or (places_from aside from (item ∷ list)) i d ≡ get_or (from ∷ places_from aside (from + 1) list) i d = ap (λ (ps : List ℕ). get_or ps i d) same in
      within_cons from (length list) (places_from aside (from + 1) list) i d (get_or (places_from aside from (item ∷ list)) i d) value (omega (arith, inside, ap length same))
      (λ k inside'. within_list aside (from + 1) list k d inside')
]

pub place_within : (aside : Item → Bool) (list : List Item) (places : List ℕ) (i : ℕ) → places ≡ places_from aside 0 list → i < length places → get_or places i 0 < length list
place_within aside list places i are more =
    let one = within_list aside 0 list i 0 (omega (arith, more, ap length are)) in
    omega (arith, one.1, ap (λ (ps : List ℕ). get_or ps i 0) are)

-- the items at the places are those that are picked
pub picked_at : (aside : Item → Bool) (list : List Item) (d : Item) (k : ℕ) (items : List Item) → drop k list ≡ items
    → map (λ (place : ℕ). get_or list place d) (places_from aside k items) ≡ picked aside items
picked_at aside list d k [] are = refl
picked_at aside list d k (item ∷ items) are =
    let at : ℕ → Item = λ place. get_or list place d in
    let on : ℕ = k + 1 in
    let none : List Item = [] in
    let same : k + 0 ≡ k = omega arith in
    let here : at k ≡ item = sym (get_or-drop k list 0 d ∙ ap at same) ∙ ap (λ (xs : List Item). get_or xs 0 d) are in
    let rest : drop on list ≡ items = sym (drop-drop 1 k list) ∙ ap (drop 1) are in
    let more : map at (places_from aside on items) ≡ picked aside items = picked_at aside list d on items rest in
    elim (cases_Bool (aside item)) [
      | inl is ↦
          ap (map at) (cond-true (aside item) (places_from aside on items) (k ∷ places_from aside on items) is)
          ∙ (more ∙ sym (cond-false (not (aside item)) (item ∷ picked aside items) (picked aside items) (ap not is)))
      | inr not_it ↦
          ap (map at) (cond-false (aside item) (places_from aside on items) (k ∷ places_from aside on items) not_it)
          ∙ (ap (λ (x : Item). x ∷ map at (places_from aside on items)) here
          ∙ (ap (λ (xs : List Item). item ∷ xs) more ∙ sym (cond-true (not (aside item)) (item ∷ picked aside items) (picked aside items) (ap not not_it))))
    ]

-- they rise
rise_cons : (from : ℕ) (ps : List ℕ) → IsNonDecreasingBy (λ place. place) ps → ((i d : ℕ) → i < length ps → from ≤ get_or ps i d) → IsNonDecreasingBy (λ place. place) (from ∷ ps)
rise_cons from ps up above zero zero d le inside = omega arith
rise_cons from ps up above zero (suc j) d le inside = omega (arith, above j d (omega (arith, inside)))
rise_cons from ps up above (suc i) zero d le inside = absurd (omega (arith, le))
rise_cons from ps up above (suc i) (suc j) d le inside = up i j d (omega (arith, le)) (omega (arith, inside))

pub places_rise : (aside : Item → Bool) (from : ℕ) (list : List Item) → IsNonDecreasingBy (λ place. place) (places_from aside from list)
places_rise aside from [] = λ i j d le inside. absurd (omega arith)
places_rise aside from (item ∷ list) =
    let on : ℕ = from + 1 in
    let Rises : List ℕ → Type 0 = IsNonDecreasingBy (λ place. place) in
    elim (cases_Bool (aside item)) [
      | inl is ↦ subst Rises (sym (cond-true (aside item) (places_from aside on list) (from ∷ places_from aside on list) is)) (places_rise aside on list)
      | inr not_it ↦
          subst Rises (sym (cond-false (aside item) (places_from aside on list) (from ∷ places_from aside on list) not_it))
          (rise_cons from (places_from aside on list) (places_rise aside on list) (λ i d inside. let one = within_list aside on list i d inside in omega (arith, one.0)))
    ]

-- the places below the end of the first of two lists are that list's
pub places_part : (aside : Item → Bool) (from k : ℕ) (xs ys : List Item) (places : List ℕ) → places ≡ places_from aside from (xs ++ ys)
    → IsPartitionPoint (λ place. nat_lt place (from + length xs) ≡ true) (λ place. nat_lt place (from + length xs) ≡ false) places k → k ≤ length places
    → (take k places ≡ places_from aside from xs) × (drop k places ≡ places_from aside (from + length xs) ys)
places_part aside from k xs ys places is point inside =
    let end : ℕ = from + length xs in
    let ps : List ℕ = places_from aside from xs in
    let qs : List ℕ = places_from aside end ys in
    let parts : places ≡ ps ++ qs = is ∙ places_append aside from xs ys in
    let n : ℕ = length ps in
    let long : length places ≡ n + length qs = ap length parts ∙ length-append ps qs in
    let no_more : n < k → ⊥ = λ more.
    let low : nat_lt (get_or places n 0) end ≡ true = point.0 n 0 (omega arith) more in
    let at : get_or places n 0 ≡ get_or qs (n - n) 0 = ap (λ (zs : List ℕ). get_or zs n 0) parts ∙ get_or-append_right ps qs n n 0 refl (omega arith) in
    let one = within_list aside end ys (n - n) 0 (omega (arith, more, inside, long)) in
    let above : end ≤ get_or qs (n - n) 0 = one.0 in
    (let below : get_or places n 0 < end = ltb-true _ _ low in absurd (omega (arith, below, at, above))) in
    let no_less : k < n → ⊥ = λ less.
    let high : nat_lt (get_or places k 0) end ≡ false = point.1 k 0 (omega arith) (omega (arith, less, long)) in
    let at : get_or places k 0 ≡ get_or ps k 0 = ap (λ (zs : List ℕ). get_or zs k 0) parts ∙ get_or_append_left ps qs 0 k less in
    let one = within_list aside from xs k 0 less in
    let below : get_or ps k 0 < end = one.1 in
    (let above : end ≤ get_or places k 0 = ltb-false _ _ high in absurd (omega (arith, below, at, above))) in
    let there : n ≡ k = elim (cases_Bool (nat_lt k n)) [
      | inl less ↦ absurd (no_less (ltb-true _ _ less))
      | inr not_less ↦ elim (cases_Bool (nat_lt n k)) [
        | inl more ↦ absurd (no_more (ltb-true _ _ more))
        | inr not_more ↦ omega (arith, ltb-false _ _ not_less, ltb-false _ _ not_more)
      ]
    ] in (
      ap (take k) parts ∙ take_at ps qs k there,
      ap (drop k) parts ∙ drop_at ps qs k there,
    )

-- a picked item, where it stays, and else nothing
item_woven : (aside : Item → Bool) (item : Item) (more rest : List Item) → aside item ≡ false
    → weave aside (item ∷ more) rest ≡ staying (item ∷ more) rest ++ weave aside more (drop (length (staying (item ∷ more) rest)) rest)
item_woven aside item more [] picked_it = cond-false (aside item) (item ∷ weave aside more []) (weave aside more []) picked_it
item_woven aside item more (next ∷ rest) picked_it =
    let left : List Item = next ∷ rest in
    let none : List Item = [] in
    cond-false (aside item) (item ∷ weave aside more left) (cond (stays item next) (next ∷ weave aside more rest) (weave aside more left)) picked_it
    ∙ elim (cases_Bool (stays item next)) [
      | inl is ↦
          let one : next ∷ none ≡ staying (item ∷ more) left = sym (cond-true (stays item next) (next ∷ none) none is) in
          cond-true (stays item next) (next ∷ weave aside more rest) (weave aside more left) is ∙ ap (λ (xs : List Item). xs ++ weave aside more (drop (length xs) left)) one
      | inr gone ↦
          let no : none ≡ staying (item ∷ more) left = sym (cond-false (stays item next) (next ∷ none) none gone) in
          cond-false (stays item next) (next ∷ weave aside more rest) (weave aside more left) gone ∙ ap (λ (xs : List Item). xs ++ weave aside more (drop (length xs) left)) no
    ]

-- a run that is set aside, and then a picked item
pub run_woven : (aside : Item → Bool) (item : Item) (run more rest : List Item) → All (λ x. aside x ≡ true) run → aside item ≡ false
    → weave aside (run ++ item ∷ more) rest ≡ (run ++ staying (item ∷ more) rest) ++ weave aside more (drop (length (staying (item ∷ more) rest)) rest)
run_woven aside item run more rest all picked_it =
    run_aside aside run (item ∷ more) rest all
    ∙ (ap (λ (xs : List Item). run ++ xs) (item_woven aside item more rest picked_it) ∙ sym (append_assoc run (staying (item ∷ more) rest) (weave aside more (drop (length (staying (item ∷ more) rest)) rest))))

-- what is known at the next place of a part whose first item stands at `first`, where its items before `from` are woven
pub record IsStep (aside : Item → Bool) (first from i to : ℕ) (places : List ℕ) (list rest : List Item) : Type 0 where
  pub above : from ≤ to
  pub within : to < length list
  pub left : drop (i + 1) places ≡ places_from aside (first + (to + 1)) (drop (to + 1) list)
  pub woven : weave aside (drop from list) rest ≡ (take (to - from) (drop from list) ++ staying (drop to list) rest) ++ weave aside (drop (to + 1) list) (drop (length (staying (drop to list) rest)) rest)

abbrev nothing : Item
nothing = record { flow = record { src = 0; dst = 0 }; need = 0; last = 0 }

pub next_step : (aside : Item → Bool) (first from i : ℕ) (places : List ℕ) (list rest : List Item) → from ≤ length list → i < length places → drop i places ≡ places_from aside (first + from) (drop from list)
    → (first ≤ get_or places i 0) × IsStep aside first from i (get_or places i 0 - first) places list rest
next_step aside first from i places list rest inside more left =
    let place : ℕ = get_or places i 0 in
    let to : ℕ = place - first in
    let part : List Item = drop from list in
    let k : ℕ = place - (first + from) in
    let found = next_place aside (first + from) place (drop (i + 1) places) part (sym (drop_more places i 0 more) ∙ left) in
    let up : first + from ≤ place = found.0 in
    let next : IsNext aside (first + from) k (drop (i + 1) places) part = found.1 in
    let there : from + k ≡ to = omega (arith, up) in
    let ahead : k ≡ to - from = omega (arith, up) in
    let within : to < length list = omega (arith, there, next.within, length-drop from list) in
    let item : Item = get_or list to nothing in
    let behind : List Item = drop (to + 1) list in
    let here : drop to list ≡ item ∷ behind = drop_more list to nothing within in
    let is_picked : aside item ≡ false = ap aside (sym (get_or-drop from list k nothing ∙ ap (λ (n : ℕ). get_or list n nothing) there)) ∙ next.item nothing in
    let split : part ≡ take k part ++ item ∷ behind =
    sym (take-append-drop k part) ∙ ap (λ (xs : List Item). take k part ++ xs) (drop-drop k from list ∙ (ap (λ (n : ℕ). drop n list) there ∙ here)) in
    let step : weave aside part rest ≡ (take k part ++ staying (item ∷ behind) rest) ++ weave aside behind (drop (length (staying (item ∷ behind) rest)) rest) =
    ap (λ (xs : List Item). weave aside xs rest) split ∙ run_woven aside item (take k part) behind rest next.run is_picked in (
      omega (arith, up),
      record {
        above = omega (arith, up);
        within = within;
        left = next.left
            ∙ (ap (λ (n : ℕ). places_from aside n (drop (suc k) part)) (omega (arith, up))
            ∙ ap (places_from aside (first + (to + 1))) (drop-drop (suc k) from list ∙ ap (λ (n : ℕ). drop n list) (omega (arith, up))));
        woven = step
            ∙ (ap (λ (xs : List Item). (take k part ++ staying xs rest) ++ weave aside behind (drop (length (staying xs rest)) rest)) (sym here)
            ∙ ap (λ (n : ℕ). (take n part ++ staying (drop to list) rest) ++ weave aside behind (drop (length (staying (drop to list) rest)) rest)) ahead);
      },
    )

-- where no place is left, the rest follows what is left of the part
pub last_step : (aside : Item → Bool) (first from i : ℕ) (places : List ℕ) (list rest : List Item) → length places ≤ i → drop i places ≡ places_from aside (first + from) (drop from list)
    → weave aside (drop from list) rest ≡ drop from list ++ rest
last_step aside first from i places list rest ended left =
    let none : drop i places ≡ [] = nil_from_length (drop i places) (omega (arith, ended, length-drop i places)) in
    followed aside (drop from list) rest (none_next aside (first + from) (drop from list) (sym none ∙ left))

-- the places of both parts of a list, as the code cuts them
pub parts_placed : (aside : Item → Bool) (served k : ℕ) (list : List Item) (places : List ℕ) → served ≤ length list → k ≤ length places → places ≡ places_from aside 0 list
    → IsPartitionPoint (λ place. nat_lt place served ≡ true) (λ place. nat_lt place served ≡ false) places k
    → (take k places ≡ places_from aside 0 (take served list)) × (take (length places - k) (drop k places) ≡ places_from aside served (take (length list - served) (drop served list)))
parts_placed aside served k list places inside within is point =
    let end : served ≡ 0 + length (take served list) = omega (arith, length-take-le served list inside) in
    let cut =
    places_part aside 0 k (take served list) (drop served list) places (is ∙ ap (places_from aside 0) (sym (take-append-drop served list)))
    (subst (λ (n : ℕ). IsPartitionPoint (λ place. nat_lt place n ≡ true) (λ place. nat_lt place n ≡ false) places k) end point) within in (
      cut.0,
      take_rest places k ∙ (cut.1 ∙ (ap (λ (n : ℕ). places_from aside n (drop served list)) (sym end) ∙ ap (places_from aside served) (sym (take_rest list served)))),
    )

-- both parts woven, as the code cuts them
pub parts_woven : (aside : Item → Bool) (served rest_served : ℕ) (list rest : List Item) → take served list ≡ never_served list → drop served list ≡ once_served list → take rest_served rest ≡ never_served rest
    → drop rest_served rest ≡ once_served rest
    → weave aside (take served list) (take rest_served rest) ++ weave aside (take (length list - served) (drop served list)) (take (length rest - rest_served) (drop rest_served rest)) ≡ woven aside list rest
parts_woven aside served rest_served list rest never once rest_never rest_once =
    let second : take (length list - served) (drop served list) ≡ once_served list = take_rest list served ∙ once in
    let rest_second : take (length rest - rest_served) (drop rest_served rest) ≡ once_served rest = take_rest rest rest_served ∙ rest_once in
    rw (never, rest_never, second, rest_second) refl
