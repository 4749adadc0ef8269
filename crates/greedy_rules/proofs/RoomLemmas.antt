-- Flows as the numbers of pairs of endpoints, of which no two are one.
use Rattle.std.proofs.Common.{◌≡◌, ◌≢◌, ◌<◌, ◌≤◌, ◌+◌, ◌-◌, ◌*◌, ℕ, List, [], ◌∷◌, ◌++◌, length, map, true, false, nat_eq, nat_lt, cond, inl, inr, All, ap, ◌∙◌, arith, length-append}
use Rattle.std.specs.List.{list_any, IsDistinct, AllByRecursion}
use Rattle.std.proofs.lemmas.List.{length-map}
use Rattle.std.proofs.lemmas.List.Elements.{All-head, All-tail}
use Rattle.std.proofs.lemmas.Map.Steps.{length-le_from_distinct_below}
use Rattle.std.proofs.lemmas.Bool.{ne_eqb, eqb-true, or_cases, cases_lt, cond-true, cond-false, lt-ltb, le-ltb}
use Rattle.std.proofs.lemmas.Nat.{same_from_place, mul-add-lt}
use Rattle.greedy_rules.specs.declared.flows.Flow.{Flow}
use Rattle.greedy_rules.specs.declared.flows.Item.{Item}
use Rattle.greedy_rules.specs.Demands.{HasEachFlowOnce, after_batch, with_batch, opened}
use Rattle.greedy_rules.specs.Room.{FlowsFitPairs}
use Rattle.list_facts.proofs.Pairs.{AllPairs-head, AllPairs-tail}
use Rattle.list_facts.proofs.StableSort.{length-sort_by}
use Rattle.greedy_rules.proofs.OnceLemmas.{once-after_batch, flows-after_batch}
use Rattle.greedy_rules.proofs.RangeLemmas.{IsBetween}

pub same_ends : (f g : Flow) → f.src ≡ g.src → f.dst ≡ g.dst → f ≡ g
same_ends f g from to = ap (λ (n : ℕ). record { src = n; dst = f.dst }) from ∙ ap (λ (n : ℕ). record { src = g.src; dst = n }) to

-- where flows of a kind have numbers below some number, no two of them one, a list of them in which each stands once is no longer
module _ (P : Flow → Type 0) (number : Flow → ℕ) (most : ℕ) (below : (flow : Flow) → P flow → number flow < most) (one : (f g : Flow) → P f → P g → number f ≡ number g → f ≡ g) where
  abbrev AreSuch : List Item → Type 0
  AreSuch list = All (λ item. P item.flow) list

  differs : (x : Item) (xs : List Item) → P x.flow → AreSuch xs → All (λ y. x.flow ≢ y.flow) xs → AllByRecursion (λ n. nat_eq (number x.flow) n ≡ false) (map (λ (item : Item). number item.flow) xs)
  differs x [] here there others = tt
  differs x (y ∷ ys) here there others = (
    ne_eqb _ _ (λ same. All-head (λ z. x.flow ≢ z.flow) y ys others (one x.flow y.flow here (All-head (λ z. P z.flow) y ys there) same)),
    differs x ys here (All-tail (λ z. P z.flow) y ys there) (All-tail (λ z. x.flow ≢ z.flow) y ys others),
  )

  numbers_distinct : (list : List Item) → HasEachFlowOnce list → AreSuch list → IsDistinct nat_eq (map (λ (item : Item). number item.flow) list)
  unfolding IsDistinct
  numbers_distinct [] once such = tt
  numbers_distinct (x ∷ xs) once such = (
    differs x xs (All-head (λ z. P z.flow) x xs such) (All-tail (λ z. P z.flow) x xs such) (AllPairs-head (λ (i j : Item). i.flow ≢ j.flow) x xs once),
    numbers_distinct xs (AllPairs-tail (λ (i j : Item). i.flow ≢ j.flow) x xs once) (All-tail (λ z. P z.flow) x xs such),
  )

  numbers_below : (list : List Item) → AreSuch list → (q : ℕ) → list_any (nat_eq q) (map (λ (item : Item). number item.flow) list) ≡ true → q < most
  numbers_below [] such q found = absurd (cc)
  numbers_below (x ∷ xs) such q found =
      elim (or_cases (nat_eq q (number x.flow)) (list_any (nat_eq q) (map (λ (item : Item). number item.flow) xs)) found) [
        | inl here ↦
            let is : q ≡ number x.flow = eqb-true _ _ here in
            omega (arith, is, below x.flow (All-head (λ z. P z.flow) x xs such))
        | inr there ↦ numbers_below xs (All-tail (λ z. P z.flow) x xs such) q there
      ]

  few_numbered : (list : List Item) → HasEachFlowOnce list → AreSuch list → length list ≤ most
  few_numbered list once such =
      omega (
        arith,
        length-map list (λ (item : Item). number item.flow),
        length-le_from_distinct_below (map (λ (item : Item). number item.flow) list) most (numbers_distinct list once such) (numbers_below list such),
      )

-- ---- flows between so many endpoints

abbrev pair_number : ℕ → Flow → ℕ
pair_number endpoints flow = flow.src * endpoints + flow.dst

same_pair : (endpoints : ℕ) (f g : Flow) → IsBetween endpoints f → IsBetween endpoints g → pair_number endpoints f ≡ pair_number endpoints g → f ≡ g
same_pair endpoints f g f_in g_in same = let parts = same_from_place f.src f.dst g.src g.dst endpoints f_in.1 g_in.1 same in same_ends f g parts.0 parts.1

pub few : (endpoints : ℕ) (list : List Item) → HasEachFlowOnce list → All (λ item. IsBetween endpoints item.flow) list → length list ≤ endpoints * endpoints
few endpoints list once within =
    few_numbered (IsBetween endpoints) (pair_number endpoints) (endpoints * endpoints)
    (λ flow is. mul-add-lt flow.src endpoints flow.dst endpoints is.0 is.1) (same_pair endpoints) list once within

-- ---- and none from an endpoint to itself

abbrev pub IsPair : ℕ → Flow → Type 0
IsPair endpoints flow = IsBetween endpoints flow × (flow.src ≢ flow.dst)

-- the place of the destination among those that the source can send to
abbrev column : Flow → ℕ
column flow = cond (nat_lt flow.dst flow.src) flow.dst (flow.dst - 1)

abbrev proper_number : ℕ → Flow → ℕ
proper_number endpoints flow = flow.src * (endpoints - 1) + column flow

column-low : (flow : Flow) → flow.dst < flow.src → column flow ≡ flow.dst
column-low flow low = cond-true (nat_lt flow.dst flow.src) flow.dst (flow.dst - 1) (lt-ltb _ _ low)

column-high : (flow : Flow) → flow.src ≤ flow.dst → column flow ≡ flow.dst - 1
column-high flow high = cond-false (nat_lt flow.dst flow.src) flow.dst (flow.dst - 1) (le-ltb _ _ high)

column_below : (endpoints : ℕ) (flow : Flow) → IsPair endpoints flow → column flow < endpoints - 1
column_below endpoints flow pair = elim (cases_lt flow.dst flow.src) [
  | inl low ↦ omega (arith, column-low flow low, pair.0.0)
  | inr high ↦ let apart : flow.src ≢ flow.dst = pair.1 in omega (arith, column-high flow high, pair.0.1, high, apart)
]

same_destination : (f g : Flow) → f.src ≢ f.dst → g.src ≢ g.dst → f.src ≡ g.src → column f ≡ column g → f.dst ≡ g.dst
same_destination f g f_apart g_apart from to = elim (cases_lt f.dst f.src) [
  | inl f_low ↦ elim (cases_lt g.dst g.src) [
    | inl g_low ↦ omega (arith, column-low f f_low, column-low g g_low, to)
    | inr g_high ↦ omega (arith, column-low f f_low, column-high g g_high, to, from, f_low, g_high, g_apart)
  ]
  | inr f_high ↦ elim (cases_lt g.dst g.src) [
    | inl g_low ↦ omega (arith, column-high f f_high, column-low g g_low, to, from, f_high, g_low, f_apart)
    | inr g_high ↦ omega (arith, column-high f f_high, column-high g g_high, to, from, f_high, g_high, f_apart, g_apart)
  ]
]

same_proper : (endpoints : ℕ) (f g : Flow) → IsPair endpoints f → IsPair endpoints g → proper_number endpoints f ≡ proper_number endpoints g → f ≡ g
same_proper endpoints f g f_is g_is same =
    let parts = same_from_place f.src (column f) g.src (column g) (endpoints - 1) (column_below endpoints f f_is) (column_below endpoints g g_is) same in
    same_ends f g parts.0 (same_destination f g f_is.1 g_is.1 parts.0 parts.1)

proper_below : (endpoints : ℕ) (flow : Flow) → IsPair endpoints flow → proper_number endpoints flow < endpoints * (endpoints - 1)
proper_below endpoints flow is =
    let below : proper_number endpoints flow < (endpoints - 1) * endpoints = mul-add-lt flow.src (endpoints - 1) (column flow) endpoints is.0.0 (column_below endpoints flow is) in
    let other_way : (endpoints - 1) * endpoints ≡ endpoints * (endpoints - 1) = grind arith in
    omega (arith, below, other_way)

pub few_pairs : (endpoints : ℕ) (list : List Item) → HasEachFlowOnce list → All (λ item. IsPair endpoints item.flow) list → length list ≤ endpoints * (endpoints - 1)
few_pairs endpoints list once pairs =
    few_numbered (IsPair endpoints) (proper_number endpoints) (endpoints * (endpoints - 1)) (proper_below endpoints) (same_proper endpoints) list once pairs

pub flows_fit : FlowsFitPairs
flows_fit endpoints batch list rising opens once below apart =
    let applied : List Item = map (with_batch batch) list ++ opened batch in
    let pairs : All (λ (item : Item). IsPair endpoints item.flow) (list ++ opened batch) = λ k d within. (below k d within, apart k d within) in
    omega (
      arith,
      few_pairs endpoints (after_batch batch list) (once-after_batch batch list rising opens once) (flows-after_batch (IsPair endpoints) batch list pairs),
      length-sort_by (λ item. item.last) applied,
      length-append (map (with_batch batch) list) (opened batch),
      length-map list (with_batch batch),
    )
