-- A list that has each flow once, between so many endpoints, is no longer than there are pairs of them.
use Rattle.std.proofs.Common.{◌≡◌, ◌≢◌, ◌<◌, ◌≤◌, ◌+◌, ◌*◌, ℕ, List, [], ◌∷◌, length, map, true, false, nat_eq, inl, inr, All, ap, ◌∙◌, arith}
use Rattle.std.specs.List.{list_any, IsDistinct, AllByRecursion}
use Rattle.std.proofs.lemmas.List.{length-map}
use Rattle.std.proofs.lemmas.List.Elements.{All-head, All-tail}
use Rattle.std.proofs.lemmas.Map.Steps.{length-le_from_distinct_below}
use Rattle.std.proofs.lemmas.Bool.{ne_eqb, eqb-true, or_cases}
use Rattle.std.proofs.lemmas.Nat.{same_from_place, mul-add-lt}
use Rattle.greedy_rules.specs.declared.flows.Item.{Item}
use Rattle.greedy_rules.specs.Demands.{HasEachFlowOnce}
use Rattle.greedy_rules.proofs.OnceLemmas.{InRange}
use Rattle.list_facts.proofs.Pairs.{AllPairs-head, AllPairs-tail}

abbrev pair_number : ℕ → Item → ℕ
pair_number endpoints item = item.flow.src * endpoints + item.flow.dst

differs : (endpoints : ℕ) (x : Item) (xs : List Item) → InRange endpoints x → All (InRange endpoints) xs → All (λ y. x.flow ≢ y.flow) xs
    → AllByRecursion (λ n. nat_eq (pair_number endpoints x) n ≡ false) (map (pair_number endpoints) xs)
differs endpoints x [] here there others = tt
differs endpoints x (y ∷ ys) here there others = (
  ne_eqb _ _ (λ same.
      let within : InRange endpoints y = All-head (InRange endpoints) y ys there in
      let parts = same_from_place x.flow.src x.flow.dst y.flow.src y.flow.dst endpoints here.1 within.1 same in
      All-head (λ z. x.flow ≢ z.flow) y ys others
      (ap (λ (n : ℕ). record { src = n; dst = x.flow.dst }) parts.0 ∙ ap (λ (n : ℕ). record { src = y.flow.src; dst = n }) parts.1)),
  differs endpoints x ys here (All-tail (InRange endpoints) y ys there) (All-tail (λ z. x.flow ≢ z.flow) y ys others),
)

pairs_distinct : (endpoints : ℕ) (list : List Item) → HasEachFlowOnce list → All (InRange endpoints) list → IsDistinct nat_eq (map (pair_number endpoints) list)
unfolding IsDistinct
pairs_distinct endpoints [] once within = tt
pairs_distinct endpoints (x ∷ xs) once within = (
  differs endpoints x xs (All-head (InRange endpoints) x xs within) (All-tail (InRange endpoints) x xs within) (AllPairs-head (λ (i j : Item). i.flow ≢ j.flow) x xs once),
  pairs_distinct endpoints xs (AllPairs-tail (λ (i j : Item). i.flow ≢ j.flow) x xs once) (All-tail (InRange endpoints) x xs within),
)

pairs_below : (endpoints : ℕ) (list : List Item) → All (InRange endpoints) list → (q : ℕ) → list_any (nat_eq q) (map (pair_number endpoints) list) ≡ true → q < endpoints * endpoints
pairs_below endpoints [] within q found = absurd (cc)
pairs_below endpoints (x ∷ xs) within q found =
    elim (or_cases (nat_eq q (pair_number endpoints x)) (list_any (nat_eq q) (map (pair_number endpoints) xs)) found) [
      | inl here ↦
          let is : q ≡ pair_number endpoints x = eqb-true _ _ here in
          let in_range : InRange endpoints x = All-head (InRange endpoints) x xs within in
          let below : pair_number endpoints x < endpoints * endpoints = mul-add-lt x.flow.src endpoints x.flow.dst endpoints in_range.0 in_range.1 in
          omega (arith, is, below)
      | inr there ↦ pairs_below endpoints xs (All-tail (InRange endpoints) x xs within) q there
    ]

pub few : (endpoints : ℕ) (list : List Item) → HasEachFlowOnce list → All (InRange endpoints) list → length list ≤ endpoints * endpoints
few endpoints list once within =
    omega (
      arith,
      length-map list (pair_number endpoints),
      length-le_from_distinct_below (map (pair_number endpoints) list) (endpoints * endpoints) (pairs_distinct endpoints list once within) (pairs_below endpoints list within),
    )
