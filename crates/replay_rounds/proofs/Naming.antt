-- The raw packets of a round by the endpoint that they name: those of one endpoint, in the order of rows.
use Rattle.std.proofs.Common.{◌≡◌, ◌<◌, ℕ, suc, ◌+◌, Bool, true, false, ◌==◌, nat_eq, cond, List, [], ◌∷◌, ◌++◌, length, get_or, drop, map, filter, Option, Some, None, All, refl, sym, ap, ◌∙◌, arith, length-drop}
use Rattle.std.specs.List.{flat_map}
use Rattle.std.proofs.lemmas.List.{drop_more}
use Rattle.std.specs.Option.{option_eq}
use Rattle.std.proofs.lemmas.Bool.Decides.{nat_tests}
use Rattle.std.proofs.lemmas.List.Elements.{All-cons}
use Rattle.list_facts.specs.Order.{insert_by, sort_by}
use Rattle.lane_rounds.specs.Outside.{names}
use Rattle.lane_rounds.specs.Raw.{Raw}
use Rattle.replay_rounds.specs.declared.named.Named.{Named}
use Rattle.replay_rounds.specs.Setting.{rows_from}
use Rattle.replay_rounds.specs.Collecting.{named_at, source_of}
use Rattle.replay_rounds.proofs.RowLemmas.{named}

module _ {X : Type 0} (number : X → ℕ) where
  of_insert : (n : ℕ) (x : X) (xs : List X) → filter (λ y. number y == n) (insert_by number x xs) ≡ filter (λ y. number y == n) (x ∷ xs)
  of_insert n x [] = refl
  of_insert n x (y ∷ ys) = grind (arith, nat_tests, of_insert n x ys)

  -- a sort keeps the elements of a number as they stood
  pub of_sort : (n : ℕ) (xs : List X) → filter (λ y. number y == n) (sort_by number xs) ≡ filter (λ y. number y == n) xs
  of_sort n [] = refl
  of_sort n (x ∷ xs) = of_insert n x (sort_by number xs) ∙ ap (λ (zs : List X). cond (number x == n) (x ∷ zs) zs) (of_sort n xs)

-- what a row names
abbrev pub named_by : ℕ → Raw → List Named
named_by n row = named_at row.place (source_of n row.bytes)

-- the row at the place of a named packet
abbrev pub row_of : List (List ℕ) → Named → Raw
row_of raw one = record { place = one.place; bytes = get_or raw one.place [] }

next_drop : {X : Type 0} (place : ℕ) (all : List X) (d x : X) (rest : List X) → drop place all ≡ x ∷ rest → (get_or all place d ≡ x) × (drop (place + 1) all ≡ rest)
next_drop place all d x rest is =
    let many = ap length is in
    let within : place < length all = omega (arith, many, length-drop place all) in
    let both : get_or all place d ∷ drop (place + 1) all ≡ x ∷ rest = sym (drop_more all place d within) ∙ is in (cc, cc)

-- the rows of those that name an endpoint, where the first row is named so and the others are
module _ (n endpoint place : ℕ) (all rest : List (List ℕ)) (bytes : List ℕ) where
  abbrev row : Raw
  row = record { place = place; bytes = bytes }

  abbrev one : ℕ → Named
  one source = record { source = source; place = place }

  abbrev others : List Named
  others = filter (λ (one : Named). one.source == endpoint) (flat_map (named_by n) (rows_from (place + 1) rest))

  abbrev rows : List Raw
  rows = filter (λ (row : Raw). names endpoint n row.bytes) (rows_from (place + 1) rest)

  own : get_or all place [] ≡ bytes → map (row_of all) others ≡ rows → (b : Bool) (source : ℕ) → map (row_of all) (cond b (one source ∷ others) others) ≡ cond b (row ∷ rows) rows
  own here more true source =
      ap (λ (bytes : List ℕ). record { place = place; bytes = bytes } ∷ map (row_of all) others) here
      ∙ ap (λ (rs : List Raw). row ∷ rs) more
  own here more false source = more

  test : (o : Option ℕ) → source_of n bytes ≡ o → names endpoint n bytes ≡ option_eq nat_eq o (Some endpoint)
  test o e = named endpoint n bytes ∙ ap (λ (source : Option ℕ). option_eq nat_eq source (Some endpoint)) e

  row_naming : get_or all place [] ≡ bytes → map (row_of all) others ≡ rows → (o : Option ℕ) → source_of n bytes ≡ o
      → map (row_of all) (filter (λ (one : Named). one.source == endpoint) (named_at place o ++ flat_map (named_by n) (rows_from (place + 1) rest))) ≡ cond (names endpoint n bytes) (row ∷ rows) rows
  row_naming here more None e = more ∙ sym (ap (λ (b : Bool). cond b (row ∷ rows) rows) (test None e))
  row_naming here more (Some source) e = own here more (source == endpoint) source ∙ sym (ap (λ (b : Bool). cond b (row ∷ rows) rows) (test (Some source) e))

-- the rows of those that name an endpoint
pub rows_naming : (n endpoint place : ℕ) (all rest : List (List ℕ)) → drop place all ≡ rest
    → map (row_of all) (filter (λ one. one.source == endpoint) (flat_map (named_by n) (rows_from place rest))) ≡ filter (λ row. names endpoint n row.bytes) (rows_from place rest)
rows_naming n endpoint place all [] is = refl
rows_naming n endpoint place all (bytes ∷ rest) is =
    let next = next_drop place all [] bytes rest is in
    row_naming n endpoint place all rest bytes next.0 (rows_naming n endpoint (place + 1) all rest next.1) (source_of n bytes) refl

-- each has a place among the rows
place_within : (n place : ℕ) (rest : List (List ℕ)) → All (λ (one : Named). one.place < place + 1 + length rest) (flat_map (named_by n) (rows_from (place + 1) rest))
    → (o : Option ℕ) → All (λ (one : Named). one.place < place + suc (length rest)) (named_at place o ++ flat_map (named_by n) (rows_from (place + 1) rest))
place_within n place rest more None = λ k d lt. let low = more k d lt in omega arith
place_within n place rest more (Some source) =
    All-cons (λ (one : Named). one.place < place + suc (length rest)) (record { source = source; place = place }) (flat_map (named_by n) (rows_from (place + 1) rest)) (omega arith)
    (λ k d lt. let low = more k d lt in omega arith)

pub places_within : (n place : ℕ) (rest : List (List ℕ)) → All (λ one. one.place < place + length rest) (flat_map (named_by n) (rows_from place rest))
places_within n place [] = λ k d lt. absurd (omega arith)
places_within n place (bytes ∷ rest) = place_within n place rest (places_within n (place + 1) rest) (source_of n bytes)
