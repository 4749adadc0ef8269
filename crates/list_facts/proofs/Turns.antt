-- A loop that changes each element of a list in turn: those that it has reached, and those that it has not.
use Rattle.std.proofs.Common.{◌≡◌, ◌<◌, ◌+◌, ℕ, List, [], ◌∷◌, ◌++◌, length, get_or, set, take, drop, map, Some, slice_get, sym, ap, ◌∙◌, arith}
use Rattle.std.proofs.lemmas.List.{get_or-drop, drop_more, drop-set-lt, take_more_set, map_more, map-append}
use Rattle.list_facts.proofs.Lists.{take_got}

module _ {X : Type 0} where
  -- an element that was not reached yet
  pub left_at : (now first : List X) (i : ℕ) (d : X) → drop i now ≡ drop i first → get_or now i d ≡ get_or first i d
  left_at now first i d left =
      let here : i ≡ i + 0 = omega arith in
      ap (λ (n : ℕ). get_or now n d) here
      ∙ (sym (get_or-drop i now 0 d)
      ∙ (ap (λ (xs : List X). get_or xs 0 d) left
      ∙ (get_or-drop i first 0 d
      ∙ ap (λ (n : ℕ). get_or first n d) (sym here))))

  -- one element more is changed
  pub done_more : (f : X → X) (now first : List X) (i : ℕ) (d x : X) → i < length now → i < length first
      → take i now ≡ map f (take i first) → drop i now ≡ drop i first → x ≡ f (get_or now i d)
      → take (i + 1) (set now i x) ≡ map f (take (i + 1) first)
  done_more f now first i d x below within done left is =
      take_more_set now i x below
      ∙ (ap (λ (xs : List X). xs ++ x ∷ []) done
      ∙ (ap (λ (y : X). map f (take i first) ++ y ∷ []) (is ∙ ap f (left_at now first i d left))
      ∙ sym (map_more f first i d within)))

  pub left_more : (now first : List X) (i : ℕ) (x : X) → i < length now → i < length first → drop i now ≡ drop i first
      → drop (i + 1) (set now i x) ≡ drop (i + 1) first
  left_more now first i x below within left =
      let here : get_or now i x ∷ drop (i + 1) now ≡ get_or first i x ∷ drop (i + 1) first = sym (drop_more now i x below) ∙ (left ∙ drop_more first i x within) in
      let tails : drop (i + 1) now ≡ drop (i + 1) first = cc in
      drop-set-lt (i + 1) now i x (omega arith) ∙ tails

module _ {X Y : Type 0} where
  pub map_got : (f : X → Y) (xs : List X) (i : ℕ) (x : X) → slice_get xs i ≡ Some x → map f (take (i + 1) xs) ≡ map f (take i xs) ++ f x ∷ []
  map_got f xs i x is = ap (map f) (take_got xs i x is) ∙ map-append f (take i xs) (x ∷ [])
