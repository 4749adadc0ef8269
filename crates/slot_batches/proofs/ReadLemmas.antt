-- An element read from a list: what is true of all is true of it, and the front with it.
use Rattle.std.proofs.Common.{◌≡◌, ◌<◌, ◌+◌, ℕ, zero, suc, List, [], ◌∷◌, ◌++◌, length, take, drop, Bool, true, false, ◌||◌, Some, All, sym, ap, ◌∙◌, subst, arith, inl, inr}
use Rattle.std.specs.Prelude.{slice_get}
use Rattle.std.specs.List.{list_any}
use Rattle.std.proofs.lemmas.Bool.{cases_Bool}
use Rattle.std.proofs.lemmas.List.{take-append-drop}
use Rattle.std.proofs.lemmas.Option.{get_or_from_slice_get}
use Rattle.list_facts.proofs.Lists.{take_got}
use Rattle.greedy_rules.specs.declared.flows.Item.{Item}
use Rattle.greedy_rules.specs.declared.flows.Entry.{Entry}
use Rattle.greedy_rules.specs.Demands.{AreBelow, OpensNewFlows}
use Rattle.slot_batches.specs.NextList.{IsListBefore}
use Rattle.slot_batches.specs.ArrayStands.{MayBeFed}
use Rattle.slot_batches.proofs.FedLemmas.{lists_may_be_fed}

module _ {X : Type 0} where
  pub all_read : (P : X → Type 0) (xs : List X) (at : ℕ) (x : X) → at < length xs → slice_get xs at ≡ Some x → All P xs → P x
  all_read P xs at x below is all = subst P (get_or_from_slice_get xs at x x is) (all at x below)

  pub any_read : (p : X → Bool) (xs : List X) (at : ℕ) (x : X) → slice_get xs at ≡ Some x → p x ≡ true → list_any p xs ≡ true
  any_read p [] at x is hit = cc
  any_read p (y ∷ ys) zero x is hit = let here : p y ≡ true = (let same : y ≡ x = cc in ap p same ∙ hit) in ap (λ (b : Bool). b || list_any p ys) here
  any_read p (y ∷ ys) (suc at) x is hit = elim (cases_Bool (p y)) [
    | inl here ↦ ap (λ (b : Bool). b || list_any p ys) here
    | inr miss ↦ ap (λ (b : Bool). b || list_any p ys) miss ∙ any_read p ys at x is hit
  ]

  pub none_more : (p : X → Bool) (xs : List X) (x : X) → list_any p xs ≡ false → p x ≡ false → list_any p (xs ++ x ∷ []) ≡ false
  none_more p [] x none miss = ap (λ (b : Bool). b || false) miss
  none_more p (y ∷ ys) x none last = elim (cases_Bool (p y)) [
    | inl here ↦ let clash : (p y || list_any p ys) ≡ true = ap (λ (b : Bool). b || list_any p ys) here in cc
    | inr miss ↦ ap (λ (b : Bool). b || list_any p (ys ++ x ∷ [])) miss ∙ none_more p ys x (sym (ap (λ (b : Bool). b || list_any p ys) miss) ∙ none) last
  ]

-- the next item of a list may be fed
pub may_feed_next : (batch : List Entry) (endpoints number endpoints' number' at : ℕ) (list : List Item) (item : Item) → IsListBefore number list → AreBelow endpoints list → OpensNewFlows batch list
    → slice_get list at ≡ Some item → endpoints' ≡ endpoints → number' ≡ number → MayBeFed batch endpoints' number' (take at list ++ item ∷ [])
may_feed_next batch endpoints number endpoints' number' at list item before in_range opens is endpoints_are number_is =
    let front : List Item = take at list ++ item ∷ [] in
    let rest : List Item = drop (at + 1) list in
    let whole : list ≡ front ++ rest = sym (ap (λ (xs : List Item). xs ++ rest) (sym (take_got list at item is)) ∙ take-append-drop (at + 1) list) in
    subst (λ (n : ℕ). MayBeFed batch n number' front) (sym endpoints_are)
    (subst (λ (n : ℕ). MayBeFed batch endpoints n front) (sym number_is)
    (lists_may_be_fed batch endpoints number front rest (subst (IsListBefore number) whole before) (subst (AreBelow endpoints) whole in_range) (subst (OpensNewFlows batch) whole opens)))

-- the empty list is one before every slot
pub empty_before : (number : ℕ) → IsListBefore number []
empty_before number = record {
  in_order = λ i j d within below. absurd (omega arith);
  below = λ k d below. absurd (omega arith);
  once = λ i j d less below. absurd (omega arith);
}
