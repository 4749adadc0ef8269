-- What passes over the rings leave of the lines, pass after pass.
use Rattle.std.proofs.Common.{◌≡◌, ℕ, zero, suc, List, [], ◌∷◌, ◌++◌, length, set, Some, slice_get, sym, ◌∙◌, ap, subst, refl}
use Rattle.std.proofs.lemmas.List.{append-nil}
use Rattle.endpoint_history.proofs.OneContent.{some-same}
use Rattle.front_desk.specs.State.{LineState, MayTakeMore, HavePolled}

pub polled-same : (states : List LineState) → HavePolled states states
polled-same [] = tt
polled-same (s ∷ states) = (record { frame = refl; more = ([], append-nil s.taken); open_only = λ _. refl }, polled-same states)

append_assoc_to : (xs ys zs : List (List ℕ)) → xs ++ (ys ++ zs) ≡ (xs ++ ys) ++ zs
append_assoc_to [] ys zs = refl
append_assoc_to (x ∷ xs) ys zs = ap (λ (r : List (List ℕ)). x ∷ r) (append_assoc_to xs ys zs)

pub take_more-then : (a b c : LineState) → MayTakeMore a b → MayTakeMore b c → MayTakeMore a c
take_more-then a b c first then = record {
  frame = then.frame ∙ ap (λ (s : LineState). record s { taken = c.taken }) first.frame;
  more = (first.more.0 ++ then.more.0, append_assoc_to a.taken first.more.0 then.more.0 ∙ (ap (λ (xs : List (List ℕ)). xs ++ then.more.0) first.more.1 ∙ then.more.1));
  open_only = λ closed. then.open_only (λ is. closed (sym (ap (λ (s : LineState). s.progress) first.frame) ∙ is)) ∙ first.open_only closed;
}

pub polled-then : (first states : List LineState) (at : ℕ) (old new : LineState) → HavePolled first states → slice_get states at ≡ Some old → MayTakeMore old new → HavePolled first (set states at new)
polled-then [] [] at old new polled here more = tt
polled-then [] (s ∷ states) at old new polled here more = absurd polled
polled-then (f ∷ first) [] at old new polled here more = absurd polled
polled-then (f ∷ first) (s ∷ states) zero old new polled here more =
    (take_more-then f s new polled.0 (subst (λ (x : LineState). MayTakeMore x new) (sym (some-same s old here)) more), polled.1)
polled-then (f ∷ first) (s ∷ states) (suc at) old new polled here more = (polled.0, polled-then first states at old new polled.1 here more)

pub polled-length : (old new : List LineState) → HavePolled old new → length new ≡ length old
polled-length [] [] polled = refl
polled-length [] (b ∷ new) polled = absurd polled
polled-length (a ∷ old) [] polled = absurd polled
polled-length (a ∷ old) (b ∷ new) polled = ap suc (polled-length old new polled.1)

pub polled-twice : (a b c : List LineState) → HavePolled a b → HavePolled b c → HavePolled a c
polled-twice [] [] c first then = then
polled-twice [] (y ∷ b) c first then = absurd first
polled-twice (x ∷ a) [] c first then = absurd first
polled-twice (x ∷ a) (y ∷ b) [] first then = absurd then
polled-twice (x ∷ a) (y ∷ b) (z ∷ c) first then = (take_more-then x y z first.0 then.0, polled-twice a b c first.1 then.1)

-- the line of an endpoint after a pass
pub polled-at : (old new : List LineState) (at : ℕ) (line : LineState) → HavePolled old new → slice_get old at ≡ Some line → (after : LineState) × (slice_get new at ≡ Some after) × MayTakeMore line after
polled-at [] new at line polled here = absurd (none_is at here)
  where
    none_is : (at : ℕ) → slice_get [] at ≡ Some line → ⊥
    none_is at is = cc
polled-at (a ∷ old) [] at line polled here = absurd polled
polled-at (a ∷ old) (b ∷ new) zero line polled here = (b, refl, subst (λ (x : LineState). MayTakeMore x b) (some-same a line here) polled.0)
polled-at (a ∷ old) (b ∷ new) (suc at) line polled here = polled-at old new at line polled.1 here
