-- A list of lanes of which one after the other goes on.
use Rattle.std.proofs.Common.{◌≡◌, ◌<◌, ◌+◌, ℕ, List, length, get_or, set, Bool, cond, nat_lt, Some, slice_get, sym, ap, ◌∙◌, subst, inl, inr, arith}
use Rattle.std.proofs.lemmas.Bool.{cases_eq, cases_lt, lt-ltb, le-ltb}
use Rattle.std.proofs.lemmas.List.{get_or-set_same, get_or-set_other, length-set}
use Rattle.std.proofs.lemmas.Option.{get_or_from_slice_get, slice_get-get_or, slice_get_within}
use Rattle.lane_rounds.specs.State.{RoundsState}

-- what holds of each place holds once it is set
pub set_at : (P : ℕ → RoundsState → Type 0) (lanes : List RoundsState) (at : ℕ) (new : RoundsState) → at < length lanes → P at new →
    ((place : ℕ) (lane : RoundsState) → (place ≡ at → ⊥) → slice_get lanes place ≡ Some lane → P place lane) →
    (place : ℕ) (lane : RoundsState) → slice_get (set lanes at new) place ≡ Some lane → P place lane
set_at P lanes at new within here others place lane is =
    let read : get_or (set lanes at new) place lane ≡ lane = get_or_from_slice_get (set lanes at new) place lane lane is in
    elim (cases_eq place at) [
      | inl same ↦
          let set_now : new ≡ lane = sym (get_or-set_same lanes at new lane within) ∙ (ap (λ (n : ℕ). get_or (set lanes at new) n lane) (sym same) ∙ read) in
          subst (λ (n : ℕ). P n lane) (sym same) (subst (P at) set_now here)
      | inr other ↦
          let inside : place < length lanes = omega (arith, slice_get_within (set lanes at new) place lane is, length-set lanes at new) in
          let kept : get_or lanes place lane ≡ lane = sym (get_or-set_other lanes at place new lane other) ∙ read in
          others place lane other (slice_get-get_or lanes place lane inside ∙ ap (λ (l : RoundsState). Some l) kept)
    ]

-- those below a place have gone on
pub gone_on : (P : ℕ → ℕ → RoundsState → Type 0) (before after : ℕ) (lanes : List RoundsState) (at : ℕ) (new : RoundsState) → at < length lanes → P after at new →
    ((place : ℕ) (lane : RoundsState) → slice_get lanes place ≡ Some lane → P (cond (nat_lt place at) after before) place lane) →
    (place : ℕ) (lane : RoundsState) → slice_get (set lanes at new) place ≡ Some lane → P (cond (nat_lt place (at + 1)) after before) place lane
gone_on P before after lanes at new within here each =
    set_at (λ place lane. P (cond (nat_lt place (at + 1)) after before) place lane) lanes at new within
    (subst (λ (c : Bool). P (cond c after before) at new) (sym (lt-ltb at (at + 1) (omega arith))) here)
    (λ place lane other is. subst (λ (c : Bool). P (cond c after before) place lane) (same place at other) (each place lane is))
  where
    same : (place at : ℕ) → (place ≡ at → ⊥) → nat_lt place at ≡ nat_lt place (at + 1)
    same place at other = elim (cases_lt place at) [
      | inl less ↦ lt-ltb place at less ∙ sym (lt-ltb place (at + 1) (omega arith))
      | inr more ↦ le-ltb place at more ∙ sym (le-ltb place (at + 1) (omega arith))
    ]

-- the one at a place has not
pub next_one : (P : ℕ → ℕ → RoundsState → Type 0) (before after : ℕ) (lanes : List RoundsState) (at : ℕ) (d : RoundsState) → at < length lanes →
    ((place : ℕ) (lane : RoundsState) → slice_get lanes place ≡ Some lane → P (cond (nat_lt place at) after before) place lane) → P before at (get_or lanes at d)
next_one P before after lanes at d within each =
    subst (λ (c : Bool). P (cond c after before) at (get_or lanes at d)) (le-ltb at at (omega arith)) (each at (get_or lanes at d) (slice_get-get_or lanes at d within))

-- none has gone on at first, and each in the end
pub none_yet : (P : ℕ → ℕ → RoundsState → Type 0) (before after place : ℕ) (lane : RoundsState) → P before place lane → P (cond (nat_lt place 0) after before) place lane
none_yet P before after place lane here = subst (λ (c : Bool). P (cond c after before) place lane) (sym (le-ltb place 0 (omega arith))) here

pub all_by_now : (P : ℕ → ℕ → RoundsState → Type 0) (before after : ℕ) (lanes : List RoundsState) (at : ℕ) → at ≡ length lanes →
    ((place : ℕ) (lane : RoundsState) → slice_get lanes place ≡ Some lane → P (cond (nat_lt place at) after before) place lane) →
    (place : ℕ) (lane : RoundsState) → slice_get lanes place ≡ Some lane → P after place lane
all_by_now P before after lanes at all each place lane is =
    subst (λ (c : Bool). P (cond c after before) place lane) (lt-ltb place at (omega (arith, slice_get_within lanes place lane is))) (each place lane is)
