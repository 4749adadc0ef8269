use Rattle.std.proofs.Common.{◌≡◌, ◌<◌, ◌≤◌, ◌+◌, min, cond, subst, ◌-◌, ℕ, List, length, take, drop, Bool, true, false, not, ◌&&◌, nat_le, Some, refl, sym, ap, ◌∙◌, arith}
use Rattle.std.proofs.lemmas.Bool.Decides.{nat_tests}
use Rattle.std.proofs.lemmas.List.{take_rest, take_min, length-drop, length-take}
use Rattle.greedy_rules.specs.declared.flows.Item.{Item}
use Rattle.slot_batches.specs.Pieces.{Part}
use Rattle.slot_batches.specs.ArrayStands.{ArrayState, array_left}
use Rattle.slot_batches.proofs.PieceLemmas.{no_piece, some_piece, one_given}
use Rattle.slot_batches.proofs.array_stage.ArrayStage.emit.Goals as goal
use Rattle.slot_batches.proofs.array_stage.ArrayStage.emit.Goals.{else-end-via-then-end+else-not-self, else-end-via-else-end}

-- the first 64, or all where there are fewer
front_is : (n : ℕ) (items : List Item) → n ≡ min (length items) 64 → take n items ≡ take 64 items
front_is n items is = ap (λ (m : ℕ). take m items) count ∙ take_min 64 items
  where
    count : n ≡ min 64 (length items)
    count = omega (arith, is)

-- what waits, as the code sees it
rest_is : (deref waiting list : List Item) (from given : ℕ) → deref ≡ waiting → waiting ≡ list → from ≡ given → take (length deref - from) (drop from deref) ≡ drop given list
rest_is deref waiting list from given is same at = take_rest deref from ∙ (ap (drop from) (is ∙ same) ∙ ap (λ (n : ℕ). drop n list) at)

abbrev part : ℕ → ℕ → List Item → Bool → Part
part stage from items end = record { stage = stage; from = from; items = items; end = end }

by_end : (n : ℕ) (ends : Bool) → (n ≤ 64 → ⊥) → (nat_le n 64 && not ends) ≡ false
by_end n ends many = grind (arith, nat_tests)

pub returns-then-not-self-clause-piece : goal.returns-then-not-self-clause-piece
returns-then-not-self-clause-piece c = λ batch fed finished given stands.
    let now = c.args.self.now in
    let rest = rest_is c.deref.result.now c.self.inside.filling.waiting.items now.fill.waiting c.self.inside.given now.given c.deref.ensures.value
    (ap (λ (s : ArrayState). s.fill.waiting) c.self.view_is) (ap (λ (s : ArrayState). s.given) c.self.view_is) in
    no_piece batch fed finished given now stands (omega (arith, c.if-end.true, ap length rest)) (ap (λ (s : ArrayState). s.ends) (sym c.self.view_is) ∙ c.if-not-self.true)

-- a piece comes, whichever way the code went
comes : (n : ℕ) (ends : Bool) → ends ≡ true → (nat_le n 64 && not ends) ≡ false
comes n ends is = grind (arith, nat_tests)

pub returns-clause-piece : goal.returns-clause-piece
returns-clause-piece c = λ batch fed finished given stands.
    let now = c.args.self.now in
    let inside = c.self.inside in
    let view_is = c.self.view_is in
    let rest : take (length c.deref.result.now - inside.given) (drop inside.given c.deref.result.now) ≡ drop now.given now.fill.waiting =
    rest_is c.deref.result.now inside.filling.waiting.items now.fill.waiting inside.given now.given c.deref.ensures.value
    (ap (λ (s : ArrayState). s.fill.waiting) view_is) (ap (λ (s : ArrayState). s.given) view_is) in
    let gives : (nat_le (length (drop now.given now.fill.waiting)) 64 && not now.ends) ≡ false =
    elim c.else-end.branch [
      | else-end-via-then-end+else-not-self w ↦ comes (length (drop now.given now.fill.waiting)) now.ends (ap (λ (s : ArrayState). s.ends) (sym view_is) ∙ w.if-not-self.false)
      | else-end-via-else-end w ↦ by_end (length (drop now.given now.fill.waiting)) now.ends (λ few. omega (arith, few, w.if-end.false, ap length rest))
    ] in
    let waiting = take (length c.deref.result.now - inside.given) (drop inside.given c.deref.result.now) in
    let items = take c.min.result waiting in
    ap (λ (p : Part). Some p) c.of-piece.ensures.piece
    ∙ (ap (λ (s : ArrayState). Some (part s.number s.given items (nat_le (length waiting) 64))) view_is
    ∙ some_piece batch fed finished given now stands gives items (nat_le (length waiting) 64)
    (front_is c.min.result waiting c.min.ensures ∙ ap (take 64) rest) (ap (λ (xs : List Item). nat_le (length xs) 64) rest))

-- less is left to give
fewer_left : (n at taken : ℕ) (ends : Bool) → taken ≡ min 64 (n - at) → (nat_le (n - at) 64 && not ends) ≡ false
    → (n - (at + taken)) + cond (ends && not (nat_le (n - at) 64)) 1 0 < (n - at) + cond ends 1 0
fewer_left n at taken ends is gives = grind (arith, nat_tests)

pub returns-clause-fewer : goal.returns-clause-fewer
returns-clause-fewer c = λ some.
    let inside = c.self.inside in
    let waiting = inside.filling.waiting.items in
    let at : ℕ = inside.given in
    let n : ℕ = length waiting in
    let rest : List Item = take (length c.deref.result.now - at) (drop at c.deref.result.now) in
    let long : length rest ≡ n - at = ap length (rest_is c.deref.result.now waiting waiting at at c.deref.ensures.value refl refl) ∙ length-drop at waiting in
    let gives : (nat_le (n - at) 64 && not inside.ends) ≡ false =
    elim c.else-end.branch [
      | else-end-via-then-end+else-not-self w ↦ comes (n - at) inside.ends w.if-not-self.false
      | else-end-via-else-end w ↦ by_end (n - at) inside.ends (λ few. omega (arith, few, w.if-end.false, long))
    ] in
    subst (λ (m : ℕ). (n - (at + length (take c.min.result rest))) + cond (inside.ends && not (nat_le m 64)) 1 0 < array_left c.args.self.now) (sym long)
    (subst (λ (s : ArrayState). (n - (at + length (take c.min.result rest))) + cond (inside.ends && not (nat_le (n - at) 64)) 1 0 < array_left s) c.self.view_is
    (fewer_left n at (length (take c.min.result rest)) inside.ends (omega (arith, ap length (front_is c.min.result rest c.min.ensures), length-take 64 rest, long)) gives))

pub returns-clause-more : goal.returns-clause-more
returns-clause-more c = λ batch fed finished given stands some.
    let now = c.args.self.now in
    let inside = c.self.inside in
    let view_is = c.self.view_is in
    let rest : take (length c.deref.result.now - inside.given) (drop inside.given c.deref.result.now) ≡ drop now.given now.fill.waiting =
    rest_is c.deref.result.now inside.filling.waiting.items now.fill.waiting inside.given now.given c.deref.ensures.value
    (ap (λ (s : ArrayState). s.fill.waiting) view_is) (ap (λ (s : ArrayState). s.given) view_is) in
    let gives : (nat_le (length (drop now.given now.fill.waiting)) 64 && not now.ends) ≡ false =
    elim c.else-end.branch [
      | else-end-via-then-end+else-not-self w ↦ comes (length (drop now.given now.fill.waiting)) now.ends (ap (λ (s : ArrayState). s.ends) (sym view_is) ∙ w.if-not-self.false)
      | else-end-via-else-end w ↦ by_end (length (drop now.given now.fill.waiting)) now.ends (λ few. omega (arith, few, w.if-end.false, ap length rest))
    ] in
    one_given batch fed finished given now stands gives _ (ap (λ (s : ArrayState). s.fill) view_is) (ap (λ (s : ArrayState). s.marks) view_is) (ap (λ (s : ArrayState). s.unopened) view_is)
    (omega (arith, ap (λ (s : ArrayState). s.given) view_is, ap length (front_is c.min.result (take (length c.deref.result.now - inside.given) (drop inside.given c.deref.result.now)) c.min.ensures ∙ ap (take 64) rest)))
    (ap (λ (xs : List Item). inside.ends && not (nat_le (length xs) 64)) rest ∙ ap (λ (s : ArrayState). s.ends && not (nat_le (length (drop now.given now.fill.waiting)) 64)) view_is)
