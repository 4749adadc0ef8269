use Rattle.std.proofs.Common.{ℕ, List, ◌++◌, [], ◌∷◌, take, sym, ap, ◌∙◌, append_assoc}
use Rattle.list_facts.proofs.Lists.{take_got}
use Rattle.replay_rounds.proofs.part.note_refused.Goals as goal

pub loop-at-preserved : goal.loop-at-preserved
loop-at-preserved c =
    let refused : List (ℕ × ℕ) = c.args.refused.now in
    let one : ℕ × ℕ = c.get.result in
    let at = c.loop-at.at in
    let before : List (ℕ × ℕ) = c.args.list.now.items in
    c.in_ok-push.ensures.items
    ∙ (ap (λ (xs : List (ℕ × ℕ)). xs ++ one ∷ []) c.loop-at.invariant
    ∙ (append_assoc before (take at refused) (one ∷ [])
    ∙ ap (λ (xs : List (ℕ × ℕ)). before ++ xs) (sym (take_got refused at one c.get.ensures))))
