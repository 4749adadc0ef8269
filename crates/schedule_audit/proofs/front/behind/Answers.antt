use Rattle.std.proofs.Common.{◌≡◌, ◌≤◌, ◌+◌, ◌-◌, ◌∷◌, ◌++◌, suc, List, ℕ, length, get_or, take, drop, sym, ap, ◌∙◌, arith, length-drop}
use Rattle.std.proofs.Math.Seq.{split_at}
use Rattle.std.proofs.lemmas.List.{take_all}
use Rattle.schedule_audit.proofs.front.behind.Goals as goal

pub returns : goal.returns
returns c =
    let text = c.args.text.now in
    let at = c.args.at in
    let rest = drop (at + 1) text in
    let next : suc at ≡ at + 1 = omega arith in
    let short : length rest ≤ length text - (at + 1) = omega (arith, length-drop (at + 1) text) in
    split_at text at 0 c.requires
    ∙ (ap (λ (n : ℕ). take at text ++ get_or text at 0 ∷ drop n text) next
    ∙ ap (λ (bytes : List ℕ). take at text ++ get_or text at 0 ∷ bytes) (sym (take_all (length text - (at + 1)) rest short)))
