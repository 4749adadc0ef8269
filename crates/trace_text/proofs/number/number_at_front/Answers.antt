use Rattle.std.proofs.Common.{◌≡◌, ◌≤◌, ◌+◌, ◌-◌, ◌∷◌, ◌++◌, suc, length, get_or, take, drop, sym, ap, ◌∙◌, arith, length-drop}
use Rattle.std.proofs.Math.Seq.{split_at}
use Rattle.std.proofs.lemmas.List.{take_all}
use Rattle.trace_text.specs.Fields.{number_of}
use Rattle.trace_text.proofs.Digits.{number-all}
use Rattle.trace_text.proofs.number.number_at_front.Goals as goal

pub returns : goal.returns
unfolding number_of
returns c =
    let text = c.args.text.now in
    let at = c.args.at in
    let behind = drop (at + 1) text in
    let next : suc at ≡ at + 1 = omega arith in
    let short : length behind ≤ length text - (at + 1) = omega (arith, length-drop (at + 1) text) in (
      take at text,
      split_at text at 0 c.requires.within ∙ ap (λ k. take at text ++ get_or text at 0 ∷ drop k text) next
          ∙ ap (λ l. take at text ++ get_or text at 0 ∷ l) (sym (take_all (length text - (at + 1)) behind short)),
      number-all (take at text) (sym c.has_shape.ensures ∙ c.if-not-has_shape.false) c.requires.digits (omega (arith, c.requires.value, c.requires.small)),
      c.requires.value,
    )
