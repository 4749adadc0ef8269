use Rattle.std.proofs.Common.{◌≡◌, ◌<◌, suc, ◌∷◌, ◌++◌, ◌+◌, ◌-◌, length, take, drop, arith, inl, ap, refl, sym, ◌∙◌, length-drop}
use Rattle.std.proofs.lemmas.List.{take_all}
use Rattle.report_text.specs.Lines.{line_bytes}
use Rattle.schedule_audit.proofs.FirstLines.{cut_at, free_front}
use Rattle.schedule_audit.proofs.Reading.{free-bytes}
use Rattle.schedule_audit.proofs.text.first_line.Goals as goal

pub returns-in-Some : goal.returns-in-Some
returns-in-Some c =
    let line = c.in-Some.line in
    let read = c.in-Some.ensures in
    inl (line_bytes line, read.spelled, free-bytes line read.fits, (read.fits, refl))

pub returns : goal.returns
returns c =
    let text = c.args.text.now in
    let end = c.line_len-end.result in
    let within : end < length text = omega (arith, c.line_len-end.ensures.within, c.if-end-text.false) in
    let next : suc end ≡ end + 1 = omega arith in
    let behind : drop (suc end) text ≡ take (length text - (end + 1)) (drop (end + 1) text) =
    ap (λ n. drop n text) next ∙ sym (take_all (length text - (end + 1)) (drop (end + 1) text) (omega (arith, length-drop (end + 1) text))) in
    inl (
      take end text,
      cut_at text end 10 within (c.line_len-end.ensures.feed within) ∙ ap (λ xs. take end text ++ 10 ∷ xs) behind,
      free_front text end c.line_len-end.ensures.within c.line_len-end.ensures.before,
      c.spelled_line.ensures,
    )
