use Rattle.std.proofs.Common.{◌≡◌, ◌≤◌, ◌++◌, ◌-◌, length, take, drop, arith, ◌∙◌, ap, sym, append_assoc, length-drop}
use Rattle.std.proofs.KnownBytes.{Appends-trans}
use Rattle.std.proofs.lemmas.List.{take-append-drop, take_all}
use Rattle.text_output.proofs.transfer.write_all.Goals as goal

pub loop-rest-preserved : goal.loop-rest-preserved
loop-rest-preserved g c =
    let inv = c.loop-rest.invariant in
    let n = c.in_ok-n.n in
    let rest = c.loop-rest.rest.now in
    let front = inv.1.0 in
    let later : g.K.Sink.faults c.args.sink.now ≤ g.K.Sink.faults c.write.new.self = omega (arith, c.in_ok-n.ensures.cause.later) in
    let end : take (length rest - n) (drop n rest) ≡ drop n rest = take_all (length rest - n) (drop n rest) (omega (arith, length-drop n rest)) in
    let is : c.args.piece.now ≡ (front ++ take n rest) ++ take (length rest - n) (drop n rest) =
    inv.1.1 ∙ ap (λ l. front ++ l) (sym (take-append-drop n rest)) ∙ sym (append_assoc front (take n rest) (drop n rest)) ∙ ap (λ l. (front ++ take n rest) ++ l) (sym end) in
    (later, (front ++ take n rest, is, Appends-trans _ _ _ front (take n rest) inv.1.2 c.in_ok-n.ensures.bytes))
