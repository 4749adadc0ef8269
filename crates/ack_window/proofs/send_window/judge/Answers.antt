use Rattle.std.proofs.Common.{◌≡◌, ◌+◌, length, take, drop, suc, ◌∙◌, ap, arith}
use Rattle.std.proofs.Math.ListN.{length-take}
use Rattle.std.proofs.lemmas.List.{drop_at}
use Rattle.ack_window.proofs.send_window.judge.Goals as goal

pub returns-in-Some-clause-rest : goal.returns-in-Some-clause-rest
returns-in-Some-clause-rest g c =
    let all = c.args.unresolved.now.items in
    let removed = c.take_out-number.ensures.items in
    let long = c.args.unresolved.now.ok.0 in
    let front : length (take c.args.at all) ≡ c.args.at = simp length-take (omega arith) in
    let next : suc c.args.at ≡ c.args.at + 1 = omega arith in
    ap (λ xs. drop c.args.at xs) removed ∙ drop_at (take c.args.at all) (drop (suc c.args.at) all) c.args.at front ∙ ap (λ n. drop n all) next
