use Rattle.std.proofs.Common.{◌∷◌, [], suc, drop, sym, ap, ◌∙◌, arith}
use Rattle.std.proofs.Math.ListN.{drop_of_length-le}
use Rattle.greedy_rules.proofs.WalkLemmas.{none_is}
use Rattle.schedule_audit.proofs.PathSteps.{first-found, first-left, drop-here}
use Rattle.schedule_audit.proofs.path_lines.PathLines.first_wrong.Goals as goal

pub returns-then-is_some : goal.returns-then-is_some
returns-then-is_some c = λ visited stands. first-found c.args.net.now visited c.args.self.now stands (sym c.is_some.ensures ∙ c.if-is_some.true)

pub returns-then-self-len : goal.returns-then-self-len
returns-then-self-len c = λ visited stands.
    let self = c.args.self.now in
    let line = c.index.result.now in
    first-left c.args.net.now visited self stands (none_is self.bad (sym c.is_some.ensures ∙ c.if-is_some.false)) (line ∷ drop (suc self.next) self.lines.items)
    (drop-here self.next self.lines.items line (omega (arith, c.if-self-len.true, c.len.ensures)) ∙ ap (λ l. l ∷ drop (suc self.next) self.lines.items) (sym c.index.ensures))

pub returns : goal.returns
returns c = λ visited stands.
    let self = c.args.self.now in
    first-left c.args.net.now visited self stands (none_is self.bad (sym c.is_some.ensures ∙ c.if-is_some.false)) [] (drop_of_length-le self.lines.items {i = self.next} (omega (arith, c.if-self-len.false, c.len.ensures)))
