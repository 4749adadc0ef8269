use Rattle.std.proofs.Common.{List, length, sym, ◌∙◌, ap, subst}
use Rattle.front_desk.specs.declared.line.Line.{Line}
use Rattle.front_desk.specs.Standing.{AreDeskLines}
use Rattle.front_desk.proofs.Lines.{stand-written}
use Rattle.front_desk.proofs.desk.Desk.poll.Goals as goal

pub poll_all-requires-clause-lines : goal.poll_all-requires-clause-lines
poll_all-requires-clause-lines c = subst (λ (lines : List Line). AreDeskLines (length lines) lines) (sym c.deref_mut.ensures.value) c.self.invariant

pub invariant_of-self : goal.invariant_of-self
invariant_of-self c =
    let lines = c.self.inside.lines in
    let value = ap (λ (ls : List Line). length ls) c.deref_mut.ensures.value in
    stand-written lines.items c.poll_all.new.lines lines.len lines.ok.0 (c.poll_all.ensures.as_many ∙ value) (subst (λ n. AreDeskLines n c.poll_all.new.lines) value c.poll_all.ensures.lines)
