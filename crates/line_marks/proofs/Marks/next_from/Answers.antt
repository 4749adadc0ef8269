use Rattle.std.proofs.Common.{rules}
use Rattle.line_marks.proofs.BitLemmas.{search_begins, search_goes_on, search_ends}
use Rattle.line_marks.proofs.Marks.next_from.Goals as goal

pub loop-word-init : goal.loop-word-init
loop-word-init c = search_begins c.self.inside.words c.args.at

pub loop-word-preserved : goal.loop-word-preserved
loop-word-preserved c = search_goes_on c.self.inside.words c.args.at c.loop-word.word c.loop-word.mask c.loop-word.invariant c.if-marked-ne0.false

pub returns-then-marked-ne0-clause-from : goal.returns-then-marked-ne0-clause-from
returns-then-marked-ne0-clause-from c =
    (search_ends c.self.inside.words c.args.at c.loop-word.word c.loop-word.mask c.loop-word.invariant c.if-marked-ne0.true (search rules)).from

pub returns-then-marked-ne0-clause-marked : goal.returns-then-marked-ne0-clause-marked
returns-then-marked-ne0-clause-marked c = λ below.
    rw (← c.self.view_is) (search_ends c.self.inside.words c.args.at c.loop-word.word c.loop-word.mask c.loop-word.invariant c.if-marked-ne0.true (search rules)).marked

pub returns-then-marked-ne0-clause-first : goal.returns-then-marked-ne0-clause-first
returns-then-marked-ne0-clause-first c =
    rw (← c.self.view_is) (search_ends c.self.inside.words c.args.at c.loop-word.word c.loop-word.mask c.loop-word.invariant c.if-marked-ne0.true (search rules)).first
