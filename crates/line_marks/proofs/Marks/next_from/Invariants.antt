use Rattle.line_marks.proofs.BitLemmas.{IsSearched}
use Rattle.line_marks.proofs.Marks.next_from.Given as goal

abbrev pub invariant-loop-word : goal.invariant-loop-word
invariant-loop-word l = IsSearched l.self-inside.words l.at l.word l.mask
