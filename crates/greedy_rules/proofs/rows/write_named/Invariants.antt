use Rattle.std.proofs.Common.{◌≡◌, ℕ, None, get_or}
use Rattle.greedy_rules.proofs.NamedCells.{with_words}
use Rattle.greedy_rules.proofs.rows.write_named.Given as goal

abbrev pub invariant-loop-word : goal.invariant-loop-word
invariant-loop-word l = (place : ℕ) → get_or l.into place None ≡ with_words l.word l.named l.row l.fn.into place
