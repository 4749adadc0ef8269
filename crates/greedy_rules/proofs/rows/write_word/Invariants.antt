use Rattle.std.proofs.Common.{◌≡◌, ◌<◌, ◌+◌, ◌*◌, ◌==◌, ℕ, true, length}
use Rattle.std.specs.Int.{bit_at}
use Rattle.greedy_rules.proofs.NamedCells.{with_word}
use Rattle.greedy_rules.proofs.rows.write_word.Given as goal

abbrev pub invariant-loop-rest : goal.invariant-loop-rest
invariant-loop-rest l = record {
  within : (bit : ℕ) → (bit_at l.rest bit == 1) ≡ true → (l.word * 64 + bit < length l.fn.into) × (l.word * 64 + bit < length l.row);
  written : (place : ℕ) → with_word l.word l.rest l.row l.into place ≡ with_word l.word l.named l.row l.fn.into place;
}

abbrev pub decreases-loop-rest : goal.decreases-loop-rest
decreases-loop-rest l = l.rest
