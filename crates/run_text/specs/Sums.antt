-- Sums over the counts of some flows, and how large they may grow.
use Rattle.std.specs.Prelude.{◌≤◌, ℕ, ◌*◌, List, [], ◌∷◌, Option, Some, None}
use Rattle.window_engine.specs.declared.counts.Counts.{Counts}
use Rattle.run_text.specs.declared.sums.Sums.{Sums}

-- a flow's counts, if it has some
abbrev pub counts_listed : Option Counts → List Counts
counts_listed None = []
counts_listed (Some counts) = counts ∷ []

-- of at most so many flows, each with counts of 32 bits
pub record AreOfAtMost (most : ℕ) (sums : Sums) : Type 0 where
  pub flows : sums.flows ≤ most
  pub demanded : sums.demanded ≤ most * 4294967295
  pub acknowledged : sums.acknowledged ≤ most * 4294967295
  pub flight : sums.flight ≤ most * 4294967295
  pub pending : sums.pending ≤ most * 4294967295
  pub lost : sums.lost ≤ most * 4294967295
  pub sent : sums.sent ≤ most * 4294967295
  pub missed : sums.missed ≤ most * 4294967295
