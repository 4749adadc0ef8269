-- The batches that a program keeps as published, and which endpoint heard which.
use Rattle.std.specs.Prelude.{ℕ, Bool, ◌&&◌, nat_eq, Option}
use Rattle.std.specs.HashMap as map
use Rattle.std.specs.HashSet as set
use Rattle.takeover_core.specs.declared.published.Issued.{Issued}
use Rattle.takeover_core.specs.declared.published.Published.{Published}

abbrev pub issue_in : Published → ℕ → Option Issued
issue_in published number = map.get nat_eq published.batches number

-- the two name one hearing
abbrev pub same_hearing : ℕ × ℕ → ℕ × ℕ → Bool
same_hearing one other = nat_eq one.0 other.0 && nat_eq one.1 other.1

abbrev pub is_heard : Published → ℕ → ℕ → Bool
is_heard published src number = set.contains same_hearing published.heard (src, number)
