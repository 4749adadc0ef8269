-- Places of the table of sums.
use Rattle.std.proofs.Common.{◌≡◌, ◌<◌, ◌+◌, ◌*◌, ◌==◌, ◌&&◌, ℕ, List, length, set, cond, Option, None}
use Rattle.greedy_rules.proofs.TableLemmas.{place-set}
use Rattle.schedule_audit.specs.Standing.{sum_of}

-- one sum is written
pub sum-set : (endpoints : ℕ) (cells : List (Option ℕ)) (src dst : ℕ) (sum : Option ℕ) (s d : ℕ) → length cells ≡ endpoints * endpoints → src < endpoints → dst < endpoints → d < endpoints
    → sum_of (record { endpoints = endpoints; cells = set cells (src * endpoints + dst) sum }) s d ≡ cond ((src == s) && (dst == d)) sum (sum_of (record { endpoints = endpoints; cells = cells }) s d)
sum-set endpoints cells src dst sum s d sized in_src in_dst in_d = place-set endpoints cells src dst sum None s d sized in_src in_dst in_d
