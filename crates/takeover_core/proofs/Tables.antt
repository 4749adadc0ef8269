-- Places of tables.
use Rattle.std.proofs.Common.{◌≡◌, ◌<◌, ◌+◌, ◌*◌, ◌==◌, ◌&&◌, ℕ, List, length, set, cond}
use Rattle.greedy_rules.proofs.TableLemmas.{place-set}
use Rattle.takeover_core.specs.Cells.{cell}

-- one number is written
pub cell-set : (endpoints : ℕ) (cells : List ℕ) (src dst number s d : ℕ) → length cells ≡ endpoints * endpoints → src < endpoints → dst < endpoints → d < endpoints
    → cell (record { endpoints = endpoints; cells = set cells (src * endpoints + dst) number }) s d ≡ cond ((src == s) && (dst == d)) number (cell (record { endpoints = endpoints; cells = cells }) s d)
cell-set endpoints cells src dst number s d sized in_src in_dst in_d = place-set endpoints cells src dst number 0 s d sized in_src in_dst in_d
