use Rattle.std.proofs.Common.{◌≡◌, nat_lt, ℕ, length, drop}
use Rattle.schedule_audit.specs.Wrong.{Expected}
use Rattle.schedule_audit.specs.Totals.{is_wrong_total, first_total}
use Rattle.schedule_audit.specs.Summed.{AreFigures}
use Rattle.schedule_audit.proofs.figures.Figures.first_wrong.Given as goal

abbrev pub invariant-loop-total : goal.invariant-loop-total
invariant-loop-total l =
    (b : ℕ) (expected : Expected) (count : ℕ) → AreFigures b expected l.self.added.now l.self.slots.now l.self.cleared.now l.self.left.now → l.self.is_short ≡ nat_lt count (length expected.places)
    → first_total (is_wrong_total b expected count) l.totals ≡ first_total (is_wrong_total b expected count) (drop l.total-index l.totals)
