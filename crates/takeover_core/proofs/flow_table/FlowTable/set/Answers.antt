use Rattle.std.proofs.Common.{◌∙◌, ap, cond, subst, ◌<◌, ◌&&◌, ◌==◌, ℕ, sym}
use Rattle.takeover_core.specs.Cells.{CellsContent, cell}
use Rattle.takeover_core.proofs.Tables.{cell-set}
use Rattle.takeover_core.proofs.flow_table.FlowTable.set.Goals as goal

pub returns-clause-cells : goal.returns-clause-cells
returns-clause-cells c = λ s d within.
    let same = ap (λ (t : CellsContent). t.endpoints) c.self.view_is in
    cell-set c.self.inside.endpoints c.self.inside.cells.items c.args.src c.args.dst c.args.number s d c.self.invariant
    (subst (λ (n : ℕ). c.args.src < n) (sym same) c.requires.src) (subst (λ (n : ℕ). c.args.dst < n) (sym same) c.requires.dst) (subst (λ (n : ℕ). d < n) (sym same) within)
    ∙ ap (λ (t : CellsContent). cond ((c.args.src == s) && (c.args.dst == d)) c.args.number (cell t s d)) c.self.view_is
