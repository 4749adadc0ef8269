use Rattle.greedy_rules.proofs.TableLemmas.{slots_of_cells}
use Rattle.greedy_rules.proofs.slots.SlotTable.slots.Goals as goal

pub returns-clause-each : goal.returns-clause-each
returns-clause-each c = let rows = c.self.inside.rows in rw (← c.self.view_is) (slots_of_cells rows.endpoints rows.cells.items rows.places.items c.self.invariant.0.rows_are.cells_are)
