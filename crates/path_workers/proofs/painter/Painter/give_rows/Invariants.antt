use Rattle.std.proofs.Common.{◌≡◌, List}
use Rattle.greedy_rules.specs.declared.flows.Flow.{Flow}
use Rattle.path_workers.specs.CoreTable.{HasRoomOf}
use Rattle.path_workers.specs.Painters.{MayPaint, AreRowsOf}
use Rattle.path_workers.proofs.GatherLemmas.{IsGiving}
use Rattle.path_workers.proofs.painter.Painter.give_rows.Given as goal

abbrev pub invariant-loop-slot : goal.invariant-loop-slot
invariant-loop-slot l = record {
  giving : (slots : List (List Flow)) → MayPaint slots l.self → AreRowsOf l.self.net slots l.fn.out → IsGiving l.self.net slots l.slot-items l.slot-index l.fn.out l.out;
  room : HasRoomOf l.fn.out l.out;
  items : l.slot-items ≡ l.self.made.items;
}
