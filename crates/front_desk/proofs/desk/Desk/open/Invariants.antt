use Rattle.front_desk.proofs.Lines.{HaveOpened}
use Rattle.front_desk.proofs.desk.Desk.open.Given as goal

abbrev pub invariant-loop-endpoint : goal.invariant-loop-endpoint
invariant-loop-endpoint l = HaveOpened l.endpoints l.b l.g l.room l.endpoint l.lines.items l.seats.items
