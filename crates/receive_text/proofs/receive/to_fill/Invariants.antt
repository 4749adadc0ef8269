use Rattle.std.proofs.Common.{◌≡◌, ◌++◌, length, map, reverse}
use Rattle.receive_text.specs.declared.filling.Filling.{Filling}
use Rattle.receive_text.proofs.receive.to_fill.Given as goal

abbrev pub decreases-loop-seat : goal.decreases-loop-seat
decreases-loop-seat l = length l.seats

abbrev pub invariant-loop-seat : goal.invariant-loop-seat
invariant-loop-seat l = l.fn.seats ≡ l.seats ++ reverse (map (λ (filling : Filling). filling.seat) l.fillings.items)
