use Rattle.front_desk.specs.State.{HavePolled}
use Rattle.receive_text.proofs.receive.poll_until.Given as goal

abbrev pub invariant-loop : goal.invariant-loop
invariant-loop l = HavePolled l.fn.desk l.desk
