use Rattle.std.proofs.Common.{◌≡◌, length}
use Rattle.front_desk.specs.State.{HavePolled}
use Rattle.front_desk.proofs.tests.poll_for_one.Given as goal

abbrev pub invariant-loop : goal.invariant-loop
invariant-loop l = record {
  polled : HavePolled l.fn.desk l.desk;
  two : length l.desk ≡ 2;
}
