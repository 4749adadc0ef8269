use Rattle.std.proofs.Common.{◌∙◌, arith}
use Rattle.front_desk.proofs.Polls.{polled-same, polled-length, polled-twice}
use Rattle.front_desk.proofs.tests.poll_for_one.Goals as goal

pub loop-init : goal.loop-init
loop-init c = record { polled = polled-same c.args.desk; two = c.requires }

pub taken-count-requires : goal.taken-count-requires
taken-count-requires c = omega (arith, polled-length c.loop.desk c.poll.new.self c.poll.ensures, c.loop.invariant.two)

pub loop-preserved : goal.loop-preserved
loop-preserved c = record {
  polled = polled-twice c.args.desk c.loop.desk c.poll.new.self c.loop.invariant.polled c.poll.ensures;
  two = polled-length c.loop.desk c.poll.new.self c.poll.ensures ∙ c.loop.invariant.two;
}

pub returns-then-count-gt0 : goal.returns-then-count-gt0
returns-then-count-gt0 c = polled-twice c.args.desk c.loop.desk c.poll.new.self c.loop.invariant.polled c.poll.ensures
