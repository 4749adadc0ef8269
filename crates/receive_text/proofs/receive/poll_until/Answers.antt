use Rattle.front_desk.proofs.Polls.{polled-same, polled-twice}
use Rattle.receive_text.proofs.receive.poll_until.Goals as goal

pub loop-init : goal.loop-init
loop-init c = polled-same c.args.desk.now

pub loop-preserved : goal.loop-preserved
loop-preserved c = polled-twice c.args.desk.now c.loop.desk c.poll.new.self c.loop.invariant c.poll.ensures

pub returns-then-load : goal.returns-then-load
returns-then-load c = polled-twice c.args.desk.now c.loop.desk c.poll.new.self c.loop.invariant c.poll.ensures
