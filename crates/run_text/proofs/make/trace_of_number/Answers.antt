use Rattle.run_text.proofs.MadeLemmas.{rounds_are, trace_is}
use Rattle.run_text.proofs.make.trace_of_number.Goals as goal

pub returns-clause-trace : goal.returns-clause-trace
returns-clause-trace c = trace_is c.args.number 400 c.net.result c.in_ok-trace.trace c.net.ensures.net rounds_are c.in_ok-trace.ensures
