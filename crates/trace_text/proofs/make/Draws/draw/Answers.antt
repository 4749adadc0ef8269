use Rattle.std.proofs.Common.{ap}
use Rattle.trace_text.specs.Made.{drawn}
use Rattle.trace_text.proofs.MadeFacts.{next_state-wrapping}
use Rattle.trace_text.proofs.make.Draws.draw.Goals as goal

pub returns-clause-state : goal.returns-clause-state
returns-clause-state c = next_state-wrapping c.args.self.now.state

pub returns-clause-number : goal.returns-clause-number
returns-clause-number c = rw c.from.ensures (ap (λ x. drawn x c.args.below) (next_state-wrapping c.args.self.now.state))
