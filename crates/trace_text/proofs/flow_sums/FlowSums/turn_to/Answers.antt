use Rattle.std.proofs.Common.{get_or, arith}
use Rattle.trace_text.proofs.FlowFacts.{held-none, none-above}
use Rattle.trace_text.proofs.flow_sums.FlowSums.turn_to.Goals as goal

pub returns-clause-among : goal.returns-clause-among
returns-clause-among c = λ endpoints asks flows. (
  c.in_ok-drain_into.ensures.among endpoints asks flows,
  λ flow low some. none-above (get_or c.drain_into.new.self.slots.items flow 0) some (c.in_ok-drain_into.ensures.none flow low),
)

pub returns-clause-sums : goal.returns-clause-sums
returns-clause-sums c = λ round src dst.
    omega (arith, c.in_ok-drain_into.ensures.sums round src dst, held-none c.args.round c.drain_into.new.self.slots.items round src dst c.in_ok-drain_into.ensures.none)
