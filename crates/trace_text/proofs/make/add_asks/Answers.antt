use Rattle.std.proofs.Common.{◌++◌, ◌∷◌, [], ap, ◌∙◌}
use Rattle.trace_text.specs.declared.ask.Ask.{Ask}
use Rattle.trace_text.proofs.MadeFacts.{asks-next}
use Rattle.trace_text.proofs.make.add_asks.Goals as goal

pub loop-preserved : goal.loop-preserved
loop-preserved c =
    let next = asks-next c.args.endpoints c.args.round c.args.draws.now.state c.loop.counter c.loop.draws.state c.args.asks.now.items c.loop.asks.items c.loop.invariant.asks c.loop.invariant.state in
    record {
      asks = c.in_ok-push.ensures.items ∙ ap (λ (ask : Ask). c.loop.asks.items ++ ask ∷ []) c.draw_ask.ensures.ask ∙ next.0;
      state = c.draw_ask.ensures.state ∙ next.1;
    }
