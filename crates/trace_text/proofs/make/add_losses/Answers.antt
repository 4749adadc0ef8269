use Rattle.std.proofs.Common.{◌++◌, true, false, ap, ◌∙◌}
use Rattle.trace_text.specs.Made.{loss_of, next_state}
use Rattle.trace_text.proofs.MadeFacts.{losses-next}
use Rattle.trace_text.proofs.make.add_losses.Goals as goal

pub loop-endpoint-preserved : goal.loop-endpoint-preserved
loop-endpoint-preserved c =
    let up = c.in_ok-add_loss.ensures in
    let down = c.in_ok-add_loss-2.ensures in
    let next = losses-next c.args.round c.args.draws.now.state c.loop-endpoint.endpoint c.loop-endpoint.draws.state c.args.fates.now.items c.loop-endpoint.fates.items c.loop-endpoint.invariant.fates c.loop-endpoint.invariant.state in
    record {
      fates = down.fates ∙ ap (λ l. l ++ loss_of c.args.round c.loop-endpoint.endpoint false c.add_loss.new.draws.state) up.fates
          ∙ ap (λ s. (c.loop-endpoint.fates.items ++ loss_of c.args.round c.loop-endpoint.endpoint true c.loop-endpoint.draws.state) ++ loss_of c.args.round c.loop-endpoint.endpoint false s) up.state ∙ next.0;
      state = down.state ∙ ap next_state up.state ∙ next.1;
    }
