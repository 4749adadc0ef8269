use Rattle.std.proofs.Common.{rules, ◌<◌, ◌+◌, length, ◌∙◌, ap, arith}
use Rattle.std.proofs.lemmas.List.{length-drop}
use Rattle.loss_world.proofs.Flights.{is_kept, walk_goes_on}
use Rattle.loss_world.proofs.world.World.forget_before.Goals as goal

pub loop-at-preserved : goal.loop-at-preserved
loop-at-preserved c =
    let invariant = c.loop-at.invariant in
    let pass = c.pass-at.ensures in (
      pass.within,
      (
        walk_goes_on (is_kept c.args.round) c.loop-at.self.flights c.pass-at.new.self.flights c.loop-at.at c.pass-at.result pass.passed pass.rest ∙ invariant.1.0,
        pass.buffers ∙ invariant.1.1,
      ),
    )

pub loop-at-smaller : goal.loop-at-smaller
loop-at-smaller c =
    let before = c.loop-at.self.flights in
    let after = c.pass-at.new.self.flights in
    let within : c.loop-at.at < length before = search rules in
    omega (arith, within, ap length c.pass-at.ensures.rest, length-drop c.pass-at.result after, length-drop (c.loop-at.at + 1) before)
