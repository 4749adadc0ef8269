use Rattle.std.proofs.Common.{◌∷◌, Option, take, sym, subst, refl}
use Rattle.std.specs.Bool.{IsTrue}
use Rattle.loss_world.specs.declared.fate.Fate.{Fate}
use Rattle.loss_world.specs.History.{Departs, WorldStandsFor}
use Rattle.loss_world.specs.InTransit.{with_packet}
use Rattle.lane_rounds.proofs.rounds.hand_over.Goals as goal

pub returns-then-passes_at_once-clause-stands : goal.returns-then-passes_at_once-clause-stands
returns-then-passes_at_once-clause-stands c = λ history stands order.
    let world = c.args.world.now in
    let round = c.args.round in
    let bytes = take c.args.length c.args.made.now in
    let passes = c.passes_at_once.ensures.0 (subst IsTrue (sym c.if-passes_at_once.true) refl) in
    subst (λ (fate : Option Fate). WorldStandsFor (with_packet round bytes world) (Departs (record { round = round; fate = fate; bytes = bytes }) ∷ history)) (sym passes.0)
    (c.packets_pass_at_once.ensures.sent world history round bytes stands order)
