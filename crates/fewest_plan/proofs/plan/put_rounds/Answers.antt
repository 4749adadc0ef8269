use Rattle.std.proofs.Common.{◌≤◌, ◌+◌, ◌*◌, ℕ, refl, arith}
use Rattle.greedy_rules.specs.Examples.{remaining}
use Rattle.clos_topology.specs.NetSlots.{SlotCores}
use Rattle.run_text.proofs.CoreLemmas.{spliced}
use Rattle.fewest_plan.specs.Standing.{planner_window}
use Rattle.fewest_plan.proofs.CoreLemmas.{scheduled_spliced}
use Rattle.fewest_plan.proofs.TextLemmas.{rounds_step, rounds_stop}
use Rattle.fewest_plan.proofs.plan.put_rounds.Goals as goal

pub loop-planner-preserved : goal.loop-planner-preserved
loop-planner-preserved g c =
    let trace = c.args.trace.now in
    let b : ℕ = c.args.b in
    let old = c.loop-planner.planner in
    let k : ℕ = old.collection.rounds in
    let n : ℕ = planner_window trace old in
    let inside : k + n ≤ trace.rounds = omega (arith, c.loop-planner.invariant.stands.collected.within) in
    let (there, scheduled, passed) = c.loop-planner.invariant.passed in
    let (here, clean, passes) = c.in_ok-put_step.ensures.passes in
    let cores : SlotCores = spliced (k * b) (n * b) here there in
    record {
      stands = c.in_ok-put_step.ensures.stands;
      size = c.in_ok-put_step.ensures.b;
      passed = (
        cores,
        scheduled_spliced b k n trace here there scheduled clean,
        c.texts_follow.ensures.after passed passes (rounds_step b k n c.put_step.new.planner.collection.rounds trace here there c.requires.accepted (c.every_plan_has_its_slots.ensures remaining) inside c.in_ok-put_step.ensures.round),
      );
    }

pub returns-in_err-put_step-clause-passes : goal.returns-in_err-put_step-clause-passes
returns-in_err-put_step-clause-passes g c =
    let trace = c.args.trace.now in
    let b : ℕ = c.args.b in
    let old = c.loop-planner.planner in
    let k : ℕ = old.collection.rounds in
    let n : ℕ = planner_window trace old in
    let inside : k + n ≤ trace.rounds = omega (arith, c.loop-planner.invariant.stands.collected.within) in
    let (there, scheduled, passed) = c.loop-planner.invariant.passed in
    let (here, clean, passes) = c.in_err-put_step.ensures.passes in
    let cores : SlotCores = spliced (k * b) (n * b) here there in (
      cores,
      scheduled_spliced b k n trace here there scheduled clean,
      c.texts_follow.ensures.stopped _ (c.texts_follow.ensures.after passed passes refl) c.from_residual.ensures.1 (rounds_stop b k n trace here there c.requires.accepted (c.every_plan_has_its_slots.ensures remaining) inside),
    )
