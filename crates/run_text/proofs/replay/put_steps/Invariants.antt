use Rattle.std.proofs.Common.{◌≡◌, ◌+◌, ◌-◌, ◌*◌, ℕ}
use Rattle.clos_topology.specs.NetSlots.{SlotCores, AreSlotCores}
use Rattle.replay_rounds.specs.Setting.{setting_of}
use Rattle.run_lines.specs.Text.{text_of}
use Rattle.run_text.specs.ReplayProgress.{held_lines, MayGiveHeld, PassedUpTo}
use Rattle.run_text.specs.ReplayScheduled.{WithReplayCores, AgreeAbove}
use Rattle.run_text.specs.ReplayText.{steps_lines}
use Rattle.run_text.proofs.ReplaySteps.{IsAfter}
use Rattle.window_engine.specs.Standing.{StandsForReplay}
use Rattle.run_text.proofs.replay.put_steps.Given as goal

abbrev pub invariant-loop-replay : goal.invariant-loop-replay
invariant-loop-replay g l = record {
  rounds : l.replay.rounds ≡ l.initial.replay.rounds;
  size : l.replay.b ≡ l.b;
  window : l.replay.g ≡ l.initial.replay.g;
  held : MayGiveHeld l.b l.held;
  passed : (steps : ℕ) × IsAfter l.initial.replay.g l.trace.rounds steps l.replay × WithReplayCores l.b l.initial.replay.g l.trace (λ there.
      (cores : SlotCores) → AreSlotCores cores → AgreeAbove 0 (l.replay.allocated * l.b) cores there →
      StandsForReplay l.trace cores l.replay
      × PassedUpTo l.initial.output l.output (text_of (held_lines l.b l.held)) (text_of (steps_lines cores (setting_of l.trace l.b l.initial.replay.g cores) l.trace steps)));
}

abbrev pub decreases-loop-replay : goal.decreases-loop-replay
decreases-loop-replay g l = (l.trace.rounds - l.replay.collected) + (l.trace.rounds - l.replay.allocated)
