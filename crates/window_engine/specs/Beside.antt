-- The rounds of a replay's next window, as they are asked and what they make (this project's own profile).
use Rattle.std.specs.Prelude.{◌≡◌, ◌+◌, ◌-◌, min, ℕ}
use Rattle.clos_topology.specs.NetSlots.{SlotCores}
use Rattle.trace_text.specs.Trace.{TraceContent}
use Rattle.trace_run.specs.Windows.{InWindows}
use Rattle.replay_rounds.specs.Played.{Played, rounds_played}
use Rattle.replay_rounds.specs.Standing.{RoundsContent, AllRoundsStand, setting_with}

-- how many rounds the next window has
abbrev pub next_window : TraceContent → RoundsContent → ℕ
next_window trace all = min all.g (trace.rounds - all.collected)

-- the rounds of a trace may be played: the batches that are told in the next window are published
pub record MayPlayBeside (trace : TraceContent) (all : RoundsContent) : Type 0 where
  pub stands : (cores : SlotCores) × AllRoundsStand trace cores all
  pub windows : InWindows all.g trace.rounds all.collected all.published all.window.first_batch

-- the next window's rounds were played
pub record HasPlayedBeside (trace : TraceContent) (old new : RoundsContent) (rounds : Played) : Type 0 where
  pub frame : new ≡ record old { collected = old.collected + next_window trace old; counted = old.published; lanes = new.lanes }
  pub stands : (cores : SlotCores) → AllRoundsStand trace cores old → AllRoundsStand trace cores new
  pub played : (cores : SlotCores) → AllRoundsStand trace cores old → rounds ≡ rounds_played (setting_with trace cores old) trace old.collected (next_window trace old)
