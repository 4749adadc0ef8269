-- An accepted trace keeps the rules that the laws of runs ask for. From this project's own profile.
use Rattle.std.specs.Prelude.{◌<◌, ◌≤◌, ℕ}
use Rattle.clos_topology.specs.NetSlots.{SlotCores}
use Rattle.trace_text.specs.Trace.{TraceContent}
use Rattle.trace_text.specs.Valid.{IsTrace}
use Rattle.trace_run.specs.Recorded as run
use Rattle.replay_rounds.specs.Setting.{setting_of}

-- with whatever batch size, window and cores
abbrev pub EverySettingIsOfATrace : Type 0
EverySettingIsOfATrace =
    (trace : TraceContent) (b g : ℕ) (cores : SlotCores) → IsTrace trace → b ≤ 64 → 0 < g → run.KeepsTraceRules (setting_of trace b g cores) trace.rounds
