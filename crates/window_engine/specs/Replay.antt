-- What a replay stands for between its steps: the run of a trace, of which so many rounds are collected and the batches of so many
-- allocated and published (this project's own profile).
use Rattle.std.specs.Prelude.{◌≡◌, ◌↔◌, ◌<◌, ◌≤◌, ℕ, ◌+◌, ◌-◌, ◌*◌, ◌/◌, List, [], drop, length, Option, Some, None, if◌then◌else◌}
use Rattle.greedy_rules.specs.declared.flows.Flow.{Flow}
use Rattle.greedy_rules.specs.Batches.{DemandBatch}
use Rattle.greedy_rules.specs.Schedule.{schedule, slot_at}
use Rattle.clos_topology.specs.Network.{Network, endpoints_of}
use Rattle.clos_topology.specs.Links.{IsClean}
use Rattle.clos_topology.specs.NetSlots.{SlotCores, AreSlotCores}
use Rattle.endpoint_history.specs.Entries.{had}
use Rattle.endpoint_history.specs.Lane.{last_reset}
use Rattle.endpoint_history.specs.Counts as lane
use Rattle.endpoint_history.specs.Sending.{sends}
use Rattle.endpoint_history.specs.Agent.{missed}
use Rattle.trace_text.specs.Trace.{TraceContent}
use Rattle.trace_text.specs.Valid.{IsTrace}
use Rattle.trace_run.specs.Run.{Setting, replayed}
use Rattle.trace_run.specs.Histories.{agent_after, lane_after}
use Rattle.trace_run.specs.Rest.{allocated_from, left_after}
use Rattle.trace_run.specs.Windows.{InWindows, collected_after}
use Rattle.replay_rounds.specs.Setting.{setting_of}
use Rattle.replay_rounds.specs.Played.{Played}
use Rattle.replay_rounds.specs.Standing as lanes
use Rattle.replay_rounds.specs.Standing.{RoundsContent}
use Rattle.window_engine.specs.declared.counts.Counts.{Counts}
use Rattle.window_allocation.specs.Needs.{Needs}
use Rattle.window_allocation.specs.Scheduled.{HasCores, EverySlotIsScheduled}
use Rattle.window_allocation.specs.Standing.{Allocated, HasAllocated}

-- what contracts see of a replay: the rounds of the trace, all endpoints' rounds, the batches that are collected and not allocated,
-- the half that allocates, and at the end the slots pending of each flow
pub record ReplayState : Type 0 where
  pub rounds : ℕ
  pub lanes : RoundsContent
  pub waiting : List DemandBatch
  pub allocation : Allocated
  pub pending : List ℕ

-- the batches of the rounds that were played last, if some were
abbrev pub batches_in : Option Played → List DemandBatch
batches_in None = []
batches_in (Some played) = played.batches

abbrev pub replay_run : TraceContent → SlotCores → ReplayState → Setting
replay_run trace cores engine = setting_of trace engine.lanes.b engine.lanes.g cores

pub record ReplayStands (trace : TraceContent) (cores : SlotCores) (engine : ReplayState) : Type 0 where
  pub rounds : engine.rounds ≡ trace.rounds
  pub lanes : lanes.AllRoundsStand trace cores engine.lanes
  pub size : engine.allocation.b ≡ engine.lanes.b
  pub windows : InWindows engine.lanes.g trace.rounds engine.lanes.collected engine.lanes.published engine.lanes.window.first_batch
  pub waiting : engine.waiting ≡ drop engine.lanes.published (replayed (replay_run trace cores engine) engine.lanes.collected).batches
  pub allocated : HasAllocated trace.net engine.lanes.g (replayed (replay_run trace cores engine) engine.lanes.published).batches engine.allocation
  pub pending_room : length engine.pending ≡ endpoints_of trace.net * endpoints_of trace.net
  pub counted : engine.lanes.published ≡ trace.rounds → engine.lanes.counted ≡ engine.lanes.published
  pub ended : engine.lanes.published ≡ trace.rounds → Needs (endpoints_of trace.net) engine.allocation.list.items engine.pending

-- ---- counts

-- the counts of a flow after the last round; None where no batch has it
abbrev pub replay_counts : Setting → ℕ → Flow → Option Counts
replay_counts setting rounds flow =
    if had setting.g (lane_after setting rounds flow.src) flow.dst
    then
    Some (record {
      demanded = lane.recorded (lane_after setting rounds flow.src) flow.dst;
      allocated = allocated_from setting rounds (last_reset (lane_after setting rounds flow.src)) flow.src flow.dst;
      acknowledged = lane.acknowledged setting.g (lane_after setting rounds flow.src) flow.dst;
      lost = lane.lost setting.g (lane_after setting rounds flow.src) flow.dst;
      pending = left_after setting rounds flow.src flow.dst;
      sent = sends setting.b setting.g (agent_after setting rounds flow.src) flow.dst;
      missed = missed setting.g (agent_after setting rounds flow.src) flow.dst;
    })
    else None

-- ---- laws

-- each of these slots is clean up to a number, counted from 1
abbrev pub AreCleanUpTo : Network → List (List Flow) → ℕ → SlotCores → Type 0
AreCleanUpTo net slots reached cores =
    (number : ℕ) → 0 < number → number ≤ reached → number ≤ length slots → IsClean net.hosts net.cores (slot_at slots number) (cores number)

-- whatever cores are named so far, there are cores by which every slot of the run is scheduled on paths that share no link
abbrev pub EveryReplayHasCores : Type 0
EveryReplayHasCores =
    (b g : ℕ) (trace : TraceContent) (cores : SlotCores) → IsTrace trace → b ≤ 64 → 0 < g → HasCores b trace.net (replayed (setting_of trace b g cores) trace.rounds).batches

-- and where those named so far make all slots up to a number clean, they are the first of cores that do so for every slot of their own
-- run
abbrev pub CoresGoOn : Type 0
CoresGoOn =
    (b g : ℕ) (trace : TraceContent) (cores : SlotCores) (reached : ℕ) → IsTrace trace → b ≤ 64 → 0 < g → AreSlotCores cores →
    AreCleanUpTo trace.net (schedule b (replayed (setting_of trace b g cores) trace.rounds).batches) reached cores →
    (whole : SlotCores) × AreSlotCores whole × ((number : ℕ) → number ≤ reached → whole number ≡ cores number)
    × EverySlotIsScheduled b trace.net (replayed (setting_of trace b g whole) trace.rounds).batches whole

-- after so many steps `collected_after` rounds are collected, and the batches are published that were collected one step before: all are
-- done exactly after as many steps as there are windows of g rounds, and one more
abbrev pub EveryReplayTakesItsSteps : Type 0
EveryReplayTakesItsSteps =
    (g rounds steps : ℕ) → 0 < g → 0 < rounds → (collected_after g rounds (steps - 1) ≡ rounds) ↔ ((rounds + g - 1) / g + 1 ≤ steps)
