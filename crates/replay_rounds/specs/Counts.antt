-- The counts of a flow in the run of a trace, as its lane and its agent keep them. From this project's own profile.
use Rattle.std.specs.Prelude.{ℕ}
pub use Rattle.lane_rounds.specs.Count.{FlowCount}
use Rattle.endpoint_history.specs.Agent.{missed}
use Rattle.endpoint_history.specs.Sending.{sends}
use Rattle.endpoint_history.specs.Lane.{last_reset}
use Rattle.endpoint_history.specs.Counts.{recorded, acknowledged, lost}
use Rattle.trace_run.specs.Run.{Setting}
use Rattle.trace_run.specs.Histories.{agent_after, lane_after}
use Rattle.trace_run.specs.Rest.{allocated_from}

-- what the lane counts since its last reset, where the slots of so many batches are published
pub record LaneCount : Type 0 where
  pub demanded : ℕ
  pub allocated : ℕ
  pub acknowledged : ℕ
  pub lost : ℕ

abbrev pub lane_count : Setting → ℕ → ℕ → ℕ → ℕ → LaneCount
lane_count setting collected published src dst = record {
  demanded = recorded (lane_after setting collected src) dst;
  allocated = allocated_from setting published (last_reset (lane_after setting collected src)) src dst;
  acknowledged = acknowledged setting.g (lane_after setting collected src) dst;
  lost = lost setting.g (lane_after setting collected src) dst;
}

abbrev pub count_of_lane : FlowCount → LaneCount
count_of_lane count = record { demanded = count.demanded; allocated = count.allocated; acknowledged = count.acknowledged; lost = count.lost }

-- the slots that the agent sent in, and those that it missed, since its last boot
abbrev pub sent_and_missed : Setting → ℕ → ℕ → ℕ → ℕ × ℕ
sent_and_missed setting collected src dst =
    (sends setting.b setting.g (agent_after setting collected src) dst, missed setting.g (agent_after setting collected src) dst)
