-- What the format of traces and the rules of packets give of a trace, and that the batches of its run are then recorded batches. From this project's own profile.
use Rattle.std.specs.Prelude.{◌≢◌, ◌<◌, ◌≤◌, ℕ, zero, suc, ◌+◌, ◌*◌, ◌==◌, sum_by, drop, All, if◌then◌else◌}
use Rattle.fcp_framing.specs.Spelling.{IsUp}
use Rattle.greedy_rules.specs.Schedule.{rest}
use Rattle.greedy_rules.specs.Recorded.{AreRecorded, Applies, MayBeApplied}
use Rattle.endpoint_history.specs.Packets.{framed_up}
use Rattle.endpoint_history.specs.Counts.{recorded, owed}
use Rattle.trace_run.specs.Run.{FromOutside, Setting, replayed}
use Rattle.trace_run.specs.Histories.{lane_after}
use Rattle.trace_run.specs.Windows.{batch_at}

-- the slots of a flow that are asked for in so many rounds
abbrev pub asked_in : FromOutside → ℕ → ℕ → ℕ → ℕ
asked_in outside zero src dst = 0
asked_in outside (suc rounds) src dst = asked_in outside rounds src dst + sum_by (λ (a : ℕ × ℕ). if a.0 == dst then a.1 else 0) (outside.asks rounds src)

-- a trace of so many rounds: asks are to other endpoints, those of a flow together are few, and the packets of raw rows keep the rules
-- of upward packets
pub record KeepsTraceRules (setting : Setting) (rounds : ℕ) : Type 0 where
  pub batch : setting.b ≤ 64
  pub window : 0 < setting.g
  pub length : rounds ≤ 100000
  pub apart : (round endpoint : ℕ) → All (λ (a : ℕ × ℕ). a.0 ≢ endpoint) (setting.outside.asks round endpoint)
  pub few : (src dst : ℕ) → asked_in setting.outside rounds src dst ≤ 100000000
  pub raw : (round endpoint : ℕ) → All (λ packet. IsUp setting.endpoints (framed_up endpoint packet)) (setting.outside.raw round endpoint)

-- then the batches are recorded batches, which may be applied window by window and one by one; and the numbers of a lane are of 32 bits
pub record IsRecorded (setting : Setting) (rounds : ℕ) : Type 0 where
  pub batches : AreRecorded setting.endpoints setting.limits (replayed setting rounds).batches
  pub window : (allocated : ℕ) → allocated ≤ rounds →
      MayBeApplied setting.endpoints setting.b allocated (rest setting.b (replayed setting allocated).batches) (drop allocated (replayed setting rounds).batches)
  pub next : (batch : ℕ) → batch < rounds → Applies setting.endpoints (batch_at setting batch) (rest setting.b (replayed setting batch).batches)
  pub demanded : (src dst : ℕ) → recorded (lane_after setting rounds src) dst ≤ 200000000
  pub owing : (src dst : ℕ) → owed setting.g (lane_after setting rounds src) dst ≤ 200000000 + rounds * setting.b

abbrev pub EveryRunIsRecorded : Type 0
EveryRunIsRecorded = (setting : Setting) (rounds all : ℕ) → rounds ≤ all → KeepsTraceRules setting all → IsRecorded setting rounds
