-- The `sent` lines of a text: each is of a slot that the schedule gives its flow, and no two are of one slot and source (the SIGCOMM
-- 2014 Fastpass paper: endpoints send in the timeslots that the arbiter gives them).
use Rattle.std.specs.Prelude.{◌≡◌, ◌<◌, ◌≤◌, ⊤, ℕ, Bool, true, false, ◌==◌, ◌&&◌, List, All, count_by}
use Rattle.greedy_rules.specs.Slot.{has_flow}
use Rattle.greedy_rules.specs.Schedule.{schedule, slot_at}
use Rattle.report_text.specs.declared.line.Line.{Line}
use Rattle.report_text.specs.declared.line.Line.TheVariants as line
use Rattle.trace_run.specs.Run.{Setting, replayed}

-- the slot that a `sent` line names has its flow in the schedule of so many rounds
abbrev pub IsScheduledSend : Setting → ℕ → Line → Type 0
IsScheduledSend setting rounds (line.Sent slot src dst) =
    (0 < slot) × (has_flow (slot_at (schedule setting.b (replayed setting rounds).batches) slot) (record { src = src; dst = dst }) ≡ true)
IsScheduledSend setting rounds _ = ⊤

abbrev pub is_send_in : ℕ → ℕ → Line → Bool
is_send_in slot src (line.Sent number source dst) = number == slot && source == src
is_send_in slot src _ = false

pub record SendsAreScheduled (setting : Setting) (rounds : ℕ) (lines : List Line) : Type 0 where
  pub scheduled : All (IsScheduledSend setting rounds) lines
  pub once : (slot src : ℕ) → count_by (is_send_in slot src) lines ≤ 1
