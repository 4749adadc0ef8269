-- All of it.
use Rattle.std.proofs.Common.{◌≡◌, ◌<◌, ◌≤◌, ◌-◌, ◌*◌, ℕ, List, length, All, ◌∙◌, ap, subst, arith}
use Rattle.greedy_rules.specs.declared.limits.Limits.{Limits}
use Rattle.greedy_rules.specs.Batches.{DemandBatch}
use Rattle.greedy_rules.specs.Limits.{is_barred}
use Rattle.greedy_rules.specs.Matching.{IsMaximal, EverySlotIsAMaximalMatching, EverySlotKeepsTheLimits}
use Rattle.greedy_rules.specs.Schedule.{schedule, limits_at, slot_at, need_before}
use Rattle.greedy_rules.proofs.RecordedLemmas.{length-slot_limits, uniform}
use Rattle.trace_run.specs.Run.{replayed}
use Rattle.trace_run.specs.Applicable.{EveryRunIsApplicable, EverySlotIsOfTheRun}
use Rattle.trace_run.specs.Counts.{EveryFlowIsCounted, AddsAreDemandedAndLost}
use Rattle.trace_run.specs.Sends.{EverySendIsScheduled, NoSlotIsSentTwice}
use Rattle.trace_run.specs.Shown.{EveryReplayShows}
use Rattle.trace_run.specs.Unharmed.{NoLossOrBootHarmsARun}
use Rattle.trace_run.specs.Premises.{Schedules}
use Rattle.trace_run.proofs.Sends.{sent_is_what_each_round_sends}
use Rattle.trace_run.proofs.Fronts.{length-schedule, run_length}

-- ---- the limits of a slot are those of all batches

limits_here : (b : ℕ) (limits : Limits) (batches : List DemandBatch) → All (λ (x : DemandBatch). x.limits ≡ limits) batches →
    (number : ℕ) → 0 < number → number ≤ length batches * b → limits_at b batches number ≡ limits
limits_here b limits batches same number above within =
    let long = length-slot_limits b batches in
    uniform b limits batches same (number - 1) (record { hosts = 0; cores = 0 }) (omega arith)

pub every_replay_shows : Schedules → EverySlotIsAMaximalMatching → EverySlotKeepsTheLimits → EveryRunIsApplicable → EverySlotIsOfTheRun
    → EverySendIsScheduled → NoSlotIsSentTwice → EveryFlowIsCounted → AddsAreDemandedAndLost → NoLossOrBootHarmsARun → EveryReplayShows
every_replay_shows s maximal keeps applicable in_run scheduled once counted adds harmless setting some rounds =
    let batches = (replayed setting rounds).batches in
    let count = run_length setting rounds in
    let size : length batches * setting.b ≡ rounds * setting.b = ap (λ (n : ℕ). n * setting.b) count in
    let long = length-schedule s setting.b batches in
    let same = (applicable setting rounds).same_limits in
    record {
      batches = count;
      slots = long ∙ size;
      in_range = in_run setting rounds;
      matching = λ number above within. (maximal setting.b batches number above (omega arith)).matching;
      maximal = λ number above within.
          subst (λ (l : Limits). IsMaximal (is_barred l) (need_before setting.b batches number) (slot_at (schedule setting.b batches) number))
          (limits_here setting.b setting.limits batches same number above (omega arith))
          (maximal setting.b batches number above (omega arith)).maximal;
      keeps = keeps setting.b setting.limits batches same;
      scheduled = λ endpoint sent among. scheduled setting some rounds rounds endpoint (omega arith) sent among;
      once = λ endpoint slot. once setting some rounds endpoint slot;
      counted = λ src dst low high. counted setting some rounds src dst low high;
      added = λ src dst low high. adds setting rounds src dst low high;
      all_sent = λ endpoint. sent_is_what_each_round_sends setting rounds endpoint;
      unharmed = λ endpoint count low none within. harmless setting some count endpoint low none;
    }
