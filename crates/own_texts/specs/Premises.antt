-- The laws of the crates below that the proofs rest on.
use Rattle.greedy_rules.specs.Fronts.{FrontsAreFronts}
use Rattle.greedy_rules.specs.Matching.{EverySlotIsInRange}
use Rattle.endpoint_history.specs.AgentLaws.{SendsAreAsked, TakingBringsSlots}
use Rattle.endpoint_history.specs.Bounds.{TakenIsFew}
use Rattle.endpoint_history.specs.LedgerLaws as ledger
use Rattle.endpoint_history.specs.RoundLaws.{RoundsAreInOrder}
use Rattle.schedule_audit.specs.Counts.{SlotsBeginAtTheLastClear}
use Rattle.trace_run.specs.Agents.{AskedIsWithinAll}
use Rattle.trace_run.specs.Applicable.{EveryRunIsApplicable}
use Rattle.trace_run.specs.Counts.{EveryFlowIsCounted}
use Rattle.trace_run.specs.Fronts.{EveryRoundHasABatch}
use Rattle.trace_run.specs.Premises.{Schedules}
use Rattle.trace_run.specs.Recorded.{EveryRunIsRecorded}
use Rattle.trace_run.specs.Rest.{OwedIsAllocatedOrLeft}
use Rattle.trace_run.specs.Sends.{EverySendIsScheduled, NoSlotIsSentTwice}
use Rattle.replay_rounds.specs.Played.{EveryRefusalHasANumber}
use Rattle.replay_rounds.specs.Rules.{EverySettingIsOfATrace}
use Rattle.window_engine.specs.Replay.{EveryReplayTakesItsSteps}

-- of schedules, and where their slots begin to count
pub record SlotsPremises : Type 0 where
  pub schedules : Schedules
  pub fronts : FrontsAreFronts
  pub in_range : EverySlotIsInRange
  pub since : SlotsBeginAtTheLastClear

-- of both ends of a connection
pub record EndsPremises : Type 0 where
  pub order : RoundsAreInOrder
  pub few : TakenIsFew
  pub taking : TakingBringsSlots
  pub asks : SendsAreAsked
  pub begins : ledger.CountsBeginAtTheLastClear

-- of the runs of traces, and the windows of their replays
pub record RunsPremises : Type 0 where
  pub long : EveryRoundHasABatch
  pub applicable : EveryRunIsApplicable
  pub recorded : EveryRunIsRecorded
  pub owed : OwedIsAllocatedOrLeft
  pub counted : EveryFlowIsCounted
  pub asked : AskedIsWithinAll
  pub scheduled : EverySendIsScheduled
  pub once : NoSlotIsSentTwice
  pub named : EveryRefusalHasANumber
  pub setting : EverySettingIsOfATrace
  pub takes : EveryReplayTakesItsSteps
