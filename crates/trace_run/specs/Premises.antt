-- The laws of the crates below that the lemmas here rest on, as two premises. From this project's own profile.
use Rattle.greedy_rules.specs.Fronts.{SchedulesGoOn, EveryBatchHasItsSlots, SlotsOfABatch}
use Rattle.greedy_rules.specs.Balance.{EveryBatchBalances, EveryRestIsListed}
use Rattle.greedy_rules.specs.Matching.{EverySlotsFlowsAreOfEntries}
use Rattle.endpoint_history.specs.AgentLaws.{TakingBringsSlots, SentWasTaken, RequestsNameTotals}
use Rattle.endpoint_history.specs.Bounds.{TakenIsFew, RecordedIsNamed}
use Rattle.endpoint_history.specs.CountLaws.{MakingTells, ReadingDecides, ResetsCountAnew, CountsAddUp}
use Rattle.endpoint_history.specs.ForgedLaws.{EachTellingWasIssued, SentOnce}
use Rattle.endpoint_history.specs.LedgerLaws.{AddsSumToOwed, EntriesSumToOwed, OneRest}
use Rattle.endpoint_history.specs.RoundLaws.{RoundsArriveFromOther, RoundsAreInOrder}
use Rattle.endpoint_history.specs.Unharmed.{NoLossOrBootHarms}

-- of schedules
pub record Schedules : Type 0 where
  pub more : SchedulesGoOn
  pub count : EveryBatchHasItsSlots
  pub each : SlotsOfABatch
  pub balances : EveryBatchBalances
  pub listed : EveryRestIsListed
  pub flows : EverySlotsFlowsAreOfEntries

-- of both ends of a connection
pub record EndsLaws : Type 0 where
  pub order : RoundsAreInOrder
  pub arrive : RoundsArriveFromOther
  pub making : MakingTells
  pub reading : ReadingDecides
  pub resets : ResetsCountAnew
  pub sums : CountsAddUp
  pub adds : AddsSumToOwed
  pub entries : EntriesSumToOwed
  pub rest : OneRest
  pub taken : SentWasTaken
  pub taking : TakingBringsSlots
  pub named : RequestsNameTotals
  pub few : TakenIsFew
  pub recorded : RecordedIsNamed
  pub issued : EachTellingWasIssued
  pub once : SentOnce
  pub harmless : NoLossOrBootHarms
