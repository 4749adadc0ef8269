-- The laws that the proofs about a replay rest on. From this project's own profile.
use Rattle.greedy_rules.specs.Fronts.{EveryBatchHasItsSlots}
use Rattle.trace_run.specs.Fronts.{EveryRoundHasABatch, ARunBeginsWithEach}
use Rattle.trace_run.specs.Recorded.{EveryRunIsRecorded}
use Rattle.trace_run.specs.Windows.{EveryWindowIsAllocated, StepsGoOn}
use Rattle.replay_rounds.specs.Rules.{EverySettingIsOfATrace}

pub record Replays : Type 0 where
  pub setting : EverySettingIsOfATrace
  pub recorded : EveryRunIsRecorded
  pub batches : EveryRoundHasABatch
  pub begins : ARunBeginsWithEach
  pub window : EveryWindowIsAllocated
  pub steps : StepsGoOn
  pub slots : EveryBatchHasItsSlots
