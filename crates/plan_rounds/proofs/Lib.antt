pub mod AskLemmas
pub mod RoundAsks
pub mod EntryLemmas
pub mod TallyLemmas
pub mod PlanBatches
pub mod PlanRecord
