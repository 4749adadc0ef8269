mod ReplayBeside
mod Rings
pub mod PlanCounts
pub mod StepCounts
pub mod PlanLemmas
pub mod EngineLemmas
pub mod EngineFacts
pub mod ReplayTables
pub mod ReplaySteps
pub mod ReplayPublish
pub mod ReplayCounts
pub mod ReplayScheduled
