pub use Rattle.slot_batches.proofs.ListOrder
pub use Rattle.slot_batches.proofs.NextList
mod ServeLemmas
mod UnservedLemmas
mod BarLemmas
mod RowLemmas
mod PartLemmas
pub mod PlaceLemmas
mod FewestLemmas
mod TurnLemmas
