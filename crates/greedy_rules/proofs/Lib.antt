pub mod FlowOrder
mod Search
pub mod BatchLemmas
pub mod SlotLemmas
pub mod BarLemmas
mod KeptLemmas
pub mod ScheduleLemmas
pub mod RowLemmas
mod SenderLemmas
mod NamedCells
mod SlotRows
pub mod TableLemmas
pub mod WalkLemmas
mod FillLemmas
mod ApplyLemmas
pub mod OnceLemmas
mod BatchSlots
pub mod NeedLemmas
pub mod FrontLemmas
pub mod BalanceLemmas
pub mod RoomLemmas
mod RangeLemmas
pub mod SlotSources
pub mod RecordedLemmas
pub mod CellLemmas
mod BatchLaws
pub mod LeftOut
pub mod Facts
pub mod Crossing
