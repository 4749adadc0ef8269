pub mod CleanSlots
pub mod ServedLemmas
pub mod BarLemmas
pub mod WindowLemmas
pub mod LedgerLemmas
pub mod CoreLemmas
pub mod TextLemmas
pub mod FlowLemmas
