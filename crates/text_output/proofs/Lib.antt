pub mod OutputLemmas
pub mod TextLemmas
pub mod ItemTexts
pub mod SlotTexts
pub mod RowTexts
