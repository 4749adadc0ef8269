pub mod Names
pub mod Lines
pub mod WrittenAlike
pub mod SlotLines
pub mod Laws
pub mod Fields
pub mod ShortFields
pub mod Buffer
