pub mod Slots
pub mod Links
pub mod Noted
pub mod Fit
pub mod FreeSlots
