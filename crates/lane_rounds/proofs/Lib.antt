mod Arriving
mod Coming
pub mod Entries
mod Hearing
mod Playing
mod Posting
pub mod Raw
mod Whole
