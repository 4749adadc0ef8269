pub mod Passing
pub mod Plans
pub mod Replays
pub mod SameCores
pub mod Premises
