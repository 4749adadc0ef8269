pub mod Lines
pub mod Progress
pub mod Kept
pub mod Examples
