mod Arriving
pub mod Crossing
mod Entering
mod Lines
pub mod Polls
pub mod Reading
mod Twos
mod Windows
