pub mod Counts
pub mod Scheduled
pub mod Barred
pub mod Text
pub mod Progress
pub mod Standing
pub mod Ready
