pub mod Arrivals
pub mod AtOnce
pub mod Examples
pub mod History
pub mod InTransit
