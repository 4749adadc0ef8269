pub mod Network
pub mod Limits
pub mod Links
pub mod NetSlots
pub mod RackFactor
pub mod RackGraph
pub mod Examples
