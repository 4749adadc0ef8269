pub mod Order
pub mod Examples
pub mod Bits
