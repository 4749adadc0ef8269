pub mod Degrees
pub mod Colouring
pub mod Cores
pub mod Holders
pub mod Turns
pub mod Painted
pub mod Tables
