pub mod Faults
pub mod Transfers
pub mod InMemory
pub mod Standard
