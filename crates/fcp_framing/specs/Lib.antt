pub mod Versions
pub mod Spelling
pub mod Fields
pub mod Refusals
pub mod Laws
pub mod Writing
pub mod Examples
