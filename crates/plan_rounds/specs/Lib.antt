pub mod Batches
pub mod Asked
pub mod Tallies
pub mod Standing
