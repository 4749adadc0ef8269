pub mod Events
pub mod Leases
pub mod Endpoints
pub mod Batches
pub mod Steps
pub mod Laws
pub mod Fits
