pub mod Content
pub mod Rows
pub mod Earlier
pub mod Faults
pub mod Script
pub mod Standing
