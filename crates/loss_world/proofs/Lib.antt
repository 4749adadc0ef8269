pub mod Flights
pub mod Histories
