pub mod Orders
pub mod KeptOut
pub mod FewestFirst
pub mod Places
