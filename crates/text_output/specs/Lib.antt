pub mod Content
pub mod Transfer
pub mod Output
pub mod Text
pub mod Laws
