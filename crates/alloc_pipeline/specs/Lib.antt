pub mod Ring
pub mod Rules
pub mod Steps
pub mod Players
pub mod Rings
pub mod Joined
pub mod Starts
pub mod Crews
