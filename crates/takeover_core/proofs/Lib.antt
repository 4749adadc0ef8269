pub mod Rising
pub mod Tables
pub mod Sending
pub mod Keeping
pub mod Noding
pub mod Stepping
pub mod Ending
pub mod Nexting
