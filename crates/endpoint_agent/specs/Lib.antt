pub mod Carrying
pub mod Lines
pub mod Refusals
pub mod Timely
pub mod Standing
pub mod State
