mod Bits
mod BothEnds
mod Contents
mod Direction
pub mod Sending
mod Spans
mod Taking
mod Weights
mod Steps
