mod Bare
mod Calls
mod Confirmed
pub mod Due
mod Ends
mod Making
mod Members
mod Naming
mod Packets
mod Sound
mod Taking
mod Timely
mod Totals
mod Walking
