pub mod ReceiveText
pub mod Putting
pub mod Received
