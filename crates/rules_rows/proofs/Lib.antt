mod AskLemmas
pub mod TwoWindows
