pub mod PacketLemmas
pub mod PlaceLemmas
pub mod ToldLemmas
pub mod BatchLemmas
