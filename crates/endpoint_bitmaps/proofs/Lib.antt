mod CountLemmas
pub mod WordLemmas
mod LowestLemmas
mod NotedLemmas
mod NamingLemmas
mod MapLemmas
mod LinkLemmas
mod RackLemmas
pub mod Facts
