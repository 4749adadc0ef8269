mod AgentEnd
mod AgentSlots
mod BothEnds
pub mod CallCounts
mod Carried
mod Examples
mod Few
mod Framed
mod Handed
mod Issues
mod LaneEnd
mod Ledger
mod Members
pub mod NeverSent
pub mod NeverTaken
pub mod Once
pub mod OneContent
pub mod OneRest
pub mod Reading
mod Requests
pub mod Rounds
pub mod Sending
mod SlotSums
pub mod Slots
mod TakenFew
mod TakenOnce
mod TakenForGood
pub mod Totals
mod Unharmed
pub mod Named
