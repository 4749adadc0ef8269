-- What the proofs of crates above may cite: facts about sets of slots, and about words as sets of slots.
pub use Rattle.endpoint_bitmaps.proofs.CountLemmas.{count_below-same, is_among_lowest-same, count_of_lowest}
pub use Rattle.endpoint_bitmaps.proofs.WordLemmas.{has_slot-none, lowest_is, without_lowest, ones_without_lowest}
