-- What the proofs of crates above may cite: facts about flows, demand lists, slots and their sources, and bars.
pub use Rattle.greedy_rules.proofs.FlowOrder.{same_flow-true, same_flow-refl, flow_below-trans, flow_below-not_same}
pub use Rattle.greedy_rules.proofs.OnceLemmas.{FlowsAre, InRange, All-opened, once-sort_by, once-map, once-opened, once-after_batch, once-after_batch_by, flows-after_batch, flows-after_batch_by, below-after_batch, once-after_slot, flows-after_slot, below-after_slot, flows-after_slots, flows-after_slots_by}
pub use Rattle.greedy_rules.proofs.NeedLemmas.{once-after_slots, once-after_slots_by, listed-after_batch, listed-after_batch_by, listed-after_slots, listed-after_slots_by}
pub use Rattle.greedy_rules.proofs.RoomLemmas.{few, few_pairs}
pub use Rattle.greedy_rules.proofs.ApplyLemmas.{opened-append, opened_more}
pub use Rattle.greedy_rules.proofs.SlotLemmas.{any-slot_with, count-slot_with, All-slot_with, Apart, apart_from_all, IsMatching-slot_with, Keeps, holds-chosen_after}
pub use Rattle.greedy_rules.proofs.BarLemmas.{taken_is_barred, barred_for_good, not_taken, keeps_limits}
pub use Rattle.greedy_rules.proofs.KeptLemmas.{All-batch_slots}
pub use Rattle.greedy_rules.proofs.RangeLemmas.{slots-batch}
pub use Rattle.greedy_rules.proofs.FillLemmas.{walk_is}
pub use Rattle.greedy_rules.proofs.WalkLemmas.{taken_by_end}
pub use Rattle.greedy_rules.proofs.SenderLemmas.{word_of_senders}
pub use Rattle.greedy_rules.proofs.SlotSources.{before, sent, before-none, before-all, other_source, this_source, before_more, no_source, sent_flow}
