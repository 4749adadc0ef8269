-- The slots of one batch, whatever list it finds.
use Rattle.std.proofs.Common.{◌<◌, ℕ, List, [], get_or, sym, subst}
use Rattle.greedy_rules.specs.declared.flows.Item.{Item}
use Rattle.greedy_rules.specs.declared.limits.Limits.{Limits}
use Rattle.greedy_rules.specs.Demands.{item_of, need_in}
use Rattle.greedy_rules.specs.Limits.{is_barred, KeepsLimits}
use Rattle.greedy_rules.specs.Allocation.{batch_slots, batch_lists}
use Rattle.greedy_rules.specs.Schedule.{slot_in}
use Rattle.greedy_rules.specs.Matching.{IsMatching, IsMaximal, EverySlotOfABatchIsAMaximalMatching}
use Rattle.list_facts.proofs.Pairs.{AllPairs-nil}
use Rattle.greedy_rules.proofs.SlotLemmas.{Apart, barred-chosen_after}
use Rattle.greedy_rules.proofs.BarLemmas.{taken_is_barred, barred_for_good, keeps_limits}
use Rattle.greedy_rules.proofs.KeptLemmas.{All-batch_slots}
use Rattle.greedy_rules.proofs.RangeLemmas.{slots-batch}
use Rattle.greedy_rules.proofs.ScheduleLemmas.{Any, any_flows, keeps_matching, empty_keeps, length-batch_slots, slot_in_batch}

maximal_in : (limits : Limits) (number count : ℕ) (list : List Item) (at : ℕ) → at < count
    → IsMaximal (is_barred limits) (λ flow. need_in (item_of (get_or (batch_lists (is_barred limits) number count list) at []) flow)) (slot_in (batch_slots (is_barred limits) number count list) at)
maximal_in limits number count list at below =
    let found : List Item = get_or (batch_lists (is_barred limits) number count list) at [] in
    subst (IsMaximal (is_barred limits) (λ flow. need_in (item_of found flow))) (sym (slot_in_batch (is_barred limits) number count at list below))
    (λ flow needs out. barred-chosen_after (is_barred limits) (taken_is_barred limits) (barred_for_good limits) [] found flow needs)

pub every_slot_of_a_batch : EverySlotOfABatchIsAMaximalMatching
every_slot_of_a_batch limits number count list = record {
  counted = length-batch_slots (is_barred limits) number count list;
  matchings = All-batch_slots (is_barred limits) Any IsMatching (keeps_matching limits) (AllPairs-nil Apart) number count list (any_flows list);
  maximal = maximal_in limits number count list;
  limited = All-batch_slots (is_barred limits) Any (KeepsLimits limits) (keeps_limits limits) (empty_keeps limits) number count list (any_flows list);
  in_range = λ endpoints below. slots-batch limits endpoints number count list below;
}
