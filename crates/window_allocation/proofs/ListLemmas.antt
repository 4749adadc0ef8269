-- Where the items of a list stand: in logs, or in the list itself.
use Rattle.std.proofs.Common.{◌≡◌, ◌+◌, ◌-◌, ℕ, List, length, false, sym, ◌∙◌, subst, arith}
use Rattle.std.proofs.lemmas.Bool.{cond-false, both_ways}
use Rattle.greedy_rules.specs.Batches.{DemandBatch}
use Rattle.greedy_rules.specs.Demands.{Demands}
use Rattle.greedy_rules.specs.SlotTable.{Slots}
use Rattle.alloc_pipeline.specs.Ring.{RingWork}
use Rattle.window_allocation.specs.declared.window_list.WindowList.{WindowList}
use Rattle.window_allocation.specs.Runs.{GivesSlots}
use Rattle.window_allocation.specs.WindowLists.{demands_of, IsWindowList}

-- as it stands in logs
abbrev of_log : WindowList → Demands
of_log list = record { items = list.log.items; spare = list.list.spare - length list.log.items }

-- as it stands in the list itself
pub whole_is : (list : WindowList) → list.logged ≡ false → demands_of list ≡ list.list
whole_is list is = cond-false list.logged (of_log list) list.list is

-- a list whose items stand in it, once others are there
pub whole_list : (endpoints : ℕ) (list : WindowList) (now : Demands) → list.logged ≡ false → IsWindowList endpoints list → length now.items + now.spare ≡ length list.list.items + list.list.spare
    → IsWindowList endpoints (record list { list = now })
whole_list endpoints list now whole is room = record {
  ends = is.ends;
  room = omega (arith, is.room, room);
  empty = λ logged. absurd (both_ways _ whole logged);
  fits = λ logged. absurd (both_ways _ whole logged);
}

-- for its own endpoints
pub own_list : (endpoints : ℕ) (list : WindowList) → IsWindowList endpoints list → IsWindowList list.log.endpoints list
own_list endpoints list is = subst (λ (n : ℕ). IsWindowList n list) (sym is.ends) is

-- what batches gave of a list, seen as the same list elsewhere
module _ (ring_old ring_new : RingWork) (first : ℕ) (batches : List DemandBatch) (out_old out_new : Slots) where
  pub gives_whole : (old seen : WindowList) (now : Demands) → demands_of seen ≡ demands_of old → seen.logged ≡ false → GivesSlots ring_old ring_new first seen.list now batches out_old out_new
      → GivesSlots ring_old ring_new first (demands_of old) (demands_of (record seen { list = now })) batches out_old out_new
  gives_whole old seen now same whole gives =
      let there : demands_of (record seen { list = now }) ≡ now = whole_is (record seen { list = now }) whole in
      let here : demands_of old ≡ seen.list = sym same ∙ whole_is seen whole in
      subst (λ (d : Demands). GivesSlots ring_old ring_new first d (demands_of (record seen { list = now })) batches out_old out_new) (sym here)
      (subst (λ (d : Demands). GivesSlots ring_old ring_new first seen.list d batches out_old out_new) (sym there) gives)
