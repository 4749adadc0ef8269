-- Batches by need, one after the other, over one list (this project's own profile).
use Rattle.std.specs.Prelude.{◌<◌, ◌≤◌, ℕ, ◌+◌, ◌^◌, List, ◌++◌, map, filter, Bool, not, nat_lt, All}
use Rattle.std.specs.List.Sorted.{IsNonDecreasingBy}
use Rattle.greedy_rules.specs.declared.flows.Flow.{Flow}
use Rattle.greedy_rules.specs.declared.flows.Item.{Item}
use Rattle.greedy_rules.specs.declared.flows.Entry.{Entry}
use Rattle.greedy_rules.specs.Batches.{entry_of}
use Rattle.greedy_rules.specs.Demands.{HasEachFlowOnce, AreBelow, OpensNewFlows, need_with, with_batch, opened}

-- what contracts see: the endpoints, the slots of a batch, the list that is left, and the slots of the last batch
pub record Fewest : Type 0 where
  pub endpoints : ℕ
  pub b : ℕ
  pub items : List Item
  pub slots : List (List Flow)

-- a batch of so many slots, the first of this number, may be applied to a list by need
pub record MayServe (endpoints b number : ℕ) (entries : List Entry) (list : List Item) : Type 0 where
  pub by_need : IsNonDecreasingBy (λ item. item.need) list
  pub once : HasEachFlowOnce list
  pub opens : OpensNewFlows entries list
  pub needs : All (λ item. need_with (entry_of entries item.flow) item.need < 2 ^ 32) list
  pub in_range : AreBelow endpoints (list ++ opened entries)
  pub below : All (λ item. item.last < number) list
  pub positive : 0 < number
  pub numbers : number + b ≤ 2 ^ 32

-- the batch makes the item need no less than before, and more than before
abbrev pub is_held : List Entry → Item → Bool
is_held entries item = not (nat_lt (with_batch entries item).need item.need)

abbrev pub is_raised : List Entry → Item → Bool
is_raised entries item = nat_lt item.need (with_batch entries item).need

abbrev pub held : List Entry → List Item → List Item
held entries list = filter (is_held entries) list

-- the items of a list that a batch raises, those that it leaves as they are, and those that it lowers, each with the batch applied
abbrev pub raised_of : List Entry → List Item → List Item
raised_of entries list = map (with_batch entries) (filter (is_raised entries) (held entries list))

abbrev pub kept_items : List Entry → List Item → List Item
kept_items entries list = map (with_batch entries) (filter (λ item. not (is_raised entries item)) (held entries list))

abbrev pub lowered_of : List Entry → List Item → List Item
lowered_of entries list = map (with_batch entries) (filter (λ item. not (is_held entries item)) list)
