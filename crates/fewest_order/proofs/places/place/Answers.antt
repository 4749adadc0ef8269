use Rattle.std.proofs.Common.{◌≡◌, ℕ, List, true, false, nat_lt, nat_le, All, take, drop, sym, subst, rules}
use Rattle.std.proofs.lemmas.List.Sorted.{IsPartitionedBy-ltb, IsPartitionedBy-leb, IsPartitionPoint-from_clause}
use Rattle.greedy_rules.specs.declared.flows.Item.{Item}
use Rattle.fewest_order.specs.declared.places.Side.{Side}
use Rattle.fewest_order.specs.Places.{goes_before}
use Rattle.fewest_order.proofs.PlaceLemmas.{need_of, split_at}
use Rattle.fewest_order.proofs.places.place.Goals as goal
use Rattle.fewest_order.proofs.places.place.Goals.{After-partition_point, After-partition_point-in-Behind}

abbrev Parts : Side → ℕ → List Item → ℕ → Type 0
Parts side need items k = All (λ item. goes_before side item.need need ≡ true) (take k items) × All (λ item. goes_before side item.need need ≡ false) (drop k items)

in_front : (c : After-partition_point) → Parts c.args.side c.args.need c.args.items.now c.partition_point.result
in_front c =
    let items : List Item = c.args.items.now in
    let need : ℕ = c.args.need in
    let point =
    IsPartitionPoint-from_clause (λ (item : Item). nat_lt item.need need) items c.partition_point.result c.partition_point.ensures.partitioned (IsPartitionedBy-ltb need_of items need c.requires) (λ a r q k. search rules) in
    subst (λ (s : Side). Parts s need items c.partition_point.result) (sym c.in-Front.is)
    (split_at (λ (item : Item). nat_lt item.need need ≡ true) (λ (item : Item). nat_lt item.need need ≡ false) items c.partition_point.result c.partition_point.ensures.bound point.0 point.1)

behind : (c : After-partition_point-in-Behind) → Parts c.args.side c.args.need c.args.items.now c.partition_point-in-Behind.result
behind c =
    let items : List Item = c.args.items.now in
    let need : ℕ = c.args.need in
    let call = c.partition_point-in-Behind in
    let point =
    IsPartitionPoint-from_clause (λ (item : Item). nat_le item.need need) items call.result call.ensures.partitioned (IsPartitionedBy-leb need_of items need c.requires) (λ a r q k. search rules) in
    subst (λ (s : Side). Parts s need items call.result) (sym c.in-Behind.is)
    (split_at (λ (item : Item). nat_le item.need need ≡ true) (λ (item : Item). nat_le item.need need ≡ false) items call.result call.ensures.bound point.0 point.1)

pub returns-in-Front-clause-before : goal.returns-in-Front-clause-before
returns-in-Front-clause-before c = (in_front c).0

pub returns-in-Front-clause-behind : goal.returns-in-Front-clause-behind
returns-in-Front-clause-behind c = (in_front c).1

pub returns-in-Behind-clause-before : goal.returns-in-Behind-clause-before
returns-in-Behind-clause-before c = (behind c).0

pub returns-in-Behind-clause-behind : goal.returns-in-Behind-clause-behind
returns-in-Behind-clause-behind c = (behind c).1
