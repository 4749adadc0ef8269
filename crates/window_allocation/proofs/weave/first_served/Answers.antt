use Rattle.std.proofs.Common.{◌==◌, ◌≤◌, rules, arith}
use Rattle.std.specs.List.Sorted.{IsPartitionedBy}
use Rattle.std.proofs.lemmas.Bool.{eqb-true, eq-eqb}
use Rattle.std.proofs.lemmas.List.Sorted.{IsPartitionPoint-from_clause}
use Rattle.greedy_rules.specs.declared.flows.Item.{Item}
use Rattle.window_allocation.proofs.Weaving.{parts_at}
use Rattle.window_allocation.proofs.weave.first_served.Goals as goal

pub returns : goal.returns
returns c =
    let items = c.args.items.now in
    let new = λ (item : Item). item.last == 0 in
    let parted : IsPartitionedBy new items = λ i j d le within is. let low : _ ≤ _ = c.requires i j d le within in eq-eqb _ _ (omega (arith, low, eqb-true _ _ is)) in
    let point = IsPartitionPoint-from_clause new items c.partition_point.result c.partition_point.ensures.partitioned parted (λ a r q k. search rules) in
    let parts = parts_at items c.partition_point.result c.partition_point.ensures.bound point.0 point.1 in
    record { within = c.partition_point.ensures.bound; never = parts.0; once = parts.1 }
