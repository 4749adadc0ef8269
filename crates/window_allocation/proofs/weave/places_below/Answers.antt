use Rattle.std.proofs.Common.{nat_lt, rules}
use Rattle.std.proofs.lemmas.List.Sorted.{IsPartitionedBy-ltb, IsPartitionPoint-from_clause}
use Rattle.window_allocation.proofs.weave.places_below.Goals as goal

pub returns : goal.returns
returns c =
    let places = c.args.places.now in
    let point =
    IsPartitionPoint-from_clause (λ place. nat_lt place c.args.end) places c.partition_point.result c.partition_point.ensures.partitioned (IsPartitionedBy-ltb (λ place. place) places c.args.end c.requires) (λ a r q k. search rules) in
    record { within = c.partition_point.ensures.bound; point = point }
