use Rattle.std.proofs.Common.{◌≡◌, ◌↔◌, true, List, IsSome, IfSome, subst}
use Rattle.std.proofs.lemmas.Option.{IfSome_then}
use Rattle.flow_ledger.specs.declared.FlowCount.{FlowCount}
use Rattle.endpoint_history.specs.Counts.{Allocation, recorded, acknowledged, lost, allocated}
use Rattle.endpoint_history.specs.Entries.{had}
use Rattle.endpoint_history.specs.Rounds.{Round}
use Rattle.endpoint_history.specs.Steps.{lane_of}
use Rattle.arbiter_lane.specs.Standing.{FlowIsWithinLedger}
use Rattle.lane_rounds.specs.State.{RoundsState}
use Rattle.lane_rounds.specs.Standing.{RoundsStandFor, played_by}
use Rattle.lane_rounds.specs.contracts.rounds.LaneRounds.{the_view}
use Rattle.lane_rounds.proofs.rounds.LaneRounds.count.Goals as goal

pub returns-clause-opened : goal.returns-clause-opened
returns-clause-opened c =
    subst (λ (s : RoundsState). (rounds : List Round) (allocations : List Allocation) → RoundsStandFor s rounds allocations → (IsSome c.count.result ↔ (had s.lane.g (lane_of (played_by s rounds).steps) c.args.dst ≡ true))) c.self.view_is
    (λ rounds allocations stood. c.count.ensures.opened (lane_of (played_by (the_view c.self.inside) rounds).steps) allocations stood.lane)

pub returns-clause-counts : goal.returns-clause-counts
returns-clause-counts c =
    subst (λ (s : RoundsState). IfSome c.count.result (λ (count : FlowCount). (rounds : List Round) (allocations : List Allocation) → RoundsStandFor s rounds allocations →
    (count.demanded ≡ recorded (lane_of (played_by s rounds).steps) c.args.dst) × (count.allocated ≡ allocated (lane_of (played_by s rounds).steps) allocations c.args.dst)
    × (count.acknowledged ≡ acknowledged s.lane.g (lane_of (played_by s rounds).steps) c.args.dst) × (count.lost ≡ lost s.lane.g (lane_of (played_by s rounds).steps) c.args.dst))) c.self.view_is
    (IfSome_then c.count.result c.count.ensures.counts (λ count counts rounds allocations stood. counts (lane_of (played_by (the_view c.self.inside) rounds).steps) allocations stood.lane))

pub returns-clause-told : goal.returns-clause-told
returns-clause-told c =
    subst (λ (s : RoundsState). (rounds : List Round) (allocations : List Allocation) → RoundsStandFor s rounds allocations → FlowIsWithinLedger s.lane.g (lane_of (played_by s rounds).steps) allocations c.args.dst) c.self.view_is
    (λ rounds allocations stood. c.count.ensures.told (lane_of (played_by (the_view c.self.inside) rounds).steps) allocations stood.lane)
