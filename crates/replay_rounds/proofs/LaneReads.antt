-- What a lane of all tells of its flows.
use Rattle.std.proofs.Common.{◌≡◌, ◌<◌, ◌↔◌, ◌+◌, ℕ, List, get_or, Bool, true, cond, Option, IsSome, sym, ap, ◌∙◌, subst, arith}
use Rattle.std.proofs.lemmas.Bool.{le-ltb}
use Rattle.std.proofs.lemmas.Option.{slice_get_read}
use Rattle.clos_topology.specs.NetSlots.{SlotCores}
use Rattle.lane_rounds.specs.Count.{FlowCount}
use Rattle.endpoint_history.specs.Agent.{missed}
use Rattle.endpoint_history.specs.Sending.{sends}
use Rattle.endpoint_history.specs.Lane.{LaneHistory, last_reset}
use Rattle.endpoint_history.specs.Counts.{Allocation, recorded, acknowledged, lost, allocated}
use Rattle.endpoint_history.specs.Entries.{had}
use Rattle.endpoint_history.specs.Rounds.{Round, PlayedEnds, played}
use Rattle.endpoint_history.specs.Steps.{agent_of, lane_of}
use Rattle.lane_rounds.specs.State.{RoundsState}
use Rattle.lane_rounds.specs.Standing.{RoundsStandFor, played_by}
use Rattle.trace_text.specs.Trace.{TraceContent}
use Rattle.trace_run.specs.Run.{Setting, replayed}
use Rattle.trace_run.specs.Histories.{played_after, agent_after, lane_after}
use Rattle.trace_run.specs.Rest.{allocated_from}
use Rattle.replay_rounds.specs.Standing.{RoundsContent, AllRoundsStand, LaneStands, setting_with}
use Rattle.replay_rounds.specs.Counts.{lane_count, count_of_lane, sent_and_missed}

-- the lane in its place stands for its rounds
pub lane_in : (trace : TraceContent) (cores : SlotCores) (inside all : RoundsContent) (src : ℕ) (lane : RoundsState) → inside ≡ all → AllRoundsStand trace cores all → src < all.endpoints → lane ≡ get_or inside.lanes src lane →
    LaneStands (setting_with trace cores all) all.collected all.counted src lane
lane_in trace cores inside all src lane same stands below is =
    stands.lanes src lane (slice_get_read all.lanes all.endpoints src lane (sym stands.wide) below (is ∙ ap (λ (s : RoundsContent). get_or s.lanes src lane) same))

same_count : (count : FlowCount) (a b c d : ℕ) → count.demanded ≡ a → count.allocated ≡ b → count.acknowledged ≡ c → count.lost ≡ d →
    count_of_lane count ≡ record { demanded = a; allocated = b; acknowledged = c; lost = d }
same_count count a b c d e f g h = cc

pair_is : (pair : ℕ × ℕ) (a b : ℕ) → pair.0 ≡ a → pair.1 ≡ b → pair ≡ (a, b)
pair_is pair a b e f = ap (λ (n : ℕ). (n, pair.1)) e ∙ ap (λ (n : ℕ). (a, n)) f

module _ (setting : Setting) (collected published src : ℕ) (lane : RoundsState) (stood : LaneStands setting collected published src lane) where
  -- what it has played is what the run has
  pub played_is : played_by lane ((replayed setting collected).rounds src) ≡ played_after setting collected src
  played_is =
      ap (λ (n : ℕ). played n lane.lane.g ((replayed setting collected).rounds src)) stood.endpoints
      ∙ ap (λ (g : ℕ). played setting.endpoints g ((replayed setting collected).rounds src)) stood.g

  pub opened_is : (dst : ℕ) (result : Option FlowCount) →
      ((rounds : List Round) (allocations : List Allocation) → RoundsStandFor lane rounds allocations → (IsSome result ↔ (had lane.lane.g (lane_of (played_by lane rounds).steps) dst ≡ true))) →
      IsSome result ↔ (had setting.g (lane_after setting collected src) dst ≡ true)
  opened_is dst result opened =
      subst (λ (g : ℕ). IsSome result ↔ (had g (lane_after setting collected src) dst ≡ true)) stood.g
      (subst (λ (p : PlayedEnds). IsSome result ↔ (had lane.lane.g (lane_of p.steps) dst ≡ true)) played_is
      (opened ((replayed setting collected).rounds src) stood.allocations stood.stands))

  -- what is said of a count by the calls of a lane
  abbrev pub IsCountOf : ℕ → FlowCount → Type 0
  IsCountOf dst count = (rounds : List Round) (allocations : List Allocation) → RoundsStandFor lane rounds allocations →
      (count.demanded ≡ recorded (lane_of (played_by lane rounds).steps) dst) × (count.allocated ≡ allocated (lane_of (played_by lane rounds).steps) allocations dst)
      × (count.acknowledged ≡ acknowledged lane.lane.g (lane_of (played_by lane rounds).steps) dst) × (count.lost ≡ lost lane.lane.g (lane_of (played_by lane rounds).steps) dst)

  pub counted_is : (dst : ℕ) (count : FlowCount) → dst < setting.endpoints → IsCountOf dst count → count_of_lane count ≡ lane_count setting collected published src dst
  counted_is dst count low of =
      let (demanded, its_allocated, its_acknowledged, its_lost) = of ((replayed setting collected).rounds src) stood.allocations stood.stands in
      let history : LaneHistory = lane_after setting collected src in
      let e : count.demanded ≡ recorded history dst = demanded ∙ ap (λ (p : PlayedEnds). recorded (lane_of p.steps) dst) played_is in
      let f : count.allocated ≡ allocated_from setting published (last_reset history) src dst =
      its_allocated ∙ (ap (λ (p : PlayedEnds). allocated (lane_of p.steps) stood.allocations dst) played_is
      ∙ (stood.counted (last_reset history) dst low
      ∙ ap (λ (c : Bool). allocated_from setting (cond c (published + 1) published) (last_reset history) src dst) (le-ltb dst 0 (omega arith)))) in
      let g : count.acknowledged ≡ acknowledged setting.g history dst =
      its_acknowledged ∙ (ap (λ (p : PlayedEnds). acknowledged lane.lane.g (lane_of p.steps) dst) played_is ∙ ap (λ (n : ℕ). acknowledged n history dst) stood.g) in
      let h : count.lost ≡ lost setting.g history dst =
      its_lost ∙ (ap (λ (p : PlayedEnds). lost lane.lane.g (lane_of p.steps) dst) played_is ∙ ap (λ (n : ℕ). lost n history dst) stood.g) in
      same_count count (recorded history dst) (allocated_from setting published (last_reset history) src dst) (acknowledged setting.g history dst) (lost setting.g history dst) e f g h

  pub sent_is : (dst : ℕ) (result : ℕ × ℕ) →
      ((rounds : List Round) (allocations : List Allocation) → RoundsStandFor lane rounds allocations → result.0 ≡ sends lane.lane.b lane.lane.g (agent_of (played_by lane rounds).steps) dst) →
      ((rounds : List Round) (allocations : List Allocation) → RoundsStandFor lane rounds allocations → result.1 ≡ missed lane.lane.g (agent_of (played_by lane rounds).steps) dst) →
      result ≡ sent_and_missed setting collected src dst
  sent_is dst result sent lacking =
      let calls = agent_after setting collected src in
      let e : result.0 ≡ sends setting.b setting.g calls dst =
      sent ((replayed setting collected).rounds src) stood.allocations stood.stands
      ∙ (ap (λ (p : PlayedEnds). sends lane.lane.b lane.lane.g (agent_of p.steps) dst) played_is
      ∙ (ap (λ (n : ℕ). sends n lane.lane.g calls dst) stood.b ∙ ap (λ (n : ℕ). sends setting.b n calls dst) stood.g)) in
      let f : result.1 ≡ missed setting.g calls dst =
      lacking ((replayed setting collected).rounds src) stood.allocations stood.stands
      ∙ (ap (λ (p : PlayedEnds). missed lane.lane.g (agent_of p.steps) dst) played_is ∙ ap (λ (n : ℕ). missed n calls dst) stood.g) in
      pair_is result (sends setting.b setting.g calls dst) (missed setting.g calls dst) e f
