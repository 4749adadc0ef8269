-- What a replay tells of a flow at its end.
use Rattle.std.proofs.Common.{◌≡◌, ◌<◌, ◌*◌, ℕ, List, length, get_or, true, Some, None, sym, ap, ◌∙◌, subst, arith}
use Rattle.std.proofs.lemmas.Bool.{cond-true}
use Rattle.std.proofs.lemmas.Nat.{mul-add-lt}
use Rattle.std.proofs.lemmas.List.{get_or_default}
use Rattle.replay_rounds.specs.Counts.{FlowCount, LaneCount, count_of_lane, lane_count, sent_and_missed}
use Rattle.greedy_rules.specs.declared.flows.Flow.{Flow}
use Rattle.greedy_rules.specs.declared.flows.Item.{Item}
use Rattle.greedy_rules.specs.Demands.{item_of, need_in}
use Rattle.greedy_rules.specs.Schedule.{rest}
use Rattle.clos_topology.specs.Network.{endpoints_of}
use Rattle.clos_topology.specs.NetSlots.{SlotCores}
use Rattle.endpoint_history.specs.Entries.{had}
use Rattle.trace_text.specs.Trace.{TraceContent}
use Rattle.trace_run.specs.Run.{Setting, replayed}
use Rattle.trace_run.specs.Histories.{lane_after}
use Rattle.trace_run.specs.Rest.{left_after}
use Rattle.window_engine.specs.declared.counts.Counts.{Counts}
use Rattle.window_engine.specs.Replay.{ReplayState, ReplayStands, replay_run, replay_counts}
use Rattle.window_allocation.specs.Needs.{place_of}
use Rattle.window_allocation.proofs.WindowLemmas.{ring_endpoints}

-- every batch is allocated, so every round is collected
pub all_collected : (trace : TraceContent) (cores : SlotCores) (engine : ReplayState) → ReplayStands trace cores engine → engine.lanes.published ≡ engine.rounds
    → (engine.lanes.collected ≡ trace.rounds) × (engine.lanes.published ≡ trace.rounds)
all_collected trace cores engine stands done = (omega (arith, stands.windows.within, stands.windows.behind, stands.rounds), omega (arith, stands.rounds))

-- ---- the needs that are left

pub serves : (trace : TraceContent) (cores : SlotCores) (engine : ReplayState) → ReplayStands trace cores engine → engine.allocation.ring.endpoints ≡ engine.lanes.endpoints
serves trace cores engine stands = ring_endpoints _ _ _ _ stands.allocated ∙ sym stands.lanes.endpoints

pub left : (trace : TraceContent) (cores : SlotCores) (engine : ReplayState) (flow : Flow) (pending : ℕ) → ReplayStands trace cores engine → engine.lanes.published ≡ engine.rounds
    → flow.src < engine.lanes.endpoints → flow.dst < engine.lanes.endpoints
    → pending ≡ get_or engine.pending (place_of engine.allocation.ring.endpoints flow.src flow.dst) pending → pending ≡ left_after (replay_run trace cores engine) trace.rounds flow.src flow.dst
left trace cores engine flow pending stands done src dst is =
    let s : Setting = replay_run trace cores engine in
    let n : ℕ = endpoints_of trace.net in
    let ring : engine.allocation.ring.endpoints ≡ n = ring_endpoints _ _ _ _ stands.allocated in
    let from : flow.src < n = omega (arith, stands.lanes.endpoints) in
    let to : flow.dst < n = omega (arith, stands.lanes.endpoints) in
    let within : place_of n flow.src flow.dst < n * n = mul-add-lt flow.src n flow.dst n from to in
    let all = (all_collected trace cores engine stands done).1 in
    let need : List Item → ℕ = λ items. need_in (item_of items flow) in
    is
    ∙ (ap (λ (m : ℕ). get_or engine.pending (place_of m flow.src flow.dst) pending) ring
    ∙ (get_or_default engine.pending (place_of n flow.src flow.dst) pending 0 (omega (arith, stands.pending_room, within))
    ∙ ((stands.ended all).at flow.src flow.dst from to
    ∙ (ap need stands.allocated.left
    ∙ (ap (λ (b : ℕ). need (rest b (replayed s engine.lanes.published).batches)) stands.size
    ∙ ap (λ (m : ℕ). need (rest s.b (replayed s m).batches)) all)))))

pub place_fits : (trace : TraceContent) (cores : SlotCores) (engine : ReplayState) (place : ℕ) → ReplayStands trace cores engine → place < engine.allocation.ring.endpoints * engine.allocation.ring.endpoints
    → place < length engine.pending
place_fits trace cores engine place stands below =
    let ring : engine.allocation.ring.endpoints ≡ endpoints_of trace.net = ring_endpoints _ _ _ _ stands.allocated in
    omega (arith, stands.pending_room, ap (λ (n : ℕ). n * n) ring)

-- ---- the counts

abbrev counts_with : LaneCount → ℕ → (ℕ × ℕ) → Counts
counts_with lane pending totals = record {
  demanded = lane.demanded;
  allocated = lane.allocated;
  acknowledged = lane.acknowledged;
  lost = lane.lost;
  pending = pending;
  sent = totals.0;
  missed = totals.1;
}

pub tells : (trace : TraceContent) (cores : SlotCores) (engine : ReplayState) (flow : Flow) (count : FlowCount) (pending : ℕ) (totals : ℕ × ℕ) → ReplayStands trace cores engine
    → engine.lanes.published ≡ engine.rounds → flow.src < engine.lanes.endpoints → flow.dst < engine.lanes.endpoints
    → had engine.lanes.g (lane_after (replay_run trace cores engine) engine.lanes.collected flow.src) flow.dst ≡ true
    → count_of_lane count ≡ lane_count (replay_run trace cores engine) engine.lanes.collected engine.lanes.counted flow.src flow.dst
    → totals ≡ sent_and_missed (replay_run trace cores engine) engine.lanes.collected flow.src flow.dst
    → pending ≡ get_or engine.pending (place_of engine.allocation.ring.endpoints flow.src flow.dst) pending
    → Some (counts_with (count_of_lane count) pending totals) ≡ replay_counts (replay_run trace cores engine) trace.rounds flow
tells trace cores engine flow count pending totals stands done src dst has lane sums is =
    let s : Setting = replay_run trace cores engine in
    let n : ℕ = trace.rounds in
    let all = all_collected trace cores engine stands done in
    let here : had s.g (lane_after s n flow.src) flow.dst ≡ true = subst (λ (m : ℕ). had s.g (lane_after s m flow.src) flow.dst ≡ true) all.0 has in
    let counts : count_of_lane count ≡ lane_count s n n flow.src flow.dst =
    lane ∙ (ap (λ (m : ℕ). lane_count s m engine.lanes.counted flow.src flow.dst) all.0 ∙ ap (λ (m : ℕ). lane_count s n m flow.src flow.dst) (stands.counted all.1 ∙ all.1)) in
    let both : totals ≡ sent_and_missed s n flow.src flow.dst = sums ∙ ap (λ (m : ℕ). sent_and_missed s m flow.src flow.dst) all.0 in
    let need : pending ≡ left_after s n flow.src flow.dst = left trace cores engine flow pending stands done src dst is in
    let told : Counts = counts_with (lane_count s n n flow.src flow.dst) (left_after s n flow.src flow.dst) (sent_and_missed s n flow.src flow.dst) in
    ap (λ (l : LaneCount). Some (counts_with l pending totals)) counts
    ∙ (ap (λ (p : ℕ). Some (counts_with (lane_count s n n flow.src flow.dst) p totals)) need
    ∙ (ap (λ (t : ℕ × ℕ). Some (counts_with (lane_count s n n flow.src flow.dst) (left_after s n flow.src flow.dst) t)) both
    ∙ sym (cond-true (had s.g (lane_after s n flow.src) flow.dst) (Some told) None here)))
