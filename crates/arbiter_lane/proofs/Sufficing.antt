-- What a lane's calls ask of its value, from what its callers keep.
use Rattle.std.proofs.Common.{◌≡◌, ℕ, ◌*◌, ◌-◌, ◌<◌, ◌≤◌, ◌&&◌, cond, List, [], ◌∷◌, Some, slice_get, true, ap, arith}
use Rattle.std.specs.Prelude.{nat_le}
use Rattle.std.proofs.lemmas.Bool.{le-leb, and_from}
use Rattle.fcp_framing.specs.declared.packet.Told.{Told}
use Rattle.flow_ledger.specs.FlowCount.{pending}
use Rattle.endpoint_history.specs.Packets.{slots_to}
use Rattle.endpoint_history.specs.Lane.{MakesDown, epoch_of, last_reset}
use Rattle.endpoint_history.specs.Counts.{Allocation}
use Rattle.endpoint_history.specs.CountLaws.{MakingTells, CountsAddUp}
use Rattle.endpoint_history.specs.LedgerLaws.{LedgerIsWithin}
use Rattle.endpoint_history.specs.Conditions.{LaneCall, Happens, Allocates, history_of, allocations_of, MeetsConditions}
use Rattle.arbiter_lane.specs.declared.line.LaneLine.{LaneLine}
use Rattle.arbiter_lane.specs.Laws.{ConditionsSuffice}
use Rattle.arbiter_lane.specs.State.{LaneState, AreAllocated}
use Rattle.arbiter_lane.specs.Standing.{LaneStandsFor}
use Rattle.arbiter_lane.proofs.Held.{open_to-is}

telling-meets : (laws : MakingTells) (sums : CountsAddUp) (ledger : LedgerIsWithin) (lane : LaneState) (calls : List LaneCall) (round : ℕ) (told : List Told) → MeetsConditions lane.g (Happens (MakesDown round told) ∷ calls) →
    LaneStandsFor lane (history_of calls) (allocations_of calls) → AreAllocated lane round told
telling-meets laws sums ledger lane calls round told meets stands begun past since dst line here some =
    let history = history_of calls in
    let above : 0 < epoch_of history = omega (arith, begun, stands.epoch) in
    let late : last_reset history ≤ round - 2 * lane.g = omega (arith, since, stands.last_reset) in
    let whole : nat_le (2 * lane.g) round && nat_le (last_reset history) (round - 2 * lane.g) ≡ true =
    and_from (nat_le (2 * lane.g) round) (nat_le (last_reset history) (round - 2 * lane.g)) (le-leb (2 * lane.g) round past) (le-leb (last_reset history) (round - 2 * lane.g) late) in
    let all = ap (λ b. slots_to dst (cond b told [])) whole in
    let within = (ledger lane.g (Happens (MakesDown round told) ∷ calls) meets dst).0 in
    let tells = laws.tells lane.g round told history dst above in
    let three = sums.three lane.g history dst in
    let open_slots = open_to-is lane.g lane.sent history dst stands.sent_version stands.sent in
    let flow = stands.flows dst line here in
    let allocated = flow.allocated in
    let acknowledged = flow.acknowledged in
    let lost = flow.lost in
    omega (arith, all, within, tells, three, open_slots, allocated, acknowledged, lost)

allocating-meets : (lane : LaneState) (calls : List LaneCall) (allocation : Allocation) (line : LaneLine) → MeetsConditions lane.g (Allocates allocation ∷ calls) → LaneStandsFor lane (history_of calls) (allocations_of calls) →
    lane.last_reset ≤ allocation.batch → slice_get lane.lines allocation.dst ≡ Some line → allocation.slots ≤ pending line.count
allocating-meets lane calls allocation line meets stands since here =
    let owed = meets.1 (omega (arith, since, stands.last_reset)) in
    let flow = stands.flows allocation.dst line here in
    let demanded = flow.demanded in
    let allocated = flow.allocated in
    let lost = flow.lost in
    omega (arith, owed, demanded, allocated, lost)

pub conditions_suffice : MakingTells → CountsAddUp → LedgerIsWithin → ConditionsSuffice
conditions_suffice laws sums ledger = record {
  telling = λ lane calls round told meets stands. telling-meets laws sums ledger lane calls round told meets stands;
  allocating = λ lane calls allocation line meets stands since here. allocating-meets lane calls allocation line meets stands since here;
}
