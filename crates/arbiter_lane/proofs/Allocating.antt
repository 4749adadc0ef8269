-- What a lane stands for once slots of a batch are counted as allocated.
use Rattle.std.proofs.Common.{◌≡◌, ◌≢◌, ℕ, ◌+◌, ◌<◌, ◌≤◌, ◌&&◌, cond, eqb, List, ◌∷◌, Some, slice_get, set, ap, ◌∙◌, sym, subst, refl, arith}
use Rattle.std.specs.Prelude.{nat_le}
use Rattle.std.proofs.lemmas.Bool.{eq-eqb, ne_eqb, le-leb, lt-leb, and_right}
use Rattle.std.proofs.lemmas.List.Elements.{All-cons}
use Rattle.std.proofs.lemmas.List.Sums.{sum_by-cons}
use Rattle.flow_ledger.specs.FlowCount.{pending}
use Rattle.endpoint_history.specs.Lane.{LaneHistory, last_reset}
use Rattle.endpoint_history.specs.Counts.{Allocation}
use Rattle.arbiter_lane.specs.declared.line.LaneLine.{LaneLine}
use Rattle.arbiter_lane.specs.State.{LaneState, IsFlow, IsSoundLane}
use Rattle.arbiter_lane.specs.Standing.{StandsForFlow, LaneStandsFor}
use Rattle.arbiter_lane.specs.Lines.{Become, AllocatesSlots}
use Rattle.arbiter_lane.proofs.Changes.{Become-set, Become-none}
use Rattle.arbiter_lane.proofs.Held.{each_line}

-- how many slots to a destination an allocation counts for, from the batch of a round on
abbrev pub counted : ℕ → ℕ → ℕ → ℕ → ℕ → ℕ
counted since to batch slots dst = cond {A = ℕ} (eqb to dst && nat_le since batch) slots 0

pub AllocatesSlots-none : (line : LaneLine) (n : ℕ) → n ≡ 0 → AllocatesSlots n line line
AllocatesSlots-none line n none = record { opened = refl; entered = refl; count = record { demanded = refl; allocated = omega (arith, none); acknowledged = refl; lost = refl } }

pub counted-here : (since batch slots dst : ℕ) → since ≤ batch → counted since dst batch slots dst ≡ slots
counted-here since batch slots dst from = rw (eq-eqb dst dst refl, le-leb since batch from) refl

pub counted-elsewhere : (since to batch slots dst : ℕ) → dst ≢ to → counted since to batch slots dst ≡ 0
counted-elsewhere since to batch slots dst other = rw (ne_eqb to dst (λ h. other (sym h))) refl

pub counted-before : (since to batch slots dst : ℕ) → batch < since → counted since to batch slots dst ≡ 0
counted-before since to batch slots dst before = ap (λ b. cond {A = ℕ} b slots 0) (and_right (eqb to dst) (nat_le since batch) (lt-leb since batch before))

abbrev pub allocated_lane : LaneState → List LaneLine → LaneState
allocated_lane was lines = record {
  endpoint = was.endpoint;
  endpoints = was.endpoints;
  b = was.b;
  g = was.g;
  epoch = was.epoch;
  version = was.version;
  last_reset = was.last_reset;
  arrived = was.arrived;
  sent = was.sent;
  lines = lines;
  round = was.round;
  is_made = was.is_made;
  is_reset = was.is_reset;
}

abbrev pub Allocates : LaneState → ℕ → ℕ → ℕ → ℕ → LaneLine → LaneLine → Type 0
Allocates was to batch slots dst = AllocatesSlots (counted was.last_reset to batch slots dst)

flow-allocated : (g since to batch slots : ℕ) (history : LaneHistory) (allocations : List Allocation) (dst : ℕ) (old new : LaneLine) → since ≡ last_reset history →
    AllocatesSlots (counted since to batch slots dst) old new → StandsForFlow g history allocations dst old →
    StandsForFlow g history (record { dst = to; batch = batch; slots = slots } ∷ allocations) dst new
flow-allocated g since to batch slots history allocations dst old new is allocates flow =
    let both = sum_by-cons (λ (a : Allocation). cond {A = ℕ} (eqb a.dst dst && nat_le (last_reset history) a.batch) a.slots 0) (record { dst = to; batch = batch; slots = slots }) allocations in
    let now = ap (λ s. counted s to batch slots dst) is in
    record {
      demanded = allocates.count.demanded ∙ flow.demanded;
      allocated = omega (arith, allocates.count.allocated, flow.allocated, both, now);
      acknowledged = allocates.count.acknowledged ∙ flow.acknowledged;
      lost = allocates.count.lost ∙ flow.lost;
      entered = allocates.entered ∙ flow.entered;
      opened = allocates.opened ∙ flow.opened;
    }

pub stands-allocated : (was : LaneState) (lines : List LaneLine) (to batch slots : ℕ) (history : LaneHistory) (allocations : List Allocation) → batch < was.round →
    Become (Allocates was to batch slots) was.lines lines → LaneStandsFor was history allocations →
    LaneStandsFor (allocated_lane was lines) history (record { dst = to; batch = batch; slots = slots } ∷ allocations)
stands-allocated was lines to batch slots history allocations past become stands = record {
  epoch = stands.epoch;
  version = stands.version;
  last_reset = stands.last_reset;
  arrived = stands.arrived;
  sent = stands.sent;
  sent_version = stands.sent_version;
  flows = each_line (Allocates was to batch slots) (StandsForFlow was.g history allocations) (StandsForFlow was.g history (record { dst = to; batch = batch; slots = slots } ∷ allocations)) was.lines lines become stands.flows
      (λ dst old new. flow-allocated was.g was.last_reset to batch slots history allocations dst old new stands.last_reset);
  round = stands.round;
  is_reset = stands.is_reset;
  recorded = All-cons (λ (a : Allocation). a.batch < was.round) (record { dst = to; batch = batch; slots = slots }) allocations past stands.recorded;
}

sound-flow : (was : LaneState) (lines : List LaneLine) (n dst : ℕ) (old new : LaneLine) → AllocatesSlots n old new → IsFlow was dst old → IsFlow (allocated_lane was lines) dst new
sound-flow was lines n dst old new allocates flow =
    let demanded = allocates.count.demanded in
    let allocated = allocates.count.allocated in
    let acknowledged = allocates.count.acknowledged in
    let lost = allocates.count.lost in
    let entered = allocates.entered in
    record {
      demanded = omega (arith, demanded, flow.demanded);
      told = omega (arith, acknowledged, lost, flow.told);
      entered = omega (arith, entered, demanded, lost, flow.entered);
      open_slots = omega (arith, allocated, acknowledged, lost, flow.open_slots);
      own = λ is. let none = flow.own is in (omega (arith, demanded, lost, none.0), allocates.opened ∙ none.1);
    }

pub sound-allocated : (was : LaneState) (lines : List LaneLine) (to batch slots : ℕ) → Become (Allocates was to batch slots) was.lines lines → IsSoundLane was → IsSoundLane (allocated_lane was lines)
sound-allocated was lines to batch slots become sound = record {
  endpoint = sound.endpoint;
  endpoints = sound.endpoints;
  b = sound.b;
  as_many = become.as_many ∙ sound.as_many;
  rounds = sound.rounds;
  within = sound.within;
  version = sound.version;
  heard_version = sound.heard_version;
  sent_version = sound.sent_version;
  numbers = sound.numbers;
  flows = each_line (Allocates was to batch slots) (IsFlow was) (IsFlow (allocated_lane was lines)) was.lines lines become sound.flows
      (λ dst old new. sound-flow was lines (counted was.last_reset to batch slots dst) dst old new);
}

-- the line of the destination alone changes
pub allocates_at : (was : LaneState) (to batch slots : ℕ) (old new : LaneLine) → was.last_reset ≤ batch → slice_get was.lines to ≡ Some old → AllocatesSlots slots old new → Become (Allocates was to batch slots) was.lines (set was.lines to new)
allocates_at was to batch slots old new from here changes =
    Become-set (Allocates was to batch slots) was.lines to old new here
    (subst (λ n. AllocatesSlots n old new) (sym (counted-here was.last_reset batch slots to from)) changes)
    (λ dst line other. AllocatesSlots-none line (counted was.last_reset to batch slots dst) (counted-elsewhere was.last_reset to batch slots dst other))

-- or none, where the batch is passed over
pub allocates_none : (was : LaneState) (to batch slots : ℕ) → batch < was.last_reset → Become (Allocates was to batch slots) was.lines was.lines
allocates_none was to batch slots before =
    Become-none (Allocates was to batch slots) was.lines (λ dst line. AllocatesSlots-none line (counted was.last_reset to batch slots dst) (counted-before was.last_reset to batch slots dst before))

-- what is pending fits
pub room_left : (lane : LaneState) (dst n : ℕ) (line : LaneLine) → IsSoundLane lane → slice_get lane.lines dst ≡ Some line → n ≤ pending line.count → line.count.allocated + n < 4294967296
room_left lane dst n line sound here few =
    let flow = sound.flows dst line here in
    let demanded = flow.demanded in
    let told = flow.told in
    let within = sound.within in
    let on_demand = line.count.allocated_on_demand in
    omega (arith, few, demanded, told, within, on_demand)
