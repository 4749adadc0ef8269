-- What a lane's parts are of the calls for which it stands.
use Rattle.std.proofs.Common.{◌≡◌, ℕ, ◌+◌, ◌<◌, ◌≤◌, List, [], ◌∷◌, ◌++◌, All, Some, slice_get, get_or, length, ap, ◌∙◌, sym, subst, inl, inr, arith}
use Rattle.std.specs.Prelude.{Vec, sum_by, is_none, unwrap_or}
use Rattle.std.proofs.lemmas.List.Elements.{All-head, All-tail, All-filter, All-same}
use Rattle.std.proofs.lemmas.List.{with_items_is}
use Rattle.std.proofs.lemmas.Option.{slice_get_cases}
use Rattle.std.specs.Vec.{with_items}
use Rattle.ack_window.specs.declared.send_window.Unresolved.{Unresolved}
use Rattle.ack_window.specs.Sends.{Event, Sends, Reads, newest_of, newest_content, numbers_sent, decision_of, open_numbers}
use Rattle.ack_window.specs.Versions.{reorder_of, span_of}
use Rattle.ack_window.specs.Windows.{Sender, HasDone}
use Rattle.endpoint_history.specs.Packets.{Telling, slots_to}
use Rattle.endpoint_history.specs.Lane.{LaneHistory, version_of, numbers}
use Rattle.endpoint_history.specs.CountLaws.{CountsAddUp}
use Rattle.endpoint_history.specs.Counts.{Allocation}
use Rattle.endpoint_history.specs.Counts as counts
use Rattle.arbiter_lane.specs.declared.line.LaneLine.{LaneLine}
use Rattle.arbiter_lane.specs.Lines.{Become}
use Rattle.arbiter_lane.specs.Standing.{LaneStandsFor, FlowIsWithinLedger}
use Rattle.arbiter_lane.specs.State.{LaneState, IsSoundLane, unresolved_to}
use Rattle.arbiter_lane.proofs.Changes.{line_between}

-- ---- what is told under numbers

-- what is true of every number's content is true of those that are open
pub open-told : (P : Telling → Type 0) (sent : Sender Telling) (events : List (Event Telling)) → HasDone sent events → All (λ (s : Unresolved Telling). P s.content) (numbers_sent events) →
    All (λ (s : Unresolved Telling). P s.content) sent.outstanding.unresolved
open-told P sent events done all =
    let decision = decision_of (reorder_of sent.version) (span_of sent.version) events in
    All-same (λ (s : Unresolved Telling). P s.content) sent.outstanding.unresolved (open_numbers (reorder_of sent.version) (span_of sent.version) events) done.unresolved
    (All-filter (λ (s : Unresolved Telling). is_none (decision s.number)) (λ (s : Unresolved Telling). P s.content) (numbers_sent events) all)

-- and of the newest
pub newest-told : (P : Telling → Type 0) (events : List (Event Telling)) (content : Telling) → newest_content events ≡ Some content → All (λ (s : Unresolved Telling). P s.content) (numbers_sent events) → P content
newest-told P [] content is all = absurd cc
newest-told P (Sends telling ∷ events) content is all =
    let new : Unresolved Telling = record { number = newest_of events + 1; content = telling } in
    subst P (some_is is) (last (numbers_sent events) new all)
  where
    some_is : {x y : Telling} → Some x ≡ Some y → x ≡ y
    some_is {x = x} e = ap (λ o. unwrap_or o x) e

    last : (xs : List (Unresolved Telling)) (x : Unresolved Telling) → All (λ (s : Unresolved Telling). P s.content) (xs ++ x ∷ []) → P x.content
    last [] x all = All-head (λ (s : Unresolved Telling). P s.content) x [] all
    last (y ∷ xs) x all = last xs x (All-tail (λ (s : Unresolved Telling). P s.content) y (xs ++ x ∷ []) all)
newest-told P (Reads ack ∷ events) content is all = newest-told P events content is all

-- which is counted
pub newest-counted : (events : List (Event Telling)) (content : Telling) → newest_content events ≡ Some content → 1 ≤ newest_of events
newest-counted [] content is = absurd cc
newest-counted (Sends telling ∷ events) content is = omega arith
newest-counted (Reads ack ∷ events) content is = newest-counted events content is

-- the open slots of a sender are those of the lane that it stands for
pub open_to-is : (g : ℕ) (sent : Sender Telling) (history : LaneHistory) (dst : ℕ) → sent.version ≡ version_of history → HasDone sent (numbers g history) → unresolved_to dst sent ≡ counts.open_to g history dst
open_to-is g sent history dst version done =
    ap (sum_by (λ (s : Unresolved Telling). slots_to dst s.content.told)) (done.unresolved ∙ ap (λ v. open_numbers (reorder_of v) (span_of v) (numbers g history)) version)

-- what is told is allocated, and that is owed
pub told-is-owed : CountsAddUp → (lane : LaneState) → IsSoundLane lane → (history : LaneHistory) (allocations : List Allocation) (dst : ℕ) (line : LaneLine) → slice_get lane.lines dst ≡ Some line →
    LaneStandsFor lane history allocations → FlowIsWithinLedger lane.g history allocations dst
told-is-owed sums lane sound history allocations dst line here stands =
    let three = sums.three lane.g history dst in
    let open_slots = open_to-is lane.g lane.sent history dst stands.sent_version stands.sent in
    let in_flight = (sound.flows dst line here).open_slots in
    let flow = stands.flows dst line here in
    let demanded = flow.demanded in
    let allocated = flow.allocated in
    let acknowledged = flow.acknowledged in
    let lost = flow.lost in
    let once = line.count.decided_once in
    let on_demand = line.count.allocated_on_demand in
    record {
      counted = omega (arith, three, open_slots, in_flight, allocated, acknowledged, lost, once);
      owed = omega (arith, demanded, allocated, lost, on_demand);
    }

-- ---- lines

-- what holds of each line that was, and of what it becomes, holds of each line that is
pub each_line : (relation : ℕ → LaneLine → LaneLine → Type 0) (P Q : ℕ → LaneLine → Type 0) (before after : List LaneLine) → Become relation before after →
    ((dst : ℕ) (line : LaneLine) → slice_get before dst ≡ Some line → P dst line) →
    ((dst : ℕ) (old new : LaneLine) → relation dst old new → P dst old → Q dst new) →
    (dst : ℕ) (line : LaneLine) → slice_get after dst ≡ Some line → Q dst line
each_line relation P Q before after become held goes_on dst line here =
    let there = line_between after before (sym become.as_many) dst line here in
    let old = get_or before dst line in
    goes_on dst old line (become.each dst old line there here) (held dst old there)

-- each place below the length has a line
pub line_here : (lines : List LaneLine) (dst : ℕ) → dst < length lines → (line : LaneLine) × (slice_get lines dst ≡ Some line)
line_here lines dst within = elim (slice_get_cases lines dst).1 [
  | inl line ↦ (line.0, line.2)
  | inr past ↦ absurd (omega (arith, within, past.0))
]

-- so it is of each flow
pub each-told-is-owed : CountsAddUp → (lane : LaneState) → IsSoundLane lane → (history : LaneHistory) (allocations : List Allocation) → LaneStandsFor lane history allocations →
    (dst : ℕ) → dst < lane.endpoints → FlowIsWithinLedger lane.g history allocations dst
each-told-is-owed sums lane sound history allocations stands dst below =
    let as_many = sound.as_many in
    let here = line_here lane.lines dst (omega (arith, as_many, below)) in
    told-is-owed sums lane sound history allocations dst here.0 here.1 stands

-- what is written through the slice of all lines
pub Become-written : {Z : Type 0} (relation : ℕ → LaneLine → LaneLine → Type 0) (lines : Vec LaneLine Z) (old new : List LaneLine) → old ≡ lines.items → Become relation old new → Become relation lines.items (with_items lines new).items
Become-written relation lines old new is become =
    let same : (with_items lines new).items ≡ new = with_items_is lines new (become.as_many ∙ (ap length is ∙ sym lines.ok.0)) in
    subst (λ (xs : List LaneLine). Become relation lines.items xs) (sym same) (subst (λ (xs : List LaneLine). Become relation xs new) is become)
