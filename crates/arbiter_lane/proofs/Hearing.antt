-- What a lane stands for once a request of its connection has arrived.
use Rattle.std.proofs.Common.{◌≡◌, ◌≢◌, ℕ, ◌+◌, ◌≤◌, Bool, true, false, cond, max, List, [], ◌∷◌, All, get_or, ap, ◌∙◌, sym, subst, refl, inl, inr, arith}
use Rattle.std.specs.Prelude.{sum_by, ◌==◌}
use Rattle.std.proofs.lemmas.Bool.{eq-eqb, cases_Bool, and_from}
use Rattle.std.proofs.lemmas.List.Elements.{All-head, All-tail}
use Rattle.std.proofs.lemmas.List.Sums.{sum_by-cons}
use Rattle.ack_window.specs.declared.send_window.Unresolved.{Unresolved}
use Rattle.ack_window.specs.Arrivals.{receive_verdict, is_fresh}
use Rattle.ack_window.specs.Ends.{Numbered}
use Rattle.ack_window.specs.Sends.{Reads, decided_by}
use Rattle.ack_window.specs.Versions.{reorder_of, span_of}
use Rattle.ack_window.specs.Windows.{Receiver, Sender, HasHeard, HasDone}
use Rattle.fcp_framing.specs.declared.packet.Demand.{Demand}
use Rattle.fcp_framing.specs.declared.packet.Told.{Told}
use Rattle.endpoint_history.specs.Confirmed.{total_named}
use Rattle.endpoint_history.specs.Packets.{Telling, Requests, slots_to}
use Rattle.endpoint_history.specs.Lane.{LaneHistory, TakesUp, epoch_of, version_of, is_current, arrived, takes, numbers}
use Rattle.endpoint_history.specs.Counts.{Allocation, recorded, told}
use Rattle.endpoint_history.specs.CountLaws.{ReadingDecides, CountsAddUp}
use Rattle.endpoint_history.proofs.Named.{slots_to-own, total_named-own, total_named-most}
use Rattle.arbiter_lane.specs.declared.line.LaneLine.{LaneLine}
use Rattle.arbiter_lane.specs.State.{LaneState, IsFlow, IsSoundLane, AreSlots, unresolved_to}
use Rattle.arbiter_lane.specs.Standing.{StandsForFlow, LaneStandsFor, TellsSlots}
use Rattle.arbiter_lane.specs.Lines.{Become, DecidesSlots, RisesTo, Hears, slots_shown, slots_lost}
use Rattle.arbiter_lane.proofs.Changes.{line_between, Become-then, Become-none}
use Rattle.arbiter_lane.proofs.Held.{each_line, open_to-is, open-told}

abbrev pub heard_lane : LaneState → Receiver → Sender Telling → List LaneLine → LaneState
heard_lane was arrived sent lines = record {
  endpoint = was.endpoint;
  endpoints = was.endpoints;
  b = was.b;
  g = was.g;
  epoch = was.epoch;
  version = was.version;
  last_reset = was.last_reset;
  arrived = arrived;
  sent = sent;
  lines = lines;
  round = was.round;
  is_made = was.is_made;
  is_reset = was.is_reset;
}

-- ---- a request

is_current-from : (history : LaneHistory) (packet : Numbered (List Demand)) → packet.epoch ≡ epoch_of history → packet.version ≡ version_of history → is_current history packet ≡ true
unfolding is_current
is_current-from history packet epoch version = and_from (packet.epoch == epoch_of history) (packet.version == version_of history) (eq-eqb packet.epoch (epoch_of history) epoch) (eq-eqb packet.version (version_of history) version)

-- a request that is current is taken where its number is fresh
takes-fresh : (history : LaneHistory) (packet : Numbered (List Demand)) → is_current history packet ≡ true →
    takes history packet ≡ is_fresh (receive_verdict (reorder_of (version_of history)) (arrived history) packet.seq)
unfolding takes
takes-fresh history packet current = rw current refl

-- ---- totals

-- ---- no slot is to the endpoint itself

pub told-own : (endpoints b endpoint : ℕ) (told : List Told) → AreSlots endpoints b endpoint told → slots_to endpoint told ≡ 0
told-own endpoints b endpoint told slots = slots_to-own endpoint told slots.others

pub open-own : (endpoints b endpoint : ℕ) (sent : List (Unresolved Telling)) → All (λ (number : Unresolved Telling). AreSlots endpoints b endpoint number.content.told) sent →
    sum_by (λ (number : Unresolved Telling). slots_to endpoint number.content.told) sent ≡ 0
open-own endpoints b endpoint [] slots = refl
open-own endpoints b endpoint (number ∷ sent) slots =
    let both = sum_by-cons (λ (number : Unresolved Telling). slots_to endpoint number.content.told) number sent in
    let here = told-own endpoints b endpoint number.content.told (All-head (λ (number : Unresolved Telling). AreSlots endpoints b endpoint number.content.told) number sent slots) in
    let rest = open-own endpoints b endpoint sent (All-tail (λ (number : Unresolved Telling). AreSlots endpoints b endpoint number.content.told) number sent slots) in
    omega (arith, both, here, rest)

-- ---- what it makes of a line

Hears-from : (shown lost total : ℕ) (x y z : LaneLine) → DecidesSlots shown lost x y → RisesTo total y z → Hears shown lost total x z
Hears-from shown lost total x y z decides rises = record {
  opened = rises.opened ∙ decides.opened;
  entered = rises.entered ∙ decides.entered;
  count = record {
    demanded = rises.count.demanded ∙ ap (λ d. max d total) decides.count.demanded;
    allocated = rises.count.allocated ∙ decides.count.allocated;
    acknowledged = rises.count.acknowledged ∙ decides.count.acknowledged;
    lost = rises.count.lost ∙ decides.count.lost;
  };
}

Hears-lines : (shown lost total : ℕ → ℕ) (was between lines : List LaneLine) → Become (λ dst. DecidesSlots (shown dst) (lost dst)) was between → Become (λ dst. RisesTo (total dst)) between lines →
    Become (λ dst. Hears (shown dst) (lost dst) (total dst)) was lines
Hears-lines shown lost total was between lines decides rises =
    Become-then (λ dst. DecidesSlots (shown dst) (lost dst)) (λ dst. RisesTo (total dst)) (λ dst. Hears (shown dst) (lost dst) (total dst)) was between lines decides rises
    (λ dst x y z one two. Hears-from (shown dst) (lost dst) (total dst) x y z one two)

-- a fresh number raises what it names
pub Hears-fresh : (shown lost total : ℕ → ℕ) (fresh : Bool) (was between lines : List LaneLine) → fresh ≡ true → Become (λ dst. DecidesSlots (shown dst) (lost dst)) was between → Become (λ dst. RisesTo (total dst)) between lines →
    Become (λ dst. Hears (shown dst) (lost dst) (cond fresh (total dst) 0)) was lines
Hears-fresh shown lost total fresh was between lines is decides rises =
    subst (λ (b : Bool). Become (λ dst. Hears (shown dst) (lost dst) (cond b (total dst) 0)) was lines) (sym is) (Hears-lines shown lost total was between lines decides rises)

-- and one that is not raises nothing
pub Hears-stale : (shown lost total : ℕ → ℕ) (fresh : Bool) (was lines : List LaneLine) → fresh ≡ false → Become (λ dst. DecidesSlots (shown dst) (lost dst)) was lines →
    Become (λ dst. Hears (shown dst) (lost dst) (cond fresh (total dst) 0)) was lines
Hears-stale shown lost total fresh was lines is decides =
    subst (λ (b : Bool). Become (λ dst. Hears (shown dst) (lost dst) (cond b (total dst) 0)) was lines) (sym is)
    (Hears-lines shown lost (λ dst. 0) was lines lines decides (Become-none (λ dst. RisesTo 0) lines (λ dst line. RisesTo-none line)))
  where
    RisesTo-none : (line : LaneLine) → RisesTo 0 line line
    RisesTo-none line = record { opened = refl; entered = refl; count = record { demanded = omega arith; allocated = refl; acknowledged = refl; lost = refl } }

-- whether a number that arrives is fresh to a lane
abbrev pub is_new : LaneState → LaneHistory → ℕ → Bool
is_new lane history seq = is_fresh (receive_verdict (reorder_of lane.arrived.version) (arrived history) seq)

-- what a request of the connection makes of the line of a destination
abbrev pub HearsRequest : LaneState → LaneHistory → Numbered (List Demand) → ℕ → LaneLine → LaneLine → Type 0
HearsRequest was history packet dst =
    Hears (slots_shown (decided_by (reorder_of was.sent.version) (span_of was.sent.version) (numbers was.g history) packet.ack) dst)
    (slots_lost (decided_by (reorder_of was.sent.version) (span_of was.sent.version) (numbers was.g history) packet.ack) dst)
    (cond (is_new was history packet.seq) (total_named dst packet.content) 0)

-- ---- what it stands for

max-taken : (taken : Bool) (before named : ℕ) → max before (cond taken named 0) ≡ cond taken (max named before) before
max-taken true before named = omega arith
max-taken false before named = omega arith

flow-heard : (laws : ReadingDecides) (g version round : ℕ) (packet : Numbered (List Demand)) (history : LaneHistory) (allocations : List Allocation) (dst total : ℕ) (old new : LaneLine) →
    is_current history packet ≡ true → version ≡ version_of history → total ≡ cond (takes history packet) (total_named dst packet.content) 0 →
    Hears (slots_shown (decided_by (reorder_of version) (span_of version) (numbers g history) packet.ack) dst) (slots_lost (decided_by (reorder_of version) (span_of version) (numbers g history) packet.ack) dst) total old new →
    StandsForFlow g history allocations dst old → StandsForFlow g (TakesUp round (Requests packet) ∷ history) allocations dst new
flow-heard laws g version round packet history allocations dst total old new current same named hears flow =
    let shows = laws.shows g round packet history dst current in
    let finds = laws.finds g round packet history dst current in
    let shown = ap (λ v. slots_shown (decided_by (reorder_of v) (span_of v) (numbers g history) packet.ack) dst) same in
    let lost = ap (λ v. slots_lost (decided_by (reorder_of v) (span_of v) (numbers g history) packet.ack) dst) same in
    record {
      demanded = hears.count.demanded
          ∙ (ap (λ d. max d total) flow.demanded
          ∙ (ap (λ t. max (recorded history dst) t) named
          ∙ max-taken (takes history packet) (recorded history dst) (total_named dst packet.content)));
      allocated = hears.count.allocated ∙ flow.allocated;
      acknowledged = omega (arith, hears.count.acknowledged, flow.acknowledged, shows, shown);
      lost = omega (arith, hears.count.lost, flow.lost, finds, lost);
      entered = hears.entered ∙ flow.entered;
      opened = hears.opened ∙ flow.opened;
    }

-- what is known once a request of the connection has arrived
pub record HasHeardRequest (was : LaneState) (packet : Numbered (List Demand)) (arrived_now : Receiver) (sent : Sender Telling) (lines : List LaneLine) (history : LaneHistory) : Type 0 where
  pub epoch : packet.epoch ≡ was.epoch
  pub version : packet.version ≡ was.version
  pub heard_version : was.arrived.version ≡ was.version
  pub sent_version : was.sent.version ≡ was.version
  pub arrived_version : arrived_now.version ≡ was.arrived.version
  pub now_version : sent.version ≡ was.sent.version
  pub heard : HasHeard arrived_now (packet.seq ∷ arrived history)
  pub done : HasDone sent (Reads packet.ack ∷ numbers was.g history)
  pub change : Become (HearsRequest was history packet) was.lines lines

pub stands-heard : (laws : ReadingDecides) (was : LaneState) (round : ℕ) (packet : Numbered (List Demand)) (arrived_now : Receiver) (sent : Sender Telling) (lines : List LaneLine) (history : LaneHistory) (allocations : List Allocation) →
    HasHeardRequest was packet arrived_now sent lines history → LaneStandsFor was history allocations → LaneStandsFor (heard_lane was arrived_now sent lines) (TakesUp round (Requests packet) ∷ history) allocations
stands-heard laws was round packet arrived_now sent lines history allocations hears stands =
    let current = is_current-from history packet (hears.epoch ∙ stands.epoch) (hears.version ∙ stands.version) in
    let taken : takes history packet ≡ is_new was history packet.seq =
    takes-fresh history packet current ∙ ap (λ v. is_fresh (receive_verdict (reorder_of v) (arrived history) packet.seq)) (sym (hears.heard_version ∙ stands.version)) in
    record {
      epoch = stands.epoch;
      version = stands.version;
      last_reset = stands.last_reset;
      arrived = rw current hears.heard;
      sent = rw current hears.done;
      sent_version = hears.now_version ∙ stands.sent_version;
      flows = each_line (HearsRequest was history packet) (StandsForFlow was.g history allocations) (StandsForFlow was.g (TakesUp round (Requests packet) ∷ history) allocations) was.lines lines hears.change stands.flows
          (λ dst old new. flow-heard laws was.g was.sent.version round packet history allocations dst (cond (is_new was history packet.seq) (total_named dst packet.content) 0) old new current (hears.sent_version ∙ stands.version)
          (ap (λ b. cond b (total_named dst packet.content) 0) (sym taken)));
      round = stands.round;
      is_reset = stands.is_reset;
      recorded = stands.recorded;
    }

-- nothing more is told
pub tells-heard : (was : LaneState) (round : ℕ) (packet : Numbered (List Demand)) (arrived_now : Receiver) (sent : Sender Telling) (lines : List LaneLine) (history : LaneHistory) →
    TellsSlots was history → TellsSlots (heard_lane was arrived_now sent lines) (TakesUp round (Requests packet) ∷ history)
tells-heard was round packet arrived_now sent lines history tells =
    elim (cases_Bool (is_current history packet)) [
      | inl current ↦ rw current tells
      | inr other ↦ rw other tells
    ]

-- ---- it stays sound

-- what is known of what a request names
pub record NamesOthers (was : LaneState) (demands : List Demand) : Type 0 where
  pub others : All (λ (demand : Demand). demand.dst ≢ was.endpoint) demands
  pub totals : All (λ (demand : Demand). demand.total ≤ 200000000) demands

at-most : (fresh : Bool) (total most : ℕ) → total ≤ most → cond fresh total 0 ≤ most
at-most true total most h = h
at-most false total most h = omega arith

none-named : (fresh : Bool) (total : ℕ) → total ≡ 0 → cond fresh total 0 ≡ 0
none-named true total h = h
none-named false total h = refl

-- what is open, acknowledged and lost is as much as before
told-again : (laws : ReadingDecides) (sums : CountsAddUp) (was now : LaneState) (round : ℕ) (packet : Numbered (List Demand)) (history : LaneHistory) (allocations : List Allocation) (dst : ℕ) (old new : LaneLine) →
    was.g ≡ now.g → was.sent.version ≡ was.version → now.sent.version ≡ was.version → LaneStandsFor was history allocations → LaneStandsFor now (TakesUp round (Requests packet) ∷ history) allocations →
    StandsForFlow was.g history allocations dst old → StandsForFlow now.g (TakesUp round (Requests packet) ∷ history) allocations dst new →
    new.count.acknowledged + new.count.lost + unresolved_to dst now.sent ≡ old.count.acknowledged + old.count.lost + unresolved_to dst was.sent
told-again laws sums was now round packet history allocations dst old new windows was_version now_version stood stands before after =
    let three = sums.three was.g history dst in
    let three_now = sums.three now.g (TakesUp round (Requests packet) ∷ history) dst in
    let tells = laws.tells_none now.g round packet history dst in
    let same = ap (λ g. told g history dst) windows in
    let open_was = open_to-is was.g was.sent history dst (was_version ∙ stood.version) stood.sent in
    let open_now = open_to-is now.g now.sent (TakesUp round (Requests packet) ∷ history) dst (now_version ∙ stood.version) stands.sent in
    let one = before.acknowledged in
    let two = before.lost in
    let one_now = after.acknowledged in
    let two_now = after.lost in
    omega (arith, three, three_now, tells, same, open_was, open_now, one, two, one_now, two_now)

flow-sound : (was : LaneState) (arrived_now : Receiver) (sent : Sender Telling) (lines : List LaneLine) (shown lost total dst : ℕ) (old new : LaneLine) → (dst ≡ was.endpoint → unresolved_to dst was.sent ≡ 0) →
    total ≤ 200000000 → (dst ≡ was.endpoint → total ≡ 0) → Hears shown lost total old new →
    new.count.acknowledged + new.count.lost + unresolved_to dst sent ≡ old.count.acknowledged + old.count.lost + unresolved_to dst was.sent → IsFlow was dst old → IsFlow (heard_lane was arrived_now sent lines) dst new
flow-sound was arrived_now sent lines shown lost total dst old new none_open most none_named hears three flow =
    let demanded = hears.count.demanded in
    let allocated = hears.count.allocated in
    let acknowledged = hears.count.acknowledged in
    let lost_now = hears.count.lost in
    let entered = hears.entered in
    let before = flow.demanded in
    let told_before = flow.told in
    let entered_before = flow.entered in
    let open_before = flow.open_slots in
    record {
      demanded = omega (arith, demanded, before, most);
      told = omega (arith, three, told_before);
      entered = omega (arith, entered, entered_before, demanded, lost_now);
      open_slots = omega (arith, three, open_before, allocated, acknowledged, lost_now);
      own = λ is.
          let none = flow.own is in
          let owed = none.0 in
          let named = none_named is in
          let opened = none_open is in
          (omega (arith, three, owed, named, opened, demanded, acknowledged, lost_now), hears.opened ∙ none.1);
    }

pub sound-heard : (laws : ReadingDecides) (sums : CountsAddUp) (was : LaneState) (round : ℕ) (packet : Numbered (List Demand)) (arrived_now : Receiver) (sent : Sender Telling) (lines : List LaneLine) (history : LaneHistory) (allocations : List Allocation) →
    HasHeardRequest was packet arrived_now sent lines history → NamesOthers was packet.content → sent.outstanding.newest ≡ was.sent.outstanding.newest →
    LaneStandsFor was history allocations → TellsSlots was history → IsSoundLane was → IsSoundLane (heard_lane was arrived_now sent lines)
sound-heard laws sums was round packet arrived_now sent lines history allocations hears names newest stands tells sound =
    let now : LaneState = heard_lane was arrived_now sent lines in
    let stands_now : LaneStandsFor now (TakesUp round (Requests packet) ∷ history) allocations = stands-heard laws was round packet arrived_now sent lines history allocations hears stands in
    let own_open = open-own was.endpoints was.b was.endpoint was.sent.outstanding.unresolved
    (open-told (λ (t : Telling). AreSlots was.endpoints was.b was.endpoint t.told) was.sent (numbers was.g history) stands.sent tells) in
    let fresh = is_new was history packet.seq in
    record {
      endpoint = sound.endpoint;
      endpoints = sound.endpoints;
      b = sound.b;
      as_many = hears.change.as_many ∙ sound.as_many;
      rounds = sound.rounds;
      within = sound.within;
      version = sound.version;
      heard_version = hears.arrived_version ∙ sound.heard_version;
      sent_version = hears.now_version ∙ sound.sent_version;
      numbers = omega (arith, newest, sound.numbers);
      flows = λ dst new here.
          let there = line_between lines was.lines (sym hears.change.as_many) dst new here in
          let old = get_or was.lines dst new in
          flow-sound was arrived_now sent lines
          (slots_shown (decided_by (reorder_of was.sent.version) (span_of was.sent.version) (numbers was.g history) packet.ack) dst)
          (slots_lost (decided_by (reorder_of was.sent.version) (span_of was.sent.version) (numbers was.g history) packet.ack) dst)
          (cond fresh (total_named dst packet.content) 0) dst old new
          (λ is. ap (λ d. unresolved_to d was.sent) is ∙ own_open)
          (at-most fresh (total_named dst packet.content) 200000000 (total_named-most 200000000 dst packet.content names.totals))
          (λ is. none-named fresh (total_named dst packet.content) (ap (λ d. total_named d packet.content) is ∙ total_named-own was.endpoint packet.content names.others))
          (hears.change.each dst old new there here)
          (told-again laws sums was now round packet history allocations dst old new refl sound.sent_version (hears.now_version ∙ sound.sent_version) stands stands_now (stands.flows dst old there) (stands_now.flows dst new here))
          (sound.flows dst old there);
    }
