-- What a lane stands for once the allocation of a round is made, and what the allocation says.
use Rattle.std.proofs.Common.{◌≡◌, ◌≢◌, ℕ, ◌+◌, ◌*◌, ◌-◌, ◌^◌, ◌<◌, ◌≤◌, Bool, true, false, ◌&&◌, cond, List, [], ◌∷◌, length, All, Option, Some, None, get_or, ap, ◌∙◌, sym, subst, refl, inl, inr, arith}
use Rattle.std.specs.Prelude.{nat_lt, nat_le, ◌==◌, unwrap_or, IfSome}
use Rattle.std.specs.Option.{option_map}
use Rattle.std.proofs.lemmas.Bool.{cases_Bool, cases_lt, lt-ltb, le-ltb, leb-true, and_parts}
use Rattle.std.proofs.lemmas.List.Elements.{All-nil, All-push}
use Rattle.std.proofs.lemmas.List.Sums.{count_by-le-length}
use Rattle.list_facts.proofs.Bools.{at_most_one}
use Rattle.ack_window.specs.declared.acknowledgement.Acknowledgement.{Acknowledgement}
use Rattle.ack_window.specs.declared.send_window.Unresolved.{Unresolved}
use Rattle.ack_window.specs.Arrivals.{acknowledgement, highest, mask_of}
use Rattle.ack_window.specs.Outstanding.{may_send_new}
use Rattle.ack_window.specs.Sends.{Event, Sends, newest_of, newest_content, numbers_sent, open_numbers}
use Rattle.ack_window.specs.Versions.{reorder_of, span_of}
use Rattle.ack_window.specs.Windows.{Sender, HasDone}
use Rattle.fcp_framing.specs.declared.packet.Told.{Told}
use Rattle.fcp_framing.specs.declared.packet.Down.{Down}
use Rattle.fcp_framing.specs.Spelling.{IsAllocation, IsMask, IsCore, down_bytes}
use Rattle.fcp_framing.specs.Versions.{mask_bits}
use Rattle.flow_ledger.specs.FlowCount.{in_flight}
use Rattle.endpoint_history.specs.Packets.{Telling, DownPacket, slots_to, framed_down}
use Rattle.endpoint_history.specs.Lane.{LaneHistory, MakesDown, epoch_of, version_of, last_reset, arrived, telling_in, may_send, numbers, packet_down}
use Rattle.endpoint_history.specs.Counts.{Allocation, told, lost}
use Rattle.endpoint_history.specs.CountLaws.{MakingTells, CountsAddUp}
use Rattle.arbiter_lane.specs.declared.line.LaneLine.{LaneLine}
use Rattle.arbiter_lane.specs.State.{LaneState, IsFlow, IsSoundLane, AreSlots, AreAllocated, AreInFlight, unresolved_to}
use Rattle.arbiter_lane.specs.Standing.{StandsForFlow, LaneStandsFor, TellsSlots}
use Rattle.arbiter_lane.specs.Lines.{Become, LosesSlots}
use Rattle.arbiter_lane.specs.Parts.{packet_with, slots_to_tell, may_tell, events_after, lost_by}
use Rattle.arbiter_lane.proofs.Changes.{line_between}
use Rattle.arbiter_lane.proofs.Held.{each_line, open_to-is, open-told, newest-told, newest-counted}
use Rattle.arbiter_lane.proofs.Hearing.{told-own, open-own}

abbrev pub made_lane : LaneState → Sender Telling → List LaneLine → LaneState
made_lane was sent lines = record {
  endpoint = was.endpoint;
  endpoints = was.endpoints;
  b = was.b;
  g = was.g;
  epoch = was.epoch;
  version = was.version;
  last_reset = was.last_reset;
  arrived = was.arrived;
  sent = sent;
  lines = lines;
  round = was.round;
  is_made = true;
  is_reset = was.is_reset;
}

-- ---- the slots that are told

abbrev pub telling_of : LaneState → ℕ → List Told → Telling
telling_of lane round slots = record { batch = round - 2 * lane.g; told = slots_to_tell lane round slots }

abbrev pub telling_with : ℕ → List Told → Telling
telling_with batch slots = record { batch = batch; told = slots }

telling-is : (lane : LaneState) (history : LaneHistory) (round : ℕ) (slots : List Told) → lane.last_reset ≡ last_reset history → telling_of lane round slots ≡ telling_in lane.g history round slots
telling-is lane history round slots is =
    ap (λ (r : ℕ). telling_with (round - 2 * lane.g) (cond (nat_le (2 * lane.g) round && nat_le r (round - 2 * lane.g)) slots [])) is

-- they are the round's slots or none
pub told-either : (lane : LaneState) (round : ℕ) (slots : List Told) (P : List Told → Type 0) → P slots → P [] → P (slots_to_tell lane round slots)
told-either lane round slots P all nothing =
    elim (nat_le (2 * lane.g) round && nat_le lane.last_reset (round - 2 * lane.g)) as (λ b. P (cond b slots [])) [
      | true ↦ all
      | false ↦ nothing
    ]

pub AreSlots-none : (endpoints b endpoint : ℕ) → AreSlots endpoints b endpoint []
AreSlots-none endpoints b endpoint = record {
  rising = λ k h. absurd (omega (arith, h));
  offsets = All-nil (λ (slot : Told). slot.offset < b);
  cores = All-nil (λ (slot : Told). IsCore slot.core);
  destinations = All-nil (λ (slot : Told). slot.dst < endpoints);
  others = All-nil (λ (slot : Told). slot.dst ≢ endpoint);
}

-- what is told and what is open is in flight
pub room-for : (lane : LaneState) (round : ℕ) (slots : List Told) → IsSoundLane lane → AreAllocated lane round slots → 0 < lane.epoch →
    AreInFlight (λ dst. slots_to dst (slots_to_tell lane round slots) + unresolved_to dst lane.sent) lane.lines
room-for lane round slots sound allocated begun dst line here =
    let test = nat_le (2 * lane.g) round && nat_le lane.last_reset (round - 2 * lane.g) in
    let open_slots = (sound.flows dst line here).open_slots in
    elim (cases_Bool test) [
      | inl both ↦
          let same = ap (λ b. slots_to dst (cond b slots [])) both in
          elim (cases_lt 0 (slots_to dst slots)) [
            | inl some ↦
                let parts = and_parts (nat_le (2 * lane.g) round) (nat_le lane.last_reset (round - 2 * lane.g)) both in
                let room = allocated begun (leb-true (2 * lane.g) round parts.0) (leb-true lane.last_reset (round - 2 * lane.g) parts.1) dst line here some in
                omega (arith, room, same)
            | inr none ↦ omega (arith, open_slots, same, none)
          ]
      | inr out ↦
          let same = ap (λ b. slots_to dst (cond b slots [])) out in
          omega (arith, open_slots, same)
    ]

-- ---- the numbers

may-is : (lane : LaneState) (history : LaneHistory) → lane.sent.version ≡ version_of history → HasDone lane.sent (numbers lane.g history) → may_send history (numbers lane.g history) ≡ may_tell lane.sent
unfolding may_send
may-is lane history version done =
    let events = numbers lane.g history in
    ap (λ v. may_send_new (span_of v) (newest_of events) (open_numbers (reorder_of v) (span_of v) events)) (sym version)
    ∙ (ap (λ n. may_send_new (span_of lane.sent.version) n (open_numbers (reorder_of lane.sent.version) (span_of lane.sent.version) events)) (sym done.newest)
    ∙ ap (λ u. may_send_new (span_of lane.sent.version) lane.sent.outstanding.newest u) (sym done.unresolved))

pub numbers-made : (lane : LaneState) (history : LaneHistory) (allocations : List Allocation) (round : ℕ) (slots : List Told) → lane.sent.version ≡ lane.version → LaneStandsFor lane history allocations → 0 < lane.epoch →
    numbers lane.g (MakesDown round slots ∷ history) ≡ events_after lane.sent (telling_of lane round slots) (numbers lane.g history)
numbers-made lane history allocations round slots version stands begun =
    let events = numbers lane.g history in
    let above : 0 < epoch_of history = omega (arith, begun, stands.epoch) in
    ap (λ b. cond (b && may_send history events) (Sends (telling_in lane.g history round slots) ∷ events) events) (lt-ltb 0 (epoch_of history) above)
    ∙ (ap (λ b. cond b (Sends (telling_in lane.g history round slots) ∷ events) events) (may-is lane history (version ∙ stands.version) stands.sent)
    ∙ ap (λ (t : Telling). cond (may_tell lane.sent) (Sends t ∷ events) events) (sym (telling-is lane history round slots stands.last_reset)))

-- what is known once the slots of a round are told
pub record HasTold (was : LaneState) (round : ℕ) (slots : List Told) (sent : Sender Telling) (lines : List LaneLine) (content : Telling) : Type 0 where
  pub few : length (slots_to_tell was round slots) ≤ 64
  pub done : (events : List (Event Telling)) → HasDone was.sent events → HasDone sent (events_after was.sent (telling_of was round slots) events)
  pub says : (events : List (Event Telling)) → HasDone was.sent events → newest_content (events_after was.sent (telling_of was round slots) events) ≡ Some content
  pub version : sent.version ≡ was.sent.version
  pub newest : sent.outstanding.newest ≤ was.sent.outstanding.newest + 1
  pub change : Become (λ dst. LosesSlots (lost_by was.sent (slots_to_tell was round slots) dst)) was.lines lines

pub told-from : (was : LaneState) (round : ℕ) (slots : List Told) (batch : ℕ) (now : List Told) (sent : Sender Telling) (lines : List LaneLine) (content : Telling) → batch ≡ round - 2 * was.g → now ≡ slots_to_tell was round slots → length now ≤ 64 →
    ((events : List (Event Telling)) → HasDone was.sent events → HasDone sent (events_after was.sent (telling_with batch now) events)) →
    ((events : List (Event Telling)) → HasDone was.sent events → newest_content (events_after was.sent (telling_with batch now) events) ≡ Some content) →
    sent.version ≡ was.sent.version → sent.outstanding.newest ≡ was.sent.outstanding.newest + cond (may_tell was.sent) 1 0 → Become (λ dst. LosesSlots (lost_by was.sent now dst)) was.lines lines →
    HasTold was round slots sent lines content
told-from was round slots batch now sent lines content is_batch is_now few done says version newest change =
    let telling : telling_with batch now ≡ telling_of was round slots = ap (λ b. telling_with b now) is_batch ∙ ap (λ xs. telling_with (round - 2 * was.g) xs) is_now in
    let one = at_most_one (may_tell was.sent) in
    record {
      few = subst (λ (xs : List Told). length xs ≤ 64) is_now few;
      done = λ events before. subst (λ (t : Telling). HasDone sent (events_after was.sent t events)) telling (done events before);
      says = λ events before. subst (λ (t : Telling). newest_content (events_after was.sent t events) ≡ Some content) telling (says events before);
      version = version;
      newest = omega (arith, newest, one);
      change = subst (λ (xs : List Told). Become (λ dst. LosesSlots (lost_by was.sent xs dst)) was.lines lines) is_now change;
    }

-- ---- what it stands for

lost-made : (laws : MakingTells) (lane : LaneState) (history : LaneHistory) (allocations : List Allocation) (round : ℕ) (slots : List Told) (dst : ℕ) → lane.sent.version ≡ lane.version → LaneStandsFor lane history allocations → 0 < lane.epoch →
    lost lane.g (MakesDown round slots ∷ history) dst ≡ lost lane.g history dst + lost_by lane.sent (slots_to_tell lane round slots) dst
lost-made laws lane history allocations round slots dst version stands begun =
    let above : 0 < epoch_of history = omega (arith, begun, stands.epoch) in
    let may = may-is lane history (version ∙ stands.version) stands.sent in
    let n = slots_to dst (slots_to_tell lane round slots) in
    let same : slots_to dst (telling_in lane.g history round slots).told ≡ n = ap (λ (t : Telling). slots_to dst t.told) (sym (telling-is lane history round slots stands.last_reset)) in
    elim (cases_Bool (may_tell lane.sent)) [
      | inl new ↦
          let none = ap (λ b. cond {A = ℕ} b 0 n) new in
          let law = laws.loses_none lane.g round slots history dst above (may ∙ new) in
          omega (arith, none, law)
      | inr stopped ↦
          let all = ap (λ b. cond {A = ℕ} b 0 n) stopped in
          let law = laws.loses_all lane.g round slots history dst above (may ∙ stopped) in
          omega (arith, all, law, same)
    ]

flow-made : (laws : MakingTells) (g round n : ℕ) (slots : List Told) (history : LaneHistory) (allocations : List Allocation) (dst : ℕ) (old new : LaneLine) →
    lost g (MakesDown round slots ∷ history) dst ≡ lost g history dst + n → LosesSlots n old new → StandsForFlow g history allocations dst old → StandsForFlow g (MakesDown round slots ∷ history) allocations dst new
flow-made laws g round n slots history allocations dst old new law loses flow = record {
  demanded = loses.count.demanded ∙ flow.demanded;
  allocated = loses.count.allocated ∙ flow.allocated;
  acknowledged = loses.count.acknowledged ∙ (flow.acknowledged ∙ sym (laws.decides_none g round slots history dst));
  lost = let counted = loses.count.lost in let before = flow.lost in omega (arith, counted, before, law);
  entered = loses.entered ∙ flow.entered;
  opened = loses.opened ∙ flow.opened;
}

pub stands-made : (laws : MakingTells) (was : LaneState) (round : ℕ) (slots : List Told) (sent : Sender Telling) (lines : List LaneLine) (history : LaneHistory) (allocations : List Allocation) →
    was.sent.version ≡ was.version → sent.version ≡ was.sent.version → 0 < was.epoch → HasDone sent (events_after was.sent (telling_of was round slots) (numbers was.g history)) →
    Become (λ dst. LosesSlots (lost_by was.sent (slots_to_tell was round slots) dst)) was.lines lines → LaneStandsFor was history allocations →
    LaneStandsFor (made_lane was sent lines) (MakesDown round slots ∷ history) allocations
stands-made laws was round slots sent lines history allocations version same begun done become stands = record {
  epoch = stands.epoch;
  version = stands.version;
  last_reset = stands.last_reset;
  arrived = stands.arrived;
  sent = subst (HasDone sent) (sym (numbers-made was history allocations round slots version stands begun)) done;
  sent_version = same ∙ stands.sent_version;
  flows = each_line (λ dst. LosesSlots (lost_by was.sent (slots_to_tell was round slots) dst)) (StandsForFlow was.g history allocations) (StandsForFlow was.g (MakesDown round slots ∷ history) allocations) was.lines lines become stands.flows
      (λ dst old new. flow-made laws was.g round (lost_by was.sent (slots_to_tell was round slots) dst) slots history allocations dst old new (lost-made laws was history allocations round slots dst version stands begun));
  round = stands.round;
  is_reset = stands.is_reset;
  recorded = stands.recorded;
}

-- every number's slots are an endpoint's slots of a batch
pub tells-after : (was : LaneState) (round : ℕ) (slots : List Told) (events : List (Event Telling)) → AreSlots was.endpoints was.b was.endpoint slots →
    All (λ (number : Unresolved Telling). AreSlots was.endpoints was.b was.endpoint number.content.told) (numbers_sent events) →
    All (λ (number : Unresolved Telling). AreSlots was.endpoints was.b was.endpoint number.content.told) (numbers_sent (events_after was.sent (telling_of was round slots) events))
tells-after was round slots events are tells =
    let P : Unresolved Telling → Type 0 = λ number. AreSlots was.endpoints was.b was.endpoint number.content.told in
    let telling = telling_of was round slots in
    let new : AreSlots was.endpoints was.b was.endpoint (slots_to_tell was round slots) = told-either was round slots (AreSlots was.endpoints was.b was.endpoint) are (AreSlots-none was.endpoints was.b was.endpoint) in
    elim (may_tell was.sent) as (λ b. All P (numbers_sent (cond b (Sends telling ∷ events) events))) [
      | true ↦ All-push P (numbers_sent events) (record { number = newest_of events + 1; content = telling }) tells new
      | false ↦ tells
    ]

pub tells-made : (was : LaneState) (round : ℕ) (slots : List Told) (sent : Sender Telling) (lines : List LaneLine) (history : LaneHistory) (allocations : List Allocation) → was.sent.version ≡ was.version → 0 < was.epoch →
    AreSlots was.endpoints was.b was.endpoint slots → LaneStandsFor was history allocations → TellsSlots was history → TellsSlots (made_lane was sent lines) (MakesDown round slots ∷ history)
tells-made was round slots sent lines history allocations version begun are stands tells =
    subst (λ (e : List (Event Telling)). All (λ (number : Unresolved Telling). AreSlots was.endpoints was.b was.endpoint number.content.told) (numbers_sent e)) (sym (numbers-made was history allocations round slots version stands begun))
    (tells-after was round slots (numbers was.g history) are tells)

-- ---- it stays sound

told-more : (laws : MakingTells) (sums : CountsAddUp) (was now : LaneState) (round : ℕ) (slots : List Told) (history : LaneHistory) (allocations : List Allocation) (dst : ℕ) (old new : LaneLine) →
    was.g ≡ now.g → was.sent.version ≡ was.version → now.sent.version ≡ was.version → 0 < was.epoch → LaneStandsFor was history allocations → LaneStandsFor now (MakesDown round slots ∷ history) allocations →
    StandsForFlow was.g history allocations dst old → StandsForFlow now.g (MakesDown round slots ∷ history) allocations dst new →
    new.count.acknowledged + new.count.lost + unresolved_to dst now.sent ≡ old.count.acknowledged + old.count.lost + unresolved_to dst was.sent + slots_to dst (slots_to_tell was round slots)
told-more laws sums was now round slots history allocations dst old new windows was_version now_version begun stood stands before after =
    let above : 0 < epoch_of history = omega (arith, begun, stood.epoch) in
    let three = sums.three was.g history dst in
    let three_now = sums.three now.g (MakesDown round slots ∷ history) dst in
    let tells = laws.tells was.g round slots history dst above in
    let same = ap (λ g. told g (MakesDown round slots ∷ history) dst) windows in
    let telling = ap (λ (t : Telling). slots_to dst t.told) (telling-is was history round slots stood.last_reset) in
    let open_was = open_to-is was.g was.sent history dst (was_version ∙ stood.version) stood.sent in
    let open_now = open_to-is now.g now.sent (MakesDown round slots ∷ history) dst (now_version ∙ stood.version) stands.sent in
    let one = before.acknowledged in
    let two = before.lost in
    let one_now = after.acknowledged in
    let two_now = after.lost in
    omega (arith, three, three_now, tells, same, telling, open_was, open_now, one, two, one_now, two_now)

made-once : (b : Bool) → b ≡ false → cond {A = ℕ} b 1 0 ≡ 0
made-once b is = ap (λ b. cond {A = ℕ} b 1 0) is

flow-sound : (was : LaneState) (sent : Sender Telling) (lines : List LaneLine) (n lost dst : ℕ) (old new : LaneLine) → was.is_made ≡ false → n ≤ 64 → n + unresolved_to dst was.sent ≤ in_flight old.count →
    (dst ≡ was.endpoint → n + unresolved_to dst was.sent ≡ 0) → LosesSlots lost old new →
    new.count.acknowledged + new.count.lost + unresolved_to dst sent ≡ old.count.acknowledged + old.count.lost + unresolved_to dst was.sent + n → IsFlow was dst old → IsFlow (made_lane was sent lines) dst new
flow-sound was sent lines n lost dst old new once few room own loses three flow =
    let demanded = loses.count.demanded in
    let allocated = loses.count.allocated in
    let acknowledged = loses.count.acknowledged in
    let lost_now = loses.count.lost in
    let entered = loses.entered in
    let told_before = flow.told in
    let demanded_before = flow.demanded in
    let entered_before = flow.entered in
    let made = made-once was.is_made once in
    record {
      demanded = omega (arith, demanded, demanded_before);
      told = omega (arith, three, told_before, few, made);
      entered = omega (arith, entered, entered_before, demanded, lost_now);
      open_slots = omega (arith, three, room, allocated, acknowledged, lost_now);
      own = λ is.
          let none = flow.own is in
          let owed = none.0 in
          let nothing = own is in
          (omega (arith, three, owed, nothing, demanded, acknowledged, lost_now), loses.opened ∙ none.1);
    }

pub sound-made : (laws : MakingTells) (sums : CountsAddUp) (was : LaneState) (round : ℕ) (slots : List Told) (sent : Sender Telling) (lines : List LaneLine) (history : LaneHistory) (allocations : List Allocation) →
    was.is_made ≡ false → was.round < 100000 → 0 < was.epoch → length (slots_to_tell was round slots) ≤ 64 → AreSlots was.endpoints was.b was.endpoint slots → AreAllocated was round slots →
    sent.version ≡ was.sent.version → sent.outstanding.newest ≤ was.sent.outstanding.newest + 1 → HasDone sent (events_after was.sent (telling_of was round slots) (numbers was.g history)) →
    Become (λ dst. LosesSlots (lost_by was.sent (slots_to_tell was round slots) dst)) was.lines lines →
    LaneStandsFor was history allocations → TellsSlots was history → IsSoundLane was → IsSoundLane (made_lane was sent lines)
sound-made laws sums was round slots sent lines history allocations once rounds begun short are allocated version newest done become stands tells sound =
    let now : LaneState = made_lane was sent lines in
    let stands_now : LaneStandsFor now (MakesDown round slots ∷ history) allocations = stands-made laws was round slots sent lines history allocations sound.sent_version version begun done become stands in
    let made = made-once was.is_made once in
    let numbered = sound.numbers in
    let none_open = open-own was.endpoints was.b was.endpoint was.sent.outstanding.unresolved (open-told (λ (t : Telling). AreSlots was.endpoints was.b was.endpoint t.told) was.sent (numbers was.g history) stands.sent tells) in
    let told_slots = told-either was round slots (AreSlots was.endpoints was.b was.endpoint) are (AreSlots-none was.endpoints was.b was.endpoint) in
    let none_told = told-own was.endpoints was.b was.endpoint (slots_to_tell was round slots) told_slots in
    record {
      endpoint = sound.endpoint;
      endpoints = sound.endpoints;
      b = sound.b;
      as_many = become.as_many ∙ sound.as_many;
      rounds = sound.rounds;
      within = omega (arith, rounds);
      version = sound.version;
      heard_version = sound.heard_version;
      sent_version = version ∙ sound.sent_version;
      numbers = omega (arith, newest, numbered, made);
      flows = λ dst new here.
          let there = line_between lines was.lines (sym become.as_many) dst new here in
          let old = get_or was.lines dst new in
          let counted = count_by-le-length (λ (slot : Told). slot.dst == dst) (slots_to_tell was round slots) in
          flow-sound was sent lines (slots_to dst (slots_to_tell was round slots)) (lost_by was.sent (slots_to_tell was round slots) dst) dst old new once (omega (arith, counted, short))
          (room-for was round slots sound allocated begun dst old there)
          (λ is.
          let one = ap (λ d. slots_to d (slots_to_tell was round slots)) is in
          let two = ap (λ d. unresolved_to d was.sent) is in
          omega (arith, one, two, none_told, none_open))
          (become.each dst old new there here)
          (told-more laws sums was now round slots history allocations dst old new refl sound.sent_version (version ∙ sound.sent_version) begun stands stands_now (stands.flows dst old there) (stands_now.flows dst new here))
          (sound.flows dst old there);
    }

-- ---- before the first reset

pub stands-quiet : (laws : MakingTells) (was : LaneState) (round : ℕ) (slots : List Told) (history : LaneHistory) (allocations : List Allocation) → was.epoch ≡ 0 → LaneStandsFor was history allocations →
    LaneStandsFor (made_lane was was.sent was.lines) (MakesDown round slots ∷ history) allocations
stands-quiet laws was round slots history allocations none stands =
    let quiet : epoch_of history ≡ 0 = sym stands.epoch ∙ none in
    let still : nat_lt 0 (epoch_of history) ≡ false = le-ltb 0 (epoch_of history) (omega (arith, quiet)) in
    record {
      epoch = stands.epoch;
      version = stands.version;
      last_reset = stands.last_reset;
      arrived = stands.arrived;
      sent = rw still stands.sent;
      sent_version = stands.sent_version;
      flows = λ dst line here.
          let flow = stands.flows dst line here in
          record {
            demanded = flow.demanded;
            allocated = flow.allocated;
            acknowledged = flow.acknowledged ∙ sym (laws.decides_none was.g round slots history dst);
            lost = flow.lost ∙ sym (laws.before was.g round slots history dst quiet).1;
            entered = flow.entered;
            opened = flow.opened;
          };
      round = stands.round;
      is_reset = stands.is_reset;
      recorded = stands.recorded;
    }

pub tells-quiet : (was : LaneState) (round : ℕ) (slots : List Told) (history : LaneHistory) → epoch_of history ≡ 0 → TellsSlots was history → TellsSlots (made_lane was was.sent was.lines) (MakesDown round slots ∷ history)
tells-quiet was round slots history quiet tells = rw (le-ltb 0 (epoch_of history) (omega (arith, quiet))) tells

pub sound-quiet : (was : LaneState) → was.is_made ≡ false → was.round < 100000 → IsSoundLane was → IsSoundLane (made_lane was was.sent was.lines)
sound-quiet was once rounds sound =
    let made = made-once was.is_made once in
    let numbered = sound.numbers in
    record {
      endpoint = sound.endpoint;
      endpoints = sound.endpoints;
      b = sound.b;
      as_many = sound.as_many;
      rounds = sound.rounds;
      within = omega (arith, rounds);
      version = sound.version;
      heard_version = sound.heard_version;
      sent_version = sound.sent_version;
      numbers = omega (arith, numbered, made);
      flows = λ dst line here.
          let flow = sound.flows dst line here in
          let told_before = flow.told in
          record { demanded = flow.demanded; told = omega (arith, told_before, made); entered = flow.entered; open_slots = flow.open_slots; own = flow.own };
    }

-- ---- the allocation

abbrev with_mask : ℕ → ℕ → Acknowledgement
with_mask high mask = record { high = high; mask = mask }

ack-is : (told : Acknowledgement) (high mask : ℕ) → told.high ≡ high → told.mask ≡ mask → record { high = high; mask = mask } ≡ told
ack-is told high mask is_high is_mask = ap (λ h. with_mask h mask) (sym is_high) ∙ ap (λ m. with_mask told.high m) (sym is_mask)

abbrev packet_of : (version epoch seq : ℕ) → Acknowledgement → Telling → DownPacket
packet_of version epoch seq ack content = record { epoch = epoch; version = version; seq = seq; ack = ack; content = content }

abbrev framed : ℕ → ℕ → ℕ → ℕ → Acknowledgement → Telling → Down
framed endpoint version epoch seq ack content = framed_down endpoint (packet_of version epoch seq ack content)

-- it is the packet that the calls make
pub packet-made : (lane : LaneState) (history : LaneHistory) (allocations : List Allocation) (round : ℕ) (slots : List Told) (sent : Sender Telling) (content : Telling) → lane.arrived.version ≡ lane.version → lane.sent.version ≡ lane.version → 0 < lane.epoch →
    HasDone sent (events_after lane.sent (telling_of lane round slots) (numbers lane.g history)) →
    newest_content (events_after lane.sent (telling_of lane round slots) (numbers lane.g history)) ≡ Some content → LaneStandsFor lane history allocations →
    option_map (framed_down lane.endpoint) (packet_down lane.g history round slots) ≡ Some (packet_with lane sent.outstanding.newest content.batch content.told)
unfolding packet_down
packet-made lane history allocations round slots sent content heard_version sent_version begun done newest stands =
    let above : 0 < epoch_of history = omega (arith, begun, stands.epoch) in
    let made = numbers-made lane history allocations round slots sent_version stands begun in
    let version = sym stands.version in
    let epoch = sym stands.epoch in
    let now = numbers lane.g (MakesDown round slots ∷ history) in
    let seq : newest_of now ≡ sent.outstanding.newest = ap newest_of made ∙ sym done.newest in
    let blank : Telling = record { batch = 0; told = [] } in
    let is_content : unwrap_or (newest_content now) blank ≡ content = ap (λ e. unwrap_or (newest_content e) blank) made ∙ ap (λ o. unwrap_or o blank) newest in
    let ack : acknowledgement (reorder_of (version_of history)) (span_of (version_of history)) (arrived history) ≡ lane.arrived.told =
    ap (λ v. acknowledgement (reorder_of v) (span_of v) (arrived history)) (sym (heard_version ∙ stands.version))
    ∙ ack-is lane.arrived.told (highest (arrived history)) (mask_of (reorder_of lane.arrived.version) (span_of lane.arrived.version) (arrived history)) stands.arrived.high stands.arrived.mask in
    let acks = acknowledgement (reorder_of (version_of history)) (span_of (version_of history)) (arrived history) in
    let contents = unwrap_or (newest_content now) blank in
    ap (λ b. option_map (framed_down lane.endpoint) (cond b (Some (packet_of (version_of history) (epoch_of history) (newest_of now) acks contents)) None)) (lt-ltb 0 (epoch_of history) above)
    ∙ (ap Some
    (ap (λ v. framed lane.endpoint v (epoch_of history) (newest_of now) acks contents) version
    ∙ (ap (λ e. framed lane.endpoint lane.version e (newest_of now) acks contents) epoch
    ∙ (ap (λ n. framed lane.endpoint lane.version lane.epoch n acks contents) seq
    ∙ (ap (λ a. framed lane.endpoint lane.version lane.epoch sent.outstanding.newest a contents) ack
    ∙ ap (λ t. framed lane.endpoint lane.version lane.epoch sent.outstanding.newest lane.arrived.told t) is_content)))))

-- so its bytes are those of that packet
spelled-as : (f : DownPacket → Down) (o : Option DownPacket) → option_map (λ packet. down_bytes (f packet)) o ≡ option_map down_bytes (option_map f o)
spelled-as f None = refl
spelled-as f (Some packet) = refl

pub bytes-made : (f : DownPacket → Down) (o : Option DownPacket) (down : Down) → option_map f o ≡ Some down → option_map (λ packet. down_bytes (f packet)) o ≡ Some (down_bytes down)
bytes-made f o down is = spelled-as f o ∙ ap (option_map down_bytes) is

pub none-made : (f : DownPacket → Down) (o : Option DownPacket) → option_map f o ≡ None → o ≡ None
none-made f None is = refl
none-made f (Some packet) is = absurd (cc)

-- and what is true of it is true of that packet
pub true-of : (P : Down → Type 0) (f : DownPacket → Down) (o : Option DownPacket) (down : Down) → option_map f o ≡ Some down → P down → IfSome o (λ packet. P (f packet))
true-of P f None down is holds = tt
true-of P f (Some packet) down is holds = subst P (sym (ap (λ o. unwrap_or o down) is)) holds

pub true-of_none : (P : DownPacket → Type 0) (o : Option DownPacket) → o ≡ None → IfSome o P
true-of_none P o is = subst (λ o. IfSome o P) (sym is) tt

-- there is none before the first reset
pub packet-none : (lane : LaneState) (history : LaneHistory) (allocations : List Allocation) (round : ℕ) (slots : List Told) → lane.epoch ≡ 0 → LaneStandsFor lane history allocations → packet_down lane.g history round slots ≡ None
unfolding packet_down
packet-none lane history allocations round slots none stands = rw (le-ltb 0 (epoch_of history) (omega (arith, none, stands.epoch))) refl

-- it keeps every rule
pub allocation-made : (lane : LaneState) (seq : ℕ) (content : Telling) → IsSoundLane lane → 0 < lane.epoch → 1 ≤ seq → IsMask lane.arrived.told.high lane.arrived.told.mask → lane.arrived.told.mask < 2 ^ mask_bits lane.version →
    length content.told ≤ 64 → AreSlots lane.endpoints lane.b lane.endpoint content.told → IsAllocation lane.endpoints lane.b (packet_with lane seq content.batch content.told)
allocation-made lane seq content sound begun counted mask width few slots = record {
  network = sound.endpoints;
  version = sound.version;
  destination = sound.endpoint;
  epoch = begun;
  seq = counted;
  mask = mask;
  width = width;
  count = few;
  destinations = slots.destinations;
  rising = slots.rising;
  others = slots.others;
  offsets = slots.offsets;
  cores = slots.cores;
}

-- what is told keeps every rule
pub rules-made : (was : LaneState) (round : ℕ) (slots : List Told) (sent : Sender Telling) (lines : List LaneLine) (content : Telling) (history : LaneHistory) (allocations : List Allocation) → IsSoundLane was → 0 < was.epoch →
    IsMask was.arrived.told.high was.arrived.told.mask → was.arrived.told.mask < 2 ^ mask_bits was.version → length content.told ≤ 64 → AreSlots was.endpoints was.b was.endpoint slots →
    HasTold was round slots sent lines content → LaneStandsFor was history allocations → TellsSlots was history → IsAllocation was.endpoints was.b (packet_with was sent.outstanding.newest content.batch content.told)
rules-made was round slots sent lines content history allocations sound begun mask width few are told stands tells =
    let events = numbers was.g history in
    let after = events_after was.sent (telling_of was round slots) events in
    let says = told.says events stands.sent in
    let newest = (told.done events stands.sent).newest in
    let counted = newest-counted after content says in
    allocation-made was sent.outstanding.newest content sound begun (omega (arith, newest, counted)) mask width few
    (newest-told (λ (t : Telling). AreSlots was.endpoints was.b was.endpoint t.told) after content says (tells-after was round slots events are tells))
