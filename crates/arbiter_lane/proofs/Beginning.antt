-- What a lane stands for when it is opened, and when a reset begins its connection anew.
use Rattle.std.proofs.Common.{◌≡◌, ℕ, ◌<◌, ◌≤◌, true, false, ◌&&◌, cond, eqb, List, [], ◌∷◌, length, replicate, All, Some, slice_get, ap, ◌∙◌, sym, subst, refl, inl, arith}
use Rattle.std.specs.Prelude.{nat_le, sum_by}
use Rattle.std.proofs.lemmas.Bool.{lt-ltb, lt-leb, and_right}
use Rattle.std.proofs.lemmas.List.Elements.{All-nil, All-head, All-tail}
use Rattle.std.proofs.lemmas.List.{get_or-replicate, length-replicate}
use Rattle.std.proofs.lemmas.List.Sums.{sum_by-cons}
use Rattle.std.proofs.lemmas.Option.{slice_get_within, get_or_from_slice_get}
use Rattle.ack_window.specs.declared.send_window.Unresolved.{Unresolved}
use Rattle.ack_window.specs.Windows.{Receiver, Sender, HasHeard, HasDone}
use Rattle.fcp_framing.specs.Versions.{IsVersion}
use Rattle.endpoint_history.specs.Packets.{Telling, Resets, slots_to}
use Rattle.endpoint_history.specs.Lane.{LaneHistory, TakesUp, epoch_of, restarts, last_reset}
use Rattle.endpoint_history.specs.Counts.{Allocation, slots_in}
use Rattle.endpoint_history.specs.CountLaws.{ResetsCountAnew}
use Rattle.arbiter_lane.specs.declared.line.LaneLine.{LaneLine}
use Rattle.arbiter_lane.specs.State.{LaneState, IsFlow, IsSoundLane, AreSlots, unresolved_to}
use Rattle.arbiter_lane.specs.Standing.{StandsForFlow, LaneStandsFor, TellsSlots}
use Rattle.arbiter_lane.specs.Lines.{Become, HasStartedAgain}
use Rattle.arbiter_lane.proofs.Held.{each_line}

-- ---- a reset

abbrev pub begun_lane : LaneState → ℕ → ℕ → Receiver → Sender Telling → List LaneLine → LaneState
begun_lane was epoch version arrived sent lines = record {
  endpoint = was.endpoint;
  endpoints = was.endpoints;
  b = was.b;
  g = was.g;
  epoch = epoch;
  version = version;
  last_reset = was.round;
  arrived = arrived;
  sent = sent;
  lines = lines;
  round = was.round;
  is_made = was.is_made;
  is_reset = true;
}

-- no allocation of an earlier batch counts
none-since : (round : ℕ) (allocations : List Allocation) (dst : ℕ) → All (λ (a : Allocation). a.batch < round) allocations →
    sum_by (λ (a : Allocation). cond {A = ℕ} (eqb a.dst dst && nat_le round a.batch) a.slots 0) allocations ≡ 0
none-since round [] dst earlier = refl
none-since round (a ∷ allocations) dst earlier =
    let below = All-head (λ (a : Allocation). a.batch < round) a allocations earlier in
    let out : (eqb a.dst dst && nat_le round a.batch) ≡ false = and_right (eqb a.dst dst) (nat_le round a.batch) (lt-leb round a.batch below) in
    let here : cond {A = ℕ} (eqb a.dst dst && nat_le round a.batch) a.slots 0 ≡ 0 = ap (λ b. cond {A = ℕ} b a.slots 0) out in
    let rest = none-since round allocations dst (All-tail (λ (a : Allocation). a.batch < round) a allocations earlier) in
    let both = sum_by-cons (λ (a : Allocation). cond {A = ℕ} (eqb a.dst dst && nat_le round a.batch) a.slots 0) a allocations in
    omega (arith, here, rest, both)

flow-begun : (laws : ResetsCountAnew) (g round epoch version : ℕ) (history : LaneHistory) (allocations : List Allocation) (dst : ℕ) (old new : LaneLine) → restarts history epoch ≡ true →
    All (λ (a : Allocation). a.batch < round) allocations → HasStartedAgain old new → StandsForFlow g history allocations dst old →
    StandsForFlow g (TakesUp round (Resets epoch version) ∷ history) allocations dst new
flow-begun laws g round epoch version history allocations dst old new starts earlier started flow =
    let anew = laws.anew g round epoch version history dst starts in
    let since : last_reset (TakesUp round (Resets epoch version) ∷ history) ≡ round = rw starts refl in
    record {
      demanded = started.count.demanded ∙ sym anew.0;
      allocated = started.count.allocated
          ∙ sym (ap (λ r. sum_by (λ (a : Allocation). cond {A = ℕ} (eqb a.dst dst && nat_le r a.batch) a.slots 0) allocations) since ∙ none-since round allocations dst earlier);
      acknowledged = started.count.acknowledged ∙ sym anew.2;
      lost = started.count.lost ∙ sym anew.3;
      entered = rw starts (started.entered ∙ sym anew.4);
      opened = started.opened ∙ flow.opened;
    }

pub stands-begun : (laws : ResetsCountAnew) (was : LaneState) (round epoch version : ℕ) (arrived : Receiver) (sent : Sender Telling) (lines : List LaneLine) (history : LaneHistory) (allocations : List Allocation) →
    was.round ≡ round → was.epoch < epoch → HasHeard arrived [] → sent.version ≡ version → HasDone sent [] → Become (λ dst. HasStartedAgain) was.lines lines → LaneStandsFor was history allocations →
    LaneStandsFor (begun_lane was epoch version arrived sent lines) (TakesUp round (Resets epoch version) ∷ history) allocations
stands-begun laws was round epoch version arrived sent lines history allocations now greater heard same done become stands =
    let above : epoch_of history < epoch = omega (arith, greater, stands.epoch) in
    let starts : restarts history epoch ≡ true = lt-ltb (epoch_of history) epoch above in
    record {
      epoch = omega (arith, above);
      version = rw starts refl;
      last_reset = rw starts now;
      arrived = rw starts heard;
      sent = rw starts done;
      sent_version = rw starts same;
      flows = each_line (λ dst. HasStartedAgain) (StandsForFlow was.g history allocations) (StandsForFlow was.g (TakesUp round (Resets epoch version) ∷ history) allocations) was.lines lines become stands.flows
          (λ dst old new. flow-begun laws was.g round epoch version history allocations dst old new starts (subst (λ (r : ℕ). All (λ (a : Allocation). a.batch < r) allocations) now stands.recorded));
      round = stands.round;
      is_reset = rw starts refl;
      recorded = stands.recorded;
    }

-- nothing is told yet
pub tells-begun : (was : LaneState) (round epoch version : ℕ) (arrived : Receiver) (sent : Sender Telling) (lines : List LaneLine) (history : LaneHistory) → restarts history epoch ≡ true →
    TellsSlots (begun_lane was epoch version arrived sent lines) (TakesUp round (Resets epoch version) ∷ history)
tells-begun was round epoch version arrived sent lines history starts = rw starts (All-nil (λ (number : Unresolved Telling). AreSlots was.endpoints was.b was.endpoint number.content.told))

-- nothing is open
open-none : (dst : ℕ) (sent : Sender Telling) → HasDone sent [] → unresolved_to dst sent ≡ 0
open-none dst sent done = ap (sum_by (λ (s : Unresolved Telling). slots_to dst s.content.told)) done.unresolved

flow-started : (was : LaneState) (epoch version : ℕ) (arrived : Receiver) (sent : Sender Telling) (lines : List LaneLine) (dst : ℕ) (old new : LaneLine) → HasDone sent [] →
    HasStartedAgain old new → IsFlow was dst old → IsFlow (begun_lane was epoch version arrived sent lines) dst new
flow-started was epoch version arrived sent lines dst old new done started flow =
    let none = open-none dst sent done in
    let demanded = started.count.demanded in
    let acknowledged = started.count.acknowledged in
    let lost = started.count.lost in
    let entered = started.entered in
    record {
      demanded = omega (arith, demanded);
      told = omega (arith, none, acknowledged, lost);
      entered = omega (arith, entered);
      open_slots = omega (arith, none);
      own = λ is. (omega (arith, demanded, lost), started.opened ∙ (flow.own is).1);
    }

pub sound-begun : (was : LaneState) (epoch version : ℕ) (arrived : Receiver) (sent : Sender Telling) (lines : List LaneLine) → IsVersion version → arrived.version ≡ version → sent.version ≡ version →
    HasDone sent [] → Become (λ dst. HasStartedAgain) was.lines lines → IsSoundLane was → IsSoundLane (begun_lane was epoch version arrived sent lines)
sound-begun was epoch version arrived sent lines known heard_version sent_version done become sound = record {
  endpoint = sound.endpoint;
  endpoints = sound.endpoints;
  b = sound.b;
  as_many = become.as_many ∙ sound.as_many;
  rounds = sound.rounds;
  within = sound.within;
  version = known;
  heard_version = heard_version;
  sent_version = sent_version;
  numbers = omega (arith, done.newest);
  flows = each_line (λ dst. HasStartedAgain) (IsFlow was) (IsFlow (begun_lane was epoch version arrived sent lines)) was.lines lines become sound.flows
      (λ dst old new. flow-started was epoch version arrived sent lines dst old new done);
}

-- ---- a lane that is opened

-- what holds of a line of which nothing was asked
pub record IsBlank (line : LaneLine) : Type 0 where
  pub opened : line.opened ≡ false
  pub started : HasStartedAgain line line

-- every line of a new table is that one
pub each_blank : (lines : List LaneLine) (n : ℕ) (new : LaneLine) → lines ≡ replicate n new → IsBlank new → (dst : ℕ) (line : LaneLine) → slice_get lines dst ≡ Some line → IsBlank line
each_blank lines n new all blank dst line here =
    let there : slice_get (replicate n new) dst ≡ Some line = subst (λ (xs : List LaneLine). slice_get xs dst ≡ Some line) all here in
    let within : dst < n = subst (λ m. dst < m) (length-replicate n new) (slice_get_within (replicate n new) dst line there) in
    let same : new ≡ line = sym (get_or-replicate n dst new line within) ∙ get_or_from_slice_get (replicate n new) dst line line there in
    subst IsBlank same blank

abbrev pub opened_lane : ℕ → ℕ → ℕ → ℕ → Receiver → Sender Telling → List LaneLine → LaneState
opened_lane endpoint endpoints b g arrived sent lines = record {
  endpoint = endpoint;
  endpoints = endpoints;
  b = b;
  g = g;
  epoch = 0;
  version = 1;
  last_reset = 0;
  arrived = arrived;
  sent = sent;
  lines = lines;
  round = 0;
  is_made = false;
  is_reset = false;
}

flow-opened : (g dst : ℕ) (line : LaneLine) → IsBlank line → StandsForFlow g [] [] dst line
unfolding slots_in
flow-opened g dst line blank = record {
  demanded = blank.started.count.demanded;
  allocated = blank.started.count.allocated;
  acknowledged = blank.started.count.acknowledged;
  lost = blank.started.count.lost;
  entered = blank.started.entered;
  opened = blank.opened;
}

pub stands-opened : (endpoint endpoints b g : ℕ) (arrived : Receiver) (sent : Sender Telling) (lines : List LaneLine) → HasHeard arrived [] → sent.version ≡ 1 → HasDone sent [] →
    ((dst : ℕ) (line : LaneLine) → slice_get lines dst ≡ Some line → IsBlank line) → LaneStandsFor (opened_lane endpoint endpoints b g arrived sent lines) [] []
stands-opened endpoint endpoints b g arrived sent lines heard same done blank = record {
  epoch = refl;
  version = refl;
  last_reset = refl;
  arrived = heard;
  sent = done;
  sent_version = same;
  flows = λ dst line here. flow-opened g dst line (blank dst line here);
  round = refl;
  is_reset = refl;
  recorded = All-nil (λ (a : Allocation). a.batch < 0);
}

opened-flow : (lane : LaneState) (dst : ℕ) (line : LaneLine) → HasDone lane.sent [] → IsBlank line → IsFlow lane dst line
opened-flow lane dst line done blank =
    let none = open-none dst lane.sent done in
    let demanded = blank.started.count.demanded in
    let acknowledged = blank.started.count.acknowledged in
    let lost = blank.started.count.lost in
    let entered = blank.started.entered in
    record {
      demanded = omega (arith, demanded);
      told = omega (arith, none, acknowledged, lost);
      entered = omega (arith, entered);
      open_slots = omega (arith, none);
      own = λ is. (omega (arith, demanded, lost), blank.opened);
    }

pub sound-opened : (endpoint endpoints b g : ℕ) (arrived : Receiver) (sent : Sender Telling) (lines : List LaneLine) → endpoint < endpoints → endpoints ≤ 256 → b ≤ 64 → arrived.version ≡ 1 → sent.version ≡ 1 → HasDone sent [] →
    length lines ≡ endpoints → ((dst : ℕ) (line : LaneLine) → slice_get lines dst ≡ Some line → IsBlank line) → IsSoundLane (opened_lane endpoint endpoints b g arrived sent lines)
sound-opened endpoint endpoints b g arrived sent lines within few most heard_version sent_version done as_many blank = record {
  endpoint = within;
  endpoints = few;
  b = most;
  as_many = as_many;
  rounds = omega arith;
  within = omega arith;
  version = inl refl;
  heard_version = heard_version;
  sent_version = sent_version;
  numbers = omega (arith, done.newest);
  flows = λ dst line here. opened-flow (opened_lane endpoint endpoints b g arrived sent lines) dst line done (blank dst line here);
}

pub tells-opened : (endpoint endpoints b g : ℕ) (arrived : Receiver) (sent : Sender Telling) (lines : List LaneLine) → TellsSlots (opened_lane endpoint endpoints b g arrived sent lines) []
tells-opened endpoint endpoints b g arrived sent lines = All-nil (λ (number : Unresolved Telling). AreSlots endpoints b endpoint number.content.told)
