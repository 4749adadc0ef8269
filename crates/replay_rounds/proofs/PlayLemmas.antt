-- One endpoint's round: that it may be played with what the trace and the publisher give, and what it leaves is the run's.
use Rattle.std.proofs.Common.{◌≡◌, ◌<◌, ℕ, ◌+◌, List, [], ◌∷◌, ◌++◌, length, map, replicate, refl, sym, ap, ◌∙◌, subst, add-one}
use Rattle.greedy_rules.specs.declared.flows.Entry.{Entry}
use Rattle.greedy_rules.specs.declared.limits.Limits.{Limits}
use Rattle.greedy_rules.specs.Batches.{DemandBatch, IsAboveLast}
use Rattle.fcp_framing.specs.declared.packet.Told.{Told}
use Rattle.clos_topology.specs.Network.{endpoints_of}
use Rattle.clos_topology.specs.NetSlots.{SlotCores}
use Rattle.slot_publisher.specs.Window.{PublisherWindow}
use Rattle.endpoint_history.specs.Agent.{AgentHistory, Boots}
use Rattle.endpoint_history.specs.Counts.{Allocation}
use Rattle.lane_rounds.specs.AgentStanding as agents
use Rattle.arbiter_lane.specs.State.{AreSlots}
use Rattle.endpoint_history.specs.Rounds.{Round, entries_by, sent_by, read, played}
use Rattle.endpoint_history.specs.Sending.{Slot}
use Rattle.endpoint_history.specs.Steps.{lane_of}
use Rattle.lane_rounds.specs.declared.events.Events.{Events}
use Rattle.lane_rounds.specs.Outside as lanes
use Rattle.lane_rounds.specs.Raw.{Raw}
use Rattle.lane_rounds.specs.Refused.{refused_by, refused_in}
use Rattle.lane_rounds.specs.Rounds.{MayPlayRound, HasRoundMore}
use Rattle.lane_rounds.specs.State.{RoundsState, MayAsk, with_each}
use Rattle.lane_rounds.specs.Standing.{RoundsStandFor}
use Rattle.trace_text.specs.Trace.{TraceContent}
use Rattle.trace_run.specs.Run.{Setting, round_of, replayed}
use Rattle.trace_run.proofs.Through.{rounds_length}
use Rattle.replay_rounds.specs.declared.played.Departure.{Departure}
use Rattle.replay_rounds.specs.Standing.{LaneStands}
use Rattle.replay_rounds.specs.Played.{departure, departures_from}
use Rattle.replay_rounds.specs.Parts.{events_for, told_by, MayPlayEndpoint, EveryRoundMayBePlayed, WhatIsToldIsHeld}
use Rattle.replay_rounds.specs.Collecting.{entries_recorded, published_by, refused_of, setting_by, MayBeTold, RoundPart}

-- ---- that it may be played

-- with what the trace says, and what the publisher tells, of the round and endpoint
pub may_play : EveryRoundMayBePlayed → WhatIsToldIsHeld → (trace : TraceContent) (g : ℕ) (cores : SlotCores) (window : PublisherWindow) (number endpoint : ℕ)
    → MayBeTold trace g cores window number → endpoint < endpoints_of trace.net
    → (lane : RoundsState) → LaneStands (setting_by trace g cores window) number (published_by window) endpoint lane
    → (events : Events) (told : List Told) → events ≡ events_for trace number endpoint → told ≡ told_by window g number endpoint
    → MayPlayEndpoint (setting_by trace g cores window) number endpoint lane events told
may_play rounds published trace g cores window number endpoint may below lane stood events told is_events is_told =
    let here = published trace window.b g cores may.sound may.batch may.rounds window (published_by window) number endpoint refl refl may.slots may.behind may.held in
    subst (λ (e : Events). MayPlayEndpoint (setting_by trace g cores window) number endpoint lane e told) (sym is_events)
    (subst (λ (ts : List Told). MayPlayEndpoint (setting_by trace g cores window) number endpoint lane (events_for trace number endpoint) ts) (sym (is_told ∙ here))
    (rounds trace window.b g cores may.sound may.named may.batch may.rounds number (published_by window) endpoint lane may.within below may.allocated stood))

-- so it may in some run
pub ready : EveryRoundMayBePlayed → WhatIsToldIsHeld → (trace : TraceContent) (g : ℕ) (window : PublisherWindow) (earlier number endpoint : ℕ) → number ≡ earlier
    → (lane : RoundsState) → (cores : SlotCores) × MayBeTold trace g cores window earlier × LaneStands (setting_by trace g cores window) earlier (published_by window) endpoint lane
    → endpoint < endpoints_of trace.net → (events : Events) (told : List Told) → events ≡ events_for trace number endpoint → told ≡ told_by window g number endpoint
    → (setting : Setting) × LaneStands setting number (published_by window) endpoint lane × MayPlayEndpoint setting number endpoint lane events told
ready rounds published trace g window earlier number endpoint same lane (cores, may, stood) below events told is_events is_told =
    let may_now = subst (λ (k : ℕ). MayBeTold trace g cores window k) (sym same) may in
    let stood_now = subst (λ (k : ℕ). LaneStands (setting_by trace g cores window) k (published_by window) endpoint lane) (sym same) stood in
    (setting_by trace g cores window, stood_now, may_play rounds published trace g cores window number endpoint may_now below lane stood_now events told is_events is_told)

-- what speaks of an endpoint's sizes speaks of its lane's
pub of_lane : (P : (endpoint endpoints b g : ℕ) → Type 0) (setting : Setting) (collected published endpoint : ℕ) (lane : RoundsState)
    → LaneStands setting collected published endpoint lane → P endpoint setting.endpoints setting.b setting.g
    → P lane.lane.endpoint lane.lane.endpoints lane.lane.b lane.lane.g
of_lane P setting collected published endpoint lane stood holds =
    subst (λ (e : ℕ). P e lane.lane.endpoints lane.lane.b lane.lane.g) (sym stood.own)
    (subst (λ (n : ℕ). P endpoint n lane.lane.b lane.lane.g) (sym stood.endpoints)
    (subst (λ (b : ℕ). P endpoint setting.endpoints b lane.lane.g) (sym stood.b)
    (subst (λ (g : ℕ). P endpoint setting.endpoints setting.b g) (sym stood.g) holds)))

pub to_lane : (P : (endpoint endpoints b g : ℕ) → Type 0) (setting : Setting) (collected published endpoint : ℕ) (lane : RoundsState)
    → LaneStands setting collected published endpoint lane → P lane.lane.endpoint lane.lane.endpoints lane.lane.b lane.lane.g
    → P endpoint setting.endpoints setting.b setting.g
to_lane P setting collected published endpoint lane stood holds =
    subst (λ (g : ℕ). P endpoint setting.endpoints setting.b g) stood.g
    (subst (λ (b : ℕ). P endpoint setting.endpoints b lane.lane.g) stood.b
    (subst (λ (n : ℕ). P endpoint n lane.lane.b lane.lane.g) stood.endpoints
    (subst (λ (e : ℕ). P e lane.lane.endpoints lane.lane.b lane.lane.g) stood.own holds)))

-- so a round of its lane may be played
pub may_play_round : (setting : Setting) (number published endpoint : ℕ) (lane : RoundsState) (events : Events) (told : List Told) (entries : List Entry)
    → LaneStands setting number published endpoint lane → MayPlayEndpoint setting number endpoint lane events told → number < 100000
    → IsAboveLast entries (record { src = endpoint; dst = 0 }) → MayPlayRound lane number events told entries
may_play_round setting number published endpoint lane events told entries stood may few above = record {
  whole = stood.whole;
  round = sym stood.round;
  rounds = few;
  version = may.version;
  epochs = may.epochs;
  asks = of_lane (λ e n _ _. (calls : AgentHistory) × agents.AgentStandsFor lane.agent calls × MayAsk e n (with_each Boots (replicate events.boots events.version) calls) events.asks) setting number published endpoint lane stood may.asks;
  slots = of_lane (λ e n b _. AreSlots n b e told) setting number published endpoint lane stood may.slots;
  allocated = may.allocated;
  above = of_lane (λ e _ _ _. IsAboveLast entries (record { src = e; dst = 0 })) setting number published endpoint lane stood above;
}

-- ---- what it leaves

-- the round that the lane plays is the run's
module _ (setting : Setting) (number published endpoint : ℕ) (lane : RoundsState) (events : Events) (told : List Told)
    (stood : LaneStands setting number published endpoint lane) (may : MayPlayEndpoint setting number endpoint lane events told) where
  abbrev before : List Round
  before = (replayed setting number).rounds endpoint

  abbrev now : List Round
  now = round_of setting (replayed setting number).batches number endpoint ∷ before

  now_is : now ≡ (replayed setting (number + 1)).rounds endpoint
  now_is = ap (λ (k : ℕ). (replayed setting k).rounds endpoint) (sym (add-one number))

  -- what a round of the lane gives for its list of rounds, the run gives
  from_lane : (P : (endpoint endpoints b g : ℕ) → List Round → Type 0)
      → P lane.lane.endpoint lane.lane.endpoints lane.lane.b lane.lane.g (lanes.round_with lane.lane.endpoint lane.lane.endpoints events told ∷ before)
      → P endpoint setting.endpoints setting.b setting.g now
  from_lane P holds =
      subst (λ (r : Round). P endpoint setting.endpoints setting.b setting.g (r ∷ before)) may.is
      (to_lane (λ e n b g. P e n b g (lanes.round_with e n events told ∷ before)) setting number published endpoint lane stood holds)

  pub next_stands : (next : RoundsState) → HasRoundMore lane number (lanes.round_with lane.lane.endpoint lane.lane.endpoints events told) next → LaneStands setting (number + 1) published endpoint next
  next_stands next more = record {
    own = more.endpoint ∙ stood.own;
    endpoints = more.endpoints ∙ stood.endpoints;
    b = more.b ∙ stood.b;
    g = more.g ∙ stood.g;
    whole = more.whole;
    round = more.round;
    allocations = stood.allocations;
    counted = stood.counted;
    stands = subst (λ (rounds : List Round). RoundsStandFor next rounds stood.allocations) now_is
        (from_lane (λ _ _ _ _ rounds. RoundsStandFor next rounds stood.allocations) (more.stands before stood.allocations stood.stands));
  }

  pub entries_are : (old new : List Entry)
      → ((rounds : List Round) (allocations : List Allocation) → RoundsStandFor lane rounds allocations
      → new ≡ old ++ entries_by lane.lane.endpoint lane.lane.endpoints lane.lane.g (lanes.round_with lane.lane.endpoint lane.lane.endpoints events told ∷ rounds))
      → new ≡ old ++ entries_recorded setting number endpoint
  entries_are old new gives = from_lane (λ e n _ g rounds. new ≡ old ++ entries_by e n g rounds) (gives before stood.allocations stood.stands)

  pub sends_are : (sent : List Slot)
      → ((rounds : List Round) (allocations : List Allocation) → RoundsStandFor lane rounds allocations
      → sent ≡ sent_by lane.lane.endpoints lane.lane.b lane.lane.g (lanes.round_with lane.lane.endpoint lane.lane.endpoints events told ∷ rounds))
      → map (departure endpoint) sent ≡ departures_from setting number endpoint
  sends_are sent gives =
      ap (map (departure endpoint))
      (from_lane (λ _ n b g rounds. sent ≡ sent_by n b g rounds) (gives before stood.allocations stood.stands)
      ∙ ap (sent_by setting.endpoints setting.b setting.g) now_is)

  -- what of these raw packets is refused, in a round of this number
  abbrev refused_from : List Raw → ℕ → List (ℕ × ℕ)
  refused_from raw k =
      refused_in endpoint setting.endpoints k raw
      (lane_of (read setting.endpoints setting.g k (record (round_of setting (replayed setting number).batches number endpoint) { raw = [] }) (played setting.endpoints setting.g before)))

  -- the same, in the last of some rounds
  abbrev refused_in_last : (endpoint endpoints g : ℕ) → List Round → List (ℕ × ℕ)
  refused_in_last e n g [] = []
  refused_in_last e n g (round ∷ earlier) = refused_in e n (length earlier) events.raw (lane_of (read n g (length earlier) (record round { raw = [] }) (played n g earlier)))

  pub refused_are : (trace : TraceContent) → events ≡ events_for trace number endpoint → (old new : List (ℕ × ℕ)) → old ≡ []
      → ((rounds : List Round) (allocations : List Allocation) → RoundsStandFor lane rounds allocations
      → new ≡ old ++ refused_by lane.lane.endpoint lane.lane.endpoints lane.lane.g events told rounds)
      → new ≡ refused_of setting trace number endpoint
  refused_are trace is_events old new none gives =
      let by_run : new ≡ old ++ refused_from events.raw (length before) = from_lane (λ e n _ g rounds. new ≡ old ++ refused_in_last e n g rounds) (gives before stood.allocations stood.stands) in
      by_run
      ∙ (ap (λ (xs : List (ℕ × ℕ)). xs ++ refused_from events.raw (length before)) none
      ∙ (ap (λ (e : Events). refused_from e.raw (length before)) is_events
      ∙ ap (λ (k : ℕ). refused_from (events_for trace number endpoint).raw k) (rounds_length setting number endpoint)))

-- equal fields make equal records
same_batch : (x y : DemandBatch) → x.entries ≡ y.entries → x.limits ≡ y.limits → x ≡ y
same_batch x y entries limits =
    ap (λ (es : List Entry). record { entries = es; limits = x.limits }) entries
    ∙ ap (λ (l : Limits). record { entries = y.entries; limits = l }) limits

abbrev part : ℕ → DemandBatch → List (ℕ × ℕ) → List Departure → RoundPart
part number batch refused departures = record { round = number; batch = batch; refused = refused; departures = departures }

pub same_part : (x y : RoundPart) → x.round ≡ y.round → x.batch.entries ≡ y.batch.entries → x.batch.limits ≡ y.batch.limits
    → x.refused ≡ y.refused → x.departures ≡ y.departures → x ≡ y
same_part x y round entries limits refused departures =
    ap (λ (n : ℕ). part n x.batch x.refused x.departures) round
    ∙ (ap (λ (b : DemandBatch). part y.round b x.refused x.departures) (same_batch x.batch y.batch entries limits)
    ∙ (ap (λ (rs : List (ℕ × ℕ)). part y.round y.batch rs x.departures) refused
    ∙ ap (λ (ds : List Departure). part y.round y.batch y.refused ds) departures))
