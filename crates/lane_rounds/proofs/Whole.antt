-- What a round leaves, from what its parts leave.
use Rattle.std.proofs.Common.{◌≡◌, ℕ, ◌+◌, ◌<◌, ◌≤◌, Bool, List, [], ◌∷◌, ◌++◌, length, map, replicate, Option, Some, IfSome, sym, ◌∙◌, ap, subst, inl, inr, arith}
use Rattle.std.specs.List.{filter_map, range_with_len}
use Rattle.std.proofs.lemmas.Bool.{cases_lt}
use Rattle.greedy_rules.specs.declared.flows.Entry.{Entry}
use Rattle.endpoint_history.specs.Bounds.{NoneIsToldBeyond}
use Rattle.endpoint_history.specs.SlotLaws.{ToldIsOwed}
use Rattle.loss_world.specs.Arrivals.{Departure}
use Rattle.loss_world.specs.History.{EachAskTakesOne}
use Rattle.loss_world.specs.InTransit.{Held, due_in}
use Rattle.fcp_framing.specs.declared.packet.Told.{Told}
use Rattle.fcp_framing.specs.Laws.{AreReadBack}
use Rattle.endpoint_history.specs.Packets.{DownPacket, UpPacket, AreFramedAlike}
use Rattle.endpoint_history.specs.Agent.{AgentHistory, Boots, Asks, MakesUp, SendsDue, packet_up}
use Rattle.endpoint_history.specs.Lane.{LaneHistory, MakesDown, Records, packet_down}
use Rattle.endpoint_history.specs.Counts.{Allocation}
use Rattle.endpoint_history.specs.Reading.{spelled, SpelledAlike}
use Rattle.endpoint_history.specs.RoundLaws.{RoundsAreInOrder}
use Rattle.endpoint_history.specs.Rounds.{Round, Posted, PlayedEnds, posted_down, posted_up, after_round, read, recorded, played, entries_by, sent_by, EachPosted}
use Rattle.endpoint_history.specs.Steps.{agent_of, lane_of}
use Rattle.endpoint_history.specs.Tellings.{ToldWithin, ToldRises, ToldTo}
use Rattle.endpoint_agent.specs.State.{AgentState}
use Rattle.endpoint_agent.specs.Standing as agents
use Rattle.arbiter_lane.specs.State.{LaneState, AreSlots, IsSameLane}
use Rattle.arbiter_lane.specs.Standing as lanes
use Rattle.endpoint_history.specs.Entries.{next_entry}
use Rattle.endpoint_history.specs.Sending.{Slot, sent_in}
use Rattle.endpoint_history.proofs.Rounds.{EachPosted-append}
use Rattle.lane_rounds.specs.declared.events.Events.{Events}
use Rattle.lane_rounds.specs.Outside.{round_with}
use Rattle.lane_rounds.specs.Refused.{with_raw, refused_in, refused_by}
use Rattle.lane_rounds.specs.State.{RoundsState, with_each}
use Rattle.lane_rounds.proofs.Raw.{with_raw-reads}
use Rattle.lane_rounds.specs.Standing.{RoundsStandFor, played_by, StandsAt, HasCarried, IsDownOf, IsUpOf, spell_down, spell_up}
use Rattle.lane_rounds.specs.Parts.{IsSameAgent, hearing, reading, handed, Each, IsReadDown, IsReadUp, MayHear}
use Rattle.lane_rounds.proofs.Coming.{Laws}
use Rattle.lane_rounds.proofs.Playing.{posted, asked_calls, made_calls, down_now, heard_calls, up_now, read_calls, down-posted, up-posted, agent-recorded, lane-read, posted-spelled, due-arrives, posted-some, each-arrives, read-down, read-up, within-read, rises-read, are-within, rises-from, are-to, to-read, round-heard}

-- ---- by the sizes of an endpoint

pub record HasSizes (agent : AgentState) (e n slots window : ℕ) : Type 0 where
  pub me : agent.me ≡ e
  pub endpoints : agent.endpoints ≡ n
  pub b : agent.b ≡ slots
  pub g : agent.g ≡ window

pub by_sizes : (agent : AgentState) (e n b g : ℕ) → HasSizes agent e n b g → (P : ℕ → ℕ → ℕ → ℕ → Type 0) → P agent.me agent.endpoints agent.b agent.g → P e n b g
by_sizes agent e n b g sizes P p =
    subst (λ x. P e n b x) sizes.g (subst (λ x. P e n x agent.g) sizes.b (subst (λ x. P e x agent.b agent.g) sizes.endpoints (subst (λ x. P x agent.endpoints agent.b agent.g) sizes.me p)))

pub to_sizes : (agent : AgentState) (e n b g : ℕ) → HasSizes agent e n b g → (P : ℕ → ℕ → ℕ → ℕ → Type 0) → P e n b g → P agent.me agent.endpoints agent.b agent.g
to_sizes agent e n b g sizes P p =
    subst (λ x. P x agent.endpoints agent.b agent.g) (sym sizes.me) (subst (λ x. P e x agent.b agent.g) (sym sizes.endpoints) (subst (λ x. P e n x agent.g) (sym sizes.b) (subst (λ x. P e n b x) (sym sizes.g) p)))

-- ---- the world in a round

pub record WorldLaws : Type 0 where
  pub alike : SpelledAlike
  pub framed : AreFramedAlike
  pub back : AreReadBack
  pub one : EachAskTakesOne

module _ (laws : WorldLaws) (e n b g number : ℕ) (round : Round) (before : PlayedEnds) where
  -- once the downward packet is handed over
  pub record IsDownward (world : Held) : Type 0 where
    pub carried : HasCarried world number (map (spelled (spell_down e)) (posted_down n g number round before))
    pub rules : EachPosted (IsDownOf e n b) (posted_down n g number round before)
    pub due : due_in world.flights number ≡ map (spell_down e) (down_now n g number round before)
    pub each : Each (IsReadDown e n b) (down_now n g number round before)

  pub downward : (lane : LaneState) (world next : Held) (allocations : List Allocation) → lanes.LaneStandsFor lane (lane_of before.steps) allocations →
      HasCarried world number (map (spelled (spell_down e)) before.down) → EachPosted (IsDownOf e n b) before.down →
      ((history : LaneHistory) (allocations : List Allocation) → lanes.LaneStandsFor lane history allocations → IfSome (packet_down g history number round.told) (IsDownOf e n b)) →
      ((history : LaneHistory) (allocations : List Allocation) (departures : List Departure) → lanes.LaneStandsFor lane history allocations → HasCarried world number departures →
      HasCarried next number (departures ++ handed (spell_down e) number round.down (packet_down g history number round.told))) →
      IsDownward next
  downward lane world next allocations stands carried rules spells carries =
      let calls = lane_of before.steps in
      let packet = packet_down g calls number round.told in
      let is = down-posted n g number round before in
      let all = posted_down n g number round before in
      let holds : HasCarried next number (map (spelled (spell_down e)) all) =
      subst (λ (ds : List Departure). HasCarried next number ds) (posted-spelled (spell_down e) number round.down packet before.down ∙ ap (λ (ps : List (Posted DownPacket)). map (spelled (spell_down e)) ps) (sym is))
      (carries calls allocations (map (spelled (spell_down e)) before.down) stands carried) in
      let keeps : EachPosted (IsDownOf e n b) all =
      subst (λ (ps : List (Posted DownPacket)). EachPosted (IsDownOf e n b) ps) (sym is)
      (EachPosted-append (IsDownOf e n b) before.down (posted number round.down packet) rules (posted-some (IsDownOf e n b) number round.down packet (spells calls allocations stands))) in
      record {
        carried = holds;
        rules = keeps;
        due = due-arrives laws.one (spell_down e) next number all (laws.alike.down (spell_down e) all number) holds;
        each = each-arrives (IsDownOf e n b) (IsReadDown e n b) all number (λ p rule. read-down laws.back laws.framed e n b p rule) keeps;
      }

  -- once the upward packet is handed over
  pub record IsUpward (world : Held) : Type 0 where
    pub carried : HasCarried world number (map (spelled (spell_up e)) (posted_up n g number round before))
    pub rules : EachPosted (IsUpOf e n) (posted_up n g number round before)
    pub due : due_in world.flights number ≡ map (spell_up e) (up_now n g number round before)
    pub each : Each (IsReadUp e n) (up_now n g number round before)

  pub upward : (agent : AgentState) (world next : Held) → agents.AgentStandsFor agent (heard_calls n g number round before) →
      HasCarried world number (map (spelled (spell_up e)) before.up) → EachPosted (IsUpOf e n) before.up →
      ((calls : AgentHistory) → agents.AgentStandsFor agent calls → IsUpOf e n (packet_up n g calls)) →
      ((calls : AgentHistory) (departures : List Departure) → agents.AgentStandsFor agent calls → HasCarried world number departures →
      HasCarried next number (departures ++ handed (spell_up e) number round.up (Some (packet_up n g calls)))) →
      IsUpward next
  upward agent world next stands carried rules spells carries =
      let calls = heard_calls n g number round before in
      let packet : Option UpPacket = Some (packet_up n g calls) in
      let is = up-posted n g number round before in
      let all = posted_up n g number round before in
      let holds : HasCarried next number (map (spelled (spell_up e)) all) =
      subst (λ (ds : List Departure). HasCarried next number ds) (posted-spelled (spell_up e) number round.up packet before.up ∙ ap (λ (ps : List (Posted UpPacket)). map (spelled (spell_up e)) ps) (sym is))
      (carries calls (map (spelled (spell_up e)) before.up) stands carried) in
      let keeps : EachPosted (IsUpOf e n) all =
      subst (λ (ps : List (Posted UpPacket)). EachPosted (IsUpOf e n) ps) (sym is)
      (EachPosted-append (IsUpOf e n) before.up (posted number round.up packet) rules (posted-some (IsUpOf e n) number round.up packet (spells calls stands))) in
      record {
        carried = holds;
        rules = keeps;
        due = due-arrives laws.one (spell_up e) next number all (laws.alike.up (spell_up e) all number) holds;
        each = each-arrives (IsUpOf e n) (IsReadUp e n) all number (λ p rule. read-up laws.back laws.framed e n p rule) keeps;
      }

  -- what is told rises within its batch and is to endpoints of the net, before and now
  pub told-now : AreSlots n b e round.told → ToldWithin b (lane_of before.steps) → ToldRises (lane_of before.steps) → ToldTo n (lane_of before.steps) →
      ToldWithin b (made_calls n g number round before) × ToldRises (made_calls n g number round before) × ToldTo n (made_calls n g number round before)
  told-now slots within rises to = ((are-within b round.told slots.offsets, within), (rises-from round.told slots.rising, rises), (are-to n round.told slots.destinations, to))

  pub ends : (agent : AgentState) (lane : LaneState) (down up down_at_last up_at_last : Held) (allocations : List Allocation) →
      AreSlots n b e round.told → ToldWithin b (lane_of before.steps) → ToldRises (lane_of before.steps) → ToldTo n (lane_of before.steps) →
      IsDownward down → IsUpward up →
      agents.AgentStandsFor agent (SendsDue number ∷ (MakesUp ∷ heard_calls n g number round before)) →
      lanes.LaneStandsFor lane (Records number ∷ reading number round.raw (read_calls n g number round before)) allocations →
      ((departures : List Departure) → HasCarried down number departures → HasCarried down_at_last (number + 1) departures) →
      ((departures : List Departure) → HasCarried up number departures → HasCarried up_at_last (number + 1) departures) →
      StandsAt e n b agent lane down_at_last up_at_last (number + 1) (after_round n g number round before) allocations
  ends agent lane down up down_at_last up_at_last allocations slots within rises to below above agent_stands lane_stands goes_down goes_up =
      let made = told-now slots within rises to in
      let read_is = lane-read n g number round before in
      let calls = read_calls n g number round before in
      record {
        agent = subst (λ (h : AgentHistory). agents.AgentStandsFor agent (SendsDue number ∷ h)) (sym (agent-recorded n g number round before)) agent_stands;
        lane = subst (λ (h : LaneHistory). lanes.LaneStandsFor lane (Records number ∷ h) allocations) (sym read_is) lane_stands;
        down = goes_down (map (spelled (spell_down e)) (posted_down n g number round before)) below.carried;
        up = goes_up (map (spelled (spell_up e)) (posted_up n g number round before)) above.carried;
        downward = below.rules;
        upward = above.rules;
        within = subst (ToldWithin b) (sym read_is) (within-read b number round.raw calls (within-read b number (up_now n g number round before) (made_calls n g number round before) made.0));
        rises = subst ToldRises (sym read_is) (rises-read number round.raw calls (rises-read number (up_now n g number round before) (made_calls n g number round before) made.1));
        to = subst (ToldTo n) (sym read_is) (to-read n number round.raw calls (to-read n number (up_now n g number round before) (made_calls n g number round before) made.2));
      }

-- ---- all of a round

pub sizes-after : (old new : AgentState) (e n b g : ℕ) → IsSameAgent old new → HasSizes old e n b g → HasSizes new e n b g
sizes-after old new e n b g same sizes = record { me = same.me ∙ sizes.me; endpoints = same.endpoints ∙ sizes.endpoints; b = same.b ∙ sizes.b; g = same.g ∙ sizes.g }

pub record LaneSizes (lane : LaneState) (e n slots window : ℕ) : Type 0 where
  pub endpoint : lane.endpoint ≡ e
  pub endpoints : lane.endpoints ≡ n
  pub b : lane.b ≡ slots
  pub g : lane.g ≡ window

pub lane-after : (old new : LaneState) (e n b g : ℕ) → IsSameLane old new → LaneSizes old e n b g → LaneSizes new e n b g
lane-after old new e n b g same sizes = record { endpoint = same.endpoint ∙ sizes.endpoint; endpoints = same.endpoints ∙ sizes.endpoints; b = same.b ∙ sizes.b; g = same.g ∙ sizes.g }

pub lane_sizes : (lane : LaneState) (e n b g : ℕ) → LaneSizes lane e n b g → (P : ℕ → ℕ → ℕ → ℕ → Type 0) → P lane.endpoint lane.endpoints lane.b lane.g → P e n b g
lane_sizes lane e n b g sizes P p =
    subst (λ x. P e n b x) sizes.g (subst (λ x. P e n x lane.g) sizes.b (subst (λ x. P e x lane.b lane.g) sizes.endpoints (subst (λ x. P x lane.endpoints lane.b lane.g) sizes.endpoint p)))

-- what the parts of a round leave, by the first sizes of the lane
pub record Run (was : RoundsState) (number : ℕ) (events : Events) (told : List Told) (asked heard made ended : AgentState) (told_to read_by raw_by done : LaneState) (below below_at_last above above_at_last : Held) : Type 0 where
  pub slots : AreSlots was.lane.endpoints was.lane.b was.lane.endpoint told
  pub number_is : number ≡ was.lane.round
  pub asks : (calls : AgentHistory) → agents.AgentStandsFor was.agent calls → agents.AgentStandsFor asked (with_each (λ (a : ℕ × ℕ). Asks a.0 a.1) events.asks (with_each Boots (replicate events.boots events.version) calls))
  pub makes_down : (history : LaneHistory) (allocations : List Allocation) → lanes.LaneStandsFor was.lane history allocations → lanes.LaneStandsFor told_to (MakesDown number told ∷ history) allocations
  pub spells_down : (history : LaneHistory) (allocations : List Allocation) → lanes.LaneStandsFor was.lane history allocations → IfSome (packet_down was.lane.g history number told) (IsDownOf was.lane.endpoint was.lane.endpoints was.lane.b)
  pub carries_down : (history : LaneHistory) (allocations : List Allocation) (departures : List Departure) → lanes.LaneStandsFor was.lane history allocations → HasCarried was.down number departures →
      HasCarried below number (departures ++ handed (spell_down was.lane.endpoint) number events.down (packet_down was.lane.g history number told))
  pub hears : (calls : AgentHistory) (packets : List DownPacket) → agents.AgentStandsFor asked calls → due_in below.flights number ≡ map (spell_down was.lane.endpoint) packets →
      Each (IsReadDown was.lane.endpoint was.lane.endpoints was.lane.b) packets → agents.AgentStandsFor heard (hearing number packets calls)
  pub goes_down : (departures : List Departure) → HasCarried below number departures → HasCarried below_at_last (number + 1) departures
  pub makes_up : (calls : AgentHistory) → agents.AgentStandsFor heard calls → agents.AgentStandsFor made (MakesUp ∷ calls)
  pub spells_up : (calls : AgentHistory) → agents.AgentStandsFor heard calls → IsUpOf was.lane.endpoint was.lane.endpoints (packet_up was.lane.endpoints was.lane.g calls)
  pub carries_up : (calls : AgentHistory) (departures : List Departure) → agents.AgentStandsFor heard calls → HasCarried was.up number departures →
      HasCarried above number (departures ++ handed (spell_up was.lane.endpoint) number events.up (Some (packet_up was.lane.endpoints was.lane.g calls)))
  pub reads : (history : LaneHistory) (allocations : List Allocation) (packets : List UpPacket) → lanes.LaneStandsFor told_to history allocations → due_in above.flights number ≡ map (spell_up was.lane.endpoint) packets →
      Each (IsReadUp was.lane.endpoint was.lane.endpoints) packets → lanes.LaneStandsFor read_by (reading number packets history) allocations
  pub goes_up : (departures : List Departure) → HasCarried above number departures → HasCarried above_at_last (number + 1) departures
  pub reads_raw : (history : LaneHistory) (allocations : List Allocation) → lanes.LaneStandsFor read_by history allocations → lanes.LaneStandsFor raw_by (with_raw was.lane.endpoint was.lane.endpoints number events.raw history) allocations
  pub records : (history : LaneHistory) (allocations : List Allocation) → lanes.LaneStandsFor raw_by history allocations → lanes.LaneStandsFor done (Records number ∷ history) allocations
  pub sends : (calls : AgentHistory) → agents.AgentStandsFor made calls → agents.AgentStandsFor ended (SendsDue number ∷ calls)
  pub last : LaneSizes done was.lane.endpoint was.lane.endpoints was.lane.b was.lane.g

abbrev pub round_in : RoundsState → Events → List Told → Round
round_in was events told = round_with was.lane.endpoint was.lane.endpoints events told

pub number-is : (order : RoundsAreInOrder) (was : RoundsState) (number : ℕ) (rounds : List Round) (allocations : List Allocation) → number ≡ was.lane.round → RoundsStandFor was rounds allocations → number ≡ length rounds
number-is order was number rounds allocations is stood = is ∙ stood.lane.round ∙ (order was.lane.endpoints was.lane.g rounds).recorded

-- the downward half
pub went-down : (laws : WorldLaws) (was : RoundsState) (number : ℕ) (round : Round) (below : Held) (rounds : List Round) (allocations : List Allocation) → number ≡ length rounds →
    ((history : LaneHistory) (allocations : List Allocation) → lanes.LaneStandsFor was.lane history allocations → IfSome (packet_down was.lane.g history number round.told) (IsDownOf was.lane.endpoint was.lane.endpoints was.lane.b)) →
    ((history : LaneHistory) (allocations : List Allocation) (departures : List Departure) → lanes.LaneStandsFor was.lane history allocations → HasCarried was.down number departures →
    HasCarried below number (departures ++ handed (spell_down was.lane.endpoint) number round.down (packet_down was.lane.g history number round.told))) →
    RoundsStandFor was rounds allocations → IsDownward laws was.lane.endpoint was.lane.endpoints was.lane.b was.lane.g number round (played_by was rounds) below
went-down laws was number round below rounds allocations len spells carries stood =
    downward laws was.lane.endpoint was.lane.endpoints was.lane.b was.lane.g number round (played_by was rounds) was.lane was.down below allocations stood.lane
    (subst (λ m. HasCarried was.down m (map (spelled (spell_down was.lane.endpoint)) (played_by was rounds).down)) (sym len) stood.down) stood.downward spells carries

pub record Ran (was : RoundsState) (number : ℕ) (events : Events) (told : List Told) (made ended : AgentState) (read_by raw_by done : LaneState) (below_at_last above_at_last : Held) (rounds : List Round) (allocations : List Allocation) : Type 0 where
  pub number_is : number ≡ length rounds
  pub agent : agents.AgentStandsFor made (MakesUp ∷ heard_calls was.lane.endpoints was.lane.g number (round_in was events told) (played_by was rounds))
  pub read : lanes.LaneStandsFor read_by (read_calls was.lane.endpoints was.lane.g number (round_in was events told) (played_by was rounds)) allocations
  pub raw : lanes.LaneStandsFor raw_by (reading number (round_in was events told).raw (read_calls was.lane.endpoints was.lane.g number (round_in was events told) (played_by was rounds))) allocations
  pub all : StandsAt was.lane.endpoint was.lane.endpoints was.lane.b ended done below_at_last above_at_last (number + 1) (after_round was.lane.endpoints was.lane.g number (round_in was events told) (played_by was rounds)) allocations

pub ran : (laws : WorldLaws) (order : RoundsAreInOrder) (was : RoundsState) (number : ℕ) (events : Events) (told : List Told) (asked heard made ended : AgentState) (told_to read_by raw_by done : LaneState) (below below_at_last above above_at_last : Held) →
    Run was number events told asked heard made ended told_to read_by raw_by done below below_at_last above above_at_last →
    (rounds : List Round) (allocations : List Allocation) → RoundsStandFor was rounds allocations →
    Ran was number events told made ended read_by raw_by done below_at_last above_at_last rounds allocations
ran laws order was number events told asked heard made ended told_to read_by raw_by done below below_at_last above above_at_last run rounds allocations stood =
    let e = was.lane.endpoint in
    let n = was.lane.endpoints in
    let b = was.lane.b in
    let g = was.lane.g in
    let before = played_by was rounds in
    let round = round_in was events told in
    let len = number-is order was number rounds allocations run.number_is stood in
    let down = went-down laws was number round below rounds allocations len run.spells_down run.carries_down stood in
    let asked_now = run.asks (agent_of before.steps) stood.agent in
    let heard_now = run.hears (asked_calls n g number round before) (down_now n g number round before) asked_now down.due down.each in
    let up = upward laws e n b g number round before heard was.up above heard_now
    (subst (λ m. HasCarried was.up m (map (spelled (spell_up e)) before.up)) (sym len) stood.up) stood.upward run.spells_up run.carries_up in
    let made_now = run.makes_up (heard_calls n g number round before) heard_now in
    let told_now = run.makes_down (lane_of before.steps) allocations stood.lane in
    let read_now = run.reads (made_calls n g number round before) allocations (up_now n g number round before) told_now up.due up.each in
    let raw_now = subst (λ (h : LaneHistory). lanes.LaneStandsFor raw_by h allocations) (with_raw-reads e n number events.raw (read_calls n g number round before)) (run.reads_raw (read_calls n g number round before) allocations read_now) in
    record {
      number_is = len;
      agent = made_now;
      read = read_now;
      raw = raw_now;
      all = ends laws e n b g number round before ended done below above below_at_last above_at_last allocations run.slots stood.within stood.rises stood.to down up
          (run.sends (MakesUp ∷ heard_calls n g number round before) made_now)
          (run.records (reading number round.raw (read_calls n g number round before)) allocations raw_now)
          run.goes_down run.goes_up;
    }

-- ---- what it shows, by the number of rounds

length-more : (round : Round) (rounds : List Round) → length rounds + 1 ≡ length (round ∷ rounds)
length-more round rounds = omega arith

pub stands-next : (e n b g number : ℕ) (agent : AgentState) (lane : LaneState) (down up : Held) (whole : Bool) (round : Round) (rounds : List Round) (allocations : List Allocation) → LaneSizes lane e n b g →
    number ≡ length rounds → StandsAt e n b agent lane down up (number + 1) (after_round n g number round (played n g rounds)) allocations →
    RoundsStandFor (record { agent = agent; lane = lane; down = down; up = up; is_whole = whole }) (round ∷ rounds) allocations
stands-next e n b g number agent lane down up whole round rounds allocations sizes len it =
    let counted = subst (λ m. StandsAt e n b agent lane down up (m + 1) (after_round n g m round (played n g rounds)) allocations) len it in
    let longer = subst (λ m. StandsAt e n b agent lane down up m (after_round n g (length rounds) round (played n g rounds)) allocations) (length-more round rounds) counted in
    subst (λ x. StandsAt x lane.endpoints lane.b agent lane down up (length (round ∷ rounds)) (played lane.endpoints lane.g (round ∷ rounds)) allocations) (sym sizes.endpoint)
    (subst (λ x. StandsAt e x lane.b agent lane down up (length (round ∷ rounds)) (played x lane.g (round ∷ rounds)) allocations) (sym sizes.endpoints)
    (subst (λ x. StandsAt e n x agent lane down up (length (round ∷ rounds)) (played n lane.g (round ∷ rounds)) allocations) (sym sizes.b)
    (subst (λ x. StandsAt e n b agent lane down up (length (round ∷ rounds)) (played n x (round ∷ rounds)) allocations) (sym sizes.g) longer)))

-- the entries that are recorded
pub entries-are : (e n g number : ℕ) (round : Round) (rounds : List Round) (was now : List Entry) → number ≡ length rounds →
    now ≡ was ++ filter_map (next_entry e g (reading number round.raw (read_calls n g number round (played n g rounds)))) (range_with_len 0 n) → now ≡ was ++ entries_by e n g (round ∷ rounds)
entries-are e n g number round rounds was now len it =
    subst (λ m. now ≡ was ++ filter_map (next_entry e g (lane_of (read n g m round (played n g rounds)))) (range_with_len 0 n)) len
    (subst (λ (h : LaneHistory). now ≡ was ++ filter_map (next_entry e g h) (range_with_len 0 n)) (sym (lane-read n g number round (played n g rounds))) it)

-- the slots that are sent in
pub sends-are : (n b g number : ℕ) (round : Round) (rounds : List Round) (sent : List Slot) → number ≡ length rounds →
    sent ≡ sent_in b g (MakesUp ∷ heard_calls n g number round (played n g rounds)) number → sent ≡ sent_by n b g (round ∷ rounds)
sends-are n b g number round rounds sent len it =
    subst (λ m. sent ≡ sent_in b g (agent_of (recorded n g m round (played n g rounds))) m) len
    (subst (λ (h : AgentHistory). sent ≡ sent_in b g h number) (sym (agent-recorded n g number round (played n g rounds))) it)

-- the raw packets that are refused
pub refused-are : (e n g number : ℕ) (events : Events) (told : List Told) (rounds : List Round) (was now : List (ℕ × ℕ)) → number ≡ length rounds →
    now ≡ was ++ refused_in e n number events.raw (read_calls n g number (round_with e n events told) (played n g rounds)) → now ≡ was ++ refused_by e n g events told rounds
refused-are e n g number events told rounds was now len it =
    let round : Round = record (round_with e n events told) { raw = [] } in
    subst (λ m. now ≡ was ++ refused_in e n m events.raw (lane_of (read n g m round (played n g rounds)))) len
    (subst (λ (h : LaneHistory). now ≡ was ++ refused_in e n number events.raw h) (sym (lane-read n g number round (played n g rounds))) it)

-- ---- what the agent may hear

pub may-hear-now : (laws : WorldLaws) (heard_laws : Laws) (order : RoundsAreInOrder) (was : RoundsState) (number : ℕ) (events : Events) (told : List Told) (asked : AgentState) (below : Held) (rounds : List Round) (allocations : List Allocation) →
    number ≡ length rounds → RoundsStandFor was rounds allocations →
    IsDownward laws was.lane.endpoint was.lane.endpoints was.lane.b was.lane.g number (round_in was events told) (played_by was rounds) below →
    ((calls : AgentHistory) → agents.AgentStandsFor was.agent calls → agents.AgentStandsFor asked (with_each (λ (a : ℕ × ℕ). Asks a.0 a.1) events.asks (with_each Boots (replicate events.boots events.version) calls))) →
    HasSizes asked was.lane.endpoint was.lane.endpoints was.lane.b was.lane.g →
    (calls : AgentHistory) × (packets : List DownPacket) × agents.AgentStandsFor asked calls × (due_in below.flights number ≡ map (spell_down asked.me) packets)
    × Each (IsReadDown asked.me asked.endpoints asked.b) packets × MayHear asked.g number calls packets
may-hear-now laws heard_laws order was number events told asked below rounds allocations len stood down asks sizes =
    let e = was.lane.endpoint in
    let n = was.lane.endpoints in
    let b = was.lane.b in
    let g = was.lane.g in
    let before = played_by was rounds in
    let round = round_in was events told in
    let may : MayHear g number (asked_calls n g number round before) (down_now n g number round before) =
    subst (λ m. MayHear g m (asked_calls n g m round before) (down_now n g m round before)) (sym len)
    (round-heard heard_laws order n g round rounds) in
    to_sizes asked e n b g sizes
    (λ x y z w. (calls : AgentHistory) × (packets : List DownPacket) × agents.AgentStandsFor asked calls × (due_in below.flights number ≡ map (spell_down x) packets) × Each (IsReadDown x y z) packets × MayHear w number calls packets)
    (asked_calls n g number round before, down_now n g number round before, asks (agent_of before.steps) stood.agent, down.due, down.each, may)

-- of no destination more is told than is owed: of those of the net by the ledger, and to others nothing is told
pub told-is-owed : NoneIsToldBeyond → (e b number : ℕ) (agent : AgentState) (lane : LaneState) (down up : Held) (all : PlayedEnds) (allocations : List Allocation) →
    StandsAt e lane.endpoints b agent lane down up number all allocations →
    ((history : LaneHistory) (allocations : List Allocation) → lanes.LaneStandsFor lane history allocations → (dst : ℕ) → dst < lane.endpoints → lanes.FlowIsWithinLedger lane.g history allocations dst) →
    ToldIsOwed lane.g all.steps
told-is-owed none_beyond e b number agent lane down up all allocations stands ledger dst =
    let calls = lane_of all.steps in
    elim (cases_lt dst lane.endpoints) [
      | inl below ↦ let flow = ledger calls allocations stands.lane dst below in omega (arith, flow.counted, flow.owed)
      | inr beyond ↦ let none = none_beyond lane.endpoints lane.g calls dst stands.to beyond in omega (arith, none)
    ]
