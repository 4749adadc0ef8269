-- The calls of a round, end by end.
use Rattle.std.proofs.Common.{◌≡◌, ℕ, ◌+◌, ◌<◌, ◌≤◌, true, false, cond, suc, get_or, List, [], ◌∷◌, ◌++◌, length, map, filter, Option, Some, None, option_map, option_to_list, IfSome, sym, ◌∙◌, ap, subst, refl, inl, inr, arith}
use Rattle.std.proofs.lemmas.List.{map-append}
use Rattle.std.proofs.lemmas.List.Elements.{All-head, All-tail}
use Rattle.std.specs.Prelude.{All}
use Rattle.std.specs.List.Sorted.{IsStrictlyIncreasing}
use Rattle.loss_world.specs.declared.fate.Fate.{Fate}
use Rattle.loss_world.specs.Arrivals.{Departure, arrives_in, arrivals}
use Rattle.loss_world.specs.History.{EachAskTakesOne}
use Rattle.loss_world.specs.InTransit.{Held, due_in}
use Rattle.fcp_framing.specs.declared.packet.Told.{Told}
use Rattle.fcp_framing.specs.Laws.{AreReadBack}
use Rattle.endpoint_history.specs.Packets.{DownPacket, UpPacket, Resets, Requests, down_packet, up_packet, framed_down, framed_up, AreFramedAlike}
use Rattle.endpoint_history.specs.Agent.{AgentEvent, AgentHistory, Boots, Asks, TakesDown, MakesUp, packet_up}
use Rattle.endpoint_history.specs.Lane.{LaneEvent, LaneHistory, MakesDown, TakesUp, packet_down}
use Rattle.endpoint_history.specs.Reading.{spelled}
use Rattle.endpoint_history.specs.RoundLaws.{RoundsAreInOrder}
use Rattle.endpoint_history.specs.Rounds.{Round, Posted, PlayedEnds, arriving, then_each, begun, posted_down, heard, posted_up, read, recorded, played, EachPosted}
use Rattle.endpoint_history.specs.Steps.{Step, OfAgent, OfLane, agent_of, lane_of, RoundsRise}
use Rattle.endpoint_history.specs.Tellings.{SlotsAreWithin, ToldWithin, RisesFrom, ToldRises, AreTo, ToldTo}
use Rattle.endpoint_history.specs.Counts.{Allocation}
use Rattle.endpoint_history.proofs.Reading.{not_asked, asked_below}
use Rattle.endpoint_history.proofs.Rounds.{agent-lane, lane-agent}
use Rattle.arbiter_lane.specs.State.{LaneState}
use Rattle.arbiter_lane.specs.Standing as lanes
use Rattle.lane_rounds.specs.State.{RoundsState, with_each}
use Rattle.lane_rounds.specs.Standing.{RoundsStandFor, HasCarried, IsDownOf, IsUpOf}
use Rattle.lane_rounds.specs.Parts.{hearing, reading, handed, Each, IsReadDown, IsReadUp, MayHear}
use Rattle.lane_rounds.proofs.Coming.{Laws, from-lane-read, may-hear}

-- ---- runs of like calls

agent-agent : {X : Type 0} (event : X → AgentEvent) (xs : List X) (steps : List Step) → agent_of (then_each (λ x. OfAgent (event x)) xs steps) ≡ with_each event xs (agent_of steps)
agent-agent event [] steps = refl
agent-agent event (x ∷ xs) steps = agent-agent event xs (OfAgent (event x) ∷ steps)

lane-lane : {X : Type 0} (event : X → LaneEvent) (xs : List X) (steps : List Step) → lane_of (then_each (λ x. OfLane (event x)) xs steps) ≡ with_each event xs (lane_of steps)
lane-lane event [] steps = refl
lane-lane event (x ∷ xs) steps = lane-lane event xs (OfLane (event x) ∷ steps)

-- ---- a round

-- the packet that is posted
abbrev pub posted : {T : Type 0} → ℕ → Option Fate → Option T → List (Posted T)
posted round fate packet = option_to_list (option_map (λ p. record { round = round; fate = fate; packet = p }) packet)

module _ (endpoints g number : ℕ) (round : Round) (before : PlayedEnds) where
  abbrev pub asked_calls : AgentHistory
  asked_calls = with_each (λ (a : ℕ × ℕ). Asks a.0 a.1) round.asks (with_each Boots round.boots (agent_of before.steps))

  abbrev pub made_calls : LaneHistory
  made_calls = MakesDown number round.told ∷ lane_of before.steps

  abbrev pub down_now : List DownPacket
  down_now = arriving (posted_down endpoints g number round before) number

  abbrev pub heard_calls : AgentHistory
  heard_calls = hearing number down_now asked_calls

  abbrev pub up_now : List UpPacket
  up_now = arriving (posted_up endpoints g number round before) number

  abbrev pub read_calls : LaneHistory
  read_calls = reading number up_now made_calls

  pub agent-begun : agent_of (begun endpoints g number round before) ≡ asked_calls
  agent-begun =
      agent-agent (λ (a : ℕ × ℕ). Asks a.0 a.1) round.asks (then_each (λ version. OfAgent (Boots version)) round.boots before.steps)
      ∙ ap (λ calls. with_each (λ (a : ℕ × ℕ). Asks a.0 a.1) round.asks calls) (agent-agent Boots round.boots before.steps)

  pub lane-begun : lane_of (begun endpoints g number round before) ≡ lane_of before.steps
  lane-begun =
      lane-agent (λ (a : ℕ × ℕ). Asks a.0 a.1) round.asks (then_each (λ version. OfAgent (Boots version)) round.boots before.steps)
      ∙ lane-agent Boots round.boots before.steps

  pub down-posted : posted_down endpoints g number round before ≡ before.down ++ posted number round.down (packet_down g (lane_of before.steps) number round.told)
  down-posted = ap (λ calls. before.down ++ posted number round.down (packet_down g calls number round.told)) lane-begun

  pub agent-heard : agent_of (heard endpoints g number round before) ≡ heard_calls
  agent-heard =
      agent-agent (TakesDown number) down_now (OfLane (MakesDown number round.told) ∷ begun endpoints g number round before)
      ∙ ap (hearing number down_now) agent-begun

  pub lane-heard : lane_of (heard endpoints g number round before) ≡ made_calls
  lane-heard =
      lane-agent (TakesDown number) down_now (OfLane (MakesDown number round.told) ∷ begun endpoints g number round before)
      ∙ ap (λ calls. MakesDown number round.told ∷ calls) lane-begun

  pub up-posted : posted_up endpoints g number round before ≡ before.up ++ posted number round.up (Some (packet_up endpoints g heard_calls))
  up-posted = ap (λ calls. before.up ++ posted number round.up (Some (packet_up endpoints g calls))) agent-heard

  pub agent-recorded : agent_of (recorded endpoints g number round before) ≡ MakesUp ∷ heard_calls
  agent-recorded =
      agent-lane (TakesUp number) round.raw (then_each (λ packet. OfLane (TakesUp number packet)) up_now (OfAgent MakesUp ∷ heard endpoints g number round before))
      ∙ agent-lane (TakesUp number) up_now (OfAgent MakesUp ∷ heard endpoints g number round before)
      ∙ ap (λ calls. MakesUp ∷ calls) agent-heard

  pub lane-read : lane_of (read endpoints g number round before) ≡ reading number round.raw read_calls
  lane-read =
      lane-lane (TakesUp number) round.raw (then_each (λ packet. OfLane (TakesUp number packet)) up_now (OfAgent MakesUp ∷ heard endpoints g number round before))
      ∙ ap (reading number round.raw) (lane-lane (TakesUp number) up_now (OfAgent MakesUp ∷ heard endpoints g number round before) ∙ ap (reading number up_now) lane-heard)

-- ---- what the world holds

pub posted-spelled : {T : Type 0} (spell : T → List ℕ) (number : ℕ) (fate : Option Fate) (packet : Option T) (before : List (Posted T)) →
    map (spelled spell) before ++ handed spell number fate packet ≡ map (spelled spell) (before ++ posted number fate packet)
posted-spelled spell number fate None before = sym (map-append (spelled spell) before [])
posted-spelled spell number fate (Some p) before = sym (map-append (spelled spell) before (record { round = number; fate = fate; packet = p } ∷ []))

-- what is due in a round that was not asked for are the packets that arrive in it
pub due-arrives : {T : Type 0} (one : EachAskTakesOne) (spell : T → List ℕ) (world : Held) (number : ℕ) (sent : List (Posted T)) →
    arrivals (map (spelled spell) sent) number ≡ map spell (arriving sent number) →
    HasCarried world number (map (spelled spell) sent) → due_in world.flights number ≡ map spell (arriving sent number)
due-arrives one spell world number sent alike it =
    it.stands.left number (asked_below number it.calls it.asked)
    ∙ one.whole it.calls number (not_asked number it.calls it.asked)
    ∙ ap (λ (ds : List Departure). arrivals ds number) it.handed
    ∙ alike

-- ---- what was posted keeps the rules

pub posted-some : {T : Type 0} (P : T → Type 0) (number : ℕ) (fate : Option Fate) (packet : Option T) → IfSome packet P → EachPosted P (posted number fate packet)
posted-some P number fate None it = tt
posted-some P number fate (Some p) it = (it, tt)

pub each-arrives : {T : Type 0} (P Q : T → Type 0) (sent : List (Posted T)) (number : ℕ) → ((x : T) → P x → Q x) → EachPosted P sent → Each Q (arriving sent number)
each-arrives P Q [] number then a = tt
each-arrives {T} P Q (p ∷ sent) number then a =
    let rest = each-arrives P Q sent number then a.1 in
    elim (arrives_in p.fate p.round number) as (λ b. Each Q (map (λ (q : Posted T). q.packet) (cond b (p ∷ filter (λ (q : Posted T). arrives_in q.fate q.round number) sent) (filter (λ (q : Posted T). arrives_in q.fate q.round number) sent)))) [
      | true ↦ (then p.packet a.0, rest)
      | false ↦ rest
    ]

pub read-down : (back : AreReadBack) (alike : AreFramedAlike) (endpoint endpoints b : ℕ) (p : DownPacket) → IsDownOf endpoint endpoints b p → IsReadDown endpoint endpoints b p
read-down back alike endpoint endpoints b p spelled =
    let it = back.down endpoints b (framed_down endpoint p) spelled.rules spelled.fits in
    record {
      own = record { spelled = it.0; destination = ap (λ d. d.dst) it.1 };
      back = ap down_packet it.1 ∙ alike.down endpoint p;
    }

framed-src : (endpoint : ℕ) (p : UpPacket) → (framed_up endpoint p).src ≡ endpoint
framed-src endpoint (Resets epoch version) = refl
framed-src endpoint (Requests packet) = refl

pub read-up : (back : AreReadBack) (alike : AreFramedAlike) (endpoint endpoints : ℕ) (p : UpPacket) → IsUpOf endpoint endpoints p → IsReadUp endpoint endpoints p
read-up back alike endpoint endpoints p (inl spelled) =
    let it = back.up endpoints (framed_up endpoint p) (inl spelled.rules) spelled.fits in
    record {
      own = record { spelled = it.0; source = ap (λ u. u.src) it.1 ∙ framed-src endpoint p };
      back = ap up_packet it.1 ∙ alike.up endpoint p;
    }
read-up back alike endpoint endpoints p (inr spelled) =
    let it = back.up endpoints (framed_up endpoint p) (inr spelled.rules) spelled.fits in
    record {
      own = record { spelled = it.0; source = ap (λ u. u.src) it.1 ∙ framed-src endpoint p };
      back = ap up_packet it.1 ∙ alike.up endpoint p;
    }

-- ---- what is told rises within its batch, and is to endpoints of the net

pub are-within : (b : ℕ) (told : List Told) → All (λ (t : Told). t.offset < b) told → SlotsAreWithin b told
are-within b [] all = tt
are-within b (t ∷ told) all = (All-head (λ (t : Told). t.offset < b) t told all, are-within b told (All-tail (λ (t : Told). t.offset < b) t told all))

rises-after : (low : ℕ) (t : Told) (told : List Told) → low ≤ t.offset → IsStrictlyIncreasing (map (λ (s : Told). s.offset) (t ∷ told)) → RisesFrom low (t ∷ told)
rises-after low t [] first rising = (first, tt)
rises-after low t (u ∷ told) first rising =
    let tail : IsStrictlyIncreasing (map (λ (s : Told). s.offset) (u ∷ told)) = λ k within.
    let e : suc k + 1 ≡ suc (k + 1) = omega arith in
    subst (λ (n : ℕ). get_or (map (λ (s : Told). s.offset) (u ∷ told)) k 0 < get_or (map (λ (s : Told). s.offset) (t ∷ u ∷ told)) n 0) e (rising (suc k) (omega (arith, within))) in
    let less : t.offset < u.offset = rising 0 (omega arith) in
    (first, rises-after (t.offset + 1) u told (omega (arith, less)) tail)

pub rises-from : (told : List Told) → IsStrictlyIncreasing (map (λ (s : Told). s.offset) told) → RisesFrom 0 told
rises-from [] rising = tt
rises-from (t ∷ told) rising = rises-after 0 t told (omega arith) rising

pub within-read : (b number : ℕ) (packets : List UpPacket) (calls : LaneHistory) → ToldWithin b calls → ToldWithin b (reading number packets calls)
within-read b number [] calls it = it
within-read b number (p ∷ packets) calls it = within-read b number packets (TakesUp number p ∷ calls) it

pub rises-read : (number : ℕ) (packets : List UpPacket) (calls : LaneHistory) → ToldRises calls → ToldRises (reading number packets calls)
rises-read number [] calls it = it
rises-read number (p ∷ packets) calls it = rises-read number packets (TakesUp number p ∷ calls) it

pub are-to : (endpoints : ℕ) (told : List Told) → All (λ (t : Told). t.dst < endpoints) told → AreTo endpoints told
are-to endpoints [] all = tt
are-to endpoints (t ∷ told) all = (All-head (λ (t : Told). t.dst < endpoints) t told all, are-to endpoints told (All-tail (λ (t : Told). t.dst < endpoints) t told all))

pub to-read : (endpoints number : ℕ) (packets : List UpPacket) (calls : LaneHistory) → ToldTo endpoints calls → ToldTo endpoints (reading number packets calls)
to-read endpoints number [] calls it = it
to-read endpoints number (p ∷ packets) calls it = to-read endpoints number packets (TakesUp number p ∷ calls) it

rise-read : (number : ℕ) (packets : List UpPacket) (calls : LaneHistory) → RoundsRise (reading number packets calls) → RoundsRise calls
rise-read number [] calls it = it
rise-read number (p ∷ packets) calls it = rise-read number packets (TakesUp number p ∷ calls) it

-- ---- what the agent hears in a round it may hear

pub round-heard : (laws : Laws) (order : RoundsAreInOrder) (endpoints g : ℕ) (round : Round) (rounds : List Round) →
    MayHear g (length rounds) (asked_calls endpoints g (length rounds) round (played endpoints g rounds)) (down_now endpoints g (length rounds) round (played endpoints g rounds))
round-heard laws order endpoints g round rounds =
    let number = length rounds in
    let before = played endpoints g rounds in
    let o = order endpoints g (round ∷ rounds) in
    let start = begun endpoints g number round before in
    let packets = down_now endpoints g number round before in
    let arrives = from-lane-read g number (up_now endpoints g number round before) (OfAgent MakesUp ∷ heard endpoints g number round before)
    (from-lane-read g number round.raw (then_each (λ packet. OfLane (TakesUp number packet)) (up_now endpoints g number round before) (OfAgent MakesUp ∷ heard endpoints g number round before)) o.from_lane) in
    let rise_all : RoundsRise (reading number round.raw (read_calls endpoints g number round before)) = subst RoundsRise (lane-read endpoints g number round before) o.rise in
    let rise : RoundsRise (made_calls endpoints g number round before) =
    rise-read number (up_now endpoints g number round before) (made_calls endpoints g number round before) (rise-read number round.raw (read_calls endpoints g number round before) rise_all) in
    let lane : lane_of (OfLane (MakesDown number round.told) ∷ start) ≡ made_calls endpoints g number round before = ap (λ (calls : LaneHistory). MakesDown number round.told ∷ calls) (lane-begun endpoints g number round before) in
    subst (λ (calls : AgentHistory). MayHear g number calls packets) (agent-begun endpoints g number round before)
    (may-hear laws g number packets (OfLane (MakesDown number round.told) ∷ start) arrives (subst RoundsRise (sym lane) rise))

-- ---- slots that are published

pub stands-allocated : (state : RoundsState) (new : LaneState) (a : Allocation) (rounds : List Round) (allocations : List Allocation) → new ≡ record (state.lane) { lines = new.lines } →
    ((history : LaneHistory) (allocations : List Allocation) → lanes.LaneStandsFor state.lane history allocations → lanes.LaneStandsFor new history (a ∷ allocations)) →
    RoundsStandFor state rounds allocations → RoundsStandFor (record state { lane = new }) rounds (a ∷ allocations)
stands-allocated state new a rounds allocations frame then it =
    let next : LaneState = record (state.lane) { lines = new.lines } in
    subst (λ (l : LaneState). RoundsStandFor (record state { lane = l }) rounds (a ∷ allocations)) (sym frame)
    (record {
      agent = it.agent;
      lane = subst (λ (l : LaneState). lanes.LaneStandsFor l (lane_of (played state.lane.endpoints state.lane.g rounds).steps) (a ∷ allocations)) frame (then (lane_of (played state.lane.endpoints state.lane.g rounds).steps) allocations it.lane);
      down = it.down;
      up = it.up;
      downward = it.downward;
      upward = it.upward;
      within = it.within;
      rises = it.rises;
      to = it.to;
    })
