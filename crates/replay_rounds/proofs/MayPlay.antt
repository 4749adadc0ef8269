-- An endpoint's rounds may be played with what the trace tells of its next round.
use Rattle.std.proofs.Common.{◌≡◌, ◌≢◌, ◌<◌, ◌≤◌, ◌+◌, ◌*◌, ◌-◌, ◌^◌, ◌&&◌, ℕ, suc, List, [], ◌∷◌, length, cond, Bool, true, false, Option, Some, None, All, refl, sym, ap, ◌∙◌, subst, inl, inr, arith}
use Rattle.std.specs.Prelude.{◌==◌, nat_lt, nat_le, filter, map, replicate, unwrap_or, IfSome}
use Rattle.std.proofs.lemmas.Bool.{cases_Bool, cases_eq, cases_lt, ne_eqb, le-leb, le-ltb, and_from, cond-false}
use Rattle.std.proofs.lemmas.List.{length-replicate}
use Rattle.std.proofs.lemmas.List.Elements.{All-head, All-tail}
use Rattle.std.proofs.lemmas.List.Sums.{sum_by-cons}
use Rattle.std.proofs.lemmas.Option.{slice_get_cases}
use Rattle.fcp_framing.specs.declared.packet.Told.{Told}
use Rattle.fcp_framing.specs.Fields.{up_of}
use Rattle.fcp_framing.specs.Laws.{WereSpelledSo}
use Rattle.fcp_framing.specs.Spelling.{IsCore}
use Rattle.fcp_framing.specs.Versions.{IsVersion}
use Rattle.clos_topology.specs.Network.{endpoints_of}
use Rattle.clos_topology.specs.NetSlots.{SlotCores}
use Rattle.endpoint_history.specs.Agent.{Boots}
use Rattle.endpoint_history.specs.Counts as counts
use Rattle.endpoint_history.specs.Lane.{LaneHistory, last_reset}
use Rattle.endpoint_history.specs.Packets.{UpPacket, AreFramedAlike, slots_to, up_packet}
use Rattle.endpoint_history.specs.Rounds.{played}
use Rattle.endpoint_history.specs.Steps.{agent_of, lane_of}
use Rattle.lane_rounds.specs.AgentStanding as agents
use Rattle.arbiter_lane.specs.State.{AreSlots, AreAllocated}
use Rattle.arbiter_lane.specs.Standing as lanes
use Rattle.lane_rounds.specs.Outside.{names}
use Rattle.lane_rounds.specs.Raw.{Raw}
use Rattle.lane_rounds.specs.State.{RoundsState, MayAsk, with_each}
use Rattle.arbiter_lane.proofs.Held.{open_to-is}
use Rattle.trace_text.specs.Trace.{TraceContent, asked_at, boots_at, fate_at, last_one}
use Rattle.trace_text.specs.Valid.{IsTrace, IsAskList}
use Rattle.trace_run.specs.Run.{Setting, told_in, replayed}
use Rattle.trace_run.specs.Histories.{agent_after, lane_after}
use Rattle.trace_run.specs.Agents.{EpochsCountBoots, AskedIsWithinAll, booted_in}
use Rattle.trace_run.specs.Allocations.{since}
use Rattle.trace_run.specs.Counts.{TellingHasRoom}
use Rattle.trace_run.specs.Rest.{allocated_from}
use Rattle.trace_run.specs.Told.{AreOfBatch, WhatIsToldIsOfABatch}
use Rattle.replay_rounds.specs.Setting.{byte_of, raw_rows, boots_in, setting_of}
use Rattle.replay_rounds.specs.Standing.{LaneStands}
use Rattle.replay_rounds.specs.Parts.{EveryRoundMayBePlayed}
use Rattle.replay_rounds.proofs.Asking.{boots-forget, may-ask}
use Rattle.replay_rounds.proofs.TraceRules.{asked-bounded, booted-bounded, is_trace_of_run}

-- ---- what its rounds stand for, in the words of the run

agent-stands : (setting : Setting) (round published endpoint : ℕ) (lane : RoundsState) → LaneStands setting round published endpoint lane → agents.AgentStandsFor lane.agent (agent_after setting round endpoint)
agent-stands setting round published endpoint lane stands =
    let rounds = (replayed setting round).rounds endpoint in
    subst (λ n. agents.AgentStandsFor lane.agent (agent_of (played n setting.g rounds).steps)) stands.endpoints
    (subst (λ g. agents.AgentStandsFor lane.agent (agent_of (played lane.lane.endpoints g rounds).steps)) stands.g stands.stands.agent)

lane-stands : (setting : Setting) (round published endpoint : ℕ) (lane : RoundsState) (stands : LaneStands setting round published endpoint lane) →
    lanes.LaneStandsFor lane.lane (lane_after setting round endpoint) stands.allocations
lane-stands setting round published endpoint lane stands =
    let rounds = (replayed setting round).rounds endpoint in
    subst (λ n. lanes.LaneStandsFor lane.lane (lane_of (played n setting.g rounds).steps) stands.allocations) stands.endpoints
    (subst (λ g. lanes.LaneStandsFor lane.lane (lane_of (played lane.lane.endpoints g rounds).steps) stands.allocations) stands.g stands.stands.lane)

-- ---- boots

one_or_two : (version : ℕ) → (1 ≤ version) × (version ≤ 2) → IsVersion version
one_or_two version between = elim (cases_eq version 1) [
  | inl one ↦ inl one
  | inr other ↦ inr (omega (arith, between.0, between.1, other))
]

-- the version of the last boot; 1 where there is none
last-version : (versions : List ℕ) → All (λ version. (1 ≤ version) × (version ≤ 2)) versions → IsVersion (unwrap_or (last_one versions) 1)
last-version versions all = elim (slice_get_cases versions (length versions - 1)).1 [
  | inl here ↦
      let between = subst (λ (v : ℕ). (1 ≤ v) × (v ≤ 2)) here.3 (all (length versions - 1) here.0 here.1) in
      subst (λ (o : Option ℕ). IsVersion (unwrap_or o 1)) (sym here.2) (one_or_two here.0 between)
  | inr past ↦ subst (λ (o : Option ℕ). IsVersion (unwrap_or o 1)) (sym past.1) (inl refl)
]

epochs-fit : EpochsCountBoots → (trace : TraceContent) (b g : ℕ) (cores : SlotCores) → IsTrace trace → (round published endpoint : ℕ) (lane : RoundsState) → round < trace.rounds →
    LaneStands (setting_of trace b g cores) round published endpoint lane → lane.agent.epoch + length (boots_at trace round endpoint) < 2 ^ 32
epochs-fit epochs trace b g cores is round published endpoint lane within stands =
    let setting = setting_of trace b g cores in
    let agent = agent-stands setting round published endpoint lane stands in
    let most = booted-bounded trace is (suc round) endpoint (omega arith) in
    let more : booted_in setting.outside (suc round) endpoint ≡ booted_in setting.outside round endpoint + length (boots_at trace round endpoint) = ap (λ n. booted_in setting.outside round endpoint + n) (length-replicate (length (boots_at trace round endpoint)) _) in
    omega (arith, agent.epoch, epochs setting round endpoint, most, more)

-- ---- asks

asks-are : (trace : TraceContent) → IsTrace trace → (round endpoint : ℕ) → round < trace.rounds → endpoint < endpoints_of trace.net → IsAskList (endpoints_of trace.net) (asked_at trace round endpoint)
asks-are trace is round endpoint within among =
    let below : round < length trace.asked = omega (arith, is.rounds) in
    let wide = is.sources round [] below in
    is.asks round [] below endpoint [] (omega arith)

asks-may : AskedIsWithinAll → (trace : TraceContent) (b g : ℕ) (cores : SlotCores) → IsTrace trace → (round endpoint version : ℕ) → round < trace.rounds → endpoint < endpoints_of trace.net →
    MayAsk endpoint (endpoints_of trace.net) (with_each Boots (replicate (length (boots_at trace round endpoint)) version) (agent_after (setting_of trace b g cores) round endpoint)) (asked_at trace round endpoint)
asks-may asked_within trace b g cores is round endpoint version within among =
    let setting = setting_of trace b g cores in
    let boots = replicate (length (boots_at trace round endpoint)) version in
    let calls = agent_after setting round endpoint in
    may-ask endpoint (endpoints_of trace.net) (with_each Boots boots calls) (asked_at trace round endpoint) (is.apart round endpoint) (asks-are trace is round endpoint within among).in_range
    (λ dst. omega (arith, boots-forget boots calls dst, asked_within setting round endpoint dst, asked-bounded trace is (suc round) endpoint dst (omega arith)))

-- ---- slots

core-is : (core : Option ℕ) → IfSome core (λ c. c < 64) → IsCore (byte_of core)
core-is None below = inr refl
core-is (Some core) below = inl below

slots-are : (endpoints b endpoint : ℕ) (told : List Told) → AreOfBatch endpoints b endpoint told → AreSlots endpoints b endpoint told
slots-are endpoints b endpoint told of = record { rising = of.rising; offsets = of.offsets; cores = of.cores; destinations = of.destinations; others = of.others }

-- no slots are told to a destination beyond the network
none-beyond : (endpoints dst : ℕ) (told : List Told) → endpoints ≤ dst → All (λ (slot : Told). slot.dst < endpoints) told → slots_to dst told ≡ 0
none-beyond endpoints dst [] beyond below = refl
none-beyond endpoints dst (slot ∷ told) beyond below =
    let low = All-head (λ (s : Told). s.dst < endpoints) slot told below in
    let other : slot.dst ≢ dst = λ same. absurd (omega arith) in
    let rest = none-beyond endpoints dst told beyond (All-tail (λ (s : Told). s.dst < endpoints) slot told below) in
    let here = ap (λ (c : Bool). cond {A = ℕ} c 1 0) (ne_eqb slot.dst dst other) in
    omega (arith, sum_by-cons (λ (s : Told). cond {A = ℕ} (s.dst == dst) 1 0) slot told, here, rest)

to-within : (endpoints dst : ℕ) (told : List Told) → All (λ (slot : Told). slot.dst < endpoints) told → 0 < slots_to dst told → dst < endpoints
to-within endpoints dst told below some = elim (cases_lt dst endpoints) [
  | inl within ↦ within
  | inr beyond ↦ let none = none-beyond endpoints dst told beyond below in absurd (omega arith)
]

-- ---- what is told is counted as allocated

are-allocated : TellingHasRoom → (setting : Setting) → 0 < setting.g → (round published endpoint : ℕ) (lane : RoundsState) → round + 1 ≤ published + 2 * setting.g →
    LaneStands setting round published endpoint lane → All (λ (slot : Told). slot.dst < setting.endpoints) (told_in setting (replayed setting round).batches round endpoint) →
    AreAllocated lane.lane round (told_in setting (replayed setting round).batches round endpoint)
are-allocated has_room setting window round published endpoint lane late stands below begun past from dst line here some =
    let history : LaneHistory = lane_after setting round endpoint in
    let told : List Told = told_in setting (replayed setting round).batches round endpoint in
    let one = lane-stands setting round published endpoint lane stands in
    let flow = one.flows dst line here in
    let late_enough : 2 * setting.g ≤ round = omega (arith, past, stands.g) in
    let after : last_reset history ≤ round - 2 * setting.g = omega (arith, from, one.last_reset, stands.g) in
    let whole : nat_le (2 * setting.g) round && nat_le (last_reset history) (round - 2 * setting.g) ≡ true =
    and_from (nat_le (2 * setting.g) round) (nat_le (last_reset history) (round - 2 * setting.g)) (le-leb (2 * setting.g) round late_enough) (le-leb (last_reset history) (round - 2 * setting.g) after) in
    let all = ap (λ (b : Bool). slots_to dst (cond b told [])) whole in
    let room = has_room setting window published round endpoint dst late in
    let upto : cond (nat_lt dst 0) (published + 1) published ≡ published = cond-false (nat_lt dst 0) (published + 1) published (le-ltb dst 0 (omega arith)) in
    let counted : since (last_reset history) stands.allocations dst ≡ allocated_from setting published (last_reset history) endpoint dst =
    stands.counted (last_reset history) dst (to-within setting.endpoints dst told below some) ∙ ap (λ (n : ℕ). allocated_from setting n (last_reset history) endpoint dst) upto in
    let open_slots = open_to-is lane.lane.g lane.lane.sent history dst one.sent_version one.sent ∙ ap (λ (g : ℕ). counts.open_to g history dst) stands.g in
    let allocated : line.count.allocated ≡ since (last_reset history) stands.allocations dst = flow.allocated in
    let acknowledged = flow.acknowledged ∙ ap (λ (g : ℕ). counts.acknowledged g history dst) stands.g in
    let lost = flow.lost ∙ ap (λ (g : ℕ). counts.lost g history dst) stands.g in
    omega (arith, all, room, counted, open_slots, allocated, acknowledged, lost)

-- ---- what is handed over is the round of the run

filter-twice : {X : Type 0} (test : X → Bool) (xs : List X) → filter test (filter test xs) ≡ filter test xs
filter-twice test [] = refl
filter-twice {X} test (x ∷ xs) = elim (cases_Bool (test x)) [
  | inl passes ↦ rw (passes, passes) (ap (λ (ys : List X). x ∷ ys) (filter-twice test xs))
  | inr fails ↦ rw fails (filter-twice test xs)
]

-- ---- all of it

pub every_round_may_be_played : WereSpelledSo → AreFramedAlike → EpochsCountBoots → AskedIsWithinAll → TellingHasRoom → WhatIsToldIsOfABatch → EveryRoundMayBePlayed
every_round_may_be_played spelled alike epochs asked_within has_room of_batch trace b g cores is named batch window round published endpoint lane within among late stands = record {
  version = λ some. last-version (boots_at trace round endpoint) (is.versions round endpoint);
  epochs = epochs-fit epochs trace b g cores is round published endpoint lane within stands;
  asks = (agent_after setting round endpoint, agent-stands setting round published endpoint lane stands, asks-may asked_within trace b g cores is round endpoint _ within among);
  slots = slots-are (endpoints_of trace.net) b endpoint _ of;
  allocated = are-allocated has_room setting window.0 round published endpoint lane late stands of.destinations;
  is = ap
      (λ (raw : List UpPacket). record {
        boots = boots_in (boots_at trace round endpoint);
        asks = asked_at trace round endpoint;
        up = fate_at trace round endpoint true;
        down = fate_at trace round endpoint false;
        raw = raw;
        told = told_in setting (replayed setting round).batches round endpoint;
      })
      (ap (map (λ (r : Raw). up_packet (up_of r.bytes))) (filter-twice (λ (r : Raw). names endpoint (endpoints_of trace.net) r.bytes) (raw_rows trace round)));
}
  where
    setting : Setting
    setting = setting_of trace b g cores

    of : AreOfBatch (endpoints_of trace.net) b endpoint (told_in setting (replayed setting round).batches round endpoint)
    of = of_batch setting round trace.rounds endpoint (omega arith) (is_trace_of_run spelled alike trace b g cores is batch.1 window.0) (λ slot source. core-is (cores slot source) (named slot source))
