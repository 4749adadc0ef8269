-- The cores decide nothing in a run: with the cores forgotten it is the run that names no core but 0.
use Rattle.std.proofs.Common.{◌≡◌, ℕ, zero, suc, ◌+◌, ◌-◌, ◌*◌, Bool, true, false, cond, List, [], ◌∷◌, ◌++◌, length, map, filter, Option, Some, None, refl, sym, ap, ◌∙◌}
use Rattle.std.proofs.Math.Path.{fun_ext}
use Rattle.std.specs.Prelude.{nat_le, option_map, option_to_list}
use Rattle.std.specs.List.{filter_map, flat_map, range_with_len}
use Rattle.std.proofs.lemmas.List.{map-append}
use Rattle.loss_world.specs.Arrivals.{arrives_in}
use Rattle.greedy_rules.specs.declared.flows.Flow.{Flow}
use Rattle.greedy_rules.specs.declared.flows.Entry.{Entry}
use Rattle.greedy_rules.specs.Batches.{DemandBatch}
use Rattle.greedy_rules.specs.SlotTable.{destination_of}
use Rattle.greedy_rules.specs.Schedule.{first_slot}
use Rattle.endpoint_history.specs.Packets.{DownPacket, UpPacket}
use Rattle.endpoint_history.specs.Agent.{AgentEvent, AgentHistory, Boots, Asks, TakesDown, MakesUp, SendsDue, packet_up}
use Rattle.endpoint_history.specs.Sending.{Slot, sent_in}
use Rattle.endpoint_history.specs.Lane.{LaneEvent, LaneHistory, MakesDown, TakesUp, Records, packet_down}
use Rattle.endpoint_history.specs.Steps.{Step, OfAgent, OfLane, agent_of, lane_of}
use Rattle.endpoint_history.specs.Rounds.{Round, Posted, PlayedEnds, arriving, then_each, begun, posted_down, heard, posted_up, read, recorded, played, entries_by, sent_by}
use Rattle.endpoint_history.specs.Rounds as rounds
use Rattle.endpoint_history.specs.Agent as agent
use Rattle.endpoint_history.specs.Sending as sending
use Rattle.endpoint_history.specs.Lane as lane
use Rattle.endpoint_history.specs.Counts as counts
use Rattle.endpoint_history.specs.Entries as entries
use Rattle.trace_run.specs.Run.{Setting, Run, slots_in_batch, told_at, slots_told_from, told_of, told_in, recorded_together, next_rounds, after_round, replayed}
use Rattle.trace_run.specs.Histories.{played_after}
use Rattle.trace_run.specs.Sends.{sent_up_to}
use Rattle.trace_run.specs.Cores.{CoresDecideNothing, CoresDecideNoSend, bare_slot, bare_down, bare_posted, CoresStandInDownPackets, CoresDecideNoUpPacket, CoresDecideNoCount}
use Rattle.trace_run.proofs.CoresOfLane.{bare_lane, map-cond, packet_down-bare, reset-bare, recorded-bare, acknowledged-bare, lost-bare, had-bare, entry-bare}
use Rattle.trace_run.proofs.CoresOfAgent.{bare_agent, asked-bare, in_time-bare, missed-bare, packet_up-bare, sends-bare, sent_in-bare}

-- ---- without cores

abbrev bare_step : Step → Step
bare_step (OfAgent event) = OfAgent (bare_agent event)
bare_step (OfLane event) = OfLane (bare_lane event)

abbrev bare_played : PlayedEnds → PlayedEnds
bare_played p = record { steps = map bare_step p.steps; down = map bare_posted p.down; up = p.up }

abbrev bare_round : Round → Round
bare_round r = record r { told = map bare_slot r.told }

abbrev bare_run : Run → Run
bare_run run = record { batches = run.batches; rounds = λ endpoint. map bare_round (run.rounds endpoint) }

abbrev bare_setting : Setting → Setting
bare_setting setting = record setting { cores = λ slot source. 0 }

-- ---- steps

agent-bare : (steps : List Step) → agent_of (map bare_step steps) ≡ map bare_agent (agent_of steps)
agent-bare [] = refl
agent-bare (OfAgent event ∷ steps) = ap (λ (h : AgentHistory). bare_agent event ∷ h) (agent-bare steps)
agent-bare (OfLane event ∷ steps) = agent-bare steps

lane-bare : (steps : List Step) → lane_of (map bare_step steps) ≡ map bare_lane (lane_of steps)
lane-bare [] = refl
lane-bare (OfAgent event ∷ steps) = lane-bare steps
lane-bare (OfLane event ∷ steps) = ap (λ (h : LaneHistory). bare_lane event ∷ h) (lane-bare steps)

each-bare : {X : Type 0} (step : X → Step) → ((x : X) → step x ≡ bare_step (step x)) →
    (xs : List X) (steps : List Step) → then_each step xs (map bare_step steps) ≡ map bare_step (then_each step xs steps)
each-bare step same [] steps = refl
each-bare step same (x ∷ xs) steps = ap (λ (s : Step). then_each step xs (s ∷ map bare_step steps)) (same x) ∙ each-bare step same xs (step x ∷ steps)

each_down-bare : (number : ℕ) (packets : List DownPacket) (steps : List Step) →
    then_each (λ packet. OfAgent (TakesDown number packet)) (map bare_down packets) (map bare_step steps) ≡ map bare_step (then_each (λ packet. OfAgent (TakesDown number packet)) packets steps)
each_down-bare number [] steps = refl
each_down-bare number (p ∷ packets) steps = each_down-bare number packets (OfAgent (TakesDown number p) ∷ steps)

arriving-bare : (posted : List (Posted DownPacket)) (round : ℕ) → arriving (map bare_posted posted) round ≡ map bare_down (arriving posted round)
arriving-bare [] round = refl
arriving-bare (p ∷ posted) round = either (arrives_in p.fate p.round round) (arriving-bare posted round)
  where
    arrived : List (Posted DownPacket) → List (Posted DownPacket)
    arrived ps = filter (λ (q : Posted DownPacket). arrives_in q.fate q.round round) ps

    either : (b : Bool) → arriving (map bare_posted posted) round ≡ map bare_down (arriving posted round) →
        map (λ (q : Posted DownPacket). q.packet) (cond b (bare_posted p ∷ arrived (map bare_posted posted)) (arrived (map bare_posted posted)))
        ≡ map bare_down (map (λ (q : Posted DownPacket). q.packet) (cond b (p ∷ arrived posted) (arrived posted)))
    either true rest = ap (λ (ds : List DownPacket). bare_down p.packet ∷ ds) rest
    either false rest = rest

-- ---- a round

module _ (endpoints g number : ℕ) (round : Round) (before : PlayedEnds) where
  begun-bare : begun endpoints g number (bare_round round) (bare_played before) ≡ map bare_step (begun endpoints g number round before)
  begun-bare =
      ap (then_each (λ (a : ℕ × ℕ). OfAgent (Asks a.0 a.1)) round.asks) (each-bare (λ version. OfAgent (Boots version)) (λ x. refl) round.boots before.steps)
      ∙ each-bare (λ (a : ℕ × ℕ). OfAgent (Asks a.0 a.1)) (λ x. refl) round.asks (then_each (λ version. OfAgent (Boots version)) round.boots before.steps)

  down-bare : posted_down endpoints g number (bare_round round) (bare_played before) ≡ map bare_posted (posted_down endpoints g number round before)
  down-bare =
      let h : LaneHistory = lane_of (begun endpoints g number round before) in
      rw (begun-bare, lane-bare (begun endpoints g number round before), packet_down-bare g h number round.told) (post (packet_down g h number round.told))
    where
      post : (o : Option DownPacket) → map bare_posted before.down ++ option_to_list (option_map (λ (packet : DownPacket). record { round = number; fate = round.down; packet = packet }) (option_map bare_down o))
          ≡ map bare_posted (before.down ++ option_to_list (option_map (λ (packet : DownPacket). record { round = number; fate = round.down; packet = packet }) o))
      post None = sym (map-append bare_posted before.down [])
      post (Some p) = sym (map-append bare_posted before.down (record { round = number; fate = round.down; packet = p } ∷ []))

  heard-bare : heard endpoints g number (bare_round round) (bare_played before) ≡ map bare_step (heard endpoints g number round before)
  heard-bare =
      let down : List (Posted DownPacket) = posted_down endpoints g number round before in
      rw (down-bare, arriving-bare down number, begun-bare)
      (each_down-bare number (arriving down number) (OfLane (MakesDown number round.told) ∷ begun endpoints g number round before))

  up-bare : posted_up endpoints g number (bare_round round) (bare_played before) ≡ posted_up endpoints g number round before
  up-bare = rw (heard-bare, agent-bare (heard endpoints g number round before), packet_up-bare endpoints g (agent_of (heard endpoints g number round before))) refl

  read-bare : read endpoints g number (bare_round round) (bare_played before) ≡ map bare_step (read endpoints g number round before)
  read-bare =
      let takes : UpPacket → Step = λ packet. OfLane (TakesUp number packet) in
      let ups : List UpPacket = arriving (posted_up endpoints g number round before) number in
      let heard_steps : List Step = heard endpoints g number round before in
      rw (up-bare, heard-bare)
      (ap (then_each takes round.raw) (each-bare takes (λ x. refl) ups (OfAgent MakesUp ∷ heard_steps))
      ∙ each-bare takes (λ x. refl) round.raw (then_each takes ups (OfAgent MakesUp ∷ heard_steps)))

  after_round-bare : rounds.after_round endpoints g number (bare_round round) (bare_played before) ≡ bare_played (rounds.after_round endpoints g number round before)
  after_round-bare = rw (read-bare, up-bare, down-bare) refl

-- ---- an endpoint's rounds

length-bare : (rounds : List Round) → length (map bare_round rounds) ≡ length rounds
length-bare [] = refl
length-bare (round ∷ earlier) = ap suc (length-bare earlier)

played-bare : (endpoints g : ℕ) (rounds : List Round) → played endpoints g (map bare_round rounds) ≡ bare_played (played endpoints g rounds)
played-bare endpoints g [] = refl
played-bare endpoints g (round ∷ earlier) = rw (length-bare earlier, played-bare endpoints g earlier) (after_round-bare endpoints g (length earlier) round (played endpoints g earlier))

entries-bare : (endpoint endpoints g : ℕ) (rounds : List Round) → entries_by endpoint endpoints g (map bare_round rounds) ≡ entries_by endpoint endpoints g rounds
entries-bare endpoint endpoints g [] = refl
entries-bare endpoint endpoints g (round ∷ earlier) =
    let steps : List Step = read endpoints g (length earlier) round (played endpoints g earlier) in
    rw (length-bare earlier, played-bare endpoints g earlier, read-bare endpoints g (length earlier) round (played endpoints g earlier), lane-bare steps)
    (ap (λ (entry : ℕ → Option Entry). filter_map entry (range_with_len 0 endpoints)) (fun_ext (entry-bare endpoint g (lane_of steps))))

sent-bare : (endpoints b g : ℕ) (rounds : List Round) → sent_by endpoints b g (map bare_round rounds) ≡ sent_by endpoints b g rounds
sent-bare endpoints b g [] = refl
sent-bare endpoints b g (round ∷ earlier) =
    let steps : List Step = recorded endpoints g (length earlier) round (played endpoints g earlier) in
    rw (length-bare earlier, played-bare endpoints g earlier, read-bare endpoints g (length earlier) round (played endpoints g earlier), agent-bare steps)
    (sent_in-bare b g (agent_of steps) (length earlier))

-- ---- the run

told_from-bare : (core : ℕ → ℕ) (endpoint offset : ℕ) (slots : List (List Flow)) → slots_told_from (λ n. 0) endpoint offset slots ≡ map bare_slot (slots_told_from core endpoint offset slots)
told_from-bare core endpoint offset [] = refl
told_from-bare core endpoint offset (slot ∷ slots) = rw (told_from-bare core endpoint (offset + 1) slots) (either (destination_of slot endpoint))
  where
    either : (o : Option ℕ) → told_at offset 0 o ++ map bare_slot (slots_told_from core endpoint (offset + 1) slots) ≡ map bare_slot (told_at offset (core offset) o ++ slots_told_from core endpoint (offset + 1) slots)
    either None = refl
    either (Some dst) = refl

told_in-bare : (setting : Setting) (batches : List DemandBatch) (round endpoint : ℕ) → told_in (bare_setting setting) batches round endpoint ≡ map bare_slot (told_in setting batches round endpoint)
told_in-bare setting batches round endpoint =
    let k : ℕ = round - 2 * setting.g in
    rw (told_from-bare (λ offset. setting.cores (first_slot setting.b k + offset) endpoint) endpoint 0 (slots_in_batch setting.b k batches))
    (map-cond bare_slot (nat_le (2 * setting.g) round) (told_of setting batches k endpoint) [])

next_rounds-bare : (setting : Setting) (round : ℕ) (before : Run) (endpoint : ℕ) → next_rounds (bare_setting setting) round (bare_run before) endpoint ≡ map bare_round (next_rounds setting round before endpoint)
next_rounds-bare setting round before endpoint = rw (told_in-bare setting before.batches round endpoint) refl

recorded_by-bare : (setting : Setting) (rounds : ℕ → List Round) → recorded_together (bare_setting setting) (λ endpoint. map bare_round (rounds endpoint)) ≡ recorded_together setting rounds
recorded_by-bare setting rounds =
    ap (λ (entries : ℕ → List Entry). record { entries = flat_map entries (range_with_len 0 setting.endpoints); limits = setting.limits })
    (fun_ext (λ endpoint. entries-bare endpoint setting.endpoints setting.g (rounds endpoint)))

run-bare : (setting : Setting) (round : ℕ) (before : Run) → after_round (bare_setting setting) round (bare_run before) ≡ bare_run (after_round setting round before)
run-bare setting round before =
    let lists : ℕ → List Round = next_rounds setting round before in
    ap (λ (now : ℕ → List Round). record { batches = before.batches ++ recorded_together (bare_setting setting) now ∷ []; rounds = now }) (fun_ext (next_rounds-bare setting round before))
    ∙ ap (λ (batch : DemandBatch). record { batches = before.batches ++ batch ∷ []; rounds = λ endpoint. map bare_round (lists endpoint) }) (recorded_by-bare setting lists)

replayed-bare : (setting : Setting) (rounds : ℕ) → replayed (bare_setting setting) rounds ≡ bare_run (replayed setting rounds)
replayed-bare setting zero = refl
replayed-bare setting (suc rounds) = ap (after_round (bare_setting setting) rounds) (replayed-bare setting rounds) ∙ run-bare setting rounds (replayed setting rounds)

played_after-bare : (setting : Setting) (rounds endpoint : ℕ) → played_after (bare_setting setting) rounds endpoint ≡ bare_played (played_after setting rounds endpoint)
played_after-bare setting rounds endpoint = rw (replayed-bare setting rounds) (played-bare setting.endpoints setting.g ((replayed setting rounds).rounds endpoint))

sent_up_to-bare : (setting : Setting) (rounds endpoint : ℕ) → sent_up_to (bare_setting setting) rounds endpoint ≡ sent_up_to setting rounds endpoint
sent_up_to-bare setting zero endpoint = refl
sent_up_to-bare setting (suc rounds) endpoint =
    let of_round : Run → List Slot = λ run. sent_by setting.endpoints setting.b setting.g (run.rounds endpoint) in
    rw (sent_up_to-bare setting rounds endpoint)
    (ap (λ (now : List Slot). sent_up_to setting rounds endpoint ++ now)
    (ap of_round (replayed-bare setting (suc rounds)) ∙ sent-bare setting.endpoints setting.b setting.g ((replayed setting (suc rounds)).rounds endpoint)))

-- ---- two runs that differ in their cores alone: with the cores forgotten they are one

pub cores_decide_nothing : CoresDecideNothing
cores_decide_nothing setting cores rounds = ap (λ (run : Run). run.batches) (sym (replayed-bare (record setting { cores = cores }) rounds) ∙ replayed-bare setting rounds)

pub cores_decide_no_send : CoresDecideNoSend
cores_decide_no_send setting cores rounds endpoint = sym (sent_up_to-bare (record setting { cores = cores }) rounds endpoint) ∙ sent_up_to-bare setting rounds endpoint

played-same : (setting : Setting) (cores : (slot source : ℕ) → ℕ) (rounds endpoint : ℕ) →
    bare_played (played_after (record setting { cores = cores }) rounds endpoint) ≡ bare_played (played_after setting rounds endpoint)
played-same setting cores rounds endpoint = sym (played_after-bare (record setting { cores = cores }) rounds endpoint) ∙ played_after-bare setting rounds endpoint

pub cores_stand_in_down_packets : CoresStandInDownPackets
cores_stand_in_down_packets setting cores rounds endpoint = ap (λ (p : PlayedEnds). p.down) (played-same setting cores rounds endpoint)

pub cores_decide_no_up_packet : CoresDecideNoUpPacket
cores_decide_no_up_packet setting cores rounds endpoint = ap (λ (p : PlayedEnds). p.up) (played-same setting cores rounds endpoint)

-- what an agent and a lane count alike without cores is alike in both runs
agents-alike : {X : Type 0} (of : AgentHistory → X) → ((h : AgentHistory) → of (map bare_agent h) ≡ of h) → (one two : List Step) → map bare_step one ≡ map bare_step two → of (agent_of one) ≡ of (agent_of two)
agents-alike of bare one two same =
    sym (bare (agent_of one)) ∙ (ap of (sym (agent-bare one) ∙ (ap agent_of same ∙ agent-bare two)) ∙ bare (agent_of two))

lanes-alike : {X : Type 0} (of : LaneHistory → X) → ((h : LaneHistory) → of (map bare_lane h) ≡ of h) → (one two : List Step) → map bare_step one ≡ map bare_step two → of (lane_of one) ≡ of (lane_of two)
lanes-alike of bare one two same =
    sym (bare (lane_of one)) ∙ (ap of (sym (lane-bare one) ∙ (ap lane_of same ∙ lane-bare two)) ∙ bare (lane_of two))

pub cores_decide_no_count : CoresDecideNoCount
cores_decide_no_count setting cores rounds src dst =
    let one : List Step = (played_after (record setting { cores = cores }) rounds src).steps in
    let two : List Step = (played_after setting rounds src).steps in
    let same : map bare_step one ≡ map bare_step two = ap (λ (p : PlayedEnds). p.steps) (played-same setting cores rounds src) in (
      record {
        asked = agents-alike (λ h. agent.asked h dst) (λ h. asked-bare h dst) one two same;
        in_time = agents-alike (λ h. agent.in_time setting.g h dst) (λ h. in_time-bare setting.g h dst) one two same;
        missed = agents-alike (λ h. agent.missed setting.g h dst) (λ h. missed-bare setting.g h dst) one two same;
        sends = agents-alike (λ h. sending.sends setting.b setting.g h dst) (λ h. sends-bare setting.b setting.g h dst) one two same;
      },
      record {
        last_reset = lanes-alike lane.last_reset reset-bare one two same;
        recorded = lanes-alike (λ h. counts.recorded h dst) (λ h. recorded-bare h dst) one two same;
        acknowledged = lanes-alike (λ h. counts.acknowledged setting.g h dst) (λ h. acknowledged-bare setting.g h dst) one two same;
        lost = lanes-alike (λ h. counts.lost setting.g h dst) (λ h. lost-bare setting.g h dst) one two same;
        had = lanes-alike (λ h. entries.had setting.g h dst) (λ h. had-bare setting.g h dst) one two same;
      },
    )
