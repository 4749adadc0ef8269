-- Worked runs, as the lines that a replay of them shows. From this project's own profile.
use Rattle.std.specs.Prelude.{◌≡◌, ℕ, ◌+◌, ◌==◌, ◌&&◌, true, false, List, [], ◌∷◌, ◌++◌, map, Some, None, if◌then◌else◌}
use Rattle.std.specs.List.{flat_map, range_with_len}
use Rattle.ack_window.specs.Arrivals.{bits_where}
use Rattle.loss_world.specs.declared.fate.Fate.TheVariants.{Lose, Hold}
use Rattle.greedy_rules.specs.declared.flows.Flow.{Flow}
use Rattle.greedy_rules.specs.declared.flows.Entry.{Entry}
use Rattle.greedy_rules.specs.Schedule.{schedule}
use Rattle.endpoint_history.specs.Packets.{Requests}
use Rattle.endpoint_history.specs.Agent as agent
use Rattle.endpoint_history.specs.Sending.{Slot, sent_now, sends, ever_sent}
use Rattle.endpoint_history.specs.Lane as lane
use Rattle.endpoint_history.specs.Counts.{slots_in, recorded, acknowledged, lost}
use Rattle.trace_run.specs.Run.{FromOutside, Setting, replayed}
use Rattle.trace_run.specs.Histories.{agent_after, lane_after}
use Rattle.trace_run.specs.Rest.{left_after}
use Rattle.trace_run.specs.Counts.{flight}

-- ---- what a run shows

-- all that these lists hold, with the number of its list
abbrev pub numbered_from : {X : Type 0} → ℕ → List (List X) → List (ℕ × X)
numbered_from number [] = []
numbered_from number (xs ∷ lists) = map (λ x. (number, x)) xs ++ numbered_from (number + 1) lists

-- entries with the round of their batch
unfoldable pub entries_shown : Setting → ℕ → List (ℕ × Entry)
unfolding agent.is_current agent.takes agent.total agent.unconfirmed agent.sends_new agent.packet_up lane.is_current lane.takes lane.may_send lane.packet_down slots_in bits_where
entries_shown setting rounds = numbered_from 0 (map (λ batch. batch.entries) (replayed setting rounds).batches)

-- flows with the number of their slot
unfoldable pub slot_lines : Setting → ℕ → List (ℕ × Flow)
unfolding agent.is_current agent.takes agent.total agent.unconfirmed agent.sends_new agent.packet_up lane.is_current lane.takes lane.may_send lane.packet_down slots_in bits_where
slot_lines setting rounds = numbered_from 1 (schedule setting.b (replayed setting rounds).batches)

-- the flows that were sent, with the number of their slot, endpoint by endpoint
unfoldable pub sent_lines : Setting → ℕ → List (ℕ × Flow)
unfolding agent.is_current agent.takes agent.total agent.unconfirmed agent.sends_new agent.packet_up sent_now lane.is_current lane.takes lane.may_send lane.packet_down slots_in bits_where
sent_lines setting rounds =
    flat_map (λ src. map (λ (s : Slot). (s.slot, record { src = src; dst = s.dst })) (ever_sent setting.b setting.g (agent_after setting rounds src)))
    (range_with_len 0 setting.endpoints)

-- the counts of a forth
pub record CountLine : Type 0 where
  pub demanded : ℕ
  pub acknowledged : ℕ
  pub flight : ℕ
  pub pending : ℕ
  pub lost : ℕ
  pub sent : ℕ
  pub missed : ℕ

unfoldable pub count_shown : Setting → ℕ → ℕ → ℕ → CountLine
unfolding agent.is_current agent.takes agent.total agent.unconfirmed agent.sends_new agent.packet_up sent_now lane.is_current lane.takes lane.may_send lane.packet_down slots_in bits_where
count_shown setting rounds src dst = record {
  demanded = recorded (lane_after setting rounds src) dst;
  acknowledged = acknowledged setting.g (lane_after setting rounds src) dst;
  flight = flight setting rounds src dst;
  pending = left_after setting rounds src dst;
  lost = lost setting.g (lane_after setting rounds src) dst;
  sent = sends setting.b setting.g (agent_after setting rounds src) dst;
  missed = agent.missed setting.g (agent_after setting rounds src) dst;
}

-- the run of a trace of so many rounds shows this, with the counts of the forth from endpoint 0 to endpoint 1
pub record RunShows (setting : Setting) (rounds : ℕ) (batches : List (ℕ × Entry)) (slots sent : List (ℕ × Flow)) (counts : CountLine) : Type 0 where
  pub records : entries_shown setting rounds ≡ batches
  pub allocates : slot_lines setting rounds ≡ slots
  pub sends : sent_lines setting rounds ≡ sent
  pub ends : count_shown setting rounds 0 1 ≡ counts

-- ---- traces of two endpoints in one rack, with batches of one slot and windows of one round

abbrev nothing_from_outside : FromOutside
nothing_from_outside = record { boots = λ r e. []; asks = λ r e. []; up = λ r e. None; down = λ r e. None; raw = λ r e. [] }

-- endpoint 0 asks for one slot to endpoint 1 in round 0
abbrev one_ask : FromOutside
one_ask = record nothing_from_outside { asks = λ r e. if r == 0 && e == 0 then (1, 1) ∷ [] else [] }

-- the allocation of round 3, which tells it, is lost
abbrev losing : FromOutside
losing = record one_ask { down = λ r e. if r == 3 && e == 0 then Some Lose else None }

-- it comes three rounds late
abbrev holding : FromOutside
holding = record one_ask { down = λ r e. if r == 3 && e == 0 then Some (Hold 3) else None }

-- of five slots asked for, one is told when endpoint 0 boots in round 4; a request of its first boot comes after that
abbrev booting : FromOutside
booting = record nothing_from_outside {
  boots = λ r e. if r == 4 && e == 0 then 1 ∷ [] else [];
  asks = λ r e. if r == 0 && e == 0 then (1, 5) ∷ [] else (if r == 4 && e == 0 then (1, 1) ∷ [] else []);
  up = λ r e. if r == 3 && e == 0 then Some (Hold 3) else None;
}

-- in round 2 a forged request of endpoint 1 names 200,000,000 slots to endpoint 0
abbrev forging : FromOutside
forging = record one_ask {
  raw = λ r e. if r == 2 && e == 1 then Requests (record { epoch = 1; version = 1; seq = 9; ack = record { high = 0; mask = 0 }; content = record { dst = 0; total = 200000000 } ∷ [] }) ∷ [] else [];
}

abbrev pub of_two : FromOutside → Setting
of_two outside = record { endpoints = 2; limits = record { hosts = 2; cores = 1 }; b = 1; g = 1; cores = λ slot source. 255; outside = outside }

-- three slots are asked for, with batches of two slots and windows of two rounds
abbrev pub wide : Setting
wide = record {
  endpoints = 2;
  limits = record { hosts = 2; cores = 1 };
  b = 2;
  g = 2;
  cores = λ slot source. 255;
  outside = record nothing_from_outside { asks = λ r e. if r == 0 && e == 0 then (1, 3) ∷ [] else [] };
}

-- both hosts of a rack ask for one slot to the other rack, and there is one core
abbrev pub between_racks : Setting
between_racks = record {
  endpoints = 4;
  limits = record { hosts = 2; cores = 1 };
  b = 1;
  g = 1;
  cores = λ slot source. 0;
  outside = record nothing_from_outside { asks = λ r e. if r == 0 then (if e == 0 then (2, 1) ∷ [] else (if e == 1 then (3, 1) ∷ [] else [])) else [] };
}

-- ---- what they show

abbrev pub forth : Flow
forth = record { src = 0; dst = 1 }

abbrev pub entry_of_opening : Flow → ℕ → Entry
entry_of_opening f add = record { flow = f; opens = true; clear = false; add = add }

abbrev pub entry_of_adding : ℕ → Entry
entry_of_adding add = record { flow = forth; opens = false; clear = false; add = add }

abbrev pub back : Flow
back = record { src = 1; dst = 0 }

pub record WorkedRuns : Type 0 where
  pub one : RunShows (of_two one_ask) 7 ((1, entry_of_opening forth 1) ∷ []) ((2, forth) ∷ []) ((2, forth) ∷ [])
      (record { demanded = 1; acknowledged = 1; flight = 0; pending = 0; lost = 0; sent = 1; missed = 0 })
  pub lost : RunShows (of_two losing) 14 ((1, entry_of_opening forth 1) ∷ (8, entry_of_adding 1) ∷ []) ((2, forth) ∷ (9, forth) ∷ []) ((9, forth) ∷ [])
      (record { demanded = 1; acknowledged = 1; flight = 0; pending = 0; lost = 1; sent = 1; missed = 0 })
  pub missed : RunShows (of_two holding) 12 ((1, entry_of_opening forth 1) ∷ (6, entry_of_adding 1) ∷ []) ((2, forth) ∷ (7, forth) ∷ []) ((7, forth) ∷ [])
      (record { demanded = 2; acknowledged = 2; flight = 0; pending = 0; lost = 0; sent = 1; missed = 1 })
  -- the need that is left of the first boot is cleared
  pub strays : RunShows (of_two booting) 11 ((1, entry_of_opening forth 5) ∷ (4, record { flow = forth; opens = false; clear = true; add = 0 }) ∷ (5, entry_of_adding 1) ∷ [])
      ((2, forth) ∷ (3, forth) ∷ (4, forth) ∷ (6, forth) ∷ []) ((6, forth) ∷ [])
      (record { demanded = 1; acknowledged = 1; flight = 0; pending = 0; lost = 0; sent = 1; missed = 0 })
  -- what is forged for one endpoint changes nothing for the other
  pub forged : RunShows (of_two forging) 7 ((1, entry_of_opening forth 1) ∷ (2, entry_of_opening back 200000000) ∷ [])
      ((2, forth) ∷ (3, back) ∷ (4, back) ∷ (5, back) ∷ (6, back) ∷ (7, back) ∷ []) ((2, forth) ∷ [])
      (record { demanded = 1; acknowledged = 1; flight = 0; pending = 0; lost = 0; sent = 1; missed = 0 })
  -- batch k is sent in round k + 6
  pub windows : RunShows wide 9 ((1, entry_of_opening forth 3) ∷ []) ((3, forth) ∷ (4, forth) ∷ (5, forth) ∷ []) ((3, forth) ∷ (4, forth) ∷ (5, forth) ∷ [])
      (record { demanded = 3; acknowledged = 3; flight = 0; pending = 0; lost = 0; sent = 3; missed = 0 })
  -- the second slot waits for the core
  pub racks : RunShows between_racks 8 ((1, entry_of_opening (record { src = 0; dst = 2 }) 1) ∷ (1, entry_of_opening (record { src = 1; dst = 3 }) 1) ∷ [])
      ((2, record { src = 0; dst = 2 }) ∷ (3, record { src = 1; dst = 3 }) ∷ []) ((2, record { src = 0; dst = 2 }) ∷ (3, record { src = 1; dst = 3 }) ∷ [])
      (record { demanded = 0; acknowledged = 0; flight = 0; pending = 0; lost = 0; sent = 0; missed = 0 })
