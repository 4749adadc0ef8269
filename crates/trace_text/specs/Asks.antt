-- The asks that are kept of a trace, and their order: by round, then source, then destination.
use Rattle.std.specs.Prelude.{◌≢◌, ℕ, ◌+◌, ◌*◌, ◌<◌, ◌≤◌, ◌==◌, ◌&&◌, List, [], ◌∷◌, Bool, ⊤, map, if◌then◌else◌, All}
use Rattle.std.specs.List.{flat_map, range_with_len}
use Rattle.clos_topology.specs.Network.{endpoints_of}
use Rattle.trace_text.specs.Ranks.{AreStarts}
use Rattle.trace_text.specs.Trace.{TraceContent, asked_at}
use Rattle.trace_text.specs.declared.ask.Ask.{Ask}

-- there are at most 256 endpoints
abbrev pub rank_of : Ask → ℕ
rank_of ask = (ask.round * 256 + ask.src) * 256 + ask.dst

-- an ask between two of so many endpoints
pub record IsAmong (endpoints : ℕ) (ask : Ask) : Type 0 where
  pub src : ask.src < endpoints
  pub dst : ask.dst < endpoints
  pub other : ask.src ≢ ask.dst
  pub some : 0 < ask.slots

-- the slots of an ask, where it is one of this round and flow
abbrev pub slots_asked : ℕ → ℕ → ℕ → Ask → ℕ
slots_asked round src dst ask = if (ask.round == round) && (ask.src == src) && (ask.dst == dst) then ask.slots else 0

-- the same in whatever round
abbrev pub slots_for : ℕ → ℕ → Ask → ℕ
slots_for src dst ask = if (ask.src == src) && (ask.dst == dst) then ask.slots else 0

-- an ask of this round and source
abbrev pub is_asked_by : ℕ → ℕ → Ask → Bool
is_asked_by round src ask = (ask.round == round) && (ask.src == src)

-- the asks rise, from this rank on
abbrev pub IsRisingFrom : ℕ → List Ask → Type 0
IsRisingFrom low [] = ⊤
IsRisingFrom low (ask ∷ asks) = (low ≤ rank_of ask) × IsRisingFrom (rank_of ask + 1) asks

-- the asks of a round, rising by source and then destination
abbrev pub ask_for : ℕ → ℕ → ℕ × ℕ → Ask
ask_for round src asked = record { round = round; src = src; dst = asked.0; slots = asked.1 }

abbrev pub asks_in : TraceContent → ℕ → List Ask
asks_in trace round = flat_map (λ src. map (ask_for round src) (asked_at trace round src)) (range_with_len 0 (endpoints_of trace.net))

-- what a trace keeps: one ask a round and flow, rising, and where the asks of each round begin
pub record IsKept (endpoints rounds : ℕ) (asks : List Ask) (starts : List ℕ) : Type 0 where
  pub few : endpoints ≤ 256
  pub rising : IsRisingFrom 0 asks
  pub among : All (IsAmong endpoints) asks
  pub begin : AreStarts rank_of 65536 rounds asks starts
