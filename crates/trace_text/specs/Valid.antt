-- What holds of every trace: its limits, and that what is asked for lies within them. This project's own profile.
use Rattle.std.specs.Prelude.{◌≡◌, ◌≢◌, ℕ, ◌<◌, ◌≤◌, ◌==◌, Bool, true, List, [], length, sum_by, All, AllPairs, IfSome, if◌then◌else◌}
use Rattle.std.specs.List.{slice_index_or, range_with_len}
use Rattle.clos_topology.specs.Network.{endpoints_of}
use Rattle.clos_topology.specs.Limits.{IsNetwork}
use Rattle.trace_text.specs.Faults.{is_fate}
use Rattle.trace_text.specs.Trace.{TraceContent, asked_at, fate_at, boots_at, raw_at, puts_at}

-- how much of what is asked for is for this destination
abbrev pub amount_for : ℕ → List (ℕ × ℕ) → ℕ
amount_for dst asked = sum_by (λ p. if p.0 == dst then p.1 else 0) asked

-- the slots of a flow over these rounds
abbrev pub total_asked : List (List (List (ℕ × ℕ))) → ℕ → ℕ → ℕ
total_asked rounds src dst = sum_by (λ round. amount_for dst (slice_index_or round src [])) rounds

-- what a source asks for in a round: some slots of each destination, in rising order
pub record IsAskList (endpoints : ℕ) (asks : List (ℕ × ℕ)) : Type 0 where
  pub rising : AllPairs (λ p q. p.0 < q.0) asks
  pub in_range : All (λ p. p.0 < endpoints) asks
  pub some : All (λ p. 0 < p.1) asks

-- the limits of a trace, with a list for each round and source, and what is asked for within them; a packet is held for 1 to
-- 100 rounds, a version is 1 or 2, an endpoint has no more boots than a text has bytes, an endpoint puts at most 1,024 packets, a
-- packet has at most 2,048 bytes, each below 256
pub record IsTrace (trace : TraceContent) : Type 0 where
  pub net : IsNetwork trace.net
  pub some_round : 1 ≤ trace.rounds
  pub few_rounds : trace.rounds ≤ 100000
  pub rounds : length trace.asked ≡ trace.rounds
  pub sources : All (λ round. length round ≡ endpoints_of trace.net) trace.asked
  pub asks : All (All (IsAskList (endpoints_of trace.net))) trace.asked
  pub apart : (round src : ℕ) → All (λ p. p.0 ≢ src) (asked_at trace round src)
  pub bounded : (src dst : ℕ) → total_asked trace.asked src dst ≤ 100000000
  pub holds : (round endpoint : ℕ) (up : Bool) → IfSome (fate_at trace round endpoint up) (λ fate. is_fate fate ≡ true)
  pub versions : (round endpoint : ℕ) → All (λ version. (1 ≤ version) × (version ≤ 2)) (boots_at trace round endpoint)
  pub few_boots : (endpoint : ℕ) → sum_by (λ round. length (boots_at trace round endpoint)) (range_with_len 0 trace.rounds) ≤ 67108864
  pub short : (round : ℕ) → All (λ packet. length packet ≤ 2048) (raw_at trace round)
  pub bytes : (round : ℕ) → All (All (λ byte. byte < 256)) (raw_at trace round)
  pub putters : length trace.puts ≡ endpoints_of trace.net
  pub few_puts : (endpoint : ℕ) → length (puts_at trace endpoint) ≤ 1024
  pub short_puts : (endpoint : ℕ) → All (λ packet. length packet ≤ 2048) (puts_at trace endpoint)
  pub put_bytes : (endpoint : ℕ) → All (All (λ byte. byte < 256)) (puts_at trace endpoint)
