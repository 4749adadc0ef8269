-- What is kept of the rounds so far: the slots that were asked for of each flow, and the demand list that they left.
use Rattle.std.specs.Prelude.{◌≡◌, ◌<◌, ℕ, ◌+◌, ◌*◌, List, length, slice_index, sum_by, if◌then◌else◌}
use Rattle.greedy_rules.specs.declared.flows.Entry.{Entry}
use Rattle.greedy_rules.specs.Flows.{same_flow}
use Rattle.trace_text.specs.Valid.{total_asked}
use Rattle.window_allocation.specs.Needs.{place_of}
use Rattle.plan_rounds.specs.Batches.{AskedRound}

-- the table holds the slots of each flow over these rounds
pub record Tallies (endpoints : ℕ) (rounds : List AskedRound) (table : List ℕ) : Type 0 where
  pub long : length table ≡ endpoints * endpoints
  pub at : (src dst : ℕ) → src < endpoints → dst < endpoints → slice_index table (place_of endpoints src dst) ≡ total_asked rounds src dst

-- the slots that an entry adds to a flow
abbrev pub added_for : ℕ → ℕ → Entry → ℕ
added_for src dst entry = if same_flow entry.flow (record { src = src; dst = dst }) then entry.add else 0

abbrev pub added_in : ℕ → ℕ → List Entry → ℕ
added_in src dst entries = sum_by (added_for src dst) entries

-- the slots of the entries came on top of what the table held
pub record Adds (endpoints : ℕ) (entries : List Entry) (old new : List ℕ) : Type 0 where
  pub long : length new ≡ length old
  pub at : (src dst : ℕ) → src < endpoints → dst < endpoints
      → slice_index new (place_of endpoints src dst) ≡ slice_index old (place_of endpoints src dst) + added_in src dst entries
