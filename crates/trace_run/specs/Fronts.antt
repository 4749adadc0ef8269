-- Each run begins with every shorter one. From this project's own profile.
use Rattle.std.specs.Prelude.{◌≡◌, ◌<◌, ◌≤◌, ℕ, zero, suc, List, [], ◌∷◌, length, take}
use Rattle.greedy_rules.specs.Batches.{DemandBatch}
use Rattle.endpoint_history.specs.Rounds.{Round}
use Rattle.trace_run.specs.Run.{Setting, round_of, replayed}

-- there is a batch for each round
abbrev pub EveryRoundHasABatch : Type 0
EveryRoundHasABatch = (setting : Setting) (rounds : ℕ) → length (replayed setting rounds).batches ≡ rounds

-- a shorter run's batches are the first of a longer one's
abbrev pub ARunBeginsWithEach : Type 0
ARunBeginsWithEach = (setting : Setting) (rounds all : ℕ) → rounds ≤ all → take rounds (replayed setting all).batches ≡ (replayed setting rounds).batches

-- an endpoint's first rounds, where these are the batches
abbrev pub rounds_with : Setting → List DemandBatch → ℕ → ℕ → List Round
rounds_with setting batches zero endpoint = []
rounds_with setting batches (suc rounds) endpoint = round_of setting batches rounds endpoint ∷ rounds_with setting batches rounds endpoint

-- what is told in any round is told of the schedule of the whole run
abbrev pub RoundsAreOfTheWholeRun : Type 0
RoundsAreOfTheWholeRun =
    (setting : Setting) → 0 < setting.g → (rounds all : ℕ) → rounds ≤ all → (endpoint : ℕ) →
    (replayed setting rounds).rounds endpoint ≡ rounds_with setting (replayed setting all).batches rounds endpoint
