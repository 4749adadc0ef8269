-- How many flows open in the stages of a window (this project's own profile).
use Rattle.std.specs.Prelude.{ℕ, zero, suc, ◌+◌, List, [], ◌∷◌, length}
use Rattle.greedy_rules.specs.Batches.{DemandBatch}
use Rattle.greedy_rules.specs.Demands.{opened}
use Rattle.ring_core.specs.States.{WorkerState}
use Rattle.ring_core.specs.Windows.{batch_of_stage}

-- in the stage of this number
abbrev pub openings : List DemandBatch → ℕ → ℕ
openings batches stage = length (opened (batch_of_stage batches stage).entries)

-- in so many stages of one worker among so many, from this one on
abbrev pub own_openings : ℕ → List DemandBatch → ℕ → ℕ → ℕ
own_openings zero batches workers stage = 0
own_openings (suc places) batches workers stage = openings batches stage + own_openings places batches workers (stage + workers)

-- in the stages of these workers, as many as each has
abbrev pub crew_openings : List DemandBatch → List WorkerState → ℕ
crew_openings batches [] = 0
crew_openings batches (worker ∷ crew) = own_openings (length worker.stages) batches worker.workers worker.number + crew_openings batches crew
