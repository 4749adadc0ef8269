-- What contracts see of path workers: the network whose slots they colour, how many slots at most, how many workers there are
-- and their numbers, how many jobs were put into their queue so far, and the slots that were taken, by whichever worker.
use Rattle.std.specs.Prelude.{◌≡◌, ℕ, ◌+◌, ◌==◌, List, nat_lt, count_by, if◌then◌else◌}
use Rattle.clos_topology.specs.Network.{Network}

pub record PathWork : Type 0 where
  pub net : Network
  pub slots : ℕ
  pub paths : ℕ
  pub numbers : List ℕ
  pub jobs : ℕ
  pub taken : List ℕ

-- the workers and what they are for
pub record AreTheSame (old new : PathWork) : Type 0 where
  pub net : new.net ≡ old.net
  pub slots : new.slots ≡ old.slots
  pub paths : new.paths ≡ old.paths
  pub numbers : new.numbers ≡ old.numbers

-- how often a slot was taken
abbrev pub times_taken : ℕ → List ℕ → ℕ
times_taken slot taken = count_by (λ number. number == slot) taken

-- each of the first slots, so many, was taken once more, and no other
abbrev pub AreTakenOnce : ℕ → List ℕ → List ℕ → Type 0
AreTakenOnce count old new = (slot : ℕ) → times_taken slot new ≡ times_taken slot old + (if nat_lt slot count then 1 else 0)

-- what the workers have done once they have played the first slots, so many
pub record HaveWorked (count : ℕ) (old new : PathWork) : Type 0 where
  -- a job for each slot was put, and an end for each worker
  pub jobs : new.jobs ≡ old.jobs + count + old.paths
  -- each slot was taken once, by whichever worker
  pub taken : AreTakenOnce count old.taken new.taken
  -- and they are the same workers
  pub same : AreTheSame old new
