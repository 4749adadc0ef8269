-- A path worker with its pass, and what it and all workers have done once they have played (this project's own profile).
use Rattle.std.specs.Prelude.{◌≡◌, ◌<◌, ◌++◌, ℕ, List, [], length, All, vec_len}
use Rattle.crossbeam_queue.specs.Passes.{view}
use Rattle.greedy_rules.specs.declared.flows.Flow.{Flow}
use Rattle.clos_topology.specs.Network.{Network}
use Rattle.path_workers.specs.declared.jobs.Hand.{Hand}
use Rattle.path_workers.specs.declared.painter.Painter.{Painter}
use Rattle.path_workers.specs.declared.seats.Seat.{Seat}
use Rattle.path_workers.specs.Jobs.{slot_jobs, end_jobs}
use Rattle.path_workers.specs.Painters.{numbers_of, MayPaint, HasPainted, HasRowsOf, HaveRowsOf}

-- it has a part, and its worker may paint
pub record SeatMayPlay (slots : List (List Flow)) (seat : Seat) : Type 0 where
  pub parts : 0 < (view seat.pass).parts
  pub painter : MayPaint slots seat.painter

-- its pass has taken jobs alone, and each slot that they name has a row
pub record SeatHasPlayed (slots : List (List Flow)) (was seat : Seat) : Type 0 where
  pub queue : seat.pass.table_id ≡ was.pass.table_id
  pub none_out : seat.pass.me.1 ≡ []
  pub parts : (view seat.pass).parts ≡ (view was.pass).parts
  pub put : (view seat.pass).put ≡ (view was.pass).put
  pub painted : HasPainted was.painter.net (vec_len was.painter.places) slots seat.painter
  pub rows : HasRowsOf (length slots) (view was.pass).taken (view seat.pass).taken seat.painter
  pub number : seat.painter.number ≡ was.painter.number

-- rows that were right are right
abbrev pub StayPainted : List (List Flow) → List Painter → List Painter → Type 0
StayPainted slots old new = (net : Network) (room : ℕ) → All (HasPainted net room slots) old → All (HasPainted net room slots) new

-- all jobs of the slots were put, with so many ends, and each slot whose job was taken has a row
pub record HaveAllPlayed (slots : List (List Flow)) (workers : ℕ) (old : List Painter) (was : Hand) (new : List Painter) (is : Hand) : Type 0 where
  pub parts : is.parts ≡ was.parts
  pub put : is.put ≡ was.put ++ slot_jobs (length slots) ++ end_jobs workers
  pub rows : HaveRowsOf (length slots) was.taken is.taken new
  pub painted : StayPainted slots old new
  pub len : length new ≡ length old
  pub numbers : numbers_of new ≡ numbers_of old
