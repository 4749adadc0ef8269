-- The job queue of the path workers (this project's own profile): what was put into it is what was taken and what it holds,
-- however the jobs are weighed, so each job put is held once or was taken once, and no other is.
use Rattle.std.specs.Prelude.{◌≡◌, ℕ, zero, suc, ◌+◌, ◌==◌, List, [], ◌∷◌, ◌++◌, length, if◌then◌else◌}
use mathlib.Core.Option.{some}
use lib.ListN.{get_elem?}
use Rattle.crossbeam_queue.specs.Passes.{Pass, view}
use Rattle.path_workers.specs.declared.jobs.Job.{Job}
use Rattle.path_workers.specs.declared.jobs.Job.TheVariants.{Slot, End}
use Rattle.path_workers.specs.declared.jobs.Hand.{Hand}

abbrev pub hand : ℕ → List Job → List Job → Hand
hand parts put taken = record { parts = parts; put = put; taken = taken }

-- the weights of the jobs, added up
abbrev pub weigh : (Job → ℕ) → List Job → ℕ
weigh h [] = 0
weigh h (job ∷ jobs) = h job + weigh h jobs

-- a number of each view, added up
abbrev pub total_of_views : (Hand → ℕ) → List Hand → ℕ
total_of_views f [] = 0
total_of_views f (view ∷ views) = f view + total_of_views f views

-- a spent view, which has no part, has put and taken nothing
abbrev pub SpentIsEmpty : List Hand → Type 0
SpentIsEmpty views = (port : ℕ) (view : Hand) → get_elem? views port ≡ some view → view.parts ≡ 0 → (view.put ≡ []) × (view.taken ≡ [])

-- the rule of the queue, over the jobs that it holds and the views of all passes: of 17 parts each view has some or is spent
pub record Balanced (jobs : List Job) (views : List Hand) : Type 0 where
  pub parts : total_of_views (λ view. view.parts) views ≡ 17
  pub weighs : (h : Job → ℕ) → total_of_views (λ view. weigh h view.put) views ≡ total_of_views (λ view. weigh h view.taken) views + weigh h jobs
  pub spent : SpentIsEmpty views

-- what a pass has put is what it has taken and these jobs
abbrev pub Even : Hand → List Job → Type 0
Even view jobs = (h : Job → ℕ) → weigh h view.put ≡ weigh h view.taken + weigh h jobs

-- a pass at rest: it has every part, and has taken what it has put
pub record HandIsAtRest (view : Hand) : Type 0 where
  pub parts : view.parts ≡ 17
  pub even : (h : Job → ℕ) → weigh h view.put ≡ weigh h view.taken

-- how many jobs a pass has put
abbrev pub jobs_put : Pass Job Hand → ℕ
jobs_put pass = length (view pass).put

-- the weight of one slot's job is 1, of the others 0
abbrev pub is_slot : ℕ → Job → ℕ
is_slot slot (Slot number) = if number == slot then 1 else 0
is_slot slot End = 0

-- the slots that jobs name
abbrev pub slots_named : List Job → List ℕ
slots_named [] = []
slots_named (Slot number ∷ jobs) = number ∷ slots_named jobs
slots_named (End ∷ jobs) = slots_named jobs

-- the slots whose jobs a pass has taken
abbrev pub taken_slots : Pass Job Hand → List ℕ
taken_slots pass = slots_named (view pass).taken

-- a job for each of the first slots
abbrev pub slot_jobs : ℕ → List Job
slot_jobs zero = []
slot_jobs (suc slot) = slot_jobs slot ++ Slot slot ∷ []

-- so many ends
abbrev pub end_jobs : ℕ → List Job
end_jobs zero = []
end_jobs (suc workers) = end_jobs workers ++ End ∷ []
