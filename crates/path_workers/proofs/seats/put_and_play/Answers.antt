use Rattle.std.proofs.Common.{◌++◌, ℕ, refl, ap, ◌∙◌}
use Rattle.crossbeam_queue.specs.Passes.{view}
use Rattle.path_workers.specs.declared.jobs.Hand.{Hand}
use Rattle.path_workers.specs.Jobs.{hand, slot_jobs, end_jobs}
use Rattle.path_workers.proofs.PlayLemmas.{none_played}
use Rattle.path_workers.proofs.seats.put_and_play.Goals as goal

pub returns-then-not-threads-clause-played : goal.returns-then-not-threads-clause-played
returns-then-not-threads-clause-played g c =
    let was : Hand = view c.args.pass in
    none_played c.args.slots.now.slots c.args.ends c.args.painters.items c.args.painters.items was (view c.put_all.new.pass) refl
    (c.put_all.ensures.put ∙ ap (λ (n : ℕ). hand was.parts (was.put ++ slot_jobs n ++ end_jobs c.args.ends) was.taken) c.slots.ensures.count)
