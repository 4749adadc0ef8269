-- What holds of path workers between two calls (this project's own profile).
use Rattle.std.specs.Prelude.{◌≤◌, All, vec_len}
use Rattle.crossbeam_queue.specs.Passes.{view, IsPassOf}
use Rattle.path_workers.specs.declared.paths.Paths.TheInside.{Inside}
use Rattle.path_workers.specs.Jobs.{HandIsAtRest}
use Rattle.path_workers.specs.Painters.{IsPainter}

-- each worker has room for the network's slots, and the queue is at rest
pub record IsCrew (paths : Inside) : Type 0 where
  pub some : 1 ≤ vec_len paths.painters
  pub few : vec_len paths.painters ≤ 16
  pub room : paths.slots ≤ 1024
  pub painters : All (IsPainter paths.net paths.slots) paths.painters.items
  pub queue : IsPassOf paths.queue paths.pass
  pub rest : HandIsAtRest (view paths.pass)
