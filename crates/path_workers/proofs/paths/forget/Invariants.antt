use Rattle.std.proofs.Common.{◌≡◌, ◌<◌, ◌≤◌, ℕ, List, get_or, All}
use Rattle.greedy_rules.specs.declared.flows.Flow.{Flow}
use Rattle.clos_topology.specs.Network.{Network}
use Rattle.path_workers.specs.declared.painter.Painter.{Painter}
use Rattle.path_workers.specs.Painters.{numbers_of, IsPainter, HasPainted}
use Rattle.path_workers.proofs.paths.forget.Given as goal

abbrev pub invariant-loop-painter : goal.invariant-loop-painter
invariant-loop-painter l = record {
  before : (net : Network) (room : ℕ) (slots : List (List Flow)) → All (IsPainter net room) l.fn.painters → (k : ℕ) (d : Painter) → k < l.painter-index → HasPainted net room slots (get_or l.painter-items k d);
  numbers : numbers_of l.painter-items ≡ numbers_of l.fn.painters;
  later : (k : ℕ) (d : Painter) → l.painter-index ≤ k → get_or l.painter-items k d ≡ get_or l.fn.painters k d;
}
