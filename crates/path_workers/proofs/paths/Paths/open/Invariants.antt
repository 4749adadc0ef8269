use Rattle.std.proofs.Common.{◌≡◌, All, vec_len, vec_capacity}
use Rattle.std.specs.List.{range_with_len}
use Rattle.path_workers.specs.Painters.{numbers_of, IsPainter}
use Rattle.path_workers.proofs.paths.Paths.open.Given as goal

abbrev pub invariant-loop-number : goal.invariant-loop-number
invariant-loop-number l = record {
  count : vec_len l.painters ≡ l.number;
  room : vec_capacity l.painters ≡ l.paths;
  numbers : numbers_of l.painters.items ≡ range_with_len 0 l.number;
  painters : All (IsPainter l.net l.slots) l.painters.items;
}
