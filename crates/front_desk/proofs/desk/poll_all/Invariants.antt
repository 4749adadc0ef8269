use Rattle.std.proofs.Common.{◌≡◌, length, map}
use Rattle.front_desk.specs.State.{HavePolled}
use Rattle.front_desk.specs.Standing.{AreDeskLines, state_of}
use Rattle.front_desk.proofs.desk.poll_all.Given as goal

abbrev pub invariant-loop-endpoint : goal.invariant-loop-endpoint
invariant-loop-endpoint l = record {
  many : length l.lines ≡ length l.fn.lines;
  lines : AreDeskLines (length l.fn.lines) l.lines;
  polled : HavePolled (map state_of l.fn.lines) (map state_of l.lines);
}
