use Rattle.std.proofs.Common.{◌≡◌, ◌≤◌, ◌+◌, ℕ, length}
use Rattle.ring_core.specs.Windows.{Window, turns_below}
use Rattle.ring_core.specs.Edges.{room_at}
use Rattle.ring_core.specs.Wholes.{room_for, StandsBefore}
use Rattle.ring_core.proofs.ring.play_stages.Given as goal

abbrev pub invariant-loop-stage : goal.invariant-loop-stage
invariant-loop-stage l = record {
  within : l.stage ≤ length l.batches;
  stands : (endpoints most : ℕ) (window : Window) → StandsBefore endpoints most l.batches window 0 l.fn.crew l.fn.edges l.fn.whole.list.items
      → StandsBefore endpoints most l.batches window l.stage l.crew l.edges l.whole.list.items × (l.turns ≡ turns_below window l.stage);
  nodes : length l.spare + length l.fn.whole.list.items ≡ length l.fn.spare + length l.whole.list.items;
  rooms : (number : ℕ) → room_at l.edges number ≡ room_at l.fn.edges number;
  list : (pairs : ℕ) → pairs ≤ room_for l.fn.whole.list → pairs ≤ room_for l.fn.whole.left → (pairs ≤ room_for l.whole.list) × (pairs ≤ room_for l.whole.left);
}
