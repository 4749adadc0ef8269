use Rattle.std.proofs.Common.{◌≡◌, ◌≤◌, ◌-◌, ◌++◌, length, take, drop, filter}
use Rattle.loss_world.proofs.Flights.{is_kept}
use Rattle.loss_world.proofs.world.World.forget_before.Given as goal

abbrev pub invariant-loop-at : goal.invariant-loop-at
invariant-loop-at l =
    (l.at ≤ length l.self.flights)
    × ((take l.at l.self.flights ++ filter (is_kept l.round) (drop l.at l.self.flights) ≡ filter (is_kept l.round) l.initial.self.flights)
    × (l.self.buffers ≡ l.initial.self.buffers))

abbrev pub decreases-loop-at : goal.decreases-loop-at
decreases-loop-at l = length l.self.flights - l.at
