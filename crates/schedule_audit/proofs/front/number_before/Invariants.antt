use Rattle.std.proofs.Common.{◌≡◌, ◌≤◌, ◌-◌, decimal, take, length}
use Rattle.schedule_audit.proofs.front.number_before.Given as goal

abbrev pub invariant-loop-at : goal.invariant-loop-at
invariant-loop-at l = record {
  spelled : take l.at l.text ≡ decimal l.value;
  within : l.at ≤ length l.text;
}

abbrev pub decreases-loop-at : goal.decreases-loop-at
decreases-loop-at l = length l.text - l.at
