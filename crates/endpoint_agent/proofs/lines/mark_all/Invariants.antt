use Rattle.std.proofs.Common.{◌≡◌, ℕ, false, take}
use Rattle.endpoint_history.specs.Packets.{slots_to}
use Rattle.line_marks.specs.Places.{is_marked}
use Rattle.endpoint_agent.proofs.lines.mark_all.Given as goal

abbrev pub invariant-loop-slot : goal.invariant-loop-slot
invariant-loop-slot l = (dst : ℕ) → is_marked l.unconfirmed dst ≡ false → (is_marked l.initial.unconfirmed dst ≡ false) × (slots_to dst (take l.slot-index l.told) ≡ 0)
