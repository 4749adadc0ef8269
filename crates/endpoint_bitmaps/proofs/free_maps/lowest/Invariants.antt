use Rattle.std.proofs.Common.{◌≡◌, ℕ}
use Rattle.endpoint_bitmaps.specs.Slots.{has_slot}
use Rattle.endpoint_bitmaps.proofs.CountLemmas.{is_left}
use Rattle.endpoint_bitmaps.proofs.free_maps.lowest.Given as goal

abbrev pub invariant-loop : goal.invariant-loop
invariant-loop l = (k : ℕ) → has_slot l.rest k ≡ is_left (has_slot l.slots) l.counter k
