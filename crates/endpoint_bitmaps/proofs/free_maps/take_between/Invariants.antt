use Rattle.std.proofs.Common.{◌≡◌, ◌<◌, ℕ, length}
use Rattle.endpoint_bitmaps.specs.Slots.{has_slot}
use Rattle.endpoint_bitmaps.specs.Links.{IsUsed}
use Rattle.endpoint_bitmaps.proofs.CountLemmas.{is_left}
use Rattle.endpoint_bitmaps.proofs.LinkLemmas.{IsTaking}
use Rattle.endpoint_bitmaps.proofs.free_maps.take_between.Given as goal

abbrev pub invariant-loop : goal.invariant-loop
invariant-loop l = record {
  lowest : (k : ℕ) → has_slot l.free k ≡ is_left (has_slot l.slots) l.counter k;
  leaving : IsTaking l.cores l.from l.slots l.free l.fn.leaving.taken.items l.leaving.taken.items l.leaving.left.items;
  entering : IsTaking l.cores l.to l.slots l.free l.fn.entering.taken.items l.entering.taken.items l.entering.left.items;
  leaving_racks : length l.leaving.left.items ≡ length l.fn.leaving.left.items;
  entering_racks : length l.entering.left.items ≡ length l.fn.entering.left.items;
  leaving_used : (l.from < l.leaving.used) × IsUsed l.leaving.used l.leaving.taken.items;
  entering_used : (l.to < l.entering.used) × IsUsed l.entering.used l.entering.taken.items;
}
