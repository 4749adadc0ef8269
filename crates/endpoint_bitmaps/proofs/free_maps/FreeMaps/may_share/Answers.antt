use Rattle.std.proofs.Common.{◌<◌, length, ap, arith}
use Rattle.endpoint_bitmaps.specs.FreeSlots.{FreeSlots}
use Rattle.endpoint_bitmaps.proofs.MapLemmas.{common_is}
use Rattle.endpoint_bitmaps.proofs.free_maps.FreeMaps.may_share.Goals as goal

pub returns : goal.returns
returns c = λ slot.
    let m = c.self.inside in
    let src_below : c.args.src < length m.senders.items = omega (arith, ap (λ (v : FreeSlots). v.endpoints) c.self.view_is, m.senders.ok, c.requires.src_in_range) in
    let dst_below : c.args.dst < length m.senders.items = omega (arith, ap (λ (v : FreeSlots). v.endpoints) c.self.view_is, m.senders.ok, c.requires.dst_in_range) in
    rw (← c.self.view_is)
    (common_is m.senders.items m.receivers.items c.args.src c.args.dst c.index.result.now c.index-2.result.now slot src_below (omega (arith, dst_below, c.self.invariant.0.receivers_count))
    c.index.ensures c.index-2.ensures)
