use Rattle.std.proofs.Common.{◌<◌, [], length, ap, ◌∙◌, arith}
use Rattle.std.specs.Prelude.{filter, slice_get}
use Rattle.std.proofs.lemmas.List.{length-map}
use Rattle.std.proofs.lemmas.List.Elements.{All-filter}
use Rattle.std.proofs.lemmas.List.FromFn.{length-map-range_with_len}
use Rattle.trace_text.specs.Events.{IsWithin, is_packet_of, packet_of}
use Rattle.trace_text.specs.Puts.{puts_kept}
use Rattle.trace_text.proofs.ContentFacts.{below-at}
use Rattle.trace_text.proofs.EventFacts.{at-map}
use Rattle.trace_text.proofs.puts.Puts.packet.Goals as goal

pub packets_of-requires-clause-starts : goal.packets_of-requires-clause-starts
packets_of-requires-clause-starts c =
    let p = c.self.inside in
    let n = p.endpoints in
    let low : c.args.endpoint < n = rw (← c.self.view_is, length-map-range_with_len (puts_kept p.packets.items p.bytes.items) 0 n) at c.requires.endpoint in
    rw (c.deref-2.ensures.value, c.deref-3.ensures.value, c.from.ensures) (n, c.self.invariant.1, low)

pub bounds-packets_of-at : goal.bounds-packets_of-at
bounds-packets_of-at c =
    let p = c.self.inside in
    let n = p.endpoints in
    let low : c.args.endpoint < n = rw (← c.self.view_is, length-map-range_with_len (puts_kept p.packets.items p.bytes.items) 0 n) at c.requires.endpoint in
    let below = rw (
      ← c.self.view_is,
      below-at n (puts_kept p.packets.items p.bytes.items) [] c.args.endpoint low,
      length-map (filter (is_packet_of c.args.endpoint) p.packets.items) (packet_of p.bytes.items),
    ) at c.requires.at in
    rw (c.packets_of.ensures.packets, c.deref-2.ensures.value, c.from.ensures) below

pub offset_bounds-packets_of-at : goal.offset_bounds-packets_of-at
offset_bounds-packets_of-at c = let below = bounds-packets_of-at c in let fits = c.packets_of.type_inv.1 in omega arith

pub packet_of-requires : goal.packet_of-requires
packet_of-requires c =
    let p = c.self.inside in
    let below = rw (c.packets_of.ensures.packets, c.deref-2.ensures.value, c.from.ensures) at (bounds-packets_of-at c) in
    rw (c.packets_of.ensures.packets, c.deref-2.ensures.value, c.deref.ensures.value, c.from.ensures)
    (All-filter (is_packet_of c.args.endpoint) (IsWithin (length p.bytes.items)) p.packets.items c.self.invariant.2 c.args.at _ below)

pub returns : goal.returns
returns c =
    let p = c.self.inside in
    let n = p.endpoints in
    let low : c.args.endpoint < n = rw (← c.self.view_is, length-map-range_with_len (puts_kept p.packets.items p.bytes.items) 0 n) at c.requires.endpoint in
    let below = rw (
      ← c.self.view_is,
      below-at n (puts_kept p.packets.items p.bytes.items) [] c.args.endpoint low,
      length-map (filter (is_packet_of c.args.endpoint) p.packets.items) (packet_of p.bytes.items),
    ) at c.requires.at in
    rw (← c.self.view_is, c.packet_of.ensures, c.packets_of.ensures.packets, c.deref-2.ensures.value, c.deref.ensures.value, c.from.ensures)
    (ap (λ l. slice_get l c.args.at) (below-at n (puts_kept p.packets.items p.bytes.items) [] c.args.endpoint low)
    ∙ at-map (packet_of p.bytes.items) (filter (is_packet_of c.args.endpoint) p.packets.items) c.args.at _ below)
