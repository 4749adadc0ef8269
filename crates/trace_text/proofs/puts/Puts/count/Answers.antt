use Rattle.std.proofs.Common.{◌<◌, [], length, sym, ap, ◌∙◌}
use Rattle.std.specs.Prelude.{filter}
use Rattle.std.proofs.lemmas.List.{length-map}
use Rattle.std.proofs.lemmas.List.FromFn.{length-map-range_with_len}
use Rattle.trace_text.specs.Events.{is_packet_of, packet_of}
use Rattle.trace_text.specs.Puts.{puts_kept}
use Rattle.trace_text.proofs.ContentFacts.{below-at}
use Rattle.trace_text.proofs.puts.Puts.count.Goals as goal

pub packets_of-requires-clause-starts : goal.packets_of-requires-clause-starts
packets_of-requires-clause-starts c =
    let p = c.self.inside in
    let n = p.endpoints in
    let low : c.args.endpoint < n = rw (← c.self.view_is, length-map-range_with_len (puts_kept p.packets.items p.bytes.items) 0 n) at c.requires in
    rw (c.deref.ensures.value, c.deref-2.ensures.value, c.from.ensures) (n, c.self.invariant.1, low)

pub returns : goal.returns
returns c =
    let p = c.self.inside in
    let n = p.endpoints in
    let low : c.args.endpoint < n = rw (← c.self.view_is, length-map-range_with_len (puts_kept p.packets.items p.bytes.items) 0 n) at c.requires in
    rw (← c.self.view_is, c.packets_of.ensures.packets, c.deref.ensures.value, c.from.ensures)
    (sym (length-map (filter (is_packet_of c.args.endpoint) p.packets.items) (packet_of p.bytes.items))
    ∙ sym (ap length (below-at n (puts_kept p.packets.items p.bytes.items) [] c.args.endpoint low)))
