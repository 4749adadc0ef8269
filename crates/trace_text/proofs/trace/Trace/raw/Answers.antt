use Rattle.std.proofs.Common.{◌<◌, length, ap, ◌∙◌, arith}
use Rattle.std.specs.Prelude.{filter, sum_by, slice_get}
use Rattle.std.proofs.lemmas.List.{length-map}
use Rattle.std.proofs.lemmas.List.Elements.{All-filter}
use Rattle.trace_text.specs.Asks.{slots_asked}
use Rattle.trace_text.specs.Events.{IsWithin, events_kept, is_packet_of, packet_of}
use Rattle.trace_text.proofs.ContentFacts.{raw_at-content_by}
use Rattle.trace_text.proofs.EventFacts.{at-map}
use Rattle.trace_text.proofs.trace.Trace.raw.Goals as goal

pub packets_of-requires-clause-sorted : goal.packets_of-requires-clause-sorted
packets_of-requires-clause-sorted c = rw c.deref-2.ensures.value c.self.invariant.1.raws_rise

pub packets_of-requires-clause-starts : goal.packets_of-requires-clause-starts
packets_of-requires-clause-starts c =
    let t = c.self.inside in
    let low : c.args.round < t.rounds = rw (← c.self.view_is) at c.requires.round in
    rw (c.deref-2.ensures.value, c.deref-3.ensures.value) (t.rounds, c.self.invariant.1.raws_begin, low)

pub bounds-packets_of-at : goal.bounds-packets_of-at
bounds-packets_of-at c =
    let t = c.self.inside in
    let low : c.args.round < t.rounds = rw (← c.self.view_is) at c.requires.round in
    let below = rw (
      ← c.self.view_is,
      raw_at-content_by t.net t.rounds (λ round src dst. sum_by (slots_asked round src dst) t.asks.items) (events_kept t.fates.items t.boots.items t.raws.items t.bytes.items) c.args.round low,
      length-map (filter (is_packet_of c.args.round) t.raws.items) (packet_of t.bytes.items),
    ) at c.requires.at in
    rw (c.packets_of.ensures.packets, c.deref-2.ensures.value) below

pub offset_bounds-packets_of-at : goal.offset_bounds-packets_of-at
offset_bounds-packets_of-at c = let below = bounds-packets_of-at c in let fits = c.packets_of.type_inv.1 in omega arith

pub packet_of-requires : goal.packet_of-requires
packet_of-requires c =
    let t = c.self.inside in
    let below = rw (c.packets_of.ensures.packets, c.deref-2.ensures.value) at (bounds-packets_of-at c) in
    rw (c.packets_of.ensures.packets, c.deref-2.ensures.value, c.deref.ensures.value)
    (All-filter (is_packet_of c.args.round) (IsWithin (length t.bytes.items)) t.raws.items c.self.invariant.1.among.each_raw c.args.at _ below)

pub returns : goal.returns
returns c =
    let t = c.self.inside in
    let low : c.args.round < t.rounds = rw (← c.self.view_is) at c.requires.round in
    let below =
    rw (
      ← c.self.view_is,
      raw_at-content_by t.net t.rounds (λ round src dst. sum_by (slots_asked round src dst) t.asks.items) (events_kept t.fates.items t.boots.items t.raws.items t.bytes.items) c.args.round low,
      length-map (filter (is_packet_of c.args.round) t.raws.items) (packet_of t.bytes.items),
    ) at c.requires.at in
    rw (← c.self.view_is, c.packet_of.ensures, c.packets_of.ensures.packets, c.deref-2.ensures.value, c.deref.ensures.value)
    (ap (λ l. slice_get l c.args.at) (raw_at-content_by t.net t.rounds (λ round src dst. sum_by (slots_asked round src dst) t.asks.items) (events_kept t.fates.items t.boots.items t.raws.items t.bytes.items) c.args.round low)
    ∙ at-map (packet_of t.bytes.items) (filter (is_packet_of c.args.round) t.raws.items) c.args.at _ below)
