use Rattle.std.proofs.Common.{◌<◌, length, sym, ap, ◌∙◌, arith}
use Rattle.std.specs.Prelude.{filter, sum_by}
use Rattle.std.proofs.lemmas.List.{length-map}
use Rattle.trace_text.specs.Asks.{slots_asked}
use Rattle.trace_text.specs.Events.{events_kept, is_packet_of, packet_of}
use Rattle.trace_text.proofs.ContentFacts.{raw_at-content_by}
use Rattle.trace_text.proofs.trace.Trace.raw_count.Goals as goal

pub packets_of-requires-clause-sorted : goal.packets_of-requires-clause-sorted
packets_of-requires-clause-sorted c = rw c.deref.ensures.value c.self.invariant.1.raws_rise

pub packets_of-requires-clause-starts : goal.packets_of-requires-clause-starts
packets_of-requires-clause-starts c =
    let t = c.self.inside in
    let low : c.args.round < t.rounds = rw (← c.self.view_is) at c.requires in
    rw (c.deref.ensures.value, c.deref-2.ensures.value) (t.rounds, c.self.invariant.1.raws_begin, low)

pub returns-clause-few : goal.returns-clause-few
returns-clause-few c =
    let few = rw c.deref.ensures.value at c.packets_of.ensures.few in
    omega (arith, few, c.self.invariant.1.few_raws)

pub returns-clause-number : goal.returns-clause-number
returns-clause-number c =
    let t = c.self.inside in
    let low : c.args.round < t.rounds = rw (← c.self.view_is) at c.requires in
    rw (← c.self.view_is, c.packets_of.ensures.packets, c.deref.ensures.value)
    (sym (length-map (filter (is_packet_of c.args.round) t.raws.items) (packet_of t.bytes.items))
    ∙ sym (ap length (raw_at-content_by t.net t.rounds (λ round src dst. sum_by (slots_asked round src dst) t.asks.items) (events_kept t.fates.items t.boots.items t.raws.items t.bytes.items) c.args.round low)))
