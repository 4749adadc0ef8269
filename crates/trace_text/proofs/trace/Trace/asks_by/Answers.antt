use Rattle.std.proofs.Common.{◌<◌}
use Rattle.clos_topology.specs.Network.{endpoints_of}
use Rattle.trace_text.specs.Events.{events_kept}
use Rattle.trace_text.proofs.AskFacts.{rising-sorted}
use Rattle.trace_text.proofs.RoundFacts.{source-asks}
use Rattle.trace_text.proofs.trace.Trace.asks_by.Goals as goal

pub of_round-asks-requires-clause-sorted : goal.of_round-asks-requires-clause-sorted
of_round-asks-requires-clause-sorted c = rw c.deref.ensures.value (rising-sorted 0 c.self.inside.asks.items c.self.invariant.0.rising)

pub of_round-asks-requires-clause-starts : goal.of_round-asks-requires-clause-starts
of_round-asks-requires-clause-starts c =
    let t = c.self.inside in
    let low : c.args.round < t.rounds = rw (← c.self.view_is) at c.requires.round in
    rw (c.deref.ensures.value, c.deref-2.ensures.value) (65536, t.rounds, c.self.invariant.0.begin, low)

pub returns : goal.returns
returns c =
    let t = c.self.inside in
    let low : c.args.round < t.rounds = rw (← c.self.view_is) at c.requires.round in
    let low2 : c.args.src < endpoints_of t.net = rw (← c.self.view_is) at c.requires.src in
    let part = rw (c.deref.ensures.value, c.deref-2.ensures.value) at c.of_round-asks.ensures.part in
    rw (← c.self.view_is, c.between.ensures, c.from.ensures, c.from-2.ensures)
    (source-asks t.net t.rounds (events_kept t.fates.items t.boots.items t.raws.items t.bytes.items) t.asks.items _ t.ask_starts.items c.args.round c.args.src c.self.invariant.0 low low2
    (part 65536 t.rounds c.self.invariant.0.begin low))
