use Rattle.std.proofs.Common.{◌+◌, ◌*◌, ◌<◌, refl, sym, ◌∙◌, arith}
use Rattle.clos_topology.specs.Network.{endpoints_of}
use Rattle.trace_text.specs.Asks.{rank_of}
use Rattle.trace_text.specs.Events.{events_kept}
use Rattle.trace_text.proofs.AskFacts.{rising-sorted}
use Rattle.trace_text.proofs.RankFacts.{filter-filter}
use Rattle.trace_text.proofs.RoundFacts.{source-asks}
use Rattle.trace_text.proofs.trace.Trace.asks_near.Goals as goal

pub between_near-requires-clause-sorted : goal.between_near-requires-clause-sorted
between_near-requires-clause-sorted c = rw c.deref.ensures.value (rising-sorted 0 c.self.inside.asks.items c.self.invariant.0.rising)

pub returns : goal.returns
returns c =
    let t = c.self.inside in
    let round = c.args.round in
    let src = c.args.src in
    let low : round < t.rounds = rw (← c.self.view_is) at c.requires.round in
    let low2 : src < endpoints_of t.net = rw (← c.self.view_is) at c.requires.src in
    let few = c.self.invariant.0.few in
    rw (← c.self.view_is, c.between_near.ensures, c.from.ensures, c.from-2.ensures, c.deref.ensures.value)
    (sym (filter-filter rank_of t.asks.items ((round * 256 + src) * 256) ((round * 256 + src) * 256 + 256) (round * 65536) ((round + 1) * 65536) (omega arith) (omega arith))
    ∙ source-asks t.net t.rounds (events_kept t.fates.items t.boots.items t.raws.items t.bytes.items) t.asks.items _ t.ask_starts.items round src c.self.invariant.0 low low2 refl)
