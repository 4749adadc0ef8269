use Rattle.std.proofs.Common.{◌<◌, ◌+◌, ◌*◌, filter, sym, ap, ◌∙◌, arith}
use Rattle.std.specs.Prelude.{option_map, sum_by}
use Rattle.clos_topology.specs.Network.{endpoints_of}
use Rattle.trace_text.specs.Asks.{slots_asked}
use Rattle.trace_text.specs.Events.{events_kept, fate_rank, way_number}
use Rattle.trace_text.specs.Ranks.{has_rank_in}
use Rattle.trace_text.specs.declared.events.GivenFate.{GivenFate}
use Rattle.trace_text.proofs.ContentFacts.{fate_at-content_by}
use Rattle.trace_text.proofs.EventFacts.{fate-first, fate-within}
use Rattle.trace_text.proofs.RankFacts.{within-round}
use Rattle.trace_text.proofs.trace.Trace.fate_near.Goals as goal

pub of_round-fates-requires-clause-sorted : goal.of_round-fates-requires-clause-sorted
of_round-fates-requires-clause-sorted c = rw c.deref.ensures.value c.self.invariant.1.fates_rise

pub of_round-fates-requires-clause-starts : goal.of_round-fates-requires-clause-starts
of_round-fates-requires-clause-starts c =
    let t = c.self.inside in
    let low : c.args.round < t.rounds = rw (← c.self.view_is) at c.requires.round in
    rw (c.deref.ensures.value, c.deref-2.ensures.value) (512, t.rounds, c.self.invariant.1.fates_begin, low)

pub returns-in-Some : goal.returns-in-Some
returns-in-Some c =
    let t = c.self.inside in
    let round = c.args.round in
    let low : round < t.rounds = rw (← c.self.view_is) at c.requires.round in
    let low2 : c.args.endpoint < endpoints_of t.net = rw (← c.self.view_is) at c.requires.endpoint in
    let few = c.self.invariant.0.few in
    let part = rw (c.deref.ensures.value, c.deref-2.ensures.value) at c.of_round-fates.ensures.part in
    let rank = (round * 256 + c.args.endpoint) * 2 + way_number c.args.up in
    let found = rw c.fate_rank-rank.ensures at (rw c.in-Some.is at c.first_near-next.ensures) in
    let inside = fate-within round c.args.endpoint c.args.up (omega arith) in
    rw (← c.self.view_is)
    (sym (fate_at-content_by t.net t.rounds (λ round src dst. sum_by (slots_asked round src dst) t.asks.items) (events_kept t.fates.items t.boots.items t.raws.items t.bytes.items) c.args.round c.args.endpoint c.args.up low low2
    ∙ fate-first (endpoints_of t.net) t.fates.items (filter (has_rank_in fate_rank rank (rank + 1)) c.of_round-fates.result.now) c.args.round c.args.endpoint c.args.up few low2 c.self.invariant.1.among.each_fate
    (within-round fate_rank t.fates.items c.of_round-fates.result.now 512 round _ _ (part 512 t.rounds c.self.invariant.1.fates_begin low) inside.0 inside.1)
    ∙ sym (ap (option_map (λ (given : GivenFate). given.fate)) found)))

pub returns-in-None : goal.returns-in-None
returns-in-None c =
    let t = c.self.inside in
    let round = c.args.round in
    let low : round < t.rounds = rw (← c.self.view_is) at c.requires.round in
    let low2 : c.args.endpoint < endpoints_of t.net = rw (← c.self.view_is) at c.requires.endpoint in
    let few = c.self.invariant.0.few in
    let part = rw (c.deref.ensures.value, c.deref-2.ensures.value) at c.of_round-fates.ensures.part in
    let rank = (round * 256 + c.args.endpoint) * 2 + way_number c.args.up in
    let found = rw c.fate_rank-rank.ensures at (rw c.in-None.is at c.first_near-next.ensures) in
    let inside = fate-within round c.args.endpoint c.args.up (omega arith) in
    rw (← c.self.view_is)
    (sym (fate_at-content_by t.net t.rounds (λ round src dst. sum_by (slots_asked round src dst) t.asks.items) (events_kept t.fates.items t.boots.items t.raws.items t.bytes.items) c.args.round c.args.endpoint c.args.up low low2
    ∙ fate-first (endpoints_of t.net) t.fates.items (filter (has_rank_in fate_rank rank (rank + 1)) c.of_round-fates.result.now) c.args.round c.args.endpoint c.args.up few low2 c.self.invariant.1.among.each_fate
    (within-round fate_rank t.fates.items c.of_round-fates.result.now 512 round _ _ (part 512 t.rounds c.self.invariant.1.fates_begin low) inside.0 inside.1)
    ∙ sym (ap (option_map (λ (given : GivenFate). given.fate)) found)))
