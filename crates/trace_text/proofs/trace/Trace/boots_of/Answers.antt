use Rattle.std.proofs.Common.{◌<◌, ◌+◌, ◌*◌, map, sym, ap, ◌∙◌, arith}
use Rattle.std.specs.Prelude.{filter, sum_by}
use Rattle.list_facts.proofs.Lists.{filter-few}
use Rattle.clos_topology.specs.Network.{endpoints_of}
use Rattle.trace_text.specs.Asks.{slots_asked}
use Rattle.trace_text.specs.Events.{boot_rank, events_kept}
use Rattle.trace_text.specs.Ranks.{has_rank_in}
use Rattle.trace_text.specs.declared.events.Boot.{Boot}
use Rattle.trace_text.proofs.ContentFacts.{boots_at-content_by}
use Rattle.trace_text.proofs.EventFacts.{boots-of}
use Rattle.trace_text.proofs.RankFacts.{within-round}
use Rattle.trace_text.proofs.trace.Trace.boots_of.Goals as goal

pub of_round-boots-requires-clause-sorted : goal.of_round-boots-requires-clause-sorted
of_round-boots-requires-clause-sorted c = rw c.deref.ensures.value c.self.invariant.1.boots_rise

pub of_round-boots-requires-clause-starts : goal.of_round-boots-requires-clause-starts
of_round-boots-requires-clause-starts c =
    let t = c.self.inside in
    let low : c.args.round < t.rounds = rw (← c.self.view_is) at c.requires.round in
    rw (c.deref.ensures.value, c.deref-2.ensures.value) (256, t.rounds, c.self.invariant.1.boots_begin, low)

pub returns-clause-boots : goal.returns-clause-boots
returns-clause-boots c =
    let t = c.self.inside in
    let round = c.args.round in
    let endpoint = c.args.endpoint in
    let low : round < t.rounds = rw (← c.self.view_is) at c.requires.round in
    let low2 : endpoint < endpoints_of t.net = rw (← c.self.view_is) at c.requires.endpoint in
    let few = c.self.invariant.0.few in
    let part = rw (c.deref.ensures.value, c.deref-2.ensures.value) at c.of_round-boots.ensures.part in
    rw (← c.self.view_is, c.between.ensures, c.boot_rank-rank.ensures)
    (ap (map (λ (boot : Boot). boot.version))
    (within-round boot_rank t.boots.items c.of_round-boots.result.now 256 round (round * 256 + endpoint) (round * 256 + endpoint + 1) (part 256 t.rounds c.self.invariant.1.boots_begin low) (omega arith) (omega arith)
    ∙ boots-of (endpoints_of t.net) t.boots.items round endpoint few low2 c.self.invariant.1.among.each_boot)
    ∙ sym (boots_at-content_by t.net t.rounds (λ round src dst. sum_by (slots_asked round src dst) t.asks.items) (events_kept t.fates.items t.boots.items t.raws.items t.bytes.items) round endpoint low low2))

pub returns-clause-few : goal.returns-clause-few
returns-clause-few c =
    let t = c.self.inside in
    let low : c.args.round < t.rounds = rw (← c.self.view_is) at c.requires.round in
    let part = rw (c.deref.ensures.value, c.deref-2.ensures.value) at c.of_round-boots.ensures.part in
    let is = part 256 t.rounds c.self.invariant.1.boots_begin low in
    rw (c.between.ensures, is)
    (omega (
      arith,
      filter-few (has_rank_in boot_rank c.boot_rank-rank.result (c.boot_rank-rank.result + 1)) (filter (has_rank_in boot_rank (c.args.round * 256) ((c.args.round + 1) * 256)) t.boots.items),
      filter-few (has_rank_in boot_rank (c.args.round * 256) ((c.args.round + 1) * 256)) t.boots.items,
      c.self.invariant.1.few,
    ))
