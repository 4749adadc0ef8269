use Rattle.std.proofs.Common.{◌≡◌, ◌+◌, ◌*◌, ◌<◌, [], length, filter, refl, sym, ap, ◌∙◌}
use Rattle.std.specs.Prelude.{sum_by}
use Rattle.clos_topology.specs.Network.{endpoints_of}
use Rattle.trace_text.specs.Asks.{slots_asked}
use Rattle.trace_text.specs.Events.{boot_rank, events_kept}
use Rattle.trace_text.specs.Ranks.{has_rank_in}
use Rattle.trace_text.specs.Trace.{last_one}
use Rattle.trace_text.proofs.ContentFacts.{boots_at-content_by}
use Rattle.trace_text.proofs.EventFacts.{boots-none}
use Rattle.trace_text.proofs.trace.Trace.boots_near.Goals as goal

pub is_gap-requires : goal.is_gap-requires
is_gap-requires c = rw c.deref.ensures.value c.self.invariant.1.boots_rise

pub start_near-requires : goal.start_near-requires
start_near-requires c = rw c.deref-2.ensures.value c.self.invariant.1.boots_rise

pub returns-then-is_gap-clause-count : goal.returns-then-is_gap-clause-count
returns-then-is_gap-clause-count c =
    let t = c.self.inside in
    let low : c.args.round < t.rounds = rw (← c.self.view_is) at c.requires.round in
    let low2 : c.args.endpoint < endpoints_of t.net = rw (← c.self.view_is) at c.requires.endpoint in
    let rank = c.args.round * 256 + c.args.endpoint in
    let gap : filter (has_rank_in boot_rank rank (rank + 1)) t.boots.items ≡ [] = rw (c.deref.ensures.value, c.boot_rank-rank.ensures) at (c.if-is_gap.ensures refl) in
    rw (← c.self.view_is)
    (sym (ap length (boots_at-content_by t.net t.rounds (λ round src dst. sum_by (slots_asked round src dst) t.asks.items) (events_kept t.fates.items t.boots.items t.raws.items t.bytes.items) c.args.round c.args.endpoint low low2
    ∙ boots-none (endpoints_of t.net) t.boots.items c.args.round c.args.endpoint c.self.invariant.0.few low2 c.self.invariant.1.among.each_boot gap)))

pub returns-then-is_gap-clause-version : goal.returns-then-is_gap-clause-version
returns-then-is_gap-clause-version c =
    let t = c.self.inside in
    let low : c.args.round < t.rounds = rw (← c.self.view_is) at c.requires.round in
    let low2 : c.args.endpoint < endpoints_of t.net = rw (← c.self.view_is) at c.requires.endpoint in
    let rank = c.args.round * 256 + c.args.endpoint in
    let gap : filter (has_rank_in boot_rank rank (rank + 1)) t.boots.items ≡ [] = rw (c.deref.ensures.value, c.boot_rank-rank.ensures) at (c.if-is_gap.ensures refl) in
    rw (← c.self.view_is)
    (sym (ap last_one (boots_at-content_by t.net t.rounds (λ round src dst. sum_by (slots_asked round src dst) t.asks.items) (events_kept t.fates.items t.boots.items t.raws.items t.bytes.items) c.args.round c.args.endpoint low low2
    ∙ boots-none (endpoints_of t.net) t.boots.items c.args.round c.args.endpoint c.self.invariant.0.few low2 c.self.invariant.1.among.each_boot gap)))
