use Rattle.std.proofs.Common.{◌≡◌, ◌+◌, ◌*◌, ◌<◌, [], true, false, filter, refl, sym, ◌∙◌, add-zero}
use Rattle.std.specs.Prelude.{sum_by}
use Rattle.clos_topology.specs.Network.{endpoints_of}
use Rattle.trace_text.specs.Asks.{slots_asked}
use Rattle.trace_text.specs.Events.{events_kept, fate_rank}
use Rattle.trace_text.specs.Ranks.{has_rank_in}
use Rattle.trace_text.proofs.ContentFacts.{fate_at-content_by}
use Rattle.trace_text.proofs.EventFacts.{fate-none}
use Rattle.trace_text.proofs.trace.Trace.fates_near.Goals as goal

pub is_gap-requires : goal.is_gap-requires
is_gap-requires c = rw c.deref.ensures.value c.self.invariant.1.fates_rise

pub start_near-requires : goal.start_near-requires
start_near-requires c = rw c.deref-2.ensures.value c.self.invariant.1.fates_rise

pub returns-then-is_gap-clause-down : goal.returns-then-is_gap-clause-down
returns-then-is_gap-clause-down c =
    let t = c.self.inside in
    let low : c.args.round < t.rounds = rw (← c.self.view_is) at c.requires.round in
    let low2 : c.args.endpoint < endpoints_of t.net = rw (← c.self.view_is) at c.requires.endpoint in
    let rank = (c.args.round * 256 + c.args.endpoint) * 2 in
    let gap : filter (has_rank_in fate_rank rank (rank + 2)) t.fates.items ≡ [] = rw (c.deref.ensures.value, c.fate_rank-low.ensures, add-zero) at (c.if-is_gap.ensures refl) in
    rw (← c.self.view_is)
    (sym (fate_at-content_by t.net t.rounds (λ round src dst. sum_by (slots_asked round src dst) t.asks.items) (events_kept t.fates.items t.boots.items t.raws.items t.bytes.items) c.args.round c.args.endpoint false low low2
    ∙ fate-none (endpoints_of t.net) t.fates.items c.args.round c.args.endpoint false c.self.invariant.0.few low2 c.self.invariant.1.among.each_fate gap))

pub returns-then-is_gap-clause-up : goal.returns-then-is_gap-clause-up
returns-then-is_gap-clause-up c =
    let t = c.self.inside in
    let low : c.args.round < t.rounds = rw (← c.self.view_is) at c.requires.round in
    let low2 : c.args.endpoint < endpoints_of t.net = rw (← c.self.view_is) at c.requires.endpoint in
    let rank = (c.args.round * 256 + c.args.endpoint) * 2 in
    let gap : filter (has_rank_in fate_rank rank (rank + 2)) t.fates.items ≡ [] = rw (c.deref.ensures.value, c.fate_rank-low.ensures, add-zero) at (c.if-is_gap.ensures refl) in
    rw (← c.self.view_is)
    (sym (fate_at-content_by t.net t.rounds (λ round src dst. sum_by (slots_asked round src dst) t.asks.items) (events_kept t.fates.items t.boots.items t.raws.items t.bytes.items) c.args.round c.args.endpoint true low low2
    ∙ fate-none (endpoints_of t.net) t.fates.items c.args.round c.args.endpoint true c.self.invariant.0.few low2 c.self.invariant.1.among.each_fate gap))
