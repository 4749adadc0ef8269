use Rattle.std.proofs.Common.{◌<◌, ℕ, All, refl, subst, arith}
use Rattle.edge_colouring.proofs.TableLemmas.{named_more, named_all}
use Rattle.edge_colouring.proofs.table.name_cores.Goals as goal

pub loop-at-preserved : goal.loop-at-preserved
loop-at-preserved c =
    let edges = c.args.graph.now.edges in
    let P : ℕ → Type 0 = λ n. All (λ edge. edge.source < n) edges in
    named_more edges c.args.colours.now c.loop-at.cores c.loop-at.at c.edge-source.result.0 c.edge-source.result.1 c.edge-source.result.2 _ c.requires.rising (omega (arith, c.len-at-end.ensures.edges))
    c.edge-source.ensures (subst P (omega (arith, c.loop-at.auto.cores, c.fill.ensures.len)) c.requires.sources) refl c.loop-at.invariant

pub returns : goal.returns
returns c = named_all c.args.graph.now.edges c.args.colours.now c.loop-at.cores c.loop-at.at (omega (arith, c.len-at-end.ensures.edges)) c.loop-at.invariant
