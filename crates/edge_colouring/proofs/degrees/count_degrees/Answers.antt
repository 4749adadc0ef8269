use Rattle.std.proofs.Common.{◌<◌, length, arith}
use Rattle.std.proofs.lemmas.List.{length-map}
use Rattle.edge_colouring.specs.Degrees.{rack_on}
use Rattle.edge_colouring.proofs.DegreeLemmas.{degree_counted}
use Rattle.edge_colouring.proofs.degrees.count_degrees.Goals as goal

pub loop-at-preserved : goal.loop-at-preserved
loop-at-preserved c =
    let edges = c.args.graph.now.edges in
    let below : c.loop-at.at < length edges = omega (arith, c.len-at-end.ensures.edges) in
    let bound = c.requires c.loop-at.at 0 (omega (arith, length-map edges (rack_on c.args.left))) in
    degree_counted c.args.left edges c.loop-at.degrees c.loop-at.at c.rack_of.result below c.rack_of.ensures (omega (arith, bound, c.rack_of.ensures)) c.loop-at.invariant
