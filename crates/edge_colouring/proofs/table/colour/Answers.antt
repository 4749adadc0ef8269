use Rattle.std.proofs.Common.{ℕ, List, Option, length, drop, true, false, sym, ap, subst, arith}
use Rattle.std.proofs.lemmas.List.{take_at}
use Rattle.clos_topology.specs.Network.{Network}
use Rattle.clos_topology.specs.RackGraph.{IsGraphOf}
use Rattle.edge_colouring.specs.Cores.{Cores, core_in}
use Rattle.edge_colouring.specs.Colouring.{IsColouring}
use Rattle.edge_colouring.specs.Painted.{AreNamedBySource}
use Rattle.edge_colouring.proofs.TableLemmas.{graph_racks, graph_fits, has_racks, colouring_of}
use Rattle.edge_colouring.proofs.CleanLemmas.{makes_clean}
use Rattle.edge_colouring.proofs.CountLemmas.{degrees_painted}
use Rattle.edge_colouring.proofs.table.colour.Goals as goal

pub paint-requires-clause-left_racks : goal.paint-requires-clause-left_racks
paint-requires-clause-left_racks c =
    let net = c.table.inside.net in
    let graph : IsGraphOf net c.args.graph.now.edges = subst (λ (n : Network). IsGraphOf n c.args.graph.now.edges) (sym (ap (λ (t : Cores). t.net) c.table.view_is)) c.requires.graph in
    has_racks true net.racks c.args.graph.now.edges c.table.inside.painting.left (graph_racks net c.args.graph.now.edges graph) c.table.invariant.left

pub paint-requires-clause-right_racks : goal.paint-requires-clause-right_racks
paint-requires-clause-right_racks c =
    let net = c.table.inside.net in
    let graph : IsGraphOf net c.args.graph.now.edges = subst (λ (n : Network). IsGraphOf n c.args.graph.now.edges) (sym (ap (λ (t : Cores). t.net) c.table.view_is)) c.requires.graph in
    has_racks false net.racks c.args.graph.now.edges c.table.inside.painting.right (graph_racks net c.args.graph.now.edges graph) c.table.invariant.right

pub paint-requires-clause-room : goal.paint-requires-clause-room
paint-requires-clause-room c =
    let net = c.table.inside.net in
    let graph : IsGraphOf net c.args.graph.now.edges = subst (λ (n : Network). IsGraphOf n c.args.graph.now.edges) (sym (ap (λ (t : Cores). t.net) c.table.view_is)) c.requires.graph in
    omega (arith, graph_fits net c.args.graph.now.edges graph, c.table.invariant.room)

pub returns-then-paint-clause-colouring : goal.returns-then-paint-clause-colouring
returns-then-paint-clause-colouring c =
    let edges = c.args.graph.now.edges in
    let cores = c.name_cores.new.cores in
    let colours = c.paint.new.self.colours.items in
    let named : AreNamedBySource edges colours cores = subst (λ (cs : List (Option ℕ)). AreNamedBySource edges cs cores) c.deref.ensures.value c.name_cores.ensures in
    let colouring : IsColouring c.args.colours edges (core_in cores) =
    colouring_of edges c.args.colours colours c.paint.new.self.left c.paint.new.self.right cores (c.paint.ensures.painted c.if-paint.true) c.requires.colours (omega (arith, c.paint.ensures.all c.if-paint.true, c.paint.new.self.colours.ok)) named in
    let whole = take_at cores (drop (length cores) c.table.inside.cores.items) c.table.inside.cores.len (omega (arith, c.name_cores.auto.cores, c.deref_mut.ensures.len)) in
    subst (λ (cs : List (Option ℕ)). IsColouring c.args.colours edges (core_in cs)) (sym whole) colouring

pub returns-then-paint-clause-clean : goal.returns-then-paint-clause-clean
returns-then-paint-clause-clean c = makes_clean c.args.table.now.net.hosts c.args.colours c.args.graph.now.edges _ (returns-then-paint-clause-colouring c)

pub returns-then-paint-clause-degrees : goal.returns-then-paint-clause-degrees
returns-then-paint-clause-degrees c = degrees_painted c.args.graph.now.edges c.args.colours c.paint.new.self.colours.items c.paint.new.self.left c.paint.new.self.right c.requires.colours (omega (arith, c.paint.ensures.all c.if-paint.true, c.paint.new.self.colours.ok)) (c.paint.ensures.painted c.if-paint.true)
