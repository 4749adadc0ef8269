use Rattle.std.proofs.Common.{All, sym, subst, arith}
use Rattle.clos_topology.specs.Network.{Network}
use Rattle.path_workers.specs.Coloured.{IsFlowOf, IsWithinCores}
use Rattle.paths_rows.proofs.SlotLemmas.{slots_of_net}
use Rattle.paths_rows.proofs.tests.path_workers_rows.colour.Goals as goal

pub colour_slots-requires-clause-endpoints : goal.colour_slots-requires-clause-endpoints
colour_slots-requires-clause-endpoints g c κs within =
    let P : Network → Type 0 = λ net. All (All (IsFlowOf net)) c.args.slots.now.slots in
    subst P (sym c.requires.net) (slots_of_net c.args.net.now c.args.slots.now.endpoints c.args.slots.now.slots (omega (arith, c.endpoints.ensures, c.endpoints-2.ensures.number)) c.slots.ensures.each)

pub colour_slots-requires-clause-degrees : goal.colour_slots-requires-clause-degrees
colour_slots-requires-clause-degrees g c κs within =
    let P : Network → Type 0 = λ net. All (IsWithinCores net) c.args.slots.now.slots in
    subst P (sym c.requires.net) c.in_ok-check_degrees.ensures
