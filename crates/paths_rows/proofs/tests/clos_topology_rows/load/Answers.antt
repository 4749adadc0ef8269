use Rattle.std.proofs.Common.{◌<◌, ◌≡◌, [], length, arith}
use Rattle.greedy_rules.specs.Schedule.{slot_in}
use Rattle.greedy_rules.specs.SlotTable.{IsSlotOf}
use Rattle.clos_topology.specs.Network.{endpoints_of}
use Rattle.paths_rows.proofs.tests.clos_topology_rows.load.Goals as goal

pub load-requires-clause-endpoints : goal.load-requires-clause-endpoints
load-requires-clause-endpoints g c =
    let table = c.loop-source.slots in
    let below : c.args.slot < length table.slots = omega (arith, c.slots.ensures.count) in
    let each : IsSlotOf table.endpoints (slot_in table.slots c.args.slot) = c.slots.ensures.each c.args.slot [] below in
    let same : table.endpoints ≡ endpoints_of c.args.net.now = omega (arith, c.endpoints.ensures, c.endpoints-2.ensures.number) in
    λ k d within. let here = each.in_range k d within in (omega (arith, here.0), omega (arith, here.1))
