use Rattle.std.proofs.Common.{rules, ◌≡◌, ◌≢◌, ◌<◌, ℕ, List, None, Some, All, sym, subst, arith}
use Rattle.greedy_rules.specs.declared.flows.Flow.{Flow}
use Rattle.greedy_rules.specs.Matching.{IsMatching}
use Rattle.greedy_rules.specs.Schedule.{slot_in}
use Rattle.greedy_rules.specs.SlotTable.{destination_of}
use Rattle.paths_rows.proofs.SlotLemmas.{put_matching}
use Rattle.paths_rows.proofs.tests.path_workers_rows.put.Goals as goal

pub returns-clause-matchings : goal.returns-clause-matchings
returns-clause-matchings g c =
    let table = c.args.slots.now in
    let P : List (List Flow) → Type 0 = All IsMatching in
    let free : destination_of (slot_in table.slots c.args.slot) c.args.source ≡ None = search rules in
    let others : (other : ℕ) → other < table.endpoints → destination_of (slot_in table.slots c.args.slot) other ≢ Some c.args.destination =
    λ other below. c.loop-other.invariant other (omega (arith, below, c.endpoints-other-end.ensures, c.loop-other-test.false)) in
    subst P (sym c.put.ensures.slots)
    (put_matching table.slots c.args.slot table.endpoints c.args.source c.args.destination (omega (arith, c.slots.ensures.count)) c.requires c.slots.ensures.each free others)
