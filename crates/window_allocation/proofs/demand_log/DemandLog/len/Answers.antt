use Rattle.std.proofs.Common.{◌≤◌, ◌<◌, ◌+◌, ◌*◌, ◌^◌, length, rules, arith}
use Rattle.std.proofs.lemmas.Nat.{mul-le}
use Rattle.std.proofs.lemmas.List.{length-append}
use Rattle.window_allocation.proofs.demand_log.DemandLog.len.Goals as goal

pub overflow_add-result : goal.overflow_add-result
overflow_add-result c =
    let never = c.self.inside.never in
    let served = c.self.inside.served in
    let parts = c.self.invariant in
    let pairs : never.endpoints * never.endpoints ≤ 256 * 256 = mul-le never.endpoints never.endpoints 256 256 parts.few parts.few in
    let small : length never.items + length served.items < 2 ^ 63 = omega (arith, parts.may.few, length-append never.items served.items, pairs) in
    search rules
