use Rattle.std.proofs.Common.{◌≡◌, ℕ, ◌+◌, ◌-◌, true, false, sym, subst, arith}
use Rattle.endpoint_history.specs.Conditions.{history_of, allocations_of}
use Rattle.both_ends_rows.specs.Callers.{IsServed}
use Rattle.both_ends_rows.proofs.Serving.{served-counted}
use Rattle.both_ends_rows.proofs.tests.lane_calls.Caller.count_slot.Goals as goal

pub returns-then-is_owed : goal.returns-then-is_owed
returns-then-is_owed c =
    let it = c.args.self.now in
    let same : it.round - 1 + 1 ≡ it.round = let some = c.requires.some in omega (arith, some) in
    let is = subst (λ (k : ℕ). IsServed it.lane it.dst k 0 it.before false) (sym same) c.requires.played in
    subst (λ (k : ℕ). IsServed c.allocated.new.self it.dst k 0 it.before true) same
    (served-counted it.lane c.allocated.new.self it.dst (it.round - 1) it.before is c.allocated.ensures.frame
    (c.is_owed.ensures.owed c.if-is_owed.true (history_of is.calls) (allocations_of is.calls) is.stands)
    (c.allocated.ensures.stands (history_of is.calls) (allocations_of is.calls) is.stands))
