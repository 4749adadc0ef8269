use Rattle.std.proofs.Common.{◌≡◌, ℕ, ◌+◌, ◌-◌, false, true, sym, subst, arith}
use Rattle.both_ends_rows.specs.Callers.{HasPlayedRounds}
use Rattle.both_ends_rows.proofs.Playing.{may-allocate, slot-allocated}
use Rattle.both_ends_rows.proofs.tests.rounds.Caller.count_slot.Goals as goal

pub allocated-requires-clause-pending : goal.allocated-requires-clause-pending
allocated-requires-clause-pending c = λ since line here.
    let it = c.args.self.now in
    may-allocate it.rounds it.dst it.round it.asked it.before false c.requires.played (c.is_owed.ensures c.if-is_owed.true) line here

pub returns-then-is_owed : goal.returns-then-is_owed
returns-then-is_owed c =
    let it = c.args.self.now in
    let same : it.round - 1 + 1 ≡ it.round = omega (arith, c.requires.some) in
    subst (λ (k : ℕ). HasPlayedRounds c.allocated.new.self it.dst k it.asked it.before true) same
    (slot-allocated it.rounds c.allocated.new.self it.dst (it.round - 1) it.asked it.before
    (subst (λ (k : ℕ). HasPlayedRounds it.rounds it.dst k it.asked it.before false) (sym same) c.requires.played)
    (c.is_owed.ensures c.if-is_owed.true) c.allocated.ensures.frame c.allocated.ensures.stands)
