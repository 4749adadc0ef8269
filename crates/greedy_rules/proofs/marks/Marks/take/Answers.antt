use Rattle.std.proofs.Common.{arith, sym}
use Rattle.greedy_rules.proofs.WalkLemmas.{core_left}
use Rattle.greedy_rules.proofs.marks.Marks.take.Goals as goal

pub overflow_add-index_mut : goal.overflow_add-index_mut
overflow_add-index_mut c =
    let marks = c.args.self.now in
    let from = c.rack_of-from in
    let into = c.rack_of-into in
    let left = core_left marks c.args.flow from.result into.result c.index_mut-then-is_outward.result.now from.ensures into.ensures
    (omega (arith, c.requires.from, from.ensures)) (omega (arith, c.requires.into, into.ensures)) c.requires.free (sym c.if-is_outward.ensures) in
    omega (arith, left.0, c.requires.sizes.most_cores, c.index_mut-then-is_outward.ensures.value)

pub overflow_add-index_mut-then-is_outward : goal.overflow_add-index_mut-then-is_outward
overflow_add-index_mut-then-is_outward c =
    let marks = c.args.self.now in
    let from = c.rack_of-from in
    let into = c.rack_of-into in
    let left = core_left marks c.args.flow from.result into.result c.index_mut-then-is_outward-2.result.now from.ensures into.ensures
    (omega (arith, c.requires.from, from.ensures)) (omega (arith, c.requires.into, into.ensures)) c.requires.free (sym c.if-is_outward.ensures) in
    omega (arith, left.1, c.requires.sizes.most_cores, c.index_mut-then-is_outward-2.ensures.value)
