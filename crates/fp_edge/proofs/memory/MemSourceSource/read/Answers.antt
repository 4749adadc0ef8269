use Rattle.std.proofs.Common.{◌≡◌, length, min, drop, take, ◌++◌, arith}
use Rattle.std.proofs.lemmas.Grind.{common_steps}
use Rattle.fp_edge.proofs.Fronts.{take-front, drop-end}
use Rattle.fp_edge.proofs.memory.MemSourceSource.read.Goals as goal

pub returns-clause-bytes : goal.returns-clause-bytes
returns-clause-bytes c =
    let bytes = c.self.inside.bytes.items in
    let at = c.self.inside.at in
    let n = c.min-n.result in
    let front = c.copy_from_slice.new.self in
    let tail = drop n c.args.buf.now in
    let len : length front ≡ n = grind (arith, common_steps) in
    let is : front ≡ take n (drop at bytes) = grind (arith, common_steps) in
    let amount : n ≡ min (min c.self.inside.most (length (drop at bytes))) (length (front ++ tail)) = grind (arith, common_steps) in
    rw (← c.self.view_is) (take-front bytes front tail at n len is, λ none wide. drop-end bytes at n c.self.inside.most (length (front ++ tail)) c.self.invariant.1 amount none wide)
