use Rattle.std.proofs.Common.{◌≡◌, ◌++◌, ℕ, List, length, take, ap, Err, arith, length-append, length-take}
use Rattle.std.proofs.KnownBytes.{Consumes-trans}
use Rattle.fastpass_run.proofs.TransferLemmas.{passed_on}
use Rattle.fastpass_run.proofs.transfer.read_into.Goals as goal

pub returns-in_err-n-clause-big : goal.returns-in_err-n-clause-big
returns-in_err-n-clause-big g c = λ big.
    let text = c.reads.text in
    let (more, took, many) = c.in_err-n.ensures.big (ap Err (passed_on c.in_err-n.field-0.0 _ c.from_residual.result c.from_residual.ensures.1 big)) in
    (text.items ++ more, Consumes-trans _ _ _ text.items more c.reads.invariant.gave took, omega (arith, length-append text.items more, many, text.ok.0, c.len.ensures))

pub returns-in_err-extend_from_slice-clause-memory : goal.returns-in_err-extend_from_slice-clause-memory
returns-in_err-extend_from_slice-clause-memory g c = λ err.
    let text = c.reads.text in
    let more : List ℕ = take c.in_ok-n.n c.next_piece.new.piece in
    let count : length more ≡ c.in_ok-n.n = omega (arith, length-take c.in_ok-n.n c.next_piece.new.piece, c.in_ok-n.ensures.read.0) in
    let same : length c.extend_from_slice.new.self.items ≡ length text.items = ap (λ (xs : List ℕ). length xs) {y = text.items} c.in_err-extend_from_slice.ensures.items in (
      text.items ++ more,
      Consumes-trans _ _ _ text.items more c.reads.invariant.gave c.in_ok-n.ensures.bytes,
      (
        omega (arith, count, same, length-append text.items more, c.if-n-eq0.false),
        omega (arith, count, length-append text.items more, text.ok.0, c.len.ensures, c.in_ok-n.ensures.read.1),
      ),
    )
