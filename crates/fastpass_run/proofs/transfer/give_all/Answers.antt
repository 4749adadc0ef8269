use Rattle.std.proofs.Common.{◌++◌, ℕ, List, take, ap, Err, arith, length-append, length-take}
use Rattle.std.proofs.KnownBytes.{Consumes-trans}
use Rattle.fastpass_run.proofs.TransferLemmas.{passed_on, has_read_nothing}
use Rattle.fastpass_run.proofs.transfer.give_all.Goals as goal

pub take-requires : goal.take-requires
take-requires g c =
    let (bytes, took, count, given) = c.gives.invariant.gave in
    let (command, has) = has_read_nothing c.args.reader.now c.requires in
    (command, bytes, given command has, omega (arith, count, length-take c.in_ok-n.n c.next_piece.new.piece, c.in_ok-n.ensures.read))

pub returns-in_err-n-clause-big : goal.returns-in_err-n-clause-big
returns-in_err-n-clause-big g c = λ big.
    let (bytes, took, count, given) = c.gives.invariant.gave in
    let (more, takes, many) = c.in_err-n.ensures.big (ap Err (passed_on c.in_err-n.field-0.0 _ c.from_residual.result c.from_residual.ensures.1 big)) in
    (bytes ++ more, Consumes-trans _ _ _ bytes more took takes, omega (arith, length-append bytes more, many, count))

pub returns-in_err-take-clause-not_big : goal.returns-in_err-take-clause-not_big
returns-in_err-take-clause-not_big g c = λ err not_big.
    let (bytes, took, count, given) = c.gives.invariant.gave in
    let more : List ℕ = take c.in_ok-n.n c.next_piece.new.piece in
    (bytes ++ more, Consumes-trans _ _ _ bytes more took c.in_ok-n.ensures.bytes, omega (arith, count, length-append bytes more, length-take c.in_ok-n.n c.next_piece.new.piece, c.in_ok-n.ensures.read))

pub gives-preserved : goal.gives-preserved
gives-preserved g c =
    let (bytes, took, count, given) = c.gives.invariant.gave in
    let more : List ℕ = take c.in_ok-n.n c.next_piece.new.piece in
    record {
      within = c.in_ok-n.ensures.read.1;
      gave = (
        bytes ++ more,
        Consumes-trans _ _ _ bytes more took c.in_ok-n.ensures.bytes,
        omega (arith, count, length-append bytes more, length-take c.in_ok-n.n c.next_piece.new.piece, c.in_ok-n.ensures.read),
        λ command has. c.in_ok-take.ensures command bytes (given command has),
      );
      later = omega (arith, c.gives.invariant.later, c.next_piece.ensures.later);
    }
