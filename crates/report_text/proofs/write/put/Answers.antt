use Rattle.std.proofs.Common.{◌+◌, ◌-◌, length, arith}
use Rattle.std.proofs.lemmas.Slice.{drop-put_mid}
use Rattle.report_text.proofs.write.put.Goals as goal

pub returns-clause-rest : goal.returns-clause-rest
returns-clause-rest c =
    let at = c.args.at in
    let end = at + length c.args.bytes.now in
    drop-put_mid at (end - at) c.args.buf.now c.copy_from_slice.new.self end (omega arith) (omega arith) (omega (arith, c.copy_from_slice.ensures.len))
