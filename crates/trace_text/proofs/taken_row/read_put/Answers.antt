use Rattle.std.proofs.Common.{rules, ◌≡◌, true}
use Rattle.std.proofs.lemmas.Result.{err_from_is_err_and}
use Rattle.csv.specs.Records.{fields_of}
use Rattle.trace_text.specs.Fields.{has_number}
use Rattle.trace_text.proofs.ReadFacts.{put-refused}
use Rattle.trace_text.proofs.taken_row.read_put.Goals as goal

pub returns-in_err-packet : goal.returns-in_err-packet
returns-in_err-packet c = λ command takes.
    let fields = fields_of c.args.fields.now in
    let number : has_number fields 1 ≡ true = search rules in
    let p = err_from_is_err_and c.from_residual-in_err-packet.result c.from_residual-in_err-packet.ensures.1 in
    rw (p.1, p.2) (put-refused command fields c.in_err-packet.field-0.0 takes c.requires number c.in_err-packet.ensures)
