use Rattle.std.proofs.Common.{◌≡◌, ◌<◌, ◌∷◌, length, sym, ◌∙◌, arith}
use Rattle.std.proofs.lemmas.Bool.Decides.{nat_tests}
use Rattle.csv.specs.Records.{fields_of}
use Rattle.trace_text.specs.Lines.{records_in}
use Rattle.trace_text.proofs.FrontFacts.{part-long}
use Rattle.trace_text.proofs.records.has_long_record.Goals as goal

pub returns-then-branch : goal.returns-then-branch
returns-then-branch c long rest =
    let fields = fields_of c.read.new.fields in
    let many : 6 < length (fields_of c.read.new.fields) = grind (arith, nat_tests) in
    let first : records_in c.args.part.now ≡ fields ∷ c.read.new.self = sym c.in_ok-records.ensures ∙ sym c.deref_mut.ensures.value ∙ (rw c.if-branch.true at c.in_ok-read.ensures) in
    part-long c.args.part.now rest fields c.read.new.self first many
