use Rattle.std.proofs.Common.{◌≡◌, [], ◌++◌, refl, sym, ap, ◌∙◌, append-nil}
use Rattle.csv.specs.Records.{fields_of}
use Rattle.trace_text.specs.Lines.{records_in}
use Rattle.trace_text.proofs.FrontFacts.{finds-front}
use Rattle.trace_text.proofs.LineFacts.{none-in-empty}
use Rattle.trace_text.proofs.records.read_long.Goals as goal

pub returns : goal.returns
returns c =
    let left = c.deref_mut.result.now in
    let all : records_in c.args.text.now ≡ left = sym c.in_ok-records.ensures ∙ sym c.deref_mut.ensures.value in
    let empty : records_in c.as_slice.result.now ≡ [] = ap records_in c.as_slice.ensures ∙ none-in-empty [] refl in
    rw c.behind.ensures
    (finds-front c.in_ok-read.field-0 c.of-found.result left c.read.new.self (fields_of c.read.new.fields) (records_in c.args.text.now) (records_in c.as_slice.result.now) c.of-found.ensures
    c.in_ok-read.ensures (all ∙ sym (ap (λ l. left ++ l) empty ∙ append-nil left)) (λ none. all ∙ none))
