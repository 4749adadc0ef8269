use Rattle.std.proofs.Common.{◌≡◌, ℕ, List, [], ◌∷◌, ◌++◌, true, sym, ap, ◌∙◌, subst, append-nil}
use Rattle.std.specs.List.{list_all}
use Rattle.csv.specs.Machine.{next_record}
use Rattle.csv.specs.Reading.{default_config}
use Rattle.csv.specs.Records.{fields_of}
use Rattle.csv.specs.declared.parser.State.TheVariants as st
use Rattle.trace_text.specs.Lines.{BeginsWith, is_plain, records_in}
use Rattle.trace_text.proofs.FirstFields.{cut-twice}
use Rattle.trace_text.proofs.LineFacts.{field-end, record-more}
use Rattle.trace_text.proofs.EndFacts.{line-here}
use Rattle.trace_text.proofs.line.read_line.Goals as goal

pub returns-then-has_ended : goal.returns-then-has_ended
returns-then-has_ended c = line-here c.args.text.now (fields_of c.read_fields.new.fields) c.in_ok-rest.rest.now (rw c.if-has_ended.true at c.in_ok-rest.ensures.fields)

pub returns-then-is_plain_field : goal.returns-then-is_plain_field
returns-then-is_plain_field c =
    let (whole, kept, same) = rw c.if-has_ended.false at c.in_ok-rest.ensures.fields in
    let text = c.args.text.now in
    let rest = c.in_ok-rest.rest.now in
    let plain : list_all is_plain rest ≡ true = c.is_plain_field.ensures c.if-is_plain_field.true in
    let here : next_record default_config st.StartRecord [] [] text ≡ next_record default_config st.StartField whole [] rest =
    ap (next_record default_config st.StartRecord [] []) (sym (append-nil text)) ∙ same [] ∙ ap (next_record default_config st.StartField whole []) (append-nil rest) in
    subst (λ (after : List ℕ). BeginsWith (records_in text) (fields_of c.keep.new.fields) (records_in after)) (sym c.as_slice.ensures) (
      whole ++ rest ∷ [],
      cut-twice (fields_of c.keep.new.fields) (whole ++ rest ∷ []) (c.in_ok-keep.ensures.fields whole kept),
      record-more text [] (whole ++ rest ∷ []) (here ∙ field-end whole rest plain),
    )
