use Rattle.std.proofs.Common.{[], sym, ap, ◌∙◌}
use Rattle.std.specs.Prelude.{unwrap_or}
use Rattle.csv.specs.Records.{fields_of}
use Rattle.trace_text.proofs.FieldFacts.{field-field_at}
use Rattle.trace_text.proofs.fields.field.Goals as goal

pub returns-in-Some : goal.returns-in-Some
returns-in-Some c = ap (λ o. unwrap_or o []) c.in-Some.ensures.value ∙ sym (field-field_at (fields_of c.args.fields.now) c.args.at)

pub returns-in-None : goal.returns-in-None
returns-in-None c = ap (λ o. unwrap_or o []) c.in-None.ensures.value ∙ sym (field-field_at (fields_of c.args.fields.now) c.args.at)
