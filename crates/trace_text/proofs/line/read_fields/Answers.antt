use Rattle.std.proofs.Common.{List, [], ◌∷◌, ◌++◌, true, false, sym, ap, ◌∙◌, subst}
use Rattle.csv.specs.Records.{fields_of}
use Rattle.trace_text.specs.Fields.{Record}
use Rattle.trace_text.proofs.EndFacts.{Ended, field-last, field-more, field-on, record-ended}
use Rattle.trace_text.proofs.FirstFields.{cut-twice}
use Rattle.trace_text.proofs.LineFacts.{begins-field, begins-on}
use Rattle.trace_text.proofs.line.read_fields.Goals as goal

pub loop-field-init : goal.loop-field-init
loop-field-init c = record {
  same = ([], c.clear.ensures.fields, λ more. begins-field (c.args.text.now ++ more) (begins-on c.args.text.now more c.requires));
  partial = c.clear.ensures.partial;
}

pub returns-then-is_last-clause-fields : goal.returns-then-is_last-clause-fields
returns-then-is_last-clause-fields c =
    let (whole, kept, same) = c.loop-field.invariant.same in
    let field = c.in-Some.field.now in
    let behind = c.in-Some.more.now in
    let taken = rw c.if-is_last.true at c.in-Some.ensures in (
      whole ++ field ∷ [],
      cut-twice (fields_of c.keep.new.fields) (whole ++ field ∷ []) (c.in_ok-keep.ensures.fields whole kept),
      λ more.
          record-ended (c.args.text.now ++ more) (behind ++ more) (whole ++ field ∷ [])
          (subst (Ended (whole ++ field ∷ []) (behind ++ more)) (sym (same more)) (field-last whole (c.loop-field.rest.now ++ more) field (behind ++ more) (field-on c.loop-field.rest.now field behind more true taken)))
          ∙ ap (λ (l : List Record). (whole ++ field ∷ []) ∷ l) (c.behind_blank_line.ensures more),
    )

pub loop-field-preserved : goal.loop-field-preserved
loop-field-preserved c =
    let (whole, kept, same) = c.loop-field.invariant.same in
    let field = c.in-Some.field.now in
    let behind = c.in-Some.more.now in
    let taken = rw c.if-is_last.false at c.in-Some.ensures in
    record {
      same = (
        whole ++ field ∷ [],
        c.in_ok-keep.ensures.fields whole kept,
        λ more. same more ∙ field-more whole (c.loop-field.rest.now ++ more) field (behind ++ more) (field-on c.loop-field.rest.now field behind more false taken),
      );
      partial = c.in_ok-keep.ensures.partial;
    }

pub returns-clause-fields : goal.returns-clause-fields
returns-clause-fields c = c.loop-field.invariant.same
