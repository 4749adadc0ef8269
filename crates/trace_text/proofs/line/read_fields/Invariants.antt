use Rattle.std.proofs.Common.{◌≡◌, ℕ, List, [], ◌++◌, length}
use Rattle.csv.specs.Machine.{next_record}
use Rattle.csv.specs.Reading.{default_config}
use Rattle.csv.specs.Records.{fields_of, partial_of}
use Rattle.csv.specs.declared.parser.State.TheVariants as st
use Rattle.trace_text.specs.Fields.{Record, cut}
use Rattle.trace_text.proofs.line.read_fields.Given as goal

abbrev pub invariant-loop-field : goal.invariant-loop-field
invariant-loop-field l = record {
  same : (whole : Record) × (fields_of l.fields ≡ cut whole) × ((more : List ℕ) → next_record default_config st.StartRecord [] [] (l.text ++ more) ≡ next_record default_config st.StartField whole [] (l.rest ++ more));
  partial : partial_of l.fields ≡ [];
}

abbrev pub decreases-loop-field : goal.decreases-loop-field
decreases-loop-field l = length l.rest
