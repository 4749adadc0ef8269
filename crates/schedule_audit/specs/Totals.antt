-- What the lines say that sum a text up (this project's own profile).
use Rattle.std.specs.Prelude.{ℕ, Bool, nat_lt, List, [], ◌∷◌, length, Option, Some, None, if◌then◌else◌}
use Rattle.greedy_rules.specs.Cells.{flow_of}
use Rattle.report_text.specs.declared.line.Line.{Line}
use Rattle.report_text.specs.declared.line.Line.TheVariants as line
pub use Rattle.schedule_audit.specs.declared.totals.Total.{Total}
use Rattle.schedule_audit.specs.declared.totals.Total.TheVariants as total
use Rattle.schedule_audit.specs.Numbered.{Numbered}
use Rattle.schedule_audit.specs.Wrong.{Expected, is_bad_flow, is_bad_count}

abbrev pub total_in_line : Option Line → Option Total
total_in_line (Some (line.Flow src dst demanded allocated pending)) = Some (total.Flow (flow_of src dst) demanded allocated pending)
total_in_line (Some (line.Count src dst demanded acknowledged flight pending lost sent missed)) = Some (total.Count (flow_of src dst) demanded acknowledged flight pending lost)
total_in_line (Some (line.End rounds)) = Some total.End
total_in_line _ = None

-- where the text has this many `slot` lines
abbrev pub is_wrong_total : ℕ → Expected → ℕ → Total → Bool
is_wrong_total b expected count (total.Flow flow demanded allocated pending) = is_bad_flow expected flow demanded allocated pending
is_wrong_total b expected count (total.Count flow demanded acknowledged flight pending lost) = is_bad_count b expected flow demanded acknowledged flight pending lost
is_wrong_total b expected count total.End = nat_lt count (length expected.places)

-- the line of the first one that a test finds
abbrev pub first_total : (Total → Bool) → List (Numbered Total) → Option ℕ
first_total wrong [] = None
first_total wrong (t ∷ ts) = if wrong t.said then Some t.line else first_total wrong ts
