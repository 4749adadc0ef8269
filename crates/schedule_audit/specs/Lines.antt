-- What the lines of a text record, allocate and send (this project's own profile).
use Rattle.std.specs.Prelude.{nat_le, ℕ, Bool, List, [], ◌∷◌, map, Option, Some, None, filter_map}
use Rattle.std.specs.List.{list_any}
use Rattle.greedy_rules.specs.declared.flows.Flow.{Flow}
use Rattle.greedy_rules.specs.Flows.{same_flow}
use Rattle.greedy_rules.specs.Cells.{flow_of}
use Rattle.report_text.specs.declared.line.Line.{Line}
use Rattle.report_text.specs.declared.line.Line.TheVariants as line
pub use Rattle.schedule_audit.specs.declared.recorded.Recorded.{Recorded}
pub use Rattle.schedule_audit.specs.declared.packets.Place.{Place}
pub use Rattle.schedule_audit.specs.declared.packets.Path.{Path}

abbrev pub recorded_by : Option Line → Option Recorded
recorded_by (Some (line.Batch batch src dst clear add)) = Some (record { batch = batch; flow = flow_of src dst; clear = clear; add = add })
recorded_by _ = None

abbrev pub path_of : Option Line → Option Path
path_of (Some (line.Slot slot src dst core)) = Some (record { place = record { slot = slot; flow = flow_of src dst }; core = core })
path_of _ = None

abbrev pub sent_by_line : Option Line → Option Place
sent_by_line (Some (line.Sent slot src dst)) = Some (record { slot = slot; flow = flow_of src dst })
sent_by_line _ = None

abbrev pub rounds_by : Option Line → Option ℕ
rounds_by (Some (line.End rounds)) = Some rounds
rounds_by _ = None

abbrev pub records : List (Option Line) → List Recorded
records lines = filter_map recorded_by lines

abbrev pub paths : List (Option Line) → List Path
paths lines = filter_map path_of lines

abbrev pub places : List (Option Line) → List Place
places lines = map (λ path. path.place) (paths lines)

abbrev pub sends_in_lines : List (Option Line) → List Place
sends_in_lines lines = filter_map sent_by_line lines

abbrev pub ends : List (Option Line) → List ℕ
ends lines = filter_map rounds_by lines

-- the rounds of the first `end` line
abbrev pub first_or_0 : List ℕ → ℕ
first_or_0 [] = 0
first_or_0 (n ∷ ns) = n

abbrev pub rounds_in_lines : List (Option Line) → ℕ
rounds_in_lines lines = first_or_0 (ends lines)

abbrev pub has_record : Flow → List Recorded → Bool
has_record flow rs = list_any (λ r. same_flow r.flow flow) rs

-- one is of this batch or a later one
abbrev pub reaches : ℕ → List Recorded → Bool
reaches batch rs = list_any (λ r. nat_le batch r.batch) rs
