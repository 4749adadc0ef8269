-- The lines of a slot whose packets stand by source: at each place the destination of a source, if it sends.
use Rattle.std.specs.Prelude.{ℕ, ◌+◌, List, [], ◌∷◌, ◌++◌, Option, Some, None}
use Rattle.std.specs.List.{slice_index_or}
use Rattle.report_text.specs.declared.line.Line.TheVariants as line
use Rattle.report_text.specs.Lines.{line_bytes}

-- the line of a source that sends there, with the core at its place
abbrev pub packet_text : ℕ → List (Option ℕ) → ℕ → Option ℕ → List ℕ
packet_text number cores src None = []
packet_text number cores src (Some dst) = line_bytes (line.Slot number src dst (slice_index_or cores src None)) ++ 10 ∷ []

-- the lines of the sources from this one on
abbrev pub row_text : ℕ → List (Option ℕ) → ℕ → List (Option ℕ) → List ℕ
row_text number cores src [] = []
row_text number cores src (to ∷ row) = packet_text number cores src to ++ row_text number cores (src + 1) row
