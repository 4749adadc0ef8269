-- Lines as bytes, and the lines of batches and of slots (this project's own profile).
use Rattle.std.specs.Prelude.{ℕ, ◌+◌, List, [], ◌∷◌, ◌++◌, map, Option, Some, None}
use Rattle.std.specs.List.{flat_map}
use Rattle.greedy_rules.specs.declared.flows.Flow.{Flow}
use Rattle.greedy_rules.specs.declared.flows.Entry.{Entry}
use Rattle.clos_topology.specs.Links.{CoreOf}
use Rattle.report_text.specs.declared.line.Line.{Line}
use Rattle.report_text.specs.declared.line.Line.TheVariants as line
use Rattle.report_text.specs.Lines.{line_bytes}

-- each line with a line feed
abbrev pub line_text : Line → List ℕ
line_text l = line_bytes l ++ 10 ∷ []

abbrev pub text_of : List Line → List ℕ
text_of lines = flat_map line_text lines

-- what a batch records of a flow
abbrev pub entry_line : ℕ → Entry → Line
entry_line k entry = line.Batch k entry.flow.src entry.flow.dst entry.clear entry.add

-- the flow of a source that sends there, if it sends
abbrev pub flow_list : ℕ → Option ℕ → List Flow
flow_list src None = []
flow_list src (Some dst) = record { src = src; dst = dst } ∷ []

-- a packet of the slot of this number, with its core where one is named
abbrev pub slot_line : ℕ → CoreOf → Flow → Line
slot_line number core_of flow = line.Slot number flow.src flow.dst (core_of flow.src)

-- the slots from this number on
abbrev pub slots_lines : (ℕ → CoreOf) → ℕ → List (List Flow) → List Line
slots_lines cores number [] = []
slots_lines cores number (slot ∷ slots) = map (slot_line number (cores number)) slot ++ slots_lines cores (number + 1) slots
