-- The sends that a program keeps, with their sources, and its counts of them.
use Rattle.std.specs.Prelude.{◌≡◌, ◌<◌, ℕ, List, map, count_by}
use Rattle.greedy_rules.specs.Cells.{flow_of}
use Rattle.endpoint_agent.specs.declared.lines.Sent.{Sent}
use Rattle.takeover_history.specs.Endpoints.{Send, is_of}
use Rattle.takeover_core.specs.Cells.{CellsContent, cell}

abbrev pub send_of : ℕ × Sent → Send
send_of x = record { slot = x.1.slot; flow = flow_of x.0 x.1.dst }

abbrev pub sends_in : List (ℕ × Sent) → List Send
sends_in kept = map send_of kept

-- how many of them are of each flow
abbrev pub SendsAreCounted : CellsContent → List (ℕ × Sent) → Type 0
SendsAreCounted counts kept = (src dst : ℕ) → src < counts.endpoints → dst < counts.endpoints → cell counts src dst ≡ count_by (is_of (flow_of src dst)) (sends_in kept)
