-- A schedule that goes by, place after place (this project's own profile).
use Rattle.std.specs.Prelude.{◌≡◌, ◌<◌, ◌≤◌, ℕ, ◌+◌, ◌-◌, ◌*◌, List, length, map, count_by, All}
use Rattle.greedy_rules.specs.declared.flows.Flow.{Flow}
use Rattle.greedy_rules.specs.Flows.{same_flow}
use Rattle.clos_topology.specs.Network.{endpoints_of}
use Rattle.schedule_audit.specs.declared.judges.Judges.{Judges}
use Rattle.schedule_audit.specs.Lines.{Place}
use Rattle.schedule_audit.specs.FlowNumbers.{flow_number_of}
use Rattle.schedule_audit.specs.Marks.{HaveMarks}
use Rattle.schedule_audit.specs.Judged.{PathsStand, SendsStand, AreBefore}

-- the places of a slot whose flows these are
abbrev pub in_slot : ℕ → List Flow → List Place
in_slot slot flows = map (λ flow. record { slot = slot; flow = flow }) flows

-- the text was held against these places, and these were counted
pub record StandApart (held counted : List Place) (judges : Judges) : Type 0 where
  pub paths : PathsStand judges.net held judges.paths
  pub marks : HaveMarks judges.net judges.paths.links
  pub sends : SendsStand held judges.sends
  pub slots : (flow : Flow) → flow_number_of judges.slots flow ≡ count_by (λ place. same_flow place.flow flow) counted
  pub sizes : endpoints_of judges.net ≤ 256
  pub between : judges.slots.endpoints ≡ endpoints_of judges.net
  pub count : judges.places ≡ length counted
  pub few : (order : ℕ) → AreBefore order counted → length counted ≤ order
  pub seldom : (flow : Flow) (slot : ℕ) → AreBefore (slot * 65536 + flow.src) counted → count_by (λ place. same_flow place.flow flow) counted ≤ slot - 1

-- these places went by
abbrev pub JudgesStand : List Place → Judges → Type 0
JudgesStand visited judges = StandApart visited visited judges

-- the text that is judged stays
pub record IsSameText (old new : Judges) : Type 0 where
  pub net : new.net ≡ old.net
  pub paths : new.paths.lines ≡ old.paths.lines
  pub sends : new.sends.lines ≡ old.sends.lines

-- these flows are between so many endpoints
abbrev pub FlowsAreBetween : ℕ → List Flow → Type 0
FlowsAreBetween endpoints flows = All (λ flow. (flow.src < endpoints) × (flow.dst < endpoints)) flows
