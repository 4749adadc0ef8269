-- What a caller of a pair keeps of it (this project's own profile).
use Rattle.std.specs.Prelude.{◌≡◌, ◌≤◌, ℕ, List, length}
use Rattle.greedy_rules.specs.declared.flows.Flow.{Flow}
use Rattle.takeover_history.specs.declared.event.Event.{Event}
use Rattle.takeover_history.specs.declared.event.Event.TheVariants.{Ask}
use Rattle.takeover_history.specs.Events.{PairSetting}
use Rattle.takeover_history.specs.Endpoints.{asked_of_flow}
use Rattle.takeover_history.specs.Steps.{log_of}
use Rattle.takeover_core.specs.declared.pair.Pair.{Pair}
use Rattle.takeover_core.specs.Standing.{PairStandsFor}

-- the slots that an event asks for
abbrev pub asked_by : Event → ℕ
asked_by (Ask src dst slots) = slots
asked_by event = 0

-- so many events came to a pair of so many endpoints, which ask for so many slots together
pub record CallerHasTaken (pair : Pair) (endpoints count asks : ℕ) : Type 0 where
  pub setting : PairSetting
  pub events : List Event
  pub stands : PairStandsFor setting pair events
  pub same : setting.endpoints ≡ endpoints
  pub counted : length events ≡ count
  pub most : (flow : Flow) → asked_of_flow (log_of setting events) flow ≤ asks
