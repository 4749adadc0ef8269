-- What a step answers, and when it may be taken.
use Rattle.std.specs.Prelude.{◌≡◌, ◌≢◌, ◌<◌, ◌≤◌, ℕ, ◌+◌, List, ◌∷◌, length, nat_lt, if◌then◌else◌}
use Rattle.greedy_rules.specs.Cells.{flow_of}
use Rattle.takeover_history.specs.declared.event.Event.{Event}
use Rattle.takeover_history.specs.declared.event.Event.TheVariants.{Ask, Request, Grant, Take, Tell, Publish, Hear, Crash}
use Rattle.takeover_history.specs.Events.{PairSetting, Fact, Log}
use Rattle.takeover_history.specs.Events as fact
use Rattle.takeover_history.specs.Leases.{sent_messages}
use Rattle.takeover_history.specs.Endpoints.{asked_of_flow, generation_of, sent, sends_at}
use Rattle.takeover_history.specs.Steps.{done, log_of}
use Rattle.takeover_core.specs.Promised.{IsPromised}
use Rattle.takeover_core.specs.Standing.{PairStandsFor}
use Rattle.takeover_core.specs.declared.pair.Pair.{Pair}
use Rattle.takeover_core.specs.declared.outcome.Outcome.{Outcome}
use Rattle.takeover_core.specs.declared.outcome.Outcome.TheVariants.{Nothing, Granted, Published, Sent, Refused}

-- after these facts, this one shows
abbrev pub outcome_of : PairSetting → Log → Fact → Outcome
outcome_of setting log (fact.Granted lease) = Granted (sent_messages log) lease.holder.node lease.generation lease.first
outcome_of setting log (fact.Published issue) = Published issue.number
outcome_of setting log (fact.Heard src issue) =
    if nat_lt (generation_of log src) issue.lease.generation then Nothing else Sent (length (sent setting log)) (length (sends_at setting log src issue))
outcome_of setting log (fact.Refused why) = Refused why
outcome_of setting log (_) = Nothing

-- what the event answers after these events
abbrev pub answer_of : PairSetting → List Event → Event → Outcome
answer_of setting events event = outcome_of setting (log_of setting events) (done setting (log_of setting events) event)

-- its endpoints and nodes are there, and an endpoint asks for another
abbrev pub IsEvent : ℕ → Event → Type 0
IsEvent endpoints (Ask src dst slots) = (src < endpoints) × (dst < endpoints) × (src ≢ dst)
IsEvent endpoints (Request node) = node < 2
IsEvent endpoints (Grant m) = Unit {0}
IsEvent endpoints (Take node m) = node < 2
IsEvent endpoints (Tell src node) = (src < endpoints) × (node < 2)
IsEvent endpoints (Publish node) = node < 2
IsEvent endpoints (Hear src batch) = src < endpoints
IsEvent endpoints (Crash node) = node < 2

-- the asks of a flow stay at most 100,000,000
abbrev pub AsksFit : Log → Event → Type 0
AsksFit log (Ask src dst slots) = asked_of_flow log (flow_of src dst) + slots ≤ 100000000
AsksFit log event = Unit {0}

-- the event may come after these: there are fewer than 10,000, none of which asked_of_flow too much
pub record MayFollow (setting : PairSetting) (events : List Event) (event : Event) : Type 0 where
  pub few : length events < 10000
  pub is_event : IsEvent setting.endpoints event
  pub fits : AsksFit (log_of setting events) event

-- the pair stands for some events that it may follow
abbrev pub MayStep : Pair → Event → Type 0
MayStep pair event = (setting : PairSetting) × (events : List Event) × PairStandsFor setting pair events × MayFollow setting events event

-- whatever events the old pair stands for, the new one stands for them and this one, and so it answers
abbrev pub PairStands : Pair → Pair → Event → Type 0
PairStands old new event = (setting : PairSetting) (events : List Event) → PairStandsFor setting old events → MayFollow setting events event → PairStandsFor setting new (event ∷ events)

abbrev pub PairAnswers : Pair → Event → Outcome → Type 0
PairAnswers old event outcome = (setting : PairSetting) (events : List Event) → PairStandsFor setting old events → MayFollow setting events event → outcome ≡ answer_of setting events event

-- and what is promised of every list of events holds of them
abbrev pub Promises : Pair → Event → Type 0
Promises old event = (setting : PairSetting) (events : List Event) → PairStandsFor setting old events → MayFollow setting events event → IsPromised setting (log_of setting (event ∷ events))
