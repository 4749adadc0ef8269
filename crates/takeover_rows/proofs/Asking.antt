-- What an event adds to the asks of a caller.
use Rattle.std.proofs.Common.{◌≤◌, ◌+◌, ℕ, ◌∷◌, arith}
use Rattle.std.specs.Prelude.{Result, Ok, Err, OnOk}
use Rattle.std.proofs.lemmas.Bool.{cond_both}
use Rattle.greedy_rules.specs.declared.flows.Flow.{Flow}
use Rattle.greedy_rules.specs.Flows.{same_flow}
use Rattle.greedy_rules.specs.Cells.{flow_of}
use Rattle.takeover_history.specs.declared.event.Event.{Event}
use Rattle.takeover_history.specs.declared.event.Event.TheVariants.{Ask}
use Rattle.takeover_history.specs.Events.{PairSetting, Log}
use Rattle.takeover_history.specs.Endpoints.{asked_of_flow}
use Rattle.takeover_history.specs.Laws.{asked_in_event, AsksAreCounted}
use Rattle.takeover_history.specs.Steps.{done}
use Rattle.takeover_core.specs.Outcomes.{AsksFit}
use Rattle.takeover_rows.specs.Caller.{asked_by}

at_most : (event : Event) (flow : Flow) → asked_in_event event flow ≤ asked_by event
at_most (Ask src dst slots) flow = cond_both (same_flow (flow_of src dst) flow) slots 0 (λ (n : ℕ). n ≤ slots) (λ same. omega arith) (λ other. omega arith)
at_most event flow = omega arith

pub asked_more : (setting : PairSetting) (log : Log) (flow : Flow) (event : Event) → AsksAreCounted → asked_of_flow (done setting log event ∷ log) flow ≤ asked_by event + asked_of_flow log flow
asked_more setting log flow event law = omega (arith, law setting log event flow, at_most event flow)

pub asks_fit : (log : Log) (event : Event) (asks : ℕ) → ((flow : Flow) → asked_of_flow log flow ≤ asks) → asks + asked_by event ≤ 100000000 → AsksFit log event
asks_fit log (Ask src dst slots) asks most few = omega (arith, most (flow_of src dst))
asks_fit log event asks most few = tt

pub on_ok : {A B P Q : Type 0} (result : Result A B) → OnOk result P → (P → Q) → OnOk result Q
on_ok (Ok value) holds then = then holds
on_ok (Err error) holds then = tt
