-- What the batches of a plan add to each flow (this project's own profile).
use Rattle.std.specs.Prelude.{◌≡◌, ◌==◌, not}
use Rattle.greedy_rules.specs.declared.flows.Flow.{Flow}
use Rattle.greedy_rules.specs.Balance.{is_recorded, added_of, NoneClears}
use Rattle.trace_text.specs.Trace.{TraceContent}
use Rattle.trace_text.specs.Valid.{total_asked, IsTrace}
use Rattle.plan_rounds.specs.Batches.{plan_batches}

-- as many slots as the trace asks for; some batch has the flow exactly where that is one at least; none clears it
pub record AddsWhatIsAsked (trace : TraceContent) (flow : Flow) : Type 0 where
  pub added : added_of flow (plan_batches trace) ≡ total_asked trace.asked flow.src flow.dst
  pub recorded : is_recorded (plan_batches trace) flow ≡ not (total_asked trace.asked flow.src flow.dst == 0)
  pub kept : NoneClears flow (plan_batches trace)

-- so does every plan
abbrev pub EveryPlanAddsWhatIsAsked : Type 0
EveryPlanAddsWhatIsAsked = (trace : TraceContent) (flow : Flow) → IsTrace trace → AddsWhatIsAsked trace flow
