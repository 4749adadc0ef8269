-- What follows for the numbers of an engine from what it stands for.
use Rattle.std.proofs.Common.{◌≡◌, ◌<◌, ◌≤◌, ◌+◌, sym, ap, ◌∙◌, subst, arith}
use Rattle.clos_topology.specs.Network.{endpoints_of}
use Rattle.clos_topology.specs.NetSlots.{SlotCores}
use Rattle.trace_text.specs.Trace.{TraceContent}
use Rattle.window_engine.specs.Standing.{EngineState, StandsForPlan, StandsForReplay}

pub record IsWithinTrace (trace : TraceContent) (engine : EngineState) : Type 0 where
  pub b : (0 < engine.b) × (engine.b ≤ 64)
  pub g : (0 < engine.g) × (engine.g ≤ 16)
  pub endpoints : engine.endpoints ≡ endpoints_of trace.net
  pub rounds : engine.rounds ≡ trace.rounds
  pub within : engine.collected ≤ trace.rounds
  pub behind : engine.allocated ≤ engine.collected
  pub one_window : engine.collected ≤ engine.allocated + engine.g

pub plan_within : {trace : TraceContent} {engine : EngineState} → StandsForPlan trace engine → IsWithinTrace trace engine
plan_within {trace = trace} stands =
    let all = stands.stands in
    subst (IsWithinTrace trace) (sym stands.is) (record {
      b = all.allocated.size;
      g = all.window;
      endpoints = all.endpoints;
      rounds = all.rounds;
      within = all.collected.within;
      behind = omega arith;
      one_window = omega arith;
    })

-- a plan allocates all that it has collected
pub plan_whole : {trace : TraceContent} {engine : EngineState} → StandsForPlan trace engine → engine.allocated ≡ engine.collected
plan_whole stands = ap (λ (e : EngineState). e.allocated) stands.is ∙ sym (ap (λ (e : EngineState). e.collected) stands.is)

pub replay_within : {trace : TraceContent} {cores : SlotCores} {engine : EngineState} → StandsForReplay trace cores engine → IsWithinTrace trace engine
replay_within {trace = trace} stands =
    let all = stands.stands in
    subst (IsWithinTrace trace) (sym stands.is) (record {
      b = all.lanes.batch;
      g = all.lanes.rounds;
      endpoints = all.lanes.endpoints;
      rounds = all.rounds;
      within = all.windows.within;
      behind = all.windows.behind;
      one_window = all.windows.one_window;
    })
