-- The two halves of a step of a replay, which run at once: they may be begun, and what each makes is what the step goes on with.
use Rattle.std.proofs.Common.{◌≡◌, refl, sym, subst, arith}
use Rattle.clos_topology.specs.NetSlots.{SlotCores}
use Rattle.trace_text.specs.Trace.{TraceContent}
use Rattle.trace_text.specs.Valid.{IsTrace}
use Rattle.replay_rounds.specs.Played.{Played}
use Rattle.replay_rounds.specs.Standing.{RoundsContent}
use Rattle.window_allocation.specs.Giving.{MayGive, HasGiven}
use Rattle.window_engine.specs.Beside.{HasPlayedBeside}
use Rattle.window_engine.specs.Premises.{Replays}
use Rattle.window_engine.specs.Replay.{ReplayState, ReplayStands}
use Rattle.window_allocation.specs.Standing.{Allocated}
use Rattle.window_allocation.specs.Windows.{WindowContent}
use Rattle.window_engine.proofs.ReplaySteps.{few_wait, replay_next}
use Rattle.window_engine.proofs.ReplayPublish.{Collects, collects_with, IsNextWhole, next_whole}
use Rattle.window_engine.proofs.Rings.{ring_holds}

pub may_allocate : Replays → (trace : TraceContent) (cores : SlotCores) (engine : ReplayState) → IsTrace trace → ReplayStands trace cores engine → MayGive engine.allocation engine.waiting
may_allocate laws trace cores engine sound stands =
    let few = few_wait laws trace cores engine sound stands in
    let most : engine.allocation.ring.batches ≡ engine.lanes.g = ring_holds _ _ _ _ stands.allocated in
    record {
      stands = replay_next laws trace cores engine sound stands;
      count = few.0;
      few = omega (arith, most, stands.lanes.rounds.1);
      numbers = few.1;
    }

pub collects_beside : (trace : TraceContent) (engine : ReplayState) (all here : RoundsContent) (rounds : Played) → here ≡ all → HasPlayedBeside trace engine.lanes all rounds → Collects trace engine here
collects_beside trace engine all here rounds same collected = subst (Collects trace engine) (sym same) (collects_with trace engine all collected.frame collected.stands)

pub next_beside : Replays → (trace : TraceContent) (cores : SlotCores) (engine : ReplayState) (new : Allocated) (window : WindowContent) → IsTrace trace → ReplayStands trace cores engine
    → HasGiven engine.allocation engine.waiting new window → IsNextWhole trace cores engine window
next_beside laws trace cores engine new window sound stands given = next_whole laws trace cores engine engine.waiting window sound stands refl given.span given.window
