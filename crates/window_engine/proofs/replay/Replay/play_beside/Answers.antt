use contract.Lifetimes
use Rattle.std.proofs.Common.{ap, subst}
use Rattle.replay_rounds.specs.Standing.{RoundsContent}
use Rattle.window_engine.specs.Replay.{ReplayState}
use Rattle.window_engine.specs.Beside.{HasPlayedBeside}
use mathlib.Core.List.{[]}
use mir.Syntax.{named}
use Rattle.window_allocation.specs.contracts.allocation.Allocation as Allocation
use Rattle.window_allocation.specs.contracts.window.Window as Window
use Rattle.greedy_rules.specs.contracts.batches.Batch as Batch
use Rattle.greedy_rules.proofs.Crossing.{batch_sync}
use denote.Param.Send.{IsSend, IsSync, sendable, param_send, given_sync, mut_send, shr_slice_send}
use Rattle.std.proofs.Crossing.{crosses}
use Rattle.window_allocation.proofs.Crossing.{allocation_send, window_send}
use Rattle.window_engine.proofs.replay.Replay.play_beside.Lts as lts
use Rattle.window_engine.proofs.replay.Replay.play_beside.Given as given
use Rattle.window_engine.specs.contracts.replay.Replay.play_beside as this
use Rattle.window_engine.proofs.replay.Replay.play_beside.Goals as goal

half_send : (g : given.Over) → IsSync (this.R-row g.row.R g.row.G g.row.F) → IsSync (this.G-row g.row.R g.row.G g.row.F) → (κs : contract.Lifetimes.Lfts 18)
    → IsSend (lts.arg-12-1 g.row.R g.row.G g.row.F g.R.laws g.G.laws g.F.laws g.R.Threads-dict g.R.Wait-dict g.G.Gate-dict g.F.FnMut-dict g.F.FnOnce-dict g.F.Destruct-dict κs)
half_send g r q κs =
    let r0 : IsSync g.row.R = given_sync 0 g.row.R r in
    let q0 : IsSync g.row.G = given_sync 1 g.row.G q in
    record {
      owned = λ x vs vss. (
        tt,
        (
          (mut_send (named 0) [] Allocation.the_row allocation_send).owned x.0 vss.0,
          (
            (tt, r0.shared _ _ _ _),
            (
              (tt, q0.shared _ _ _ _),
              (
                (shr_slice_send (named 0) _ Batch.the_row batch_sync).owned _ vs,
                (
                  (mut_send (named 0) [] Window.the_row window_send).owned x.4 vss.1.1.1.1.0,
                  tt,
                ),
              ),
            ),
          ),
        ),
      );
      leaving = λ k. search (sendable, crosses) depth 100 fits 20000;
    }

pub join_mut-played-requires-send-F : goal.join_mut-played-requires-send-F
join_mut-played-requires-send-F g c κs within = param_send 1 (lts.arg-12-1 g.row.R g.row.G g.row.F g.R.laws g.G.laws g.F.laws g.R.Threads-dict g.R.Wait-dict g.G.Gate-dict g.F.FnMut-dict g.F.FnOnce-dict g.F.Destruct-dict κs) (half_send g c.type_bounds.sync-R c.type_bounds.sync-G κs)

pub returns-then-not-have_many-clause-rounds : goal.returns-then-not-have_many-clause-rounds
returns-then-not-have_many-clause-rounds g c =
    let trace = c.args.trace.now in
    let given = c.in_ok-collect.ensures in
    let beside : HasPlayedBeside trace c.self.inside.lanes c.collect.new.self c.in_ok-collect.field-0 = record { frame = given.frame; stands = given.stands; played = given.played } in
    subst (λ (lanes : RoundsContent). HasPlayedBeside trace lanes c.collect.new.self c.in_ok-collect.field-0) (ap (λ (e : ReplayState). e.lanes) c.self.view_is) beside
