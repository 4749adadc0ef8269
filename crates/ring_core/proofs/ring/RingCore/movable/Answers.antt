use Rattle.std.proofs.Common.{◌≡◌, ◌<◌, ◌≤◌, ℕ, List, true, false, nat_lt, length, Some, slice_get, sym, ap, ◌∙◌, arith}
use Rattle.std.proofs.lemmas.Bool.Decides.{nat_tests}
use Rattle.std.proofs.lemmas.Option.{slice_get_read, slice_get_within}
use Rattle.ring_core.specs.States.{RingState, WorkerState}
use Rattle.ring_core.proofs.MoveLemmas.{next_least, same_least, least_is_free}
use Rattle.ring_core.proofs.ring.RingCore.movable.Goals.{then-is_behind, else-is_behind}
use Rattle.ring_core.proofs.ring.RingCore.movable.Goals as goal

less : (a b : ℕ) → nat_lt a b ≡ true → a < b
less a b is = grind (arith, nat_tests)

not_less : (a b : ℕ) → nat_lt a b ≡ false → b ≤ a
not_less a b is = grind (arith, nat_tests)

pub loop-number-preserved : goal.loop-number-preserved
loop-number-preserved c =
    let core : RingState = c.args.self.now in
    let was = c.loop-number.invariant in
    let crew : c.self.inside.crew.items ≡ core.crew = ap (λ (v : RingState). v.crew) c.self.view_is in
    let workers : c.self.inside.workers ≡ core.workers = ap (λ (v : RingState). v.workers) c.self.view_is in
    let count : length c.self.inside.crew.items ≡ core.workers = ap length crew ∙ c.requires.room.1.ring.worker_count in
    let within : c.loop-number.number < core.workers = omega (arith, c.loop-number-test.true, workers, c.loop-number.auto.number-end) in
    let here : slice_get core.crew c.loop-number.number ≡ Some c.index.result.now =
    ap (λ (ws : List WorkerState). slice_get ws c.loop-number.number) (sym crew) ∙ slice_get_read c.self.inside.crew.items core.workers c.loop-number.number c.index.result.now (sym count) within c.index.ensures in
    let best : slice_get core.crew c.loop-number.least ≡ Some c.index-in-loop-number.result.now =
    ap (λ (ws : List WorkerState). slice_get ws c.loop-number.least) (sym crew) ∙ slice_get_read c.self.inside.crew.items core.workers c.loop-number.least c.index-in-loop-number.result.now (sym count) was.within c.index-in-loop-number.ensures in
    let a : WorkerState = c.index.result.now in
    let b : WorkerState = c.index-in-loop-number.result.now in
    elim c.if-is_behind.branch [
      | then-is_behind w ↦ rw w.least-is (record { within = within; least = next_least core.crew c.loop-number.least c.loop-number.number a b best here (less a.stage b.stage (sym c.is_behind.ensures ∙ w.if-is_behind.true)) was.least })
      | else-is_behind w ↦ rw w.least-is (record { within = was.within; least = same_least core.crew c.loop-number.least c.loop-number.number a b best here (not_less a.stage b.stage (sym c.is_behind.ensures ∙ w.if-is_behind.false)) was.least })
    ]

pub returns-clause-moves : goal.returns-clause-moves
returns-clause-moves c = λ batches playing rooms worker is.
    let core : RingState = c.args.self.now in
    let workers : c.self.inside.workers ≡ core.workers = ap (λ (v : RingState). v.workers) c.self.view_is in
    least_is_free batches core playing rooms c.requires.going c.loop-number.least worker is
    (λ k w there. c.loop-number.invariant.least k w worker (omega (arith, slice_get_within core.crew k w there, playing.ring.worker_count, c.loop-number-test.false, workers, c.loop-number.auto.number-end)) there is)
