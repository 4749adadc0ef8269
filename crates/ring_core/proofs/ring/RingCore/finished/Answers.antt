use Rattle.std.proofs.Common.{◌≡◌, ◌<◌, ◌≤◌, ◌+◌, ℕ, List, true, false, nat_le, length, get_or, Some, slice_get, refl, sym, ap, ◌∙◌, subst, arith, inl, inr}
use Rattle.std.proofs.lemmas.Bool.{cases_lt, leb-true, leb-false}
use Rattle.std.proofs.lemmas.Option.{slice_get_within, slice_get_read, same_Some}
use Rattle.ring_core.specs.contracts.ring.RingCore.{the_view}
use Rattle.ring_core.specs.States.{WorkerState}
use Rattle.ring_core.specs.Cores.{IsFinished}
use Rattle.ring_core.proofs.EndLemmas.{last_list}
use Rattle.ring_core.proofs.ring.RingCore.finished.Goals as goal

-- one more has ended
one_more : (crew items : List WorkerState) (stages at : ℕ) (d : WorkerState) → items ≡ crew → at < length items → d ≡ get_or items at d → nat_le stages d.stage ≡ true
    → ((number : ℕ) (worker : WorkerState) → number < at → slice_get crew number ≡ Some worker → stages ≤ worker.stage)
    → (number : ℕ) (worker : WorkerState) → number < at + 1 → slice_get crew number ≡ Some worker → stages ≤ worker.stage
one_more crew items stages at d same within is ended earlier number worker below there = elim (cases_lt number at) [
  | inl before ↦ earlier number worker before there
  | inr here ↦
      let at_is : number ≡ at = omega (arith, below, here) in
      let read : slice_get crew at ≡ Some d = ap (λ (ws : List WorkerState). slice_get ws at) (sym same) ∙ slice_get_read items (length items) at d refl within is in
      let same_worker : d ≡ worker = same_Some d worker (sym read ∙ (ap (slice_get crew) (sym at_is) ∙ there)) in
      subst (λ (w : WorkerState). stages ≤ w.stage) same_worker (leb-true stages d.stage ended)
]

-- one that has not ended stands against it
not_all : (crew items : List WorkerState) (stages at : ℕ) (d : WorkerState) → items ≡ crew → at < length items → d ≡ get_or items at d → nat_le stages d.stage ≡ false
    → ((number : ℕ) (worker : WorkerState) → slice_get crew number ≡ Some worker → stages ≤ worker.stage) → ⊥
not_all crew items stages at d same within is going all =
    let read : slice_get crew at ≡ Some d = ap (λ (ws : List WorkerState). slice_get ws at) (sym same) ∙ slice_get_read items (length items) at d refl within is in
    omega (arith, all at d read, leb-false stages d.stage going)

pub loop-worker-preserved : goal.loop-worker-preserved
loop-worker-preserved c =
    one_more c.self.inside.crew.items c.deref-worker-items.result.now c.self.inside.stages c.loop-worker.worker-index c.worker-item.result c.deref-worker-items.ensures.value c.loop-worker-test.true c.worker-item.is
    (sym c.has_ended.ensures.value ∙ c.if-not-has_ended.false) c.loop-worker.invariant

pub returns-then-not-has_ended-clause-ended : goal.returns-then-not-has_ended-clause-ended
returns-then-not-has_ended-clause-ended c =
    rw (← c.self.view_is) (
      (λ (q : false ≡ true). absurd (cc)),
      (λ all. absurd (not_all c.self.inside.crew.items c.deref-worker-items.result.now c.self.inside.stages c.loop-worker.worker-index c.worker-item.result
          c.deref-worker-items.ensures.value c.loop-worker-test.true c.worker-item.is (sym c.has_ended.ensures.value ∙ c.if-not-has_ended.true) all)),
    )

-- all have
all_ended : (crew : List WorkerState) (stages at : ℕ) → length crew ≤ at → ((number : ℕ) (worker : WorkerState) → number < at → slice_get crew number ≡ Some worker → stages ≤ worker.stage)
    → (number : ℕ) (worker : WorkerState) → slice_get crew number ≡ Some worker → stages ≤ worker.stage
all_ended crew stages at past each number worker there = each number worker (omega (arith, slice_get_within crew number worker there, past)) there

pub returns-clause-ended : goal.returns-clause-ended
returns-clause-ended c =
    let all : IsFinished (the_view c.self.inside) = all_ended c.self.inside.crew.items c.self.inside.stages c.loop-worker.worker-index (omega (arith, c.loop-worker-test.false, ap length c.deref-worker-items.ensures.value)) c.loop-worker.invariant in
    rw (← c.self.view_is) ((λ _. all), (λ _. refl))

pub returns-clause-last : goal.returns-clause-last
returns-clause-last c =
    rw (← c.self.view_is) (λ batches playing _.
    last_list batches (the_view c.self.inside) playing (all_ended c.self.inside.crew.items c.self.inside.stages c.loop-worker.worker-index (omega (arith, c.loop-worker-test.false, ap length c.deref-worker-items.ensures.value)) c.loop-worker.invariant))
