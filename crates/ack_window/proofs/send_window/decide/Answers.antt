use Rattle.std.proofs.Common.{◌^◌, drop, sym, ◌∙◌, subst, arith, drop-drop}
use Rattle.std.proofs.lemmas.Bool.{OnFalse_at}
use Rattle.ack_window.specs.Kept.{RisesWithin}
use Rattle.ack_window.proofs.Sending.{RisesWithin-tail, HasJudged-more, HasJudged-all}
use Rattle.ack_window.proofs.send_window.decide.Goals as goal

pub numbers-preserved : goal.numbers-preserved
numbers-preserved g c =
    let step = c.judge-at.ensures in
    let rest = sym (step.rest ∙ sym (drop-drop 1 c.numbers.at c.numbers.unresolved.items)) in
    let rises = RisesWithin-tail 0 (2 ^ 32) (drop c.numbers.at c.numbers.unresolved.items) c.numbers.invariant.1 in (
      HasJudged-more _ _ c.numbers.found.items c.judge-at.new.found.items _ c.numbers.unresolved.items c.judge-at.new.unresolved.items c.numbers.at c.judge-at.result
          c.numbers.invariant.0 step.found step.kept step.rest,
      subst (λ xs. RisesWithin 0 (2 ^ 32) xs) rest rises,
      omega arith,
      step.place,
      step.capacity ∙ c.numbers.invariant.4,
    )

pub returns-clause-found : goal.returns-clause-found
returns-clause-found g c =
    (HasJudged-all _ _ _ _ c.numbers.found.items _ c.numbers.unresolved.items c.numbers.at (2 ^ 32) c.numbers.invariant.0 (rw c.deref.ensures.value at (OnFalse_at c.numbers-test.false c.is_within.ensures.past))).0

pub returns-clause-left : goal.returns-clause-left
returns-clause-left g c =
    (HasJudged-all _ _ _ _ c.numbers.found.items _ c.numbers.unresolved.items c.numbers.at (2 ^ 32) c.numbers.invariant.0 (rw c.deref.ensures.value at (OnFalse_at c.numbers-test.false c.is_within.ensures.past))).1
