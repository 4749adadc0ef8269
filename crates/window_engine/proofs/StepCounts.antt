-- How many rounds are done after so many steps.
use Rattle.std.proofs.Common.{◌≡◌, ◌<◌, ◌≤◌, ◌+◌, ◌-◌, ◌*◌, ◌/◌, ℕ, zero, suc, min, nat_le, sym, ap, ◌∙◌, arith, inl, inr}
use Rattle.std.proofs.lemmas.Bool.{cases_Bool, leb-true, leb-false}
use Rattle.std.proofs.lemmas.Nat.{div_below, le-div}
use Rattle.trace_run.specs.Windows.{collected_after}
use Rattle.window_engine.specs.Plan.{EveryPlanTakesItsSteps}
use Rattle.window_engine.specs.Replay.{EveryReplayTakesItsSteps}
use Rattle.replay_rounds.proofs.ReplayCores.{one_more}

rounds_are : (g rounds steps : ℕ) → collected_after g rounds steps ≡ min (steps * g) rounds
rounds_are g rounds zero = let none : 0 * g ≡ 0 = omega arith in omega arith
rounds_are g rounds (suc steps) = omega (arith, rounds_are g rounds steps, one_more steps g)

enough : (g rounds steps : ℕ) → 0 < g → rounds ≤ steps * g → (rounds + g - 1) / g ≤ steps
enough g rounds steps some within =
    let below : (rounds + g - 1) / g < suc steps = div_below (rounds + g - 1) g (suc steps) some (omega (arith, one_more steps g)) in
    omega arith

within_steps : (g rounds steps : ℕ) → 0 < g → (rounds + g - 1) / g ≤ steps → rounds ≤ steps * g
within_steps g rounds steps some many =
    elim (cases_Bool (nat_le rounds (steps * g))) [
      | inl within ↦ leb-true rounds (steps * g) within
      | inr more ↦
          let above : steps * g < rounds = leb-false rounds (steps * g) more in
          let too_many : suc steps ≤ (rounds + g - 1) / g = le-div (suc steps) (rounds + g - 1) g some (omega (arith, one_more steps g)) in
          absurd (omega arith)
    ]

pub done_after : EveryPlanTakesItsSteps
done_after g rounds steps some = (
  λ done. enough g rounds steps some (omega (arith, rounds_are g rounds steps)),
  λ many. omega (arith, rounds_are g rounds steps, within_steps g rounds steps some many),
)

-- a replay is a step behind with its batches
pub replayed_after : EveryReplayTakesItsSteps
replayed_after g rounds zero some any = (λ done. absurd (omega arith), λ many. absurd (omega arith))
replayed_after g rounds (suc steps) some any =
    let plan = done_after g rounds steps some in
    let before : suc steps - 1 ≡ steps = omega arith in (
      λ done.
          let many : (rounds + g - 1) / g ≤ steps = plan.0 (sym (ap (collected_after g rounds) before) ∙ done) in
          omega arith,
      λ many. ap (collected_after g rounds) before ∙ plan.1 (omega arith),
    )
