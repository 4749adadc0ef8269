use Rattle.std.proofs.Common.{◌≡◌, ◌≤◌, ◌+◌, ◌*◌, ℕ, refl, sym, ap, ◌∙◌, arith}
use Rattle.std.proofs.lemmas.Nat.{mul-le}
use Rattle.greedy_rules.specs.Schedule.{first_slot}
use Rattle.window_engine.specs.Step.{Span}
use Rattle.run_text.proofs.ReplaySteps.{step_parts}
use Rattle.run_text.proofs.replay.put_lines_of_step.Goals as goal

pub overflow_add-base : goal.overflow_add-base
overflow_add-base g c =
    let step = c.args.step.now in
    let b : ℕ = c.args.b in
    let first : c.allocated-span.result.first ≡ step.window.span.first = ap (λ (s : Span). s.first) c.allocated-span.ensures in
    let below : step.window.span.first * b ≤ (step.window.span.first + step.window.span.count) * b = mul-le step.window.span.first b (step.window.span.first + step.window.span.count) b (omega arith) (omega arith) in
    let product : c.allocated-span.result.first * c.from-2.result ≡ step.window.span.first * b = ap (λ (n : ℕ). n * c.from-2.result) first ∙ ap (λ (n : ℕ). step.window.span.first * n) c.from-2.ensures in
    omega (arith, product, below, c.requires.slots.numbers)

pub returns-in_err-put_played : goal.returns-in_err-put_played
returns-in_err-put_played g c =
    let step = c.args.step.now in
    let b : ℕ = c.args.b in
    let base : ℕ = first_slot b step.window.span.first in
    let count : ℕ = step.window.span.count * b in
    c.texts_follow.ensures.stopped _ c.in_err-put_played.ensures c.from_residual.ensures.1 (sym (step_parts b base count step.window.slots step.window.cores step c.requires.slots refl refl refl refl))

pub returns : goal.returns
returns g c =
    let step = c.args.step.now in
    let b : ℕ = c.args.b in
    let base : ℕ = c.allocated-span.result.first * c.from-2.result + 1 in
    let count : ℕ = c.allocated-span.result.count * c.from.result in
    let base_is : base ≡ first_slot b step.window.span.first = ap (λ (s : Span). s.first * c.from-2.result + 1) c.allocated-span.ensures ∙ ap (λ (n : ℕ). step.window.span.first * n + 1) c.from-2.ensures in
    let count_is : count ≡ step.window.span.count * b = ap (λ (s : Span). s.count * c.from.result) c.allocated-span.ensures ∙ ap (λ (n : ℕ). step.window.span.count * n) c.from.ensures in
    c.texts_follow.ensures.after c.in_ok-put_played.ensures c.put_slots.ensures (sym (step_parts b base count c.slots.result.now c.cores.result.now step c.requires.slots c.slots.ensures c.cores.ensures base_is count_is))
