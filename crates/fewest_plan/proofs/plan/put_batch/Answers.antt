use Rattle.std.proofs.Common.{◌≡◌, ◌+◌, ◌*◌, ◌++◌, ℕ, get_or, map, take, drop, refl, sym, ap, ◌∙◌}
use Rattle.std.proofs.lemmas.List.{get_or_default}
use Rattle.greedy_rules.specs.Schedule.{first_slot}
use Rattle.window_allocation.specs.Scheduled.{cores_from}
use Rattle.run_lines.specs.Text.{text_of, no_batch, entry_line, slots_lines}
use Rattle.run_lines.proofs.BatchTexts.{batch_text}
use Rattle.run_lines.proofs.OutputLemmas.{Passes-after, Passes-stopped}
use Rattle.fewest_plan.proofs.TextLemmas.{step_of}
use Rattle.fewest_plan.proofs.plan.put_batch.Goals as goal

pub returns-in_err-put_entries : goal.returns-in_err-put_entries
returns-in_err-put_entries g c =
    let window = c.args.window.now in
    let at : ℕ = c.args.at in
    let b : ℕ = c.args.b in
    let batch : c.index.result.now ≡ get_or window.batches.items at no_batch = c.index.ensures ∙ get_or_default window.batches.items at c.index.result.now no_batch c.requires.at in
    Passes-stopped _ c.in_err-put_entries.ensures c.from_residual.ensures.1
    (sym (batch_text b at (window.first + at) (first_slot b window.first) (at * b) (step_of window) c.index.result.now window.slots window.cores refl batch refl refl refl refl))

pub returns : goal.returns
returns g c =
    let window = c.args.window.now in
    let at : ℕ = c.args.at in
    let b : ℕ = c.args.b in
    let batch : c.index.result.now ≡ get_or window.batches.items at no_batch = c.index.ensures ∙ get_or_default window.batches.items at c.index.result.now no_batch c.requires.at in
    let base : ℕ = window.first * c.from.result + 1 in
    let from : ℕ = at * c.from-count.result in
    let base_is : base ≡ first_slot b window.first = ap (λ (n : ℕ). window.first * n + 1) c.from.ensures in
    let from_is : from ≡ at * b = ap (λ (n : ℕ). at * n) c.from-count.ensures in
    Passes-after c.in_ok-put_entries.ensures c.put_slots.ensures (sym (ap (λ (n : ℕ). text_of (map (entry_line (window.first + at)) c.index.result.now.entries) ++ text_of (slots_lines (cores_from base window.cores) (base + from) (take n (drop from window.slots.slots)))) c.from-count.ensures
    ∙ batch_text b at (window.first + at) base from (step_of window) c.index.result.now window.slots window.cores refl batch base_is from_is refl refl))
