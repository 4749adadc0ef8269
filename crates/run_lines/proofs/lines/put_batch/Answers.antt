use Rattle.std.proofs.Common.{◌≡◌, ◌+◌, ◌*◌, ◌++◌, ℕ, List, get_or, map, take, drop, refl, sym, ap, ◌∙◌, arith}
use Rattle.std.proofs.lemmas.Nat.{mul-le}
use Rattle.std.proofs.lemmas.List.{get_or_default}
use Rattle.greedy_rules.specs.Batches.{DemandBatch}
use Rattle.greedy_rules.specs.Schedule.{first_slot}
use Rattle.window_engine.specs.Scheduled.{cores_from}
use Rattle.window_allocation.specs.declared.window.Span.{Span}
use Rattle.run_lines.specs.Text.{text_of, no_batch, entry_line, slots_lines}
use Rattle.text_output.proofs.OutputLemmas.{Passes-after, Passes-stopped}
use Rattle.run_lines.proofs.BatchTexts.{batch_text}
use Rattle.run_lines.proofs.lines.put_batch.Goals as goal

pub overflow_add-number : goal.overflow_add-number
overflow_add-number g c =
    let step = c.args.step.now in
    let n : ℕ = step.window.span.first + step.window.span.count in
    omega (arith, ap (λ (s : Span). s.first) c.allocated-span.ensures, c.requires.at, c.requires.window.numbers, mul-le n 1 n c.args.b (omega arith) c.requires.b.0)

pub returns-in_err-put_entries : goal.returns-in_err-put_entries
returns-in_err-put_entries g c =
    let step = c.args.step.now in
    let at : ℕ = c.args.at in
    let b : ℕ = c.args.b in
    let none : DemandBatch = no_batch in
    let number : c.allocated-span.result.first + at ≡ step.window.span.first + at = ap (λ (s : Span). s.first + at) c.allocated-span.ensures in
    let batch : c.index-batches-at.result ≡ get_or step.played.batches at none =
    c.index-batches-at.is ∙ (ap (λ (bs : List DemandBatch). get_or bs at c.index-batches-at.result) c.batches.ensures ∙ get_or_default step.played.batches at c.index-batches-at.result none (omega (arith, c.requires.at, c.requires.window.all_allocated))) in
    Passes-stopped _ c.in_err-put_entries.ensures c.from_residual.ensures.1 (sym (batch_text b at (c.allocated-span.result.first + at) (first_slot b step.window.span.first) (at * b) step c.index-batches-at.result step.window.slots step.window.cores number batch refl refl refl refl))

pub returns : goal.returns
returns g c =
    let step = c.args.step.now in
    let at : ℕ = c.args.at in
    let b : ℕ = c.args.b in
    let none : DemandBatch = no_batch in
    let first : ℕ = c.allocated-span.result.first in
    let number : first + at ≡ step.window.span.first + at = ap (λ (s : Span). s.first + at) c.allocated-span.ensures in
    let batch : c.index-batches-at.result ≡ get_or step.played.batches at none =
    c.index-batches-at.is ∙ (ap (λ (bs : List DemandBatch). get_or bs at c.index-batches-at.result) c.batches.ensures ∙ get_or_default step.played.batches at c.index-batches-at.result none (omega (arith, c.requires.at, c.requires.window.all_allocated))) in
    let base : ℕ = first * c.from.result + 1 in
    let from : ℕ = at * c.from-count.result in
    let base_is : base ≡ first_slot b step.window.span.first = ap (λ (s : Span). s.first * c.from.result + 1) c.allocated-span.ensures ∙ ap (λ (n : ℕ). step.window.span.first * n + 1) c.from.ensures in
    let from_is : from ≡ at * b = ap (λ (n : ℕ). at * n) c.from-count.ensures in
    Passes-after c.in_ok-put_entries.ensures c.put_slots.ensures (sym (ap (λ (n : ℕ). text_of (map (entry_line (first + at)) c.index-batches-at.result.entries) ++ text_of (slots_lines (cores_from base c.cores.result.now) (base + from) (take n (drop from c.slots.result.now.slots)))) c.from-count.ensures
    ∙ batch_text b at (first + at) base from step c.index-batches-at.result c.slots.result.now c.cores.result.now number batch base_is from_is c.slots.ensures c.cores.ensures))
