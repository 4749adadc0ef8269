use Rattle.std.proofs.Common.{◌≡◌, ◌<◌, ◌+◌, List, length, refl, sym, ap, ◌∙◌, arith}
use Rattle.std.proofs.Math.Seq.{take-length}
use Rattle.greedy_rules.specs.declared.flows.Flow.{Flow}
use Rattle.text_output.specs.Text.{text_of, slots_lines}
use Rattle.text_output.proofs.OutputLemmas.{Passes-after, Passes-broken}
use Rattle.text_output.proofs.SlotTexts.{slots_step, slots_whole}
use Rattle.takeover_text.specs.Lines.{no_cores}
use Rattle.takeover_text.proofs.published.put_slots.Goals as goal

pub loop-place-preserved : goal.loop-place-preserved
loop-place-preserved g c =
    let slots : List (List Flow) = c.args.slots.now.slots in
    let number : c.args.first + c.from.result ≡ c.args.first + c.loop-place.place = omega (arith, c.from.ensures) in
    Passes-after c.loop-place.invariant c.in_ok-put_slot.ensures (slots_step no_cores c.args.first (c.args.first + c.from.result) slots c.loop-place.place _ _ (omega (arith, c.slots-place-end.ensures.count)) refl number refl)

pub returns-in_err-put_slot : goal.returns-in_err-put_slot
returns-in_err-put_slot g c =
    let slots : List (List Flow) = c.args.slots.now.slots in
    let number : c.args.first + c.from.result ≡ c.args.first + c.loop-place.place = omega (arith, c.from.ensures) in
    let below : c.loop-place.place < length slots = omega (arith, c.slots-place-end.ensures.count) in
    Passes-broken _ c.loop-place.invariant c.in_err-put_slot.ensures c.from_residual.ensures.1
    (ap (λ (xs : List (List Flow)). text_of (slots_lines no_cores c.args.first xs)) (sym (take-length slots))
    ∙ slots_whole no_cores c.args.first (c.args.first + c.from.result) (length slots) slots c.loop-place.place _ _ below (omega arith) refl number refl)
