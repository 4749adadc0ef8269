use Rattle.std.proofs.Common.{ℕ, get_or, bit_and, sym, ap, ◌∙◌}
use Rattle.slot_batches.specs.Marks.{destination_place}
use Rattle.slot_batches.proofs.MarkLemmas.{none_in_common}
use Rattle.slot_batches.proofs.marks.common_marks.Goals as goal

pub returns : goal.returns
returns c = λ none.
    let words = c.args.words.now in
    let flow = c.args.flow.now in
    none_in_common words flow c.requires.source c.requires.destination
    (ap (λ (n : ℕ). bit_and (get_or words n 0) (get_or words (destination_place flow) 0)) (sym c.source_at.ensures)
    ∙ (ap (λ (n : ℕ). bit_and (get_or words c.source_at.result 0) (get_or words n 0)) (sym c.destination_at.ensures) ∙ none))
