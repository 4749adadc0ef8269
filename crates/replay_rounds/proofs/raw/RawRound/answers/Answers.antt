use Rattle.std.proofs.Common.{ℕ, List, Option, Some, get_or, take, slice_set, sym, ap, ◌∙◌}
use Rattle.std.proofs.lemmas.Option.{slice_get-get_or}
use Rattle.replay_rounds.specs.Collecting.{with_numbers}
use Rattle.list_facts.proofs.Lists.{take_got}
use Rattle.replay_rounds.proofs.PartLemmas.{with_numbers-more}
use Rattle.replay_rounds.proofs.raw.RawRound.answers.Goals as goal

pub loop-one-preserved : goal.loop-one-preserved
loop-one-preserved c =
    let refused : List (ℕ × ℕ) = c.args.refused.now in
    let at = c.loop-one.one-index in
    let one : ℕ × ℕ = get_or refused at (0, 0) in
    let before : List (Option ℕ) = c.in_ok-answers.answers.items in
    let got = take_got refused at one (slice_get-get_or refused at (0, 0) c.loop-one-test.true) in
    c.note_number.ensures
    ∙ (ap (λ (answers : List (Option ℕ)). slice_set answers one.0 (Some one.1)) c.loop-one.invariant
    ∙ sym (ap (λ (rs : List (ℕ × ℕ)). with_numbers rs before) got ∙ with_numbers-more (take at refused) one before))
