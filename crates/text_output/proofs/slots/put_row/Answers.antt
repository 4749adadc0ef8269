use Rattle.std.proofs.Common.{◌≡◌, ◌<◌, ◌≤◌, ◌+◌, ◌-◌, ◌*◌, ℕ, List, Option, length, take, drop, get_or, min, w64, Fits, sym, subst, arith, rules}
use Rattle.list_facts.specs.Bits.{TellsHeld}
use Rattle.list_facts.proofs.Lists.{part_within}
use Rattle.greedy_rules.specs.declared.flows.Flow.{Flow}
use Rattle.greedy_rules.specs.SlotTable.{flows_from}
use Rattle.greedy_rules.specs.Senders.{AreSendersOf, words_for}
use Rattle.greedy_rules.proofs.Facts.{word_of_senders}
use Rattle.edge_colouring.specs.Cores.{core_in}
use Rattle.report_text.specs.declared.line.Line.{Line}
use Rattle.text_output.specs.Text.{slot_line}
use Rattle.text_output.proofs.OutputLemmas.{Passes-after, Passes-broken}
use Rattle.text_output.proofs.RowTexts.{word_more, word_whole}
use Rattle.text_output.proofs.slots.put_row.Goals as goal

-- the places before a word are the row's
within : (row : List (Option ℕ)) (words word : ℕ) → words ≡ words_for (length row) → word < words → word * 64 ≤ length row
within row words word is below = omega (arith, is, below)

-- a word tells of its places
tells : (senders : List ℕ) (row : List (Option ℕ)) (word end : ℕ) → AreSendersOf (flows_from 0 row) senders → word * 64 ≤ length row → Fits w64 (get_or senders word 0) → end ≡ min (length row) (word * 64 + 64)
    → TellsHeld (take (end - word * 64) (drop (word * 64) row)) (get_or senders word 0)
tells senders row word end are within fits is =
    subst (λ (cells : List (Option ℕ)). TellsHeld cells (get_or senders word 0)) (sym (part_within row (word * 64) 64 end within is)) (word_of_senders senders row word are (search rules))

pub put_word-requires-clause-senders : goal.put_word-requires-clause-senders
put_word-requires-clause-senders g c =
    tells c.args.senders.now c.args.row.now c.loop-at.at c.min-end.result c.requires.senders (within c.args.row.now _ c.loop-at.at c.requires.words c.loop-at-test.true) (c.type_inv.senders c.loop-at.at) c.min-end.ensures

pub returns-in_err-put_word : goal.returns-in_err-put_word
returns-in_err-put_word g c =
    let row : List (Option ℕ) = c.args.row.now in
    let word : ℕ = c.loop-at.at in
    let line : Flow → Line = slot_line c.args.number.now (core_in c.args.cores.now) in
    let below = within row _ word c.requires.words c.loop-at-test.true in
    Passes-broken _ c.loop-at.invariant c.in_err-put_word.ensures c.from_residual.ensures.1
    (word_whole line row _ word below (part_within row (word * 64) 64 _ below c.min-end.ensures))

pub loop-at-preserved : goal.loop-at-preserved
loop-at-preserved g c =
    let row : List (Option ℕ) = c.args.row.now in
    let word : ℕ = c.loop-at.at in
    let line : Flow → Line = slot_line c.args.number.now (core_in c.args.cores.now) in
    let below = within row _ word c.requires.words c.loop-at-test.true in
    Passes-after c.loop-at.invariant c.in_ok-put_word.ensures
    (word_more line row _ word below (part_within row (word * 64) 64 _ below c.min-end.ensures))
