use Rattle.std.proofs.Common.{◌<◌, ◌+◌, ◌++◌, List, ℕ, length, map, take, drop, sym, ap, ◌∙◌, arith}
use Rattle.text_output.specs.Text.{line_text, text_of, entry_line}
use Rattle.text_output.proofs.OutputLemmas.{Passes-after, Passes-broken}
use Rattle.text_output.proofs.TextLemmas.{text_more, text_rest}
use Rattle.text_output.proofs.batch.put_entries.Goals as goal

pub returns-in_err-put_entry : goal.returns-in_err-put_entry
returns-in_err-put_entry g c =
    let batch = c.args.batch.now.entries in
    let at = c.loop-at.at in
    let line = entry_line c.args.number in
    let below : at < length batch = omega (arith, c.len-at-end.ensures.entries) in
    let more = text_more line batch at c.entry.result below c.entry.ensures ∙ ap (λ (n : ℕ). text_of (map line (take at batch)) ++ line_text (entry_line n c.entry.result)) (sym c.new-spelled.ensures) in
    let whole = text_rest line batch (at + 1) ∙ ap (λ (t : List ℕ). t ++ text_of (map line (drop (at + 1) batch))) more in
    Passes-broken _ c.loop-at.invariant c.in_err-put_entry.ensures c.from_residual.ensures.1 whole

pub loop-at-preserved : goal.loop-at-preserved
loop-at-preserved g c =
    let batch = c.args.batch.now.entries in
    let at = c.loop-at.at in
    let line = entry_line c.args.number in
    let below : at < length batch = omega (arith, c.len-at-end.ensures.entries) in
    let more = text_more line batch at c.entry.result below c.entry.ensures ∙ ap (λ (n : ℕ). text_of (map line (take at batch)) ++ line_text (entry_line n c.entry.result)) (sym c.new-spelled.ensures) in
    Passes-after c.loop-at.invariant c.in_ok-put_entry.ensures more
