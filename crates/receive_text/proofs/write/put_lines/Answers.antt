use Rattle.std.proofs.Common.{◌≡◌, ◌++◌, ℕ, List, map, sym, ap}
use Rattle.greedy_rules.specs.declared.flows.Entry.{Entry}
use Rattle.text_output.specs.Text.{entry_line, text_of}
use Rattle.text_output.proofs.OutputLemmas.{Passes-after, Passes-stopped, Ends-stopped}
use Rattle.receive_text.proofs.Texts.{entries_text, end_text, whole_text}
use Rattle.receive_text.proofs.write.put_lines.Goals as goal

pub returns-in_err-put_all_answers : goal.returns-in_err-put_all_answers
returns-in_err-put_all_answers g c =
    let trace = c.args.trace.now in
    Ends-stopped _ (Passes-stopped (entries_text trace ++ end_text) c.in_err-put_all_answers.ensures c.from_residual.ensures.1 (whole_text trace)) c.from_residual.ensures.1

pub returns-in_err-put_entries : goal.returns-in_err-put_entries
returns-in_err-put_entries g c =
    let trace = c.args.trace.now in
    let same : entries_text trace ≡ text_of (map (entry_line 0) c.args.batch.now.entries) = ap (λ (entries : List Entry). text_of (map (entry_line 0) entries)) (sym c.requires.recorded) in
    Ends-stopped _
    (Passes-after c.in_ok-put_all_answers.ensures
    (Passes-stopped {z = entries_text trace ++ end_text} end_text c.in_err-put_entries.ensures c.from_residual-in_err-put_entries.ensures.1 (ap (λ (t : List ℕ). t ++ end_text) same)) (whole_text trace))
    c.from_residual-in_err-put_entries.ensures.1

pub returns : goal.returns
returns g c =
    let trace = c.args.trace.now in
    let same : entries_text trace ≡ text_of (map (entry_line 0) c.args.batch.now.entries) = ap (λ (entries : List Entry). text_of (map (entry_line 0) entries)) (sym c.requires.recorded) in
    record {
      passes = Passes-after c.in_ok-put_all_answers.ensures
          (Passes-after {z = entries_text trace ++ end_text} c.in_ok-put_entries.ensures c.put_last_line.ensures.passes (ap (λ (t : List ℕ). t ++ end_text) same)) (whole_text trace);
      empty = c.put_last_line.ensures.empty;
    }
