use Rattle.std.proofs.Common.{ℕ, List, length, arith}
use Rattle.report_text.specs.declared.line.Line.{Line}
use Rattle.text_output.proofs.OutputLemmas.{Passes-after, Passes-broken, Passes-same}
use Rattle.text_output.proofs.ItemTexts.{numbers_more}
use Rattle.takeover_text.specs.Lines.{totals_of}
use Rattle.takeover_text.specs.Progress.{log_after}
use Rattle.takeover_text.proofs.NumberedLines.{numbers_whole, numbers_all}
use Rattle.takeover_text.proofs.totals.put_totals.Goals as goal

pub loop-src-preserved : goal.loop-src-preserved
loop-src-preserved g c =
    let script = c.args.script.now in
    let lines : ℕ → List Line = totals_of script.pair (log_after script (length script.events)) in
    Passes-after c.loop-src.invariant c.in_ok-put_source.ensures (numbers_more lines script.pair.endpoints c.loop-src.src (omega (arith, c.pair-endpoints.ensures.endpoints)))

pub returns-in_err-put_source : goal.returns-in_err-put_source
returns-in_err-put_source g c =
    let script = c.args.script.now in
    let lines : ℕ → List Line = totals_of script.pair (log_after script (length script.events)) in
    Passes-broken _ c.loop-src.invariant c.in_err-put_source.ensures c.from_residual.ensures.1 (numbers_whole lines script.pair.endpoints c.loop-src.src (omega (arith, c.pair-endpoints.ensures.endpoints)))

pub returns : goal.returns
returns g c =
    let script = c.args.script.now in
    let lines : ℕ → List Line = totals_of script.pair (log_after script (length script.events)) in
    Passes-same c.loop-src.invariant (numbers_all lines script.pair.endpoints c.loop-src.src (omega (arith, c.pair-endpoints.ensures.endpoints)))
