use Rattle.std.proofs.Common.{ℕ, List, length, arith}
use Rattle.report_text.specs.declared.line.Line.{Line}
use Rattle.text_output.proofs.OutputLemmas.{Passes-after, Passes-broken, Passes-same}
use Rattle.text_output.proofs.ItemTexts.{numbers_more}
use Rattle.takeover_text.specs.Lines.{total_line}
use Rattle.takeover_text.specs.Progress.{log_after}
use Rattle.takeover_text.proofs.NumberedLines.{numbers_whole, numbers_all}
use Rattle.takeover_text.proofs.totals.put_source.Goals as goal

pub loop-dst-preserved : goal.loop-dst-preserved
loop-dst-preserved g c =
    let script = c.args.script.now in
    let lines : ℕ → List Line = total_line script.pair (log_after script (length script.events)) c.args.src in
    Passes-after c.loop-dst.invariant c.in_ok-put_total.ensures (numbers_more lines script.pair.endpoints c.loop-dst.dst (omega (arith, c.pair-endpoints.ensures.endpoints)))

pub returns-in_err-put_total : goal.returns-in_err-put_total
returns-in_err-put_total g c =
    let script = c.args.script.now in
    let lines : ℕ → List Line = total_line script.pair (log_after script (length script.events)) c.args.src in
    Passes-broken _ c.loop-dst.invariant c.in_err-put_total.ensures c.from_residual.ensures.1 (numbers_whole lines script.pair.endpoints c.loop-dst.dst (omega (arith, c.pair-endpoints.ensures.endpoints)))

pub returns : goal.returns
returns g c =
    let script = c.args.script.now in
    let lines : ℕ → List Line = total_line script.pair (log_after script (length script.events)) c.args.src in
    Passes-same c.loop-dst.invariant (numbers_all lines script.pair.endpoints c.loop-dst.dst (omega (arith, c.pair-endpoints.ensures.endpoints)))
