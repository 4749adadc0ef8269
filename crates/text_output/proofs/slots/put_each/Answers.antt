use Rattle.std.proofs.Common.{◌<◌, ℕ, List, Option, length}
use Rattle.greedy_rules.specs.declared.flows.Flow.{Flow}
use Rattle.edge_colouring.specs.Cores.{core_in}
use Rattle.report_text.specs.declared.line.Line.{Line}
use Rattle.text_output.specs.Text.{slot_line}
use Rattle.text_output.proofs.OutputLemmas.{Passes-after, Passes-broken}
use Rattle.text_output.proofs.RowTexts.{row_more, row_whole}
use Rattle.text_output.proofs.slots.put_each.Goals as goal

pub returns-in_err-put_source : goal.returns-in_err-put_source
returns-in_err-put_source g c =
    let row : List (Option ℕ) = c.args.row.now in
    let line : Flow → Line = slot_line c.args.number.now (core_in c.args.cores.now) in
    let below : c.loop-at.at < length row = c.loop-at-test.true in
    Passes-broken _ c.loop-at.invariant c.in_err-put_source.ensures c.from_residual.ensures.1 (row_whole line c.args.from row c.loop-at.at _ below)

pub loop-at-preserved : goal.loop-at-preserved
loop-at-preserved g c =
    let row : List (Option ℕ) = c.args.row.now in
    let line : Flow → Line = slot_line c.args.number.now (core_in c.args.cores.now) in
    let below : c.loop-at.at < length row = c.loop-at-test.true in
    Passes-after c.loop-at.invariant c.in_ok-put_source.ensures (row_more line c.args.from row c.loop-at.at _ below)
