use Rattle.std.proofs.Common.{sym}
use Rattle.greedy_rules.specs.declared.flows.Flow.{Flow}
use Rattle.edge_colouring.specs.Cores.{core_in}
use Rattle.report_text.specs.declared.line.Line.{Line}
use Rattle.text_output.specs.Text.{slot_line}
use Rattle.text_output.proofs.OutputLemmas.{Passes-nothing, Passes-same}
use Rattle.text_output.proofs.RowTexts.{packets_text, text-of_no_senders}
use Rattle.text_output.proofs.slots.put_word.Goals as goal

pub returns-then-senders-eq0 : goal.returns-then-senders-eq0
returns-then-senders-eq0 g c =
    let line : Flow → Line = slot_line c.args.number.now (core_in c.args.cores.now) in
    Passes-same (Passes-nothing _) (sym (text-of_no_senders line c.args.from c.args.senders c.args.row.now c.requires.senders c.if-senders-eq0.true))

pub returns-then-end-cores : goal.returns-then-end-cores
returns-then-end-cores g c = Passes-same c.put_packets.ensures (packets_text c.args.number.now c.args.cores.now c.args.from c.args.row.now)
