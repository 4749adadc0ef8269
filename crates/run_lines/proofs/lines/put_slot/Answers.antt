use Rattle.std.proofs.Common.{ℕ, List, Option, map, ap, ◌∙◌}
use Rattle.greedy_rules.specs.declared.flows.Flow.{Flow}
use Rattle.greedy_rules.specs.SlotTable.{flows_from}
use Rattle.path_workers.specs.Cores.{core_in}
use Rattle.path_workers.specs.CoreTable.{core_of}
use Rattle.run_lines.specs.Text.{text_of, slot_line}
use Rattle.text_output.proofs.OutputLemmas.{Passes-same}
use Rattle.run_lines.proofs.lines.put_slot.Goals as goal

pub returns : goal.returns
returns g c =
    let flows : List Flow = flows_from 0 c.row.result.now in
    Passes-same c.put_row.ensures (ap (λ (n : ℕ). text_of (map (slot_line n (core_in c.row-2.result.now)) flows)) c.new.ensures
    ∙ (ap (λ (own : List (Option ℕ)). text_of (map (slot_line c.args.number (core_in own)) flows)) c.row-2.ensures
    ∙ ap (λ (fs : List Flow). text_of (map (slot_line c.args.number (core_of c.args.cores.now c.args.place)) fs)) c.row.ensures.flows))
