use Rattle.std.proofs.Common.{ℕ, Option, map, sym, ap, ◌∙◌}
use Rattle.std.proofs.lemmas.List.{append-nil}
use Rattle.clos_topology.specs.Links.{CoreOf}
use Rattle.edge_colouring.specs.Cores.{core_in}
use Rattle.report_text.specs.declared.line.Line.{Line}
use Rattle.report_text.specs.declared.line.Line.TheVariants as line
use Rattle.text_output.specs.Text.{line_text, text_of, slot_line}
use Rattle.text_output.specs.Text.{flow_list}
use Rattle.text_output.proofs.OutputLemmas.{Passes-same}
use Rattle.text_output.proofs.slots.put_source.Goals as goal

pub returns-in-Some : goal.returns-in-Some
returns-in-Some g c =
    let src : ℕ = c.args.src in
    let own : CoreOf = core_in c.args.cores.now in
    let with : Option ℕ → Line = line.Slot c.args.number.now src c.in-Some.dst in
    Passes-same c.put_slot.ensures (ap (λ (core : Option ℕ). line_text (with core)) c.core_at.ensures
    ∙ (sym (append-nil (line_text (with (own src)))) ∙ ap (λ (to : Option ℕ). text_of (map (slot_line c.args.number.now own) (flow_list src to))) (sym c.in-Some.is)))
