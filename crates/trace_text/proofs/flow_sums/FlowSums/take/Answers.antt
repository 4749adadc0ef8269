use Rattle.std.proofs.Common.{◌≡◌, ◌%◌, ◌/◌, get_or, ap, ◌∙◌, arith}
use Rattle.std.proofs.lemmas.List.{get_or_default, length-set}
use Rattle.line_marks.specs.Places.{Places, is_marked}
use Rattle.trace_text.specs.FlowSums.{unmarked}
use Rattle.trace_text.proofs.FlowFacts.{marked-set, asking-set, marks-less, cleared-now}
use Rattle.trace_text.proofs.flow_sums.FlowSums.take.Goals as goal

pub returns-clause-tidy : goal.returns-clause-tidy
returns-clause-tidy c =
    let slots = c.args.self.now.slots.items in
    let rows = c.args.self.now.destinations.items in
    let flow = c.args.flow in
    let src = flow / 256 in
    let dst = flow % 256 in
    let tidy = c.requires.tidy in
    let before = c.index_mut-2.result.now in
    let after = c.clear.new.self in
    let row : before ≡ get_or rows src unmarked = c.index_mut-2.ensures.value ∙ get_or_default rows src before unmarked (omega (arith, tidy.rows, c.requires.flow)) in
    record {
      flows = length-set slots flow 0 ∙ tidy.flows;
      rows = length-set rows src after ∙ tidy.rows;
      marked = marked-set slots rows flow 0 after tidy.flows tidy.rows c.requires.flow tidy.marked
          (λ other apart. marks-less (is_marked before other) (is_marked after other) other dst apart (c.clear.ensures other) ∙ ap (λ (r : Places). is_marked r other) row)
          (cleared-now (is_marked before dst) (is_marked after dst) dst (c.clear.ensures dst));
      asking = asking-set slots c.args.self.now.sources c.args.self.now.sources flow 0 tidy.flows c.requires.flow tidy.asking (λ s is. is) (λ some. absurd (omega (arith, some)));
    }
