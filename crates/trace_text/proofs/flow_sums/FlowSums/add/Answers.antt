use Rattle.std.proofs.Common.{◌≡◌, ◌<◌, ◌+◌, ◌*◌, ◌%◌, ◌/◌, ◌==◌, get_or, set, subst, sym, ap, ◌∙◌, arith}
use Rattle.std.proofs.lemmas.List.{get_or_default, length-set}
use Rattle.line_marks.specs.Places.{Places, is_marked}
use Rattle.trace_text.specs.FlowSums.{unmarked}
use Rattle.trace_text.proofs.FlowFacts.{AreMarked, marked-set, asking-set, marks-more, marked-now, still-marked, above-none}
use Rattle.trace_text.proofs.flow_sums.FlowSums.add.Goals as goal

pub returns-clause-tidy : goal.returns-clause-tidy
returns-clause-tidy c =
    let slots = c.args.self.now.slots.items in
    let rows = c.args.self.now.destinations.items in
    let sources = c.args.self.now.sources in
    let src = c.from-src.result in
    let dst = c.from-dst.result in
    let low : src < 256 = omega (arith, c.from-src.ensures, c.requires.small.src) in
    let low2 : dst < 256 = omega (arith, c.from-dst.ensures, c.requires.small.dst) in
    let flow = src * 256 + dst in
    let within : flow < 65536 = omega arith in
    let row_of : flow / 256 ≡ src = omega arith in
    let place_of : flow % 256 ≡ dst = omega arith in
    let tidy = c.requires.tidy in
    let before = c.index_mut-2.result.now in
    let after = c.set-2.new.self in
    let number = c.index-before.result.now + c.args.ask.now.slots in
    let some : 0 < number = omega (arith, c.requires.small.some) in
    let row : before ≡ get_or rows (flow / 256) unmarked =
    c.index_mut-2.ensures.value ∙ get_or_default rows src before unmarked (omega (arith, tidy.rows)) ∙ ap (λ k. get_or rows k unmarked) (sym row_of) in
    record {
      flows = length-set slots flow number ∙ tidy.flows;
      rows = length-set rows src after ∙ tidy.rows;
      marked = subst (λ k. AreMarked (set slots flow number) (set rows k after)) row_of
          (marked-set slots rows flow number after tidy.flows tidy.rows within tidy.marked
          (λ other apart. marks-more (is_marked before other) (is_marked after other) other dst (λ e. apart (e ∙ sym place_of)) (c.set-2.ensures other) ∙ ap (λ (r : Places). is_marked r other) row)
          (ap (is_marked after) place_of ∙ marked-now (is_marked before dst) (is_marked after dst) dst (c.set-2.ensures dst) ∙ sym (above-none number some)));
      asking = asking-set slots sources c.set.new.self flow number tidy.flows within tidy.asking
          (λ s is. still-marked (is_marked sources s) (is_marked c.set.new.self s) (s == src) (c.set.ensures s) is)
          (λ any. ap (is_marked c.set.new.self) row_of ∙ marked-now (is_marked sources src) (is_marked c.set.new.self src) src (c.set.ensures src));
    }
