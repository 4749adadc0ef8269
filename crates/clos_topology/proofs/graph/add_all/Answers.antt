use Rattle.std.proofs.Common.{◌≡◌, ◌≤◌, ◌+◌, ◌-◌, ◌*◌, ◌++◌, ℕ, List, Option, All, length, take, drop, get_or, sym, ap, ◌∙◌, subst, arith, rules}
use Rattle.std.proofs.lemmas.List.{length-take, length-drop}
use Rattle.list_facts.specs.Bits.{TellsHeld}
use Rattle.list_facts.proofs.Lists.{part_within}
use Rattle.greedy_rules.specs.SlotTable.{flows_from}
use Rattle.greedy_rules.proofs.Facts.{word_of_senders}
use Rattle.clos_topology.specs.declared.graph.Edge.{Edge}
use Rattle.clos_topology.specs.RackGraph.{rack_edges}
use Rattle.clos_topology.proofs.GraphLemmas.{InNet, rack_edges-append}
use Rattle.clos_topology.proofs.RowLemmas.{word_more, flows_of_word}
use Rattle.clos_topology.proofs.graph.add_all.Goals as goal

pub add_word-count-requires-clause-senders : goal.add_word-count-requires-clause-senders
add_word-count-requires-clause-senders c =
    let row = c.args.row.now in
    let word = c.loop-word.word in
    let within : word * 64 ≤ length row = omega (arith, c.loop-word-test.true, c.div_ceil-word-end.ensures) in
    subst (λ (cells : List (Option ℕ)). TellsHeld cells (get_or c.args.senders.now word 0)) (sym (part_within row (word * 64) 64 c.min-end.result within c.min-end.ensures))
    (word_of_senders c.args.senders.now row word c.requires.senders (search rules))

pub add_word-count-requires-clause-endpoints : goal.add_word-count-requires-clause-endpoints
add_word-count-requires-clause-endpoints c =
    let row = c.args.row.now in
    let from : ℕ = c.loop-word.word * 64 in
    let within : from ≤ length row = omega (arith, c.loop-word-test.true, c.div_ceil-word-end.ensures) in
    subst (λ (cells : List (Option ℕ)). All (InNet c.args.net.now) (flows_from from cells)) (sym (part_within row from 64 c.min-end.result within c.min-end.ensures))
    (flows_of_word (InNet c.args.net.now) row from within c.requires.endpoints)

pub loop-word-preserved : goal.loop-word-preserved
loop-word-preserved c =
    let hosts = c.args.net.now.hosts in
    let row = c.args.row.now in
    let from : ℕ = c.loop-word.word * 64 in
    let within : from ≤ length row = omega (arith, c.loop-word-test.true, c.div_ceil-word-end.ensures) in
    let cells = part_within row from 64 c.min-end.result within c.min-end.ensures in
    let next : (c.loop-word.word + 1) * 64 ≡ from + 64 = omega arith in
    record {
      count = omega (arith, c.add_word-count.ensures.within, c.loop-word.invariant.count, ap length cells, length-take 64 (drop from row), length-drop from row, length-take from row, ap (λ (n : ℕ). length (take n row)) next, length-take (from + 64) row);
      edges = c.add_word-count.ensures.edges
          ∙ (ap (λ (es : List Edge). es ++ rack_edges hosts (flows_from from (take (c.min-end.result - from) (drop from row)))) c.loop-word.invariant.edges
          ∙ (ap (λ (few : List (Option ℕ)). rack_edges hosts (flows_from 0 (take from row)) ++ rack_edges hosts (flows_from from few)) cells
          ∙ (sym (rack_edges-append hosts (flows_from 0 (take from row)) (flows_from from (take 64 (drop from row))))
          ∙ ap (rack_edges hosts) (sym (word_more row from within) ∙ ap (λ (n : ℕ). flows_from 0 (take n row)) (sym next)))));
      length = c.add_word-count.ensures.count ∙ c.loop-word.invariant.length;
    }
