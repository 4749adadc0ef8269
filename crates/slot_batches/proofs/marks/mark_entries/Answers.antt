use Rattle.std.proofs.Common.{◌≡◌, ◌≤◌, List, length, take, true, sym, ◌∙◌, subst, arith}
use Rattle.std.proofs.lemmas.List.{take_all}
use Rattle.std.proofs.lemmas.List.Elements.{All-push, All-weaker}
use Rattle.greedy_rules.specs.declared.flows.Entry.{Entry}
use Rattle.slot_batches.specs.Marks.{is_flow_marked, AreMarked}
use Rattle.list_facts.proofs.Lists.{take_got}
use Rattle.slot_batches.proofs.marks.mark_entries.Goals as goal

pub loop-at-preserved : goal.loop-at-preserved
loop-at-preserved c =
    let entries = c.args.batch.now.entries in
    let at = c.loop-at.at in
    let entry = c.entry.result in
    let Marked : Entry → Type 0 = λ e. is_flow_marked c.mark.new.words e.flow ≡ true in (
      subst (λ (xs : List Entry). AreMarked xs c.mark.new.words) (sym (take_got entries at entry c.entry.ensures))
          (All-push Marked (take at entries) entry (All-weaker (λ e. is_flow_marked c.loop-at.words e.flow ≡ true) Marked (λ e was. c.mark.ensures.others e.flow was) (take at entries) c.loop-at.invariant.0)
          c.mark.ensures.marked),
      c.mark.ensures.count ∙ c.loop-at.invariant.1,
    )

pub returns-clause-marked : goal.returns-clause-marked
returns-clause-marked c =
    let entries = c.args.batch.now.entries in
    let all : length entries ≤ c.loop-at.at = omega (arith, c.loop-at-test.false, c.len-at-end.ensures.entries) in
    subst (λ (xs : List Entry). AreMarked xs c.loop-at.words) (take_all c.loop-at.at entries all) c.loop-at.invariant.0
