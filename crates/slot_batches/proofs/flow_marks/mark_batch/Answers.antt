use Rattle.std.proofs.Common.{◌≡◌, ◌≤◌, List, length, take, true, sym, ◌∙◌, subst, arith}
use Rattle.std.proofs.lemmas.List.{take_all}
use Rattle.std.proofs.lemmas.List.Elements.{All-push, All-weaker}
use Rattle.greedy_rules.specs.declared.flows.Entry.{Entry}
use Rattle.slot_batches.specs.Marks.{has_own_bit, HaveOwnBits}
use Rattle.list_facts.proofs.Lists.{take_got}
use Rattle.slot_batches.proofs.flow_marks.mark_batch.Goals as goal

pub loop-at-preserved : goal.loop-at-preserved
loop-at-preserved c =
    let entries = c.args.batch.now.entries in
    let at = c.loop-at.at in
    let entry = c.entry.result in
    let Marked : Entry → Type 0 = λ e. has_own_bit c.mark_flow.new.words e.flow ≡ true in record {
      marked = subst (λ (xs : List Entry). HaveOwnBits xs c.mark_flow.new.words) (sym (take_got entries at entry c.entry.ensures))
          (All-push Marked (take at entries) entry (All-weaker (λ e. has_own_bit c.loop-at.words e.flow ≡ true) Marked (λ e was. c.mark_flow.ensures.others e.flow was) (take at entries) c.loop-at.invariant.marked)
          c.mark_flow.ensures.marked);
      others = λ other was. c.mark_flow.ensures.others other (c.loop-at.invariant.others other was);
      count = c.mark_flow.ensures.count ∙ c.loop-at.invariant.count;
    }

pub returns-clause-marked : goal.returns-clause-marked
returns-clause-marked c =
    let entries = c.args.batch.now.entries in
    let all : length entries ≤ c.loop-at.at = omega (arith, c.loop-at-test.false, c.len-at-end.ensures.entries) in
    subst (λ (xs : List Entry). HaveOwnBits xs c.loop-at.words) (take_all c.loop-at.at entries all) c.loop-at.invariant.marked
