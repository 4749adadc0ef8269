use Rattle.std.proofs.Common.{◌<◌, ◌+◌, List, length, All, sym, ap, ◌∙◌, subst, arith}
use Rattle.greedy_rules.specs.declared.flows.Item.{Item}
use Rattle.greedy_rules.specs.Demands.{last_served}
use Rattle.slot_batches.specs.Filled.{HasTakenUp, MayBeTakenUp}
use Rattle.fewest_order.proofs.ServeLemmas.{length-applied}
use Rattle.fewest_order.proofs.TurnLemmas.{TookTurns, may_take, turns_count, turns_slots, turns_list, turns_before}
use Rattle.std.proofs.lemmas.Result.{on_ok_weaker}
use Rattle.fewest_order.proofs.by_turns.batch_by_turns.Goals as goal
use Rattle.fewest_order.proofs.by_turns.batch_by_turns.Goals.{After-drop-items}

pub fill-requires-clause-may : goal.fill-requires-clause-may
fill-requires-clause-may c =
    subst (MayBeTakenUp c.args.turns.now.endpoints c.args.first_slot) (sym (c.deref.ensures.value ∙ c.in_ok-items.ensures.items))
    (may_take c.args.turns.now.endpoints c.args.first_slot c.args.batch.now.entries c.args.list.now.items c.in_ok-items.ensures.rising c.requires.once c.requires.opens c.requires.endpoints c.requires.before c.requires.first)

pub put_turns-requires-clause-list : goal.put_turns-requires-clause-list
put_turns-requires-clause-list c =
    let now = c.fill.new.self in
    let start = c.deref.ensures.value ∙ c.in_ok-items.ensures.items in
    omega (
      arith,
      c.requires.room,
      turns_count c.args.batch.now.limits c.args.first_slot c.args.turns.now.b c.args.batch.now.entries c.args.list.now.items now (record {
        taken = subst (λ (xs : List Item). HasTakenUp xs now) start c.fill.ensures.taken_up;
        limits_are = c.fill.ensures.limits ∙ c.limits-limits.ensures.limits;
        first_is = c.fill.ensures.first;
        b_is = c.fill.ensures.b;
      }),
    )

pub put_turns-requires-clause-served : goal.put_turns-requires-clause-served
put_turns-requires-clause-served c =
    let now = c.fill.new.self in
    let start = c.deref.ensures.value ∙ c.in_ok-items.ensures.items in
    omega (
      arith,
      ap length c.in_ok-items.ensures.items,
      length-applied last_served c.args.batch.now.entries c.args.list.now.items,
      c.in_ok-items.items.ok.0,
      turns_count c.args.batch.now.limits c.args.first_slot c.args.turns.now.b c.args.batch.now.entries c.args.list.now.items now (record {
        taken = subst (λ (xs : List Item). HasTakenUp xs now) start c.fill.ensures.taken_up;
        limits_are = c.fill.ensures.limits ∙ c.limits-limits.ensures.limits;
        first_is = c.fill.ensures.first;
        b_is = c.fill.ensures.b;
      }),
    )

-- the items took their turns
took : (c : After-drop-items) → TookTurns c.args.batch.now.limits c.args.first_slot c.args.turns.now.b c.args.batch.now.entries c.args.list.now.items c.fill.new.self
took c = record {
  taken = subst (λ (xs : List Item). HasTakenUp xs c.fill.new.self) (c.deref.ensures.value ∙ c.in_ok-items.ensures.items) c.fill.ensures.taken_up;
  limits_are = c.fill.ensures.limits ∙ c.limits-limits.ensures.limits;
  first_is = c.fill.ensures.first;
  b_is = c.fill.ensures.b;
}

pub returns-clause-list : goal.returns-clause-list
returns-clause-list c =
    on_ok_weaker c.put_turns.result
    (λ list. list ∙ turns_list c.args.batch.now.limits c.args.first_slot c.args.turns.now.b c.args.batch.now.entries c.args.list.now.items c.fill.new.self (took c))
    c.put_turns.ensures.list

pub returns-clause-slots : goal.returns-clause-slots
returns-clause-slots c =
    on_ok_weaker c.put_turns.result
    (λ _. turns_slots c.args.batch.now.limits c.args.first_slot c.args.turns.now.b c.args.batch.now.entries c.args.list.now.items c.fill.new.self (took c))
    c.put_turns.ensures.list

pub returns-clause-before : goal.returns-clause-before
returns-clause-before c =
    on_ok_weaker c.put_turns.result
    (λ list. subst (All (λ item. item.last < c.args.first_slot + c.args.turns.now.b)) (sym list) (turns_before c.args.batch.now.limits c.args.first_slot c.args.turns.now.b c.args.batch.now.entries c.args.list.now.items c.fill.new.self (took c)))
    c.put_turns.ensures.list
