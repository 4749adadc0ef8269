use Rattle.std.proofs.Common.{◌≡◌, ◌+◌, ◌≤◌, ◌++◌, List, length, ap, ◌∙◌, arith}
use Rattle.std.specs.Prelude.{vec_len, vec_capacity}
use Rattle.std.proofs.lemmas.Bool.{cond-true}
use Rattle.list_facts.proofs.StableSort.{length-sort_by}
use Rattle.greedy_rules.specs.declared.flows.Item.{Item}
use Rattle.greedy_rules.specs.Demands.{by_last}
use Rattle.fewest_order.proofs.by_turns.put_turns.Goals as goal

pub append-requires-2 : goal.append-requires-2
append-requires-2 c =
    let turns = c.args.turns.now in
    let serves : c.served.result.now ≡ turns.served = c.served.ensures in
    let room : vec_len c.clear.new.self + length c.served.result.now ≤ vec_capacity c.clear.new.self = omega (arith, c.clear.ensures.len, c.clear.ensures.capacity, ap length serves, c.requires.served) in
    let extended : c.extend_from_slice.new.self.items ≡ turns.served =
    c.extend_from_slice.ensures.items
    ∙ (cond-true _ (c.clear.new.self.items ++ c.served.result.now) c.clear.new.self.items (c.extend_from_slice.ensures.succeeds room)
    ∙ (ap (λ (xs : List Item). xs ++ c.served.result.now) c.clear.ensures.items ∙ serves)) in
    let sorted : c.deref.result.now ≡ by_last turns.served = c.deref.ensures.value ∙ (c.in_ok-sort.ensures.sorted ∙ ap by_last extended) in
    omega (
      arith,
      c.requires.list,
      c.append.ensures.spare,
      c.clear-2.ensures.spare,
      ap length c.waiting.ensures,
      ap length sorted,
      length-sort_by (λ (item : Item). item.last) turns.served,
    )
