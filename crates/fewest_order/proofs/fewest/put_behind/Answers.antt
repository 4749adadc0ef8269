use Rattle.std.proofs.Common.{◌≡◌, ◌++◌, [], List, length, sym, ap, ◌∙◌, arith}
use Rattle.std.proofs.lemmas.Bool.{eqb-true}
use Rattle.std.proofs.lemmas.List.{drop_all}
use Rattle.list_facts.proofs.StableSort.{rises_from}
use Rattle.greedy_rules.specs.declared.flows.Item.{Item}
use Rattle.greedy_rules.specs.Demands.{by_key}
use Rattle.greedy_rules.specs.Examples.{remaining}
use Rattle.fewest_order.specs.declared.places.Side.TheVariants.{Behind}
use Rattle.fewest_order.proofs.PlaceLemmas.{need_of, none_left}
use Rattle.fewest_order.proofs.fewest.put_behind.Goals as goal

pub returns-then-is_empty-clause-kept : goal.returns-then-is_empty-clause-kept
returns-then-is_empty-clause-kept c =
    let kept : List Item = c.args.kept.now.items in
    let empty : length c.args.others.now ≡ 0 = eqb-true _ _ (sym c.is_empty.ensures ∙ c.if-is_empty.true) in
    let none : c.args.others.now ≡ [] = drop_all 0 c.args.others.now (omega (arith, empty)) in
    sym (none_left Behind kept (rises_from need_of kept c.requires.kept)) ∙ ap (λ (xs : List Item). by_key remaining (kept ++ xs)) (sym none)
