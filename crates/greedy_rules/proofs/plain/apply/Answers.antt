use Rattle.std.proofs.Common.{◌≡◌, ◌++◌, map, sym, ap, ◌∙◌, subst, arith}
use Rattle.std.proofs.lemmas.Grind.{common_steps}
use Rattle.std.proofs.lemmas.Result.{on_ok_weaker}
use Rattle.greedy_rules.specs.Demands.{HasEachFlowOnce, by_last, with_batch, opened, after_batch}
use Rattle.greedy_rules.proofs.OnceLemmas.{once-after_batch}
use Rattle.greedy_rules.proofs.plain.apply.Goals as goal

pub returns-clause-once : goal.returns-clause-once
returns-clause-once c =
    let batch = c.args.batch.now.entries in
    let list = c.args.list.now.items in
    let applied : c.open_flows.new.list.items ≡ map (with_batch batch) list ++ opened batch = grind (arith, common_steps) in
    let opened_is : by_last c.open_flows.new.list.items ≡ after_batch batch list = ap by_last applied in
    on_ok_weaker c.sort.result
    (λ sorted. subst HasEachFlowOnce (sym (sorted ∙ opened_is)) (once-after_batch batch list c.open_flows.ensures.rising c.requires.opens c.requires.once))
    c.sort.ensures.sorted
