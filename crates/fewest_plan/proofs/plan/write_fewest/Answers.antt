use Rattle.std.proofs.Common.{◌∙◌, rules}
use Rattle.greedy_rules.specs.Examples.{remaining}
use Rattle.plan_rounds.specs.Batches.{plan_batches}
use Rattle.fewest_plan.proofs.LedgerLemmas.{lines_balance}
use Rattle.fewest_plan.proofs.plan.write_fewest.Goals as goal

pub returns-in_err-gathered-clause-writes : goal.returns-in_err-gathered-clause-writes
returns-in_err-gathered-clause-writes g c =
    let (cores, scheduled) = c.every_record_has_cores.ensures remaining c.args.sizes.b c.args.trace.now.net (plan_batches c.args.trace.now) (c.every_plan_is_recorded.ensures c.args.trace.now c.requires.accepted).0 in
    (cores, scheduled, c.texts_follow.ensures.unwritten c.from_residual.ensures.1)

pub returns-clause-writes : goal.returns-clause-writes
returns-clause-writes g c =
    let (cores, scheduled, ends) = c.put_lines-written.ensures in
    (cores, scheduled, c.texts_follow.ensures.whole c.new-output.ensures.told (search rules) (c.new-output.ensures.gathered ∙ c.in_ok-gathered.ensures) ends)

pub returns-in_err-gathered-clause-balanced : goal.returns-in_err-gathered-clause-balanced
returns-in_err-gathered-clause-balanced g c = λ cores. lines_balance cores c.args.sizes.b c.args.trace.now (c.every_plan_balances.ensures remaining c.args.sizes.b c.args.trace.now c.requires.accepted)

pub returns-clause-balanced : goal.returns-clause-balanced
returns-clause-balanced g c = λ cores. lines_balance cores c.args.sizes.b c.args.trace.now (c.every_plan_balances.ensures remaining c.args.sizes.b c.args.trace.now c.requires.accepted)
