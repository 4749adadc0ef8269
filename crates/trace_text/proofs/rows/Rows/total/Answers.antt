use Rattle.std.proofs.Common.{◌≡◌, ◌+◌, ◌*◌, get_or, arith}
use Rattle.std.proofs.lemmas.Grind.{common_steps}
use Rattle.trace_text.specs.Standing.{endpoints_kept}
use Rattle.trace_text.proofs.rows.Rows.total.Goals as goal

pub returns-clause-bounded : goal.returns-clause-bounded
returns-clause-bounded c =
    let stands = c.requires.stands.1 in
    let value : c.index.result.now ≡ get_or c.args.self.now.totals.items (c.args.src * endpoints_kept c.args.self.now.net + c.args.dst) 0 = grind (arith, common_steps) in
    omega (arith, stands.totals c.args.src c.args.dst c.requires.src c.requires.dst, stands.bounded c.args.src c.args.dst)
