use Rattle.std.proofs.Common.{arith}
use Rattle.trace_text.proofs.RowFacts.{few-endpoints}
use Rattle.trace_text.proofs.rows.Rows.endpoints.Goals as goal

pub returns-clause-few : goal.returns-clause-few
returns-clause-few c = omega (arith, c.requires.1.endpoints, few-endpoints c.requires.0 c.args.self.now.net c.requires.1.net)
