use Rattle.std.proofs.Common.{◌≡◌, ◌≤◌, ◌+◌, ◌*◌, get_or, sym, ap, ◌∙◌, arith}
use Rattle.std.specs.Prelude.{◌==◌}
use Rattle.std.proofs.lemmas.Grind.{common_steps}
use Rattle.trace_text.specs.Earlier.{greatest_round}
use Rattle.trace_text.specs.Events.{way_number}
use Rattle.trace_text.proofs.EventRowFacts.{latest_fate-now}
use Rattle.trace_text.proofs.rows.Rows.has_fate.Goals as goal

pub returns : goal.returns
returns c = λ before s.
    let at : c.way_of.result ≡ c.args.endpoint * 2 + way_number c.args.up = c.way_of.ensures.place in
    let value : c.index.result.now ≡ get_or c.args.self.now.fated.items c.way_of.result 0 = grind (arith, common_steps) in
    let late : greatest_round before ≤ c.args.round = omega (arith, s.round, c.requires.late) in
    rw (value, at) (ap (λ k. k == c.args.round + 1) (s.fated c.args.endpoint c.args.up c.requires.endpoint) ∙ sym (latest_fate-now c.args.round c.args.endpoint c.args.up before late))
