use Rattle.std.proofs.Common.{◌+◌, ◌*◌, arith, rules}
use Rattle.greedy_rules.proofs.NamedCells.{bit_names}
use Rattle.greedy_rules.proofs.rows.write_named.Goals as goal

pub write_word-requires-clause-within : goal.write_word-requires-clause-within
write_word-requires-clause-within c = λ bit is.
    let at = c.requires.within (c.loop-word.word * 64 + bit) (bit_names c.args.named.now c.loop-word.word bit (search rules) is) in
    (omega (arith, at.0, c.loop-word.auto.into), at.1)
