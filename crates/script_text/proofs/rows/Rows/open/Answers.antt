use Rattle.std.proofs.Common.{◌+◌, ◌*◌, ap, refl, arith, length}
use Rattle.script_text.proofs.rows.Rows.open.Goals as goal

pub returns : goal.returns
returns c = record {
  count = refl;
  pair = refl;
  few = omega arith;
  ended_is = refl;
  events_are = c.new.ensures.items;
  many = c.in_ok-zeros.ensures.many;
  totals_are = λ src dst in_src in_dst. c.in_ok-zeros.ensures.zero (src * 64 + dst);
  most = omega (arith, ap (λ xs. length xs) c.new.ensures.items);
  bounded = omega arith;
}
