use Rattle.std.proofs.Common.{◌*◌, ℕ, ◌∙◌, ap, refl, arith}
use Rattle.path_workers.proofs.painter.Painter.open.Goals as goal

pub returns-clause-sized : goal.returns-clause-sized
returns-clause-sized c = record {
  few = c.requires;
  same_net = refl;
  table = c.in_ok-open-2.ensures.net;
  graph = omega (arith, c.in_ok-open.ensures.room, c.endpoints-endpoints.ensures.number);
  places = omega (arith, c.in_ok-vec.ensures.len);
  made = omega (arith, c.in_ok-with_capacity.ensures.exact);
  rows = c.in_ok-vec-2.ensures.len ∙ ap (λ (n : ℕ). c.args.slots * n) c.endpoints-endpoints.ensures.number;
}
