use Rattle.std.proofs.Common.{◌≡◌, ℕ, List, Option, None, get_or, replicate, vec_len, rules, refl, ap, ◌∙◌, arith}
use Rattle.edge_colouring.proofs.HoldsLemmas.{get_or-no_holders}
use Rattle.path_workers.proofs.PainterLemmas.{forgotten}
use Rattle.path_workers.proofs.painter.Painter.forget.Goals as goal

pub returns-clause-painted : goal.returns-clause-painted
returns-clause-painted c net room slots sized =
    let items : c.fill.new.self.items ≡ replicate (vec_len c.args.self.now.places) None = search rules in
    forgotten net room slots c.args.self.now _ sized refl refl refl refl c.fill.ensures.len (λ slot. ap (λ (xs : List (Option ℕ)). get_or xs slot None) items ∙ get_or-no_holders (vec_len c.args.self.now.places) slot) (omega (arith, c.clear.ensures.capacity)) c.clear.ensures.items
