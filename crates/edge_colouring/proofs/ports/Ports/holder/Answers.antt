use Rattle.std.proofs.Common.{◌+◌, ◌*◌, ℕ, List, Option, get_or, None, sym, ap, ◌∙◌, arith}
use Rattle.edge_colouring.proofs.ShownLemmas.{rack_fits, held-free, held-by}
use Rattle.edge_colouring.proofs.ports.Ports.holder.Goals as goal

pub bounds-self-inside-rack : goal.bounds-self-inside-rack
bounds-self-inside-rack c = (rack_fits c.self.inside.free c.self.inside.holders c.args.self.now c.args.rack c.self.view_is c.self.invariant c.requires.rack).0

pub returns-then-is_set : goal.returns-then-is_set
returns-then-is_set c =
    let free = c.self.inside.free in
    let holders = c.self.inside.holders in
    let fits = rack_fits free holders c.args.self.now c.args.rack c.self.view_is c.self.invariant c.requires.rack in
    held-free free holders.items c.args.rack c.args.core c.requires.core (omega (arith, fits.1, c.requires.core, holders.ok.0)) (sym c.is_set.ensures ∙ c.if-is_set.true)
    ∙ ap (λ (side : List (Option ℕ)). get_or side (c.args.rack * 64 + c.args.core) None) c.self.view_is

pub index-requires : goal.index-requires
index-requires c =
    let fits = rack_fits c.self.inside.free c.self.inside.holders c.args.self.now c.args.rack c.self.view_is c.self.invariant c.requires.rack in
    omega (arith, fits.1, c.place.ensures, c.requires.core)

pub returns : goal.returns
returns c =
    let free = c.self.inside.free in
    let holders = c.self.inside.holders in
    let fits = rack_fits free holders c.args.self.now c.args.rack c.self.view_is c.self.invariant c.requires.rack in
    held-by free holders.items c.args.rack c.args.core c.place.result c.index.result.now c.requires.core (omega (arith, fits.1, c.requires.core, holders.ok.0)) c.place.ensures c.index.ensures (sym c.is_set.ensures ∙ c.if-is_set.false)
    ∙ ap (λ (side : List (Option ℕ)). get_or side (c.args.rack * 64 + c.args.core) None) c.self.view_is
