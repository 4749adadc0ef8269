use Rattle.std.proofs.Common.{◌≡◌, ◌<◌, ◌+◌, ◌*◌, ◌==◌, ℕ, List, Bool, Option, cond, get_or, set, ap, ◌∙◌, subst, arith}
use Rattle.std.specs.Int.{bit_at}
use Rattle.std.specs.Option.{is_none}
use Rattle.edge_colouring.specs.Holders.{holders_shown}
use Rattle.edge_colouring.proofs.ShownLemmas.{rack_fits, none_is, shown-written}
use Rattle.edge_colouring.proofs.ports.Ports.put.Goals as goal

pub bounds-self-inside-rack : goal.bounds-self-inside-rack
bounds-self-inside-rack c = (rack_fits c.self.inside.free c.self.inside.holders c.args.self.now c.args.rack c.self.view_is c.self.invariant c.requires.rack).0

pub bounds-self-inside-rack-2 : goal.bounds-self-inside-rack-2
bounds-self-inside-rack-2 c = (rack_fits c.self.inside.free c.self.inside.holders c.args.self.now c.args.rack c.self.view_is c.self.invariant c.requires.rack).0

pub index_mut-requires : goal.index_mut-requires
index_mut-requires c =
    let fits = rack_fits c.self.inside.free c.self.inside.holders c.args.self.now c.args.rack c.self.view_is c.self.invariant c.requires.rack in
    omega (arith, fits.1, c.place.ensures, c.requires.core)

pub returns : goal.returns
returns c =
    let free = c.self.inside.free in
    let holders = c.self.inside.holders in
    let fits = rack_fits free holders c.args.self.now c.args.rack c.self.view_is c.self.invariant c.requires.rack in
    let none : c.is_none.result ≡ is_none c.args.edge = none_is c.args.edge c.is_none.result c.is_none.ensures in
    let bits : (i : ℕ) → i < 64 → bit_at c.with_bit.result i ≡ cond (i == c.args.core) (cond (is_none c.args.edge) 1 0) (bit_at (get_or free c.args.rack 0) i) =
    subst (λ (b : Bool). (i : ℕ) → i < 64 → bit_at c.with_bit.result i ≡ cond (i == c.args.core) (cond b 1 0) (bit_at (get_or free c.args.rack 0) i)) none c.with_bit.ensures in
    (λ i. holders_shown (set free c.args.rack c.with_bit.result) (set holders.items c.place.result (c.unwrap_or.ensures i)))
    ∙ (shown-written free holders.items c.args.rack c.args.core c.with_bit.result c.place.result c.args.edge c.requires.core (omega (arith, fits.1, c.requires.core, holders.ok.0)) (omega (arith, fits.0, c.self.invariant.0)) c.place.ensures bits
    ∙ ap (λ (side : List (Option ℕ)). set side (c.args.rack * 64 + c.args.core) c.args.edge) c.self.view_is)
