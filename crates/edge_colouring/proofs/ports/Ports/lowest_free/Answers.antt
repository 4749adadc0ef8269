use Rattle.std.proofs.Common.{List, ℕ, Option, sym, subst}
use Rattle.edge_colouring.specs.Holders.{holders_shown, is_free_holder, IsLowest, IsRackOf}
use Rattle.edge_colouring.proofs.MaskLemmas.{lowest_free_is}
use Rattle.edge_colouring.proofs.ShownLemmas.{rack_fits, masks_tell}
use Rattle.edge_colouring.proofs.ports.Ports.lowest_free.Goals as goal

pub bounds-self-inside-rack : goal.bounds-self-inside-rack
bounds-self-inside-rack c = (rack_fits c.self.inside.free c.self.inside.holders c.args.self.now c.args.rack c.self.view_is c.self.invariant c.requires).0

pub returns : goal.returns
returns c =
    let free = c.self.inside.free in
    let holders = c.self.inside.holders in
    let within = subst (λ (side : List (Option ℕ)). IsRackOf side c.args.rack) (sym c.self.view_is) c.requires in
    subst (λ (side : List (Option ℕ)). IsLowest (is_free_holder side c.args.rack) c.lowest.result) c.self.view_is
    (lowest_free_is free (holders_shown free holders.items) c.args.rack c.lowest.result (masks_tell free holders.items) within c.lowest.ensures)
