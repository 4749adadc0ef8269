use Rattle.std.proofs.Common.{ℕ, List, Option, ◌&&◌, sym, subst}
use Rattle.edge_colouring.specs.Holders.{holders_shown, is_free_holder, IsLowest, IsRackOf}
use Rattle.edge_colouring.proofs.MaskLemmas.{lowest_common_is}
use Rattle.edge_colouring.proofs.ShownLemmas.{rack_fits, masks_tell}
use Rattle.edge_colouring.proofs.ports.Ports.lowest_common.Goals as goal

pub bounds-self-inside-rack : goal.bounds-self-inside-rack
bounds-self-inside-rack c = (rack_fits c.self.inside.free c.self.inside.holders c.args.self.now c.args.rack c.self.view_is c.self.invariant c.requires.rack).0

pub bounds-other-inside-other_rack : goal.bounds-other-inside-other_rack
bounds-other-inside-other_rack c = (rack_fits c.other.inside.free c.other.inside.holders c.args.other.now c.args.other_rack c.other.view_is c.other.invariant c.requires.other_rack).0

pub returns : goal.returns
returns c =
    let here = c.self.inside in
    let there = c.other.inside in
    let within = subst (λ (side : List (Option ℕ)). IsRackOf side c.args.rack) (sym c.self.view_is) c.requires.rack in
    let other_within = subst (λ (side : List (Option ℕ)). IsRackOf side c.args.other_rack) (sym c.other.view_is) c.requires.other_rack in
    let lowest = lowest_common_is here.free there.free (holders_shown here.free here.holders.items) (holders_shown there.free there.holders.items) c.args.rack c.args.other_rack c.lowest.result (masks_tell here.free here.holders.items)
    (masks_tell there.free there.holders.items) within other_within c.lowest.ensures in
    subst (λ (side : List (Option ℕ)). IsLowest (λ core. is_free_holder c.args.self.now c.args.rack core && is_free_holder side c.args.other_rack core) c.lowest.result) c.other.view_is
    (subst (λ (side : List (Option ℕ)). IsLowest (λ core. is_free_holder side c.args.rack core && is_free_holder (holders_shown there.free there.holders.items) c.args.other_rack core) c.lowest.result) c.self.view_is lowest)
