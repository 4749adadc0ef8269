use Rattle.endpoint_bitmaps.proofs.LinkLemmas.{shows_none}
use Rattle.std.proofs.Common.{arith}
use Rattle.endpoint_bitmaps.proofs.rack_links.RackLinks.open.Goals as goal

pub returns-clause-left : goal.returns-clause-left
returns-clause-left c =
    shows_none 64 c.in_ok-vec.field-0.items c.in_ok-vec-2.field-0.items c.args.racks (omega arith) (c.in_ok-vec.ensures.items_if_clones_equal (λ y same. same))
    (c.in_ok-vec-2.ensures.items_if_clones_equal (λ y same. same))
