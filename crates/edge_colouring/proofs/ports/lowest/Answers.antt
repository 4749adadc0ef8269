use Rattle.edge_colouring.proofs.MaskLemmas.{lowest_of}
use Rattle.edge_colouring.proofs.ports.lowest.Goals as goal

pub returns : goal.returns
returns c = lowest_of c.args.mask c.ranges.mask.fits
