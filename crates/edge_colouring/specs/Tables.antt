-- What holds of the parts of a table of cores: each has room for the network's racks and endpoints.
use Rattle.std.specs.Prelude.{◌≡◌, ◌≤◌, ◌*◌, length, vec_len, vec_capacity}
use Rattle.clos_topology.specs.Network.{endpoints_of}
use Rattle.clos_topology.specs.Limits.{IsNetwork}
use Rattle.edge_colouring.specs.declared.table.Table.TheInside.{Inside}

pub record IsColourTable (table : Inside) : Type 0 where
  pub net : IsNetwork table.net
  pub cores : vec_len table.cores ≡ endpoints_of table.net
  pub degrees : vec_len table.degrees ≡ table.net.racks
  pub left : length table.painting.left ≡ table.net.racks * 64
  pub right : length table.painting.right ≡ table.net.racks * 64
  pub room : endpoints_of table.net ≤ vec_capacity table.painting.colours
