-- What contracts see of a table of cores: the network that it was opened for, and the core named for each source.
use Rattle.std.specs.Prelude.{ℕ, List, Option, None}
use Rattle.std.specs.List.{slice_index_or}
use Rattle.clos_topology.specs.Network.{Network}
use Rattle.clos_topology.specs.Links.{CoreOf}

pub record Cores : Type 0 where
  pub net : Network
  pub cores : List (Option ℕ)

-- the core at a place of a list, None past its end
abbrev pub core_in : List (Option ℕ) → CoreOf
core_in cores source = slice_index_or cores source None
