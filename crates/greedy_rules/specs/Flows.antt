-- Flows and their order: by source, then by destination (this project's own profile).
use Rattle.std.specs.Prelude.{Bool, ◌==◌, ◌&&◌, ◌||◌, nat_lt}
use Rattle.greedy_rules.specs.declared.flows.Flow.{Flow}

abbrev pub same_flow : Flow → Flow → Bool
same_flow f g = (f.src == g.src) && (f.dst == g.dst)

abbrev pub flow_below : Flow → Flow → Bool
flow_below f g = nat_lt f.src g.src || ((f.src == g.src) && nat_lt f.dst g.dst)
