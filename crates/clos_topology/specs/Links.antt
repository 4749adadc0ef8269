-- The directed links that a packet uses, and when the paths of a slot are clean (the SIGCOMM 2014 Fastpass paper).
use Rattle.std.specs.Prelude.{◌≡◌, ◌≢◌, ◌<◌, ℕ, List, [], ◌∷◌, ◌++◌, ◌==◌, Option, All, AllPairs, Contains, MatchOption, unwrap_or, if◌then◌else◌}
use Rattle.greedy_rules.specs.declared.flows.Flow.{Flow}
use Rattle.greedy_rules.specs.Limits.{rack_of}

-- up from an endpoint to its rack's switch, from a rack's switch up to a core, from a core down to a rack's switch, and
-- from a rack's switch down to an endpoint
pub data Link : Type 0 where
  up : ℕ → Link
  rise : ℕ → ℕ → Link
  fall : ℕ → ℕ → Link
  down : ℕ → Link

-- the links of a packet from a source to a destination by a core; within a rack it uses no core
abbrev pub links : ℕ → ℕ → ℕ → ℕ → List Link
links hosts src dst core =
    up src
    ∷ ((if rack_of hosts src == rack_of hosts dst then [] else rise (rack_of hosts src) core ∷ fall core (rack_of hosts dst) ∷ [])
    ++ down dst ∷ [])

-- the core that is named for each source, if one is
abbrev pub CoreOf : Type 0
CoreOf = ℕ → Option ℕ

abbrev pub links_of : ℕ → CoreOf → Flow → List Link
links_of hosts core_of flow = links hosts flow.src flow.dst (unwrap_or (core_of flow.src) 0)

abbrev pub SharesNoLink : List Link → List Link → Type 0
SharesNoLink xs ys = (link : Link) → Contains xs link → Contains ys link → ⊥

-- a core below the number of cores is named exactly for the flows whose racks differ
abbrev pub HasItsCore : ℕ → ℕ → CoreOf → Flow → Type 0
HasItsCore hosts cores core_of flow =
    MatchOption (core_of flow.src)
    (rack_of hosts flow.src ≡ rack_of hosts flow.dst)
    (λ core. (rack_of hosts flow.src ≢ rack_of hosts flow.dst) × (core < cores))

-- and no link is used by two of the slot's packets
pub record IsClean (hosts cores : ℕ) (slot : List Flow) (core_of : CoreOf) : Type 0 where
  pub named : All (HasItsCore hosts cores core_of) slot
  pub apart : AllPairs (λ f g. SharesNoLink (links_of hosts core_of f) (links_of hosts core_of g)) slot
