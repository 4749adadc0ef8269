-- In which slot each link was taken last (this project's own profile).
use Rattle.std.specs.Prelude.{◌≡◌, ◌<◌, ◌≤◌, ℕ, ◌+◌, ◌*◌, Bool, false, ◌==◌, ◌&&◌, List, length, slice_index, Option, Some, None, All}
use Rattle.std.specs.List.{list_any}
use Rattle.greedy_rules.specs.Limits.{rack_of}
use Rattle.clos_topology.specs.Network.{Network, endpoints_of}
use Rattle.schedule_audit.specs.declared.links.Links.{Links}
use Rattle.schedule_audit.specs.Lines.{Path}
use Rattle.schedule_audit.specs.Wrong.{has_wrong_core}

-- the place of the link of one kind that a path takes_link, if it takes_link one
abbrev pub up_link : Path → Option ℕ
up_link path = Some path.place.flow.src

abbrev pub down_link : Path → Option ℕ
down_link path = Some path.place.flow.dst

abbrev pub link_at : Network → ℕ → Option ℕ → Option ℕ
link_at net endpoint None = None
link_at net endpoint (Some core) = Some (rack_of net.hosts endpoint * net.cores + core)

abbrev pub rise_of : Network → Path → Option ℕ
rise_of net path = link_at net path.place.flow.src path.core

abbrev pub fall_of : Network → Path → Option ℕ
fall_of net path = link_at net path.place.flow.dst path.core

abbrev pub is_place : Option ℕ → ℕ → Bool
is_place None place = false
is_place (Some there) place = there == place

-- one of these takes_link this link in this slot
abbrev pub takes_link : (Path → Option ℕ) → ℕ → ℕ → Path → Bool
takes_link place_of slot place path = (path.place.slot == slot) && is_place (place_of path) place

-- no path is of a later slot
abbrev pub AreUpTo : ℕ → List Path → Type 0
AreUpTo slot before = All (λ path. path.place.slot ≤ slot) before

-- the marks of one kind of links tell which of them are taken in the last slot, or in one to come
abbrev pub AreMarks : (Path → Option ℕ) → List ℕ → List Path → Type 0
AreMarks place_of marks before =
    (slot place : ℕ) → 0 < slot → AreUpTo slot before → (slice_index marks place == slot) ≡ list_any (takes_link place_of slot place) before

-- the paths so far have their cores
pub record PathsAreMarked (net : Network) (links : Links) (before : List Path) : Type 0 where
  pub up : AreMarks up_link links.up.items before
  pub down : AreMarks down_link links.down.items before
  pub rise : AreMarks (rise_of net) links.rise.items before
  pub fall : AreMarks (fall_of net) links.fall.items before
  pub cores : All (λ path. has_wrong_core net path.place.flow path.core ≡ false) before

-- the rack of each endpoint
pub record AreRacksOfNet (net : Network) (racks : List ℕ) : Type 0 where
  pub count : length racks ≡ endpoints_of net
  pub each : (endpoint : ℕ) → endpoint < endpoints_of net → (slice_index racks endpoint ≡ rack_of net.hosts endpoint) × (slice_index racks endpoint < net.racks)

-- there is a mark for each link, and a rack for each endpoint
pub record HaveMarks (net : Network) (links : Links) : Type 0 where
  pub up : length links.up.items ≡ endpoints_of net
  pub down : length links.down.items ≡ endpoints_of net
  pub rise : length links.rise.items ≡ net.racks * net.cores
  pub fall : length links.fall.items ≡ net.racks * net.cores
  pub racks : AreRacksOfNet net links.racks.items
