-- How the parts of the maps of a batch belong together (this project's own profile).
use Rattle.std.specs.Prelude.{◌≡◌, ◌<◌, ◌≤◌, ℕ, List, length, not, ◌==◌}
use Rattle.std.specs.List.{count_by, slice_index_or}
use Rattle.greedy_rules.specs.declared.limits.Limits.{Limits}
use Rattle.greedy_rules.specs.Limits.{rack_of}
use Rattle.endpoint_bitmaps.specs.Links.{ShowsLeft}

-- the rack of each endpoint
abbrev pub AreRacks : ℕ → List ℕ → Type 0
AreRacks hosts racks = (endpoint : ℕ) → endpoint < length racks → slice_index_or racks endpoint 0 ≡ rack_of hosts endpoint

-- how many of these words name a slot
abbrev pub naming : List ℕ → ℕ
naming words = count_by (λ word. not (word == 0)) words

pub record Fit (limits : Limits) (senders receivers racks leaving leaving_left entering entering_left : List ℕ) : Type 0 where
  pub few : length senders < 65536
  pub receivers_count : length receivers ≡ length senders
  pub racks_count : length racks ≡ length senders
  pub leaving_count : length leaving_left ≡ length senders
  pub entering_count : length entering_left ≡ length senders
  pub hosts : 1 ≤ limits.hosts
  pub some_core : 1 ≤ limits.cores
  pub cores : limits.cores ≤ 64
  pub racks_are : AreRacks limits.hosts racks
  pub leaving_shown : ShowsLeft limits.cores leaving leaving_left
  pub entering_shown : ShowsLeft limits.cores entering entering_left
