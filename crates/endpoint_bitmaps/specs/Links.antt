-- The links of one direction between racks and cores, slot by slot (oversubscribed racks, this project's own profile).
use Rattle.std.specs.Prelude.{◌≡◌, ◌<◌, ◌≤◌, ℕ, ◌+◌, ◌*◌, List, length, Bool, ◌==◌, ◌&&◌, nat_lt, if◌then◌else◌}
use Rattle.std.specs.List.{slice_index_or}
use Rattle.endpoint_bitmaps.specs.Slots.{has_slot}

-- how many of a rack's links are taken in a slot: the counts of 64 slots stand together, rack after rack
abbrev pub taken_in : List ℕ → ℕ → ℕ → ℕ
taken_in counts rack slot = slice_index_or counts (rack * 64 + slot) 0

-- one link more of this rack is taken in these slots
abbrev pub HasTakenLinks : ℕ → (ℕ → Bool) → List ℕ → List ℕ → Type 0
HasTakenLinks rack slots old new = (at slot : ℕ) → slot < 64 → taken_in new at slot ≡ taken_in old at slot + (if (at == rack) && slots slot then 1 else 0)

-- a word for each rack says in which of its slots fewer links are taken than there are cores
pub record ShowsLeft (cores : ℕ) (counts words : List ℕ) : Type 0 where
  pub count : length counts ≡ length words * 64
  pub each : (rack slot : ℕ) → rack < length words → slot < 64 → has_slot (slice_index_or words rack 0) slot ≡ nat_lt (taken_in counts rack slot) cores

-- only racks below this one have taken links
pub record IsUsed (racks : ℕ) (counts : List ℕ) : Type 0 where
  pub within : racks * 64 ≤ length counts
  pub rest : (place : ℕ) → racks * 64 ≤ place → slice_index_or counts place 0 ≡ 0
