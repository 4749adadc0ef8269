-- The control packets, their rules and their one spelling in each version (this project's own profile).
use Rattle.std.specs.Prelude.{◌≡◌, ◌≢◌, ◌⊎◌, ℕ, ◌+◌, ◌^◌, ◌<◌, ◌≤◌, true, false, if◌then◌else◌, List, [], ◌∷◌, ◌++◌, length, map, All, IsBitSet}
use Rattle.std.specs.Int.{w16, w32, to_be_bytes}
use Rattle.std.specs.List.{flat_map}
use Rattle.std.specs.List.Sorted.{IsStrictlyIncreasing}
use Rattle.fcp_framing.specs.declared.packet.Demand.{Demand}
use Rattle.fcp_framing.specs.declared.packet.Told.{Told}
use Rattle.fcp_framing.specs.declared.packet.Up.{Up}
use Rattle.fcp_framing.specs.declared.packet.Down.{Down}
use Rattle.fcp_framing.specs.Versions.{IsVersion, mask_bits, mask_width}

-- ---- the bytes, the highest byte of a number first

abbrev pub reset_bytes : Up → List ℕ
reset_bytes up = up.version ∷ 2 ∷ to_be_bytes w16 up.src ++ to_be_bytes w32 up.epoch

abbrev pub demand_bytes : Demand → List ℕ
demand_bytes demand = to_be_bytes w16 demand.dst ++ to_be_bytes w32 demand.total

abbrev pub request_bytes : Up → List ℕ
request_bytes up =
    up.version ∷ 1 ∷ to_be_bytes w16 up.src ++ to_be_bytes w32 up.epoch ++ to_be_bytes w32 up.seq ++ to_be_bytes w32 up.high
    ++ (to_be_bytes (mask_width up.version) up.mask ++ (to_be_bytes w16 (length up.demands.items) ++ flat_map demand_bytes up.demands.items))

-- the bytes of an upward packet
unfoldable pub up_bytes : Up → List ℕ
up_bytes up = if up.reset then reset_bytes up else request_bytes up

abbrev pub told_bytes : Told → List ℕ
told_bytes told = told.offset ∷ told.core ∷ to_be_bytes w16 told.dst

-- the bytes of a downward packet
unfoldable pub down_bytes : Down → List ℕ
down_bytes down =
    down.version ∷ 3 ∷ to_be_bytes w16 down.dst ++ to_be_bytes w32 down.epoch ++ to_be_bytes w32 down.seq ++ to_be_bytes w32 down.high
    ++ (to_be_bytes (mask_width down.version) down.mask ++ (to_be_bytes w32 down.batch ++ to_be_bytes w16 (length down.told.items) ++ flat_map told_bytes down.told.items))

-- ---- the rules, in a network of so many endpoints

-- bit i of the mask stands for the number high - 1 - i, and numbers start at 1
abbrev pub IsMask : ℕ → ℕ → Type 0
IsMask high mask = (i : ℕ) → IsBitSet mask i → i + 1 < high

-- a core switch, or 255 for none
abbrev pub IsCore : ℕ → Type 0
IsCore core = (core < 64) ⊎ (core ≡ 255)

-- the packet of a reset has zeros and no demands
abbrev pub reset_of : ℕ → ℕ → ℕ → Up
reset_of version src epoch = record { version = version; reset = true; src = src; epoch = epoch; seq = 0; high = 0; mask = 0; demands = record { items = [] } }

pub record IsReset (endpoints : ℕ) (up : Up) : Type 0 where
  pub network : endpoints ≤ 256
  pub version : IsVersion up.version
  pub source : up.src < endpoints
  pub epoch : 0 < up.epoch
  pub blank : up ≡ reset_of up.version up.src up.epoch

pub record IsRequest (endpoints : ℕ) (up : Up) : Type 0 where
  pub network : endpoints ≤ 256
  pub version : IsVersion up.version
  pub kind : up.reset ≡ false
  pub source : up.src < endpoints
  pub epoch : 0 < up.epoch
  pub seq : 0 < up.seq
  pub mask : IsMask up.high up.mask
  pub width : up.mask < 2 ^ mask_bits up.version
  pub count : length up.demands.items < endpoints
  pub destinations : All (λ (demand : Demand). demand.dst < endpoints) up.demands.items
  pub rising : IsStrictlyIncreasing (map (λ (demand : Demand). demand.dst) up.demands.items)
  pub others : All (λ (demand : Demand). demand.dst ≢ up.src) up.demands.items
  pub totals : All (λ (demand : Demand). demand.total ≤ 200000000) up.demands.items

-- of a batch of so many slots
pub record IsAllocation (endpoints slots : ℕ) (down : Down) : Type 0 where
  pub network : endpoints ≤ 256
  pub version : IsVersion down.version
  pub destination : down.dst < endpoints
  pub epoch : 0 < down.epoch
  pub seq : 0 < down.seq
  pub mask : IsMask down.high down.mask
  pub width : down.mask < 2 ^ mask_bits down.version
  pub count : length down.told.items ≤ 64
  pub destinations : All (λ (told : Told). told.dst < endpoints) down.told.items
  pub rising : IsStrictlyIncreasing (map (λ (told : Told). told.offset) down.told.items)
  pub others : All (λ (told : Told). told.dst ≢ down.dst) down.told.items
  pub offsets : All (λ (told : Told). told.offset < slots) down.told.items
  pub cores : All (λ (told : Told). IsCore told.core) down.told.items

-- a reset or a request
abbrev pub IsUp : ℕ → Up → Type 0
IsUp endpoints up = IsReset endpoints up ⊎ IsRequest endpoints up

-- the numbers that no rule bounds fit their fields, as those of the program always do
pub record FitsUp (up : Up) : Type 0 where
  pub epoch : up.epoch < 2 ^ 32
  pub seq : up.seq < 2 ^ 32
  pub high : up.high < 2 ^ 32

pub record FitsDown (down : Down) : Type 0 where
  pub epoch : down.epoch < 2 ^ 32
  pub seq : down.seq < 2 ^ 32
  pub high : down.high < 2 ^ 32
  pub batch : down.batch < 2 ^ 32

-- ---- bytes that spell a packet

pub record SpellsReset (endpoints : ℕ) (bytes : List ℕ) (up : Up) : Type 0 where
  pub rules : IsReset endpoints up
  pub fits : FitsUp up
  pub text : bytes ≡ reset_bytes up

pub record SpellsRequest (endpoints : ℕ) (bytes : List ℕ) (up : Up) : Type 0 where
  pub rules : IsRequest endpoints up
  pub fits : FitsUp up
  pub text : bytes ≡ request_bytes up

abbrev pub SpellsUp : ℕ → List ℕ → Up → Type 0
SpellsUp endpoints bytes up = SpellsReset endpoints bytes up ⊎ SpellsRequest endpoints bytes up

-- an allocation of a batch of so many slots
pub record SpellsDown (endpoints slots : ℕ) (bytes : List ℕ) (down : Down) : Type 0 where
  pub rules : IsAllocation endpoints slots down
  pub fits : FitsDown down
  pub text : bytes ≡ down_bytes down
