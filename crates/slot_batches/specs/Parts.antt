-- The parts of a batch as the code keeps them (this project's own profile).
use Rattle.std.specs.Prelude.{◌≡◌, ◌≤◌, ℕ, ◌*◌, List, length, vec_capacity}
use Rattle.greedy_rules.specs.declared.flows.Item.{Item}
use Rattle.greedy_rules.specs.declared.limits.Limits.{Limits}
use Rattle.slot_batches.specs.declared.filling.Filling.{Filling}
use Rattle.slot_batches.specs.Filled.{Fill}

abbrev pub fill_of : Filling → Fill
fill_of filling = record {
  endpoints = filling.endpoints;
  b = filling.b;
  first_slot = filling.first_slot;
  maps = filling.maps;
  slots = filling.slots.slots;
  waiting = filling.waiting.items;
  served = filling.served.items;
}

-- the same but for the items that wait
abbrev pub with_waiting : List Item → Fill → Fill
with_waiting waiting fill = record fill { waiting = waiting }

-- there is room for every batch of its size
pub record FillingHasRoom (filling : Filling) : Type 0 where
  pub few_endpoints : filling.endpoints ≤ 256
  pub few_slots : filling.b ≤ 64
  pub maps : filling.maps.endpoints ≡ filling.endpoints
  pub table : filling.slots.endpoints ≡ filling.endpoints
  pub count : length filling.slots.slots ≡ filling.b
  pub pairs : filling.endpoints * filling.endpoints ≤ vec_capacity filling.waiting
  pub places : filling.b * filling.endpoints ≤ vec_capacity filling.served

-- and two words of marks for each of 256 endpoints
pub record IsWhole (filling : Filling) (marks : List ℕ) : Type 0 where
  pub room : FillingHasRoom filling
  pub words : length marks ≡ 512

pub record IsSameBatch (limits : Limits) (endpoints b first_slot : ℕ) (filling : Filling) : Type 0 where
  pub same_limits : filling.maps.limits ≡ limits
  pub same_endpoints : filling.endpoints ≡ endpoints
  pub same_b : filling.b ≡ b
  pub same_first : filling.first_slot ≡ first_slot
