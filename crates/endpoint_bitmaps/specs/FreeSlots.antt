-- What contracts see of the maps of a batch: the slots in which each endpoint may still send a packet, and those in which it
-- may still receive one; and how many packets each slot has between racks (this project's own way to the greedy slots of the
-- SIGCOMM 2014 Fastpass paper).
use Rattle.std.specs.Prelude.{◌≡◌, ◌<◌, ℕ, ◌+◌, List, Bool, false, not, ◌==◌, ◌&&◌, ◌||◌, nat_lt, if◌then◌else◌}
use Rattle.std.specs.List.{slice_index_or}
use Rattle.greedy_rules.specs.declared.limits.Limits.{Limits}
use Rattle.greedy_rules.specs.Limits.{rack_of, is_outward}
use Rattle.endpoint_bitmaps.specs.Slots.{has_slot}
use Rattle.endpoint_bitmaps.specs.Links.{taken_in}

-- for each endpoint the slots in which it may send, as a word, and those in which it may receive; for each rack and slot how
-- many flows to other racks were taken, and how many from other racks, where links are counted
pub record FreeSlots : Type 0 where
  pub endpoints : ℕ
  pub limits : Limits
  pub to_send : List ℕ
  pub to_receive : List ℕ
  pub leaving : List ℕ
  pub entering : List ℕ

abbrev pub is_free_to_send : FreeSlots → ℕ → ℕ → Bool
is_free_to_send maps src slot = has_slot (slice_index_or maps.to_send src 0) slot

abbrev pub may_receive : FreeSlots → ℕ → ℕ → Bool
may_receive maps dst slot = has_slot (slice_index_or maps.to_receive dst 0) slot

-- no endpoint may send in any slot
abbrev pub NoneMaySend : FreeSlots → Type 0
NoneMaySend maps = (src slot : ℕ) → is_free_to_send maps src slot ≡ false

-- a rack has fewer links than endpoints, so that it may have none left for an endpoint that is free: then they are counted
abbrev pub counts_links : Limits → Bool
counts_links limits = nat_lt limits.cores limits.hosts

-- where links are counted, how many of the flows taken in the slot go from this rack to others, and how many come to it from
-- others
abbrev pub leaving_in : FreeSlots → ℕ → ℕ → ℕ
leaving_in maps rack slot = taken_in maps.leaving rack slot

abbrev pub entering_in : FreeSlots → ℕ → ℕ → ℕ
entering_in maps rack slot = taken_in maps.entering rack slot

abbrev pub rack_in : FreeSlots → ℕ → ℕ
rack_in maps endpoint = rack_of maps.limits.hosts endpoint

-- the flow takes a link of each of two racks: it goes from one into another, and links are counted
abbrev pub needs_links : FreeSlots → ℕ → ℕ → Bool
needs_links maps src dst = counts_links maps.limits && is_outward maps.limits.hosts (record { src = src; dst = dst })

-- every endpoint is free in the slots below this one, and in no other
pub record IsFreeBelow (slots : ℕ) (maps : FreeSlots) : Type 0 where
  pub senders : (src slot : ℕ) → src < maps.endpoints → is_free_to_send maps src slot ≡ nat_lt slot slots
  pub receivers : (dst slot : ℕ) → dst < maps.endpoints → may_receive maps dst slot ≡ nat_lt slot slots

-- no flow between racks is taken in any slot
pub record HasNoneBetween (maps : FreeSlots) : Type 0 where
  pub leaving : (rack slot : ℕ) → leaving_in maps rack slot ≡ 0
  pub entering : (rack slot : ℕ) → entering_in maps rack slot ≡ 0

-- the source's rack may send one packet more to other racks in the slot, and the destination's may receive one more from them
abbrev pub has_links : FreeSlots → ℕ → ℕ → ℕ → Bool
has_links maps src dst slot =
    nat_lt (leaving_in maps (rack_in maps src) slot) maps.limits.cores && nat_lt (entering_in maps (rack_in maps dst) slot) maps.limits.cores

-- the source may send in the slot, and the destination may receive; and so may their racks, where the flow needs their links
abbrev pub is_common : FreeSlots → ℕ → ℕ → ℕ → Bool
is_common maps src dst slot = (is_free_to_send maps src slot && may_receive maps dst slot) && (not (needs_links maps src dst) || has_links maps src dst slot)

-- these slots are taken: in them the source no longer sends, and the destination no longer receives, and their racks, where
-- the flow needs their links, have one flow more; the rest stays
pub record HasTaken (src dst : ℕ) (is_taken : ℕ → Bool) (old new : FreeSlots) : Type 0 where
  pub endpoints : new.endpoints ≡ old.endpoints
  pub limits : new.limits ≡ old.limits
  pub senders : (endpoint slot : ℕ) → is_free_to_send new endpoint slot ≡ (is_free_to_send old endpoint slot && not ((endpoint == src) && is_taken slot))
  pub receivers : (endpoint slot : ℕ) → may_receive new endpoint slot ≡ (may_receive old endpoint slot && not ((endpoint == dst) && is_taken slot))
  pub leaving : (rack slot : ℕ) → slot < 64
      → leaving_in new rack slot ≡ leaving_in old rack slot + (if (rack == rack_in old src) && (needs_links old src dst && is_taken slot) then 1 else 0)
  pub entering : (rack slot : ℕ) → slot < 64
      → entering_in new rack slot ≡ entering_in old rack slot + (if (rack == rack_in old dst) && (needs_links old src dst && is_taken slot) then 1 else 0)
