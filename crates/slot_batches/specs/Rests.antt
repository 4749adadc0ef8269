-- Items that wait as they are when they are fed (this project's own profile).
use Rattle.std.specs.Prelude.{◌≡◌, ◌⊎◌, ℕ, List, Bool, false, not, ◌==◌, ◌&&◌, None}
use Rattle.greedy_rules.specs.declared.flows.Item.{Item}
use Rattle.greedy_rules.specs.declared.flows.Entry.{Entry}
use Rattle.greedy_rules.specs.Batches.{entry_of}
use Rattle.endpoint_bitmaps.specs.Slots.{is_among_lowest}
use Rattle.endpoint_bitmaps.specs.FreeSlots.{FreeSlots, is_free_to_send, may_receive, is_common}
use Rattle.slot_batches.specs.Feeding.{was_served}

-- the item takes no slot
abbrev pub TakesNone : FreeSlots → Item → Type 0
TakesNone maps item = (place : ℕ) → is_among_lowest (is_common maps item.flow.src item.flow.dst) item.need place ≡ false

-- flows may open before the item, where so many entries may still open theirs
abbrev pub opens_before : ℕ → Item → Bool
opens_before unopened item = was_served item && not (unopened == 0)

-- nor has it an entry, and no flow opens before it
pub record ItemRests (entries : List Entry) (unopened : ℕ) (maps : FreeSlots) (item : Item) : Type 0 where
  pub no_entry : entry_of entries item.flow ≡ None
  pub none_opens : opens_before unopened item ≡ false
  pub takes_none : TakesNone maps item

-- the item needs nothing, or its ends share no slot, whatever their racks may: as slots are taken, that stays so
abbrev pub WantsNone : FreeSlots → Item → Type 0
WantsNone maps item = (item.need ≡ 0) ⊎ ((slot : ℕ) → (is_free_to_send maps item.flow.src slot && may_receive maps item.flow.dst slot) ≡ false)

-- nor has it an entry
pub record IsUndoubted (entries : List Entry) (maps : FreeSlots) (item : Item) : Type 0 where
  pub no_entry : entry_of entries item.flow ≡ None
  pub wants_none : WantsNone maps item

-- whoever is not free in a slot of the old maps is not in the new ones
pub record HaveNoMore (old new : FreeSlots) : Type 0 where
  pub senders : (endpoint slot : ℕ) → is_free_to_send old endpoint slot ≡ false → is_free_to_send new endpoint slot ≡ false
  pub receivers : (endpoint slot : ℕ) → may_receive old endpoint slot ≡ false → may_receive new endpoint slot ≡ false
