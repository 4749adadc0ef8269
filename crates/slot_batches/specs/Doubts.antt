-- The items of a piece that something may speak against waiting as they are, as the bits of a word (this project's own profile).
use Rattle.std.specs.Prelude.{◌≡◌, ◌<◌, ℕ, ◌+◌, List, [], ◌∷◌, length, get_or, false, if◌then◌else◌}
use Rattle.greedy_rules.specs.declared.flows.Item.{Item}
use Rattle.greedy_rules.specs.declared.flows.Entry.{Entry}
use Rattle.endpoint_bitmaps.specs.Slots.{has_slot}
use Rattle.endpoint_bitmaps.specs.FreeSlots.{FreeSlots}
use Rattle.slot_batches.specs.Rests.{IsUndoubted}

-- nothing speaks against the items whose places these are not
abbrev pub AreUndoubted : List Entry → FreeSlots → ℕ → List Item → Type 0
AreUndoubted entries maps doubted items =
    (place : ℕ) (d : Item) → place < length items → has_slot doubted place ≡ false → IsUndoubted entries maps (get_or items place d)

-- the items but for those whose places these are, where the first stands at this place
abbrev pub left_of : ℕ → ℕ → List Item → List Item
left_of gone place [] = []
left_of gone place (item ∷ items) = if has_slot gone place then left_of gone (place + 1) items else item ∷ left_of gone (place + 1) items
