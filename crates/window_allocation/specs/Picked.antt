-- What of a window's demand list its batches run over, and the memory for it (this project's own profile).
use Rattle.std.specs.Prelude.{◌≡◌, ◌≤◌, ℕ, ◌+◌, ◌*◌, List, [], ◌∷◌, length, Bool, true, false, All, if◌then◌else◌, vec_capacity}
use Rattle.greedy_rules.specs.declared.flows.Item.{Item}
use Rattle.slot_batches.specs.Marks.{WindowMarks, has_mark}
use Rattle.slot_batches.specs.Woven.{picked, stays, places_from}
use Rattle.window_allocation.specs.declared.picked.Picked.{Picked}

-- the first item of the list as it stands in the rest, if it stays as the next one there
abbrev pub staying : List Item → List Item → List Item
staying [] rest = []
staying (item ∷ list) [] = []
staying (item ∷ list) (next ∷ rest) = if stays item next then next ∷ [] else []

-- there is room for an item of each pair of endpoints, twice, and for the places of as many, words for the flows between them, and
-- words for each endpoint
pub record HasRoomForPairs (endpoints : ℕ) (picked : Picked) : Type 0 where
  pub items : endpoints * endpoints ≤ length picked.items.items + picked.items.spare
  pub places : endpoints * endpoints ≤ vec_capacity picked.places
  pub whole : endpoints * endpoints ≤ vec_capacity picked.whole
  pub slots : picked.slots.endpoints ≡ endpoints
  pub words : picked.guess.words.endpoints ≡ endpoints

-- items of the list, and their places, where all that may have an entry are among them
pub record IsReached (marks : WindowMarks) (list found : List Item) (places : List ℕ) : Type 0 where
  pub aside : Item → Bool
  pub at : places ≡ places_from aside 0 list
  pub are : found ≡ picked aside list
  pub unmarked : All (λ item. aside item ≡ true → has_mark marks item.flow ≡ false) list
