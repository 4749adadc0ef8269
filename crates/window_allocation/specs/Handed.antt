-- What of a window the ring is handed: items of its list, and its batches in parts (this project's own profile).
use Rattle.std.specs.Prelude.{◌≡◌, ℕ, ◌+◌, ◌*◌, List, [], ◌∷◌, ◌++◌, length, replicate, Bool, true, false, All, if◌then◌else◌}
use Rattle.greedy_rules.specs.declared.flows.Flow.{Flow}
use Rattle.greedy_rules.specs.declared.flows.Item.{Item}
use Rattle.greedy_rules.specs.Batches.{DemandBatch}
use Rattle.greedy_rules.specs.Allocation.{slots_of}
use Rattle.greedy_rules.specs.Schedule.{schedule_from, rest_from}
use Rattle.slot_batches.specs.Woven.{picked}
use Rattle.ring_core.specs.Windows.{window_of}
use Rattle.alloc_pipeline.specs.Ring.{moved_by}

-- batches that follow one another, and whether the ring was handed them; it was not where they are passed over
pub record HandedPart : Type 0 where
  pub batches : List DemandBatch
  pub to_ring : Bool

-- the slots of a part, the first of its batches batch k, on the list that it finds: those that the ring gives, or none
abbrev pub slots_of_part : ℕ → ℕ → List Item → HandedPart → List (List Flow)
slots_of_part b k list part = if part.to_ring then schedule_from b k list part.batches else replicate (length part.batches * b) []

-- how many pieces have gone through the edges then
abbrev pub moved_by_part : ℕ → ℕ → ℕ → List Item → HandedPart → List ℕ → List ℕ
moved_by_part b k workers list part moved = if part.to_ring then moved_by (window_of list part.batches k b workers) 0 moved else moved

-- parts one after the other: their batches, their slots, and the pieces, each part on the list that the ones before it leave
abbrev pub batches_of : List HandedPart → List DemandBatch
batches_of [] = []
batches_of (part ∷ parts) = part.batches ++ batches_of parts

abbrev pub slots_over : ℕ → ℕ → List Item → List HandedPart → List (List Flow)
slots_over b k list [] = []
slots_over b k list (part ∷ parts) = slots_of_part b k list part ++ slots_over b (k + length part.batches) (rest_from b k list part.batches) parts

abbrev pub moved_over : ℕ → ℕ → ℕ → List Item → List HandedPart → List ℕ → List ℕ
moved_over b k workers list [] moved = moved
moved_over b k workers list (part ∷ parts) moved =
    moved_over b (k + length part.batches) workers (rest_from b k list part.batches) parts (moved_by_part b k workers list part moved)

-- the list on which a window's batches were run, and their parts
pub record Handed : Type 0 where
  pub items : List Item
  pub parts : List HandedPart

-- so many pieces once all of these were run, one after the other, each from batch k on
abbrev pub moved_over_all : ℕ → ℕ → ℕ → List Handed → List ℕ → List ℕ
moved_over_all b k workers [] moved = moved
moved_over_all b k workers (handed ∷ later) moved = moved_over_all b k workers later (moved_over b k workers handed.items handed.parts moved)

-- a part that is passed over has no entries
abbrev pub IsPassedEmpty : HandedPart → Type 0
IsPassedEmpty part = part.to_ring ≡ false → All (λ batch. batch.entries ≡ []) part.batches

-- what was handed on of a window: the items of its list that are not set aside, in their order, and every batch but those passed
-- over
pub record IsOfWindow (list : List Item) (batches : List DemandBatch) (aside : Item → Bool) (handed : Handed) : Type 0 where
  pub items : handed.items ≡ picked aside list
  pub whole : batches_of handed.parts ≡ batches
  pub passed : All IsPassedEmpty handed.parts

-- a window's slots, its first batch batch k, and how the pieces went up
pub record ComeOfRing (b k workers : ℕ) (list : List Item) (batches : List DemandBatch) (slots : List (List Flow)) (moved_old moved_new : List ℕ) : Type 0 where
  -- what was handed on at first, of which no slot was taken
  pub tried : List Handed
  pub tries : All (λ handed. (aside : Item → Bool) × IsOfWindow list batches aside handed) tried
  -- and what was at last
  pub handed : Handed
  pub aside : Item → Bool
  pub of_window : IsOfWindow list batches aside handed
  -- no slot names an item that was set aside then
  pub named : All (λ item. aside item ≡ true → slots_of item.flow slots ≡ 0) list
  -- each slot is one of what was handed on
  pub given : slots ≡ slots_over b k handed.items handed.parts
  -- each edge brought its worker every piece of all that, and no other
  pub moved : moved_new ≡ moved_over_all b k workers (tried ++ handed ∷ []) moved_old
