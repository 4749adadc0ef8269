-- One walk along the list for a slot, item by item (this project's own profile). Only the parts of the plain allocator cite it;
-- what a slot is says `Slot`.
use Rattle.std.specs.Prelude.{◌≡◌, ◌<◌, ◌+◌, ◌-◌, ℕ, List, [], ◌∷◌, length, Bool, not, false, ◌==◌, ◌&&◌, ◌||◌, nat_lt, slice_set, if◌then◌else◌}
use Rattle.std.specs.List.{list_any, slice_index_or}
use Rattle.greedy_rules.specs.declared.flows.Flow.{Flow}
use Rattle.greedy_rules.specs.declared.flows.Item.{Item}
use Rattle.greedy_rules.specs.declared.marks.Marks.{Marks}
use Rattle.greedy_rules.specs.Slot.{Bar, offered}
use Rattle.greedy_rules.specs.Limits.{AreLimits, rack_of, is_outward, leaving, entering}

-- the item once it had its turn in the slot of this number
abbrev pub turn : Bar → ℕ → List Flow → Item → Item
turn bar number slot item = if nat_lt 0 item.need && not (bar slot item.flow) then record item { need = item.need - 1; last = number } else item

-- the items once each had its turn
abbrev pub walk : Bar → ℕ → List Flow → List Item → List Item
walk bar number slot [] = []
walk bar number slot (item ∷ list) = turn bar number slot item ∷ walk bar number (offered bar slot item) list

-- so many endpoints, and their racks, have their places among the marks
pub record HavePlaces (endpoints : ℕ) (marks : Marks) : Type 0 where
  pub sizes : AreLimits marks.limits
  pub receivers : length marks.receives.items ≡ endpoints
  pub senders : (endpoint : ℕ) → endpoint < endpoints → rack_of marks.limits.hosts endpoint < length marks.leaving.items
  pub sides : length marks.entering.items ≡ length marks.leaving.items

-- the marks say which endpoints receive in the slot, and how many of its flows leave each rack and come into it
pub record AreOf (slot : List Flow) (marks : Marks) : Type 0 where
  pub receives : (dst : ℕ) (d : Bool) → dst < length marks.receives.items → slice_index_or marks.receives.items dst d ≡ list_any (λ flow. flow.dst == dst) slot
  pub leaving : (rack d : ℕ) → rack < length marks.leaving.items → slice_index_or marks.leaving.items rack d ≡ leaving marks.limits.hosts rack slot
  pub entering : (rack d : ℕ) → rack < length marks.entering.items → slice_index_or marks.entering.items rack d ≡ entering marks.limits.hosts rack slot

-- no core is left for one flow more
abbrev pub has_no_core : Marks → Flow → Bool
has_no_core marks flow =
    not (nat_lt (slice_index_or marks.leaving.items (rack_of marks.limits.hosts flow.src) 0) marks.limits.cores)
    || not (nat_lt (slice_index_or marks.entering.items (rack_of marks.limits.hosts flow.dst) 0) marks.limits.cores)

-- the marks keep the flow out
abbrev pub bars : Marks → Flow → Bool
bars marks flow = slice_index_or marks.receives.items flow.dst false || (is_outward marks.limits.hosts flow && has_no_core marks flow)

-- the counts of one side once a flow is marked: one more for its rack, where it is outward
abbrev pub counted : Bool → ℕ → List ℕ → List ℕ
counted outward rack counts = if outward then slice_set counts rack (slice_index_or counts rack 0 + 1) else counts
