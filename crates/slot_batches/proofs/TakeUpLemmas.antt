-- One item more is taken up.
use Rattle.std.proofs.Common.{◌≡◌, ◌<◌, ◌≤◌, ◌+◌, ◌-◌, ◌*◌, ℕ, List, [], ◌∷◌, ◌++◌, length, replicate, Bool, true, false, not, nat_lt, All, Vec, min, count_ones, None, sym, ap, ◌∙◌, subst, arith}
use Rattle.std.specs.Prelude.{vec_capacity, vec_len}
use Rattle.std.proofs.lemmas.Bool.{and_left, le-ltb}
use Rattle.std.proofs.lemmas.List.{append-nil, length-append}
use Rattle.std.proofs.lemmas.List.Elements.{All-head, All-tail}
use Rattle.std.proofs.lemmas.List.Sums.{length-filter}
use Rattle.std.specs.declared.alloc.Global.{Global}
use Rattle.greedy_rules.specs.declared.flows.Flow.{Flow}
use Rattle.greedy_rules.specs.declared.flows.Item.{Item}
use Rattle.greedy_rules.specs.Slot.{Bar}
use Rattle.greedy_rules.specs.declared.limits.Limits.{Limits}
use Rattle.greedy_rules.specs.Limits.{is_barred}
use Rattle.greedy_rules.specs.Matching.{IsMatching}
use Rattle.greedy_rules.specs.Schedule.{slot_in}
use Rattle.greedy_rules.specs.SlotTable.{Slots, destination_of, IsSlotOf}
use Rattle.greedy_rules.proofs.Facts.{slots-batch, few}
use Rattle.endpoint_bitmaps.specs.Slots.{has_slot, count_below, is_among_lowest, NoneFrom}
use Rattle.endpoint_bitmaps.specs.FreeSlots.{FreeSlots, is_free_to_send, may_receive, is_common, HasTaken}
use Rattle.endpoint_bitmaps.proofs.Facts.{count_below-same, count_of_lowest, has_slot-none}
use Rattle.slot_batches.specs.declared.filling.Filling.{Filling}
use Rattle.slot_batches.specs.FlowByFlow.{slots_with, item_after, slots_after, items_after}
use Rattle.slot_batches.specs.FreePlaces.{is_free, is_chosen, HasAdded}
use Rattle.slot_batches.specs.Progress.{StandsAfter}
use Rattle.slot_batches.specs.Filled.{HasTakenUp, MayBeTakenUp, IsGreatest}
use Rattle.slot_batches.specs.Parts.{fill_of, with_waiting, FillingHasRoom}
use Rattle.slot_batches.specs.Rests.{HaveNoMore}
use Rattle.slot_batches.proofs.Added.{added-none, added-same, added-unique}
use Rattle.slot_batches.proofs.FreePlaces.{takes_lowest_free, item_after-served, chosen_within}
use Rattle.slot_batches.proofs.FreeMaps.{common_is_free, lowest_common_is_chosen, shows_added, chosen_no_destination}
use Rattle.slot_batches.proofs.FilledLemmas.{lengths_after, matchings_so_far}
use Rattle.slot_batches.proofs.ProgressLemmas.{stands_with_waiting, stands_with_served}
use Rattle.slot_batches.proofs.RoomLemmas.{served_fit}
use Rattle.slot_batches.proofs.SlotExchange.{slot_by_slot}

-- a fact of all items is one of the last
pub last_of_all : (P : Item → Type 0) (xs : List Item) (x : Item) → All P (xs ++ x ∷ []) → P x
last_of_all P [] x all = All-head P x [] all
last_of_all P (y ∷ xs) x all = last_of_all P xs x (All-tail P y (xs ++ x ∷ []) all)

-- what a batch serves has room among what was served
fits_served : (limits : Limits) (endpoints number b : ℕ) (taken : List Item) (slots : List (List Flow)) (waiting served : List Item) → StandsAfter (is_barred limits) number b taken slots waiting served
    → MayBeTakenUp endpoints number taken → length served ≤ b * endpoints
fits_served limits endpoints number b taken slots waiting served stands may =
    let bar : Bar = is_barred limits in
    let items : List Item = items_after bar number taken (replicate b []) in
    let in_range : All (IsSlotOf endpoints) (slots_after bar number taken (replicate b [])) =
    subst (All (IsSlotOf endpoints)) (sym (slot_by_slot bar number b taken may.once).slots) (slots-batch limits endpoints number b taken may.in_range) in
    omega (
      arith,
      ap (λ (xs : List Item). length xs) stands.served_are,
      length-filter (λ (item : Item). not (nat_lt item.last number)) items,
      served_fit bar endpoints number b taken may.below in_range,
    )

-- there is room for one that waits
pub waiting_has_room : (taken : List Item) (f : Filling) (item : Item) → FillingHasRoom f → HasTakenUp taken (fill_of f) → MayBeTakenUp f.endpoints f.first_slot (taken ++ item ∷ [])
    → vec_len f.waiting < vec_capacity f.waiting
waiting_has_room taken f item room is may =
    omega (
      arith,
      lengths_after (is_barred f.maps.limits) f.first_slot f.b taken f.slots.slots f.waiting.items f.served.items is.stands,
      few f.endpoints (taken ++ item ∷ []) may.once may.in_range,
      length-append taken (item ∷ []),
      f.waiting.ok.0,
      room.pairs,
    )

-- whoever was not free is not
pub no_more : (src dst : ℕ) (is_taken : ℕ → Bool) (old new : FreeSlots) → HasTaken src dst is_taken old new → HaveNoMore old new
no_more src dst is_taken old new gone = record {
  senders = λ endpoint slot none. gone.senders endpoint slot ∙ and_left (is_free_to_send old endpoint slot) _ none;
  receivers = λ endpoint slot none. gone.receivers endpoint slot ∙ and_left (may_receive old endpoint slot) _ none;
}

-- these items wait, whatever stands among those that do
module _ (taken waiting : List Item) (f : Filling) (item : Item) (room : FillingHasRoom f) (is : HasTakenUp taken (with_waiting waiting (fill_of f))) (may : MayBeTakenUp f.endpoints f.first_slot (taken ++ item ∷ [])) where
  abbrev bar : Bar
  bar = is_barred f.maps.limits

  in_range : (item.flow.src < f.endpoints) × (item.flow.dst < f.endpoints)
  in_range = last_of_all (λ x. (x.flow.src < f.endpoints) × (x.flow.dst < f.endpoints)) taken item may.in_range

  old_last : item.last < f.first_slot
  old_last = last_of_all (λ x. x.last < f.first_slot) taken item may.below

  matchings : All IsMatching f.slots.slots
  matchings = matchings_so_far taken (with_waiting waiting (fill_of f)) is

  few_slots : length f.slots.slots ≤ 64
  few_slots = omega (arith, room.count, room.few_slots)

  -- both its endpoints are in the maps
  pub item_in_maps : (item.flow.src < f.maps.endpoints) × (item.flow.dst < f.maps.endpoints)
  item_in_maps = (omega (arith, in_range.0, room.maps), omega (arith, in_range.1, room.maps))

  pub item_in_table : (item.flow.src < f.slots.endpoints) × (item.flow.dst < f.slots.endpoints)
  item_in_table = (omega (arith, in_range.0, room.table), omega (arith, in_range.1, room.table))

  module _ (places : ℕ) (lowest : (slot : ℕ) → has_slot places slot ≡ is_among_lowest (is_common f.maps item.flow.src item.flow.dst) item.need slot) where
    pub chosen_is : (place : ℕ) → has_slot places place ≡ is_chosen bar item f.slots.slots place
    chosen_is place =
        lowest place ∙ lowest_common_is_chosen f.endpoints f.maps f.slots.slots item place is.free matchings in_range.0 in_range.1

    pub places_within : (place : ℕ) → has_slot places place ≡ true → place < length f.slots.slots
    places_within place here = chosen_within bar item f.slots.slots place (sym (chosen_is place) ∙ here)

    pub places_free : (place : ℕ) → has_slot places place ≡ true → destination_of (slot_in f.slots.slots place) item.flow.src ≡ None
    places_free place here = chosen_no_destination f.maps.limits item f.slots.slots place (sym (chosen_is place) ∙ here)

    -- the item takes none
    module _ (none : places ≡ 0) where
      none_chosen : (place : ℕ) → is_chosen bar item f.slots.slots place ≡ false
      none_chosen place = sym (chosen_is place) ∙ (ap (λ (n : ℕ). has_slot n place) none ∙ has_slot-none place)

      stays : item ≡ item_after bar f.first_slot item f.slots.slots
      stays = sym ((takes_lowest_free bar f.first_slot item f.slots.slots).unserved none_chosen)

      same_slots : f.slots.slots ≡ slots_with bar f.first_slot item f.slots.slots
      same_slots =
          added-unique item.flow (is_chosen bar item f.slots.slots) f.slots.slots f.slots.slots (slots_with bar f.first_slot item f.slots.slots)
          (added-none item.flow (is_chosen bar item f.slots.slots) f.slots.slots none_chosen)
          (takes_lowest_free bar f.first_slot item f.slots.slots).slots_then

      pub taken_up_none : (maps : FreeSlots) → HasTaken item.flow.src item.flow.dst (has_slot places) f.maps maps
          → HasTakenUp (taken ++ item ∷ []) (with_waiting (waiting ++ item ∷ []) (fill_of (record f { maps = maps })))
      taken_up_none maps gone = record {
        numbers = is.numbers;
        may = may;
        stands = subst (λ (l : Limits). StandsAfter (is_barred l) f.first_slot f.b (taken ++ item ∷ []) f.slots.slots (waiting ++ item ∷ []) f.served.items) (sym gone.limits)
            (stands_with_waiting bar f.first_slot f.b taken f.slots.slots waiting f.served.items is.stands item item f.slots.slots same_slots stays old_last);
        free = shows_added f.endpoints f.maps maps item.flow (has_slot places) f.slots.slots f.slots.slots few_slots is.free
            (added-none item.flow (has_slot places) f.slots.slots (λ place. ap (λ (n : ℕ). has_slot n place) none ∙ has_slot-none place))
            gone;
      }

    -- the item takes some
    module _ (count : (b : ℕ) → NoneFrom b (is_common f.maps item.flow.src item.flow.dst) → count_ones places ≡ min item.need (count_below (is_common f.maps item.flow.src item.flow.dst) b)) (slots : Slots) (greatest : ℕ)
        (added : HasAdded item.flow (has_slot places) f.slots.slots slots.slots) (top : IsGreatest (has_slot places) greatest) where
      common_free : (place : ℕ) → is_common f.maps item.flow.src item.flow.dst place ≡ is_free bar item.flow f.slots.slots place
      common_free place = common_is_free f.endpoints f.maps f.slots.slots item.flow place is.free matchings in_range.0 in_range.1

      ones_are : count_ones places ≡ count_below (is_chosen bar item f.slots.slots) (length f.slots.slots)
      ones_are =
          let free : ℕ → Bool = is_free bar item.flow f.slots.slots in
          let n : ℕ = length f.slots.slots in
          count n (λ slot from. common_free slot ∙ and_left (nat_lt slot n) _ (le-ltb slot n from))
          ∙ (ap (λ (k : ℕ). min item.need k) (count_below-same (is_common f.maps item.flow.src item.flow.dst) free n (λ place below. common_free place))
          ∙ sym (count_of_lowest free item.need n))

      pub ones_within : count_ones places ≤ item.need
      ones_within = omega (arith, ones_are, count_of_lowest (is_free bar item.flow f.slots.slots) item.need (length f.slots.slots))

      pub greatest_within : greatest < f.b
      greatest_within = omega (arith, places_within greatest top.passes, room.count)

      abbrev now : Item
      now = record { flow = item.flow; need = item.need - count_ones places; last = f.first_slot + greatest }

      now_is : now ≡ item_after bar f.first_slot item f.slots.slots
      now_is =
          ap (λ (n : ℕ). record { flow = item.flow; need = item.need - n; last = f.first_slot + greatest }) ones_are
          ∙ sym (item_after-served bar f.first_slot item f.slots.slots greatest (length f.slots.slots) (sym (chosen_is greatest) ∙ top.passes)
          (λ later after. sym (chosen_is later) ∙ top.none_above later after) (omega arith))

      slots_then : slots.slots ≡ slots_with bar f.first_slot item f.slots.slots
      slots_then =
          added-unique item.flow (is_chosen bar item f.slots.slots) f.slots.slots slots.slots (slots_with bar f.first_slot item f.slots.slots)
          (added-same item.flow (has_slot places) (is_chosen bar item f.slots.slots) f.slots.slots slots.slots chosen_is added)
          (takes_lowest_free bar f.first_slot item f.slots.slots).slots_then

      one_served : StandsAfter bar f.first_slot f.b (taken ++ item ∷ []) slots.slots waiting (f.served.items ++ now ∷ [])
      one_served =
          stands_with_served bar f.first_slot f.b taken f.slots.slots waiting f.served.items is.stands item now slots.slots slots_then now_is (omega arith)

      pub served_has_room : vec_len f.served < vec_capacity f.served
      served_has_room =
          omega (
            arith,
            fits_served f.maps.limits f.endpoints f.first_slot f.b (taken ++ item ∷ []) slots.slots waiting (f.served.items ++ now ∷ []) one_served may,
            length-append f.served.items (now ∷ []),
            f.served.ok.0,
            room.places,
          )

      pub taken_up_some : (maps : FreeSlots) (served : Vec Item Global) → HasTaken item.flow.src item.flow.dst (has_slot places) f.maps maps
          → served.items ≡ f.served.items ++ now ∷ []
          → HasTakenUp (taken ++ item ∷ []) (with_waiting (waiting ++ []) (fill_of (record f { maps = maps; slots = slots; served = served })))
      taken_up_some maps served gone pushed =
          record {
            numbers = is.numbers;
            may = may;
            stands = subst (λ (l : Limits). StandsAfter (is_barred l) f.first_slot f.b (taken ++ item ∷ []) slots.slots (waiting ++ []) served.items) (sym gone.limits)
                (subst (λ (xs : List Item). StandsAfter bar f.first_slot f.b (taken ++ item ∷ []) slots.slots (waiting ++ []) xs) (sym pushed)
                (subst (λ (xs : List Item). StandsAfter bar f.first_slot f.b (taken ++ item ∷ []) slots.slots xs (f.served.items ++ now ∷ [])) (sym (append-nil waiting)) one_served));
            free = shows_added f.endpoints f.maps maps item.flow (has_slot places) f.slots.slots slots.slots few_slots is.free added gone;
          }
