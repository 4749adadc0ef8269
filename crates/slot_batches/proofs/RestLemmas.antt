-- A run of items that wait as they are.
use Rattle.std.proofs.Common.{◌≡◌, ◌<◌, ◌≤◌, ◌+◌, ℕ, List, [], ◌∷◌, ◌++◌, length, take, Bool, false, not, ◌&&◌, ◌==◌, cond, Option, None, All, sym, ap, ◌∙◌, subst, arith, inl, inr}
use Rattle.std.proofs.lemmas.Bool.{cases_Bool, eqb-true, not-false}
use Rattle.std.proofs.lemmas.List.{append-nil, append_assoc, length-append}
use Rattle.std.proofs.lemmas.List.Elements.{All-head, All-tail, All-weaker}
use Rattle.std.specs.Prelude.{vec_len, vec_capacity}
use Rattle.greedy_rules.proofs.Facts.{few}
use Rattle.greedy_rules.specs.declared.flows.Item.{Item}
use Rattle.greedy_rules.specs.declared.flows.Entry.{Entry}
use Rattle.greedy_rules.specs.Slot.{Bar}
use Rattle.greedy_rules.specs.Limits.{is_barred}
use Rattle.greedy_rules.specs.Batches.{DemandBatch, entry_of}
use Rattle.greedy_rules.specs.Demands.{AreBelow, need_with, with_batch, opened}
use Rattle.endpoint_bitmaps.specs.FreeSlots.{FreeSlots}
use Rattle.slot_batches.specs.FlowByFlow.{slots_with, item_after}
use Rattle.slot_batches.specs.FreePlaces.{is_chosen}
use Rattle.slot_batches.specs.Feeding.{was_served, has_served, taken_up}
use Rattle.slot_batches.specs.Filled.{Fill, HasTakenUp, MayBeTakenUp}
use Rattle.slot_batches.specs.Rests.{TakesNone, ItemRests}
use Rattle.slot_batches.specs.ArrayStands.{HasBeenFed, MayBeFed}
use Rattle.slot_batches.specs.declared.filling.Filling.{Filling}
use Rattle.slot_batches.specs.Parts.{fill_of, with_waiting, FillingHasRoom}
use Rattle.slot_batches.proofs.FilledLemmas.{lengths_after, matchings_so_far}
use Rattle.slot_batches.proofs.Added.{added-none, added-unique}
use Rattle.slot_batches.proofs.FreePlaces.{takes_lowest_free}
use Rattle.slot_batches.proofs.FreeMaps.{lowest_common_is_chosen}
use Rattle.slot_batches.proofs.ProgressLemmas.{stands_with_waiting}
use Rattle.slot_batches.proofs.StageLemmas.{may_front, may_so_far, open_now, feed_one, unopened_then}
use Rattle.slot_batches.proofs.TakeUpLemmas.{last_of_all}

-- the parts once these items wait as well
abbrev pub kept : Fill → List Item → Fill
kept fill items = record fill { waiting = fill.waiting ++ items }

pub keep_one : (taken : List Item) (fill : Fill) (item : Item) → HasTakenUp taken fill → MayBeTakenUp fill.endpoints fill.first_slot (taken ++ item ∷ []) → TakesNone fill.maps item
    → HasTakenUp (taken ++ item ∷ []) (kept fill (item ∷ []))
keep_one taken fill item is may none =
    let bar : Bar = is_barred fill.maps.limits in
    let in_range = last_of_all (λ x. (x.flow.src < fill.endpoints) × (x.flow.dst < fill.endpoints)) taken item may.in_range in
    let old_last : item.last < fill.first_slot = last_of_all (λ x. x.last < fill.first_slot) taken item may.below in
    let none_chosen : (place : ℕ) → is_chosen bar item fill.slots place ≡ false =
    λ place. sym (lowest_common_is_chosen fill.endpoints fill.maps fill.slots item place is.free (matchings_so_far taken fill is) in_range.0 in_range.1) ∙ none place in
    let turns = takes_lowest_free bar fill.first_slot item fill.slots in
    let stays : item ≡ item_after bar fill.first_slot item fill.slots = sym (turns.unserved none_chosen) in
    let same_slots : fill.slots ≡ slots_with bar fill.first_slot item fill.slots =
    added-unique item.flow (is_chosen bar item fill.slots) fill.slots fill.slots (slots_with bar fill.first_slot item fill.slots)
    (added-none item.flow (is_chosen bar item fill.slots) fill.slots none_chosen) turns.slots_then in
    record {
      numbers = is.numbers;
      may = may;
      stands = stands_with_waiting bar fill.first_slot fill.b taken fill.slots fill.waiting fill.served is.stands item item fill.slots same_slots stays old_last;
      free = is.free;
    }

-- items that take no slot wait, one after the other
pub keep_all : (taken items : List Item) (fill : Fill) → HasTakenUp taken fill → MayBeTakenUp fill.endpoints fill.first_slot (taken ++ items) → All (TakesNone fill.maps) items
    → HasTakenUp (taken ++ items) (kept fill items)
keep_all taken [] fill is may none =
    subst (λ (xs : List Item). HasTakenUp xs (kept fill [])) (sym (append-nil taken))
    (subst (HasTakenUp taken) (ap (λ (xs : List Item). record fill { waiting = xs }) (sym (append-nil fill.waiting))) is)
keep_all taken (item ∷ items) fill is may none =
    let more : List Item = taken ++ item ∷ [] in
    let same : more ++ items ≡ taken ++ (item ∷ items) = append_assoc taken (item ∷ []) items in
    let may_more : MayBeTakenUp fill.endpoints fill.first_slot (more ++ items) = subst (MayBeTakenUp fill.endpoints fill.first_slot) (sym same) may in
    let one = keep_one taken fill item is (may_front fill.endpoints fill.first_slot more items may_more) (All-head (TakesNone fill.maps) item items none) in
    let rest = keep_all more items (kept fill (item ∷ [])) one may_more (All-tail (TakesNone fill.maps) item items none) in
    subst (λ (xs : List Item). HasTakenUp xs (kept fill (item ∷ items))) same
    (subst (HasTakenUp (more ++ items))
    (ap (λ (xs : List Item). record fill { waiting = xs }) (append_assoc fill.waiting (item ∷ []) items)) rest)

-- there is room for them
pub room_to_keep : (taken items : List Item) (f : Filling) → FillingHasRoom f → HasTakenUp taken (fill_of f) → MayBeTakenUp f.endpoints f.first_slot (taken ++ items)
    → vec_len f.waiting + length items ≤ vec_capacity f.waiting
room_to_keep taken items f room is may =
    let waits = lengths_after (is_barred f.maps.limits) f.first_slot f.b taken f.slots.slots f.waiting.items f.served.items is.stands in
    let fits = few f.endpoints (taken ++ items) may.once may.in_range in
    omega (arith, waits, fits, length-append taken items, f.waiting.ok.0, room.pairs)

-- also where some of them were served
pub room_for_left : (taken left : List Item) (f : Filling) → FillingHasRoom f → HasTakenUp taken (with_waiting (f.waiting.items ++ left) (fill_of f)) → vec_len f.waiting + length left ≤ vec_capacity f.waiting
room_for_left taken left f room is =
    omega (
      arith,
      lengths_after (is_barred f.maps.limits) f.first_slot f.b taken f.slots.slots (f.waiting.items ++ left) f.served.items is.stands,
      few f.endpoints taken is.may.once is.may.in_range,
      length-append f.waiting.items left,
      f.waiting.ok.0,
      room.pairs,
    )

no_item : (entries : List Entry) (item : Item) → entry_of entries item.flow ≡ None → with_batch entries item ≡ item
no_item entries item none = ap (λ (e : Option Entry). record item { need = need_with e item.need }) none

-- what was taken up before the item
pub taken_before : (entries : List Entry) (fed : List Item) (item : Item) (unopened : ℕ) → unopened ≡ cond (has_served fed) 0 (length entries) → (was_served item && not (unopened == 0)) ≡ false
    → taken_up entries fed (was_served item) ≡ taken_up entries fed false
taken_before entries fed item unopened left none = elim (cases_Bool (was_served item)) [
  | inr never ↦ ap (taken_up entries fed) never
  | inl served ↦
      let zero_left : unopened ≡ 0 = eqb-true unopened 0 (not-false (unopened == 0) (ap (λ (b : Bool). b && not (unopened == 0)) (sym served) ∙ none)) in
      ap (taken_up entries fed) served
      ∙ (sym (open_now entries fed unopened left)
      ∙ (ap (λ (n : ℕ). taken_up entries fed false ++ opened (take n entries)) zero_left ∙ append-nil (taken_up entries fed false)))
]

unopened_still : (entries : List Entry) (item : Item) (unopened : ℕ) → (was_served item && not (unopened == 0)) ≡ false → unopened ≡ cond (was_served item) 0 unopened
unopened_still entries item unopened none = elim (cases_Bool (was_served item)) [
  | inr never ↦ ap (λ (b : Bool). cond b 0 unopened) (sym never)
  | inl served ↦
      eqb-true unopened 0 (not-false (unopened == 0) (ap (λ (b : Bool). b && not (unopened == 0)) (sym served) ∙ none)) ∙ ap (λ (b : Bool). cond b 0 unopened) (sym served)
]

-- a run of items is taken up as it is
pub run_taken_up : (entries : List Entry) (fed run : List Item) (unopened : ℕ) → unopened ≡ cond (has_served fed) 0 (length entries)
    → All (λ item. (entry_of entries item.flow ≡ None) × ((was_served item && not (unopened == 0)) ≡ false)) run
    → (taken_up entries (fed ++ run) false ≡ taken_up entries fed false ++ run) × (unopened ≡ cond (has_served (fed ++ run)) 0 (length entries))
run_taken_up entries fed [] unopened left rest = (
  ap (λ (xs : List Item). taken_up entries xs false) (append-nil fed) ∙ sym (append-nil (taken_up entries fed false)),
  left ∙ ap (λ (xs : List Item). cond (has_served xs) 0 (length entries)) (sym (append-nil fed)),
)
run_taken_up entries fed (item ∷ run) unopened left rest =
    let P : Item → Type 0 = λ x. (entry_of entries x.flow ≡ None) × ((was_served x && not (unopened == 0)) ≡ false) in
    let first = All-head P item run rest in
    let more : List Item = fed ++ item ∷ [] in
    let same : more ++ run ≡ fed ++ (item ∷ run) = append_assoc fed (item ∷ []) run in
    let one : taken_up entries more false ≡ taken_up entries fed false ++ item ∷ [] =
    sym (feed_one entries fed item)
    ∙ (ap (λ (xs : List Item). xs ++ with_batch entries item ∷ []) (taken_before entries fed item unopened left first.1)
    ∙ ap (λ (x : Item). taken_up entries fed false ++ x ∷ []) (no_item entries item first.0)) in
    let on = run_taken_up entries more run unopened
    (unopened_then fed item unopened unopened (length entries) left (unopened_still entries item unopened first.1)) (All-tail P item run rest) in (
      ap (λ (xs : List Item). taken_up entries xs false) (sym same)
          ∙ (on.0 ∙ (ap (λ (xs : List Item). xs ++ run) one ∙ append_assoc (taken_up entries fed false) (item ∷ []) run)),
      on.1 ∙ ap (λ (xs : List Item). cond (has_served xs) 0 (length entries)) same,
    )

abbrev first_two : (entries : List Entry) (unopened : ℕ) (maps : FreeSlots) (item : Item) → ItemRests entries unopened maps item
    → (entry_of entries item.flow ≡ None) × ((was_served item && not (unopened == 0)) ≡ false)
first_two entries unopened maps item rests = (rests.no_entry, rests.none_opens)

-- a run of items that wait as they are may be kept
pub may_keep : (batch : DemandBatch) (fed run : List Item) (fill : Fill) (unopened : ℕ) → HasBeenFed batch fed fill unopened
    → MayBeFed batch.entries fill.endpoints fill.first_slot (fed ++ run) → All (ItemRests batch.entries unopened fill.maps) run
    → MayBeTakenUp fill.endpoints fill.first_slot (taken_up batch.entries fed false ++ run)
may_keep batch fed run fill unopened so_far may rests =
    let both : Item → Type 0 = λ item. (entry_of batch.entries item.flow ≡ None) × ((was_served item && not (unopened == 0)) ≡ false) in
    subst (MayBeTakenUp fill.endpoints fill.first_slot)
    (run_taken_up batch.entries fed run unopened so_far.unopened_is (All-weaker (ItemRests batch.entries unopened fill.maps) both (first_two batch.entries unopened fill.maps) run rests)).0
    (may_so_far batch.entries fill.endpoints fill.first_slot (fed ++ run) so_far.positive so_far.rising so_far.opening may)

-- and then it has been fed
pub fed_run : (batch : DemandBatch) (fed run : List Item) (old new : Fill) (unopened : ℕ) → HasBeenFed batch fed old unopened
    → MayBeFed batch.entries old.endpoints old.first_slot (fed ++ run) → All (ItemRests batch.entries unopened old.maps) run
    → HasTakenUp (taken_up batch.entries fed false ++ run) new → new.maps.limits ≡ old.maps.limits → new.endpoints ≡ old.endpoints → new.first_slot ≡ old.first_slot
    → HasBeenFed batch (fed ++ run) new unopened
fed_run batch fed run old new unopened so_far may rests taken limits_are endpoints_are first_is =
    let both : Item → Type 0 = λ item. (entry_of batch.entries item.flow ≡ None) × ((was_served item && not (unopened == 0)) ≡ false) in
    let on = run_taken_up batch.entries fed run unopened so_far.unopened_is (All-weaker (ItemRests batch.entries unopened old.maps) both (first_two batch.entries unopened old.maps) run rests) in
    record {
      positive = omega (arith, so_far.positive, first_is);
      small = omega (arith, so_far.small, endpoints_are);
      rising = so_far.rising;
      limits = limits_are ∙ so_far.limits;
      opening = subst (λ (n : ℕ). AreBelow n (opened batch.entries)) (sym endpoints_are) so_far.opening;
      may = subst (λ (n : ℕ). MayBeFed batch.entries n new.first_slot (fed ++ run)) (sym endpoints_are)
          (subst (λ (n : ℕ). MayBeFed batch.entries old.endpoints n (fed ++ run)) (sym first_is) may);
      taken = subst (λ (xs : List Item). HasTakenUp xs new) (sym on.0) taken;
      unopened_is = on.1;
    }
