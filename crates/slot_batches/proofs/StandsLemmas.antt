-- A stage from its beginning to its end: what is settled stays, and what was given goes on.
use Rattle.std.proofs.Common.{◌≡◌, ◌<◌, ◌≤◌, ◌+◌, ◌-◌, ◌*◌, ◌/◌, ◌⊎◌, ℕ, List, [], ◌∷◌, ◌++◌, length, replicate, take, drop, Bool, true, false, not, ◌&&◌, ◌||◌, Some, None, nat_le, nat_lt, min, cond, refl, sym, ap, ◌∙◌, subst, arith, inl, inr}
use Rattle.std.proofs.lemmas.Bool.{lt-ltb, ltb-true, cond-true}
use Rattle.std.proofs.lemmas.Bool.Decides.{nat_tests}
use Rattle.std.proofs.lemmas.Nat.{mul-le}
use Rattle.std.proofs.lemmas.List.{length-append, append-nil, append_assoc, length-drop, drop-append-le, take-append-le}
use Rattle.std.proofs.lemmas.List.Elements.{filter-append}
use Rattle.greedy_rules.specs.declared.flows.Item.{Item}
use Rattle.greedy_rules.specs.declared.flows.Flow.{Flow}
use Rattle.greedy_rules.specs.declared.limits.Limits.{Limits}
use Rattle.greedy_rules.specs.Batches.{DemandBatch}
use Rattle.greedy_rules.specs.Slot.{Bar}
use Rattle.greedy_rules.specs.Limits.{is_barred}
use Rattle.greedy_rules.specs.Demands.{HasEachFlowOnce, by_last, with_batch, opened, after_batch}
use Rattle.greedy_rules.proofs.Facts.{once-after_batch, few}
use Rattle.slot_batches.specs.FlowByFlow.{slots_after, items_after}
use Rattle.slot_batches.specs.Feeding.{IsInOrder, was_served, has_served, taken_up, unserved, newly_served}
use Rattle.slot_batches.specs.Filled.{Fill, HasTakenUp}
use Rattle.slot_batches.specs.Marks.{AreMarked}
use Rattle.slot_batches.specs.Pieces.{Part, piece_count, piece_at, has_piece}
use Rattle.slot_batches.specs.Settled.{slots_filled, settled, SettledItemsStay, EarlyPiecesAreOfTheList}
use Rattle.slot_batches.specs.ArrayStands.{ArrayState, HasBeenFed, ArrayStands, array_first, array_size}
use Rattle.slot_batches.proofs.FilledLemmas.{lengths_after}
use Rattle.slot_batches.proofs.FinishLemmas.{complete}
use Rattle.slot_batches.proofs.OpenedFlows.{taken_up_all, taken_up_more}
use Rattle.slot_batches.proofs.ProgressLemmas.{stands_midway}
use Rattle.slot_batches.proofs.SettledLemmas.{flow_by_flow, are_settled}
use Rattle.slot_batches.proofs.SlotExchange.{slot_by_slot}
use Rattle.slot_batches.proofs.TurnSteps.{items_after-append}

-- what is settled is the front of the list that the batch leaves
front_settled : (batch : DemandBatch) (number b : ℕ) (fed rest : List Item) → IsInOrder (fed ++ rest) → HasEachFlowOnce (after_batch batch.entries (fed ++ rest))
    → settled batch number b fed false ≡ unserved number (items_after (is_barred batch.limits) number (taken_up batch.entries fed false) (replicate b []))
    → (more : List Item) × (settled batch number b (fed ++ rest) true ≡ settled batch number b fed false ++ more)
front_settled batch number b fed rest up once turns =
    let bar : Bar = is_barred batch.limits in
    let taken : List Item = taken_up batch.entries fed false in
    let items : List Item = items_after bar number taken (replicate b []) in
    let midway = stands_midway bar number b batch.entries fed rest (slots_after bar number taken (replicate b [])) (unserved number items) (newly_served number items) up
    (record { slots_are = refl; waiting_are = refl; served_are = refl }) in
    (midway.0, sym (ap by_last (slot_by_slot bar number b (after_batch batch.entries (fed ++ rest)) once).items) ∙ (midway.1 ∙ ap (λ (xs : List Item). xs ++ midway.0) (sym turns)))

pub settled_stay : SettledItemsStay
settled_stay batch number b fed rest positive rising opens before =
    front_settled batch number b fed rest before.in_order (once-after_batch batch.entries (fed ++ rest) rising opens before.once) (are_settled batch number b fed rest rising opens before).flow_by_flow

ends_not : (n m from : ℕ) → from < n → n ≤ m → nat_le n from ≡ nat_le m from
ends_not n m from before more = grind (arith, nat_tests)

-- the front of a list has its pieces, but for the last
piece_of_front : (stage place : ℕ) (front more whole : List Item) → whole ≡ front ++ more → 64 * (place + 1) < length front → piece_at stage front place ≡ piece_at stage whole place
piece_of_front stage place front more whole is within =
    let from : ℕ = 64 * place in
    let long : length front ≤ length whole = omega (arith, ap length is, length-append front more) in
    ap (λ (xs : List Item). record { stage = stage; from = from; items = xs; end = nat_le (length front) (64 * (place + 1)) })
    (front_taken from 64 front more (omega (arith, within)) ∙ ap (λ (xs : List Item). take 64 (drop from xs)) (sym is))
    ∙ ap (λ (e : Bool). record { stage = stage; from = from; items = take 64 (drop from whole); end = e }) (ends_not (length front) (length whole) (64 * (place + 1)) within long)
  where
    front_taken : {X : Type 0} (from count : ℕ) (xs ys : List X) → from + count ≤ length xs → take count (drop from xs) ≡ take count (drop from (xs ++ ys))
    front_taken from count xs ys within =
        sym (ap (take count) (drop-append-le from xs ys (omega arith)) ∙ take-append-le count (drop from xs) ys (omega (arith, length-drop from xs)))

early_within : (given n m : ℕ) → 64 < n - 64 * given → n ≤ m → (64 * (given + 1) < n) × (given < (m - 1) / 64 + 1)
early_within given n m many more = (omega (arith, many), omega (arith, many, more))

no_end : (many ended within : Bool) → ended ≡ false → (many || (ended && within)) ≡ true → many ≡ true
no_end true ended within none is = refl
no_end false true within none is = cc
no_end false false within none is = cc

last_within : (given n : ℕ) (many within : Bool) → (many ≡ true → 64 < n - 64 * given) → (within ≡ true → given < (n - 1) / 64 + 1) → (many || within) ≡ true → given < (n - 1) / 64 + 1
last_within given n true within is_many is_within is = omega (arith, is_many refl)
last_within given n false true is_many is_within is = is_within refl
last_within given n false false is_many is_within is = cc

pub early_pieces : EarlyPiecesAreOfTheList
early_pieces batch number b fed rest false stage given positive rising opens before ends has =
    let front = settled_stay batch number b fed rest positive rising opens before in
    let now : List Item = settled batch number b fed false in
    let whole : List Item = settled batch number b (fed ++ rest) true in
    let many : 64 < length now - 64 * given =
    omega (arith, length-drop (64 * given) now, ltb-true 64 (length (drop (64 * given) now)) (no_end (nat_lt 64 (length (drop (64 * given) now))) false (nat_lt given (piece_count now)) refl has)) in
    let more : length now ≤ length whole = omega (arith, ap length front.1, length-append now front.0) in
    let within = early_within given (length now) (length whole) many more in (
      within.1,
      cond-true (has_piece false given now) (Some (piece_at stage now given)) None has ∙ ap (λ (p : Part). Some p) (piece_of_front stage given now front.0 whole front.1 within.0),
    )
early_pieces batch number b fed rest true stage given positive rising opens before ends has =
    let now : List Item = settled batch number b fed true in
    let nothing : List Item = [] in
    let same : now ≡ settled batch number b (fed ++ rest) true =
    ap (λ (xs : List Item). settled batch number b xs true) (sym (append-nil fed) ∙ ap (λ (xs : List Item). fed ++ xs) (sym (ends refl))) in
    let within : given < piece_count now =
    last_within given (length now) (nat_lt 64 (length (drop (64 * given) now))) (nat_lt given (piece_count now))
    (λ is. omega (arith, length-drop (64 * given) now, ltb-true 64 (length (drop (64 * given) now)) is)) (λ is. ltb-true given (piece_count now) is) has in (
      subst (λ (xs : List Item). given < piece_count xs) same within,
      cond-true (has_piece true given now) (Some (piece_at stage now given)) None has ∙ ap (λ (xs : List Item). Some (piece_at stage xs given)) same,
    )

module _ (batch : DemandBatch) (fed : List Item) (fill : Fill) (unopened : ℕ) (so_far : HasBeenFed batch fed fill unopened) where
  abbrev taken : List Item
  taken = taken_up batch.entries fed false

  pub fed_slots : fill.slots ≡ slots_filled batch fill.first_slot fill.b fed false
  fed_slots =
      so_far.taken.stands.slots_are
      ∙ ap (λ (l : Limits). slots_after (is_barred l) fill.first_slot taken (replicate fill.b [])) so_far.limits

  pub turns_fed : (number b : ℕ) → settled batch number b fed false ≡ unserved number (items_after (is_barred batch.limits) number taken (replicate b []))
  turns_fed number b = flow_by_flow batch number b fed so_far.rising so_far.may.in_order so_far.may.once so_far.may.others_open

  pub fed_list : fill.waiting ≡ settled batch fill.first_slot fill.b fed false
  fed_list =
      so_far.taken.stands.waiting_are
      ∙ (ap (λ (l : Limits). unserved fill.first_slot (items_after (is_barred l) fill.first_slot taken (replicate fill.b []))) so_far.limits ∙ sym (turns_fed fill.first_slot fill.b))

  pub few_waiting : length fill.waiting ≤ 65536
  few_waiting =
      omega (
        arith,
        lengths_after (is_barred fill.maps.limits) fill.first_slot fill.b taken fill.slots fill.waiting fill.served so_far.taken.stands,
        few fill.endpoints taken so_far.taken.may.once so_far.taken.may.in_range,
        mul-le fill.endpoints fill.endpoints 256 256 so_far.small so_far.small,
      )

at_least : (n k : ℕ) → n ≡ min (64 * 0) k → n ≡ 0
at_least n k is = grind (arith, nat_tests)

given_so_far : (given n : ℕ) → (given ≡ 0) ⊎ (64 * given < n) → 64 * given ≡ min (64 * given) n
given_so_far given n so_far = elim so_far [
  | inl none ↦ omega (arith, none)
  | inr some ↦ omega (arith, some)
]

-- a stage whose list has not ended
pub feeding_stands : (batch : DemandBatch) (fed : List Item) (given : ℕ) (stage : ArrayState) → HasBeenFed batch fed stage.fill stage.unopened → AreMarked batch.entries stage.marks → stage.given ≡ 64 * given → stage.ends ≡ false
    → (given ≡ 0) ⊎ (64 * given < length stage.fill.waiting) → ArrayStands batch fed false given stage
feeding_stands batch fed given stage so_far marked given_is ends_is more = record {
  feeding = λ _. so_far;
  marked = marked;
  slots = fed_slots batch fed stage.fill stage.unopened so_far;
  list = fed_list batch fed stage.fill stage.unopened so_far;
  few = few_waiting batch fed stage.fill stage.unopened so_far;
  given_is = given_is ∙ given_so_far given (length stage.fill.waiting) more;
  ends_is = ends_is;
  more_wait = λ _. more;
}

longer : (given n m : ℕ) → n ≤ m → (given ≡ 0) ⊎ (64 * given < n) → (given ≡ 0) ⊎ (64 * given < m)
longer given n m more so_far = elim so_far [
  | inl none ↦ inl none
  | inr some ↦ inr (omega (arith, some, more))
]

-- items fed later settle more
abbrev turns_of : DemandBatch → ℕ → ℕ → List Item → List Item
turns_of batch number b fed = unserved number (items_after (is_barred batch.limits) number (taken_up batch.entries fed false) (replicate b []))

settled_more : (batch : DemandBatch) (number b : ℕ) (fed : List Item) (item : Item) → length (turns_of batch number b fed) ≤ length (turns_of batch number b (fed ++ item ∷ []))
settled_more batch number b fed item =
    let bar : Bar = is_barred batch.limits in
    let empty : List (List Flow) = replicate b [] in
    let taken : List Item = taken_up batch.entries fed false in
    let opens : List Item = cond (not (has_served fed) && was_served item) (opened batch.entries) [] in
    let last : List Item = with_batch batch.entries item ∷ [] in
    let extra : List Item = opens ++ last in
    let before : List Item = items_after bar number taken empty in
    let after : List Item = items_after bar number extra (slots_after bar number taken empty) in
    let split : turns_of batch number b (fed ++ item ∷ []) ≡ unserved number before ++ unserved number after =
    ap (λ (xs : List Item). unserved number (items_after bar number xs empty)) (taken_up_more batch.entries fed item ∙ append_assoc taken opens last)
    ∙ (ap (unserved number) (items_after-append bar number taken extra empty) ∙ filter-append (λ (x : Item). nat_lt x.last number) before after) in
    omega (arith, ap length split, length-append (unserved number before) (unserved number after))

-- one item more was fed
pub stands_for_more : (batch : DemandBatch) (fed : List Item) (given : ℕ) (item : Item) (old new : ArrayState) → ArrayStands batch fed false given old → HasBeenFed batch (fed ++ item ∷ []) new.fill new.unopened
    → array_first new ≡ array_first old → array_size new ≡ array_size old → new.marks ≡ old.marks → new.given ≡ old.given → new.ends ≡ old.ends → ArrayStands batch (fed ++ item ∷ []) false given new
stands_for_more batch fed given item old new stands now first_is size_is marks_are given_is ends_is =
    let settled_then : List Item = settled batch (array_first old) (array_size old) (fed ++ item ∷ []) false in
    let then : new.fill.waiting ≡ settled_then =
    fed_list batch (fed ++ item ∷ []) new.fill new.unopened now
    ∙ (ap (λ (n : ℕ). settled batch n (array_size new) (fed ++ item ∷ []) false) first_is ∙ ap (λ (n : ℕ). settled batch (array_first old) n (fed ++ item ∷ []) false) size_is) in
    let more : length old.fill.waiting ≤ length new.fill.waiting =
    omega (
      arith,
      ap length (stands.list ∙ turns_fed batch fed old.fill old.unopened (stands.feeding refl) (array_first old) (array_size old)),
      ap length (then ∙ turns_fed batch (fed ++ item ∷ []) new.fill new.unopened now (array_first old) (array_size old)),
      settled_more batch (array_first old) (array_size old) fed item,
    ) in
    feeding_stands batch (fed ++ item ∷ []) given new now (subst (AreMarked batch.entries) (sym marks_are) stands.marked)
    (given_is ∙ (stands.given_is ∙ sym (given_so_far given (length old.fill.waiting) (stands.more_wait refl)))) (ends_is ∙ stands.ends_is)
    (longer given (length old.fill.waiting) (length new.fill.waiting) more (stands.more_wait refl))

-- items were fed, and more wait
pub stands_for_run : (batch : DemandBatch) (fed run more_waiting : List Item) (given : ℕ) (old new : ArrayState) → ArrayStands batch fed false given old → HasBeenFed batch (fed ++ run) new.fill new.unopened
    → new.fill.waiting ≡ old.fill.waiting ++ more_waiting → new.marks ≡ old.marks → new.given ≡ old.given → new.ends ≡ old.ends → ArrayStands batch (fed ++ run) false given new
stands_for_run batch fed run more_waiting given old new stands now waiting_is marks_are given_is ends_is =
    let more : length old.fill.waiting ≤ length new.fill.waiting = omega (arith, ap length waiting_is, length-append old.fill.waiting more_waiting) in
    feeding_stands batch (fed ++ run) given new now (subst (AreMarked batch.entries) (sym marks_are) stands.marked)
    (given_is ∙ (stands.given_is ∙ sym (given_so_far given (length old.fill.waiting) (stands.more_wait refl)))) (ends_is ∙ stands.ends_is)
    (longer given (length old.fill.waiting) (length new.fill.waiting) more (stands.more_wait refl))

-- a piece is still to come
some_piece : (given n : ℕ) → (given ≡ 0) ⊎ (64 * given < n) → given < (n - 1) / 64 + 1
some_piece given n so_far = elim so_far [
  | inl none ↦ omega (arith, none)
  | inr some ↦ omega (arith, some)
]

-- the list has ended
pub stands_finished : (batch : DemandBatch) (fed : List Item) (given : ℕ) (old new : ArrayState) (mid : Fill) → ArrayStands batch fed false given old → HasTakenUp (taken_up batch.entries fed true) mid
    → mid.maps.limits ≡ old.fill.maps.limits → mid.endpoints ≡ old.fill.endpoints → mid.first_slot ≡ array_first old → mid.b ≡ array_size old → new.fill.slots ≡ mid.slots
    → new.fill.waiting ≡ mid.waiting ++ by_last mid.served → array_first new ≡ array_first old → array_size new ≡ array_size old → new.marks ≡ old.marks → new.given ≡ old.given
    → new.ends ≡ true → ArrayStands batch fed true given new
stands_finished batch fed given old new mid stands taken limits_are endpoints_are first_is size_is slots_are list_is new_first new_size marks_are given_is ends_is =
    let so_far = stands.feeding refl in
    let up : IsInOrder fed = so_far.may.in_order in
    let ends = complete batch.limits (array_first new) (array_size new) batch.entries fed mid (limits_are ∙ so_far.limits) (first_is ∙ sym new_first) (size_is ∙ sym new_size)
    (omega (arith, so_far.small, endpoints_are)) up taken in
    let once : HasEachFlowOnce (after_batch batch.entries fed) = subst HasEachFlowOnce (taken_up_all batch.entries fed up) taken.may.once in
    let nothing : List Item = [] in
    let whole : fed ++ nothing ≡ fed = append-nil fed in
    let front = front_settled batch (array_first old) (array_size old) fed nothing (subst IsInOrder (sym whole) up)
    (subst (λ (xs : List Item). HasEachFlowOnce (after_batch batch.entries xs)) (sym whole) once) (turns_fed batch fed old.fill old.unopened so_far (array_first old) (array_size old)) in
    let left : new.fill.waiting ≡ settled batch (array_first new) (array_size new) fed true = list_is ∙ ends.left in
    let grown : new.fill.waiting ≡ old.fill.waiting ++ front.0 =
    left ∙ (ap (λ (n : ℕ). settled batch n (array_size new) fed true) new_first ∙ (ap (λ (n : ℕ). settled batch (array_first old) n fed true) new_size
    ∙ (ap (λ (xs : List Item). settled batch (array_first old) (array_size old) xs true) (sym whole) ∙ (front.1 ∙ ap (λ (xs : List Item). xs ++ front.0) (sym stands.list))))) in
    let more : length old.fill.waiting ≤ length new.fill.waiting = omega (arith, ap length grown, length-append old.fill.waiting front.0) in
    let so_many = longer given (length old.fill.waiting) (length new.fill.waiting) more (stands.more_wait refl) in
    record {
      feeding = λ is. cc;
      marked = subst (AreMarked batch.entries) (sym marks_are) stands.marked;
      slots = slots_are ∙ ends.slots;
      list = left;
      few = omega (arith, ap length left, ends.few);
      given_is = given_is
          ∙ (stands.given_is ∙ (sym (given_so_far given (length old.fill.waiting) (stands.more_wait refl)) ∙ given_so_far given (length new.fill.waiting) so_many));
      ends_is = ends_is ∙ sym (lt-ltb given (piece_count new.fill.waiting) (some_piece given (length new.fill.waiting) so_many));
      more_wait = λ is. cc;
    }
