-- A piece is fed by its doubted items: those between are passed over, and what is left of it is closed up in the end.
use Rattle.std.proofs.Common.{◌≡◌, ◌≢◌, ◌<◌, ◌≤◌, ◌+◌, ◌-◌, ◌^◌, ℕ, List, [], ◌∷◌, ◌++◌, length, take, drop, get_or, set, Bool, true, false, ◌==◌, cond, bit_and, w64, All, refl, sym, ap, ◌∙◌, subst, arith, inl, inr}
use Rattle.std.specs.Int.{bit_at, trailing_zeros}
use Rattle.std.proofs.Math.Seq.{take-add}
use Rattle.std.proofs.lemmas.Nat.Bits.{bit_at-lt, bit_at-trailing_zeros}
use Rattle.std.proofs.lemmas.Bool.{cases_Bool, cond-true, cond-false, eq-eqb, eqb-true}
use Rattle.std.proofs.lemmas.List.{append-nil, append_assoc, length-set, length-take, take_more, take_more_set, take-set, drop-set-lt, drop-drop, get_or-drop, get_or-take}
use Rattle.std.proofs.lemmas.List.Elements.{All-weaker}
use Rattle.greedy_rules.specs.declared.flows.Item.{Item}
use Rattle.greedy_rules.specs.Batches.{DemandBatch}
use Rattle.greedy_rules.specs.Demands.{with_batch}
use Rattle.endpoint_bitmaps.specs.Slots.{has_slot}
use Rattle.endpoint_bitmaps.proofs.Facts.{has_slot-none, lowest_is}
use Rattle.slot_batches.specs.ArrayStands.{HasBeenFed, MayBeFed}
use Rattle.slot_batches.specs.Doubts.{left_of, AreUndoubted}
use Rattle.slot_batches.specs.Feeding.{was_served, taken_up}
use Rattle.slot_batches.specs.Filled.{Fill, HasTakenUp, MayBeTakenUp}
use Rattle.slot_batches.specs.Parts.{with_waiting}
use Rattle.slot_batches.specs.Rests.{TakesNone, ItemRests, HaveNoMore}
use Rattle.slot_batches.proofs.DoubtLemmas.{no_more_on, opened_before, undoubted_on, undoubted_rests}
use Rattle.slot_batches.proofs.FedLemmas.{may_feed_part, may_next, one_more_fed}
use Rattle.slot_batches.proofs.FinishLemmas.{may_feed, fed_one_more}
use Rattle.slot_batches.proofs.PutLemmas.{above_lowest, without_other}
use Rattle.slot_batches.proofs.RestLemmas.{keep_all, may_keep, fed_run, taken_before}

-- ---- what is left of a list

pub left_append : (gone place : ℕ) (xs ys : List Item) → left_of gone place (xs ++ ys) ≡ left_of gone place xs ++ left_of gone (place + length xs) ys
left_append gone place [] ys = ap (λ (n : ℕ). left_of gone n ys) (omega arith)
left_append gone place (x ∷ xs) ys =
    let rest : List Item = left_of gone (place + 1) xs in
    let later : List Item = left_of gone (place + length (x ∷ xs)) ys in
    let on : left_of gone (place + 1) (xs ++ ys) ≡ rest ++ later = left_append gone (place + 1) xs ys ∙ ap (λ (n : ℕ). rest ++ left_of gone n ys) (omega arith) in
    ap (λ (zs : List Item). cond (has_slot gone place) zs (x ∷ zs)) on ∙ either (has_slot gone place) x rest later
  where
    either : (b : Bool) (x : Item) (rest later : List Item) → cond b (rest ++ later) (x ∷ (rest ++ later)) ≡ cond b rest (x ∷ rest) ++ later
    either true x rest later = refl
    either false x rest later = refl

-- all of a list is left of which nothing is gone
pub all_left : (gone place : ℕ) (xs : List Item) → ((k : ℕ) → place ≤ k → has_slot gone k ≡ false) → left_of gone place xs ≡ xs
all_left gone place [] none = refl
all_left gone place (x ∷ xs) none =
    cond-false (has_slot gone place) (left_of gone (place + 1) xs) (x ∷ left_of gone (place + 1) xs) (none place (omega arith))
    ∙ ap (λ (zs : List Item). x ∷ zs) (all_left gone (place + 1) xs (λ k after. none k (omega (arith, after))))

-- what is gone behind a list does not matter
pub same_left : (gone gone' place : ℕ) (xs : List Item) → ((k : ℕ) → place ≤ k → k < place + length xs → has_slot gone k ≡ has_slot gone' k) → left_of gone place xs ≡ left_of gone' place xs
same_left gone gone' place [] same = refl
same_left gone gone' place (x ∷ xs) same =
    let rest : List Item = left_of gone (place + 1) xs in
    ap (λ (b : Bool). cond b rest (x ∷ rest)) (same place (omega arith) (omega arith))
    ∙ ap (λ (zs : List Item). cond (has_slot gone' place) zs (x ∷ zs)) (same_left gone gone' (place + 1) xs (λ k after before. same k (omega (arith, after)) (omega (arith, before))))

-- one more is left or gone
pub left_more : (gone at : ℕ) (xs : List Item) (x : Item) → at ≡ length xs → left_of gone 0 (xs ++ x ∷ []) ≡ left_of gone 0 xs ++ cond (has_slot gone at) [] (x ∷ [])
left_more gone at xs x is = left_append gone 0 xs (x ∷ []) ∙ ap (λ (n : ℕ). left_of gone 0 xs ++ cond (has_slot gone n) [] (x ∷ [])) (omega (arith, is))

taken_length : (at : ℕ) (xs : List Item) → at ≤ length xs → at ≡ length (take at xs)
taken_length at xs within = omega (arith, within, length-take at xs)

-- what stands at a place, where the rest from an earlier one is the same
same_later : (xs ys : List Item) (from at : ℕ) (d : Item) → from ≤ at → drop from xs ≡ drop from ys → get_or xs at d ≡ get_or ys at d
same_later xs ys from at d before same =
    let on : from + (at - from) ≡ at = omega (arith, before) in
    ap (λ (n : ℕ). get_or xs n d) (sym on)
    ∙ (sym (get_or-drop from xs (at - from) d) ∙ (ap (λ (zs : List Item). get_or zs (at - from) d) same ∙ (get_or-drop from ys (at - from) d ∙ ap (λ (n : ℕ). get_or ys n d) on)))

later : (xs ys : List Item) (from at : ℕ) → from ≤ at → drop from xs ≡ drop from ys → drop at xs ≡ drop at ys
later xs ys from at before same =
    let on : from + (at - from) ≡ at = omega (arith, before) in
    ap (λ (n : ℕ). drop n xs) (sym on)
    ∙ (sym (drop-drop (at - from) from xs) ∙ (ap (drop (at - from)) same ∙ (drop-drop (at - from) from ys ∙ ap (λ (n : ℕ). drop n ys) on)))

-- ---- closing up

module _ (gone : ℕ) (old items : List Item) (to at count : ℕ) (d : Item) (within : at < length old) (long : length items ≡ length old) (before : to ≤ at) (is : take to items ≡ left_of gone 0 (take at old))
    (same : drop at items ≡ drop at old) (counts : count ≡ cond (bit_at gone at == 0) 1 0) where
  abbrev here : Item
  here = get_or items at d

  left_here : left_of gone 0 (take (at + 1) old) ≡ left_of gone 0 (take at old) ++ cond (has_slot gone at) [] (here ∷ [])
  left_here =
      ap (left_of gone 0) (take_more old at d within)
      ∙ (left_more gone at (take at old) (get_or old at d) (taken_length at old (omega (arith, within)))
      ∙ ap (λ (x : Item). left_of gone 0 (take at old) ++ cond (has_slot gone at) [] (x ∷ [])) (sym (same_later items old at at d (omega arith) same)))

  pub closed : take (to + count) (set items to here) ≡ left_of gone 0 (take (at + 1) old)
  closed = elim (cases_Bool (has_slot gone at)) [
    | inl goes ↦
        let none : count ≡ 0 = counts ∙ cond-false (bit_at gone at == 0) 1 0 (ap (λ (n : ℕ). n == 0) (eqb-true (bit_at gone at) 1 goes)) in
        ap (λ (n : ℕ). take n (set items to here)) (omega (arith, none))
        ∙ (take-set items to here
        ∙ (is
        ∙ (sym (append-nil (left_of gone 0 (take at old)))
        ∙ (ap (λ (b : Bool). left_of gone 0 (take at old) ++ cond b [] (here ∷ [])) (sym goes) ∙ sym left_here))))
    | inr stays ↦
        let zero_bit : bit_at gone at ≡ 0 = not_one (bit_at gone at) (bit_at-lt gone at) stays in
        let one : count ≡ 1 = counts ∙ cond-true (bit_at gone at == 0) 1 0 (eq-eqb (bit_at gone at) 0 zero_bit) in
        ap (λ (n : ℕ). take n (set items to here)) (omega (arith, one))
        ∙ (take_more_set items to here (omega (arith, within, long, before))
        ∙ (ap (λ (xs : List Item). xs ++ here ∷ []) is
        ∙ (ap (λ (b : Bool). left_of gone 0 (take at old) ++ cond b [] (here ∷ [])) (sym stays) ∙ sym left_here)))
  ]
    where
      not_one : (n : ℕ) → n < 2 → (n == 1) ≡ false → n ≡ 0
      not_one n small is = grind arith

  pub fewer : to + count ≤ at + 1
  fewer = omega (arith, counts, one_at_most (bit_at gone at == 0), before)
    where
      one_at_most : (b : Bool) → cond {A = ℕ} b 1 0 ≤ 1
      one_at_most true = omega arith
      one_at_most false = omega arith

-- ---- serving the doubted items

-- the piece has been fed up to this place, at which or behind which stand the doubted items that are to come
pub record IsServedTo (batch : DemandBatch) (start now : Fill) (list items : List Item) (doubted rest served place : ℕ) : Type 0 where
  pub inside : (k : ℕ) → has_slot doubted k ≡ true → k < length list
  pub others : AreUndoubted batch.entries start.maps doubted list
  pub no_more : HaveNoMore start.maps now.maps
  pub same_endpoints : now.endpoints ≡ start.endpoints
  pub same_first : now.first_slot ≡ start.first_slot
  pub long : length items ≡ length list
  pub within : place ≤ length list
  pub to_come : drop place items ≡ drop place list
  pub rest_from : (k : ℕ) → has_slot rest k ≡ true → place ≤ k
  pub rest_is : (k : ℕ) → place ≤ k → has_slot rest k ≡ has_slot doubted k
  pub served_before : (k : ℕ) → place ≤ k → has_slot served k ≡ false
  pub fed : (fed : List Item) → HasBeenFed batch fed start 0 → MayBeFed batch.entries start.endpoints start.first_slot (fed ++ list)
      → HasBeenFed batch (fed ++ take place list) (with_waiting (start.waiting ++ left_of served 0 (take place items)) now) 0

pub serving_starts : (batch : DemandBatch) (start : Fill) (list : List Item) (doubted : ℕ) → ((k : ℕ) → has_slot doubted k ≡ true → k < length list) → AreUndoubted batch.entries start.maps doubted list
    → IsServedTo batch start start list list doubted doubted 0 0
serving_starts batch start list doubted inside others = record {
  inside = inside;
  others = others;
  no_more = record { senders = λ endpoint slot none. none; receivers = λ endpoint slot none. none };
  same_endpoints = refl;
  same_first = refl;
  long = refl;
  within = omega arith;
  to_come = refl;
  rest_from = λ k is. omega arith;
  rest_is = λ k from. refl;
  served_before = λ k from. has_slot-none k;
  fed = λ fed so_far may.
      subst (λ (xs : List Item). HasBeenFed batch xs (with_waiting (start.waiting ++ []) start) 0) (sym (append-nil fed))
      (subst (λ (xs : List Item). HasBeenFed batch fed (with_waiting xs start) 0) (sym (append-nil start.waiting)) so_far);
}

module _ (batch : DemandBatch) (start now : Fill) (list items : List Item) (doubted rest served place at : ℕ) (to : IsServedTo batch start now list items doubted rest served place) (from : place ≤ at) (within : at ≤ length list)
    (none : (k : ℕ) → place ≤ k → k < at → has_slot rest k ≡ false) where
  -- the items between are passed over
  abbrev run : List Item
  run = take (at - place) (drop place list)

  on : place + (at - place) ≡ at
  on = omega (arith, from)

  run_of : (xs : List Item) → drop place xs ≡ drop place list → take at xs ≡ take place xs ++ run
  run_of xs same = ap (λ (n : ℕ). take n xs) (sym on) ∙ (take-add place (at - place) xs ∙ ap (λ (zs : List Item). take place xs ++ take (at - place) zs) same)

  run_rests : All (ItemRests batch.entries 0 now.maps) run
  run_rests = λ k d below.
      let inside : k < at - place = omega (arith, below, length-take (at - place) (drop place list)) in
      let here : get_or run k d ≡ get_or list (place + k) d = get_or-take (at - place) (drop place list) k d inside ∙ get_or-drop place list k d in
      subst (ItemRests batch.entries 0 now.maps) (sym here)
      (undoubted_rests batch.entries now.maps (get_or list (place + k) d)
      (undoubted_on batch.entries start.maps now.maps (get_or list (place + k) d) to.no_more
      (to.others (place + k) d (omega (arith, inside, within)) (sym (to.rest_is (place + k) (omega arith)) ∙ none (place + k) (omega arith) (omega (arith, inside))))))

  abbrev waiting : List Item
  waiting = start.waiting ++ left_of served 0 (take place items)

  left_is : waiting ++ run ≡ start.waiting ++ left_of served 0 (take at items)
  left_is =
      append_assoc start.waiting (left_of served 0 (take place items)) run
      ∙ ap (λ (xs : List Item). start.waiting ++ xs)
      (sym (ap (left_of served 0) (run_of items to.to_come)
      ∙ (left_append served 0 (take place items) run
      ∙ ap (λ (xs : List Item). left_of served 0 (take place items) ++ xs)
      (all_left served (0 + length (take place items)) run
      (λ k after. to.served_before k (omega (arith, after, length-take place items, to.within, to.long)))))))

  pub passed : (fed : List Item) → HasBeenFed batch fed start 0 → MayBeFed batch.entries start.endpoints start.first_slot (fed ++ list)
      → HasBeenFed batch (fed ++ take at list) (with_waiting (start.waiting ++ left_of served 0 (take at items)) now) 0
  passed fed so_far may =
      let front : List Item = fed ++ take place list in
      let whole : front ++ run ≡ fed ++ take at list = append_assoc fed (take place list) run ∙ ap (λ (xs : List Item). fed ++ xs) (sym (run_of list refl)) in
      let old : Fill = with_waiting waiting now in
      let so_far_to : HasBeenFed batch front old 0 = to.fed fed so_far may in
      let may_run : MayBeFed batch.entries now.endpoints now.first_slot (front ++ run) =
      subst (λ (n : ℕ). MayBeFed batch.entries n now.first_slot (front ++ run)) (sym to.same_endpoints)
      (subst (λ (n : ℕ). MayBeFed batch.entries start.endpoints n (front ++ run)) (sym to.same_first)
      (subst (MayBeFed batch.entries start.endpoints start.first_slot) (sym whole) (may_feed_part batch.entries start.endpoints start.first_slot fed list at may))) in
      let nones : All (TakesNone now.maps) run = All-weaker (ItemRests batch.entries 0 now.maps) (TakesNone now.maps) (λ item rests. rests.takes_none) run run_rests in
      let taken : HasTakenUp (taken_up batch.entries front false ++ run) (with_waiting (waiting ++ run) now) =
      keep_all (taken_up batch.entries front false) run old so_far_to.taken (may_keep batch front run old 0 so_far_to may_run run_rests) nones in
      subst (λ (xs : List Item). HasBeenFed batch xs (with_waiting (start.waiting ++ left_of served 0 (take at items)) now) 0) whole
      (subst (λ (xs : List Item). HasBeenFed batch (front ++ run) (with_waiting xs now) 0) left_is
      (fed_run batch front run old (with_waiting (waiting ++ run) now) 0 so_far_to may_run run_rests taken refl refl refl))

zero_either : (b : Bool) (n : ℕ) → n ≡ 0 → n ≡ cond b 0 n
zero_either true n is = is
zero_either false n is = refl

-- the next doubted item is served
module _ (batch : DemandBatch) (start now : Fill) (list items : List Item) (doubted rest served place : ℕ) (d : Item) (fits : rest < 2 ^ 64) (some : rest ≢ 0)
    (to : IsServedTo batch start now list items doubted rest served place) where
  abbrev next : ℕ
  next = trailing_zeros w64 rest

  abbrev fed_item : Item
  fed_item = get_or list next d

  next_from : place ≤ next
  next_from = to.rest_from next (lowest_is rest fits some)

  pub next_within : next < length list
  next_within = to.inside next (sym (to.rest_is next next_from) ∙ lowest_is rest fits some)

  none_between : (k : ℕ) → place ≤ k → k < next → has_slot rest k ≡ false
  none_between k from before = ap (λ (n : ℕ). n == 1) ((bit_at-trailing_zeros w64 rest (omega (arith, some)) fits).2 k before)

  -- the item stands there still
  pub as_fed : get_or items next d ≡ fed_item
  as_fed = same_later items list place next d next_from to.to_come

  pub next_unserved : has_slot served next ≡ false
  next_unserved = to.served_before next next_from

  abbrev waits : List Item
  waits = start.waiting ++ left_of served 0 (take next items)

  fed_to : (fed : List Item) → HasBeenFed batch fed start 0 → MayBeFed batch.entries start.endpoints start.first_slot (fed ++ list) → HasBeenFed batch (fed ++ take next list) (with_waiting waits now) 0
  fed_to = passed batch start now list items doubted rest served place next to next_from (omega (arith, next_within)) none_between

  may_feed_next : (fed : List Item) → MayBeFed batch.entries start.endpoints start.first_slot (fed ++ list) → MayBeFed batch.entries now.endpoints now.first_slot ((fed ++ take next list) ++ fed_item ∷ [])
  may_feed_next fed may = may_next batch.entries start.endpoints start.first_slot now.endpoints now.first_slot fed list next d next_within may to.same_endpoints to.same_first

  as_before : (fed : List Item) → HasBeenFed batch fed (with_waiting waits now) 0 → taken_up batch.entries fed (was_served fed_item) ≡ taken_up batch.entries fed false
  as_before fed so_far = taken_before batch.entries fed fed_item 0 so_far.unopened_is (opened_before fed_item.last 0 refl)

  module _ (item : Item) (is : item ≡ with_batch batch.entries fed_item) where
    pub has_taken : (fed : List Item) → HasBeenFed batch fed start 0 → MayBeFed batch.entries start.endpoints start.first_slot (fed ++ list)
        → HasTakenUp (taken_up batch.entries (fed ++ take next list) false) (with_waiting waits now)
    has_taken fed so_far may = (fed_to fed so_far may).taken

    pub may_take : (fed : List Item) → HasBeenFed batch fed start 0 → MayBeFed batch.entries start.endpoints start.first_slot (fed ++ list)
        → MayBeTakenUp now.endpoints now.first_slot (taken_up batch.entries (fed ++ take next list) false ++ item ∷ [])
    may_take fed so_far may =
        let front : List Item = fed ++ take next list in
        let there = fed_to fed so_far may in
        subst (λ (xs : List Item). MayBeTakenUp now.endpoints now.first_slot (xs ++ item ∷ [])) (as_before front there)
        (may_feed batch front fed_item item (with_waiting waits now) 0 now.endpoints now.first_slot there (may_feed_next fed may) is refl refl)

    module _ (new : Fill) (served' : ℕ) (took : Bool) (new_endpoints : new.endpoints ≡ now.endpoints) (new_first : new.first_slot ≡ now.first_slot) (new_limits : new.maps.limits ≡ now.maps.limits) (no_more : HaveNoMore now.maps new.maps)
        (takes : (taken waiting : List Item) → HasTakenUp taken (with_waiting waiting now) → MayBeTakenUp now.endpoints now.first_slot (taken ++ item ∷ [])
        → HasTakenUp (taken ++ item ∷ []) (with_waiting (waiting ++ cond took [] (item ∷ [])) new))
        (here_is : has_slot served' next ≡ took) (else_is : (k : ℕ) → k ≢ next → has_slot served' k ≡ has_slot served k) where
      abbrev more : List Item
      more = set items next item

      left_then : waits ++ cond took [] (item ∷ []) ≡ start.waiting ++ left_of served' 0 (take (next + 1) more)
      left_then =
          let front : List Item = take next items in
          append_assoc start.waiting (left_of served 0 front) (cond took [] (item ∷ []))
          ∙ ap (λ (xs : List Item). start.waiting ++ xs)
          (ap (λ (xs : List Item). xs ++ cond took [] (item ∷ []))
          (same_left served served' 0 front (λ k from before. sym (else_is k (λ same. absurd (omega (arith, before, length-take next items, same))))))
          ∙ (ap (λ (b : Bool). left_of served' 0 front ++ cond b [] (item ∷ [])) (sym here_is)
          ∙ (sym (left_more served' next front item (taken_length next items (omega (arith, next_within, to.long))))
          ∙ ap (left_of served' 0) (sym (take_more_set items next item (omega (arith, next_within, to.long)))))))

      pub one_on : IsServedTo batch start new list more doubted (bit_and rest (rest - 1)) served' (next + 1)
      one_on = record {
        inside = to.inside;
        others = to.others;
        no_more = no_more_on start.maps now.maps new.maps to.no_more no_more;
        same_endpoints = new_endpoints ∙ to.same_endpoints;
        same_first = new_first ∙ to.same_first;
        long = length-set items next item ∙ to.long;
        within = omega (arith, next_within);
        to_come = drop-set-lt (next + 1) items next item (omega arith) ∙ later items list place (next + 1) (omega (arith, next_from)) to.to_come;
        rest_from = λ k still. omega (arith, (above_lowest rest k fits some still).1);
        rest_is = λ k from. without_other rest k fits some (λ same. absurd (omega (arith, same, from))) ∙ to.rest_is k (omega (arith, from, next_from));
        served_before = λ k from. else_is k (λ same. absurd (omega (arith, same, from))) ∙ to.served_before k (omega (arith, from, next_from));
        fed = λ fed so_far may.
            let front : List Item = fed ++ take next list in
            let there = fed_to fed so_far may in
            let then : Fill = with_waiting (waits ++ cond took [] (item ∷ [])) new in
            let taken : HasTakenUp (taken_up batch.entries front (was_served fed_item) ++ item ∷ []) then =
            subst (λ (xs : List Item). HasTakenUp (xs ++ item ∷ []) then) (sym (as_before front there))
            (takes (taken_up batch.entries front false) waits (has_taken fed so_far may) (may_take fed so_far may)) in
            subst (λ (xs : List Item). HasBeenFed batch xs (with_waiting (start.waiting ++ left_of served' 0 (take (next + 1) more)) new) 0) (sym (one_more_fed fed list next d next_within))
            (subst (λ (xs : List Item). HasBeenFed batch (front ++ fed_item ∷ []) (with_waiting xs new) 0) left_then
            (fed_one_more batch front fed_item item (with_waiting waits now) then 0 0 there (may_feed_next fed may) is new_endpoints new_first new_limits taken (zero_either (was_served fed_item) 0 refl)));
      }
