-- One round more is played.
use Rattle.std.proofs.Common.{◌≡◌, ◌<◌, ◌≤◌, ◌+◌, ◌*◌, ◌==◌, ◌&&◌, ◌||◌, not, ℕ, zero, suc, List, [], ◌∷◌, ◌++◌, map, length, take, cond, Bool, true, false, Some, is_some, All, AllPairs, IsTrue, refl, sym, ap, ◌∙◌, subst, inl, inr, arith, append_assoc, append-nil, length-append}
use Rattle.std.specs.Prelude.{◌⊎◌, count_by, sum_by}
use Rattle.std.specs.List.{slice_index_or}
use Rattle.std.proofs.Math.Nat.{mul-le-mul_right}
use Rattle.std.proofs.lemmas.Bool.{cases_Bool, cond-true, cond-false, ne_eqb, false≢true, false_from_ne_true}
use Rattle.std.proofs.lemmas.List.{take-append-le, take_more, length-take-le}
use Rattle.std.proofs.lemmas.List.Sums.{sum_by-append, sum_by-cons}
use Rattle.std.proofs.lemmas.List.Elements.{All-nil, All-cons, All-append, All-head, All-tail, All-take}
use Rattle.std.proofs.lemmas.List.Folds.{list_any-append}
use Rattle.list_facts.proofs.Pairs.{AllPairs-head, AllPairs-tail}
use Rattle.greedy_rules.specs.declared.flows.Flow.{Flow}
use Rattle.greedy_rules.specs.declared.flows.Entry.{Entry}
use Rattle.greedy_rules.specs.Flows.{same_flow, flow_below}
use Rattle.greedy_rules.specs.Batches.{DemandBatch, IsBatch, entry_of}
use Rattle.greedy_rules.specs.Slot.{has_flow}
use Rattle.greedy_rules.specs.SlotTable.{IsSlotOf}
use Rattle.greedy_rules.specs.Allocation.{slots_of}
use Rattle.greedy_rules.specs.Schedule.{schedule}
use Rattle.greedy_rules.specs.Fronts.{FrontsAreFronts, EveryBatchHasItsSlots}
use Rattle.greedy_rules.specs.Balance.{is_recorded, added_by, clears, NoneClears}
use Rattle.greedy_rules.proofs.Facts.{same_flow-true, same_flow-refl, flow_below-not_same}
use Rattle.schedule_audit.specs.declared.ledger.Ledger.{Ledger}
use Rattle.schedule_audit.specs.Lines.{Recorded, Place}
use Rattle.schedule_audit.specs.FlowNumbers.{Numbers, flow_number_of}
use Rattle.schedule_audit.specs.Wrong.{slot_places_from, added_in_all}
use Rattle.schedule_audit.specs.Judged.{order_of, AreBefore}
use Rattle.schedule_audit.specs.Walked.{in_slot}
use Rattle.schedule_audit.specs.Counts.{FlowClearsAt, FlowOpensFrom}
use Rattle.schedule_audit.specs.Texts.{record_of, records_of}
use Rattle.schedule_audit.specs.Entered.{Enters, IsCleared, LedgerStands}
use Rattle.schedule_audit.proofs.Batches.{records_of-append}
use Rattle.schedule_audit.proofs.WalkSteps.{count-append, rest-before, both-before}

-- ---- places of slots

pub places-append : (number : ℕ) (xs ys : List (List Flow)) → slot_places_from number (xs ++ ys) ≡ slot_places_from number xs ++ slot_places_from (number + length xs) ys
places-append number [] ys = ap (λ n. slot_places_from n ys) (omega arith)
places-append number (x ∷ xs) ys =
    ap (λ ps. in_slot number x ++ ps) (places-append (number + 1) xs ys ∙ ap (λ n. slot_places_from (number + 1) xs ++ slot_places_from n ys) (omega arith))
    ∙ sym (append_assoc (in_slot number x) (slot_places_from (number + 1) xs) (slot_places_from (number + length (x ∷ xs)) ys))

slot-before : (endpoints number : ℕ) (slot : List Flow) → endpoints ≤ 65536 → All (λ f. (f.src < endpoints) × (f.dst < endpoints)) slot → AreBefore ((number + 1) * 65536) (in_slot number slot)
slot-before endpoints number [] few all = All-nil (λ (p : Place). order_of p < (number + 1) * 65536)
slot-before endpoints number (f ∷ slot) few all =
    let P : Flow → Type 0 = λ g. (g.src < endpoints) × (g.dst < endpoints) in
    let here = All-head P f slot all in
    let low = here.0 in
    All-cons (λ (p : Place). order_of p < (number + 1) * 65536) (record { slot = number; flow = f }) (in_slot number slot) (omega (arith, few, low)) (slot-before endpoints number slot few (All-tail P f slot all))

pub places-before : (endpoints number : ℕ) (slots : List (List Flow)) → endpoints ≤ 65536 → All (IsSlotOf endpoints) slots → AreBefore ((number + length slots) * 65536) (slot_places_from number slots)
places-before endpoints number [] few all = All-nil (λ (p : Place). order_of p < (number + 0) * 65536)
places-before endpoints number (slot ∷ slots) few all =
    both-before ((number + length (slot ∷ slots)) * 65536) (in_slot number slot) (slot_places_from (number + 1) slots)
    (rest-before ((number + 1) * 65536) ((number + length (slot ∷ slots)) * 65536) (in_slot number slot) (omega arith) (slot-before endpoints number slot few (All-head (IsSlotOf endpoints) slot slots all).in_range))
    (rest-before (((number + 1) + length slots) * 65536) ((number + length (slot ∷ slots)) * 65536) (slot_places_from (number + 1) slots) (omega arith) (places-before endpoints (number + 1) slots few (All-tail (IsSlotOf endpoints) slot slots all)))

-- the slots so far, and one more
pub slots-step : (number offset : ℕ) (visited : List Place) (slots : List (List Flow)) (slot : List Flow) → offset < length slots → slot ≡ slice_index_or slots offset []
    → (visited ++ slot_places_from number (take offset slots)) ++ in_slot (number + offset) slot ≡ visited ++ slot_places_from number (take (offset + 1) slots)
slots-step number offset visited slots slot within is =
    let long : number + length (take offset slots) ≡ number + offset = ap (λ n. number + n) (length-take-le offset slots (omega (arith, within))) in
    append_assoc visited (slot_places_from number (take offset slots)) (in_slot (number + offset) slot)
    ∙ ap (λ ps. visited ++ ps)
    (ap (λ ps. slot_places_from number (take offset slots) ++ ps) (sym (append-nil (in_slot (number + offset) slot)))
    ∙ (ap (λ n. slot_places_from number (take offset slots) ++ slot_places_from n (slot ∷ [])) (sym long)
    ∙ (sym (places-append number (take offset slots) (slot ∷ []))
    ∙ ap (λ ss. slot_places_from number ss) (ap (λ s. take offset slots ++ s ∷ []) is ∙ sym (take_more slots offset [] within)))))

pub slots-before : (endpoints number offset : ℕ) (visited : List Place) (slots : List (List Flow)) → endpoints ≤ 65536 → offset ≤ length slots → All (IsSlotOf endpoints) slots → AreBefore (number * 65536) visited
    → AreBefore ((number + offset) * 65536) (visited ++ slot_places_from number (take offset slots))
slots-before endpoints number offset visited slots few within all before =
    let long = length-take-le offset slots within in
    both-before ((number + offset) * 65536) visited (slot_places_from number (take offset slots)) (rest-before (number * 65536) ((number + offset) * 65536) visited (omega arith) before)
    (rest-before ((number + length (take offset slots)) * 65536) ((number + offset) * 65536) (slot_places_from number (take offset slots)) (omega (arith, long))
    (places-before endpoints number (take offset slots) few (All-take (IsSlotOf endpoints) offset slots all)))

-- ---- how often a flow stands in slots

abbrev here_of : Flow → Place → Bool
here_of flow place = same_flow place.flow flow

no-more : (number : ℕ) (flow : Flow) (slot : List Flow) → All (λ g. flow.src < g.src) slot → count_by (here_of flow) (in_slot number slot) ≡ 0
no-more number flow [] all = refl
no-more number flow (g ∷ slot) all =
    let P : Flow → Type 0 = λ x. flow.src < x.src in
    let less = All-head P g slot all in
    let other : same_flow g flow ≡ false = ap (λ b. b && (g.dst == flow.dst)) (ne_eqb g.src flow.src (λ e. omega (arith, less, e))) in
    sum_by-cons (λ (p : Place). cond (here_of flow p) 1 0) (record { slot = number; flow = g }) (in_slot number slot)
    ∙ omega (arith, cond-false {A = ℕ} (same_flow g flow) 1 0 other, no-more number flow slot (All-tail P g slot all))

in-one : (number : ℕ) (flow : Flow) (slot : List Flow) → AllPairs (λ f g. f.src < g.src) slot → count_by (here_of flow) (in_slot number slot) ≡ cond (has_flow slot flow) 1 0
in-one number flow [] rising = refl
in-one number flow (g ∷ slot) rising =
    let R : Flow → Flow → Type 0 = λ x y. x.src < y.src in
    let step = sum_by-cons (λ (p : Place). cond (here_of flow p) 1 0) (record { slot = number; flow = g }) (in_slot number slot) in
    elim (cases_Bool (same_flow g flow)) [
      | inl same ↦
          let it : g ≡ flow = same_flow-true g flow same in
          let none = no-more number flow slot (subst (λ (f : Flow). All (λ x. f.src < x.src) slot) it (AllPairs-head R g slot rising)) in
          step ∙ (omega (arith, cond-true {A = ℕ} (same_flow g flow) 1 0 same, none) ∙ sym (ap (λ b. cond (b || has_flow slot flow) 1 0) same))
      | inr other ↦
          let rest = in-one number flow slot (AllPairs-tail R g slot rising) in
          step ∙ (omega (arith, cond-false {A = ℕ} (same_flow g flow) 1 0 other, rest) ∙ sym (ap (λ b. cond (b || has_flow slot flow) 1 0) other))
    ]

pub counted-places : (endpoints number : ℕ) (flow : Flow) (slots : List (List Flow)) → All (IsSlotOf endpoints) slots → count_by (here_of flow) (slot_places_from number slots) ≡ slots_of flow slots
counted-places endpoints number flow [] all = refl
counted-places endpoints number flow (slot ∷ slots) all =
    count-append flow (in_slot number slot) (slot_places_from (number + 1) slots)
    ∙ (ap (λ n. n + count_by (here_of flow) (slot_places_from (number + 1) slots)) (in-one number flow slot (All-head (IsSlotOf endpoints) slot slots all).rising)
    ∙ (ap (λ n. cond (has_flow slot flow) 1 0 + n) (counted-places endpoints (number + 1) flow slots (All-tail (IsSlotOf endpoints) slot slots all))
    ∙ sym (sum_by-cons (λ (s : List Flow). cond (has_flow s flow) 1 0) slot slots)))

-- ---- the ledger, and one batch more

recorded-more : (front : List DemandBatch) (batch : DemandBatch) (flow : Flow) → is_recorded (front ++ batch ∷ []) flow ≡ (is_recorded front flow || (is_some (entry_of batch.entries flow) || false))
recorded-more front batch flow = list_any-append (λ (b : DemandBatch). is_some (entry_of b.entries flow)) front (batch ∷ [])

seen-more : (has was : Bool) (n old : ℕ) → n ≡ cond has 1 old → (old == 0) ≡ not was → (n == 0) ≡ not (was || (has || false))
seen-more true true n old is before = ap (λ m. m == 0) is
seen-more true false n old is before = ap (λ m. m == 0) is
seen-more false true n old is before = ap (λ m. m == 0) is ∙ before
seen-more false false n old is before = ap (λ m. m == 0) is ∙ before

added-append : (flow : Flow) (rs qs : List Recorded) → added_in_all flow (rs ++ qs) ≡ added_in_all flow rs + added_in_all flow qs
added-append flow rs qs = sum_by-append (λ (r : Recorded). cond (same_flow r.flow flow) r.add 0) rs qs

pub none-added : (k : ℕ) (e : Entry) (es : List Entry) → All (λ x. IsTrue (flow_below e.flow x.flow)) es → sum_by (λ (r : Recorded). cond (same_flow r.flow e.flow) r.add 0) (map (record_of k) es) ≡ 0
none-added k e [] all = refl
none-added k e (x ∷ es) all =
    let P : Entry → Type 0 = λ y. IsTrue (flow_below e.flow y.flow) in
    let other : same_flow x.flow e.flow ≡ false = false_from_ne_true (same_flow x.flow e.flow) (λ same.
    let equal : x.flow ≡ e.flow = same_flow-true x.flow e.flow same in
    let not_same : same_flow e.flow x.flow ≡ false = flow_below-not_same e.flow x.flow (All-head P x es all) in
    let is : same_flow e.flow x.flow ≡ true = subst (λ (f : Flow). same_flow e.flow f ≡ true) (sym equal) (same_flow-refl e.flow) in
    false≢true (sym not_same ∙ is)) in
    sum_by-cons (λ (r : Recorded). cond (same_flow r.flow e.flow) r.add 0) (record_of k x) (map (record_of k) es)
    ∙ omega (arith, cond-false {A = ℕ} (same_flow x.flow e.flow) x.add 0 other, none-added k e es (All-tail P x es all))

pub added-one : (k : ℕ) (es : List Entry) (flow : Flow) → IsBatch es → added_in_all flow (map (record_of k) es) ≡ added_by (entry_of es flow)
added-one k [] flow rises = refl
added-one k (e ∷ es) flow rises =
    let R : Entry → Entry → Type 0 = λ x y. IsTrue (flow_below x.flow y.flow) in
    let step = sum_by-cons (λ (r : Recorded). cond (same_flow r.flow flow) r.add 0) (record_of k e) (map (record_of k) es) in
    elim (cases_Bool (same_flow e.flow flow)) [
      | inl here ↦
          let same : e.flow ≡ flow = same_flow-true e.flow flow here in
          let rest : sum_by (λ (r : Recorded). cond (same_flow r.flow flow) r.add 0) (map (record_of k) es) ≡ 0 =
          subst (λ (f : Flow). sum_by (λ (r : Recorded). cond (same_flow r.flow f) r.add 0) (map (record_of k) es) ≡ 0) same (none-added k e es (AllPairs-head R e es rises)) in
          let it : entry_of (e ∷ es) flow ≡ Some e = cond-true (same_flow e.flow flow) (Some e) (entry_of es flow) here in
          let by = ap added_by it in
          omega (arith, step, cond-true {A = ℕ} (same_flow e.flow flow) e.add 0 here, rest, by)
      | inr other ↦
          let it : entry_of (e ∷ es) flow ≡ entry_of es flow = cond-false (same_flow e.flow flow) (Some e) (entry_of es flow) other in
          let by = ap added_by it in
          omega (arith, step, cond-false {A = ℕ} (same_flow e.flow flow) e.add 0 other, added-one k es flow (AllPairs-tail R e es rises), by)
    ]

-- the last clear, and one batch more
clears-last : (flow : Flow) (front : List DemandBatch) (batch : DemandBatch) → clears (entry_of batch.entries flow) ≡ true → FlowClearsAt flow (length front) (front ++ batch ∷ [])
clears-last flow [] batch is = (is, All-nil (λ (x : DemandBatch). clears (entry_of x.entries flow) ≡ false))
clears-last flow (x ∷ front) batch is = clears-last flow front batch is

none-more : (flow : Flow) (front : List DemandBatch) (batch : DemandBatch) → clears (entry_of batch.entries flow) ≡ false → NoneClears flow front → NoneClears flow (front ++ batch ∷ [])
none-more flow front batch is none =
    let P : DemandBatch → Type 0 = λ x. clears (entry_of x.entries flow) ≡ false in All-append P front (batch ∷ []) none (All-cons P batch [] is (All-nil P))

clears-still : (flow : Flow) (place : ℕ) (front : List DemandBatch) (batch : DemandBatch) → clears (entry_of batch.entries flow) ≡ false → FlowClearsAt flow place front → FlowClearsAt flow place (front ++ batch ∷ [])
clears-still flow place [] batch is at = absurd at
clears-still flow zero (x ∷ front) batch is at = (at.0, none-more flow front batch is at.1)
clears-still flow (suc place) (x ∷ front) batch is at = clears-still flow place front batch is at

opens-still : (flow : Flow) (place : ℕ) (front : List DemandBatch) (batch : DemandBatch) → clears (entry_of batch.entries flow) ≡ false → FlowOpensFrom flow place front → FlowOpensFrom flow place (front ++ batch ∷ [])
opens-still flow zero front batch is from = none-more flow front batch is from
opens-still flow (suc place) [] batch is from = absurd from
opens-still flow (suc place) (x ∷ front) batch is from = (from.0, opens-still flow place front batch is from.1)

clears-within : (flow : Flow) (place : ℕ) (front : List DemandBatch) → FlowClearsAt flow place front → place ≤ length front
clears-within flow place [] at = absurd at
clears-within flow zero (x ∷ front) at = omega arith
clears-within flow (suc place) (x ∷ front) at = let w = clears-within flow place front at in omega (arith, w)

opens-within : (flow : Flow) (place : ℕ) (front : List DemandBatch) → FlowOpensFrom flow place front → place ≤ length front
opens-within flow zero front from = omega arith
opens-within flow (suc place) [] from = absurd from
opens-within flow (suc place) (x ∷ front) from = let w = opens-within flow place front from.1 in omega (arith, w)

place-within : (flow : Flow) (place : ℕ) (front : List DemandBatch) → FlowClearsAt flow place front ⊎ FlowOpensFrom flow place front → place ≤ length front
place-within flow place front (inl at) = clears-within flow place front at
place-within flow place front (inr from) = opens-within flow place front from

still : (flow : Flow) (place : ℕ) (front : List DemandBatch) (batch : DemandBatch) → clears (entry_of batch.entries flow) ≡ false → FlowClearsAt flow place front ⊎ FlowOpensFrom flow place front
    → FlowClearsAt flow place (front ++ batch ∷ []) ⊎ FlowOpensFrom flow place (front ++ batch ∷ [])
still flow place front batch is (inl at) = inl (clears-still flow place front batch is at)
still flow place front batch is (inr from) = inr (opens-still flow place front batch is from)

-- a batch was entered where each flow had its slots so far
pub ledger-more : (b : ℕ) (front : List DemandBatch) (batch : DemandBatch) (slots : Numbers) (old new : Ledger) → FrontsAreFronts → EveryBatchHasItsSlots → IsBatch batch.entries
    → ((flow : Flow) → flow_number_of slots flow ≡ slots_of flow (schedule b front)) → LedgerStands b front old → Enters batch.entries slots old new → LedgerStands b (front ++ batch ∷ []) new
ledger-more b front batch slots old new fronts counts rises counted stands enters = record {
  seen = λ flow. seen-more (is_some (entry_of batch.entries flow)) (is_recorded front flow) (flow_number_of new.seen flow) (flow_number_of old.seen flow) (enters.seen flow) (stands.seen flow) ∙ ap not (sym (recorded-more front batch flow));
  added = λ flow.
      enters.added flow
      ∙ (ap (λ n. n + added_by (entry_of batch.entries flow)) (stands.added flow)
      ∙ (ap (λ n. added_in_all flow (records_of 0 front) + n) (sym (added-one (0 + length front) batch.entries flow rises))
      ∙ (sym (added-append flow (records_of 0 front) (map (record_of (0 + length front)) batch.entries))
      ∙ ap (λ rs. added_in_all flow rs) (ap (λ rs. records_of 0 front ++ rs) (sym (append-nil (map (record_of (0 + length front)) batch.entries))) ∙ sym (records_of-append 0 front (batch ∷ []))))));
  few = λ flow. let one = enters.few flow in let so_far = stands.few flow in omega (arith, one, so_far, length-append front (batch ∷ []));
  cleared = λ flow. by flow (cases_Bool (clears (entry_of batch.entries flow)));
}
  where
    short : take (length front * b) (schedule b (front ++ batch ∷ [])) ≡ schedule b front
    short = (fronts b front (batch ∷ [])).2

    by : (flow : Flow) → (clears (entry_of batch.entries flow) ≡ true) ⊎ (clears (entry_of batch.entries flow) ≡ false) → IsCleared b (front ++ batch ∷ []) flow (flow_number_of new.cleared flow)
    by flow (inl is) = (
      length front,
      inl (clears-last flow front batch is),
      enters.cleared flow ∙ (cond-true (clears (entry_of batch.entries flow)) (flow_number_of slots flow) (flow_number_of old.cleared flow) is ∙ (counted flow ∙ ap (λ ss. slots_of flow ss) (sym short))),
    )
    by flow (inr is) =
        let before = stands.cleared flow in
        let place = before.0 in
        let low : place ≤ length front = place-within flow place front before.1 in (
          place,
          still flow place front batch is before.1,
          enters.cleared flow
              ∙ (cond-false (clears (entry_of batch.entries flow)) (flow_number_of slots flow) (flow_number_of old.cleared flow) is
              ∙ (before.2 ∙ ap (λ ss. slots_of flow ss) (sym (front-take place low)))),
        )
      where
        front-take : (place : ℕ) → place ≤ length front → take (place * b) (schedule b (front ++ batch ∷ [])) ≡ take (place * b) (schedule b front)
        front-take place low =
            let more = (fronts b front (batch ∷ [])).0 in
            let long : length (schedule b front) ≡ length front * b = counts b 0 [] front in
            ap (λ ss. take (place * b) ss) more ∙ take-append-le (place * b) (schedule b front) _ (omega (arith, long, mul-low place (length front) low))
          where
            mul-low : (m n : ℕ) → m ≤ n → m * b ≤ n * b
            mul-low m n le = mul-le-mul_right b le

pub no-slots : (flow : Flow) (n : ℕ) → slots_of flow (take n []) ≡ 0
no-slots flow zero = refl
no-slots flow (suc n) = refl
