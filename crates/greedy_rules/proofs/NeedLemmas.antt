-- What a batch and its slots do to one flow: whether it is listed, and how many slots it still needs.
use Rattle.std.proofs.Common.{◌≡◌, ◌<◌, ◌+◌, ◌-◌, ℕ, zero, suc, List, [], ◌∷◌, ◌++◌, map, filter, Bool, true, false, not, ◌&&◌, ◌||◌, nat_lt, cond, Option, Some, None, All, IsTrue, refl, sym, ap, ◌∙◌, arith, inl, inr}
use Rattle.std.specs.Option.{is_some}
use Rattle.std.proofs.lemmas.Bool.{cond-true, cond-false, cond_both, cases_Bool, and_parts, or_left, or_cases, ltb-true, both_ways}
use Rattle.std.proofs.lemmas.List.Folds.{list_any-append}
use Rattle.std.proofs.lemmas.List.Sums.{sum_by-cons}
use Rattle.std.proofs.lemmas.List.Elements.{All-head, All-tail}
use Rattle.greedy_rules.specs.declared.flows.Flow.{Flow}
use Rattle.greedy_rules.specs.declared.flows.Item.{Item}
use Rattle.greedy_rules.specs.declared.flows.Entry.{Entry}
use Rattle.greedy_rules.specs.Flows.{same_flow, flow_below}
use Rattle.greedy_rules.specs.Batches.{IsBatch, entry_of}
use Rattle.list_facts.specs.Order.{insert_by, sort_by}
use Rattle.greedy_rules.specs.Slot.{Bar, has_flow, slot_with, offered, chosen_after, greedy_slot}
use Rattle.greedy_rules.specs.Limits.{is_barred}
use Rattle.greedy_rules.specs.Demands.{Key, last_served, HasEachFlowOnce, AreBelow, OpensNewFlows, item_of, need_in, is_listed, need_with, with_batch, opened, after_batch_by, after_batch}
use Rattle.greedy_rules.specs.Allocation.{served, after_slot, batch_slots, list_through, list_after_slots_by, slots_of, list_after_slots}
use Rattle.greedy_rules.specs.Balance.{EveryBatchBalancesBy, EveryBatchBalances}
use Rattle.greedy_rules.proofs.FlowOrder.{same_flow-true, same_flow-refl, flow_below-not_same}
use Rattle.list_facts.proofs.Pairs.{AllPairs-tail, AllPairs-head}
use Rattle.greedy_rules.proofs.SlotLemmas.{any-slot_with, or_swap}
use Rattle.greedy_rules.proofs.OnceLemmas.{once-after_batch_by, below-after_batch_by, once-after_slot, once-sort_by, flows-after_slots_by, served_flow, Other}
use Rattle.greedy_rules.proofs.BatchLemmas.{Below}
use Rattle.greedy_rules.proofs.CellLemmas.{differs as not_same}

-- the need of a flow over a whole list
abbrev pub needed : Flow → List Item → ℕ
needed flow [] = 0
needed flow (item ∷ list) = cond (same_flow item.flow flow) item.need 0 + needed flow list

needed-hit : (flow : Flow) (item : Item) (list : List Item) → same_flow item.flow flow ≡ true → needed flow (item ∷ list) ≡ item.need + needed flow list
needed-hit flow item list same = ap (λ (n : ℕ). n + needed flow list) (cond-true (same_flow item.flow flow) item.need 0 same)

needed-miss : (flow : Flow) (item : Item) (list : List Item) → same_flow item.flow flow ≡ false → needed flow (item ∷ list) ≡ needed flow list
needed-miss flow item list other = ap (λ (n : ℕ). n + needed flow list) (cond-false (same_flow item.flow flow) item.need 0 other) ∙ omega arith

-- the items after one of a flow are of other flows
others_unlisted : (item : Item) (list : List Item) (flow : Flow) → same_flow item.flow flow ≡ true → All (Other item) list → (needed flow list ≡ 0) × (is_listed list flow ≡ false)
others_unlisted item [] flow same others = (refl, refl)
others_unlisted item (x ∷ xs) flow same others =
    let is : item.flow ≡ flow = same_flow-true item.flow flow same in
    let other : same_flow x.flow flow ≡ false = not_same x.flow flow (λ e. All-head (Other item) x xs others (is ∙ sym e)) in
    let rest = others_unlisted item xs flow same (All-tail (Other item) x xs others) in
    (needed-miss flow x xs other ∙ rest.0, ap (λ b. b || is_listed xs flow) other ∙ rest.1)

-- where each flow stands once, its item tells its need
need_in-item_of : (list : List Item) (flow : Flow) → HasEachFlowOnce list → need_in (item_of list flow) ≡ needed flow list
need_in-item_of [] flow once = refl
need_in-item_of (item ∷ list) flow once =
    elim (cases_Bool (same_flow item.flow flow)) [
      | inl same ↦
          let rest = others_unlisted item list flow same (AllPairs-head Other item list once) in
          ap need_in (cond-true (same_flow item.flow flow) (Some item) (item_of list flow) same) ∙ (omega (arith, rest.0) ∙ sym (needed-hit flow item list same))
      | inr other ↦
          ap need_in (cond-false (same_flow item.flow flow) (Some item) (item_of list flow) other)
          ∙ (need_in-item_of list flow (AllPairs-tail Other item list once) ∙ sym (needed-miss flow item list other))
    ]

-- the order of the list is no matter
needed-insert_by : (number : Item → ℕ) (flow : Flow) (x : Item) (xs : List Item) → needed flow (insert_by number x xs) ≡ needed flow (x ∷ xs)
needed-insert_by number flow x [] = refl
needed-insert_by number flow x (y ∷ ys) =
    cond_both (nat_lt (number y) (number x)) (y ∷ insert_by number x ys) (x ∷ (y ∷ ys)) (λ zs. needed flow zs ≡ needed flow (x ∷ (y ∷ ys)))
    (λ _. omega (arith, needed-insert_by number flow x ys)) (λ _. refl)

needed-sort_by : (number : Item → ℕ) (flow : Flow) (xs : List Item) → needed flow (sort_by number xs) ≡ needed flow xs
needed-sort_by number flow [] = refl
needed-sort_by number flow (x ∷ xs) = needed-insert_by number flow x (sort_by number xs) ∙ omega (arith, needed-sort_by number flow xs)

needed-append : (flow : Flow) (xs ys : List Item) → needed flow (xs ++ ys) ≡ needed flow xs + needed flow ys
needed-append flow [] ys = omega arith
needed-append flow (x ∷ xs) ys = omega (arith, needed-append flow xs ys)

listed-insert_by : (number : Item → ℕ) (flow : Flow) (x : Item) (xs : List Item) → is_listed (insert_by number x xs) flow ≡ is_listed (x ∷ xs) flow
listed-insert_by number flow x [] = refl
listed-insert_by number flow x (y ∷ ys) =
    cond_both (nat_lt (number y) (number x)) (y ∷ insert_by number x ys) (x ∷ (y ∷ ys)) (λ zs. is_listed zs flow ≡ is_listed (x ∷ (y ∷ ys)) flow)
    (λ _. ap (λ b. same_flow y.flow flow || b) (listed-insert_by number flow x ys) ∙ or_swap (same_flow y.flow flow) (same_flow x.flow flow) (is_listed ys flow)) (λ _. refl)

listed-sort_by : (number : Item → ℕ) (flow : Flow) (xs : List Item) → is_listed (sort_by number xs) flow ≡ is_listed xs flow
listed-sort_by number flow [] = refl
listed-sort_by number flow (x ∷ xs) =
    listed-insert_by number flow x (sort_by number xs) ∙ ap (λ b. same_flow x.flow flow || b) (listed-sort_by number flow xs)

listed-map : (f : Item → Item) → ((x : Item) → (f x).flow ≡ x.flow) → (flow : Flow) (xs : List Item) → is_listed (map f xs) flow ≡ is_listed xs flow
listed-map f keeps flow [] = refl
listed-map f keeps flow (x ∷ xs) =
    ap (λ (g : Flow). same_flow g flow || is_listed (map f xs) flow) (keeps x) ∙ ap (λ b. same_flow x.flow flow || b) (listed-map f keeps flow xs)

-- an entry of a flow among a batch's entries, and none among those after it
no_entry : (entry : Entry) (batch : List Entry) (flow : Flow) → same_flow entry.flow flow ≡ true → All (λ e. IsTrue (flow_below entry.flow e.flow)) batch
    → entry_of batch flow ≡ None
no_entry entry [] flow same below = refl
no_entry entry (e ∷ batch) flow same below =
    let is : entry.flow ≡ flow = same_flow-true entry.flow flow same in
    let differs : same_flow entry.flow e.flow ≡ false = flow_below-not_same entry.flow e.flow (All-head (λ x. IsTrue (flow_below entry.flow x.flow)) e batch below) in
    let other : same_flow e.flow flow ≡ false =
    not_same e.flow flow (λ hit. let both : same_flow entry.flow e.flow ≡ true = ap (λ (f : Flow). same_flow entry.flow f) (hit ∙ sym is) ∙ same_flow-refl entry.flow in cc) in
    cond-false (same_flow e.flow flow) (Some e) (entry_of batch flow) other
    ∙ no_entry entry batch flow same (All-tail (λ x. IsTrue (flow_below entry.flow x.flow)) e batch below)

-- what the entry of a flow opens, if there is one
abbrev opening_need : Option Entry → ℕ
opening_need None = 0
opening_need (Some entry) = cond entry.opens entry.add 0

abbrev opening : Option Entry → Bool
opening None = false
opening (Some entry) = entry.opens

abbrev pub opening_item : Entry → Item
opening_item entry = record { flow = entry.flow; need = entry.add; last = 0 }

opened-yes : (entry : Entry) (batch : List Entry) → entry.opens ≡ true → opened (entry ∷ batch) ≡ opening_item entry ∷ opened batch
opened-yes entry batch opens = ap (map opening_item) (cond-true entry.opens (entry ∷ filter (λ e. e.opens) batch) (filter (λ e. e.opens) batch) opens)

opened-no : (entry : Entry) (batch : List Entry) → entry.opens ≡ false → opened (entry ∷ batch) ≡ opened batch
opened-no entry batch stays = ap (map opening_item) (cond-false entry.opens (entry ∷ filter (λ e. e.opens) batch) (filter (λ e. e.opens) batch) stays)

opened_of : (batch : List Entry) (flow : Flow) → IsBatch batch → (needed flow (opened batch) ≡ opening_need (entry_of batch flow)) × (is_listed (opened batch) flow ≡ opening (entry_of batch flow))
opened_of [] flow rising = (refl, refl)
opened_of (entry ∷ batch) flow rising =
    let rest = opened_of batch flow (AllPairs-tail Below entry batch rising) in
    elim (cases_Bool (same_flow entry.flow flow)) [
      | inl same ↦
          let none : entry_of batch flow ≡ None = no_entry entry batch flow same (AllPairs-head Below entry batch rising) in
          let here : entry_of (entry ∷ batch) flow ≡ Some entry = cond-true (same_flow entry.flow flow) (Some entry) (entry_of batch flow) same in
          elim (cases_Bool entry.opens) [
            | inl opens ↦ (
              ap (needed flow) (opened-yes entry batch opens)
                  ∙ (needed-hit flow (opening_item entry) (opened batch) same
                  ∙ (omega (arith, rest.0, ap opening_need none)
                  ∙ (sym (cond-true entry.opens entry.add 0 opens) ∙ sym (ap opening_need here)))),
              ap (λ (xs : List Item). is_listed xs flow) (opened-yes entry batch opens)
                  ∙ (or_left (same_flow entry.flow flow) (is_listed (opened batch) flow) same ∙ (sym opens ∙ sym (ap opening here))),
            )
            | inr stays ↦ (
              ap (needed flow) (opened-no entry batch stays)
                  ∙ (rest.0 ∙ (ap opening_need none ∙ (sym (cond-false entry.opens entry.add 0 stays) ∙ sym (ap opening_need here)))),
              ap (λ (xs : List Item). is_listed xs flow) (opened-no entry batch stays)
                  ∙ (rest.1 ∙ (ap opening none ∙ (sym stays ∙ sym (ap opening here)))),
            )
          ]
      | inr other ↦
          let past : entry_of (entry ∷ batch) flow ≡ entry_of batch flow = cond-false (same_flow entry.flow flow) (Some entry) (entry_of batch flow) other in
          elim (cases_Bool entry.opens) [
            | inl opens ↦ (
              ap (needed flow) (opened-yes entry batch opens) ∙ (needed-miss flow (opening_item entry) (opened batch) other ∙ (rest.0 ∙ sym (ap opening_need past))),
              ap (λ (xs : List Item). is_listed xs flow) (opened-yes entry batch opens)
                  ∙ (ap (λ b. b || is_listed (opened batch) flow) other ∙ (rest.1 ∙ sym (ap opening past))),
            )
            | inr stays ↦ (
              ap (needed flow) (opened-no entry batch stays) ∙ (rest.0 ∙ sym (ap opening_need past)),
              ap (λ (xs : List Item). is_listed xs flow) (opened-no entry batch stays) ∙ (rest.1 ∙ sym (ap opening past)),
            )
          ]
    ]

-- a listed flow's need with its entry applied, and none where it is not listed
needed-with_batch : (batch : List Entry) (list : List Item) (flow : Flow) → HasEachFlowOnce list
    → needed flow (map (with_batch batch) list) ≡ cond (is_listed list flow) (need_with (entry_of batch flow) (needed flow list)) 0
needed-with_batch batch [] flow once = refl
needed-with_batch batch (item ∷ list) flow once =
    let rest = needed-with_batch batch list flow (AllPairs-tail Other item list once) in
    elim (cases_Bool (same_flow item.flow flow)) [
      | inl same ↦
          let is : item.flow ≡ flow = same_flow-true item.flow flow same in
          let others = others_unlisted item list flow same (AllPairs-head Other item list once) in
          let tail : needed flow (map (with_batch batch) list) ≡ 0 = rest ∙ cond-false (is_listed list flow) (need_with (entry_of batch flow) (needed flow list)) 0 others.1 in
          let whole : needed flow (item ∷ list) ≡ item.need = needed-hit flow item list same ∙ omega (arith, others.0) in
          let listed : is_listed (item ∷ list) flow ≡ true = or_left (same_flow item.flow flow) (is_listed list flow) same in
          needed-hit flow (with_batch batch item) (map (with_batch batch) list) same
          ∙ (omega (arith, tail)
          ∙ (ap (λ (f : Flow). need_with (entry_of batch f) item.need) is
          ∙ (ap (need_with (entry_of batch flow)) (sym whole)
          ∙ sym (cond-true (is_listed (item ∷ list) flow) (need_with (entry_of batch flow) (needed flow (item ∷ list))) 0 listed))))
      | inr other ↦
          needed-miss flow (with_batch batch item) (map (with_batch batch) list) other
          ∙ (rest
          ∙ (ap (λ (n : ℕ). cond (is_listed list flow) (need_with (entry_of batch flow) n) 0) (sym (needed-miss flow item list other))
          ∙ ap (λ b. cond b (need_with (entry_of batch flow) (needed flow (item ∷ list))) 0) (sym (ap (λ b. b || is_listed list flow) other))))
    ]

-- a flow that is not listed needs nothing
unlisted_need : (list : List Item) (flow : Flow) → is_listed list flow ≡ false → needed flow list ≡ 0
unlisted_need [] flow none = refl
unlisted_need (item ∷ list) flow none = grind (arith, unlisted_need list flow)

-- an entry opens exactly where its flow is not listed
opens_of_entry : (batch : List Entry) (list : List Item) (flow : Flow) (entry : Entry) → OpensNewFlows batch list → entry_of batch flow ≡ Some entry → entry.opens ≡ not (is_listed list flow)
opens_of_entry [] list flow entry opens found = absurd (cc)
opens_of_entry (e ∷ batch) list flow entry opens found =
    elim (cases_Bool (same_flow e.flow flow)) [
      | inl same ↦
          let here : Some e ≡ Some entry = sym (cond-true (same_flow e.flow flow) (Some e) (entry_of batch flow) same) ∙ found in
          let is : e ≡ entry = cc in
          ap (λ (x : Entry). x.opens) (sym is)
          ∙ (All-head (λ x. x.opens ≡ not (is_listed list x.flow)) e batch opens ∙ ap (λ (f : Flow). not (is_listed list f)) (same_flow-true e.flow flow same))
      | inr other ↦
          opens_of_entry batch list flow entry (All-tail (λ x. x.opens ≡ not (is_listed list x.flow)) e batch opens)
          (sym (cond-false (same_flow e.flow flow) (Some e) (entry_of batch flow) other) ∙ found)
    ]

-- the two parts of an applied batch together
both_parts : (batch : List Entry) (list : List Item) (flow : Flow) (o : Option Entry) → entry_of batch flow ≡ o → OpensNewFlows batch list
    → cond (is_listed list flow) (need_with o (needed flow list)) 0 + opening_need o ≡ need_with o (needed flow list)
both_parts batch list flow None found opens =
    elim (cases_Bool (is_listed list flow)) [
      | inl listed ↦ ap (λ (n : ℕ). n + 0) (cond-true (is_listed list flow) (needed flow list) 0 listed) ∙ omega arith
      | inr not_listed ↦ ap (λ (n : ℕ). n + 0) (cond-false (is_listed list flow) (needed flow list) 0 not_listed) ∙ omega (arith, unlisted_need list flow not_listed)
    ]
both_parts batch list flow (Some entry) found opens =
    let is : entry.opens ≡ not (is_listed list flow) = opens_of_entry batch list flow entry opens found in
    let clears : ℕ → ℕ = λ n. cond entry.clear 0 n + entry.add in
    elim (cases_Bool (is_listed list flow)) [
      | inl listed ↦
          let stays : cond entry.opens entry.add 0 ≡ 0 = cond-false entry.opens entry.add 0 (is ∙ ap not listed) in
          ap (λ (n : ℕ). n + cond entry.opens entry.add 0) (cond-true (is_listed list flow) (clears (needed flow list)) 0 listed) ∙ omega (arith, stays)
      | inr not_listed ↦
          let adds : cond entry.opens entry.add 0 ≡ entry.add = cond-true entry.opens entry.add 0 (is ∙ ap not not_listed) in
          let nothing : needed flow list ≡ 0 = unlisted_need list flow not_listed in
          let cleared : cond entry.clear 0 (needed flow list) ≡ 0 = cond_both entry.clear 0 (needed flow list) (λ n. n ≡ 0) (λ _. refl) (λ _. nothing) in
          ap (λ (n : ℕ). n + cond entry.opens entry.add 0) (cond-false (is_listed list flow) (clears (needed flow list)) 0 not_listed) ∙ omega (arith, adds, cleared)
    ]

needed-after_batch_by : (key : Key) (batch : List Entry) (list : List Item) (flow : Flow) → IsBatch batch → OpensNewFlows batch list → HasEachFlowOnce list
    → needed flow (after_batch_by key batch list) ≡ need_with (entry_of batch flow) (needed flow list)
needed-after_batch_by key batch list flow rising opens once =
    needed-sort_by (λ item. key item.need item.last) flow (map (with_batch batch) list ++ opened batch)
    ∙ (needed-append flow (map (with_batch batch) list) (opened batch)
    ∙ (omega (arith, needed-with_batch batch list flow once, (opened_of batch flow rising).0)
    ∙ both_parts batch list flow (entry_of batch flow) refl opens))

listed_part : (batch : List Entry) (list : List Item) (flow : Flow) (o : Option Entry) → entry_of batch flow ≡ o → OpensNewFlows batch list
    → (is_listed list flow || opening o) ≡ (is_listed list flow || is_some o)
listed_part batch list flow None found opens = refl
listed_part batch list flow (Some entry) found opens =
    let is : entry.opens ≡ not (is_listed list flow) = opens_of_entry batch list flow entry opens found in
    ap (λ b. is_listed list flow || b) is ∙ elim (is_listed list flow) as (λ b. (b || not b) ≡ (b || true)) [ true ↦ refl | false ↦ refl ]

pub listed-after_batch_by : (key : Key) (batch : List Entry) (list : List Item) (flow : Flow) → IsBatch batch → OpensNewFlows batch list
    → is_listed (after_batch_by key batch list) flow ≡ (is_listed list flow || is_some (entry_of batch flow))
listed-after_batch_by key batch list flow rising opens =
    listed-sort_by (λ item. key item.need item.last) flow (map (with_batch batch) list ++ opened batch)
    ∙ (list_any-append (λ item. same_flow item.flow flow) (map (with_batch batch) list) (opened batch)
    ∙ (ap (λ b. b || is_listed (opened batch) flow) (listed-map (with_batch batch) (λ x. refl) flow list)
    ∙ (ap (λ b. is_listed list flow || b) (opened_of batch flow rising).1
    ∙ listed_part batch list flow (entry_of batch flow) refl opens)))

-- a flow that the walk chooses has a need
chosen_needs : (bar : Bar) (slot : List Flow) (list : List Item) (flow : Flow) → has_flow slot flow ≡ false → has_flow (chosen_after bar slot list) flow ≡ true → 0 < needed flow list
chosen_needs bar slot [] flow out chosen = absurd (both_ways (has_flow slot flow) out chosen)
chosen_needs bar slot (item ∷ list) flow out chosen =
    let fits : Bool = nat_lt 0 item.need && not (bar slot item.flow) in
    elim (cases_Bool (has_flow (offered bar slot item) flow)) [
      | inl now ↦ elim (cases_Bool fits) [
        | inl ready ↦
            let added : (same_flow item.flow flow || has_flow slot flow) ≡ true =
            sym (any-slot_with (λ f. same_flow f flow) item.flow slot) ∙ (ap (λ (s : List Flow). has_flow s flow) (sym (cond-true fits (slot_with item.flow slot) slot ready)) ∙ now) in
            let needs : 0 < item.need = ltb-true 0 item.need (and_parts (nat_lt 0 item.need) (not (bar slot item.flow)) ready).0 in
            elim (or_cases (same_flow item.flow flow) (has_flow slot flow) added) [
              | inl same ↦ omega (arith, needed-hit flow item list same)
              | inr before ↦ absurd (both_ways (has_flow slot flow) out before)
            ]
        | inr unready ↦ absurd (both_ways (has_flow slot flow) out (ap (λ (s : List Flow). has_flow s flow) (sym (cond-false fits (slot_with item.flow slot) slot unready)) ∙ now))
      ]
      | inr later ↦ omega (arith, chosen_needs bar (offered bar slot item) list flow later chosen)
    ]

-- one slot takes one from the need of each of its flows
needed-served : (number : ℕ) (slot : List Flow) (list : List Item) (flow : Flow) → HasEachFlowOnce list → (has_flow slot flow ≡ true → 0 < needed flow list)
    → needed flow (map (served number slot) list) + cond (has_flow slot flow) 1 0 ≡ needed flow list
needed-served number slot [] flow once needs =
    elim (cases_Bool (has_flow slot flow)) [
      | inl in_slot ↦ let some : 0 < 0 = needs in_slot in absurd (omega arith)
      | inr out ↦ omega (arith, cond-false {A = ℕ} (has_flow slot flow) 1 0 out)
    ]
needed-served number slot (item ∷ list) flow once needs =
    let after : Item = served number slot item in
    let keeps : after.flow ≡ item.flow = served_flow number slot item in
    elim (cases_Bool (same_flow item.flow flow)) [
      | inl same ↦
          let is : item.flow ≡ flow = same_flow-true item.flow flow same in
          let others = others_unlisted item list flow same (AllPairs-head Other item list once) in
          let later : is_listed (map (served number slot) list) flow ≡ false = listed-map (served number slot) (served_flow number slot) flow list ∙ others.1 in
          let tail : needed flow (map (served number slot) list) ≡ 0 = unlisted_need (map (served number slot) list) flow later in
          let still : same_flow after.flow flow ≡ true = ap (λ (f : Flow). same_flow f flow) keeps ∙ same in
          elim (cases_Bool (has_flow slot flow)) [
            | inl in_slot ↦
                let here : has_flow slot item.flow ≡ true = ap (has_flow slot) is ∙ in_slot in
                let less : after.need ≡ item.need - 1 = ap (λ (x : Item). x.need) (cond-true (has_flow slot item.flow) (record item { need = item.need - 1; last = number }) item here) in
                omega (arith, needs in_slot, less, tail, others.0, needed-hit flow item list same, needed-hit flow after (map (served number slot) list) still, cond-true {A = ℕ} (has_flow slot flow) 1 0 in_slot)
            | inr out ↦
                let here : has_flow slot item.flow ≡ false = ap (has_flow slot) is ∙ out in
                let same_need : after.need ≡ item.need = ap (λ (x : Item). x.need) (cond-false (has_flow slot item.flow) (record item { need = item.need - 1; last = number }) item here) in
                omega (arith, same_need, tail, others.0, needed-hit flow item list same, needed-hit flow after (map (served number slot) list) still, cond-false {A = ℕ} (has_flow slot flow) 1 0 out)
          ]
      | inr other ↦
          let still : same_flow after.flow flow ≡ false = ap (λ (f : Flow). same_flow f flow) keeps ∙ other in
          let past : needed flow (item ∷ list) ≡ needed flow list = needed-miss flow item list other in
          let needs' : has_flow slot flow ≡ true → 0 < needed flow list = λ in_slot. let n : 0 < needed flow (item ∷ list) = needs in_slot in omega (arith, n, past) in
          omega (arith, needed-served number slot list flow (AllPairs-tail Other item list once) needs', past, needed-miss flow after (map (served number slot) list) still)
    ]

-- what the slots of a batch take of a flow's need
needed-through : (bar : Bar) (number count : ℕ) (list : List Item) (flow : Flow) → HasEachFlowOnce list
    → needed flow (list_through bar number count list) + slots_of flow (batch_slots bar number count list) ≡ needed flow list
needed-through bar number zero list flow once = omega arith
needed-through bar number (suc count) list flow once =
    let slot : List Flow = greedy_slot bar list in
    let later : List Item = after_slot bar number list in
    let rest = needed-through bar (number + 1) count later flow (once-after_slot bar number list once) in
    let taken = needed-served number slot list flow once (chosen_needs bar [] list flow refl) in
    let first = sum_by-cons (λ (s : List Flow). cond (has_flow s flow) 1 0) slot (batch_slots bar (number + 1) count later) in
    omega (arith, rest, taken, first)

listed-through : (bar : Bar) (number count : ℕ) (list : List Item) (flow : Flow) → is_listed (list_through bar number count list) flow ≡ is_listed list flow
listed-through bar number zero list flow = refl
listed-through bar number (suc count) list flow =
    listed-through bar (number + 1) count (after_slot bar number list) flow
    ∙ listed-map (served number (greedy_slot bar list)) (served_flow number (greedy_slot bar list)) flow list

once-through : (bar : Bar) (number count : ℕ) (list : List Item) → HasEachFlowOnce list → HasEachFlowOnce (list_through bar number count list)
once-through bar number zero list once = once
once-through bar number (suc count) list once = once-through bar (number + 1) count (after_slot bar number list) (once-after_slot bar number list once)

-- what a whole batch does

pub once-after_slots_by : (key : Key) (bar : Bar) (number count : ℕ) (list : List Item) → HasEachFlowOnce list → HasEachFlowOnce (list_after_slots_by key bar number count list)
once-after_slots_by key bar number count list once = once-sort_by (λ item. key item.need item.last) (list_through bar number count list) (once-through bar number count list once)

pub below-after_slots_by : (key : Key) (bar : Bar) (endpoints number count : ℕ) (list : List Item) → AreBelow endpoints list → AreBelow endpoints (list_after_slots_by key bar number count list)
below-after_slots_by key bar endpoints number count list below = flows-after_slots_by key (λ flow. (flow.src < endpoints) × (flow.dst < endpoints)) bar number count list below

pub listed-after_slots_by : (key : Key) (bar : Bar) (number count : ℕ) (list : List Item) (flow : Flow) → is_listed (list_after_slots_by key bar number count list) flow ≡ is_listed list flow
listed-after_slots_by key bar number count list flow = listed-sort_by (λ item. key item.need item.last) flow (list_through bar number count list) ∙ listed-through bar number count list flow

pub balance_by : (key : Key) (bar : Bar) (number count : ℕ) (batch : List Entry) (list : List Item) (flow : Flow) → IsBatch batch → OpensNewFlows batch list → HasEachFlowOnce list
    → need_in (item_of (list_after_slots_by key bar number count (after_batch_by key batch list)) flow) + slots_of flow (batch_slots bar number count (after_batch_by key batch list))
    ≡ need_with (entry_of batch flow) (need_in (item_of list flow))
balance_by key bar number count batch list flow rising opens once =
    let applied : List Item = after_batch_by key batch list in
    let once' : HasEachFlowOnce applied = once-after_batch_by key batch list rising opens once in
    let left = need_in-item_of (list_after_slots_by key bar number count applied) flow (once-after_slots_by key bar number count applied once') in
    omega (arith, left, needed-sort_by (λ item. key item.need item.last) flow (list_through bar number count applied), needed-through bar number count applied flow once')
    ∙ (needed-after_batch_by key batch list flow rising opens once ∙ ap (need_with (entry_of batch flow)) (sym (need_in-item_of list flow once)))

-- what the batch leaves
pub every_batch_by : (key : Key) → EveryBatchBalancesBy key
every_batch_by key limits endpoints number count entries list rising opens once below =
    let bar : Bar = is_barred limits in
    let applied : List Item = after_batch_by key entries list in
    record {
      once = once-after_slots_by key bar number count applied (once-after_batch_by key entries list rising opens once);
      in_range = below-after_slots_by key bar endpoints number count applied (below-after_batch_by key endpoints entries list below);
      listed = λ flow. listed-after_slots_by key bar number count applied flow ∙ listed-after_batch_by key entries list flow rising opens;
      balance = λ flow. balance_by key bar number count entries list flow rising opens once;
    }

-- ---- by the slot in which a flow was last served

pub listed-after_batch : (batch : List Entry) (list : List Item) (flow : Flow) → IsBatch batch → OpensNewFlows batch list
    → is_listed (after_batch batch list) flow ≡ (is_listed list flow || is_some (entry_of batch flow))
listed-after_batch = listed-after_batch_by last_served

pub once-after_slots : (bar : Bar) (number count : ℕ) (list : List Item) → HasEachFlowOnce list → HasEachFlowOnce (list_after_slots bar number count list)
once-after_slots = once-after_slots_by last_served

pub below-after_slots : (bar : Bar) (endpoints number count : ℕ) (list : List Item) → AreBelow endpoints list → AreBelow endpoints (list_after_slots bar number count list)
below-after_slots = below-after_slots_by last_served

pub listed-after_slots : (bar : Bar) (number count : ℕ) (list : List Item) (flow : Flow) → is_listed (list_after_slots bar number count list) flow ≡ is_listed list flow
listed-after_slots = listed-after_slots_by last_served

pub balance : (bar : Bar) (number count : ℕ) (batch : List Entry) (list : List Item) (flow : Flow) → IsBatch batch → OpensNewFlows batch list → HasEachFlowOnce list
    → need_in (item_of (list_after_slots bar number count (after_batch batch list)) flow) + slots_of flow (batch_slots bar number count (after_batch batch list))
    ≡ need_with (entry_of batch flow) (need_in (item_of list flow))
balance = balance_by last_served

pub every_batch : EveryBatchBalances
every_batch = every_batch_by last_served
