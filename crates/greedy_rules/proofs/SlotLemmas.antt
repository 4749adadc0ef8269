-- The greedy choice of a slot: what each flow that is let in keeps true, and who is barred at its end.
use Rattle.std.proofs.Common.{◌≡◌, ◌≢◌, ◌<◌, ◌+◌, ℕ, List, [], ◌∷◌, Bool, true, false, not, ◌==◌, ◌&&◌, ◌||◌, nat_lt, cond, Option, Some, All, refl, sym, ap, ◌∙◌, subst, arith, inl, inr}
use Rattle.std.specs.List.{list_any, count_by}
use Rattle.std.proofs.lemmas.Bool.{cond-true, cond-false, cases_Bool, or_left, or_parts, and_parts, and_from, cond_both, lt-ltb, not_from_false, eqb-false, eq-eqb, not-true}
use Rattle.std.proofs.lemmas.List.Elements.{All-cons, All-head, All-tail, All-weaker}
use Rattle.std.proofs.lemmas.List.Sums.{sum_by-cons}
use Rattle.greedy_rules.specs.declared.flows.Flow.{Flow}
use Rattle.greedy_rules.specs.declared.flows.Item.{Item}
use Rattle.greedy_rules.specs.Flows.{same_flow}
use Rattle.greedy_rules.specs.Demands.{item_of, need_in}
use Rattle.greedy_rules.specs.Slot.{Bar, is_taken, slot_with, offered, chosen_after, BarsTheTaken, BarsForGood}
use Rattle.greedy_rules.specs.Matching.{IsMatching}
use Rattle.greedy_rules.proofs.FlowOrder.{same_flow-true}
use Rattle.greedy_rules.proofs.OnceLemmas.{FlowsAre}
use Rattle.list_facts.proofs.Pairs.{AllPairs-nil, AllPairs-cons, AllPairs-head, AllPairs-tail}

pub or_swap : (a b c : Bool) → (a || (b || c)) ≡ (b || (a || c))
or_swap true true c = refl
or_swap true false c = refl
or_swap false b c = refl

pub any-slot_with : (p : Flow → Bool) (flow : Flow) (slot : List Flow) → list_any p (slot_with flow slot) ≡ (p flow || list_any p slot)
any-slot_with p flow [] = refl
any-slot_with p flow (next ∷ slot) =
    elim (nat_lt next.src flow.src) as (λ b. list_any p (cond b (next ∷ slot_with flow slot) (flow ∷ (next ∷ slot))) ≡ (p flow || (p next || list_any p slot))) [
      | true ↦ ap (λ b. p next || b) (any-slot_with p flow slot) ∙ or_swap (p next) (p flow) (list_any p slot)
      | false ↦ refl
    ]

abbrev pub Apart : Flow → Flow → Type 0
Apart f g = (f.src ≢ g.src) × (f.dst ≢ g.dst)

pub apart_from_all : (slot : List Flow) (flow : Flow) → is_taken slot flow ≡ false → All (λ g. Apart g flow) slot
apart_from_all [] flow free = λ k d below. absurd (omega arith)
apart_from_all (g ∷ slot) flow free =
    let parts = or_parts ((g.src == flow.src) || (g.dst == flow.dst)) (is_taken slot flow) free in
    let ends = or_parts (g.src == flow.src) (g.dst == flow.dst) parts.0 in
    All-cons (λ g. Apart g flow) g slot (eqb-false _ _ ends.0, eqb-false _ _ ends.1) (apart_from_all slot flow parts.1)

pub All-slot_with : (P : Flow → Type 0) (flow : Flow) (slot : List Flow) → P flow → All P slot → All P (slot_with flow slot)
All-slot_with P flow [] here there = All-cons P flow [] here there
All-slot_with P flow (next ∷ slot) here there =
    elim (nat_lt next.src flow.src) as (λ b. All P (cond b (next ∷ slot_with flow slot) (flow ∷ (next ∷ slot)))) [
      | true ↦ All-cons P next (slot_with flow slot) (All-head P next slot there) (All-slot_with P flow slot here (All-tail P next slot there))
      | false ↦ All-cons P flow (next ∷ slot) here there
    ]

pub IsMatching-slot_with : (flow : Flow) (slot : List Flow) → All (λ g. Apart g flow) slot → IsMatching slot → IsMatching (slot_with flow slot)
IsMatching-slot_with flow [] free pairs = AllPairs-cons Apart flow [] (λ k d below. absurd (omega arith)) (AllPairs-nil Apart)
IsMatching-slot_with flow (next ∷ slot) free pairs =
    elim (nat_lt next.src flow.src) as (λ b. IsMatching (cond b (next ∷ slot_with flow slot) (flow ∷ (next ∷ slot)))) [
      | true ↦ AllPairs-cons Apart next (slot_with flow slot)
          (All-slot_with (Apart next) flow slot (All-head (λ g. Apart g flow) next slot free) (AllPairs-head Apart next slot pairs))
          (IsMatching-slot_with flow slot (All-tail (λ g. Apart g flow) next slot free) (AllPairs-tail Apart next slot pairs))
      | false ↦ AllPairs-cons Apart flow (next ∷ slot)
          (All-weaker (λ g. Apart g flow) (Apart flow) (λ g apart. ((λ e. apart.0 (sym e)), (λ e. apart.1 (sym e)))) (next ∷ slot) free) pairs
    ]

-- a flow more counts where it passes the test
pub count-slot_with : (p : Flow → Bool) (flow : Flow) (slot : List Flow) → count_by p (slot_with flow slot) ≡ cond (p flow) 1 0 + count_by p slot
count-slot_with p flow [] = sum_by-cons (λ (f : Flow). cond (p f) 1 0) flow []
count-slot_with p flow (next ∷ slot) =
    let one : Flow → ℕ = λ f. cond (p f) 1 0 in
    elim (nat_lt next.src flow.src) as (λ b. count_by p (cond b (next ∷ slot_with flow slot) (flow ∷ (next ∷ slot))) ≡ cond (p flow) 1 0 + count_by p (next ∷ slot)) [
      | true ↦ omega (arith, sum_by-cons one next (slot_with flow slot), sum_by-cons one next slot, count-slot_with p flow slot)
      | false ↦ sum_by-cons one flow (next ∷ slot)
    ]

-- what a flow that nothing keeps out leaves true of a slot
abbrev pub Keeps : Bar → (Flow → Type 0) → (List Flow → Type 0) → Type 0
Keeps bar Q P = (slot : List Flow) (flow : Flow) → Q flow → bar slot flow ≡ false → P slot → P (slot_with flow slot)

pub holds-chosen_after : (bar : Bar) (Q : Flow → Type 0) (P : List Flow → Type 0) → Keeps bar Q P → (slot : List Flow) (list : List Item) → FlowsAre Q list → P slot → P (chosen_after bar slot list)
holds-chosen_after bar Q P keeps slot [] are holds = holds
holds-chosen_after bar Q P keeps slot (item ∷ list) are holds =
    holds-chosen_after bar Q P keeps (offered bar slot item) list (All-tail (λ (x : Item). Q x.flow) item list are)
    (cond_both (nat_lt 0 item.need && not (bar slot item.flow)) (slot_with item.flow slot) slot P
    (λ fits. keeps slot item.flow (All-head (λ (x : Item). Q x.flow) item list are) (not-true (bar slot item.flow) (and_parts (nat_lt 0 item.need) (not (bar slot item.flow)) fits).1) holds)
    (λ passed. holds))

-- who is barred stays so to the end of the walk
barred-offered : (bar : Bar) → BarsForGood bar → (slot : List Flow) (item : Item) (flow : Flow) → bar slot flow ≡ true → bar (offered bar slot item) flow ≡ true
barred-offered bar stays slot item flow barred =
    cond_both (nat_lt 0 item.need && not (bar slot item.flow)) (slot_with item.flow slot) slot (λ s. bar s flow ≡ true) (λ _. stays slot flow item.flow barred) (λ _. barred)

barred-to_the_end : (bar : Bar) → BarsForGood bar → (slot : List Flow) (list : List Item) (flow : Flow) → bar slot flow ≡ true → bar (chosen_after bar slot list) flow ≡ true
barred-to_the_end bar stays slot [] flow barred = barred
barred-to_the_end bar stays slot (item ∷ list) flow barred = barred-to_the_end bar stays (offered bar slot item) list flow (barred-offered bar stays slot item flow barred)

-- an item with a need has its flow barred once it had its turn, by itself or by others
barred-turn : (bar : Bar) → BarsTheTaken bar → BarsForGood bar → (slot : List Flow) (item : Item) → 0 < item.need → bar (offered bar slot item) item.flow ≡ true
barred-turn bar taken stays slot item needs =
    let touches : Flow → Bool = λ chosen. (chosen.src == item.flow.src) || (chosen.dst == item.flow.dst) in
    elim (cases_Bool (bar slot item.flow)) [
      | inl barred ↦ barred-offered bar stays slot item item.flow barred
      | inr free ↦
          let fits : (nat_lt 0 item.need && not (bar slot item.flow)) ≡ true = and_from _ _ (lt-ltb 0 item.need needs) (not_from_false _ free) in
          ap (λ (s : List Flow). bar s item.flow) (cond-true (nat_lt 0 item.need && not (bar slot item.flow)) (slot_with item.flow slot) slot fits)
          ∙ taken (slot_with item.flow slot) item.flow (any-slot_with touches item.flow slot ∙ or_left _ _ (or_left _ _ (eq-eqb item.flow.src item.flow.src refl)))
    ]

pub barred-chosen_after : (bar : Bar) → BarsTheTaken bar → BarsForGood bar → (slot : List Flow) (list : List Item) (flow : Flow) → 0 < need_in (item_of list flow) → bar (chosen_after bar slot list) flow ≡ true
barred-chosen_after bar taken stays slot [] flow needs = absurd (omega arith)
barred-chosen_after bar taken stays slot (item ∷ list) flow needs =
    let P : Option Item → Type 0 = λ o. 0 < need_in o in
    elim (cases_Bool (same_flow item.flow flow)) [
      | inl same ↦
          let here : 0 < item.need = subst P (cond-true (same_flow item.flow flow) (Some item) (item_of list flow) same) needs in
          let Q : Flow → Type 0 = λ f. bar (offered bar slot item) f ≡ true in
          barred-to_the_end bar stays (offered bar slot item) list flow (subst Q (same_flow-true item.flow flow same) (barred-turn bar taken stays slot item here))
      | inr other ↦ barred-chosen_after bar taken stays (offered bar slot item) list flow
          (subst P (cond-false (same_flow item.flow flow) (Some item) (item_of list flow) other) needs)
    ]
