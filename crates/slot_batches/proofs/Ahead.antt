-- Items that are set aside, each barred in each slot by a flow that stands before it.
use Rattle.std.proofs.Common.{◌≡◌, ◌+◌, ◌-◌, ◌⊎◌, ℕ, List, [], ◌∷◌, ◌++◌, get_or, Bool, true, false, not, ◌&&◌, ◌||◌, ◌==◌, nat_lt, All, sym, ap, ◌∙◌, subst, inl, inr, filter, arith, ◌≤◌, cond}
use Rattle.std.specs.List.{list_any}
use Rattle.std.proofs.lemmas.Bool.{cond_both, and_left, and_right, or_left, or_right, or_cases, and_parts, eq-eqb, and_from, not_from_true, false_from_ne_true, both_ways, cond-false}
use Rattle.std.proofs.lemmas.List.Elements.{All-cons, All-head, All-tail, All-append}
use Rattle.greedy_rules.specs.declared.flows.Flow.{Flow}
use Rattle.greedy_rules.specs.declared.flows.Item.{Item}
use Rattle.greedy_rules.specs.Flows.{same_flow}
use Rattle.greedy_rules.specs.Slot.{Bar, is_taken, slot_with, offered}
use Rattle.greedy_rules.specs.Demands.{is_listed}
use Rattle.greedy_rules.specs.declared.limits.Limits.{Limits}
use Rattle.greedy_rules.specs.Limits.{rack_of, is_outward, leaves, enters, leaving, entering, lacks_core, is_barred}
use Rattle.std.specs.List.{count_by}
use Rattle.std.proofs.lemmas.List.Sums.{sum_by-cons}
use Rattle.greedy_rules.specs.Walk.{turn}
use Rattle.greedy_rules.proofs.Facts.{same_flow-true}
use Rattle.greedy_rules.proofs.BarLemmas.{still_full}
use Rattle.slot_batches.specs.Feeding.{was_served}
use Rattle.slot_batches.specs.FlowByFlow.{slots_with, slots_after}
use Rattle.slot_batches.specs.Woven.{stays}
use Rattle.slot_batches.specs.Beyond.{IsKeptOut, AreKeptOut, is_in, seen_with, goes_ahead, HaveRivals}
use Rattle.slot_batches.proofs.WeaveLemmas.{IsGoneFrom, Weaves, ended, set_aside, stayed, gone, idle_is_kept_out}
use Rattle.slot_batches.proofs.Front.{kept_with, kept_without}

filter-slot_with : (q : Flow → Bool) (flow : Flow) (slot : List Flow) → q flow ≡ false → filter q (slot_with flow slot) ≡ filter q slot
filter-slot_with q flow [] other = cond-false (q flow) (flow ∷ []) [] other
filter-slot_with q flow (next ∷ slot) other =
    elim (nat_lt next.src flow.src) as (λ b. filter q (cond b (next ∷ slot_with flow slot) (flow ∷ (next ∷ slot))) ≡ filter q (next ∷ slot)) [
      | true ↦ ap (λ (xs : List Flow). cond (q next) (next ∷ xs) xs) (filter-slot_with q flow slot other)
      | false ↦ cond-false (q flow) (flow ∷ filter q (next ∷ slot)) (filter q (next ∷ slot)) other
    ]

any_of_filter : (p q : Flow → Bool) (slot : List Flow) → list_any p (filter q slot) ≡ true → list_any p slot ≡ true
any_of_filter p q [] some = some
any_of_filter p q (flow ∷ slot) some =
    cond_both (q flow) (flow ∷ filter q slot) (filter q slot) (λ xs. list_any p xs ≡ true → list_any p (flow ∷ slot) ≡ true)
    (λ _ here. elim (or_cases (p flow) (list_any p (filter q slot)) here) [
      | inl this ↦ or_left (p flow) (list_any p slot) this
      | inr later ↦ or_right (p flow) (list_any p slot) (any_of_filter p q slot later)
    ])
    (λ _ later. or_right (p flow) (list_any p slot) (any_of_filter p q slot later)) some

count_of_filter : (p q : Flow → Bool) (slot : List Flow) → count_by p (filter q slot) ≤ count_by p slot
count_of_filter p q [] = omega arith
count_of_filter p q (flow ∷ slot) =
    let rest = count_of_filter p q slot in
    let one : Flow → ℕ = λ x. cond (p x) 1 0 in
    let whole : count_by p (flow ∷ slot) ≡ one flow + count_by p slot = sum_by-cons one flow slot in
    let kept : count_by p (flow ∷ filter q slot) ≡ one flow + count_by p (filter q slot) = sum_by-cons one flow (filter q slot) in
    cond_both (q flow) (flow ∷ filter q slot) (filter q slot) (λ xs. count_by p xs ≤ count_by p (flow ∷ slot)) (λ _. omega (arith, rest, whole, kept)) (λ _. omega (arith, rest, whole))

-- what some flows of a slot bar, all of them bar
abbrev pub BarsAsItGrows : Bar → Type 0
BarsAsItGrows bar = (q : Flow → Bool) (slot : List Flow) (flow : Flow) → bar (filter q slot) flow ≡ true → bar slot flow ≡ true

pub limits_bar_as_it_grows : (limits : Limits) → BarsAsItGrows (is_barred limits)
limits_bar_as_it_grows limits q slot flow barred =
    let hosts : ℕ = limits.hosts in
    let some : List Flow = filter q slot in
    let from : ℕ = rack_of hosts flow.src in
    let into : ℕ = rack_of hosts flow.dst in
    elim (or_cases (is_taken some flow) (is_outward hosts flow && lacks_core limits some flow) barred) [
      | inl taken ↦ or_left _ _ (any_of_filter (λ chosen. (chosen.src == flow.src) || (chosen.dst == flow.dst)) q slot taken)
      | inr full ↦
          let parts = and_parts (is_outward hosts flow) (lacks_core limits some flow) full in
          let lacks : lacks_core limits slot flow ≡ true =
          elim (or_cases (not (nat_lt (leaving hosts from some) limits.cores)) (not (nat_lt (entering hosts into some) limits.cores)) parts.1) [
            | inl sends ↦ or_left _ _ (still_full (leaving hosts from some) (leaving hosts from slot) limits.cores (count_of_filter (leaves hosts from) q slot) sends)
            | inr receives ↦ or_right _ _ (still_full (entering hosts into some) (entering hosts into slot) limits.cores (count_of_filter (enters hosts into) q slot) receives)
          ] in
          or_right _ _ (and_from _ _ parts.0 lacks)
    ]

-- what a slot has of some flows, it had before an item that is none of them
module _ (bar : Bar) (q : Flow → Bool) (P : List Flow → Type 0) where
  abbrev Has : List Flow → Type 0
  Has slot = P (filter q slot)

  had_before : (number : ℕ) (item : Item) (slots : List (List Flow)) → q item.flow ≡ false → All Has (slots_with bar number item slots) → All Has slots
  had_before number item [] other has = has
  had_before number item (slot ∷ slots) other has =
      let fits : Bool = nat_lt 0 item.need && not (bar slot item.flow) in
      let next : Item = turn bar number slot item in
      let here : Has slot =
      cond_both fits (slot_with item.flow slot) slot (λ s. Has s → Has slot)
      (λ _ now. subst P (filter-slot_with q item.flow slot other) now) (λ _ now. now) (All-head Has (offered bar slot item) (slots_with bar (number + 1) next slots) has) in
      let same : q next.flow ≡ false = cond_both fits (record item { need = item.need - 1; last = number }) item (λ x. q x.flow ≡ false) (λ _. other) (λ _. other) in
      All-cons Has slot slots here (had_before (number + 1) next slots same (All-tail Has (offered bar slot item) (slots_with bar (number + 1) next slots) has))

  had_before_all : (number : ℕ) (list : List Item) (slots : List (List Flow)) → All (λ x. q x.flow ≡ false) list → All Has (slots_after bar number list slots) → All Has slots
  had_before_all number [] slots others has = has
  had_before_all number (item ∷ list) slots others has =
      let Other : Item → Type 0 = λ x. q x.flow ≡ false in
      had_before number item slots (All-head Other item list others) (had_before_all number list (slots_with bar number item slots) (All-tail Other item list others) has)

module _ (aside : Item → Bool) (whole_list : List Item) (earlier full : List (List Flow)) (stood : Flow → ℕ) where
  abbrev pub Unserved : List Item → Type 0
  Unserved list = All (λ r. was_served r ≡ false) list

  -- an item behind these: it was served in the window, or it is none of those seen, and none of these was served or it is not new
  abbrev pub IsBehind : List Item → (Flow → Bool) → Item → Type 0
  IsBehind list seen x = (is_in earlier x.flow ≡ true) ⊎ ((seen x.flow ≡ false) × (Unserved list ⊎ (is_listed whole_list x.flow ≡ true)))

  abbrev pub WasThen : Item → Type 0
  WasThen x = (x.last ≡ stood x.flow) ⊎ (is_in earlier x.flow ≡ true)

  not_rival : (item : Item) (list : List Item) (seen : Flow → Bool) (x : Item) → IsBehind (item ∷ list) seen x → goes_ahead whole_list earlier seen item x.flow ≡ false
  not_rival item list seen x behind =
      let new : Bool = was_served item && not (is_listed whole_list x.flow) in
      elim behind [
        | inl before ↦ and_left _ _ (not_from_true _ before)
        | inr fresh ↦
            let old : new ≡ false = elim fresh.1 [
              | inl none ↦ and_left _ _ (All-head (λ r. was_served r ≡ false) item list none)
              | inr listed ↦ and_right _ _ (not_from_true _ listed)
            ] in
            and_right _ _ (ap (λ t. t || new) fresh.0 ∙ old)
      ]

  later_unserved : (item : Item) (list : List Item) (x : Item) → (Unserved (item ∷ list) ⊎ (is_listed whole_list x.flow ≡ true)) → Unserved list ⊎ (is_listed whole_list x.flow ≡ true)
  later_unserved item list x is = elim is [
    | inl none ↦ inl (All-tail (λ r. was_served r ≡ false) item list none)
    | inr listed ↦ inr listed
  ]

  past_aside : (item : Item) (list : List Item) (seen : Flow → Bool) (x : Item) → aside item ≡ true → IsBehind (item ∷ list) seen x → IsBehind list (seen_with aside seen item) x
  past_aside item list seen x out behind = elim behind [
    | inl before ↦ inl before
    | inr fresh ↦ inr (ap (λ t. t || (not (aside item) && same_flow item.flow x.flow)) fresh.0 ∙ and_left _ _ (not_from_true _ out), later_unserved item list x fresh.1)
  ]

  past_other : (item : Item) (list : List Item) (seen : Flow → Bool) (x : Item) → stood item.flow ≡ item.last → stays item x ≡ false → WasThen x → IsBehind (item ∷ list) seen x
      → IsBehind list (seen_with aside seen item) x
  past_other item list seen x at away was behind = elim was [
    | inr before ↦ inl before
    | inl still ↦ elim behind [
      | inl before ↦ inl before
      | inr fresh ↦
          let differs : same_flow item.flow x.flow ≡ false =
          false_from_ne_true _ (λ same.
          let level : item.last ≡ x.last = sym at ∙ (ap stood (same_flow-true item.flow x.flow same) ∙ sym still) in
          both_ways _ away (and_from _ _ same (eq-eqb item.last x.last level))) in
          inr (ap (λ t. t || (not (aside item) && same_flow item.flow x.flow)) fresh.0 ∙ and_right _ _ differs, later_unserved item list x fresh.1)
    ]
  ]

  module _ (bar : Bar) (number : ℕ) (grows : BarsAsItGrows bar) where
    barred_out : (item : Item) (q : Flow → Bool) (slots : List (List Flow)) → All (λ slot. bar (filter q slot) item.flow ≡ true) slots → IsKeptOut bar slots item
    barred_out item q slots has k d below = and_right _ _ (not_from_true _ (grows q (get_or slots k d) item.flow (has k d below)))

    pub kept_out_by_rivals : (more list rest whole : List Item) (seen : Flow → Bool) (slots : List (List Flow)) → Weaves aside list rest whole → full ≡ slots_after bar number (rest ++ more) slots
        → HaveRivals bar aside whole_list earlier full seen list → All (λ item. stood item.flow ≡ item.last) list → All WasThen rest → All (λ x. All (λ item. stays item x ≡ false) list) more → All WasThen more
        → All (IsBehind list seen) rest → All (IsBehind list seen) more → AreKeptOut aside bar number list rest slots
    kept_out_by_rivals more _ _ _ seen slots (ended rest) is rivals at was away more_was behind more_behind = tt
    kept_out_by_rivals more _ _ _ seen slots (set_aside item list rest whole out weaves) is rivals at was away more_was behind more_behind =
        let At : Item → Type 0 = λ x. stood x.flow ≡ x.last in
        let q : Flow → Bool = goes_ahead whole_list earlier seen item in
        let Barred : List Flow → Type 0 = λ s. bar s item.flow ≡ true in
        let NotRival : Item → Type 0 = λ x. q x.flow ≡ false in
        let later_away : All (λ x. All (λ y. stays y x ≡ false) list) more = λ k d below. All-tail (λ y. stays y (get_or more k d) ≡ false) item list (away k d below) in
        let kept : IsKeptOut bar slots item = elim (rivals.0 out) [
          | inl idle ↦ idle_is_kept_out bar item slots idle
          | inr has ↦
              let others : All NotRival (rest ++ more) =
              All-append NotRival rest more (λ k d below. not_rival item list seen (get_or rest k d) (behind k d below)) (λ k d below. not_rival item list seen (get_or more k d) (more_behind k d below)) in
              barred_out item q slots
              (had_before_all bar q Barred number (rest ++ more) slots others (subst (λ (s : List (List Flow)). All (λ slot. Barred (filter q slot)) s) is has))
        ] in
        let others = kept_out_by_rivals more list rest whole (seen_with aside seen item) slots weaves is rivals.1 (All-tail At item list at) was later_away more_was
        (λ k d below. past_aside item list seen (get_or rest k d) out (behind k d below)) (λ k d below. past_aside item list seen (get_or more k d) out (more_behind k d below)) in
        kept_with aside bar number item list rest slots out kept others
    kept_out_by_rivals more _ _ _ seen slots (stayed item next list rest whole chosen stands none weaves) is rivals at was away more_was behind more_behind =
        let At : Item → Type 0 = λ x. stood x.flow ≡ x.last in
        let here : stood item.flow ≡ item.last = All-head At item list at in
        let gone_more : IsGoneFrom more item = λ k d below. All-head (λ y. stays y (get_or more k d) ≡ false) item list (away k d below) in
        let later_away : All (λ x. All (λ y. stays y x ≡ false) list) more = λ k d below. All-tail (λ y. stays y (get_or more k d) ≡ false) item list (away k d below) in
        let rest_was : All WasThen rest = All-tail WasThen next rest was in
        let rest_behind : All (IsBehind (item ∷ list) seen) rest = All-tail (IsBehind (item ∷ list) seen) next rest behind in
        let others = kept_out_by_rivals more list rest whole (seen_with aside seen item) (slots_with bar number next slots) weaves is rivals.1 (All-tail At item list at) rest_was later_away more_was
        (λ k d below. past_other item list seen (get_or rest k d) here (none k d below) (rest_was k d below) (rest_behind k d below))
        (λ k d below. past_other item list seen (get_or more k d) here (gone_more k d below) (more_was k d below) (more_behind k d below)) in
        (λ out. absurd (both_ways _ chosen out), λ _ _. others, λ _ leaves. absurd (both_ways _ leaves stands))
    kept_out_by_rivals more _ _ _ seen slots (gone item list rest whole chosen none weaves) is rivals at was away more_was behind more_behind =
        let At : Item → Type 0 = λ x. stood x.flow ≡ x.last in
        let here : stood item.flow ≡ item.last = All-head At item list at in
        let gone_more : IsGoneFrom more item = λ k d below. All-head (λ y. stays y (get_or more k d) ≡ false) item list (away k d below) in
        let later_away : All (λ x. All (λ y. stays y x ≡ false) list) more = λ k d below. All-tail (λ y. stays y (get_or more k d) ≡ false) item list (away k d below) in
        let others = kept_out_by_rivals more list rest whole (seen_with aside seen item) slots weaves is rivals.1 (All-tail At item list at) was later_away more_was
        (λ k d below. past_other item list seen (get_or rest k d) here (none k d below) (was k d below) (behind k d below))
        (λ k d below. past_other item list seen (get_or more k d) here (gone_more k d below) (more_was k d below) (more_behind k d below)) in
        kept_without aside bar number item list rest slots chosen none others
