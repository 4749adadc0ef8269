-- Items that the served items in front of them bar in each slot of a window.
use Rattle.std.proofs.Common.{◌≡◌, ◌≢◌, ◌+◌, ◌-◌, ◌⊎◌, ℕ, List, [], ◌∷◌, ◌++◌, get_or, Bool, true, false, not, ◌&&◌, ◌||◌, ◌==◌, nat_lt, All, refl, sym, ap, ◌∙◌, subst, inl, inr}
use Rattle.std.proofs.lemmas.Bool.{cases_Bool, cond-true, cond-false, cond_both, or_left, or_parts, or_cases, and_parts, eq-eqb, eqb-true, and_from, false_from_ne_true, both_ways}
use Rattle.std.proofs.lemmas.List.Elements.{All-nil, All-cons, All-head, All-tail, All-append}
use Rattle.greedy_rules.specs.declared.flows.Flow.{Flow}
use Rattle.greedy_rules.specs.declared.flows.Item.{Item}
use Rattle.greedy_rules.specs.Flows.{same_flow}
use Rattle.greedy_rules.specs.Slot.{Bar, has_flow, slot_with, offered}
use Rattle.greedy_rules.specs.Walk.{turn}
use Rattle.greedy_rules.proofs.Facts.{same_flow-true, same_flow-refl, any-slot_with}
use Rattle.slot_batches.specs.FlowByFlow.{slots_with, slots_after}
use Rattle.slot_batches.specs.Woven.{stays}
use Rattle.slot_batches.specs.Beyond.{IsKeptOut, AreKeptOut, stands_in_front}
use Rattle.slot_batches.proofs.WeaveLemmas.{IsGoneFrom, Weaves, ended, set_aside, stayed, gone, Asides, takes_none, idle_is_kept_out}

-- the flow is in none of the slots
abbrev pub IsNotIn : List (List Flow) → Flow → Type 0
IsNotIn slots flow = All (λ slot. has_flow slot flow ≡ false) slots

module _ (bar : Bar) where
  -- slots only grow
  not_in_before : (number : ℕ) (item : Item) (slots : List (List Flow)) (flow : Flow) → IsNotIn (slots_with bar number item slots) flow → IsNotIn slots flow
  not_in_before number item [] flow out = out
  not_in_before number item (slot ∷ slots) flow out =
      let Out : List Flow → Type 0 = λ s. has_flow s flow ≡ false in
      let here : has_flow (offered bar slot item) flow ≡ false = All-head Out (offered bar slot item) (slots_with bar (number + 1) (turn bar number slot item) slots) out in
      let fits : Bool = nat_lt 0 item.need && not (bar slot item.flow) in
      let was : has_flow slot flow ≡ false =
      cond_both fits (slot_with item.flow slot) slot (λ s. has_flow s flow ≡ false → has_flow slot flow ≡ false)
      (λ _ now. (or_parts (same_flow item.flow flow) (has_flow slot flow) (sym (any-slot_with (λ chosen. same_flow chosen flow) item.flow slot) ∙ now)).1) (λ _ now. now) here in
      All-cons Out slot slots was
      (not_in_before (number + 1) (turn bar number slot item) slots flow (All-tail Out (offered bar slot item) (slots_with bar (number + 1) (turn bar number slot item) slots) out))

  not_in_before_all : (number : ℕ) (list : List Item) (slots : List (List Flow)) (flow : Flow) → IsNotIn (slots_after bar number list slots) flow → IsNotIn slots flow
  not_in_before_all number [] slots flow out = out
  not_in_before_all number (item ∷ list) slots flow out = not_in_before number item slots flow (not_in_before_all number list (slots_with bar number item slots) flow out)

  -- who is then in none was kept out
  not_in_kept_out : (number : ℕ) (item : Item) (slots : List (List Flow)) → IsNotIn (slots_with bar number item slots) item.flow → IsKeptOut bar slots item
  not_in_kept_out number item [] out = All-nil (λ slot. (nat_lt 0 item.need && not (bar slot item.flow)) ≡ false)
  not_in_kept_out number item (slot ∷ slots) out =
      let Out : List Flow → Type 0 = λ s. has_flow s item.flow ≡ false in
      let Kept : List Flow → Type 0 = λ s. (nat_lt 0 item.need && not (bar s item.flow)) ≡ false in
      let fits : Bool = nat_lt 0 item.need && not (bar slot item.flow) in
      let here : has_flow (offered bar slot item) item.flow ≡ false = All-head Out (offered bar slot item) (slots_with bar (number + 1) (turn bar number slot item) slots) out in
      let kept : fits ≡ false =
      false_from_ne_true _ (λ it_fits.
      let there : has_flow (offered bar slot item) item.flow ≡ true =
      ap (λ (s : List Flow). has_flow s item.flow) (cond-true fits (slot_with item.flow slot) slot it_fits)
      ∙ (any-slot_with (λ chosen. same_flow chosen item.flow) item.flow slot ∙ or_left (same_flow item.flow item.flow) (has_flow slot item.flow) (same_flow-refl item.flow)) in
      both_ways _ here there) in
      let same : turn bar number slot item ≡ item = cond-false fits (record item { need = item.need - 1; last = number }) item kept in
      All-cons Kept slot slots kept
      (not_in_kept_out (number + 1) item slots
      (subst (λ (x : Item). IsNotIn (slots_with bar (number + 1) x slots) item.flow) same
      (All-tail Out (offered bar slot item) (slots_with bar (number + 1) (turn bar number slot item) slots) out)))

  -- so whose items are in none fill nothing
  pub they_fill_none : (number : ℕ) (list : List Item) (slots : List (List Flow)) → All (λ item. IsNotIn (slots_after bar number list slots) item.flow) list → slots_after bar number list slots ≡ slots
  they_fill_none number [] slots out = refl
  they_fill_none number (item ∷ list) slots out =
      let now : List (List Flow) = slots_with bar number item slots in
      let Out : Item → Type 0 = λ x. IsNotIn (slots_after bar number list now) x.flow in
      they_fill_none number list now (All-tail Out item list out)
      ∙ takes_none bar number item slots (not_in_kept_out number item slots (not_in_before_all number list now item.flow (All-head Out item list out)))

-- one item more
module _ (aside : Item → Bool) (bar : Bar) (number : ℕ) where
  pub kept_with : (item : Item) (list rest : List Item) (slots : List (List Flow)) → aside item ≡ true → IsKeptOut bar slots item → AreKeptOut aside bar number list rest slots
      → AreKeptOut aside bar number (item ∷ list) rest slots
  kept_with item list [] slots out kept others = (λ _. kept, others)
  kept_with item list (next ∷ rest) slots out kept others = (λ _. (kept, others), λ chosen _. absurd (both_ways _ chosen out), λ chosen _. absurd (both_ways _ chosen out))

  pub kept_without : (item : Item) (list rest : List Item) (slots : List (List Flow)) → aside item ≡ false → IsGoneFrom rest item → AreKeptOut aside bar number list rest slots
      → AreKeptOut aside bar number (item ∷ list) rest slots
  kept_without item list [] slots chosen none others = (λ out. absurd (both_ways _ chosen out), others)
  kept_without item list (next ∷ rest) slots chosen none others =
      (λ out. absurd (both_ways _ chosen out), λ _ stands. absurd (both_ways _ (All-head (λ later. stays item later ≡ false) next rest none) stands), λ _ _. others)

module _ (aside : Item → Bool) (bar : Bar) (number : ℕ) (full : List (List Flow)) (stood : Flow → ℕ) where
  -- an item behind: it stood in front of those of the list that are set aside and need a slot, or there is none, or no slot has it
  abbrev pub Behind : List Item → Item → Type 0
  Behind list x = (stands_in_front aside list x.flow ≡ true) ⊎ (Asides aside (λ item. item.need ≡ 0) list ⊎ IsNotIn full x.flow)

  abbrev pub IsSettled : Item → Type 0
  IsSettled x = (x.last ≢ stood x.flow) → IsNotIn full x.flow

  abbrev Idle : Item → Type 0
  Idle item = aside item ≡ true → item.need ≡ 0

  -- past an item that is set aside and needs nothing
  past_idle : (item : Item) (list : List Item) (x : Item) → aside item ≡ true → item.need ≡ 0 → Behind (item ∷ list) x → Behind list x
  past_idle item list x out idle behind = elim behind [
    | inl stands ↦
        let is : stands_in_front aside (item ∷ list) x.flow ≡ ((item.need == 0) && stands_in_front aside list x.flow) =
        cond-true (aside item) ((item.need == 0) && stands_in_front aside list x.flow) (same_flow item.flow x.flow || stands_in_front aside list x.flow) out in
        inl (and_parts (item.need == 0) (stands_in_front aside list x.flow) (sym is ∙ stands)).1
    | inr others ↦ elim others [
      | inl none ↦ inr (inl (All-tail Idle item list none))
      | inr absent ↦ inr (inr absent)
    ]
  ]

  -- behind an item that is set aside and needs a slot
  behind_needy : (item : Item) (list : List Item) (x : Item) → aside item ≡ true → (item.need ≢ 0) → Behind (item ∷ list) x → IsNotIn full x.flow
  behind_needy item list x out needy behind = elim behind [
    | inl stands ↦
        let is : stands_in_front aside (item ∷ list) x.flow ≡ ((item.need == 0) && stands_in_front aside list x.flow) =
        cond-true (aside item) ((item.need == 0) && stands_in_front aside list x.flow) (same_flow item.flow x.flow || stands_in_front aside list x.flow) out in
        absurd (needy (eqb-true _ _ (and_parts (item.need == 0) (stands_in_front aside list x.flow) (sym is ∙ stands)).0))
    | inr others ↦ elim others [
      | inl none ↦ absurd (needy (All-head Idle item list none out))
      | inr absent ↦ absent
    ]
  ]

  -- past an item of the rest, which x is not as it stood
  past_other : (item : Item) (list : List Item) (x : Item) → aside item ≡ false → (same_flow item.flow x.flow ≡ true → IsNotIn full x.flow) → Behind (item ∷ list) x → Behind list x
  past_other item list x chosen apart behind = elim behind [
    | inl stands ↦
        let is : stands_in_front aside (item ∷ list) x.flow ≡ (same_flow item.flow x.flow || stands_in_front aside list x.flow) =
        cond-false (aside item) ((item.need == 0) && stands_in_front aside list x.flow) (same_flow item.flow x.flow || stands_in_front aside list x.flow) chosen in
        elim (or_cases (same_flow item.flow x.flow) (stands_in_front aside list x.flow) (sym is ∙ stands)) [
          | inl same ↦ inr (inr (apart same))
          | inr later ↦ inl later
        ]
    | inr others ↦ elim others [
      | inl none ↦ inr (inl (All-tail Idle item list none))
      | inr absent ↦ inr (inr absent)
    ]
  ]

  -- not as it stood
  apart_of : (item x : Item) → stood item.flow ≡ item.last → stays item x ≡ false → IsSettled x → same_flow item.flow x.flow ≡ true → IsNotIn full x.flow
  apart_of item x at away settled same =
      settled (λ still.
      let level : item.last ≡ x.last = sym at ∙ (ap stood (same_flow-true item.flow x.flow same) ∙ sym still) in
      both_ways _ away (and_from _ _ same (eq-eqb item.last x.last level)))

  past_all : (item : Item) (list rest : List Item) → aside item ≡ false → stood item.flow ≡ item.last → IsGoneFrom rest item → All IsSettled rest → All (Behind (item ∷ list)) rest → All (Behind list) rest
  past_all item list rest chosen at none settled behind k d below =
      past_other item list (get_or rest k d) chosen (apart_of item (get_or rest k d) at (none k d below) (settled k d below)) (behind k d below)

  pub kept_out_of_part : (more list rest whole : List Item) (slots : List (List Flow)) → Weaves aside list rest whole → full ≡ slots_after bar number (rest ++ more) slots
      → Asides aside (IsKeptOut bar full) list → All (λ item. stood item.flow ≡ item.last) list → All IsSettled rest → All (λ x. All (λ item. stays item x ≡ false) list) more → All IsSettled more
      → All (Behind list) rest → All (Behind list) more → AreKeptOut aside bar number list rest slots
  kept_out_of_part more _ _ _ slots (ended rest) is barred at settled away more_settled behind more_behind = tt
  kept_out_of_part more _ _ _ slots (set_aside item list rest whole out weaves) is barred at settled away more_settled behind more_behind =
      let Kept : Item → Type 0 = λ x. aside x ≡ true → IsKeptOut bar full x in
      let At : Item → Type 0 = λ x. stood x.flow ≡ x.last in
      let later_away : All (λ x. All (λ y. stays y x ≡ false) list) more = λ k d below. All-tail (λ y. stays y (get_or more k d) ≡ false) item list (away k d below) in
      let step : IsKeptOut bar slots item × All (Behind list) rest × All (Behind list) more =
      elim (cases_Bool (item.need == 0)) [
        | inl none ↦
            let idle : item.need ≡ 0 = eqb-true _ _ none in
            (idle_is_kept_out bar item slots idle, λ k d below. past_idle item list (get_or rest k d) out idle (behind k d below), λ k d below. past_idle item list (get_or more k d) out idle (more_behind k d below))
        | inr some ↦
            let needy : item.need ≢ 0 = λ none. both_ways _ some (eq-eqb item.need 0 none) in
            let NotIn : Item → Type 0 = λ x. IsNotIn full x.flow in
            let rest_out : All NotIn rest = λ k d below. behind_needy item list (get_or rest k d) out needy (behind k d below) in
            let more_out : All NotIn more = λ k d below. behind_needy item list (get_or more k d) out needy (more_behind k d below) in
            let all_out : All NotIn (rest ++ more) = All-append NotIn rest more rest_out more_out in
            let filled : full ≡ slots = is ∙ they_fill_none bar number (rest ++ more) slots (subst (λ (s : List (List Flow)). All (λ x. IsNotIn s x.flow) (rest ++ more)) is all_out) in
            (subst (λ (s : List (List Flow)). IsKeptOut bar s item) filled (All-head Kept item list barred out), λ k d below. inr (inr (rest_out k d below)), λ k d below. inr (inr (more_out k d below)))
      ] in
      let others = kept_out_of_part more list rest whole slots weaves is (All-tail Kept item list barred) (All-tail At item list at) settled later_away more_settled step.1 step.2 in
      kept_with aside bar number item list rest slots out step.0 others
  kept_out_of_part more _ _ _ slots (stayed item next list rest whole chosen stands none weaves) is barred at settled away more_settled behind more_behind =
      let Kept : Item → Type 0 = λ x. aside x ≡ true → IsKeptOut bar full x in
      let At : Item → Type 0 = λ x. stood x.flow ≡ x.last in
      let here : stood item.flow ≡ item.last = All-head At item list at in
      let gone_more : IsGoneFrom more item = λ k d below. All-head (λ y. stays y (get_or more k d) ≡ false) item list (away k d below) in
      let later_away : All (λ x. All (λ y. stays y x ≡ false) list) more = λ k d below. All-tail (λ y. stays y (get_or more k d) ≡ false) item list (away k d below) in
      let rest_settled = All-tail IsSettled next rest settled in
      let others = kept_out_of_part more list rest whole (slots_with bar number next slots) weaves is (All-tail Kept item list barred) (All-tail At item list at) rest_settled later_away more_settled
      (past_all item list rest chosen here none rest_settled (All-tail (Behind (item ∷ list)) next rest behind)) (past_all item list more chosen here gone_more more_settled more_behind) in
      (λ out. absurd (both_ways _ chosen out), λ _ _. others, λ _ leaves. absurd (both_ways _ leaves stands))
  kept_out_of_part more _ _ _ slots (gone item list rest whole chosen none weaves) is barred at settled away more_settled behind more_behind =
      let Kept : Item → Type 0 = λ x. aside x ≡ true → IsKeptOut bar full x in
      let At : Item → Type 0 = λ x. stood x.flow ≡ x.last in
      let here : stood item.flow ≡ item.last = All-head At item list at in
      let gone_more : IsGoneFrom more item = λ k d below. All-head (λ y. stays y (get_or more k d) ≡ false) item list (away k d below) in
      let later_away : All (λ x. All (λ y. stays y x ≡ false) list) more = λ k d below. All-tail (λ y. stays y (get_or more k d) ≡ false) item list (away k d below) in
      let others = kept_out_of_part more list rest whole slots weaves is (All-tail Kept item list barred) (All-tail At item list at) settled later_away more_settled
      (past_all item list rest chosen here none settled behind) (past_all item list more chosen here gone_more more_settled more_behind) in
      kept_without aside bar number item list rest slots chosen none others
