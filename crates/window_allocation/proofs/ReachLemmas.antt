-- A list walked item by item, with the words of those that go ahead; and what it says of the slots, batch by batch.
use Rattle.std.proofs.Common.{◌≡◌, ◌<◌, ◌≤◌, ◌+◌, ◌-◌, ◌*◌, ℕ, zero, suc, List, [], ◌∷◌, ◌++◌, length, get_or, take, drop, filter, Bool, true, false, not, ◌&&◌, ◌||◌, ◌==◌, nat_lt, All, refl, sym, ap, ◌∙◌, subst, arith, inl, inr, ◌⊎◌}
use Rattle.std.specs.List.{list_any}
use Rattle.std.proofs.lemmas.Bool.{cases_lt, cases_order, cases_Bool, cond_both, cond-true, cond-false, eq-eqb, eqb-true, and_from, and_parts, or_cases, or_left, or_right, lt-ltb, ltb-true, both_ways, not_from_false}
use Rattle.std.proofs.lemmas.Nat.{mul-le}
use Rattle.std.proofs.lemmas.List.{drop_more, drop_all, get_or_default, get_or-take, get_or-drop, length-take, length-drop, drop-drop}
use Rattle.std.proofs.lemmas.List.Elements.{All-take, All-drop, filter_passes}
use Rattle.std.proofs.lemmas.List.Folds.{list_any_none}
use Rattle.list_facts.proofs.Lists.{take_on}
use Rattle.greedy_rules.specs.declared.flows.Flow.{Flow}
use Rattle.greedy_rules.specs.declared.flows.Item.{Item}
use Rattle.greedy_rules.specs.Flows.{same_flow}
use Rattle.greedy_rules.specs.Slot.{has_flow, is_taken}
use Rattle.greedy_rules.specs.Limits.{is_barred}
use Rattle.greedy_rules.specs.declared.limits.Limits.{Limits}
use Rattle.greedy_rules.specs.Batches.{DemandBatch}
use Rattle.greedy_rules.specs.Demands.{AreBelow, is_listed}
use Rattle.greedy_rules.specs.Schedule.{slot_in}
use Rattle.greedy_rules.proofs.Facts.{same_flow-true, same_flow-refl}
use Rattle.greedy_rules.proofs.TableLemmas.{next_row}
use Rattle.slot_batches.specs.Feeding.{was_served}
use Rattle.slot_batches.specs.Woven.{once_served, places_from}
use Rattle.slot_batches.specs.Beyond.{is_in, seen_with, goes_ahead, HaveRivals, AreBarredInSlots}
use Rattle.window_allocation.specs.declared.end_words.EndWords.{EndWords}
use Rattle.window_allocation.specs.Reach.{names_source, names_destination, AreAhead, HasRival, stands_ahead, IsOut, AreOut, IsNamed, OpenAhead, OpenNew}
use Rattle.window_allocation.proofs.Places.{within_list}

-- more flows go ahead
pub more_ahead : (b : ℕ) (slots : List (List Flow)) (fewer more : Flow → Bool) (words : EndWords) → ((flow : Flow) → fewer flow ≡ true → more flow ≡ true) → AreAhead b slots fewer words → AreAhead b slots more words
more_ahead b slots fewer more words keeps are = record {
  sources = λ src at is. let one = are.sources src at is in (one.0, one.1, one.2, keeps one.0 one.3);
  destinations = λ dst at is. let one = are.destinations dst at is in (one.0, one.1, one.2, keeps one.0 one.3);
}

-- whether the item at hand was picked, by the next of the places
pub next_picked : (aside : Item → Bool) (at next : ℕ) (places : List ℕ) (item : Item) (more : List Item) → drop next places ≡ places_from aside at (item ∷ more)
    → ((nat_lt next (length places) && (get_or places next 0 == at)) ≡ true → (aside item ≡ false) × (drop (next + 1) places ≡ places_from aside (at + 1) more))
    × ((nat_lt next (length places) && (get_or places next 0 == at)) ≡ false → (aside item ≡ true) × (drop next places ≡ places_from aside (at + 1) more))
next_picked aside at next places item more left = elim (cases_Bool (aside item)) [
  | inl out ↦
      let then : drop next places ≡ places_from aside (at + 1) more = left ∙ cond-true (aside item) (places_from aside (at + 1) more) (at ∷ places_from aside (at + 1) more) out in (
        λ is.
            let parts = and_parts (nat_lt next (length places)) (get_or places next 0 == at) is in
            let inside : next < length places = ltb-true _ _ parts.0 in
            let first : get_or places next 0 ≡ at = eqb-true _ _ parts.1 in
            let here : get_or (places_from aside (at + 1) more) 0 0 ≡ at = ap (λ (ps : List ℕ). get_or ps 0 0) (sym then ∙ drop_more places next 0 inside) ∙ first in
            let some : 0 < length (places_from aside (at + 1) more) = omega (arith, inside, ap length then, length-drop next places) in
            let one = within_list aside (at + 1) more 0 0 some in
            absurd (omega (arith, one.0, here)),
        λ is. (out, then),
      )
  | inr not_out ↦
      let then : drop next places ≡ at ∷ places_from aside (at + 1) more = left ∙ cond-false (aside item) (places_from aside (at + 1) more) (at ∷ places_from aside (at + 1) more) not_out in
      let inside : next < length places = omega (arith, ap length then, length-drop next places) in
      let both : get_or places next 0 ∷ drop (next + 1) places ≡ at ∷ places_from aside (at + 1) more = sym (drop_more places next 0 inside) ∙ then in
      let first : get_or places next 0 ≡ at = ap (λ (ps : List ℕ). get_or ps 0 0) both in
      let rest : drop (next + 1) places ≡ places_from aside (at + 1) more = ap (λ (ps : List ℕ). drop 1 ps) both in (
        λ is. (not_out, rest),
        λ is. absurd (both_ways _ is (and_from _ _ (lt-ltb next (length places) inside) (eq-eqb (get_or places next 0) at first))),
      )
]

-- whoever is opened goes ahead once the items come that were served
abbrev pub ahead_at : List Item → ℕ → (Flow → Bool) → ℕ → Flow → Bool
ahead_at list served now at flow = now flow || (nat_lt served at && not (is_listed list flow))

-- the walk up to an item
pub record IsWalked (b count : ℕ) (slots : List (List Flow)) (list : List Item) (aside : Item → Bool) (served : ℕ) (places : List ℕ) (at next : ℕ) (words : EndWords) : Type 0 where
  pub left : drop next places ≡ places_from aside at (drop at list)
  pub now : Flow → Bool
  pub ahead : AreAhead b slots (ahead_at list served now at) words
  pub rest : AreOut b count slots list aside now (drop at list) → AreOut b count slots list aside (λ flow. false) list

-- the flows that are opened are noted before the first item that was served
pub opened_ahead : (b : ℕ) (slots : List (List Flow)) (list : List Item) (served at : ℕ) (now : Flow → Bool) (words : EndWords) → AreAhead b slots (ahead_at list served now at) words
    → AreAhead b slots (ahead_at list served now (at + 1)) words
opened_ahead b slots list served at now words are =
    more_ahead b slots (ahead_at list served now at) (ahead_at list served now (at + 1)) words
    (λ flow is. elim (or_cases (now flow) (nat_lt served at && not (is_listed list flow)) is) [
      | inl seen ↦ or_left (now flow) _ seen
      | inr new ↦
          let parts = and_parts (nat_lt served at) (not (is_listed list flow)) new in
          let before : served < at = ltb-true _ _ parts.0 in
          or_right (now flow) _ (and_from _ _ (lt-ltb served (at + 1) (omega arith)) parts.1)
    ]) are

pub opened_open : (list : List Item) (served at : ℕ) (now : Flow → Bool) (batches : List DemandBatch) → OpenNew list batches → (at == served) ≡ true → OpenAhead (ahead_at list served now (at + 1)) batches
opened_open list served at now batches new here k d below j e within opens =
    let is : at ≡ served = eqb-true _ _ here in
    or_right (now _) _ (and_from _ _ (lt-ltb served (at + 1) (omega (arith, is))) (not_from_false _ (new k d below j e within opens)))

-- from where items begin that were served, each was
pub served_from : (list : List Item) (served at : ℕ) (d : Item) → drop served list ≡ once_served list → at < length list → served ≤ at → was_served (get_or list at d) ≡ true
served_from list served at d parts inside from =
    let there : served + (at - served) ≡ at = omega arith in
    let all : All (λ x. was_served x ≡ true) (drop served list) = subst (All (λ x. was_served x ≡ true)) (sym parts) (filter_passes was_served list) in
    let one : was_served (get_or (drop served list) (at - served) d) ≡ true = all (at - served) d (omega (arith, length-drop served list)) in
    ap was_served (sym (get_or-drop served list (at - served) d ∙ ap (λ (k : ℕ). get_or list k d) there)) ∙ one

module _ (b count : ℕ) (slots : List (List Flow)) (list : List Item) (aside : Item → Bool) (served : ℕ) (places : List ℕ) where
  pub at_first : (words : EndWords) → places ≡ places_from aside 0 list → ((ahead : Flow → Bool) → AreAhead b slots ahead words) → IsWalked b count slots list aside served places 0 0 words
  at_first words are none = record { left = are; now = λ flow. false; ahead = none _; rest = λ out. out }

  pub at_last : (at next : ℕ) (words : EndWords) → length list ≤ at → IsWalked b count slots list aside served places at next words → AreOut b count slots list aside (λ flow. false) list
  at_last at next words end walked =
      let none : drop at list ≡ [] = drop_all at list end in
      walked.rest (subst (λ (xs : List Item). AreOut b count slots list aside walked.now xs) (sym none) tt)

  -- a flow that is named at an end of the item
  rival : (at k : ℕ) (item : Item) (now : Flow → Bool) (words : EndWords) → (served ≤ at → was_served item ≡ true) → AreAhead b slots (ahead_at list served now (at + 1)) words
      → (names_source words item.flow.src k || names_destination words item.flow.dst k) ≡ true → HasRival b slots (stands_ahead list now item) item k
  rival at k item now words then are named =
      let stands : (flow : Flow) → ahead_at list served now (at + 1) flow ≡ true → stands_ahead list now item flow ≡ true =
      λ flow is. elim (or_cases (now flow) (nat_lt served (at + 1) && not (is_listed list flow)) is) [
        | inl seen ↦ or_left (now flow) _ seen
        | inr new ↦
            let parts = and_parts (nat_lt served (at + 1)) (not (is_listed list flow)) new in
            let before : served < at + 1 = ltb-true _ _ parts.0 in
            or_right (now flow) _ (and_from _ _ (then (omega arith)) parts.1)
      ] in
      elim (or_cases (names_source words item.flow.src k) (names_destination words item.flow.dst k) named) [
        | inl source ↦ (let one = are.sources item.flow.src k source in record { flow = one.0; end = inl one.1; earliest = one.2; goes = stands one.0 one.3 })
        | inr destination ↦ (let one = are.destinations item.flow.dst k destination in record { flow = one.0; end = inr one.1; earliest = one.2; goes = stands one.0 one.3 })
      ]

  -- one item more
  pub walked_on : (at next then : ℕ) (item : Item) (old noted new : EndWords) (is_picked : Bool) (batches : List DemandBatch) → drop at list ≡ item ∷ drop (at + 1) list → (served ≤ at → was_served item ≡ true)
      → OpenNew list batches → IsWalked b count slots list aside served places at next old
      → ((ahead : Flow → Bool) → AreAhead b slots ahead old → ((at == served) ≡ true → OpenAhead ahead batches) → AreAhead b slots ahead noted)
      → is_picked ≡ (nat_lt next (length places) && (get_or places next 0 == at)) → (is_picked ≡ true → then ≡ next + 1) → (is_picked ≡ false → then ≡ next)
      → (is_picked ≡ true → (ahead : Flow → Bool) → AreAhead b slots ahead noted → ahead item.flow ≡ true → AreAhead b slots ahead new)
      → (is_picked ≡ false → new ≡ noted) → (is_picked ≡ false → IsNamed noted count item) → IsWalked b count slots list aside served places (at + 1) then new
  walked_on at next then item old noted new is_picked batches split served_then opens walked noting picked_is one_on stays adding same out =
      let now : Flow → Bool = walked.now in
      let now_then : Flow → Bool = seen_with aside now item in
      let Out : (Flow → Bool) → List Item → Type 0 = AreOut b count slots list aside in
      let more : List Item = drop (at + 1) list in
      let noted_are = noting (ahead_at list served now (at + 1)) (opened_ahead b slots list served at now old walked.ahead) (opened_open list served at now batches opens) in
      let step = next_picked aside at next places item more (walked.left ∙ ap (places_from aside at) split) in
      let then_are : AreAhead b slots (ahead_at list served now_then (at + 1)) noted =
      more_ahead b slots (ahead_at list served now (at + 1)) (ahead_at list served now_then (at + 1)) noted
      (λ flow is. elim (or_cases (now flow) (nat_lt served (at + 1) && not (is_listed list flow)) is) [
        | inl seen ↦ or_left (now_then flow) _ (or_left (now flow) _ seen)
        | inr new_one ↦ or_right (now_then flow) _ new_one
      ]) noted_are in
      elim (cases_Bool is_picked) [
        | inl is ↦
            let here = step.0 (sym picked_is ∙ is) in
            record {
              left = ap (λ (k : ℕ). drop k places) (one_on is) ∙ here.1;
              now = now_then;
              ahead = adding is (ahead_at list served now_then (at + 1)) then_are
                  (or_left (now_then item.flow) _ (or_right (now item.flow) _ (and_from _ _ (not_from_false _ here.0) (same_flow-refl item.flow))));
              rest = λ rest_out. walked.rest (subst (Out now) (sym split) ((λ is_aside. absurd (both_ways _ here.0 is_aside)), rest_out));
            }
        | inr not_it ↦
            let here = step.1 (sym picked_is ∙ not_it) in
            let item_out : IsOut b count slots list now item = elim (out not_it) [
              | inl needs_none ↦ inl needs_none
              | inr named ↦ inr (λ k below. rival at k item now noted served_then noted_are (named k below))
            ] in
            record {
              left = ap (λ (k : ℕ). drop k places) (stays not_it) ∙ here.1;
              now = now_then;
              ahead = subst (AreAhead b slots (ahead_at list served now_then (at + 1))) (sym (same not_it)) then_are;
              rest = λ rest_out. walked.rest (subst (Out now) (sym split) ((λ is_aside. item_out), rest_out));
            }
      ]

  -- an item that was not picked
  one_on : (at next : ℕ) (old noted : EndWords) (batches : List DemandBatch) (d : Item) → at < length list → drop served list ≡ once_served list → OpenNew list batches → IsWalked b count slots list aside served places at next old
      → ((ahead : Flow → Bool) → AreAhead b slots ahead old → ((at == served) ≡ true → OpenAhead ahead batches) → AreAhead b slots ahead noted) → (nat_lt next (length places) && (get_or places next 0 == at)) ≡ false
      → IsNamed noted count (get_or list at d) → IsWalked b count slots list aside served places (at + 1) next noted
  one_on at next old noted batches d inside parts opens walked noting other named =
      walked_on at next next (get_or list at d) old noted noted false batches (drop_more list at d inside) (λ from. served_from list served at d parts inside from) opens walked noting (sym other) (λ is. absurd (cc)) (λ _. refl)
      (λ is. absurd (cc)) (λ _. refl) (λ _. named)

  -- a run of items of which none was picked
  run_on : (n at next : ℕ) (old noted : EndWords) (batches : List DemandBatch) (d : Item) → at + n < length list → drop served list ≡ once_served list → OpenNew list batches → IsWalked b count slots list aside served places at next old
      → ((ahead : Flow → Bool) → AreAhead b slots ahead old → ((at == served) ≡ true → OpenAhead ahead batches) → AreAhead b slots ahead noted)
      → ((other : ℕ) → at ≤ other → other < at + suc n → (nat_lt next (length places) && (get_or places next 0 == other)) ≡ false)
      → ((other : ℕ) → at ≤ other → other < at + suc n → IsNamed noted count (get_or list other d)) → IsWalked b count slots list aside served places (at + suc n) next noted
  run_on zero at next old noted batches d within parts opens walked noting others named =
      one_on at next old noted batches d (omega (arith, within)) parts opens walked noting (others at (omega arith) (omega arith)) (named at (omega arith) (omega arith))
  run_on (suc n) at next old noted batches d within parts opens walked noting others named =
      let one = one_on at next old noted batches d (omega (arith, within)) parts opens walked noting (others at (omega arith) (omega arith)) (named at (omega arith) (omega arith)) in
      let there : at + 1 + suc n ≡ at + suc (suc n) = omega arith in
      subst (λ (k : ℕ). IsWalked b count slots list aside served places k next noted) there
      (run_on n (at + 1) next noted noted batches d (omega (arith, within)) parts opens one (λ ahead was _. was) (λ other from below. others other (omega (arith, from)) (omega (arith, below)))
      (λ other from below. named other (omega (arith, from)) (omega (arith, below))))

  -- so, and one that was picked behind them, if there is one
  pub gap_walked : (at end next then step : ℕ) (old noted new : EndWords) (is_picked : Bool) (batches : List DemandBatch) (d : Item) → at ≤ end → (is_picked ≡ false → at < end) → end ≤ length list → (is_picked ≡ true → end < length list)
      → drop served list ≡ once_served list → OpenNew list batches → IsWalked b count slots list aside served places at next old
      → ((ahead : Flow → Bool) → AreAhead b slots ahead old → ((at == served) ≡ true → OpenAhead ahead batches) → AreAhead b slots ahead noted)
      → ((other : ℕ) → at ≤ other → other < end → (nat_lt next (length places) && (get_or places next 0 == other)) ≡ false)
      → ((other : ℕ) → at ≤ other → other < end → IsNamed noted count (get_or list other d))
      → (is_picked ≡ true → (nat_lt next (length places) && (get_or places next 0 == end)) ≡ true) → (is_picked ≡ true → step ≡ 1) → (is_picked ≡ false → step ≡ 0) → then ≡ next + step
      → (is_picked ≡ true → (ahead : Flow → Bool) → AreAhead b slots ahead noted → ahead (get_or list end d).flow ≡ true → AreAhead b slots ahead new)
      → (is_picked ≡ false → new ≡ noted) → IsWalked b count slots list aside served places (end + step) then new
  gap_walked at end next then step old noted new is_picked batches d from some within inside parts opens walked noting others named here one none then_is adding same =
      let Walked : ℕ → ℕ → EndWords → Type 0 = IsWalked b count slots list aside served places in
      let before : at < end → Walked end next noted = λ less.
      let n : ℕ = end - at - 1 in
      let there : at + suc n ≡ end = omega (arith, less) in
      subst (λ (k : ℕ). Walked k next noted) there
      (run_on n at next old noted batches d (omega (arith, less, within)) parts opens walked noting (λ other up below. others other up (omega (arith, below, there))) (λ other up below. named other up (omega (arith, below, there)))) in
      elim (cases_Bool is_picked) [
        | inl is ↦
            let item : Item = get_or list end d in
            let last : (words : EndWords) → Walked end next words → ((ahead : Flow → Bool) → AreAhead b slots ahead words → ((end == served) ≡ true → OpenAhead ahead batches) → AreAhead b slots ahead noted) → Walked (end + 1) (next + 1) new =
            λ words reached noting_then.
            walked_on end next (next + 1) item words noted new true batches (drop_more list end d (inside is)) (λ up. served_from list served end d parts (inside is) up) opens reached noting_then (sym (here is))
            (λ _. refl) (λ not_it. absurd (cc)) (λ _. adding is) (λ not_it. absurd (cc)) (λ not_it. absurd (cc)) in
            let whole : Walked (end + 1) (next + 1) new = elim (cases_lt at end) [
              | inl less ↦ last noted (before less) (λ ahead was _. was)
              | inr least ↦
                  let same_place : at ≡ end = omega (arith, from, least) in
                  last old (subst (λ (k : ℕ). Walked k next old) same_place walked)
                  (subst (λ (k : ℕ). (ahead : Flow → Bool) → AreAhead b slots ahead old → ((k == served) ≡ true → OpenAhead ahead batches) → AreAhead b slots ahead noted) same_place noting)
            ] in
            subst (λ (k : ℕ). Walked (end + k) then new) (sym (one is)) (subst (λ (k : ℕ). Walked (end + 1) k new) (sym (then_is ∙ ap (λ (k : ℕ). next + k) (one is))) whole)
        | inr not_it ↦
            let whole : Walked end next new = subst (Walked end next) (sym (same not_it)) (before (some not_it)) in
            let there : end ≡ end + step = omega (arith, none not_it) in
            let then_there : next ≡ then = omega (arith, none not_it, then_is) in
            subst (λ (k : ℕ). Walked k then new) there (subst (λ (k : ℕ). Walked end k new) then_there whole)
      ]

-- what holds of all items of a part of a list holds of each
pub each_of_part : (P : Item → Type 0) (at m : ℕ) (list : List Item) (d : Item) → All P (take m (drop at list)) → at + m ≤ length list → (other : ℕ) → at ≤ other → other < at + m → P (get_or list other d)
each_of_part P at m list d all within other from below =
    let k : ℕ = other - at in
    let under : k < m = omega (arith, from, below) in
    let there : at + k ≡ other = omega (arith, from) in
    subst P (get_or-take m (drop at list) k d under ∙ (get_or-drop at list k d ∙ ap (λ (n : ℕ). get_or list n d) there))
    (all k d (omega (arith, under, within, length-take m (drop at list), length-drop at list)))

-- the flows of a part of a list are between the endpoints where those of the list are
pub part_below : (endpoints at m : ℕ) (list : List Item) → AreBelow endpoints list → AreBelow endpoints (take m (drop at list))
part_below endpoints at m list below =
    let P : Item → Type 0 = λ item. (item.flow.src < endpoints) × (item.flow.dst < endpoints) in
    All-take P m (drop at list) (All-drop P at list below)

-- ---- the same, slot by slot

-- a flow that stays in a slot bars whoever has its source or its destination
taken_by : (stays : Flow → Bool) (slot : List Flow) (flow other : Flow) → has_flow slot flow ≡ true → stays flow ≡ true → (flow.src ≡ other.src) ⊎ (flow.dst ≡ other.dst) → is_taken (filter stays slot) other ≡ true
taken_by stays [] flow other has goes end = absurd (cc)
taken_by stays (chosen ∷ slot) flow other has goes end =
    let taken : Flow → Bool = λ c. (c.src == other.src) || (c.dst == other.dst) in
    elim (or_cases (same_flow chosen flow) (has_flow slot flow) has) [
      | inl same ↦
          let is : chosen ≡ flow = same_flow-true chosen flow same in
          let keeps : stays chosen ≡ true = ap stays is ∙ goes in
          let one : taken chosen ≡ true = elim end [
            | inl src ↦ or_left (chosen.src == other.src) _ (eq-eqb _ _ (ap (λ (f : Flow). f.src) is ∙ src))
            | inr dst ↦ or_right (chosen.src == other.src) _ (eq-eqb _ _ (ap (λ (f : Flow). f.dst) is ∙ dst))
          ] in
          ap (λ (xs : List Flow). list_any taken xs) (cond-true (stays chosen) (chosen ∷ filter stays slot) (filter stays slot) keeps) ∙ or_left (taken chosen) _ one
      | inr later ↦
          let rest = taken_by stays slot flow other later goes end in
          cond_both (stays chosen) (chosen ∷ filter stays slot) (filter stays slot) (λ xs. is_taken xs other ≡ true) (λ _. or_right (taken chosen) _ rest) (λ _. rest)
    ]

-- a place is of one batch alone
same_batch : (j k b at : ℕ) → j * b ≤ at → at < j * b + b → k * b ≤ at → at < k * b + b → j ≡ k
same_batch j k b at j_from j_before k_from k_before = elim (cases_order j k) [
  | inl same ↦ same
  | inr other ↦ elim other [
    | inl less ↦ absurd (omega (arith, next_row j b, mul-le (j + 1) b k b (omega arith) (omega arith)))
    | inr more ↦ absurd (omega (arith, next_row k b, mul-le (k + 1) b j b (omega arith) (omega arith)))
  ]
]

-- in none of the slots at the front
not_in : (slots : List (List Flow)) (flow : Flow) (n : ℕ) → ((at : ℕ) → at < n → has_flow (slot_in slots at) flow ≡ false) → is_in (take n slots) flow ≡ false
not_in slots flow n none =
    list_any_none (λ slot. has_flow slot flow) (take n slots)
    (λ k d below.
    let under : k < n = omega (arith, length-take n slots) in
    let inside : k < length slots = omega (arith, length-take n slots) in
    ap (λ (slot : List Flow). has_flow slot flow) (get_or-take n slots k d under ∙ get_or_default slots k d [] inside) ∙ none k under)

module _ (b count : ℕ) (all : List (List Flow)) (whole : List Item) (aside : Item → Bool) where
  -- in the slots of one batch
  rivals_in : (limits : Limits) (j : ℕ) (seen : Flow → Bool) (list : List Item) → j * b + b ≤ count → count ≤ length all → AreOut b count all whole aside seen list
      → HaveRivals (is_barred limits) aside whole (take (j * b) all) (take b (drop (j * b) all)) seen list
  rivals_in limits j seen [] fits long out = tt
  rivals_in limits j seen (item ∷ list) fits long out = (
    λ is. elim (out.0 is) [
      | inl needs_none ↦ inl needs_none
      | inr rivals ↦
          inr
          (λ i d below.
          let under : i < b = omega (arith, length-take b (drop (j * b) all)) in
          let at : ℕ = j * b + i in
          let one = rivals at (omega (arith, under, fits)) in
          let batch : one.earliest.batch ≡ j = same_batch one.earliest.batch j b at one.earliest.from one.earliest.before (omega arith) (omega (arith, under)) in
          let first : is_in (take (j * b) all) one.flow ≡ false =
          not_in all one.flow (j * b) (λ k before. one.earliest.first k (subst (λ (n : ℕ). k < n * b) (sym batch) before)) in
          let slot : get_or (take b (drop (j * b) all)) i d ≡ slot_in all at =
          get_or-take b (drop (j * b) all) i d under ∙ (get_or-drop (j * b) all i d ∙ get_or_default all at d [] (omega (arith, under, fits, long))) in
          let goes : goes_ahead whole (take (j * b) all) seen item one.flow ≡ true = and_from _ _ (not_from_false _ first) one.goes in
          let barred : is_taken (filter (goes_ahead whole (take (j * b) all) seen item) (slot_in all at)) item.flow ≡ true =
          taken_by (goes_ahead whole (take (j * b) all) seen item) (slot_in all at) one.flow item.flow one.earliest.served goes one.end in
          ap (λ (xs : List Flow). is_barred limits (filter (goes_ahead whole (take (j * b) all) seen item) xs) item.flow) slot
          ∙ or_left (is_taken (filter (goes_ahead whole (take (j * b) all) seen item) (slot_in all at)) item.flow) _ barred)
    ],
    rivals_in limits j (seen_with aside seen item) list fits long out.1,
  )

  -- in those of each batch from one on
  pub barred_from : (j : ℕ) (batches : List DemandBatch) → (j + length batches) * b ≤ count → count ≤ length all → AreOut b count all whole aside (λ flow. false) whole
      → AreBarredInSlots aside whole b (take (j * b) all) (drop (j * b) all) batches
  barred_from j [] fits long out = tt
  barred_from j (batch ∷ batches) fits long out =
      let on : (j + 1) * b ≡ j * b + b = next_row j b in
      let here : j * b + b ≤ count = omega (arith, on, mul-le (j + 1) b (j + length (batch ∷ batches)) b (omega arith) (omega arith)) in
      let number : j + 1 + length batches ≡ j + length (batch ∷ batches) = omega arith in
      let earlier : take ((j + 1) * b) all ≡ take (j * b) all ++ take b (drop (j * b) all) = ap (λ (n : ℕ). take n all) on ∙ take_on (j * b) b all in
      let later : drop ((j + 1) * b) all ≡ drop b (drop (j * b) all) = ap (λ (n : ℕ). drop n all) on ∙ sym (drop-drop b (j * b) all) in
      let rest = barred_from (j + 1) batches (subst (λ (n : ℕ). n * b ≤ count) (sym number) fits) long out in (
        rivals_in batch.limits j (λ flow. false) whole here long out,
        subst (λ (xs : List (List Flow)). AreBarredInSlots aside whole b xs (drop b (drop (j * b) all)) batches) earlier
            (subst (λ (xs : List (List Flow)). AreBarredInSlots aside whole b (take ((j + 1) * b) all) xs batches) later rest),
      )
