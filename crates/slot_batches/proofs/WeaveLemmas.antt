-- A list that items set aside are woven into: what a batch makes of it, it makes of the list without them.
use Rattle.std.proofs.Common.{◌≡◌, ◌≢◌, ◌<◌, ◌+◌, ◌-◌, ℕ, List, [], ◌∷◌, ◌++◌, map, Bool, true, false, not, ◌&&◌, ◌||◌, nat_lt, cond, Option, Some, None, All, refl, sym, ap, ◌∙◌, subst, inl, inr}
use Rattle.std.proofs.lemmas.Bool.{cases_Bool, cond-true, cond-false, cond_both, and_left, and_from, not_from_true, not_from_false, eq-eqb, lt-ltb, false_from_ne_true}
use Rattle.std.proofs.lemmas.List.Elements.{All-nil, All-cons, All-head, All-tail, All-append, All-map, All-weaker, All-filter}
use Rattle.greedy_rules.specs.declared.flows.Flow.{Flow}
use Rattle.greedy_rules.specs.declared.flows.Item.{Item}
use Rattle.greedy_rules.specs.declared.flows.Entry.{Entry}
use Rattle.greedy_rules.specs.Flows.{same_flow}
use Rattle.greedy_rules.specs.Batches.{entry_of}
use Rattle.greedy_rules.specs.Slot.{Bar, slot_with}
use Rattle.greedy_rules.specs.Walk.{turn}
use Rattle.greedy_rules.specs.Demands.{HasEachFlowOnce, is_listed, need_with, with_batch}
use Rattle.greedy_rules.proofs.Facts.{same_flow-true, same_flow-refl}
use Rattle.list_facts.proofs.Pairs.{AllPairs-head, AllPairs-tail}
use Rattle.slot_batches.specs.FlowByFlow.{slots_with, item_after, slots_after, items_after}
use Rattle.slot_batches.specs.Feeding.{unserved, newly_served}
use Rattle.slot_batches.specs.Woven.{picked, stays, weave}
use Rattle.slot_batches.specs.Beyond.{IsKeptOut, AreKeptOut}
use Rattle.slot_batches.proofs.SortedRuns.{item_after_low}

-- the item stands nowhere in the list as it stood
abbrev pub IsGoneFrom : List Item → Item → Type 0
IsGoneFrom rest item = All (λ later. stays item later ≡ false) rest

-- the whole is the rest with the items of the list that are set aside, where what stays stands in the order of the list
pub data Weaves (aside : Item → Bool) : List Item → List Item → List Item → Type 0 where
  ended : (rest : List Item) → Weaves aside [] rest rest
  set_aside : (item : Item) (list rest whole : List Item) → aside item ≡ true → Weaves aside list rest whole → Weaves aside (item ∷ list) rest (item ∷ whole)
  stayed : (item next : Item) (list rest whole : List Item) → aside item ≡ false → stays item next ≡ true → IsGoneFrom rest item → Weaves aside list rest whole
      → Weaves aside (item ∷ list) (next ∷ rest) (next ∷ whole)
  gone : (item : Item) (list rest whole : List Item) → aside item ≡ false → IsGoneFrom rest item → Weaves aside list rest whole → Weaves aside (item ∷ list) rest whole

-- an item that is kept out takes no slot
module _ (bar : Bar) where
  pub takes_none : (number : ℕ) (item : Item) (slots : List (List Flow)) → IsKeptOut bar slots item → slots_with bar number item slots ≡ slots
  takes_none number item [] kept = refl
  takes_none number item (slot ∷ slots) kept =
      let Out : List Flow → Type 0 = λ s. (nat_lt 0 item.need && not (bar s item.flow)) ≡ false in
      let out : (nat_lt 0 item.need && not (bar slot item.flow)) ≡ false = All-head Out slot slots kept in
      ap (λ (s : List Flow). s ∷ slots_with bar (number + 1) (turn bar number slot item) slots) (cond-false (nat_lt 0 item.need && not (bar slot item.flow)) (slot_with item.flow slot) slot out)
      ∙ ap (λ (s : List (List Flow)). slot ∷ s)
      (ap (λ (x : Item). slots_with bar (number + 1) x slots) (cond-false (nat_lt 0 item.need && not (bar slot item.flow)) (record item { need = item.need - 1; last = number }) item out)
      ∙ takes_none (number + 1) item slots (All-tail Out slot slots kept))

  is_as_it_was : (number : ℕ) (item : Item) (slots : List (List Flow)) → IsKeptOut bar slots item → item_after bar number item slots ≡ item
  is_as_it_was number item [] kept = refl
  is_as_it_was number item (slot ∷ slots) kept =
      let Out : List Flow → Type 0 = λ s. (nat_lt 0 item.need && not (bar s item.flow)) ≡ false in
      let out : (nat_lt 0 item.need && not (bar slot item.flow)) ≡ false = All-head Out slot slots kept in
      ap (λ (x : Item). item_after bar (number + 1) x slots) (cond-false (nat_lt 0 item.need && not (bar slot item.flow)) (record item { need = item.need - 1; last = number }) item out)
      ∙ is_as_it_was (number + 1) item slots (All-tail Out slot slots kept)

  -- and who needs nothing is kept out
  pub idle_is_kept_out : (item : Item) (slots : List (List Flow)) → item.need ≡ 0 → IsKeptOut bar slots item
  idle_is_kept_out item slots none k d below = and_left _ _ (ap (nat_lt 0) none)

  -- what holds of all items holds of those that a batch did not serve
  pub All-unserved : (P : Item → Type 0) (number : ℕ) (list : List Item) (slots : List (List Flow)) → All P list → All P (unserved number (items_after bar number list slots))
  All-unserved P number [] slots all = All-nil P
  All-unserved P number (item ∷ list) slots all =
      let now : Item = item_after bar number item slots in
      let others : List Item = unserved number (items_after bar number list (slots_with bar number item slots)) in
      let rest = All-unserved P number list (slots_with bar number item slots) (All-tail P item list all) in
      cond_both (nat_lt now.last number) (now ∷ others) others (All P)
      (λ low. All-cons P now others (subst P (sym (item_after_low bar number item slots low)) (All-head P item list all)) rest) (λ _. rest)

-- no entry of the flow
pub no_entry_is : (entries : List Entry) (flow : Flow) → entry_of entries flow ≡ None → All (λ entry. same_flow flow entry.flow ≡ false) entries
no_entry_is [] flow none = All-nil (λ entry. same_flow flow entry.flow ≡ false)
no_entry_is (entry ∷ entries) flow none =
    let differs : same_flow entry.flow flow ≡ false =
    false_from_ne_true _ (λ same. let found : Some entry ≡ None = sym (cond-true (same_flow entry.flow flow) (Some entry) (entry_of entries flow) same) ∙ none in absurd (cc)) in
    let turned : same_flow flow entry.flow ≡ false =
    false_from_ne_true _ (λ same. let hit : same_flow entry.flow flow ≡ true = ap (λ (f : Flow). same_flow f flow) (sym (same_flow-true flow entry.flow same)) ∙ same_flow-refl flow in cc) in
    All-cons (λ e. same_flow flow e.flow ≡ false) entry entries turned
    (no_entry_is entries flow (sym (cond-false (same_flow entry.flow flow) (Some entry) (entry_of entries flow) differs) ∙ none))

module _ (aside : Item → Bool) where
  -- what is so of each item of a list that is set aside
  abbrev pub Asides : (Item → Type 0) → List Item → Type 0
  Asides P list = All (λ item. aside item ≡ true → P item) list

  -- and of each other
  abbrev pub Others : (Item → Type 0) → List Item → Type 0
  Others P list = All (λ item. aside item ≡ false → P item) list

  pub is_set_aside : (item : Item) (list rest : List Item) → aside item ≡ true → weave aside (item ∷ list) rest ≡ item ∷ weave aside list rest
  is_set_aside item list [] out = cond-true (aside item) (item ∷ weave aside list []) (weave aside list []) out
  is_set_aside item list (next ∷ rest) out =
      cond-true (aside item) (item ∷ weave aside list (next ∷ rest)) (cond (stays item next) (next ∷ weave aside list rest) (weave aside list (next ∷ rest))) out

  is_gone : (item : Item) (list rest : List Item) → aside item ≡ false → IsGoneFrom rest item → weave aside (item ∷ list) rest ≡ weave aside list rest
  is_gone item list [] chosen none = cond-false (aside item) (item ∷ weave aside list []) (weave aside list []) chosen
  is_gone item list (next ∷ rest) chosen none =
      cond-false (aside item) (item ∷ weave aside list (next ∷ rest)) (cond (stays item next) (next ∷ weave aside list rest) (weave aside list (next ∷ rest))) chosen
      ∙ cond-false (stays item next) (next ∷ weave aside list rest) (weave aside list (next ∷ rest)) (All-head (λ later. stays item later ≡ false) next rest none)

  pub weave_is : (list rest whole : List Item) → Weaves aside list rest whole → weave aside list rest ≡ whole
  weave_is _ _ _ (ended rest) = refl
  weave_is _ _ _ (set_aside item list rest whole out weaves) = is_set_aside item list rest out ∙ ap (λ (xs : List Item). item ∷ xs) (weave_is list rest whole weaves)
  weave_is _ _ _ (stayed item next list rest whole chosen stands none weaves) =
      cond-false (aside item) (item ∷ weave aside list (next ∷ rest)) (cond (stays item next) (next ∷ weave aside list rest) (weave aside list (next ∷ rest))) chosen
      ∙ (cond-true (stays item next) (next ∷ weave aside list rest) (weave aside list (next ∷ rest)) stands ∙ ap (λ (xs : List Item). next ∷ xs) (weave_is list rest whole weaves))
  weave_is _ _ _ (gone item list rest whole chosen none weaves) = is_gone item list rest chosen none ∙ weave_is list rest whole weaves

  -- what holds of the whole holds of the rest
  pub All-rest : (P : Item → Type 0) (list rest whole : List Item) → Weaves aside list rest whole → All P whole → All P rest
  All-rest P _ _ _ (ended rest) all = all
  All-rest P _ _ _ (set_aside item list rest whole out weaves) all = All-rest P list rest whole weaves (All-tail P item whole all)
  All-rest P _ _ _ (stayed item next list rest whole chosen stands none weaves) all =
      All-cons P next rest (All-head P next whole all) (All-rest P list rest whole weaves (All-tail P next whole all))
  All-rest P _ _ _ (gone item list rest whole chosen none weaves) all = All-rest P list rest whole weaves all

  -- the flows that are not set aside
  pub listed_in_rest : (flow : Flow) (list rest whole : List Item) → Weaves aside list rest whole → Asides (λ item. same_flow item.flow flow ≡ false) list → is_listed whole flow ≡ is_listed rest flow
  listed_in_rest flow _ _ _ (ended rest) others = refl
  listed_in_rest flow _ _ _ (set_aside item list rest whole out weaves) others =
      ap (λ b. b || is_listed whole flow) (All-head (λ x. aside x ≡ true → same_flow x.flow flow ≡ false) item list others out)
      ∙ listed_in_rest flow list rest whole weaves (All-tail (λ x. aside x ≡ true → same_flow x.flow flow ≡ false) item list others)
  listed_in_rest flow _ _ _ (stayed item next list rest whole chosen stands none weaves) others =
      ap (λ b. same_flow next.flow flow || b) (listed_in_rest flow list rest whole weaves (All-tail (λ x. aside x ≡ true → same_flow x.flow flow ≡ false) item list others))
  listed_in_rest flow _ _ _ (gone item list rest whole chosen none weaves) others =
      listed_in_rest flow list rest whole weaves (All-tail (λ x. aside x ≡ true → same_flow x.flow flow ≡ false) item list others)

  -- a list is woven from the items that are picked
  pub weaves_picked : (list : List Item) → HasEachFlowOnce list → Weaves aside list (picked aside list) list
  weaves_picked [] once = ended []
  weaves_picked (item ∷ list) once =
      let Other : Item → Item → Type 0 = λ i j. i.flow ≢ j.flow in
      let rest = weaves_picked list (AllPairs-tail Other item list once) in
      let differs : (x : Item) → Other item x → stays item x ≡ false = λ x other. and_left _ _ (false_from_ne_true _ (λ same. other (same_flow-true item.flow x.flow same))) in
      let none : IsGoneFrom (picked aside list) item =
      All-filter (λ x. not (aside x)) (λ x. stays item x ≡ false) list (All-weaker (Other item) (λ x. stays item x ≡ false) differs list (AllPairs-head Other item list once)) in
      elim (cases_Bool (aside item)) [
        | inl out ↦ subst (λ (xs : List Item). Weaves aside (item ∷ list) xs (item ∷ list))
            (sym (cond-false (not (aside item)) (item ∷ picked aside list) (picked aside list) (not_from_true _ out))) (set_aside item list (picked aside list) list out rest)
        | inr chosen ↦ subst (λ (xs : List Item). Weaves aside (item ∷ list) xs (item ∷ list))
            (sym (cond-true (not (aside item)) (item ∷ picked aside list) (picked aside list) (not_from_false _ chosen)))
            (stayed item item list (picked aside list) list chosen (and_from _ _ (same_flow-refl item.flow) (eq-eqb item.last item.last refl)) none rest)
      ]

  -- a batch is applied
  pub applied_to_both : (entries : List Entry) (list rest whole : List Item) → Weaves aside list rest whole → Asides (λ item. entry_of entries item.flow ≡ None) list
      → Weaves aside list (map (with_batch entries) rest) (map (with_batch entries) whole)
  applied_to_both entries _ _ _ (ended rest) no_entries = ended (map (with_batch entries) rest)
  applied_to_both entries _ _ _ (set_aside item list rest whole out weaves) no_entries =
      let NoEntry : Item → Type 0 = λ x. aside x ≡ true → entry_of entries x.flow ≡ None in
      let same : item ≡ with_batch entries item = ap (λ (entry : Option Entry). record item { need = need_with entry item.need }) (sym (All-head NoEntry item list no_entries out)) in
      subst (λ (x : Item). Weaves aside (item ∷ list) (map (with_batch entries) rest) (x ∷ map (with_batch entries) whole)) same
      (set_aside item list (map (with_batch entries) rest) (map (with_batch entries) whole) out (applied_to_both entries list rest whole weaves (All-tail NoEntry item list no_entries)))
  applied_to_both entries _ _ _ (stayed item next list rest whole chosen stands none weaves) no_entries =
      stayed item (with_batch entries next) list (map (with_batch entries) rest) (map (with_batch entries) whole) chosen stands (All-map (λ later. stays item later ≡ false) (with_batch entries) rest none)
      (applied_to_both entries list rest whole weaves (All-tail (λ x. aside x ≡ true → entry_of entries x.flow ≡ None) item list no_entries))
  applied_to_both entries _ _ _ (gone item list rest whole chosen none weaves) no_entries =
      gone item list (map (with_batch entries) rest) (map (with_batch entries) whole) chosen (All-map (λ later. stays item later ≡ false) (with_batch entries) rest none)
      (applied_to_both entries list rest whole weaves (All-tail (λ x. aside x ≡ true → entry_of entries x.flow ≡ None) item list no_entries))

  -- more comes behind, in which nothing of the list stands as it stood
  pub more_behind_both : (more list rest whole : List Item) → Weaves aside list rest whole → Others (IsGoneFrom more) list → Weaves aside list (rest ++ more) (whole ++ more)
  more_behind_both more _ _ _ (ended rest) others = ended (rest ++ more)
  more_behind_both more _ _ _ (set_aside item list rest whole out weaves) others =
      set_aside item list (rest ++ more) (whole ++ more) out (more_behind_both more list rest whole weaves (All-tail (λ x. aside x ≡ false → IsGoneFrom more x) item list others))
  more_behind_both more _ _ _ (stayed item next list rest whole chosen stands none weaves) others =
      stayed item next list (rest ++ more) (whole ++ more) chosen stands
      (All-append (λ later. stays item later ≡ false) rest more none (All-head (λ x. aside x ≡ false → IsGoneFrom more x) item list others chosen))
      (more_behind_both more list rest whole weaves (All-tail (λ x. aside x ≡ false → IsGoneFrom more x) item list others))
  more_behind_both more _ _ _ (gone item list rest whole chosen none weaves) others =
      gone item list (rest ++ more) (whole ++ more) chosen
      (All-append (λ later. stays item later ≡ false) rest more none (All-head (λ x. aside x ≡ false → IsGoneFrom more x) item list others chosen))
      (more_behind_both more list rest whole weaves (All-tail (λ x. aside x ≡ false → IsGoneFrom more x) item list others))

  module _ (bar : Bar) (number : ℕ) where
    abbrev Low : Item → Type 0
    Low item = aside item ≡ true → item.last < number

    kept_aside : (item : Item) (list rest : List Item) (slots : List (List Flow)) → aside item ≡ true → AreKeptOut aside bar number (item ∷ list) rest slots
        → IsKeptOut bar slots item × AreKeptOut aside bar number list rest slots
    kept_aside item list [] slots out kept = (kept.0 out, kept.1)
    kept_aside item list (next ∷ rest) slots out kept = kept.0 out

    kept_stayed : (item next : Item) (list rest : List Item) (slots : List (List Flow)) → aside item ≡ false → stays item next ≡ true → AreKeptOut aside bar number (item ∷ list) (next ∷ rest) slots
        → AreKeptOut aside bar number list rest (slots_with bar number next slots)
    kept_stayed item next list rest slots chosen stands kept = kept.1 chosen stands

    kept_gone : (item : Item) (list rest : List Item) (slots : List (List Flow)) → aside item ≡ false → IsGoneFrom rest item → AreKeptOut aside bar number (item ∷ list) rest slots
        → AreKeptOut aside bar number list rest slots
    kept_gone item list [] slots chosen none kept = kept.1
    kept_gone item list (next ∷ rest) slots chosen none kept = kept.2 chosen (All-head (λ later. stays item later ≡ false) next rest none)

    -- where none of them needs a slot
    pub idle_are_kept_out : (list rest : List Item) (slots : List (List Flow)) → Asides (λ item. item.need ≡ 0) list → AreKeptOut aside bar number list rest slots
    idle_are_kept_out [] rest slots idle = tt
    idle_are_kept_out (item ∷ list) [] slots idle =
        let Idle : Item → Type 0 = λ x. aside x ≡ true → x.need ≡ 0 in
        (λ out. idle_is_kept_out bar item slots (All-head Idle item list idle out), idle_are_kept_out list [] slots (All-tail Idle item list idle))
    idle_are_kept_out (item ∷ list) (next ∷ rest) slots idle =
        let Idle : Item → Type 0 = λ x. aside x ≡ true → x.need ≡ 0 in
        let others = All-tail Idle item list idle in (
          λ out. (idle_is_kept_out bar item slots (All-head Idle item list idle out), idle_are_kept_out list (next ∷ rest) slots others),
          λ _ _. idle_are_kept_out list rest (slots_with bar number next slots) others,
          λ _ _. idle_are_kept_out list (next ∷ rest) slots others,
        )

    -- the slots are filled by the rest alone
    pub same_slots : (list rest whole : List Item) (slots : List (List Flow)) → Weaves aside list rest whole → AreKeptOut aside bar number list rest slots
        → slots_after bar number whole slots ≡ slots_after bar number rest slots
    same_slots _ _ _ slots (ended rest) kept = refl
    same_slots _ _ _ slots (set_aside item list rest whole out weaves) kept =
        let both = kept_aside item list rest slots out kept in
        ap (slots_after bar number whole) (takes_none bar number item slots both.0) ∙ same_slots list rest whole slots weaves both.1
    same_slots _ _ _ slots (stayed item next list rest whole chosen stands none weaves) kept =
        same_slots list rest whole (slots_with bar number next slots) weaves (kept_stayed item next list rest slots chosen stands kept)
    same_slots _ _ _ slots (gone item list rest whole chosen none weaves) kept = same_slots list rest whole slots weaves (kept_gone item list rest slots chosen none kept)

    -- which alone has items that are served
    pub same_served : (list rest whole : List Item) (slots : List (List Flow)) → Weaves aside list rest whole → All Low list → AreKeptOut aside bar number list rest slots
        → newly_served number (items_after bar number whole slots) ≡ newly_served number (items_after bar number rest slots)
    same_served _ _ _ slots (ended rest) low kept = refl
    same_served _ _ _ slots (set_aside item list rest whole out weaves) low kept =
        let both = kept_aside item list rest slots out kept in
        let others : List Item = newly_served number (items_after bar number whole slots) in
        ap (λ (x : Item). newly_served number (x ∷ items_after bar number whole (slots_with bar number item slots))) (is_as_it_was bar number item slots both.0)
        ∙ (ap (λ (s : List (List Flow)). newly_served number (item ∷ items_after bar number whole s)) (takes_none bar number item slots both.0)
        ∙ (cond-false (not (nat_lt item.last number)) (item ∷ others) others (not_from_true _ (lt-ltb _ _ (All-head Low item list low out)))
        ∙ same_served list rest whole slots weaves (All-tail Low item list low) both.1))
    same_served _ _ _ slots (stayed item next list rest whole chosen stands none weaves) low kept =
        let now : Item = item_after bar number next slots in
        ap (λ (xs : List Item). cond (not (nat_lt now.last number)) (now ∷ xs) xs)
        (same_served list rest whole (slots_with bar number next slots) weaves (All-tail Low item list low) (kept_stayed item next list rest slots chosen stands kept))
    same_served _ _ _ slots (gone item list rest whole chosen none weaves) low kept =
        same_served list rest whole slots weaves (All-tail Low item list low) (kept_gone item list rest slots chosen none kept)

    -- what is left as it was
    pub unserved_of_both : (list rest whole : List Item) (slots : List (List Flow)) → Weaves aside list rest whole → All Low list → AreKeptOut aside bar number list rest slots
        → Weaves aside list (unserved number (items_after bar number rest slots)) (unserved number (items_after bar number whole slots))
    unserved_of_both _ _ _ slots (ended rest) low kept = ended (unserved number (items_after bar number rest slots))
    unserved_of_both _ _ _ slots (set_aside item list rest whole out weaves) low kept =
        let both = kept_aside item list rest slots out kept in
        let left : List Item = unserved number (items_after bar number rest slots) in
        let others : List Item = unserved number (items_after bar number whole slots) in
        let is : unserved number (items_after bar number (item ∷ whole) slots) ≡ item ∷ others =
        ap (λ (x : Item). unserved number (x ∷ items_after bar number whole (slots_with bar number item slots))) (is_as_it_was bar number item slots both.0)
        ∙ (ap (λ (s : List (List Flow)). unserved number (item ∷ items_after bar number whole s)) (takes_none bar number item slots both.0)
        ∙ cond-true (nat_lt item.last number) (item ∷ others) others (lt-ltb _ _ (All-head Low item list low out))) in
        subst (Weaves aside (item ∷ list) left) (sym is) (set_aside item list left others out (unserved_of_both list rest whole slots weaves (All-tail Low item list low) both.1))
    unserved_of_both _ _ _ slots (stayed item next list rest whole chosen stands none weaves) low kept =
        let now : Item = item_after bar number next slots in
        let later : List (List Flow) = slots_with bar number next slots in
        let left : List Item = unserved number (items_after bar number rest later) in
        let others : List Item = unserved number (items_after bar number whole later) in
        let still_none : IsGoneFrom left item = All-unserved bar (λ x. stays item x ≡ false) number rest later none in
        let woven = unserved_of_both list rest whole later weaves (All-tail Low item list low) (kept_stayed item next list rest slots chosen stands kept) in
        let P : Bool → Type 0 = λ b. Weaves aside (item ∷ list) (cond b (now ∷ left) left) (cond b (now ∷ others) others) in
        elim (cases_Bool (nat_lt now.last number)) [
          | inl below ↦ subst P (sym below)
              (stayed item now list left others chosen (ap (stays item) (item_after_low bar number next slots below) ∙ stands) still_none woven)
          | inr high ↦ subst P (sym high) (gone item list left others chosen still_none woven)
        ]
    unserved_of_both _ _ _ slots (gone item list rest whole chosen none weaves) low kept =
        gone item list (unserved number (items_after bar number rest slots)) (unserved number (items_after bar number whole slots)) chosen
        (All-unserved bar (λ x. stays item x ≡ false) number rest slots none)
        (unserved_of_both list rest whole slots weaves (All-tail Low item list low) (kept_gone item list rest slots chosen none kept))
