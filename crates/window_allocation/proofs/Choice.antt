-- Items of a list that are chosen one after another.
use Rattle.std.proofs.Common.{◌≡◌, ◌≢◌, ◌<◌, ◌≤◌, ◌+◌, ℕ, zero, suc, List, [], ◌∷◌, ◌++◌, length, get_or, take, Bool, true, false, not, ◌||◌, cond, All, refl, sym, ap, ◌∙◌, subst, arith}
use Rattle.std.proofs.lemmas.Bool.{cond_both, or_left, not-true}
use Rattle.std.proofs.lemmas.List.{append-nil, take_all, take_more, length-take, length-append}
use Rattle.std.proofs.lemmas.List.Elements.{All-nil, All-cons, All-head, All-tail, All-weaker}
use Rattle.std.proofs.lemmas.List.Folds.{list_any_none}
use Rattle.list_facts.proofs.Pairs.{AllPairs-head, AllPairs-tail}
use Rattle.greedy_rules.specs.declared.flows.Item.{Item}
use Rattle.greedy_rules.specs.Flows.{same_flow}
use Rattle.greedy_rules.specs.Demands.{HasEachFlowOnce, is_listed}
use Rattle.greedy_rules.proofs.Facts.{same_flow-refl}
use Rattle.greedy_rules.proofs.CellLemmas.{differs}
use Rattle.slot_batches.specs.Marks.{WindowMarks, has_mark}
use Rattle.slot_batches.specs.Woven.{picked, places_from}
use Rattle.window_allocation.specs.Picked.{IsReached}

-- the items that these choices choose, and the places of those, the first item's being this one
abbrev pub chosen : List Bool → List Item → List Item
chosen [] list = []
chosen (choice ∷ choices) [] = []
chosen (choice ∷ choices) (item ∷ list) = cond choice (item ∷ chosen choices list) (chosen choices list)

abbrev pub chosen_places : ℕ → List Bool → List ℕ
chosen_places place [] = []
chosen_places place (choice ∷ choices) = cond choice (place ∷ chosen_places (place + 1) choices) (chosen_places (place + 1) choices)

-- whoever is not chosen has no mark
abbrev pub LeaveUnmarked : WindowMarks → List Bool → List Item → Type 0
LeaveUnmarked marks [] list = Unit {0}
LeaveUnmarked marks (choice ∷ choices) [] = Unit {0}
LeaveUnmarked marks (choice ∷ choices) (item ∷ list) = (choice ≡ false → has_mark marks item.flow ≡ false) × LeaveUnmarked marks choices list

cons_if : {X : Type 0} (b : Bool) (x : X) (xs ys zs : List X) → xs ≡ ys ++ zs → cond b (x ∷ xs) xs ≡ cond b (x ∷ ys) ys ++ zs
cons_if true x xs ys zs same = ap (λ (ws : List _). x ∷ ws) same
cons_if false x xs ys zs same = same

-- one choice more
chosen_more : (choices : List Bool) (choice : Bool) (list : List Item) (item : Item) → length choices ≡ length list → chosen (choices ++ choice ∷ []) (list ++ item ∷ []) ≡ chosen choices list ++ cond choice (item ∷ []) []
chosen_more [] choice [] item same = refl
chosen_more [] choice (x ∷ list) item same = absurd (omega arith)
chosen_more (c ∷ choices) choice [] item same = absurd (omega arith)
chosen_more (c ∷ choices) choice (x ∷ list) item same =
    cons_if c x (chosen (choices ++ choice ∷ []) (list ++ item ∷ [])) (chosen choices list) (cond choice (item ∷ []) []) (chosen_more choices choice list item (omega (arith, same)))

places_more : (place : ℕ) (choices : List Bool) (choice : Bool) → chosen_places place (choices ++ choice ∷ []) ≡ chosen_places place choices ++ cond choice ((place + length choices) ∷ []) []
places_more place [] choice = let here : place ≡ place + 0 = omega arith in ap (λ (n : ℕ). cond choice (n ∷ []) []) here
places_more place (c ∷ choices) choice =
    let here : (place + 1) + length choices ≡ place + length (c ∷ choices) = omega arith in
    cons_if c place (chosen_places (place + 1) (choices ++ choice ∷ [])) (chosen_places (place + 1) choices) (cond choice ((place + length (c ∷ choices)) ∷ []) [])
    (places_more (place + 1) choices choice ∙ ap (λ (n : ℕ). chosen_places (place + 1) choices ++ cond choice (n ∷ []) []) here)

unmarked_more : (marks : WindowMarks) (choices : List Bool) (choice : Bool) (list : List Item) (item : Item) → length choices ≡ length list → (choice ≡ false → has_mark marks item.flow ≡ false) → LeaveUnmarked marks choices list
    → LeaveUnmarked marks (choices ++ choice ∷ []) (list ++ item ∷ [])
unmarked_more marks [] choice [] item same one all = (one, tt)
unmarked_more marks [] choice (x ∷ list) item same one all = absurd (omega arith)
unmarked_more marks (c ∷ choices) choice [] item same one all = absurd (omega arith)
unmarked_more marks (c ∷ choices) choice (x ∷ list) item same one all = (all.0, unmarked_more marks choices choice list item (omega (arith, same)) one all.1)

-- so many items were gone through
pub record AreChosen (marks : WindowMarks) (list : List Item) (at : ℕ) (found : List Item) (places : List ℕ) : Type 0 where
  pub choices : List Bool
  pub count : length choices ≡ at
  pub items : found ≡ chosen choices (take at list)
  pub at_places : places ≡ chosen_places 0 choices
  pub unmarked : LeaveUnmarked marks choices (take at list)

pub none_chosen : (marks : WindowMarks) (list : List Item) → AreChosen marks list 0 [] []
none_chosen marks list = record { choices = []; count = refl; items = refl; at_places = refl; unmarked = tt }

pub one_chosen : (marks : WindowMarks) (list : List Item) (at : ℕ) (d : Item) (choice : Bool) (found now : List Item) (places places_now : List ℕ) → at < length list → AreChosen marks list at found places
    → now ≡ found ++ cond choice (get_or list at d ∷ []) [] → places_now ≡ places ++ cond choice (at ∷ []) [] → (choice ≡ false → has_mark marks (get_or list at d).flow ≡ false) → AreChosen marks list (at + 1) now places_now
one_chosen marks list at d choice found now places places_now inside are now_is places_is unmarked =
    let item : Item = get_or list at d in
    let front : take (at + 1) list ≡ take at list ++ item ∷ [] = take_more list at d inside in
    let long : length are.choices ≡ length (take at list) = omega (arith, are.count, length-take at list) in
    record {
      choices = are.choices ++ choice ∷ [];
      count = omega (arith, length-append are.choices (choice ∷ []), are.count);
      items = now_is
          ∙ (ap (λ (xs : List Item). xs ++ cond choice (item ∷ []) []) are.items
          ∙ (sym (chosen_more are.choices choice (take at list) item long) ∙ ap (chosen (are.choices ++ choice ∷ [])) (sym front)));
      at_places = places_is
          ∙ (ap (λ (ps : List ℕ). ps ++ cond choice (at ∷ []) []) are.at_places
          ∙ (ap (λ (n : ℕ). chosen_places 0 are.choices ++ cond choice (n ∷ []) []) (omega (arith, are.count)) ∙ sym (places_more 0 are.choices choice)));
      unmarked = subst (LeaveUnmarked marks (are.choices ++ choice ∷ [])) (sym front) (unmarked_more marks are.choices choice (take at list) item long unmarked are.unmarked);
    }

-- so many items more, of which none is chosen
pub passed_chosen : (marks : WindowMarks) (list : List Item) (at : ℕ) (d : Item) (n : ℕ) (found : List Item) (places : List ℕ) → at + n ≤ length list
    → ((other : ℕ) → at ≤ other → other < at + n → has_mark marks (get_or list other d).flow ≡ false) → AreChosen marks list at found places → AreChosen marks list (at + n) found places
passed_chosen marks list at d zero found places within none are = let same : at ≡ at + 0 = omega arith in subst (λ (k : ℕ). AreChosen marks list k found places) same are
passed_chosen marks list at d (suc n) found places within none are =
    let next : at + n + 1 ≡ at + suc n = omega arith in
    let before = passed_chosen marks list at d n found places (omega (arith, within)) (λ other from below. none other from (omega (arith, below))) are in
    subst (λ (k : ℕ). AreChosen marks list k found places) next
    (one_chosen marks list (at + n) d false found found places places (omega (arith, within)) before (sym (append-nil found)) (sym (append-nil places)) (λ _. none (at + n) (omega arith) (omega arith)))

-- ---- whoever is not chosen is set aside

abbrev unlisted : List Item → Item → Bool
unlisted found item = not (is_listed found item.flow)

abbrev Agree : (Item → Bool) → List Bool → List Item → Type 0
Agree aside [] list = Unit {0}
Agree aside (choice ∷ choices) [] = Unit {0}
Agree aside (choice ∷ choices) (item ∷ list) = (aside item ≡ not choice) × Agree aside choices list

agree_too : (aside other : Item → Bool) (choices : List Bool) (list : List Item) → All (λ item. other item ≡ aside item) list → Agree aside choices list → Agree other choices list
agree_too aside other [] list same agree = tt
agree_too aside other (choice ∷ choices) [] same agree = tt
agree_too aside other (choice ∷ choices) (item ∷ list) same agree = (
  All-head (λ x. other x ≡ aside x) item list same ∙ agree.0,
  agree_too aside other choices list (All-tail (λ x. other x ≡ aside x) item list same) agree.1,
)

All-chosen : (P : Item → Type 0) (choices : List Bool) (list : List Item) → All P list → All P (chosen choices list)
All-chosen P [] list all = All-nil P
All-chosen P (choice ∷ choices) [] all = All-nil P
All-chosen P (choice ∷ choices) (item ∷ list) all =
    let rest = All-chosen P choices list (All-tail P item list all) in
    cond_both choice (item ∷ chosen choices list) (chosen choices list) (All P) (λ _. All-cons P item (chosen choices list) (All-head P item list all) rest) (λ _. rest)

agrees_more : (choice : Bool) (choices : List Bool) (item : Item) (list : List Item) → All (λ j. item.flow ≢ j.flow) list → Agree (unlisted (chosen choices list)) choices list
    → Agree (unlisted (cond choice (item ∷ chosen choices list) (chosen choices list))) (choice ∷ choices) (item ∷ list)
agrees_more true choices item list others more = (
  ap not (or_left (same_flow item.flow item.flow) (is_listed (chosen choices list) item.flow) (same_flow-refl item.flow)),
  agree_too (unlisted (chosen choices list)) (unlisted (item ∷ chosen choices list)) choices list
      (All-weaker (λ j. item.flow ≢ j.flow) (λ j. unlisted (item ∷ chosen choices list) j ≡ unlisted (chosen choices list) j)
      (λ j apart. ap (λ (b : Bool). not (b || is_listed (chosen choices list) j.flow)) (differs item.flow j.flow apart)) list others)
      more,
)
agrees_more false choices item list others more = (
  ap not (list_any_none (λ (x : Item). same_flow x.flow item.flow) (chosen choices list)
      (All-weaker (λ j. item.flow ≢ j.flow) (λ j. same_flow j.flow item.flow ≡ false) (λ j apart. differs j.flow item.flow (λ same. apart (sym same))) (chosen choices list)
      (All-chosen (λ j. item.flow ≢ j.flow) choices list others))),
  more,
)

agrees : (choices : List Bool) (list : List Item) → HasEachFlowOnce list → Agree (unlisted (chosen choices list)) choices list
agrees [] list once = tt
agrees (choice ∷ choices) [] once = tt
agrees (choice ∷ choices) (item ∷ list) once =
    agrees_more choice choices item list (AllPairs-head (λ i j. i.flow ≢ j.flow) item list once) (agrees choices list (AllPairs-tail (λ i j. i.flow ≢ j.flow) item list once))

picked_is : (aside : Item → Bool) (choices : List Bool) (list : List Item) → length choices ≡ length list → Agree aside choices list → chosen choices list ≡ picked aside list
picked_is aside [] [] same agree = refl
picked_is aside [] (item ∷ list) same agree = absurd (omega arith)
picked_is aside (choice ∷ choices) [] same agree = absurd (omega arith)
picked_is aside (choice ∷ choices) (item ∷ list) same agree =
    let rest : chosen choices list ≡ picked aside list = picked_is aside choices list (omega (arith, same)) agree.1 in
    (λ i. cond choice (item ∷ rest i) (rest i))
    ∙ ap (λ (b : Bool). cond b (item ∷ picked aside list) (picked aside list)) (twice choice ∙ ap not (sym agree.0))
  where
    twice : (b : Bool) → b ≡ not (not b)
    twice true = refl
    twice false = refl

places_are : (aside : Item → Bool) (place : ℕ) (choices : List Bool) (list : List Item) → length choices ≡ length list → Agree aside choices list → chosen_places place choices ≡ places_from aside place list
places_are aside place [] [] same agree = refl
places_are aside place [] (item ∷ list) same agree = absurd (omega arith)
places_are aside place (choice ∷ choices) [] same agree = absurd (omega arith)
places_are aside place (choice ∷ choices) (item ∷ list) same agree =
    let rest : chosen_places (place + 1) choices ≡ places_from aside (place + 1) list = places_are aside (place + 1) choices list (omega (arith, same)) agree.1 in
    (λ i. cond choice (place ∷ rest i) (rest i))
    ∙ (turned choice (place ∷ places_from aside (place + 1) list) (places_from aside (place + 1) list)
    ∙ ap (λ (b : Bool). cond b (places_from aside (place + 1) list) (place ∷ places_from aside (place + 1) list)) (sym agree.0))
  where
    turned : (b : Bool) (xs ys : List ℕ) → cond b xs ys ≡ cond (not b) ys xs
    turned true xs ys = refl
    turned false xs ys = refl

left_unmarked : (marks : WindowMarks) (aside : Item → Bool) (choices : List Bool) (list : List Item) → length choices ≡ length list → Agree aside choices list → LeaveUnmarked marks choices list
    → All (λ item. aside item ≡ true → has_mark marks item.flow ≡ false) list
left_unmarked marks aside [] [] same agree unmarked = All-nil (λ item. aside item ≡ true → has_mark marks item.flow ≡ false)
left_unmarked marks aside [] (item ∷ list) same agree unmarked = absurd (omega arith)
left_unmarked marks aside (choice ∷ choices) [] same agree unmarked = absurd (omega arith)
left_unmarked marks aside (choice ∷ choices) (item ∷ list) same agree unmarked =
    All-cons (λ x. aside x ≡ true → has_mark marks x.flow ≡ false) item list (λ is. unmarked.0 (not-true _ (sym agree.0 ∙ is)))
    (left_unmarked marks aside choices list (omega (arith, same)) agree.1 unmarked.1)

pub all_chosen : (marks : WindowMarks) (list : List Item) (at : ℕ) (found : List Item) (places : List ℕ) → at ≡ length list → HasEachFlowOnce list → AreChosen marks list at found places → IsReached marks list found places
all_chosen marks list at found places end once are =
    let whole : take at list ≡ list = take_all at list (omega (arith, end)) in
    let count : length are.choices ≡ length list = are.count ∙ end in
    let agree = agrees are.choices list once in
    record {
      aside = unlisted (chosen are.choices list);
      at = are.at_places ∙ places_are (unlisted (chosen are.choices list)) 0 are.choices list count agree;
      are = are.items ∙ (ap (chosen are.choices) whole ∙ picked_is (unlisted (chosen are.choices list)) are.choices list count agree);
      unmarked = left_unmarked marks (unlisted (chosen are.choices list)) are.choices list count agree (subst (LeaveUnmarked marks are.choices) whole are.unmarked);
    }
