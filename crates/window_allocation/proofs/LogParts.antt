-- Two logs as one list in order.
use Rattle.std.proofs.Common.{◌≡◌, ◌≢◌, ◌<◌, ◌≤◌, ◌*◌, ℕ, List, [], ◌∷◌, ◌++◌, length, get_or, Bool, true, false, not, ◌||◌, cond, All, refl, sym, ap, ◌∙◌, subst, arith}
use Rattle.std.proofs.lemmas.Bool.{both_ways, false_from_ne_true}
use Rattle.std.proofs.lemmas.List.{append-nil, length-append}
use Rattle.std.proofs.lemmas.List.Elements.{All-head, All-tail, All-weaker, All-get_or, All-from_get_or, All-append, All-filter, filter-append, filter_passes}
use Rattle.list_facts.proofs.Lists.{filter_all, filter_none, All-front, all_back}
use Rattle.std.proofs.lemmas.List.Folds.{list_any-append}
use Rattle.greedy_rules.specs.declared.flows.Item.{Item}
use Rattle.greedy_rules.specs.Flows.{same_flow}
use Rattle.greedy_rules.specs.Batches.{DemandBatch}
use Rattle.greedy_rules.specs.Demands.{is_listed, HasEachFlowOnce, AreBelow}
use Rattle.greedy_rules.proofs.Facts.{same_flow-true}
use Rattle.slot_batches.specs.Feeding.{was_served}
use Rattle.slot_batches.specs.Woven.{picked, weave, woven, never_served, once_served, HaveNoEntry, NeedNothing}
use Rattle.window_allocation.specs.Logged.{Logged, is_left, MayBeLogged, AreParts}
use Rattle.window_allocation.proofs.Weaving.{none_picked}
use Rattle.window_allocation.proofs.LogLemmas.{none_listed}
use Rattle.window_allocation.proofs.LogWeaving.{Other, once_parts, all_woven, weave_agrees}

-- nothing is picked where none is listed
pub none_left : (items : List Item) → [] ≡ picked (is_left []) items
none_left items = sym (none_picked (is_left []) items (All-from_get_or (λ x. is_left [] x ≡ true) items (record { flow = record { src = 0; dst = 0 }; need = 0; last = 0 }) (λ i inside. refl)))

abbrev pub filled : ℕ → List Item → Logged
filled endpoints items = record { endpoints = endpoints; items = items; picked = [] }

served_none : (x : Item) → not (was_served x) ≡ true → was_served x ≡ false
served_none x is = false_from_ne_true (was_served x) (λ served. both_ways (not (was_served x)) (ap not served) is)

-- what each of two logs owes, and that they are a list
pub record AreFilled (endpoints : ℕ) (first then : List Item) : Type 0 where
  pub once : HasEachFlowOnce first × HasEachFlowOnce then
  pub below : AreBelow endpoints first × AreBelow endpoints then
  pub few : (length first ≤ endpoints * endpoints) × (length then ≤ endpoints * endpoints)

pub are_filled : (endpoints : ℕ) (first then : List Item) → MayBeLogged endpoints (first ++ then) → AreFilled endpoints first then
are_filled endpoints first then may =
    let Below : Item → Type 0 = λ x. (x.flow.src < endpoints) × (x.flow.dst < endpoints) in
    let once = once_parts first then may.once in
    record {
      once = (once.0, once.1);
      below = (All-front Below first then may.below, all_back Below first then may.below);
      few = (omega (arith, may.few, length-append first then), omega (arith, may.few, length-append first then));
    }

pub parts_of : (endpoints : ℕ) (list first then : List Item) → endpoints ≤ 256 → MayBeLogged endpoints list → first ++ then ≡ list → first ≡ never_served list → then ≡ once_served list
    → AreParts (filled endpoints first) (filled endpoints then)
parts_of endpoints list first then few may whole never once = record {
  few = few;
  same = refl;
  may = subst (MayBeLogged endpoints) (sym whole) may;
  never_served = subst (All (λ x. was_served x ≡ false)) (sym never)
      (All-weaker (λ x. not (was_served x) ≡ true) (λ x. was_served x ≡ false) served_none (never_served list) (filter_passes (λ x. not (was_served x)) list));
  once_served = subst (All (λ x. was_served x ≡ true)) (sym once) (filter_passes was_served list);
  never_picked = none_left first;
  once_picked = none_left then;
}

-- ---- what is picked of both

or_nothing : (b : Bool) → (b || false) ≡ b
or_nothing true = refl
or_nothing false = refl

apart_from : (x y : Item) → x.flow ≢ y.flow → same_flow x.flow y.flow ≡ false
apart_from x y other = false_from_ne_true _ (λ same. other (same_flow-true x.flow y.flow same))

-- an item of one log is not listed among those picked of the other
pub record AreLeftApart (never served : Logged) : Type 0 where
  pub first : All (λ x. is_left (never.picked ++ served.picked) x ≡ is_left never.picked x) never.items
  pub then : All (λ x. is_left (never.picked ++ served.picked) x ≡ is_left served.picked x) served.items

pub left_apart : (never served : Logged) → AreParts never served → AreLeftApart never served
left_apart never served parts =
    let d : Item = record { flow = record { src = 0; dst = 0 }; need = 0; last = 0 } in
    let firsts : List Item = never.items in
    let thens : List Item = served.items in
    let all : All (λ x. All (Other x) thens) firsts = (once_parts firsts thens parts.may.once).2 in
    record {
      first = All-from_get_or (λ x. is_left (never.picked ++ served.picked) x ≡ is_left never.picked x) firsts d (λ i inside.
          let x : Item = get_or firsts i d in
          let others : All (λ y. same_flow y.flow x.flow ≡ false) thens =
          All-weaker (Other x) (λ y. same_flow y.flow x.flow ≡ false) (λ y other. apart_from y x (λ e. other (sym e))) thens (All-get_or (λ z. All (Other z) thens) firsts i d inside all) in
          let none : is_listed served.picked x.flow ≡ false =
          none_listed served.picked x.flow (subst (All (λ y. same_flow y.flow x.flow ≡ false)) (sym parts.once_picked) (All-filter (λ y. not (is_left served.picked y)) (λ y. same_flow y.flow x.flow ≡ false) thens others)) in
          ap not (list_any-append (λ (y : Item). same_flow y.flow x.flow) never.picked served.picked ∙ (ap (λ (b : Bool). is_listed never.picked x.flow || b) none ∙ or_nothing (is_listed never.picked x.flow))));
      then = All-from_get_or (λ x. is_left (never.picked ++ served.picked) x ≡ is_left served.picked x) thens d (λ i inside.
          let x : Item = get_or thens i d in
          let others : All (λ y. same_flow y.flow x.flow ≡ false) firsts =
          All-weaker (λ y. All (Other y) thens) (λ y. same_flow y.flow x.flow ≡ false) (λ y apart. apart_from y x (All-get_or (Other y) thens i d inside apart)) firsts all in
          let none : is_listed never.picked x.flow ≡ false =
          none_listed never.picked x.flow (subst (All (λ y. same_flow y.flow x.flow ≡ false)) (sym parts.never_picked) (All-filter (λ y. not (is_left never.picked y)) (λ y. same_flow y.flow x.flow ≡ false) firsts others)) in
          ap not (list_any-append (λ (y : Item). same_flow y.flow x.flow) never.picked served.picked ∙ ap (λ (b : Bool). b || is_listed served.picked x.flow) none));
    }

picked_agrees : (a b : Item → Bool) (xs : List Item) → All (λ x. a x ≡ b x) xs → picked a xs ≡ picked b xs
picked_agrees a b [] same = refl
picked_agrees a b (x ∷ xs) same =
    let Same : Item → Type 0 = λ y. a y ≡ b y in
    ap (λ (c : Bool). cond (not c) (x ∷ picked a xs) (picked a xs)) (All-head Same x xs same) ∙ ap (λ (ys : List Item). cond (not (b x)) (x ∷ ys) ys) (picked_agrees a b xs (All-tail Same x xs same))

pub both_picked : (never served : Logged) → AreParts never served → never.picked ++ served.picked ≡ picked (is_left (never.picked ++ served.picked)) (never.items ++ served.items)
both_picked never served parts =
    let chosen : List Item = never.picked ++ served.picked in
    let apart = left_apart never served parts in
    ap (λ (xs : List Item). xs ++ served.picked) (parts.never_picked ∙ sym (picked_agrees (is_left chosen) (is_left never.picked) never.items apart.first))
    ∙ (ap (λ (xs : List Item). picked (is_left chosen) never.items ++ xs) (parts.once_picked ∙ sym (picked_agrees (is_left chosen) (is_left served.picked) served.items apart.then))
    ∙ sym (filter-append (λ x. not (is_left chosen x)) never.items served.items))

need_by : (a b : Item → Bool) (batches : List DemandBatch) (xs : List Item) → All (λ x. a x ≡ b x) xs → NeedNothing b batches xs → NeedNothing a batches xs
need_by a b batches xs same all =
    let d : Item = record { flow = record { src = 0; dst = 0 }; need = 0; last = 0 } in
    let Needs : (Item → Bool) → Item → Type 0 = λ aside x. aside x ≡ true → (x.need ≡ 0) × HaveNoEntry batches x.flow in
    All-from_get_or (Needs a) xs d (λ i inside is. All-get_or (Needs b) xs i d inside all (sym (All-get_or (λ x. a x ≡ b x) xs i d inside same) ∙ is))

pub both_need_nothing : (never served : Logged) (batches : List DemandBatch) → AreParts never served → NeedNothing (is_left never.picked) batches never.items → NeedNothing (is_left served.picked) batches served.items
    → NeedNothing (is_left (never.picked ++ served.picked)) batches (never.items ++ served.items)
both_need_nothing never served batches parts first then =
    let chosen : List Item = never.picked ++ served.picked in
    let apart = left_apart never served parts in
    All-append (λ x. is_left chosen x ≡ true → (x.need ≡ 0) × HaveNoEntry batches x.flow) never.items served.items
    (need_by (is_left chosen) (is_left never.picked) batches never.items apart.first first) (need_by (is_left chosen) (is_left served.picked) batches served.items apart.then then)

-- ---- what is woven of both

never_of : (xs ys : List Item) → All (λ x. was_served x ≡ false) xs → All (λ x. was_served x ≡ true) ys → never_served (xs ++ ys) ≡ xs
never_of xs ys none all =
    filter-append (λ x. not (was_served x)) xs ys
    ∙ (ap (λ (zs : List Item). zs ++ never_served ys) (filter_all (λ x. not (was_served x)) xs (All-weaker (λ x. was_served x ≡ false) (λ x. not (was_served x) ≡ true) (λ x is. ap not is) xs none))
    ∙ (ap (λ (zs : List Item). xs ++ zs) (filter_none (λ x. not (was_served x)) ys (All-weaker (λ x. was_served x ≡ true) (λ x. not (was_served x) ≡ false) (λ x is. ap not is) ys all)) ∙ append-nil xs))

once_of : (xs ys : List Item) → All (λ x. was_served x ≡ false) xs → All (λ x. was_served x ≡ true) ys → once_served (xs ++ ys) ≡ ys
once_of xs ys none all = filter-append was_served xs ys ∙ (ap (λ (zs : List Item). zs ++ once_served ys) (filter_none was_served xs none) ∙ filter_all was_served ys all)

pub woven_of_both : (never served : Logged) (rest first then : List Item) → AreParts never served → first ≡ never_served rest → then ≡ once_served rest
    → woven (is_left (never.picked ++ served.picked)) (never.items ++ served.items) rest ≡ weave (is_left never.picked) never.items first ++ weave (is_left served.picked) served.items then
woven_of_both never served rest first then parts first_is then_is =
    let aside : Item → Bool = is_left (never.picked ++ served.picked) in
    let apart = left_apart never served parts in
    let one : weave aside (never_served (never.items ++ served.items)) (never_served rest) ≡ weave (is_left never.picked) never.items first =
    ap (λ (xs : List Item). weave aside xs (never_served rest)) (never_of never.items served.items parts.never_served parts.once_served)
    ∙ (ap (weave aside never.items) (sym first_is) ∙ weave_agrees aside (is_left never.picked) never.items first apart.first) in
    let two : weave aside (once_served (never.items ++ served.items)) (once_served rest) ≡ weave (is_left served.picked) served.items then =
    ap (λ (xs : List Item). weave aside xs (once_served rest)) (once_of never.items served.items parts.never_served parts.once_served)
    ∙ (ap (weave aside served.items) (sym then_is) ∙ weave_agrees aside (is_left served.picked) served.items then apart.then) in
    ap (λ (xs : List Item). xs ++ weave aside (once_served (never.items ++ served.items)) (once_served rest)) one ∙ ap (λ (xs : List Item). weave (is_left never.picked) never.items first ++ xs) two

pub parts_woven : (never served : Logged) (rest first then : List Item) → AreParts never served → first ≡ never_served rest → then ≡ once_served rest
    → MayBeLogged never.endpoints (woven (is_left (never.picked ++ served.picked)) (never.items ++ served.items) rest)
    → AreParts (filled never.endpoints (weave (is_left never.picked) never.items first)) (filled served.endpoints (weave (is_left served.picked) served.items then))
parts_woven never served rest first then parts first_is then_is may =
    let Never : Item → Type 0 = λ x. was_served x ≡ false in
    let Once : Item → Type 0 = λ x. was_served x ≡ true in
    record {
      few = parts.few;
      same = parts.same;
      may = subst (MayBeLogged never.endpoints) (woven_of_both never served rest first then parts first_is then_is) may;
      never_served = all_woven Never (is_left never.picked) never.items first parts.never_served
          (subst (All Never) (sym first_is) (All-weaker (λ x. not (was_served x) ≡ true) Never served_none (never_served rest) (filter_passes (λ x. not (was_served x)) rest)));
      once_served = all_woven Once (is_left served.picked) served.items then parts.once_served (subst (All Once) (sym then_is) (filter_passes was_served rest));
      never_picked = none_left (weave (is_left never.picked) never.items first);
      once_picked = none_left (weave (is_left served.picked) served.items then);
    }

-- others are picked
pub parts_with : (never served : Logged) (first then : List Item) → AreParts never served → first ≡ picked (is_left first) never.items → then ≡ picked (is_left then) served.items
    → AreParts (record never { picked = first }) (record served { picked = then })
parts_with never served first then parts first_is then_is = record {
  few = parts.few;
  same = parts.same;
  may = parts.may;
  never_served = parts.never_served;
  once_served = parts.once_served;
  never_picked = first_is;
  once_picked = then_is;
}
