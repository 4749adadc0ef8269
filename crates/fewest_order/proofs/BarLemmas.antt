-- What stands before a flow that a slot leaves out.
use Rattle.std.proofs.Common.{◌≡◌, ◌≢◌, ◌<◌, ◌≤◌, ◌+◌, ℕ, List, [], ◌∷◌, ◌++◌, map, get_or, Some, Bool, true, false, ◌||◌, All, refl, sym, ap, ◌∙◌, subst, arith, inl, inr}
use Rattle.std.specs.List.{list_any}
use Rattle.std.proofs.lemmas.Bool.{cases_Bool, cond-true, cond-false, or_parts}
use Rattle.std.proofs.lemmas.List.Elements.{All-nil, All-cons, All-head, All-tail, All-weaker}
use Rattle.list_facts.proofs.Pairs.{AllPairs-head, AllPairs-tail}
use Rattle.list_facts.proofs.StableSort.{Floor, Rises, rises-sort_by}
use Rattle.greedy_rules.specs.declared.flows.Flow.{Flow}
use Rattle.greedy_rules.specs.declared.flows.Item.{Item}
use Rattle.greedy_rules.specs.Flows.{same_flow}
use Rattle.greedy_rules.specs.Demands.{Key, HasEachFlowOnce, is_listed, item_of, need_in, with_batch, opened, after_batch_by}
use Rattle.greedy_rules.specs.Slot.{Bar, has_flow, greedy_slot}
use Rattle.greedy_rules.specs.Limits.{is_barred}
use Rattle.greedy_rules.specs.LeftOut.{EverySlotIsFilledInOrder, EveryBatchKeepsItsOrder}
use Rattle.greedy_rules.specs.Allocation.{batch_slots, batch_lists}
use Rattle.greedy_rules.specs.Examples.{remaining}
use Rattle.greedy_rules.proofs.Facts.{same_flow-true, same_flow-refl}
use Rattle.greedy_rules.proofs.ScheduleLemmas.{slot_in_batch}
use Rattle.greedy_rules.proofs.LeftOut.{flows}
use Rattle.greedy_rules.proofs.OnceLemmas.{Other}
use Rattle.fewest_order.specs.KeptOut.{FlowsBeforeItBar, NoneThatNeedsMoreBars}

listed_by_flows : (list : List Item) (flow : Flow) → is_listed list flow ≡ list_any (λ f. same_flow f flow) (flows list)
listed_by_flows [] flow = refl
listed_by_flows (item ∷ list) flow = ap (λ (b : Bool). same_flow item.flow flow || b) (listed_by_flows list flow)

All-middle : (P : Item → Type 0) (front : List Item) (item : Item) (later : List Item) → All P (front ++ item ∷ later) → P item
All-middle P [] item later all = All-head P item later all
All-middle P (f ∷ front) item later all = All-middle P front item later (All-tail P f (front ++ item ∷ later) all)

-- where each flow stands once, none before an item is its own
not_before : (front : List Item) (item : Item) (later : List Item) → HasEachFlowOnce (front ++ item ∷ later) → is_listed front item.flow ≡ false
not_before [] item later once = refl
not_before (f ∷ front) item later once =
    let other : f.flow ≢ item.flow = All-middle (Other f) front item later (AllPairs-head Other f (front ++ item ∷ later) once) in
    elim (cases_Bool (same_flow f.flow item.flow)) [
      | inl same ↦ absurd (other (same_flow-true f.flow item.flow same))
      | inr differs ↦ ap (λ (b : Bool). b || is_listed front item.flow) differs ∙ not_before front item later (AllPairs-tail Other f (front ++ item ∷ later) once)
    ]

-- a list of the same flows has the same place
record Place (list front : List Item) (item : Item) : Type 0 where
  pub first : List Item
  pub here : Item
  pub rest : List Item
  pub split : list ≡ first ++ here ∷ rest
  pub same_flows : flows first ≡ flows front
  pub same_item : here.flow ≡ item.flow
  pub found : item_of list item.flow ≡ Some here

place_of : (list front : List Item) (item : Item) (later : List Item) → flows list ≡ flows (front ++ item ∷ later) → is_listed front item.flow ≡ false → same_flow item.flow item.flow ≡ true
    → Place list front item
place_of [] [] item later same none self = absurd (cc)
place_of [] (f ∷ front) item later same none self = absurd (cc)
place_of (x ∷ list) [] item later same none self =
    let here : x.flow ≡ item.flow = cc in
    record {
      first = [];
      here = x;
      rest = list;
      split = refl;
      same_flows = refl;
      same_item = here;
      found = cond-true (same_flow x.flow item.flow) (Some x) (item_of list item.flow) (ap (λ (g : Flow). same_flow g item.flow) here ∙ self);
    }
place_of (x ∷ list) (f ∷ front) item later same none self =
    let head : x.flow ≡ f.flow = cc in
    let tail : flows list ≡ flows (front ++ item ∷ later) = cc in
    let parts = or_parts (same_flow f.flow item.flow) (is_listed front item.flow) none in
    let place : Place list front item = place_of list front item later tail parts.1 self in
    record {
      first = x ∷ place.first;
      here = place.here;
      rest = place.rest;
      split = ap (λ (xs : List Item). x ∷ xs) place.split;
      same_flows = (λ i. head i ∷ place.same_flows i);
      same_item = place.same_item;
      found = cond-false (same_flow x.flow item.flow) (Some x) (item_of list item.flow) (ap (λ (g : Flow). same_flow g item.flow) head ∙ parts.0) ∙ place.found;
    }

-- the items before one in a sorted list have no greater number
floor_at : (number : Item → ℕ) (n : ℕ) (front : List Item) (item : Item) (later : List Item) → Floor number n (front ++ item ∷ later) → n ≤ number item
floor_at number n [] item later floor = floor.0
floor_at number n (f ∷ front) item later floor = floor_at number n front item later floor.1

none_greater : (number : Item → ℕ) (front : List Item) (item : Item) (later : List Item) → Rises number (front ++ item ∷ later) → All (λ other. number other ≤ number item) front
none_greater number [] item later rises = All-nil (λ other. number other ≤ number item)
none_greater number (f ∷ front) item later rises =
    All-cons (λ other. number other ≤ number item) f front (floor_at number (number f) front item later rises.0) (none_greater number front item later rises.1)

pub flows_before_it_bar : EverySlotIsFilledInOrder → EveryBatchKeepsItsOrder → (key : Key) → FlowsBeforeItBar key
flows_before_it_bar in_order keeps key limits number count at entries list front item later left =
    let bar : Bar = is_barred limits in
    let start : List Item = after_batch_by key entries list in
    let before : List Item = get_or (batch_lists bar number count start) at [] in
    let none : is_listed front item.flow ≡ false = not_before front item later (subst HasEachFlowOnce left.place left.once) in
    let place : Place before front item =
    place_of before front item later (keeps limits number count at start left.within ∙ ap flows left.place) none (same_flow-refl item.flow) in
    let slot : get_or (batch_slots bar number count start) at [] ≡ greedy_slot bar (place.first ++ place.here ∷ place.rest) =
    slot_in_batch bar number count at start left.within ∙ ap (greedy_slot bar) place.split in
    let filled = in_order limits place.first place.here place.rest in
    let needs : 0 < place.here.need = subst (λ (n : ℕ). 0 < n) (ap need_in place.found) left.waits in
    let out : has_flow (greedy_slot bar (place.first ++ place.here ∷ place.rest)) place.here.flow ≡ false =
    ap (has_flow (greedy_slot bar (place.first ++ place.here ∷ place.rest))) place.same_item ∙ (ap (λ (s : List Flow). has_flow s item.flow) (sym slot) ∙ left.left_out) in
    let barring : List Flow = greedy_slot bar place.first in (
      (
        barring,
        record {
          chosen = subst (λ (s : List Flow). All (λ f. has_flow s f ≡ true) barring) (sym slot) filled.chosen;
          before = All-weaker (λ f. is_listed place.first f ≡ true) (λ f. is_listed front f ≡ true)
              (λ f is. listed_by_flows front f ∙ (ap (list_any (λ g. same_flow g f)) (sym place.same_flows) ∙ (sym (listed_by_flows place.first f) ∙ is))) barring filled.listed;
          barred = subst (λ (f : Flow). is_barred limits barring f ≡ true) place.same_item (filled.left_out needs out);
        },
      ),
      none_greater (λ (x : Item). key x.need x.last) front item later
          (subst (Rises (λ (x : Item). key x.need x.last)) left.place (rises-sort_by (λ (x : Item). key x.need x.last) (map (with_batch entries) list ++ opened entries))),
    )

-- a flow of the items before needs what its item needs
need_before : (n : ℕ) (front rest : List Item) (flow : Flow) → All (λ other. other.need ≤ n) front → is_listed front flow ≡ true → need_in (item_of (front ++ rest) flow) ≤ n
need_before n [] rest flow all listed = absurd (cc)
need_before n (x ∷ front) rest flow all listed = elim (cases_Bool (same_flow x.flow flow)) [
  | inl same ↦
      let found : item_of ((x ∷ front) ++ rest) flow ≡ Some x = cond-true (same_flow x.flow flow) (Some x) (item_of (front ++ rest) flow) same in
      let least : x.need ≤ n = All-head (λ (other : Item). other.need ≤ n) x front all in
      omega (arith, ap need_in found, least)
  | inr differs ↦
      let later : item_of ((x ∷ front) ++ rest) flow ≡ item_of (front ++ rest) flow = cond-false (same_flow x.flow flow) (Some x) (item_of (front ++ rest) flow) differs in
      let there : is_listed front flow ≡ true = sym (ap (λ (b : Bool). b || is_listed front flow) differs) ∙ listed in
      let less : need_in (item_of (front ++ rest) flow) ≤ n = need_before n front rest flow (All-tail (λ (other : Item). other.need ≤ n) x front all) there in
      omega (arith, ap need_in later, less)
]

pub none_that_needs_more_bars : FlowsBeforeItBar remaining → NoneThatNeedsMoreBars
none_that_needs_more_bars bars limits number count at entries list front item later left =
    let is = bars limits number count at entries list front item later left in
    let start : List Item = after_batch_by remaining entries list in (
      is.0.0,
      is.0.1,
      All-weaker (λ f. is_listed front f ≡ true) (λ f. need_in (item_of start f) ≤ item.need)
          (λ f listed. subst (λ (xs : List Item). need_in (item_of xs f) ≤ item.need) (sym left.place) (need_before item.need front (item ∷ later) f is.1 listed)) is.0.0 is.0.1.before,
    )
