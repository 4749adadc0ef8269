-- One walk along the list for a slot: the slot's row and its marks, and the items by the slot that came out.
use Rattle.std.proofs.Common.{◌≡◌, ◌<◌, ◌≤◌, ◌+◌, ℕ, zero, suc, List, [], ◌∷◌, length, get_or, set, Bool, true, false, not, ◌==◌, ◌&&◌, ◌||◌, nat_lt, cond, Option, Some, None, refl, sym, ap, ◌∙◌, subst, arith, inl, inr}
use Rattle.std.specs.List.{list_any}
use Rattle.std.specs.Option.{is_some}
use Rattle.std.proofs.lemmas.Bool.{cond-true, cond-false, cases_eq, and_parts, or_parts, or_left, not-true, not-false, eq-eqb, ne_eqb, ltb-true}
use Rattle.std.proofs.lemmas.Bool.Decides.{nat_tests}
use Rattle.std.proofs.lemmas.List.{get_or-set_same, get_or-set_other, length-set, get_or_default}
use Rattle.greedy_rules.specs.declared.flows.Flow.{Flow}
use Rattle.greedy_rules.specs.declared.flows.Item.{Item}
use Rattle.greedy_rules.specs.declared.limits.Limits.{Limits}
use Rattle.greedy_rules.specs.declared.marks.Marks.{Marks}
use Rattle.greedy_rules.specs.Slot.{is_taken, slot_with, offered}
use Rattle.greedy_rules.specs.Limits.{AreLimits, rack_of, is_outward, leaves, enters, leaving, entering, lacks_core, is_barred}
use Rattle.greedy_rules.specs.SlotTable.{flows_from}
use Rattle.greedy_rules.specs.Walk.{HavePlaces, AreOf, bars, counted}
use Rattle.greedy_rules.proofs.SlotLemmas.{any-slot_with, count-slot_with}
use Rattle.greedy_rules.proofs.RowLemmas.{flows_from-set}

pub or_both : (a b c d : Bool) → ((a || b) || (c || d)) ≡ ((a || c) || (b || d))
or_both true true c d = refl
or_both true false true d = refl
or_both true false false d = refl
or_both false true true d = refl
or_both false true false d = refl
or_both false false true true = refl
or_both false false true false = refl
or_both false false false d = refl

-- a slot takes a flow's source, or its destination
pub taken_by_end : (slot : List Flow) (flow : Flow) → is_taken slot flow ≡ (list_any (λ f. f.src == flow.src) slot || list_any (λ f. f.dst == flow.dst) slot)
taken_by_end [] flow = refl
taken_by_end (g ∷ slot) flow =
    ap (λ b. ((g.src == flow.src) || (g.dst == flow.dst)) || b) (taken_by_end slot flow)
    ∙ or_both (g.src == flow.src) (g.dst == flow.dst) (list_any (λ f. f.src == flow.src) slot) (list_any (λ f. f.dst == flow.dst) slot)

source-low : (k src : ℕ) (cells : List (Option ℕ)) → src < k → list_any (λ f. f.src == src) (flows_from k cells) ≡ false
source-low k src [] low = refl
source-low k src (None ∷ cells) low = source-low (k + 1) src cells (omega arith)
source-low k src (Some dst ∷ cells) low =
    let other : (k == src) ≡ false = ne_eqb _ _ (λ e. omega arith) in
    ap (λ b. b || list_any (λ f. f.src == src) (flows_from (k + 1) cells)) other ∙ source-low (k + 1) src cells (omega arith)

-- a source sends where something stands at its place
source-at : (k i src : ℕ) (cells : List (Option ℕ)) → src ≡ k + i → list_any (λ f. f.src == src) (flows_from k cells) ≡ is_some (get_or cells i None)
source-at k i src [] is = refl
source-at k zero src (None ∷ cells) is = source-low (k + 1) src cells (omega arith)
source-at k (suc i) src (None ∷ cells) is = source-at (k + 1) i src cells (omega arith)
source-at k zero src (Some dst ∷ cells) is =
    let here : (k == src) ≡ true = eq-eqb _ _ (omega arith) in or_left (k == src) _ here
source-at k (suc i) src (Some dst ∷ cells) is =
    let other : (k == src) ≡ false = ne_eqb _ _ (λ e. omega arith) in
    ap (λ b. b || list_any (λ f. f.src == src) (flows_from (k + 1) cells)) other ∙ source-at (k + 1) i src cells (omega arith)

or_assoc : (a b c : Bool) → ((a || b) || c) ≡ (a || (b || c))
or_assoc true b c = refl
or_assoc false b c = refl

-- whom the marks let in between racks has a core left on both sides
pub core_left : (marks : Marks) (flow : Flow) (from into d : ℕ) → from ≡ rack_of marks.limits.hosts flow.src → into ≡ rack_of marks.limits.hosts flow.dst
    → from < length marks.leaving.items → into < length marks.entering.items → bars marks flow ≡ false → is_outward marks.limits.hosts flow ≡ true
    → (get_or marks.leaving.items from d < marks.limits.cores) × (get_or marks.entering.items into d < marks.limits.cores)
core_left marks flow from into d sender receiver below within free outward =
    let cores = marks.limits.cores in
    let sent : ℕ = get_or marks.leaving.items (rack_of marks.limits.hosts flow.src) 0 in
    let received : ℕ = get_or marks.entering.items (rack_of marks.limits.hosts flow.dst) 0 in
    let full = not (nat_lt sent cores) || not (nat_lt received cores) in
    let racks = (or_parts (get_or marks.receives.items flow.dst false) (is_outward marks.limits.hosts flow && full) free).1 in
    let lacks : full ≡ false = sym (ap (λ b. b && full) outward) ∙ racks in
    let parts = or_parts (not (nat_lt sent cores)) (not (nat_lt received cores)) lacks in (
      omega (arith, ltb-true _ _ (not-false _ parts.0), get_or_default marks.leaving.items from d 0 below, ap (λ (n : ℕ). get_or marks.leaving.items n 0) sender),
      omega (arith, ltb-true _ _ (not-false _ parts.1), get_or_default marks.entering.items into d 0 within, ap (λ (n : ℕ). get_or marks.entering.items n 0) receiver),
    )

-- where the endpoints of a flow, and their racks, have their places
pub record HasPlace (flow : Flow) (marks : Marks) : Type 0 where
  pub dst : flow.dst < length marks.receives.items
  pub from : rack_of marks.limits.hosts flow.src < length marks.leaving.items
  pub into : rack_of marks.limits.hosts flow.dst < length marks.entering.items

pub has_place : (endpoints : ℕ) (marks : Marks) (flow : Flow) → HavePlaces endpoints marks → flow.src < endpoints → flow.dst < endpoints → HasPlace flow marks
has_place endpoints marks flow places src dst =
    let from = places.senders flow.src src in
    let into = places.senders flow.dst dst in
    record { dst = omega (arith, places.receivers); from = from; into = omega (arith, into, places.sides) }

-- the marks keep out whom the slot's destinations and racks keep out
bars_is : (slot : List Flow) (marks : Marks) (flow : Flow) → HasPlace flow marks → AreOf slot marks
    → bars marks flow ≡ (list_any (λ f. f.dst == flow.dst) slot || (is_outward marks.limits.hosts flow && lacks_core marks.limits slot flow))
bars_is slot marks flow place are =
    let hosts = marks.limits.hosts in
    let cores = marks.limits.cores in
    let from = rack_of hosts flow.src in
    let into = rack_of hosts flow.dst in
    let outward = is_outward hosts flow in
    let sent : ℕ = get_or marks.leaving.items from 0 in
    let received : ℕ = get_or marks.entering.items into 0 in
    ap (λ b. b || (outward && (not (nat_lt sent cores) || not (nat_lt received cores)))) (are.receives flow.dst false place.dst)
    ∙ (ap (λ (n : ℕ). list_any (λ f. f.dst == flow.dst) slot || (outward && (not (nat_lt n cores) || not (nat_lt received cores)))) (are.leaving from 0 place.from)
    ∙ ap (λ (n : ℕ). list_any (λ f. f.dst == flow.dst) slot || (outward && (not (nat_lt (leaving hosts from slot) cores) || not (nat_lt n cores)))) (are.entering into 0 place.into))

-- by the row of the slot and its marks
pub barred_by_table : (cells : List (Option ℕ)) (marks : Marks) (flow : Flow) (cell : Option ℕ) → flow.src < length cells → HasPlace flow marks → AreOf (flows_from 0 cells) marks
    → is_barred marks.limits (flows_from 0 cells) flow ≡ (is_some (get_or cells flow.src cell) || bars marks flow)
barred_by_table cells marks flow cell src place are =
    let slot : List Flow = flows_from 0 cells in
    let full = is_outward marks.limits.hosts flow && lacks_core marks.limits slot flow in
    let sends = list_any (λ f. f.src == flow.src) slot in
    let receives = list_any (λ f. f.dst == flow.dst) slot in
    ap (λ b. b || full) (taken_by_end slot flow)
    ∙ (or_assoc sends receives full
    ∙ (ap (λ b. b || (receives || full)) (source-at 0 flow.src flow.src cells (omega arith) ∙ ap (λ (o : Option ℕ). is_some o) (get_or_default cells flow.src None cell src))
    ∙ ap (λ b. is_some (get_or cells flow.src cell) || b) (sym (bars_is slot marks flow place are))))

-- the three tests of a turn together
pub fits_is : (need : ℕ) (barred sends marked : Bool) → barred ≡ (sends || marked) → 0 < need → sends ≡ false → not marked ≡ (nat_lt 0 need && not barred)
fits_is need barred sends marked is needs free = grind (arith, nat_tests)

pub fits_not : (need : ℕ) (barred sends marked : Bool) → barred ≡ (sends || marked) → sends ≡ true → false ≡ (nat_lt 0 need && not barred)
fits_not need barred sends marked is busy = grind (arith, nat_tests)

pub needs_none : (need : ℕ) (barred : Bool) → need ≤ 0 → false ≡ (nat_lt 0 need && not barred)
needs_none need barred none = grind (arith, nat_tests)

pub none_is : (o : Option ℕ) → is_some o ≡ false → o ≡ None
none_is None is = refl
none_is (Some n) is = absurd (cc)

-- a flow that fits is in no cell, and the marks let it in
pub lets_in : (cells : List (Option ℕ)) (marks : Marks) (item : Item) → item.flow.src < length cells → HasPlace item.flow marks → AreOf (flows_from 0 cells) marks
    → true ≡ (nat_lt 0 item.need && not (is_barred marks.limits (flows_from 0 cells) item.flow))
    → (get_or cells item.flow.src None ≡ None) × (bars marks item.flow ≡ false)
lets_in cells marks item src place are fits =
    let slot : List Flow = flows_from 0 cells in
    let free = not-true (is_barred marks.limits slot item.flow) (and_parts (nat_lt 0 item.need) (not (is_barred marks.limits slot item.flow)) (sym fits)).1 in
    let table = barred_by_table cells marks item.flow None src place are in
    let parts = or_parts (is_some (get_or cells item.flow.src None)) (bars marks item.flow) (sym table ∙ free) in
    (none_is (get_or cells item.flow.src None) parts.0, parts.1)

-- it is written at its place
pub offer_slot : (cells : List (Option ℕ)) (marks : Marks) (item : Item) → item.flow.src < length cells → HasPlace item.flow marks → AreOf (flows_from 0 cells) marks
    → true ≡ (nat_lt 0 item.need && not (is_barred marks.limits (flows_from 0 cells) item.flow))
    → flows_from 0 (set cells item.flow.src (Some item.flow.dst)) ≡ offered (is_barred marks.limits) (flows_from 0 cells) item
offer_slot cells marks item src place are fits =
    let slot : List Flow = flows_from 0 cells in
    flows_from-set 0 item.flow.src item.flow.src item.flow.dst cells (omega arith) src (lets_in cells marks item src place are fits).0
    ∙ sym (cond-true (nat_lt 0 item.need && not (is_barred marks.limits slot item.flow)) (slot_with item.flow slot) slot (sym fits))

length-counted : (outward : Bool) (rack : ℕ) (counts : List ℕ) → length (counted outward rack counts) ≡ length counts
length-counted true rack counts = length-set counts rack (get_or counts rack 0 + 1)
length-counted false rack counts = refl

counted_more : (outward : Bool) (rack at d : ℕ) (counts : List ℕ) (count : ℕ → ℕ) → rack < length counts → at < length counts → ((r e : ℕ) → r < length counts → get_or counts r e ≡ count r)
    → get_or (counted outward rack counts) at d ≡ cond (outward && (rack == at)) 1 0 + count at
counted_more false rack at d counts count below within counts_are = omega (arith, counts_are at d within)
counted_more true rack at d counts count below within counts_are =
    elim (cases_eq rack at) [
      | inl here ↦
          let hit : (rack == at) ≡ true = eq-eqb _ _ here in
          omega (
            arith,
            ap (λ (n : ℕ). get_or (set counts rack (get_or counts rack 0 + 1)) n d) here,
            get_or-set_same counts rack (get_or counts rack 0 + 1) d below,
            counts_are rack 0 below,
            ap count here,
            cond-true {A = ℕ} (rack == at) 1 0 hit,
          )
      | inr other ↦
          let missed : (rack == at) ≡ false = ne_eqb _ _ other in
          omega (
            arith,
            get_or-set_other counts rack at (get_or counts rack 0 + 1) d (λ e. other (sym e)),
            counts_are at d within,
            cond-false {A = ℕ} (rack == at) 1 0 missed,
          )
    ]

-- the marks once a flow is marked
pub record Marked (flow : Flow) (marks after : Marks) : Type 0 where
  pub limits : after.limits ≡ marks.limits
  pub receives : after.receives.items ≡ set marks.receives.items flow.dst true
  pub leaving : after.leaving.items ≡ counted (is_outward marks.limits.hosts flow) (rack_of marks.limits.hosts flow.src) marks.leaving.items
  pub entering : after.entering.items ≡ counted (is_outward marks.limits.hosts flow) (rack_of marks.limits.hosts flow.dst) marks.entering.items

pub marked_places : (endpoints : ℕ) (flow : Flow) (marks after : Marks) → Marked flow marks after → HavePlaces endpoints marks → HavePlaces endpoints after
marked_places endpoints flow marks after marked places =
    let outward = is_outward marks.limits.hosts flow in
    let senders : length after.leaving.items ≡ length marks.leaving.items = ap length marked.leaving ∙ length-counted outward (rack_of marks.limits.hosts flow.src) marks.leaving.items in
    let receivers : length after.entering.items ≡ length marks.entering.items = ap length marked.entering ∙ length-counted outward (rack_of marks.limits.hosts flow.dst) marks.entering.items in
    record {
      sizes = subst AreLimits (sym marked.limits) places.sizes;
      receivers = ap length marked.receives ∙ (length-set marks.receives.items flow.dst true ∙ places.receivers);
      senders = λ endpoint below. let was = places.senders endpoint below in omega (arith, was, senders, ap (λ (l : Limits). rack_of l.hosts endpoint) marked.limits);
      sides = omega (arith, senders, receivers, places.sides);
    }

marked_receives : (slot : List Flow) (flow : Flow) (marks : List Bool) (at : ℕ) (d : Bool) → flow.dst < length marks → at < length marks → ((n : ℕ) (e : Bool) → n < length marks → get_or marks n e ≡ list_any (λ f. f.dst == n) slot)
    → get_or (set marks flow.dst true) at d ≡ list_any (λ f. f.dst == at) (slot_with flow slot)
marked_receives slot flow marks at d below within are =
    let more = any-slot_with (λ f. f.dst == at) flow slot in
    elim (cases_eq flow.dst at) [
      | inl here ↦
          ap (λ (n : ℕ). get_or (set marks flow.dst true) n d) (sym here)
          ∙ (get_or-set_same marks flow.dst true d below ∙ (sym (or_left (flow.dst == at) (list_any (λ f. f.dst == at) slot) (eq-eqb _ _ here)) ∙ sym more))
      | inr other ↦
          get_or-set_other marks flow.dst at true d (λ e. other (sym e))
          ∙ (are at d within ∙ (sym (ap (λ b. b || list_any (λ f. f.dst == at) slot) (ne_eqb _ _ other)) ∙ sym more))
    ]

pub marked_are : (slot : List Flow) (flow : Flow) (marks after : Marks) → HasPlace flow marks → Marked flow marks after → AreOf slot marks → AreOf (slot_with flow slot) after
marked_are slot flow marks after place marked are =
    let hosts = marks.limits.hosts in
    let outward = is_outward hosts flow in
    let from = rack_of hosts flow.src in
    let into = rack_of hosts flow.dst in
    record {
      receives = λ at d below.
          ap (λ (xs : List Bool). get_or xs at d) marked.receives
          ∙ marked_receives slot flow marks.receives.items at d place.dst (omega (arith, below, ap length marked.receives, length-set marks.receives.items flow.dst true)) are.receives;
      leaving = λ at d below.
          ap (λ (xs : List ℕ). get_or xs at d) marked.leaving
          ∙ (counted_more outward from at d marks.leaving.items (λ r. leaving hosts r slot) place.from (omega (arith, below, ap length marked.leaving, length-counted outward from marks.leaving.items)) are.leaving
          ∙ (sym (count-slot_with (leaves hosts at) flow slot) ∙ ap (λ (l : Limits). leaving l.hosts at (slot_with flow slot)) (sym marked.limits)));
      entering = λ at d below.
          ap (λ (xs : List ℕ). get_or xs at d) marked.entering
          ∙ (counted_more outward into at d marks.entering.items (λ r. entering hosts r slot) place.into (omega (arith, below, ap length marked.entering, length-counted outward into marks.entering.items)) are.entering
          ∙ (sym (count-slot_with (enters hosts at) flow slot) ∙ ap (λ (l : Limits). entering l.hosts at (slot_with flow slot)) (sym marked.limits)));
    }

-- where a flow was let in, the row and the marks are of the slot with it
pub offer_marks : (cells : List (Option ℕ)) (marks after : Marks) (item : Item) → item.flow.src < length cells → HasPlace item.flow marks → AreOf (flows_from 0 cells) marks → Marked item.flow marks after
    → true ≡ (nat_lt 0 item.need && not (is_barred marks.limits (flows_from 0 cells) item.flow))
    → AreOf (flows_from 0 (set cells item.flow.src (Some item.flow.dst))) after
offer_marks cells marks after item src place are marked fits =
    let slot : List Flow = flows_from 0 cells in
    let grown : flows_from 0 (set cells item.flow.src (Some item.flow.dst)) ≡ slot_with item.flow slot =
    offer_slot cells marks item src place are fits ∙ cond-true (nat_lt 0 item.need && not (is_barred marks.limits slot item.flow)) (slot_with item.flow slot) slot (sym fits) in
    subst (λ (s : List Flow). AreOf s after) (sym grown) (marked_are slot item.flow marks after place marked are)
