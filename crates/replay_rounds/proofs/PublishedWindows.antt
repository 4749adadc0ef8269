-- What stands once a window is published, and once its slots are counted.
use Rattle.std.proofs.Common.{◌≡◌, ◌<◌, ◌≤◌, ◌+◌, ◌-◌, ◌*◌, ◌/◌, ◌%◌, ◌^◌, ℕ, suc, List, [], ◌∷◌, length, map, Option, IfSome, All, sym, ap, ◌∙◌, subst, refl, arith, mul-le-mul_right}
use Rattle.std.specs.List.{range_with_len, slice_index_or}
use Rattle.std.proofs.Math.Nat.{add-mul, mul-div_cancel, mul-mod_left}
use Rattle.std.proofs.lemmas.List.{length-drop}
use Rattle.greedy_rules.specs.declared.flows.Flow.{Flow}
use Rattle.greedy_rules.specs.SlotTable.{Slots, IsSlotOf}
use Rattle.greedy_rules.specs.Schedule.{slot_in, first_slot}
use Rattle.clos_topology.specs.Links.{CoreOf}
use Rattle.clos_topology.specs.NetSlots.{SlotCores}
use Rattle.slot_publisher.specs.CoreTable.{CoreSlots, core_of}
use Rattle.slot_publisher.specs.Window.{RoutedFlow, PublisherWindow, NamesCores, with_cores, slots_with_cores}
use Rattle.lane_rounds.specs.State.{RoundsState}
use Rattle.trace_text.specs.Trace.{TraceContent}
use Rattle.trace_text.specs.Valid.{IsTrace}
use Rattle.trace_run.specs.Run.{Setting}
use Rattle.replay_rounds.specs.Standing.{RoundsContent, AllRoundsStand, IsNextWindow, AreOfTable, setting_with, routed_from, slots_between}
use Rattle.replay_rounds.specs.Publishing.{CountingLaws, WindowIsPublished, EachLaneStands}
use Rattle.replay_rounds.specs.Counting.{schedule_of}
use Rattle.replay_rounds.proofs.SlotCounts.{schedule_length}

-- ---- slots with their cores

same_cores : (f g : CoreOf) (slot : List Flow) → ((source : ℕ) → f source ≡ g source) → with_cores f slot ≡ with_cores g slot
same_cores f g [] same = refl
same_cores f g (flow ∷ slot) same =
    ap (λ (core : Option ℕ). record { flow = flow; core = core } ∷ with_cores f slot) (same flow.src)
    ∙ ap (λ (rest : List RoutedFlow). record { flow = flow; core = g flow.src } ∷ rest) (same_cores f g slot same)

-- from a place on
routed_rest : (cores : SlotCores) (names : ℕ → CoreOf) (all rest : List (List Flow)) (number from : ℕ) →
    ((place : ℕ) → place < length rest → slot_in all (from + place) ≡ slot_in rest place) →
    ((place source : ℕ) → place < length rest → cores (number + place) source ≡ names (from + place) source) →
    map (λ at. with_cores (names at) (slot_in all at)) (range_with_len from (length rest)) ≡ routed_from cores number rest
routed_rest cores names all [] number from slots of = refl
routed_rest cores names all (slot ∷ rest) number from slots of =
    let here : slot_in all from ≡ slot = ap (slot_in all) (omega arith) ∙ slots 0 (omega arith) in
    let named : (source : ℕ) → names from source ≡ cores number source =
    λ (source : ℕ). ap (λ (n : ℕ). names n source) (omega arith) ∙ (sym (of 0 source (omega arith)) ∙ ap (λ (n : ℕ). cores n source) (omega arith)) in
    let first : with_cores (names from) (slot_in all from) ≡ with_cores (cores number) slot =
    ap (with_cores (names from)) here ∙ same_cores (names from) (cores number) slot named in
    ap (λ (s : List RoutedFlow). s ∷ map (λ at. with_cores (names at) (slot_in all at)) (range_with_len (from + 1) (length rest))) first
    ∙ ap (λ (ss : List (List RoutedFlow)). with_cores (cores number) slot ∷ ss)
    (routed_rest cores names all rest (number + 1) (from + 1)
    (λ place below. ap (slot_in all) (omega arith) ∙ slots (suc place) (omega arith))
    (λ place source below. ap (λ (n : ℕ). cores n source) (omega arith) ∙ (of (suc place) source (omega arith) ∙ ap (λ (n : ℕ). names n source) (omega arith))))

routed_is : (cores : SlotCores) (table : CoreSlots) (slots : List (List Flow)) (number : ℕ) → AreOfTable cores number (length slots) table → slots_with_cores slots table ≡ routed_from cores number slots
routed_is cores table slots number of =
    routed_rest cores (core_of table) slots slots number 0
    (λ place below. ap (slot_in slots) (omega arith))
    (λ place source below. of place source below ∙ ap (λ (n : ℕ). core_of table n source) (omega arith))

-- slots with their cores, place by place
pub routed_places : (cores : SlotCores) (slots : List (List Flow)) (number : ℕ) →
    routed_from cores number slots ≡ map (λ at. with_cores (cores (number + at)) (slot_in slots at)) (range_with_len 0 (length slots))
routed_places cores slots number =
    sym (routed_rest cores (λ at. cores (number + at)) slots slots number 0
    (λ place below. ap (slot_in slots) (omega arith))
    (λ place source below. ap (λ (n : ℕ). cores n source) (omega arith)))

-- ---- the window that is published

-- a window of rounds that stand is published
pub is_published : (trace : TraceContent) (cores : SlotCores) (all : RoundsContent) → AllRoundsStand trace cores all → all.collected < 2 ^ 32 → WindowIsPublished (setting_with trace cores all) all.collected all.window
is_published trace cores all stands few =
    let setting : Setting = setting_with trace cores all in
    let first : ℕ = all.window.first_batch in
    let held : all.published ≡ first + all.window.count = sym stands.held in
    let size = stands.size in
    let some = stands.batch.0 in
    let behind = stands.behind in
    record {
      b = sym size;
      some = omega arith;
      endpoints = stands.served ∙ stands.endpoints;
      behind = omega arith;
      few = few;
      in_range = subst (λ (n : ℕ). All (IsSlotOf n) (slots_between setting first (first + all.window.count))) stands.endpoints
          (subst (λ (n : ℕ). All (IsSlotOf all.endpoints) (slots_between setting first n)) held stands.in_range);
      cores = cores;
      slots = subst (λ (n : ℕ). all.window.slots ≡ routed_from cores (first_slot all.b first) (slots_between setting first n)) held stands.slots;
    }

-- and so do they once the lanes have counted its slots
pub stands_counted : (trace : TraceContent) (cores : SlotCores) (all : RoundsContent) (lanes : List RoundsState) → AllRoundsStand trace cores all → length lanes ≡ length all.lanes →
    EachLaneStands (setting_with trace cores all) all.collected all.published lanes → AllRoundsStand trace cores (record all { counted = all.published; lanes = lanes })
stands_counted trace cores all lanes stands long counted = record {
  named = stands.named;
  batch = stands.batch;
  rounds = stands.rounds;
  endpoints = stands.endpoints;
  within = stands.within;
  behind = stands.behind;
  counted = (omega (arith, stands.held), omega arith);
  wide = long ∙ stands.wide;
  lanes = counted;
  served = stands.served;
  room = stands.room;
  size = stands.size;
  held = stands.held;
  slots = stands.slots;
  in_range = stands.in_range;
}

-- ---- the next window

-- there is a run of which this is the next window
abbrev pub MayPublish : ℕ → Slots → CoreSlots → RoundsContent → Type 0
MayPublish count slots table all = (trace : TraceContent) × (cores : SlotCores) × IsTrace trace × AllRoundsStand trace cores all × IsNextWindow trace cores all count slots table

-- so it is once the lanes have counted what was published before
pub next_counted : (trace : TraceContent) (cores : SlotCores) (old new : RoundsContent) (count : ℕ) (slots : Slots) (table : CoreSlots) → new ≡ record old { counted = old.published; lanes = new.lanes } →
    IsNextWindow trace cores old count slots table → IsNextWindow trace cores new count slots table
next_counted trace cores old new count slots table frame next =
    let moved : IsNextWindow trace cores (record old { counted = old.published; lanes = new.lanes }) count slots table = record { allocated = next.allocated; routed = next.routed } in
    subst (λ (all : RoundsContent). IsNextWindow trace cores all count slots table) (sym frame) moved

pub may_publish_counted : (old new : RoundsContent) (count : ℕ) (slots : Slots) (table : CoreSlots) → new ≡ record old { counted = old.published; lanes = new.lanes } →
    ((trace : TraceContent) (cores : SlotCores) → AllRoundsStand trace cores old → AllRoundsStand trace cores new) → MayPublish count slots table old → MayPublish count slots table new
may_publish_counted old new count slots table frame stands (trace, cores, is_trace, stood, next) =
    (trace, cores, is_trace, stands trace cores stood, next_counted trace cores old new count slots table frame next)

module _ (laws : CountingLaws) (trace : TraceContent) (cores : SlotCores) (all : RoundsContent) (count : ℕ) (slots : Slots) (table : CoreSlots)
    (is_trace : IsTrace trace) (stands : AllRoundsStand trace cores all) (next : IsNextWindow trace cores all count slots table) where
  pub slot_count : length slots.slots ≡ count * all.b
  slot_count =
      let setting : Setting = setting_with trace cores all in
      let shared : (all.published + count) * all.b ≡ all.published * all.b + count * all.b = add-mul all.published count all.b in
      let left : length slots.slots ≡ (all.published + count) * all.b - all.published * all.b =
      ap length next.allocated ∙ (length-drop (all.published * all.b) (schedule_of setting (all.published + count)) ∙ ap (λ (n : ℕ). n - all.published * all.b) (schedule_length laws setting (all.published + count))) in
      omega arith

  pub names_cores : NamesCores slots.slots table
  names_cores at below k d inside =
      let src : ℕ = (slice_index_or (slot_in slots.slots at) k d).src in
      subst (λ (core : Option ℕ). IfSome core (λ n. n < 64)) (next.routed at src (omega (arith, slot_count))) (stands.named (first_slot all.b all.published + at) src)

  -- once the publisher holds them, where the lanes have counted all slots before
  pub stands_next : (window : PublisherWindow) → all.counted ≡ all.published → all.published + count ≤ all.collected → slots.endpoints ≡ all.endpoints → All (IsSlotOf slots.endpoints) slots.slots →
      window.endpoints ≡ all.window.endpoints → window.batches ≡ all.window.batches → window.b ≡ all.window.b → window.first_batch ≡ all.published → window.count ≡ count →
      window.slots ≡ slots_with_cores slots.slots table →
      AllRoundsStand trace cores (record all { published = all.published + count; window = window })
  stands_next window counted behind served each endpoints batches b first counts routed =
      let setting : Setting = setting_with trace cores all in
      record {
        named = stands.named;
        batch = stands.batch;
        rounds = stands.rounds;
        endpoints = stands.endpoints;
        within = stands.within;
        behind = behind;
        counted = (omega arith, omega arith);
        wide = stands.wide;
        lanes = stands.lanes;
        served = endpoints ∙ stands.served;
        room = batches ∙ stands.room;
        size = b ∙ stands.size;
        held = omega arith;
        slots = routed
            ∙ (routed_is cores table slots.slots (first_slot all.b all.published) (subst (λ (n : ℕ). AreOfTable cores (first_slot all.b all.published) n table) (sym slot_count) next.routed)
            ∙ (ap (routed_from cores (first_slot all.b all.published)) next.allocated
            ∙ ap (λ (n : ℕ). routed_from cores (first_slot all.b n) (slots_between setting n (all.published + count))) (sym first)));
        in_range = subst (λ (n : ℕ). All (IsSlotOf all.endpoints) (slots_between setting n (all.published + count))) (sym first)
            (subst (All (IsSlotOf all.endpoints)) next.allocated (subst (λ (n : ℕ). All (IsSlotOf n) slots.slots) served each));
      }

  -- the window has so many batches
  pub batch_count : (n : ℕ) → n * all.window.b ≡ length slots.slots → n ≡ count
  batch_count n is =
      let size = stands.size in
      let some = stands.batch.0 in
      let times : n * all.b ≡ count * all.b = ap (λ (k : ℕ). n * k) (sym size) ∙ (is ∙ slot_count) in
      sym (mul-div_cancel n some) ∙ (ap (λ (k : ℕ). k / all.b) times ∙ mul-div_cancel count some)

  pub whole : length slots.slots % all.window.b ≡ 0
  whole =
      ap (λ (n : ℕ). n % all.window.b) slot_count
      ∙ (ap (λ (n : ℕ). count * all.b % n) stands.size
      ∙ mul-mod_left count all.b)

  pub has_room : count ≤ all.g → length slots.slots ≤ all.window.batches * all.window.b
  has_room few =
      let times : count * all.b ≤ all.g * all.b = mul-le-mul_right all.b few in
      let room : all.window.batches * all.window.b ≡ all.g * all.b = ap (λ (n : ℕ). n * all.window.b) stands.room ∙ ap (λ (n : ℕ). all.g * n) stands.size in
      omega (arith, slot_count)
