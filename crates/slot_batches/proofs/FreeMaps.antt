-- The maps of a batch: which places are common in them, and what they show once an item took its places.
use Rattle.std.proofs.Common.{◌≡◌, ◌<◌, ◌≤◌, ◌+◌, ℕ, zero, suc, List, [], ◌∷◌, length, replicate, Bool, true, false, not, ◌==◌, ◌&&◌, ◌||◌, nat_lt, cond, Some, None, All, refl, sym, ap, ◌∙◌, arith, inl, inr}
use Rattle.std.specs.Prelude.{find, option_map, count_by}
use Rattle.std.proofs.lemmas.Bool.{cond-false, or_parts, cases_Bool, cases_lt, le-ltb, ltb-false}
use Rattle.std.proofs.lemmas.Bool.Decides.{nat_tests}
use Rattle.std.proofs.lemmas.List.{length-replicate}
use Rattle.greedy_rules.specs.declared.flows.Flow.{Flow}
use Rattle.greedy_rules.specs.declared.flows.Item.{Item}
use Rattle.greedy_rules.specs.declared.limits.Limits.{Limits}
use Rattle.greedy_rules.specs.Slot.{is_taken, slot_with}
use Rattle.greedy_rules.specs.Limits.{rack_of, is_outward, leaves, enters, leaving, entering, lacks_core, is_barred}
use Rattle.greedy_rules.specs.Matching.{IsMatching}
use Rattle.greedy_rules.specs.Schedule.{slot_in}
use Rattle.greedy_rules.specs.SlotTable.{destination_of}
use Rattle.greedy_rules.proofs.Facts.{count-slot_with, not_taken, taken_by_end}
use Rattle.endpoint_bitmaps.specs.Slots.{is_among_lowest}
use Rattle.endpoint_bitmaps.specs.FreeSlots.{FreeSlots, may_receive, counts_links, leaving_in, entering_in, rack_in, is_common, HasTaken, IsFreeBelow, HasNoneBetween}
use Rattle.slot_batches.specs.FreePlaces.{has_source, has_destination, is_free, is_chosen, HasAdded, ShowsFree}
use Rattle.endpoint_bitmaps.proofs.Facts.{is_among_lowest-same}
use Rattle.slot_batches.proofs.Added.{any-added}
use Rattle.slot_batches.proofs.RackShare.{core_for_each}
use Rattle.slot_batches.proofs.FreePlaces.{chosen_not_barred}

-- a slot is free for a flow where it has neither its source nor its destination, and the racks of these have a core left
free_by_end : (within taken sends receives counts between up down : Bool) → taken ≡ (sends || receives) → counts ≡ true
    → (((within && not sends) && (within && not receives)) && (not (counts && between) || (up && down))) ≡ (within && not (taken || (between && (not up || not down))))
free_by_end within taken sends receives counts between up down is counted = grind (arith, nat_tests)

-- or where each endpoint has a core
free_by_ends : (within taken sends receives counts between links lacks : Bool) → taken ≡ (sends || receives) → counts ≡ false → (taken ≡ false → between ≡ true → lacks ≡ false)
    → (((within && not sends) && (within && not receives)) && (not (counts && between) || links)) ≡ (within && not (taken || (between && lacks)))
free_by_ends false taken sends receives counts between links lacks is uncounted core = refl
free_by_ends true true sends receives counts between links lacks is uncounted core = grind (arith, nat_tests)
free_by_ends true false sends receives counts true links lacks is uncounted core = let left : lacks ≡ false = core refl refl in grind (arith, nat_tests)
free_by_ends true false sends receives counts false links lacks is uncounted core = grind (arith, nat_tests)

none_free : (within taken rest : Bool) (a b c : Bool) → within ≡ false → (((within && a) && b) && c) ≡ (within && not (taken || rest))
none_free within taken rest a b c is = grind (arith, nat_tests)

pub common_is_free : (endpoints : ℕ) (maps : FreeSlots) (slots : List (List Flow)) (flow : Flow) (place : ℕ) → ShowsFree endpoints maps slots → All IsMatching slots
    → flow.src < endpoints → flow.dst < endpoints → is_common maps flow.src flow.dst place ≡ is_free (is_barred maps.limits) flow slots place
common_is_free endpoints maps slots flow place shows matchings src dst =
    let slot : List Flow = slot_in slots place in
    let within : Bool = nat_lt place (length slots) in
    let cores : ℕ = maps.limits.cores in
    let counts : Bool = counts_links maps.limits in
    let up : Bool = nat_lt (leaving_in maps (rack_in maps flow.src) place) cores in
    let down : Bool = nat_lt (entering_in maps (rack_in maps flow.dst) place) cores in
    let between : Bool = is_outward maps.limits.hosts flow in
    ap (λ (b : Bool). (b && may_receive maps flow.dst place) && (not (counts && between) || (up && down))) (shows.senders flow.src place src)
    ∙ (ap (λ (b : Bool). ((within && not (has_source flow.src slot)) && b) && (not (counts && between) || (up && down))) (shows.receivers flow.dst place dst)
    ∙ elim (cases_lt place (length slots)) [
      | inl inside ↦ elim (cases_Bool counts) [
        | inl counted ↦
            free_by_end within (is_taken slot flow) (has_source flow.src slot) (has_destination flow.dst slot) counts between up down (taken_by_end slot flow) counted
            ∙ (ap (λ (n : ℕ). within && not (is_taken slot flow || (between && (not (nat_lt n cores) || not down)))) (shows.leaving_is counted (rack_in maps flow.src) place inside)
            ∙ ap (λ (n : ℕ). within && not (is_taken slot flow || (between && (not (nat_lt (leaving maps.limits.hosts (rack_in maps flow.src) slot) cores) || not (nat_lt n cores)))))
            (shows.entering_is counted (rack_in maps flow.dst) place inside))
        | inr uncounted ↦
            free_by_ends within (is_taken slot flow) (has_source flow.src slot) (has_destination flow.dst slot) counts between (up && down) (lacks_core maps.limits slot flow) (taken_by_end slot flow) uncounted
            (λ free outward. core_for_each maps.limits slot flow (ltb-false cores maps.limits.hosts uncounted) (matchings place [] inside) free outward)
      ]
      | inr past ↦
          none_free within (is_taken slot flow) (between && lacks_core maps.limits slot flow) (not (has_source flow.src slot)) (within && not (has_destination flow.dst slot))
          (not (counts && between) || (up && down)) (le-ltb place (length slots) past)
    ])

-- so the lowest common places are those that the item takes
pub lowest_common_is_chosen : (endpoints : ℕ) (maps : FreeSlots) (slots : List (List Flow)) (item : Item) (place : ℕ) → ShowsFree endpoints maps slots → All IsMatching slots
    → item.flow.src < endpoints → item.flow.dst < endpoints
    → is_among_lowest (is_common maps item.flow.src item.flow.dst) item.need place ≡ is_chosen (is_barred maps.limits) item slots place
lowest_common_is_chosen endpoints maps slots item place shows matchings src dst =
    is_among_lowest-same (is_common maps item.flow.src item.flow.dst) (is_free (is_barred maps.limits) item.flow slots) item.need place
    (λ below. common_is_free endpoints maps slots item.flow below shows matchings src dst)

empty_slot : (b place : ℕ) → slot_in (replicate b []) place ≡ []
empty_slot zero place = refl
empty_slot (suc b) zero = refl
empty_slot (suc b) (suc place) = empty_slot b place

empty_shown : (place b : ℕ) (has : Bool) → has ≡ false → nat_lt place b ≡ (nat_lt place b && not has)
empty_shown place b has none = grind (arith, nat_tests)

-- maps in which all endpoints are free in each slot of a batch
pub shows_empty : (endpoints b : ℕ) (maps : FreeSlots) → maps.endpoints ≡ endpoints → IsFreeBelow b maps → HasNoneBetween maps → ShowsFree endpoints maps (replicate b [])
shows_empty endpoints b maps count free none =
    let no_slot : List Flow = [] in
    let long : length (replicate b no_slot) ≡ b = length-replicate b no_slot in
    record {
      senders = λ src place below.
          free.senders src place (omega (arith, count, below)) ∙ (empty_shown place b (has_source src (slot_in (replicate b []) place)) (ap (has_source src) (empty_slot b place))
          ∙ ap (λ (n : ℕ). nat_lt place n && not (has_source src (slot_in (replicate b []) place))) (sym long));
      receivers = λ dst place below.
          free.receivers dst place (omega (arith, count, below)) ∙ (empty_shown place b (has_destination dst (slot_in (replicate b []) place)) (ap (has_destination dst) (empty_slot b place))
          ∙ ap (λ (n : ℕ). nat_lt place n && not (has_destination dst (slot_in (replicate b []) place))) (sym long));
      leaving_is = λ counted rack place below. none.leaving rack place ∙ sym (ap (leaving maps.limits.hosts rack) (empty_slot b place));
      entering_is = λ counted rack place below. none.entering rack place ∙ sym (ap (entering maps.limits.hosts rack) (empty_slot b place));
    }

-- an endpoint that had none of these places keeps its map, and the one that has them loses them
one_end : (place count new_count own other : ℕ) (here before then : Bool) → new_count ≡ count → (place < count → then ≡ ((here && (own == other)) || before))
    → ((nat_lt place count && not before) && not ((other == own) && here)) ≡ (nat_lt place new_count && not then)
one_end place count new_count own other here before then same is = grind (arith, nat_tests)

-- a rack that the flow leaves, or comes into, has one flow more there
one_rack : (n rack own : ℕ) (counts between here : Bool) → counts ≡ true
    → n + cond ((rack == own) && ((counts && between) && here)) 1 0 ≡ cond (here && (between && (own == rack))) 1 0 + n
one_rack n rack own counts between here counted = grind (arith, nat_tests)

count-then : (p : Flow → Bool) (flow : Flow) (here : Bool) (slot : List Flow) → count_by p (cond here (slot_with flow slot) slot) ≡ cond (here && p flow) 1 0 + count_by p slot
count-then p flow true slot = count-slot_with p flow slot
count-then p flow false slot = omega arith

count-added : (p : Flow → Bool) (flow : Flow) (places : ℕ → Bool) (old new : List (List Flow)) (place : ℕ) → HasAdded flow places old new → place < length old
    → count_by p (slot_in new place) ≡ cond (places place && p flow) 1 0 + count_by p (slot_in old place)
count-added p flow places old new place added within = ap (count_by p) (added.each place within) ∙ count-then p flow (places place) (slot_in old place)

-- maps from which a flow's places were taken show the slots that have the flow there
pub shows_added : (endpoints : ℕ) (before after : FreeSlots) (flow : Flow) (places : ℕ → Bool) (old new : List (List Flow)) → length old ≤ 64
    → ShowsFree endpoints before old → HasAdded flow places old new → HasTaken flow.src flow.dst places before after → ShowsFree endpoints after new
shows_added endpoints before after flow places old new few shows added took =
    let hosts : ℕ = before.limits.hosts in
    let same_counts : counts_links before.limits ≡ counts_links after.limits = ap counts_links (sym took.limits) in
    let same_hosts : after.limits.hosts ≡ hosts = ap (λ (l : Limits). l.hosts) took.limits in
    let between : Bool = is_outward hosts flow in
    record {
      senders = λ src place below.
          took.senders src place ∙ (ap (λ (b : Bool). b && not ((src == flow.src) && places place)) (shows.senders src place below)
          ∙ one_end place (length old) (length new) flow.src src (places place) (has_source src (slot_in old place)) (has_source src (slot_in new place)) added.count
          (any-added (λ f. f.src == src) flow places old new place added));
      receivers = λ dst place below.
          took.receivers dst place ∙ (ap (λ (b : Bool). b && not ((dst == flow.dst) && places place)) (shows.receivers dst place below)
          ∙ one_end place (length old) (length new) flow.dst dst (places place) (has_destination dst (slot_in old place)) (has_destination dst (slot_in new place)) added.count
          (any-added (λ f. f.dst == dst) flow places old new place added));
      leaving_is = λ counted rack place below.
          let within : place < length old = omega (arith, below, added.count) in
          took.leaving rack place (omega (arith, within, few))
          ∙ (ap (λ (n : ℕ). n + cond ((rack == rack_of hosts flow.src) && ((counts_links before.limits && between) && places place)) 1 0) (shows.leaving_is (same_counts ∙ counted) rack place within)
          ∙ (one_rack (leaving hosts rack (slot_in old place)) rack (rack_of hosts flow.src) (counts_links before.limits) between (places place) (same_counts ∙ counted)
          ∙ (sym (count-added (leaves hosts rack) flow places old new place added within) ∙ ap (λ (n : ℕ). leaving n rack (slot_in new place)) (sym same_hosts))));
      entering_is = λ counted rack place below.
          let within : place < length old = omega (arith, below, added.count) in
          took.entering rack place (omega (arith, within, few))
          ∙ (ap (λ (n : ℕ). n + cond ((rack == rack_of hosts flow.dst) && ((counts_links before.limits && between) && places place)) 1 0) (shows.entering_is (same_counts ∙ counted) rack place within)
          ∙ (one_rack (entering hosts rack (slot_in old place)) rack (rack_of hosts flow.dst) (counts_links before.limits) between (places place) (same_counts ∙ counted)
          ∙ (sym (count-added (enters hosts rack) flow places old new place added within) ∙ ap (λ (n : ℕ). entering n rack (slot_in new place)) (sym same_hosts))));
    }

-- a source that does not send has no destination
pub no_destination : (slot : List Flow) (src : ℕ) → has_source src slot ≡ false → destination_of slot src ≡ None
no_destination slot src none = ap (option_map (λ (flow : Flow). flow.dst)) (none_found slot none)
  where
    none_found : (slot : List Flow) → has_source src slot ≡ false → find (λ flow. flow.src == src) slot ≡ None
    none_found [] none = refl
    none_found (flow ∷ slot) none =
        let parts = or_parts (flow.src == src) (has_source src slot) none in
        cond-false (flow.src == src) (Some flow) (find (λ f. f.src == src) slot) parts.0 ∙ none_found slot parts.1

-- so a flow may be put into a slot that its item takes
pub chosen_no_destination : (limits : Limits) (item : Item) (slots : List (List Flow)) (place : ℕ) → is_chosen (is_barred limits) item slots place ≡ true
    → destination_of (slot_in slots place) item.flow.src ≡ None
chosen_no_destination limits item slots place chosen =
    let slot : List Flow = slot_in slots place in
    let free : is_taken slot item.flow ≡ false = not_taken limits slot item.flow (chosen_not_barred (is_barred limits) item slots place chosen) in
    let parts = or_parts (has_source item.flow.src slot) (has_destination item.flow.dst slot) (sym (taken_by_end slot item.flow) ∙ free) in
    no_destination slot item.flow.src parts.0
