-- The lists of a window: no two batches and endpoints share one, and what is written into one leaves the others.
use Rattle.std.proofs.Common.{◌≡◌, ◌≢◌, ◌<◌, ◌≤◌, ◌+◌, ◌-◌, ◌*◌, ◌/◌, ◌%◌, ℕ, zero, suc, List, [], length, get_or, set, map, take, drop, Option, None, All, sym, ap, ◌∙◌, subst, arith, inl, inr}
use Rattle.std.specs.Option.{option_map}
use Rattle.std.specs.List.{range_with_len}
use Rattle.std.proofs.lemmas.Bool.{cases_lt, cases_order}
use Rattle.std.proofs.lemmas.Nat.{row_fits, div_below, mod_below, div-mul-add, mod-mul-add, div-add-mod'}
use Rattle.std.proofs.lemmas.List.{ext_get_or, get_or-set_same, get_or-set_other, get_or-map, get_or-take, get_or-drop, length-map, length-take, length-drop, take-take, drop-take}
use Rattle.std.proofs.lemmas.List.FromFn.{length-map-range_with_len, get_or-map-range_with_len}
use Rattle.std.proofs.lemmas.List.Elements.{All-weaker}
use Rattle.std.proofs.lemmas.Slice.{take-put_mid_below, drop-put_mid, between-put_mid}
use borrow.Rule.Slice.PartMut.{put_mid}
use Rattle.fcp_framing.specs.declared.packet.Told.{Told}
use Rattle.greedy_rules.specs.Schedule.{slot_in}
use Rattle.greedy_rules.specs.SlotTable.{Slots, IsSlotOf}
use Rattle.greedy_rules.proofs.TableLemmas.{fits}
use Rattle.path_workers.specs.CoreTable.{CoreSlots, core_of}
use Rattle.slot_publisher.specs.Window.{PublisherWindow, RoutedFlow, with_cores, slots_with_cores, NamesCores}
use Rattle.slot_publisher.specs.Told.{packet_sent, told_from}
use Rattle.slot_publisher.specs.Places.{Hop, hop_of, hop_in, packet_by, packets_by, count_at, list_at, slots_of_lists, hops_from, ListsArePut, AreLists, IsToldList}
use Rattle.slot_publisher.proofs.PacketLemmas.{packet_from-at, packets_by-slot, IsHop, hop_is}
use Rattle.slot_publisher.proofs.ToldLemmas.{hop_in-told, told_src, told_list, map_range}

-- ---- places

same_list : (endpoints batch endpoint other at : ℕ) → endpoint < endpoints → at < endpoints → other * endpoints + at ≡ batch * endpoints + endpoint → (other ≡ batch) × (at ≡ endpoint)
same_list endpoints batch endpoint other at below below' same = elim (cases_order other batch) [
  | inl here ↦ (here, omega (arith, ap (λ (e : ℕ). e * endpoints) here))
  | inr (inl before) ↦ absurd (omega (arith, row_fits other endpoints batch endpoints before (omega arith)))
  | inr (inr after) ↦ absurd (omega (arith, row_fits batch endpoints other endpoints after (omega arith)))
]

-- a list that is written, and the others
pub list_here : (b n k c : ℕ) (counts : List ℕ) (told list : List Told) → k ≡ b → length list ≡ b → c ≤ b → n < length counts → n * b ≤ length told
    → list_at b (set counts n c) (put_mid (n * b) k told list) n ≡ take c list
list_here b n k c counts told list size whole few below within =
    let from : ℕ = n * b in
    let after : List Told = put_mid from k told list in
    let room : b ≡ (from + b) - from = omega arith in
    let written : take b (drop from after) ≡ list =
    ap (λ (m : ℕ). take m (drop from after)) room ∙ between-put_mid from k told list (from + b) within (omega (arith, whole)) in
    ap (λ (m : ℕ). take m (drop from after)) (get_or-set_same counts n c 0 below)
    ∙ (sym (take-take c b (drop from after) few) ∙ ap (take c) written)

pub list_kept : (b n k c other : ℕ) (counts : List ℕ) (told list : List Told) → k ≡ b → length list ≡ b → n * b ≤ length told → other ≢ n → count_at counts other ≤ b
    → list_at b (set counts n c) (put_mid (n * b) k told list) other ≡ list_at b counts told other
list_kept b n k c other counts told list size whole within apart few =
    let from : ℕ = n * b in
    let place : ℕ = other * b in
    let count : ℕ = count_at counts other in
    let after : List Told = put_mid from k told list in
    let same : take b (drop place after) ≡ take b (drop place told) = elim (cases_order other n) [
      | inl here ↦ absurd (apart here)
      | inr (inl before) ↦
          let below : place + b ≤ from = fits b n other before in
          sym (drop-take place b after) ∙ (ap (drop place) (take-put_mid_below from k told list (place + b) below within) ∙ drop-take place b told)
      | inr (inr above) ↦ ap (take b) (drop-put_mid from k told list place (omega (arith, fits b other n above, size)) within (omega (arith, whole, size)))
    ] in
    ap (λ (m : ℕ). take m (drop place after)) (get_or-set_other counts n other c 0 apart)
    ∙ (sym (take-take count b (drop place after) few) ∙ (ap (take count) same ∙ take-take count b (drop place told) few))

-- ---- the slots that lists hold

pub slots_of_lists-none : (endpoints b : ℕ) (counts : List ℕ) (told : List Told) → slots_of_lists endpoints b (0 * b) counts told ≡ []
unfolding slots_of_lists
slots_of_lists-none endpoints b counts told = let none : 0 * b ≡ 0 = omega arith in ap (λ (n : ℕ). slots_of_lists endpoints b n counts told) none

pub no_lists : (endpoints b : ℕ) (counts : List ℕ) (told : List Told) → AreLists endpoints b (0 * endpoints) counts told
no_lists endpoints b counts told = record { few = λ list below. absurd (omega arith); each = λ list below. absurd (omega arith) }

-- where tables let an endpoint send
hops_are : (slots : Slots) (cores : CoreSlots) (from endpoint offset : ℕ) → All (IsSlotOf slots.endpoints) slots.slots → NamesCores slots.slots cores → from + offset < length slots.slots
    → IsHop slots.endpoints (hops_from slots cores from endpoint offset)
hops_are slots cores from endpoint offset each named below = hop_is slots.endpoints slots.slots cores (from + offset) endpoint (each (from + offset) [] below) below named

-- lists that are put hold the slots of the tables
pub slots_as_put : (slots : Slots) (cores : CoreSlots) (b batches n : ℕ) (counts : List ℕ) (told : List Told) → 0 < b → n ≡ batches * b → n ≡ length slots.slots → All (IsSlotOf slots.endpoints) slots.slots
    → NamesCores slots.slots cores → ListsArePut slots cores b (batches * slots.endpoints) counts told → slots_of_lists slots.endpoints b n counts told ≡ slots_with_cores slots.slots cores
unfolding slots_of_lists
slots_as_put slots cores b batches n counts told some size count each named put =
    let endpoints : ℕ = slots.endpoints in
    let held : ℕ → ℕ → Option Hop = λ slot source. hop_in (list_at b counts told (slot / b * endpoints + source)) (slot % b) in
    let given : ℕ → List RoutedFlow = λ at. with_cores (core_of cores at) (slot_in slots.slots at) in
    map_range (λ slot. packets_by (held slot) 0 endpoints) given 0 n (λ at low high.
    let inside : at < length slots.slots = omega arith in
    let slot : IsSlotOf endpoints (slot_in slots.slots at) = each at [] inside in
    let batch : ℕ = at / b in
    let offset : ℕ = at % b in
    let parts : batch * b + offset ≡ at = div-add-mod' at b in
    let in_batch : batch < batches = div_below at b batches some (omega arith) in
    let in_list : offset < b = mod_below at b some in
    let room : batch * b + b ≤ batches * b = fits b batches batch in_batch in
    packets_by-slot (core_of cores at) (slot_in slots.slots at) (held at) 0 endpoints slot.rising
    (λ k d below. omega arith)
    (All-weaker (λ flow. (flow.src < endpoints) × (flow.dst < endpoints)) (λ flow. flow.src < 0 + endpoints) (λ flow in_range. omega arith) (slot_in slots.slots at) slot.in_range)
    (λ source low' high'.
    let hops : ℕ → Option Hop = hops_from slots cores (batch * b) source in
    let list = (put batch source (omega arith) (omega (arith, fits endpoints batches batch in_batch))).1 in
    ap (λ (told : List Told). hop_in told offset) list
    ∙ (hop_in-told endpoints hops b offset in_list (hops_are slots cores (batch * b) source offset each named (omega arith))
    ∙ ap (λ (s : ℕ). hop_of (core_of cores s) (slot_in slots.slots s) source) parts)))
    ∙ ap (λ (m : ℕ). map given (range_with_len 0 m)) count

-- and each is a list of what is told
pub lists_as_put : (slots : Slots) (cores : CoreSlots) (b batches n : ℕ) (counts : List ℕ) (told : List Told) → n ≡ batches * b → n ≡ length slots.slots → All (IsSlotOf slots.endpoints) slots.slots
    → NamesCores slots.slots cores → ListsArePut slots cores b (batches * slots.endpoints) counts told → AreLists slots.endpoints b (batches * slots.endpoints) counts told
lists_as_put slots cores b batches n counts told size count each named put =
    let endpoints : ℕ = slots.endpoints in
    let at_list : (list : ℕ) → list < batches * endpoints → (count_at counts list ≤ b) × IsToldList endpoints b (list_at b counts told list) = λ list below.
    let some : 0 < endpoints = some_factor batches endpoints list below in
    let batch : ℕ = list / endpoints in
    let endpoint : ℕ = list % endpoints in
    let parts : batch * endpoints + endpoint ≡ list = div-add-mod' list endpoints in
    let in_batch : batch < batches = div_below list endpoints batches some below in
    let of = put batch endpoint (mod_below list endpoints some) (omega arith) in
    let hops : ℕ → Option Hop = hops_from slots cores (batch * b) endpoint in
    let room : batch * b + b ≤ batches * b = fits b batches batch in_batch in
    let is : IsToldList endpoints b (list_at b counts told (batch * endpoints + endpoint)) =
    subst (IsToldList endpoints b) (sym of.1) (told_list endpoints hops b (λ offset inside. hops_are slots cores (batch * b) endpoint offset each named (omega arith))) in
    subst (λ (l : ℕ). (count_at counts l ≤ b) × IsToldList endpoints b (list_at b counts told l)) parts (of.0, is) in
    record { few = λ list below. (at_list list below).0; each = λ list below. (at_list list below).1 }
  where
    some_factor : (m n k : ℕ) → k < m * n → 0 < n
    some_factor m zero k below = absurd (omega arith)
    some_factor m (suc n) k below = omega arith

-- what is told of an endpoint's slots of a batch is its list
pub told_in_list : (endpoints b count : ℕ) (counts : List ℕ) (told : List Told) (batch endpoint : ℕ) → 0 < b → batch < count → endpoint < endpoints → AreLists endpoints b (count * endpoints) counts told
    → told_from 0 (map (packet_sent endpoint) (take b (drop (batch * b) (slots_of_lists endpoints b (count * b) counts told)))) ≡ list_at b counts told (batch * endpoints + endpoint)
unfolding slots_of_lists
told_in_list endpoints b count counts told batch endpoint some held below are =
    let place : ℕ = batch * b in
    let held_by : ℕ → ℕ → Option Hop = λ slot source. hop_in (list_at b counts told (slot / b * endpoints + source)) (slot % b) in
    let all : List (List RoutedFlow) = map (λ slot. packets_by (held_by slot) 0 endpoints) (range_with_len 0 (count * b)) in
    let slots : List (List RoutedFlow) = take b (drop place all) in
    let list : List Told = list_at b counts told (batch * endpoints + endpoint) in
    let sent : ℕ → Option RoutedFlow = λ offset. option_map (packet_by endpoint) (hop_in list offset) in
    let room : place + b ≤ count * b = fits b count batch held in
    let length-all : length all ≡ count * b = length-map-range_with_len (λ slot. packets_by (held_by slot) 0 endpoints) 0 (count * b) in
    let length-slots : length slots ≡ b = omega (arith, length-take b (drop place all), length-drop place all) in
    let packets : map (packet_sent endpoint) slots ≡ map sent (range_with_len 0 b) =
    ext_get_or None (map (packet_sent endpoint) slots) (map sent (range_with_len 0 b))
    (length-map slots (packet_sent endpoint) ∙ (length-slots ∙ sym (length-map-range_with_len sent 0 b)))
    (λ k inside.
    let here : k < b = omega (arith, length-map slots (packet_sent endpoint)) in
    let slot : get_or slots k [] ≡ packets_by (held_by (place + k)) 0 endpoints =
    get_or-take b (drop place all) k [] here ∙ (get_or-drop place all k []
    ∙ get_or-map-range_with_len (λ slot. packets_by (held_by slot) 0 endpoints) 0 (count * b) (place + k) (place + k) [] (omega arith) (omega arith)) in
    get_or-map (packet_sent endpoint) slots k [] None (omega arith)
    ∙ (ap (packet_sent endpoint) slot
    ∙ (packet_from-at (held_by (place + k)) 0 endpoints endpoint (omega arith) (omega arith)
    ∙ (ap (λ (s : ℕ). option_map (packet_by endpoint) (hop_in (list_at b counts told (s * endpoints + endpoint)) ((place + k) % b))) (div-mul-add batch b k here)
    ∙ (ap (λ (o : ℕ). option_map (packet_by endpoint) (hop_in list o)) (mod-mul-add batch b k here)
    ∙ sym (get_or-map-range_with_len sent 0 b k k None here (omega arith))))))) in
    let of : IsToldList endpoints b list = are.each (batch * endpoints + endpoint) (omega (arith, fits endpoints count batch held)) in
    ap (told_from 0) packets ∙ (told_src endpoint (hop_in list) 0 0 b ∙ sym of.is)

pub slots_in_lists : (endpoints b count : ℕ) (counts : List ℕ) (told : List Told) → length (slots_of_lists endpoints b (count * b) counts told) ≡ count * b
unfolding slots_of_lists
slots_in_lists endpoints b count counts told =
    length-map-range_with_len (λ slot. packets_by (λ source. hop_in (list_at b counts told (slot / b * endpoints + source)) (slot % b)) 0 endpoints) 0 (count * b)

-- ---- sizes

whole_batches : (n b : ℕ) → 0 < b → n % b ≡ 0 → n / b * b ≡ n
whole_batches n b some whole = omega arith

-- slots of whole batches are those of so many
pub batches_held : (slots size b now count : ℕ) → size ≡ b → b ≡ now → slots ≡ count → 0 < b → count % now ≡ 0 → slots / size * b ≡ count
batches_held slots size b now count is same slots_are some whole =
    ap (λ (m : ℕ). slots / m * b) is
    ∙ (whole_batches slots b some (ap (λ (m : ℕ). slots % m) same ∙ (ap (λ (m : ℕ). m % now) slots_are ∙ whole)) ∙ slots_are)

pub few_batches : (count batches b : ℕ) → 0 < b → count * b ≤ batches * b → count ≤ batches
few_batches count batches b some within = elim (cases_lt batches count) [
  | inl more ↦ absurd (omega (arith, fits b count batches more))
  | inr few ↦ few
]

-- a list lies within those that there is room for
pub lists_fit : (endpoint endpoints batch count batches b : ℕ) → endpoint < endpoints → batch < count → count ≤ batches
    → (batch * endpoints + endpoint < count * endpoints) × (batch * endpoints + endpoint < batches * endpoints) × ((batch * endpoints + endpoint) * b + b ≤ batches * endpoints * b)
lists_fit endpoint endpoints batch count batches b below held fit =
    let within : batch * endpoints + endpoints ≤ count * endpoints = fits endpoints count batch held in
    let room : batch * endpoints + endpoints ≤ batches * endpoints = fits endpoints batches batch (omega arith) in
    (omega arith, omega arith, fits b (batches * endpoints) (batch * endpoints + endpoint) (omega arith))

-- an endpoint and a batch of a window are of the values that it stands for
pub held_window : (inside now : PublisherWindow) (endpoint batch : ℕ) → inside ≡ now → endpoint < now.endpoints → now.first_batch ≤ batch → batch < now.first_batch + now.count
    → (batch - inside.first_batch < inside.count) × (endpoint < inside.endpoints)
held_window inside now endpoint batch is below first last =
    let begins : inside.first_batch ≡ now.first_batch = ap (λ (w : PublisherWindow). w.first_batch) is in
    let count : inside.count ≡ now.count = ap (λ (w : PublisherWindow). w.count) is in
    let endpoints : inside.endpoints ≡ now.endpoints = ap (λ (w : PublisherWindow). w.endpoints) is in
    (omega arith, omega arith)
