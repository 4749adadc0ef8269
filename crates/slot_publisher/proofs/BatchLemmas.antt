-- The lists of a batch, slot after slot: an endpoint's list grows by what the endpoint sends in a slot, and the others stay.
use Rattle.std.proofs.Common.{◌≡◌, ◌≢◌, ◌<◌, ◌≤◌, ◌+◌, ◌-◌, ◌*◌, ◌++◌, ℕ, List, [], length, get_or, set, take, drop, Option, None, IfSome, refl, sym, ap, ◌∙◌, mul-le-mul_right, arith, inl, inr}
use Rattle.std.specs.Option.{option_map, unwrap_or}
use Rattle.std.specs.List.{cons_option}
use Rattle.std.proofs.lemmas.Bool.{cases_order}
use Rattle.std.proofs.lemmas.Nat.{row_fits}
use Rattle.std.proofs.lemmas.List.{get_or-set_same, get_or-set_other, get_or-take, get_or-drop, take-take, drop-take, drop-drop}
use Rattle.std.proofs.lemmas.Slice.{take-put_mid_below, between-put_mid}
use borrow.Rule.Slice.PartMut.{put_mid}
use Rattle.fcp_framing.specs.declared.packet.Told.{Told}
use Rattle.greedy_rules.specs.declared.flows.Flow.{Flow}
use Rattle.greedy_rules.specs.Schedule.{slot_in}
use Rattle.greedy_rules.specs.SlotTable.{Slots, flows_from, destination_of}
use Rattle.greedy_rules.proofs.RowLemmas.{destination-at}
use Rattle.path_workers.specs.CoreTable.{CoreSlots, core_of}
use Rattle.slot_publisher.specs.Window.{NamesCores}
use Rattle.slot_publisher.specs.Places.{Hop, told_of_offsets, count_at, hops_from, ListTells, ListsTell, ListsArePut}
use Rattle.slot_publisher.proofs.PacketLemmas.{named_byte}
use Rattle.slot_publisher.proofs.ToldLemmas.{told_more, slot_told}
use Rattle.slot_publisher.proofs.PlaceLemmas.{list_here, list_kept}

-- ---- a row of destinations

-- what stands at a source's place of a row is the source's destination
pub place_is : (at : ℕ) (cells : List (Option ℕ)) (slot : List Flow) → flows_from 0 cells ≡ slot → get_or cells at None ≡ destination_of slot at
place_is at cells slot is = sym (destination-at 0 at at cells (omega arith)) ∙ ap (λ (flows : List Flow). destination_of flows at) is

-- ---- one slot more

-- a list that is written tells of one slot more
pub tells_more : (slots : Slots) (cores : CoreSlots) (from b offset at k c byte : ℕ) (to : Option ℕ) (counts : List ℕ) (told list : List Told) → k ≡ b → length list ≡ b → c ≤ count_at counts at + 1 → offset < b
    → at < length counts → at * b ≤ length told → from + offset < length slots.slots → NamesCores slots.slots cores → to ≡ destination_of (slot_in slots.slots (from + offset)) at
    → (IfSome (core_of cores (from + offset) at) (λ core. core < 64) → byte ≡ unwrap_or (core_of cores (from + offset) at) 255)
    → take c list ≡ take (count_at counts at) (take k (drop (at * b) told)) ++ cons_option (option_map (λ (d : ℕ). record { offset = offset; core = byte; dst = d }) to) []
    → ListTells slots cores from b offset counts told at → ListTells slots cores from b (offset + 1) (set counts at c) (put_mid (at * b) k told list) at
tells_more slots cores from b offset at k c byte to counts told list size whole one below counted within inside named goes byte_is written tells =
    let slot : ℕ = from + offset in
    let count : ℕ = count_at counts at in
    let hops : ℕ → Option Hop = hops_from slots cores from at in
    let dst : Option ℕ = destination_of (slot_in slots.slots slot) at in
    let more : Option ℕ → List Told = λ d. cons_option (option_map (λ (n : ℕ). record { offset = offset; core = byte; dst = n }) d) [] in
    let before : take count (take k (drop (at * b) told)) ≡ told_of_offsets hops offset = take-take count k (drop (at * b) told) (omega (arith, tells.0, below, size)) ∙ tells.1 in (
      omega (arith, get_or-set_same counts at c 0 counted, one, tells.0),
      list_here b at k c counts told list size whole (omega (arith, one, tells.0, below)) counted within
          ∙ (written
          ∙ (ap (λ (old : List Told). old ++ more to) before
          ∙ (ap (λ (d : Option ℕ). told_of_offsets hops offset ++ more d) goes
          ∙ (ap (λ (new : List Told). told_of_offsets hops offset ++ new) (slot_told offset byte (core_of cores slot at) dst (named_byte slots.slots cores slot at byte dst inside named refl byte_is))
          ∙ sym (told_more hops offset (offset + 1) refl))))),
    )

-- and the other lists tell what they told
pub tells_still : (slots : Slots) (cores : CoreSlots) (from b n at other k c : ℕ) (counts : List ℕ) (told list : List Told) → k ≡ b → length list ≡ b → at * b ≤ length told → other ≢ at → n ≤ b
    → ListTells slots cores from b n counts told other → ListTells slots cores from b n (set counts at c) (put_mid (at * b) k told list) other
tells_still slots cores from b n at other k c counts told list size whole within apart few tells = (
  omega (arith, get_or-set_other counts at other c 0 apart, tells.0),
  list_kept b at k c other counts told list size whole within apart (omega (arith, tells.0, few)) ∙ tells.1,
)

-- ---- one batch more

-- a list of a part that is written, in the whole
list_inside : (b n e size k at c : ℕ) (told part : List Told) → size ≡ e * b → length part ≡ size → n * b ≤ length told → k ≡ size → at < e → c ≤ b
    → take c (drop ((n + at) * b) (put_mid (n * b) k told part)) ≡ take c (drop (at * b) part)
list_inside b n e size k at c told part is whole within k_is below few =
    let from : ℕ = n * b in
    let after : List Told = put_mid from k told part in
    let place : ℕ = at * b in
    let room : place + b ≤ e * b = row_fits at b e b below (omega arith) in
    let rest : ℕ = size - place in
    let parts : size ≡ place + rest = omega (arith, room, is) in
    let written : take size (drop from after) ≡ part = ap (λ (m : ℕ). take m (drop from after)) (omega arith) ∙ between-put_mid from k told part (from + size) within (omega (arith, whole)) in
    let there : (n + at) * b ≡ from + place = omega arith in
    ap (λ (m : ℕ). take c (drop m after)) there
    ∙ (ap (take c) (sym (drop-drop place from after))
    ∙ (sym (take-take c rest (drop place (drop from after)) (omega (arith, room, is, few)))
    ∙ ap (take c) (sym (drop-take place rest (drop from after)) ∙ (ap (λ (m : ℕ). drop place (take m (drop from after))) (sym parts) ∙ ap (drop place) written))))

count_inside : (n e k at : ℕ) (counts part : List ℕ) → length part ≡ e → n ≤ length counts → k ≡ e → at < e → count_at (put_mid n k counts part) (n + at) ≡ count_at part at
count_inside n e k at counts part whole within k_is below =
    let after : List ℕ = put_mid n k counts part in
    let written : take e (drop n after) ≡ part = ap (λ (m : ℕ). take m (drop n after)) (omega arith) ∙ between-put_mid n k counts part (n + e) within (omega (arith, whole)) in
    sym (get_or-drop n after at 0) ∙ (sym (get_or-take e (drop n after) at 0 below) ∙ ap (λ (xs : List ℕ). get_or xs at 0) written)

-- a list before the part
list_outside : (b n k list c : ℕ) (told part : List Told) → n * b ≤ length told → list < n → c ≤ b → take c (drop (list * b) (put_mid (n * b) k told part)) ≡ take c (drop (list * b) told)
list_outside b n k list c told part within below few =
    let from : ℕ = n * b in
    let place : ℕ = list * b in
    let after : List Told = put_mid from k told part in
    let same : take b (drop place after) ≡ take b (drop place told) =
    sym (drop-take place b after) ∙ (ap (drop place) (take-put_mid_below from k told part (place + b) (row_fits list b n b below (omega arith)) within) ∙ drop-take place b told) in
    sym (take-take c b (drop place after) few) ∙ (ap (take c) same ∙ take-take c b (drop place told) few)

count_outside : (n k list : ℕ) (counts part : List ℕ) → n ≤ length counts → list < n → count_at (put_mid n k counts part) list ≡ count_at counts list
count_outside n k list counts part within below =
    sym (get_or-take n (put_mid n k counts part) list 0 below)
    ∙ (ap (λ (xs : List ℕ). get_or xs list 0) (take-put_mid_below n k counts part n (omega arith) within) ∙ get_or-take n counts list 0 below)

-- where the lists of a batch tell of its slots, they are put with those of the batches before
pub batch_is_put : (slots : Slots) (cores : CoreSlots) (b batch from n e size k l : ℕ) (counts new_counts : List ℕ) (told new_told : List Told) → n ≡ batch * slots.endpoints → e ≡ slots.endpoints → size ≡ e * b → from ≡ batch * b
    → length new_counts ≡ e → length new_told ≡ size → k ≡ e → l ≡ size → n + e ≤ length counts → length told ≡ length counts * b → ListsTell slots cores from b b new_counts new_told
    → ListsArePut slots cores b (batch * slots.endpoints) counts told → ListsArePut slots cores b (batch * slots.endpoints + slots.endpoints) (put_mid n k counts new_counts) (put_mid (n * b) l told new_told)
batch_is_put slots cores b batch from n e size k l counts new_counts told new_told n_is e_is size_is from_is counted whole k_is l_is room places tells put = λ other at at_below up_to.
    let endpoints : ℕ = slots.endpoints in
    let list : ℕ = other * endpoints + at in
    let after_counts : List ℕ = put_mid n k counts new_counts in
    let after_told : List Told = put_mid (n * b) l told new_told in
    let within : n * b ≤ length told = let few : n ≤ length counts = omega (arith, room) in omega (arith, places, mul-le-mul_right b few) in
    elim (cases_order other batch) [
      | inl here ↦
          let list_is : list ≡ n + at = omega (arith, n_is, ap (λ (s : ℕ). s * endpoints) here) in
          let told_now = tells at at_below in
          let inside : at < e = omega (arith, e_is) in
          let count : count_at after_counts list ≡ count_at new_counts at = ap (count_at after_counts) list_is ∙ count_inside n e k at counts new_counts counted (omega (arith, room)) k_is inside in (
            omega (arith, count, told_now.0),
            ap (λ (c : ℕ). take c (drop (list * b) after_told)) count
                ∙ (ap (λ (m : ℕ). take (count_at new_counts at) (drop (m * b) after_told)) list_is
                ∙ (list_inside b n e size l at (count_at new_counts at) told new_told size_is whole within l_is inside told_now.0
                ∙ (told_now.1
                ∙ ap (λ (s : ℕ). told_of_offsets (hops_from slots cores s at) b) (from_is ∙ ap (λ (s : ℕ). s * b) (sym here))))),
          )
      | inr (inl before) ↦
          let below : list < n = omega (arith, n_is, row_fits other endpoints batch endpoints before (omega arith)) in
          let told_before = put other at at_below (omega (arith, below, n_is)) in
          let count : count_at after_counts list ≡ count_at counts list = count_outside n k list counts new_counts (omega (arith, room)) below in (
            omega (arith, count, told_before.0),
            ap (λ (c : ℕ). take c (drop (list * b) after_told)) count
                ∙ (list_outside b n l list (count_at counts list) told new_told within below told_before.0 ∙ told_before.1),
          )
      | inr (inr after) ↦ absurd (omega (arith, up_to, row_fits batch endpoints other endpoints after (omega arith)))
    ]
