-- What speaks against an item waiting as it is, and where nothing does.
use Rattle.std.proofs.Common.{◌≡◌, ◌≢◌, ◌<◌, ◌+◌, ◌*◌, ◌%◌, ◌^◌, ℕ, Bool, List, get_or, refl, length, take, drop, false, not, ◌&&◌, ◌||◌, ◌==◌, nat_lt, min, bit_or, w64, true, All, sym, ap, ◌∙◌, subst, arith, inl, inr}
use mir.Val.{bool_byte}
use Rattle.std.specs.Int.{bit_at}
use Rattle.std.specs.Int.Bits.{or_zero_r}
use Rattle.std.proofs.Math.Nat.{zero-mul}
use Rattle.std.proofs.lemmas.Nat.Bits.{bit_at_set_same, bit_at_set_other}
use Rattle.std.proofs.Math.Seq.{take-add}
use Rattle.std.proofs.lemmas.Nat.{le_or_l, le_or_r}
use Rattle.std.proofs.lemmas.Bool.{cases_eq, cases_Bool, and_left, and_right, le-ltb, eqb-true, ne_eqb, not-false, both_ways}
use Rattle.std.proofs.lemmas.List.{take_all}
use Rattle.std.proofs.lemmas.List.Elements.{All-nil, All-more, All-append}
use Rattle.std.proofs.lemmas.Bool.Decides.{nat_tests}
use Rattle.greedy_rules.specs.declared.flows.Item.{Item}
use Rattle.greedy_rules.specs.declared.flows.Entry.{Entry}
use Rattle.endpoint_bitmaps.specs.Slots.{has_slot, count_below}
use Rattle.endpoint_bitmaps.specs.FreeSlots.{FreeSlots, is_free_to_send, may_receive, needs_links, has_links, is_common}
use Rattle.endpoint_bitmaps.proofs.Facts.{has_slot-none}
use Rattle.slot_batches.specs.Rests.{TakesNone, ItemRests, WantsNone, IsUndoubted, HaveNoMore}

pub both_none : (a b : ℕ) → bit_or a b ≡ 0 → (a ≡ 0) × (b ≡ 0)
both_none a b none = (omega (arith, le_or_l a b, none), omega (arith, le_or_r a b, none))

pub four_none : (a b d e : ℕ) → bit_or (bit_or (bit_or a b) d) e ≡ 0 → (a ≡ 0) × (b ≡ 0) × (d ≡ 0) × (e ≡ 0)
four_none a b d e none =
    let all = both_none (bit_or (bit_or a b) d) e none in
    let three = both_none (bit_or a b) d all.0 in
    let two = both_none a b three.0 in
    (two.0, two.1, three.1, all.1)

-- an item whose ends share no slot takes none
shares_none : (maps : FreeSlots) (item : Item) (place : ℕ) → (is_free_to_send maps item.flow.src place && may_receive maps item.flow.dst place) ≡ false
    → (is_common maps item.flow.src item.flow.dst place && nat_lt (count_below (is_common maps item.flow.src item.flow.dst) place) item.need) ≡ false
shares_none maps item place none =
    and_left (is_common maps item.flow.src item.flow.dst place) (nat_lt (count_below (is_common maps item.flow.src item.flow.dst) place) item.need)
    (and_left (is_free_to_send maps item.flow.src place && may_receive maps item.flow.dst place)
    (not (needs_links maps item.flow.src item.flow.dst) || has_links maps item.flow.src item.flow.dst place) none)

-- nor does one without a need
pub needs_none : (maps : FreeSlots) (item : Item) → item.need ≡ 0 → TakesNone maps item
needs_none maps item idle = λ place.
    and_right (is_common maps item.flow.src item.flow.dst place) (nat_lt (count_below (is_common maps item.flow.src item.flow.dst) place) item.need)
    (le-ltb (count_below (is_common maps item.flow.src item.flow.dst) place) item.need (omega (arith, idle)))

-- no flow opens before an item that was never served
pub none_open_before : (last unopened : ℕ) → last ≡ 0 → (nat_lt 0 last && not (unopened == 0)) ≡ false
none_open_before last unopened none = grind (arith, nat_tests)

-- nor once all flows have opened
pub opened_before : (last unopened : ℕ) → unopened ≡ 0 → (nat_lt 0 last && not (unopened == 0)) ≡ false
opened_before last unopened all = grind (arith, nat_tests)

-- where nothing is doubted, the need or the slots are 0, and there is no mark
pub nothing_doubted : (need slots marks : ℕ) → ((not (need == 0) && not (slots == 0)) || not (marks == 0)) ≡ false → (min slots need ≡ 0) × (marks ≡ 0)
nothing_doubted need slots marks none = (least need slots (either (not (need == 0) && not (slots == 0)) (marks == 0) none).0, eqb-true marks 0 (either (not (need == 0) && not (slots == 0)) (marks == 0) none).1)
  where
    either : (a b : Bool) → (a || not b) ≡ false → (a ≡ false) × (b ≡ true)
    either true b is = absurd (both_ways true is refl)
    either false true is = (refl, refl)
    either false false is = absurd (both_ways true is refl)

    least : (need slots : ℕ) → (not (need == 0) && not (slots == 0)) ≡ false → min slots need ≡ 0
    least need slots none = elim (cases_eq need 0) [
      | inl idle ↦ omega (arith, idle)
      | inr needs ↦
          let slots_none : (not (slots == 0)) ≡ false = ap (λ (b : Bool). not b && not (slots == 0)) (sym (ne_eqb need 0 needs)) ∙ none in
          let zero_slots : slots ≡ 0 = eqb-true slots 0 (not-false (slots == 0) slots_none) in
          omega (arith, zero_slots)
    ]

-- where the least of both is 0
pub wants_none : (maps : FreeSlots) (item : Item) (shared : ℕ) → ((slot : ℕ) → has_slot shared slot ≡ (is_free_to_send maps item.flow.src slot && may_receive maps item.flow.dst slot))
    → min shared item.need ≡ 0 → WantsNone maps item
wants_none maps item shared is none = elim (cases_eq item.need 0) [
  | inl idle ↦ inl idle
  | inr needs ↦
      let zero_shared : shared ≡ 0 = omega (arith, none, needs) in
      inr (λ slot. sym (is slot) ∙ (ap (λ (n : ℕ). has_slot n slot) zero_shared ∙ has_slot-none slot))
]

pub takes_none : (maps : FreeSlots) (item : Item) → WantsNone maps item → TakesNone maps item
takes_none maps item wants = elim wants [
  | inl idle ↦ needs_none maps item idle
  | inr apart ↦ λ place. shares_none maps item place (apart place)
]

pub no_more_on : (old mid new : FreeSlots) → HaveNoMore old mid → HaveNoMore mid new → HaveNoMore old new
no_more_on old mid new first then = record {
  senders = λ endpoint slot none. then.senders endpoint slot (first.senders endpoint slot none);
  receivers = λ endpoint slot none. then.receivers endpoint slot (first.receivers endpoint slot none);
}

-- an item that wants none wants none later
wants_none_on : (old new : FreeSlots) (item : Item) → HaveNoMore old new → WantsNone old item → WantsNone new item
wants_none_on old new item no_more wants = elim wants [
  | inl idle ↦ inl idle
  | inr apart ↦
      let src : ℕ = item.flow.src in
      let dst : ℕ = item.flow.dst in
      inr (λ slot. elim (cases_Bool (is_free_to_send old src slot)) [
        | inl free ↦
            let none : may_receive old dst slot ≡ false = ap (λ (b : Bool). b && may_receive old dst slot) (sym free) ∙ apart slot in
            and_right (is_free_to_send new src slot) (may_receive new dst slot) (no_more.receivers dst slot none)
        | inr none ↦ and_left (is_free_to_send new src slot) (may_receive new dst slot) (no_more.senders src slot none)
      ])
]

-- nor does anything speak against it later
pub undoubted_on : (entries : List Entry) (old new : FreeSlots) (item : Item) → HaveNoMore old new → IsUndoubted entries old item → IsUndoubted entries new item
undoubted_on entries old new item no_more is = record { no_entry = is.no_entry; wants_none = wants_none_on old new item no_more is.wants_none }

-- where no flow may open any more it waits as it is
pub undoubted_rests : (entries : List Entry) (maps : FreeSlots) (item : Item) → IsUndoubted entries maps item → ItemRests entries 0 maps item
undoubted_rests entries maps item is = record {
  no_entry = is.no_entry;
  none_opens = opened_before item.last 0 refl;
  takes_none = takes_none maps item is.wants_none;
}

-- a fact of each of four
pub all_four : {X : Type 0} (P : X → Type 0) (xs : List X) (d : X) → length xs ≡ 4 → P (get_or xs 0 d) → P (get_or xs 1 d) → P (get_or xs 2 d) → P (get_or xs 3 d) → All P xs
all_four P xs d four first second third fourth =
    subst (All P) (take_all 4 xs (omega (arith, four)))
    (All-more P xs 3 d (omega (arith, four)) (All-more P xs 2 d (omega (arith, four)) (All-more P xs 1 d (omega (arith, four)) (All-more P xs 0 d (omega (arith, four)) (All-nil P) first) second) third) fourth)

-- a fact of a front, and of what stands next
pub front_on : {X : Type 0} (P : X → Type 0) (xs : List X) (at more : ℕ) → All P (take at xs) → All P (take more (drop at xs)) → All P (take (at + more) xs)
front_on P xs at more front next = subst (All P) (sym (take-add at more xs)) (All-append P (take at xs) (take more (drop at xs)) front next)

-- a bit is set, and the others stay
pub bit_added : (old new at : ℕ) → at < 64 → new ≡ bit_or old (1 * 2 ^ at % 2 ^ 64) → has_slot new at ≡ true
bit_added old new at below is = ap (λ (n : ℕ). bit_at n at == 1) is ∙ ap (λ (n : ℕ). n == 1) (bit_at_set_same w64 old at below)

pub bit_kept : (old new at place : ℕ) → at < 64 → new ≡ bit_or old (1 * 2 ^ at % 2 ^ 64) → place ≢ at → has_slot new place ≡ has_slot old place
bit_kept old new at place below is apart = ap (λ (n : ℕ). bit_at n place == 1) is ∙ ap (λ (n : ℕ). n == 1) (bit_at_set_other w64 old at below place apart)

-- a truth value is joined as a bit
pub bit_joined : (old at bit : ℕ) (b : Bool) → at < 64 → bit ≡ bool_byte b → (b ≡ true → bit_or old (bit * 2 ^ at % 2 ^ 64) ≡ bit_or old (1 * 2 ^ at % 2 ^ 64)) × (b ≡ false → bit_or old (bit * 2 ^ at % 2 ^ 64) ≡ old)
bit_joined old at bit b below is = (
  λ yes.
      let one : bit ≡ 1 = is ∙ ap bool_byte yes in
      ap (λ (n : ℕ). bit_or old (n * 2 ^ at % 2 ^ 64)) one,
  λ no.
      let zero_bit : bit ≡ 0 = is ∙ ap bool_byte no in
      let zero_product : bit * 2 ^ at ≡ 0 = ap (λ (n : ℕ). n * 2 ^ at) zero_bit ∙ zero-mul (2 ^ at) in
      let none : bit * 2 ^ at % 2 ^ 64 ≡ 0 = ap (λ (n : ℕ). n % 2 ^ 64) zero_product in
      ap (bit_or old) none ∙ or_zero_r old,
)
