-- The maps of the endpoints, as lists of words.
use Rattle.std.proofs.Common.{◌≡◌, ◌<◌, ◌+◌, ◌-◌, cond, false, arith, ◌^◌, ℕ, List, length, get_or, set, Bool, not, ◌==◌, ◌&&◌, ◌||◌, bit_and, refl, sym, ap, ◌∙◌, inl, inr}
use Rattle.std.proofs.lemmas.Bool.{cases_eq, and_left, eq-eqb, ne_eqb}
use Rattle.std.proofs.lemmas.List.{get_or-set_same, get_or-set_other, get_or_read}
use Rattle.std.proofs.Math.Bool.{and-true}
use Rattle.endpoint_bitmaps.specs.Slots.{has_slot}
use Rattle.endpoint_bitmaps.specs.FreeSlots.{FreeSlots, is_free_to_send, may_receive, leaving_in, entering_in, rack_in, needs_links, has_links, is_common, HasTaken}
use Rattle.endpoint_bitmaps.proofs.WordLemmas.{has_slot-both, has_slot-without, has_slot-none}

-- what two endpoints have in common
pub common_is : (senders receivers : List ℕ) (src dst s r slot : ℕ) → src < length senders → dst < length receivers → s ≡ get_or senders src s → r ≡ get_or receivers dst r
    → has_slot (bit_and s r) slot ≡ (has_slot (get_or senders src 0) slot && has_slot (get_or receivers dst 0) slot)
common_is senders receivers src dst s r slot src_below dst_below s_is r_is =
    has_slot-both s r slot
    ∙ (ap (λ (n : ℕ). has_slot n slot && has_slot r slot) (get_or_read senders src s src_below s_is 0)
    ∙ ap (λ (n : ℕ). has_slot (get_or senders src 0) slot && has_slot n slot) (get_or_read receivers dst r dst_below r_is 0))

-- slots are taken from the word of one endpoint
pub without_taken : (words : List ℕ) (at word taken endpoint slot : ℕ) → at < length words → word < 2 ^ 64 → taken < 2 ^ 64 → word ≡ get_or words at word
    → has_slot (get_or (set words at (bit_and word (2 ^ 64 - 1 - taken))) endpoint 0) slot ≡ (has_slot (get_or words endpoint 0) slot && not ((endpoint == at) && has_slot taken slot))
without_taken words at word taken endpoint slot below fits taken_fits is = elim (cases_eq endpoint at) [
  | inl here ↦
      rw here
      (ap (λ (n : ℕ). has_slot n slot) (get_or-set_same words at (bit_and word (2 ^ 64 - 1 - taken)) 0 below)
      ∙ (has_slot-without word taken slot fits taken_fits
      ∙ (ap (λ (n : ℕ). has_slot n slot && not (has_slot taken slot)) (get_or_read words at word below is 0)
      ∙ ap (λ (b : Bool). has_slot (get_or words at 0) slot && not (b && has_slot taken slot)) (sym (eq-eqb at at refl)))))
  | inr other ↦
      ap (λ (n : ℕ). has_slot n slot) (get_or-set_other words at endpoint (bit_and word (2 ^ 64 - 1 - taken)) 0 other)
      ∙ (sym (and-true (has_slot (get_or words endpoint 0) slot))
      ∙ ap (λ (b : Bool). has_slot (get_or words endpoint 0) slot && not b) (sym (and_left _ _ (ne_eqb endpoint at other))))
]

-- no slot is taken: all stays
pub none_taken : (src dst taken : ℕ) (maps : FreeSlots) → taken ≡ 0 → HasTaken src dst (has_slot taken) maps maps
none_taken src dst taken maps none = record {
  endpoints = refl;
  limits = refl;
  senders = λ endpoint slot. stays (is_free_to_send maps endpoint slot) (endpoint == src) (has_slot taken slot) (no_slot slot);
  receivers = λ endpoint slot. stays (may_receive maps endpoint slot) (endpoint == dst) (has_slot taken slot) (no_slot slot);
  leaving = λ rack slot below. no_more (leaving_in maps rack slot) (rack == rack_in maps src) (needs_links maps src dst) (has_slot taken slot) (no_slot slot);
  entering = λ rack slot below. no_more (entering_in maps rack slot) (rack == rack_in maps dst) (needs_links maps src dst) (has_slot taken slot) (no_slot slot);
}
  where
    no_slot : (slot : ℕ) → has_slot taken slot ≡ false
    no_slot slot = ap (λ (n : ℕ). has_slot n slot) none ∙ has_slot-none slot

    stays : (free here taken : Bool) → taken ≡ false → free ≡ (free && not (here && taken))
    stays free here taken none = grind arith

    no_more : (n : ℕ) (here counted taken : Bool) → taken ≡ false → n ≡ n + cond (here && (counted && taken)) 1 0
    no_more n here counted taken none = grind arith

-- where either end isn't free, the slot is not common
pub none_common : (maps : FreeSlots) (src dst slot : ℕ) → false ≡ (is_free_to_send maps src slot && may_receive maps dst slot) → false ≡ is_common maps src dst slot
none_common maps src dst slot none = ap (λ (b : Bool). b && (not (needs_links maps src dst) || has_links maps src dst slot)) none
