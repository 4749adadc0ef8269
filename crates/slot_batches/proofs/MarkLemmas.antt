-- Marks for flows, as a list of words.
use Rattle.std.proofs.Common.{◌≡◌, ◌<◌, ◌*◌, ◌%◌, ◌^◌, ℕ, List, [], ◌∷◌, length, get_or, set, Bool, true, false, not, ◌&&◌, ◌||◌, ◌==◌, nat_lt, min, bit_and, bit_or, Option, Some, None, refl, sym, ap, ◌∙◌, w64, arith, inl, inr}
use Rattle.std.specs.Prelude.{find}
use Rattle.std.specs.Int.{bit_at}
use Rattle.std.proofs.lemmas.Bool.{cases_eq, cond-false, or_right, lt-ltb, false_from_ne_true, both_ways}
use Rattle.std.proofs.lemmas.List.{get_or-set_same, get_or-set_other, get_or_read, length-set}
use Rattle.std.proofs.lemmas.List.Elements.{All-head, All-tail}
use Rattle.std.proofs.lemmas.Nat.Bits.{bit_at-zero, bit_at_and, bit_at_set_same, bit_at_set_other}
use Rattle.greedy_rules.specs.declared.flows.Flow.{Flow}
use Rattle.greedy_rules.specs.declared.flows.Item.{Item}
use Rattle.greedy_rules.specs.declared.flows.Entry.{Entry}
use Rattle.greedy_rules.specs.Flows.{same_flow}
use Rattle.greedy_rules.specs.Batches.{entry_of}
use Rattle.greedy_rules.specs.Demands.{with_batch, need_with}
use Rattle.greedy_rules.proofs.Facts.{same_flow-true}
use Rattle.endpoint_bitmaps.specs.Slots.{has_slot}
use Rattle.slot_batches.specs.Marks.{source_place, destination_place, mark_bit, has_bit, is_flow_marked, AreMarked}

module _ (words : List ℕ) (at bit word : ℕ) (within : at < length words) (is : word ≡ get_or words at word) (place : bit < 64) where
  abbrev marked : List ℕ
  marked = set words at (bit_or word (1 * 2 ^ bit % 2 ^ 64))

  here_is : get_or marked at 0 ≡ bit_or word (1 * 2 ^ bit % 2 ^ 64)
  here_is = get_or-set_same words at (bit_or word (1 * 2 ^ bit % 2 ^ 64)) 0 within

  pub sets_it : has_bit marked at bit ≡ true
  sets_it =
      or_right (not (nat_lt at (length marked))) (has_slot (get_or marked at 0) bit)
      (ap (λ (n : ℕ). has_slot n bit) here_is ∙ ap (λ (n : ℕ). n == 1) (bit_at_set_same w64 word bit place))

  pub keeps_others : (there other : ℕ) → has_bit words there other ≡ true → has_bit marked there other ≡ true
  keeps_others there other was =
      let long : length marked ≡ length words = length-set words at (bit_or word (1 * 2 ^ bit % 2 ^ 64)) in
      elim (cases_eq there at) [
        | inr apart ↦
            ap (λ (n : ℕ). not (nat_lt there n) || has_slot (get_or marked there 0) other) long
            ∙ (ap (λ (n : ℕ). not (nat_lt there (length words)) || has_slot n other) (get_or-set_other words at there (bit_or word (1 * 2 ^ bit % 2 ^ 64)) 0 apart) ∙ was)
        | inl same ↦
            or_right (not (nat_lt there (length marked))) (has_slot (get_or marked there 0) other)
            (ap (λ (n : ℕ). has_slot (get_or marked n 0) other) same ∙ (ap (λ (n : ℕ). has_slot n other) here_is
            ∙ elim (cases_eq other bit) [
              | inl it ↦ ap (λ (k : ℕ). has_slot (bit_or word (1 * 2 ^ bit % 2 ^ 64)) k) it ∙ ap (λ (n : ℕ). n == 1) (bit_at_set_same w64 word bit place)
              | inr differs ↦
                  ap (λ (n : ℕ). n == 1) (bit_at_set_other w64 word bit place other differs)
                  ∙ (ap (λ (n : ℕ). has_slot n other) (get_or_read words at word within is 0 ∙ ap (λ (n : ℕ). get_or words n 0) (sym same))
                  ∙ (sym (ap (λ (b : Bool). not b || has_slot (get_or words there 0) other) (lt-ltb there (length words) (omega (arith, same, within)))) ∙ was))
            ]))
      ]

-- words without a bit in common
no_common_bit : (x y : ℕ) → min x y ≡ 0 → ((x == 1) && (y == 1)) ≡ false
no_common_bit x y none = grind arith

has_bit-inside : (words : List ℕ) (at bit : ℕ) → at < length words → has_bit words at bit ≡ has_slot (get_or words at 0) bit
has_bit-inside words at bit within = ap (λ (b : Bool). not b || has_slot (get_or words at 0) bit) (lt-ltb at (length words) within)

pub none_in_common : (words : List ℕ) (flow : Flow) → source_place flow < length words → destination_place flow < length words
    → bit_and (get_or words (source_place flow) 0) (get_or words (destination_place flow) 0) ≡ 0 → is_flow_marked words flow ≡ false
none_in_common words flow source destination none =
    let a : ℕ = get_or words (source_place flow) 0 in
    let b : ℕ = get_or words (destination_place flow) 0 in
    let k : ℕ = mark_bit flow in
    ap (λ (t : Bool). t && has_bit words (destination_place flow) k) (has_bit-inside words (source_place flow) k source)
    ∙ (ap (λ (t : Bool). has_slot a k && t) (has_bit-inside words (destination_place flow) k destination)
    ∙ no_common_bit (bit_at a k) (bit_at b k) (sym (bit_at_and a b k) ∙ (ap (λ (n : ℕ). bit_at n k) none ∙ bit_at-zero k)))

-- a flow without a mark has no entry
pub not_marked : (entries : List Entry) (words : List ℕ) (flow : Flow) → AreMarked entries words → is_flow_marked words flow ≡ false → entry_of entries flow ≡ None
not_marked [] words flow all none = refl
not_marked (entry ∷ entries) words flow all none =
    let Marked : Entry → Type 0 = λ e. is_flow_marked words e.flow ≡ true in
    let differs : same_flow entry.flow flow ≡ false =
    false_from_ne_true _ (λ same. both_ways (is_flow_marked words flow) none (ap (is_flow_marked words) (sym (same_flow-true entry.flow flow same)) ∙ All-head Marked entry entries all)) in
    cond-false (same_flow entry.flow flow) (Some entry) (find (λ e. same_flow e.flow flow) entries) differs
    ∙ not_marked entries words flow (All-tail Marked entry entries all) none

-- so its item stays as it is
pub not_marked_item : (entries : List Entry) (words : List ℕ) (item : Item) → AreMarked entries words → is_flow_marked words item.flow ≡ false → item ≡ with_batch entries item
not_marked_item entries words item marked none = ap (λ (e : Option Entry). record item { need = need_with e item.need }) (sym (not_marked entries words item.flow marked none))
