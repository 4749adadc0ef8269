-- A flow is put into the slots at the places of a word, the lowest first.
use Rattle.std.proofs.Common.{◌≡◌, ◌≢◌, ◌<◌, ◌-◌, ◌^◌, ℕ, List, length, set, Bool, true, false, not, ◌==◌, ◌&&◌, bit_and, w64, None, refl, sym, ap, ◌∙◌, arith, inl, inr}
use Rattle.std.specs.Int.{trailing_zeros}
use Rattle.std.proofs.lemmas.Bool.{and_right, and_parts, not-true, eq-eqb, ne_eqb, both_ways, cases_lt}
use Rattle.std.proofs.lemmas.Nat.Bits.{bit_at-trailing_zeros}
use Rattle.std.proofs.Math.Bool.{and-not_self, and-true}
use Rattle.greedy_rules.specs.declared.flows.Flow.{Flow}
use Rattle.greedy_rules.specs.Slot.{slot_with}
use Rattle.greedy_rules.specs.Schedule.{slot_in}
use Rattle.greedy_rules.specs.SlotTable.{destination_of}
use Rattle.endpoint_bitmaps.specs.Slots.{has_slot}
use Rattle.endpoint_bitmaps.proofs.Facts.{has_slot-none, lowest_is, without_lowest}
use Rattle.slot_batches.specs.FreePlaces.{HasAdded}
use Rattle.slot_batches.specs.Filled.{IsGreatest}
use Rattle.slot_batches.proofs.Added.{added-none, added-one, added-same, added-not_yet}

-- the places of the rest are to come, and they are the greatest
pub record IsPutting (flow : Flow) (places rest : ℕ) (old new : List (List Flow)) : Type 0 where
  pub added : HasAdded flow (λ place. has_slot places place && not (has_slot rest place)) old new
  pub part : (place : ℕ) → has_slot rest place ≡ true → has_slot places place ≡ true
  pub above : (place later : ℕ) → has_slot rest place ≡ true → place < later → has_slot rest later ≡ has_slot places later

pub putting_starts : (flow : Flow) (places : ℕ) (slots : List (List Flow)) → IsPutting flow places places slots slots
putting_starts flow places slots = record {
  added = added-none flow (λ place. has_slot places place && not (has_slot places place)) slots (λ place. and-not_self (has_slot places place));
  part = λ place is. is;
  above = λ place later is after. refl;
}

pub without_other : (rest place : ℕ) → rest < 2 ^ 64 → rest ≢ 0 → place ≢ trailing_zeros w64 rest → has_slot (bit_and rest (rest - 1)) place ≡ has_slot rest place
without_other rest place fits some other =
    without_lowest rest place fits some ∙ (ap (λ (b : Bool). has_slot rest place && not b) (ne_eqb place (trailing_zeros w64 rest) other) ∙ and-true (has_slot rest place))

without_itself : (rest : ℕ) → rest < 2 ^ 64 → rest ≢ 0 → has_slot (bit_and rest (rest - 1)) (trailing_zeros w64 rest) ≡ false
without_itself rest fits some =
    let lowest : ℕ = trailing_zeros w64 rest in
    without_lowest rest lowest fits some ∙ and_right (has_slot rest lowest) _ (ap not (eq-eqb lowest lowest refl))

pub above_lowest : (rest place : ℕ) → rest < 2 ^ 64 → rest ≢ 0 → has_slot (bit_and rest (rest - 1)) place ≡ true → (has_slot rest place ≡ true) × (trailing_zeros w64 rest < place)
above_lowest rest place fits some is =
    let lowest : ℕ = trailing_zeros w64 rest in
    let at = bit_at-trailing_zeros w64 rest (omega (arith, some)) fits in
    let parts = and_parts (has_slot rest place) (not (place == lowest)) (sym (without_lowest rest place fits some) ∙ is) in
    let other : place ≢ lowest = λ same. both_ways (place == lowest) (not-true (place == lowest) parts.1) (eq-eqb place lowest same) in (
      parts.0,
      elim (cases_lt place lowest) [
        | inl below ↦ absurd (both_ways (has_slot rest place) (ap (λ (n : ℕ). n == 1) (at.2 place below)) parts.0)
        | inr from ↦ omega (arith, other, from)
      ],
    )

-- the flow is put into one slot more
pub put_one : (flow : Flow) (places rest : ℕ) (old new : List (List Flow)) → rest < 2 ^ 64 → rest ≢ 0 → IsPutting flow places rest old new → trailing_zeros w64 rest < length old
    → IsPutting flow places (bit_and rest (rest - 1)) old (set new (trailing_zeros w64 rest) (slot_with flow (slot_in new (trailing_zeros w64 rest))))
put_one flow places rest old new fits some putting within =
    let lowest : ℕ = trailing_zeros w64 rest in
    let less : ℕ = bit_and rest (rest - 1) in
    let here = lowest_is rest fits some in
    record {
      added = added-one flow (λ place. has_slot places place && not (has_slot rest place)) (λ place. has_slot places place && not (has_slot less place)) old new lowest
          putting.added within
          (and_right (has_slot places lowest) _ (ap not here))
          (ap (λ (b : Bool). b && not (has_slot less lowest)) (putting.part lowest here) ∙ ap not (without_itself rest fits some))
          (λ other differs. ap (λ (b : Bool). has_slot places other && not b) (without_other rest other fits some differs));
      part = λ place is. putting.part place (above_lowest rest place fits some is).0;
      above = λ place later is after.
          let was = above_lowest rest place fits some is in
          let differs : later ≢ lowest = λ same. absurd (omega (arith, same, was.1, after)) in
          without_other rest later fits some differs ∙ putting.above place later was.0 after;
    }

-- no place is left
pub put_all : (flow : Flow) (places rest : ℕ) (old new : List (List Flow)) → rest ≡ 0 → IsPutting flow places rest old new → HasAdded flow (has_slot places) old new
put_all flow places rest old new none putting =
    added-same flow (λ place. has_slot places place && not (has_slot rest place)) (has_slot places) old new
    (λ place. ap (λ (n : ℕ). has_slot places place && not (has_slot n place)) none ∙ (ap (λ (b : Bool). has_slot places place && not b) (has_slot-none place) ∙ and-true (has_slot places place)))
    putting.added

-- the last place is the greatest
pub last_is_greatest : (flow : Flow) (places rest : ℕ) (old new : List (List Flow)) → rest < 2 ^ 64 → rest ≢ 0 → bit_and rest (rest - 1) ≡ 0 → IsPutting flow places rest old new
    → IsGreatest (has_slot places) (trailing_zeros w64 rest)
last_is_greatest flow places rest old new fits some none putting =
    let lowest : ℕ = trailing_zeros w64 rest in
    let here = lowest_is rest fits some in
    record {
      passes = putting.part lowest here;
      none_above = λ later after.
          let differs : later ≢ lowest = λ same. absurd (omega (arith, same, after)) in
          sym (putting.above lowest later here after) ∙ (sym (without_other rest later fits some differs) ∙ (ap (λ (n : ℕ). has_slot n later) none ∙ has_slot-none later));
    }

-- the slot at the lowest place of the rest is as it was
pub not_yet : (flow : Flow) (places rest : ℕ) (old new : List (List Flow)) → rest < 2 ^ 64 → rest ≢ 0 → IsPutting flow places rest old new
    → ((place : ℕ) → has_slot places place ≡ true → place < length old) → ((place : ℕ) → has_slot places place ≡ true → destination_of (slot_in old place) flow.src ≡ None)
    → destination_of (slot_in new (trailing_zeros w64 rest)) flow.src ≡ None
not_yet flow places rest old new fits some putting within free =
    let lowest : ℕ = trailing_zeros w64 rest in
    let here = lowest_is rest fits some in
    let chosen = putting.part lowest here in
    ap (λ (slot : List Flow). destination_of slot flow.src)
    (added-not_yet flow (λ place. has_slot places place && not (has_slot rest place)) old new lowest putting.added (within lowest chosen) (and_right (has_slot places lowest) _ (ap not here)))
    ∙ free lowest chosen
