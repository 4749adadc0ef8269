-- A list given piece by piece.
use Rattle.std.proofs.Common.{◌≡◌, ◌<◌, ◌≤◌, ◌+◌, ◌*◌, ◌-◌, ◌/◌, ℕ, zero, suc, List, length, take, drop, Bool, true, false, not, ◌&&◌, ◌||◌, nat_le, nat_lt, cond, Option, Some, None, map, refl, sym, ap, ◌∙◌, subst, arith, inl, inr}
use Rattle.std.specs.Prelude.{slice_get}
use Rattle.std.specs.List.{range_with_len}
use Rattle.std.proofs.lemmas.Bool.{or_left, cond-true, cases_Bool, cases_lt, lt-ltb, le-ltb, ltb-true, and_right, and_parts, both_ways}
use Rattle.std.proofs.lemmas.Bool.Decides.{nat_tests}
use Rattle.std.proofs.lemmas.List.{length-drop, length-take}
use Rattle.list_facts.proofs.Lists.{get_within}
use Rattle.greedy_rules.specs.declared.flows.Item.{Item}
use Rattle.greedy_rules.specs.Batches.{DemandBatch}
use Rattle.slot_batches.specs.Pieces.{Part, piece_count, piece_at, waiting_items, has_piece, next_piece, EndedListsGiveTheirPieces}
use Rattle.slot_batches.specs.Settled.{slots_filled, settled}
use Rattle.slot_batches.specs.Marks.{AreMarked}
use Rattle.slot_batches.specs.Filled.{Fill}
use Rattle.slot_batches.specs.ArrayStands.{ArrayState, HasBeenFed, ArrayStands, array_first, array_size, array_number}

-- the place from which a piece goes
module _ (batch : DemandBatch) (fed : List Item) (finished : Bool) (given : ℕ) (stage : ArrayState) (stands : ArrayStands batch fed finished given stage) where
  abbrev list : List Item
  list = stage.fill.waiting

  rest_length : length (drop stage.given list) ≡ length list - 64 * given
  rest_length = omega (arith, length-drop stage.given list, stands.given_is)

  -- no piece
  none_is : (few ends : Bool) → few ≡ true → ends ≡ false → None ≡ cond (not few || ends) (Some (piece_at stage.number list given)) None
  none_is true false few_is ends_is = refl
  none_is true true few_is ends_is = absurd (both_ways true ends_is refl)
  none_is false ends few_is ends_is = absurd (both_ways false refl few_is)

  has_is : (nat_lt 64 (length (waiting_items given list)) || (finished && nat_lt given (piece_count list))) ≡ (not (nat_le (length (drop stage.given list)) 64) || stage.ends)
  has_is =
      ap (λ (b : Bool). nat_lt 64 (length (waiting_items given list)) || b) (sym stands.ends_is)
      ∙ ap (λ (b : Bool). b || stage.ends) (ap (nat_lt 64) (length-drop (64 * given) list ∙ sym rest_length) ∙ more_than (length (drop stage.given list)))
    where
      more_than : (n : ℕ) → nat_lt 64 n ≡ not (nat_le n 64)
      more_than n = grind (arith, nat_tests)

  next_is : next_piece stage.number finished given list ≡ cond (not (nat_le (length (drop stage.given list)) 64) || stage.ends) (Some (piece_at stage.number list given)) None
  next_is = ap (λ (b : Bool). cond b (Some (piece_at stage.number list given)) None) has_is

  of_settled : next_piece stage.number finished given list ≡ next_piece stage.number finished given (settled batch (array_first stage) (array_size stage) fed finished)
  of_settled = ap (next_piece stage.number finished given) stands.list

  pub no_piece : length (drop stage.given list) ≤ 64 → stage.ends ≡ false
      → None ≡ next_piece (array_number stage) finished given (settled batch (array_first stage) (array_size stage) fed finished)
  no_piece few_are ends = none_is (nat_le (length (drop stage.given list)) 64) stage.ends (few_of (length (drop stage.given list)) few_are) ends ∙ (sym next_is ∙ of_settled)
    where
      few_of : (n : ℕ) → n ≤ 64 → nat_le n 64 ≡ true
      few_of n few = grind (arith, nat_tests)

  module _ (gives : (nat_le (length (drop stage.given list)) 64 && not stage.ends) ≡ false) where
    more : (not (nat_le (length (drop stage.given list)) 64) || stage.ends) ≡ true
    more = turned (nat_le (length (drop stage.given list)) 64) stage.ends gives
      where
        turned : (few ends : Bool) → (few && not ends) ≡ false → (not few || ends) ≡ true
        turned true true is = refl
        turned true false is = absurd (both_ways true is refl)
        turned false ends is = refl

    -- items wait from a whole number of pieces on
    within : 64 * given ≤ length list
    within = elim (cases_Bool (nat_lt 64 (length (waiting_items given list)))) [
      | inl many ↦ omega (arith, ltb-true 64 (length (waiting_items given list)) many, length-drop (64 * given) list)
      | inr few ↦
          let others : (nat_lt 64 (length (waiting_items given list)) || (finished && nat_lt given (piece_count list))) ≡ true = has_is ∙ more in
          let ended : (finished && nat_lt given (piece_count list)) ≡ true = ap (λ (b : Bool). b || (finished && nat_lt given (piece_count list))) (sym few) ∙ others in
          let below : given < piece_count list = ltb-true given (piece_count list) (and_parts finished (nat_lt given (piece_count list)) ended).1 in
          omega (arith, below)
    ]

    pub from_is : stage.given ≡ 64 * given
    from_is = omega (arith, stands.given_is, within)

    ends_here : (n from next : ℕ) → next ≡ from + 64 → nat_le (n - from) 64 ≡ nat_le n next
    ends_here n from next is = grind (arith, nat_tests)

    pub some_piece : (items : List Item) (end : Bool) → items ≡ take 64 (drop stage.given list) → end ≡ nat_le (length (drop stage.given list)) 64
        → Some (record { stage = stage.number; from = stage.given; items = items; end = end })
        ≡ next_piece (array_number stage) finished given (settled batch (array_first stage) (array_size stage) fed finished)
    some_piece items end items_are end_is =
        let part : ℕ → List Item → Bool → Part = λ from items end. record { stage = stage.number; from = from; items = items; end = end } in
        let ends_as : end ≡ nat_le (length list) (64 * (given + 1)) =
        end_is ∙ (ap (λ (n : ℕ). nat_le n 64) rest_length ∙ ends_here (length list) (64 * given) (64 * (given + 1)) (omega arith)) in
        ap (λ (n : ℕ). Some (part n items end)) from_is
        ∙ (ap (λ (xs : List Item). Some (part (64 * given) xs end)) (items_are ∙ ap (λ (n : ℕ). take 64 (drop n list)) from_is)
        ∙ (ap (λ (b : Bool). Some (part (64 * given) (take 64 (drop (64 * given) list)) b)) ends_as
        ∙ (sym (cond-true (not (nat_le (length (drop stage.given list)) 64) || stage.ends) (Some (piece_at stage.number list given)) None more) ∙ (sym next_is ∙ of_settled))))

    many : stage.ends ≡ false → 64 < length list - 64 * given
    many none = omega (arith, rest_length, not_few (length (drop stage.given list)) stage.ends none more)
      where
        not_few : (n : ℕ) (ends : Bool) → ends ≡ false → (not (nat_le n 64) || ends) ≡ true → 64 < n
        not_few n ends none some = grind (arith, nat_tests)

    ends_next : (ended few : Bool) (n : ℕ) → 64 * given ≤ n → few ≡ nat_le (n - 64 * given) 64
        → ((ended && nat_lt given ((n - 1) / 64 + 1)) && not few) ≡ (ended && nat_lt (given + 1) ((n - 1) / 64 + 1))
    ends_next false few n inside is = refl
    ends_next true true n inside is =
        let last : n - 64 * given ≤ 64 = last_few n is in
        and_right (nat_lt given ((n - 1) / 64 + 1)) false refl ∙ sym (le-ltb (given + 1) ((n - 1) / 64 + 1) (omega (arith, last)))
      where
        last_few : (n : ℕ) → true ≡ nat_le (n - 64 * given) 64 → n - 64 * given ≤ 64
        last_few n is = grind (arith, nat_tests)
    ends_next true false n inside is =
        let more_left : 64 < n - 64 * given = left_many n is in
        ap (λ (b : Bool). b && true) (lt-ltb given ((n - 1) / 64 + 1) (omega (arith, more_left))) ∙ sym (lt-ltb (given + 1) ((n - 1) / 64 + 1) (omega (arith, more_left)))
      where
        left_many : (n : ℕ) → false ≡ nat_le (n - 64 * given) 64 → 64 < n - 64 * given
        left_many n is = grind (arith, nat_tests)

    -- and then one piece more is given
    pub one_given : (new : ArrayState) → new.fill ≡ stage.fill → new.marks ≡ stage.marks → new.unopened ≡ stage.unopened → new.given ≡ stage.given + length (take 64 (drop stage.given list))
        → new.ends ≡ (stage.ends && not (nat_le (length (drop stage.given list)) 64)) → ArrayStands batch fed finished (given + 1) new
    one_given new same marks_are unopened_is given_is ends_is =
        let long : length new.fill.waiting ≡ length list = ap (λ (f : Fill). length f.waiting) same in
        record {
          feeding = λ is.
              subst (λ (f : Fill). HasBeenFed batch fed f new.unopened) (sym same) (subst (λ (n : ℕ). HasBeenFed batch fed stage.fill n) (sym unopened_is) (stands.feeding is));
          marked = subst (AreMarked batch.entries) (sym marks_are) stands.marked;
          slots = ap (λ (f : Fill). f.slots) same ∙ (stands.slots ∙ ap (λ (f : Fill). slots_filled batch f.first_slot f.b fed finished) (sym same));
          list = ap (λ (f : Fill). f.waiting) same ∙ (stands.list ∙ ap (λ (f : Fill). settled batch f.first_slot f.b fed finished) (sym same));
          few = omega (arith, stands.few, long);
          given_is = omega (arith, given_is, from_is, length-take 64 (drop stage.given list), rest_length, within, long);
          ends_is = ends_is
              ∙ (ap (λ (b : Bool). b && not (nat_le (length (drop stage.given list)) 64)) stands.ends_is
              ∙ (ends_next finished (nat_le (length (drop stage.given list)) 64) (length list) within (ap (λ (n : ℕ). nat_le n 64) rest_length)
              ∙ ap (λ (n : ℕ). finished && nat_lt (given + 1) ((n - 1) / 64 + 1)) (sym long)));
          more_wait = λ is.
              let none : stage.ends ≡ false = stands.ends_is ∙ ap (λ (b : Bool). b && nat_lt given (piece_count list)) is in
              inr (omega (arith, many none, long));
        }

get_past : {X : Type 0} (f : ℕ → X) (a n place : ℕ) → n ≤ place → slice_get (map f (range_with_len a n)) place ≡ None
get_past f a zero place past = refl
get_past f a (suc n) zero past = absurd (omega arith)
get_past f a (suc n) (suc place) past = get_past f (a + 1) n place (omega arith)

more_left : (n given : ℕ) → 64 < n - 64 * given → nat_lt given ((n - 1) / 64 + 1) ≡ true
more_left n given many = lt-ltb given ((n - 1) / 64 + 1) (omega (arith, many))

has_at_end : (given : ℕ) (list : List Item) → has_piece true given list ≡ nat_lt given (piece_count list)
has_at_end given list = elim (cases_Bool (nat_lt 64 (length (waiting_items given list)))) [
  | inl many ↦
      or_left (nat_lt 64 (length (waiting_items given list))) (nat_lt given (piece_count list)) many
      ∙ sym (more_left (length list) given (omega (arith, ltb-true 64 (length (waiting_items given list)) many, length-drop (64 * given) list)))
  | inr few ↦ ap (λ (b : Bool). b || nat_lt given (piece_count list)) few
]

pub ended_lists : EndedListsGiveTheirPieces
ended_lists stage given list =
    let give : Bool → Option Part = λ b. cond b (Some (piece_at stage list given)) None in
    ap give (has_at_end given list)
    ∙ elim (cases_lt given (piece_count list)) [
      | inl below ↦
          ap give (lt-ltb given (piece_count list) below)
          ∙ sym (get_within (piece_at stage list) 0 (piece_count list) given below ∙ ap (λ (k : ℕ). Some (piece_at stage list k)) (omega arith))
      | inr past ↦ ap give (le-ltb given (piece_count list) past) ∙ sym (get_past (piece_at stage list) 0 (piece_count list) given past)
    ]
