-- One row more.
use Rattle.std.proofs.Common.{◌≡◌, ◌<◌, ◌≤◌, ◌+◌, ◌==◌, ◌&&◌, ◌||◌, not, nat_le, ℕ, List, [], ◌∷◌, ◌++◌, length, cond, Bool, true, false, Option, Some, None, is_some, ◌⊎◌, inl, inr, refl, sym, ap, ◌∙◌, arith, length-append}
use Rattle.std.specs.List.{cons_option}
use Rattle.std.proofs.lemmas.Bool.{cases_Bool, cases_eq, cond-true, cond-false, or_parts, ne_eqb, leb-false, false≢true, and_from}
use Rattle.std.proofs.lemmas.List.Folds.{list_any-append}
use Rattle.std.proofs.lemmas.List.Sums.{sum_by-append, sum_by-cons}
use Rattle.std.proofs.Math.Bool.{or-false}
use Rattle.takeover_history.specs.declared.event.Event.{Event}
use Rattle.script_text.specs.Rows.{event_of}
use Rattle.script_text.specs.Earlier.{pair_in, pair_of, is_end, is_ended, events_in_rows, script_row_slots}
use Rattle.script_text.specs.Faults.{is_pair}
use Rattle.script_text.specs.Standing.{pair_kept, ScriptStandsFor, has_order_fault, IsAllowedRow, AddsRow}
use Rattle.script_text.specs.declared.row.Row.{Row}
use Rattle.script_text.specs.declared.row.Row.TheVariants as row
use Rattle.script_text.specs.declared.rows.Rows.{Rows}

cons_option-append : (o : Option Event) (xs ys : List Event) → cons_option o (xs ++ ys) ≡ cons_option o xs ++ ys
cons_option-append None xs ys = refl
cons_option-append (Some e) xs ys = refl

pub events-append : (xs ys : List Row) → events_in_rows (xs ++ ys) ≡ events_in_rows xs ++ events_in_rows ys
events-append [] ys = refl
events-append (x ∷ xs) ys = ap (cons_option (event_of x)) (events-append xs ys) ∙ cons_option-append (event_of x) (events_in_rows xs) (events_in_rows ys)

no_pair : (this : Row) → is_pair this ≡ false → pair_in this ≡ pair_of []
no_pair (row.Pair endpoints b span) other = absurd (false≢true (sym other))
no_pair (row.Ask src dst slots) other = refl
no_pair (row.Request node) other = refl
no_pair (row.Grant m) other = refl
no_pair (row.Take node m) other = refl
no_pair (row.Tell src node) other = refl
no_pair (row.Publish node) other = refl
no_pair (row.Hear src batch) other = refl
no_pair (row.Crash node) other = refl
no_pair row.End other = refl

pub pair-same : (before : List Row) (this : Row) → is_pair this ≡ false → pair_of (before ++ this ∷ []) ≡ pair_of before
pair-same [] this other = no_pair this other
pair-same (x ∷ before) this other = refl

pair-first : (before : List Row) (this : Row) → length before ≡ 0 → pair_of (before ++ this ∷ []) ≡ pair_in this
pair-first [] this none = refl
pair-first (x ∷ before) this none = absurd (omega arith)

-- a row is a pair, an end or an event
one_of : (this : Row) → (is_pair this ≡ true) ⊎ ((is_end this ≡ true) ⊎ ((length (events_in_rows (this ∷ [])) ≡ 1) × (is_some (event_of this) ≡ true)))
one_of (row.Pair endpoints b span) = inl refl
one_of (row.Ask src dst slots) = inr (inr (refl, refl))
one_of (row.Request node) = inr (inr (refl, refl))
one_of (row.Grant m) = inr (inr (refl, refl))
one_of (row.Take node m) = inr (inr (refl, refl))
one_of (row.Tell src node) = inr (inr (refl, refl))
one_of (row.Publish node) = inr (inr (refl, refl))
one_of (row.Hear src batch) = inr (inr (refl, refl))
one_of (row.Crash node) = inr (inr (refl, refl))
one_of row.End = inr (inl refl)

-- what is in order
record InOrder (old : Rows) (this : Row) : Type 0 where
  first : is_pair this ≡ true → old.count ≡ 0
  going : old.ended ≡ false
  room : is_some (event_of this) ≡ true → length old.events.items < 10000

first_of : (a : Bool) (n : ℕ) → (a && not (n == 0)) ≡ false → a ≡ true → n ≡ 0
first_of a n none is = elim (cases_eq n 0) [
  | inl zero ↦ zero
  | inr some ↦ absurd (false≢true (sym none ∙ and_from a (not (n == 0)) is (ap not (ne_eqb n 0 some))))
]

room_of : (a : Bool) (n : ℕ) → (a && nat_le 10000 n) ≡ false → a ≡ true → n < 10000
room_of a n none is = elim (cases_Bool (nat_le 10000 n)) [
  | inl full ↦ absurd (false≢true (sym none ∙ and_from a (nat_le 10000 n) is full))
  | inr room ↦ leb-false 10000 n room
]

in_order : (old : Rows) (this : Row) → has_order_fault old this ≡ false → InOrder old this
in_order old this none =
    let outer = or_parts ((is_pair this && not (old.count == 0)) || old.ended) (is_some (event_of this) && nat_le 10000 (length old.events.items)) none in
    let inner = or_parts (is_pair this && not (old.count == 0)) old.ended outer.0 in
    record { first = first_of (is_pair this) old.count inner.0; going = inner.1; room = room_of (is_some (event_of this)) (length old.events.items) outer.1 }

fewer : (this : Row) → length (events_in_rows (this ∷ [])) ≤ 1
fewer this = go (event_of this)
  where
    go : (o : Option Event) → length (cons_option o []) ≤ 1
    go None = omega arith
    go (Some e) = omega arith

no_event : (this : Row) → is_some (event_of this) ≡ false → length (events_in_rows (this ∷ [])) ≡ 0
no_event this = go (event_of this)
  where
    go : (o : Option Event) → is_some o ≡ false → length (cons_option o []) ≡ 0
    go None none = refl
    go (Some e) none = absurd (false≢true (sym none))

pub stands-more : (before : List Row) (old new : Rows) (this : Row) → ScriptStandsFor before old → IsAllowedRow old this → AddsRow old new this → ScriptStandsFor (before ++ this ∷ []) new
stands-more before old new this s allowed a =
    let o = in_order old this allowed.order in
    let events : length new.events.items ≡ length old.events.items + length (events_in_rows (this ∷ [])) = ap (λ (xs : List Event). length xs) a.events_are ∙ length-append old.events.items (events_in_rows (this ∷ [])) in
    let ended : new.ended ≡ is_end this = a.ended_is ∙ ap (λ (b : Bool). b || is_end this) o.going in
    let was : ◌≡◌ {A = ℕ} (cond old.ended 1 0) 0 = cond-false old.ended 1 0 o.going in
    record {
      count = a.count ∙ (ap (λ (n : ℕ). n + 1) s.count ∙ sym (length-append before (this ∷ [])));
      pair = a.pair ∙ elim (cases_Bool (is_pair this)) [
        | inl yes' ↦ cond-true (is_pair this) (pair_in this) (pair_kept old) yes' ∙ sym (pair-first before this (sym s.count ∙ o.first yes'))
        | inr other ↦ cond-false (is_pair this) (pair_in this) (pair_kept old) other ∙ (s.pair ∙ sym (pair-same before this other))
      ];
      few = a.few;
      ended_is = a.ended_is ∙ (ap (λ (b : Bool). b || is_end this) s.ended_is ∙ (ap (λ (b : Bool). is_ended before || b) (sym (or-false (is_end this))) ∙ sym (list_any-append is_end before (this ∷ []))));
      events_are = a.events_are ∙ (ap (λ (xs : List Event). xs ++ events_in_rows (this ∷ [])) s.events_are ∙ sym (events-append before (this ∷ [])));
      many = a.many;
      totals_are = λ src dst in_src in_dst.
          a.totals_are src dst in_src in_dst
          ∙ (ap (λ (n : ℕ). n + script_row_slots src dst this) (s.totals_are src dst in_src in_dst)
          ∙ omega (arith, sum_by-append (script_row_slots src dst) before (this ∷ []), sum_by-cons (script_row_slots src dst) this []));
      most = elim (cases_Bool (is_some (event_of this))) [
        | inl some ↦ omega (arith, o.room some, events, fewer this)
        | inr none ↦ omega (arith, s.most, events, no_event this none)
      ];
      bounded = elim (one_of this) [
        | inl pair ↦ omega (arith, a.count, o.first pair)
        | inr (inl end) ↦
            let now : ◌≡◌ {A = ℕ} (cond new.ended 1 0) 1 = cond-true new.ended 1 0 (ended ∙ end) in
            omega (arith, a.count, s.bounded, was, now, events)
        | inr (inr event) ↦ omega (arith, a.count, s.bounded, was, events, event.0)
      ];
    }
