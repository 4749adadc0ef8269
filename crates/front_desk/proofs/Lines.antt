-- The lines of a desk, by the places of their endpoints.
use Rattle.std.proofs.Common.{◌≡◌, ℕ, zero, suc, ◌+◌, ◌<◌, ◌⊎◌, List, [], ◌∷◌, ◌++◌, length, map, set, take, drop, get_or, Some, slice_get, option_map, sym, ◌∙◌, ap, subst, refl, inl, inr, arith}
use Rattle.std.proofs.lemmas.List.{map-set, length_push}
use Rattle.std.proofs.lemmas.Option.{slice_get-map, slice_get_read, slice_get_within}
use mathlib.Core.List.{IsPrefix}
use Rattle.rtrb.specs.Ring.{received}
use Rattle.endpoint_history.proofs.OneContent.{some-same}
use Rattle.front_desk.specs.declared.line.Line.{Line}
use Rattle.front_desk.specs.declared.progress.Progress.TheVariants.{Closed}
use Rattle.front_desk.specs.State.{RingName, LineState, SeatState, opened_line, opened_seat, opened_seats}
use Rattle.front_desk.specs.Standing.{IsDeskLine, AreDeskLines, state_of}

-- ---- one line

pub length-states : (lines : List Line) → length (map state_of lines) ≡ length lines
length-states [] = refl
length-states (line ∷ lines) = ap suc (length-states lines)

pub line_at : (lines : List Line) (states : List LineState) (at : ℕ) (line : Line) → map state_of lines ≡ states → at < length states → line ≡ get_or lines at line → slice_get lines at ≡ Some line
line_at lines states at line view within is =
    slice_get_read lines (length lines) at line refl (omega (arith, within, ap (λ (xs : List LineState). length xs) view, length-states lines)) is

pub state_at : (lines : List Line) (states : List LineState) (at : ℕ) (line : Line) → map state_of lines ≡ states → slice_get lines at ≡ Some line → slice_get states at ≡ Some (state_of line)
state_at lines states at line view is =
    ap (λ (xs : List LineState). slice_get xs at) (sym view) ∙ (slice_get-map state_of lines at ∙ ap (λ o. option_map state_of o) is)

pub same_state : (lines : List Line) (states : List LineState) (at : ℕ) (line : Line) (state : LineState) → map state_of lines ≡ states → slice_get lines at ≡ Some line → slice_get states at ≡ Some state → state_of line ≡ state
same_state lines states at line state view here is = some-same (state_of line) state (sym (state_at lines states at line view here) ∙ is)

-- ---- after one has changed

get_set : {X : Type 0} (xs : List X) (at : ℕ) (y : X) (other : ℕ) (x : X) → slice_get (set xs at y) other ≡ Some x → ((other ≡ at) × (x ≡ y)) ⊎ (slice_get xs other ≡ Some x)
get_set [] at y other x is = inr is
get_set (z ∷ xs) zero y zero x is = inl (refl, sym (some-same y x is))
get_set (z ∷ xs) zero y (suc other) x is = inr is
get_set (z ∷ xs) (suc at) y zero x is = inr is
get_set (z ∷ xs) (suc at) y (suc other) x is = elim (get_set xs at y other x is) [
  | inl p ↦ inl (ap suc p.0, p.1)
  | inr q ↦ inr q
]

pub lines-set : (endpoints : ℕ) (lines : List Line) (at : ℕ) (old new : Line) → AreDeskLines endpoints lines → slice_get lines at ≡ Some old → ((endpoint among : ℕ) → IsDeskLine endpoint among old → IsDeskLine endpoint among new)
    → AreDeskLines endpoints (set lines at new)
lines-set endpoints lines at old new are here changes endpoint line is = elim (get_set lines at new endpoint line is) [
  | inl p ↦ subst (λ (l : Line). IsDeskLine endpoint endpoints l) (sym p.1) (changes endpoint endpoints (are endpoint old (ap (λ n. slice_get lines n) p.0 ∙ here)))
  | inr q ↦ are endpoint line q
]

-- the line of an endpoint that has a place
pub record Found (lines : List Line) (at : ℕ) (line : Line) (state : LineState) : Type 0 where
  pub here : slice_get lines at ≡ Some line
  pub state_is : state_of line ≡ state

pub found : (lines : List Line) (states : List LineState) (endpoint at : ℕ) (line : Line) (state : LineState) → map state_of lines ≡ states → at ≡ endpoint → slice_get states endpoint ≡ Some state →
    line ≡ get_or lines at line → Found lines at line state
found lines states endpoint at line state view same place is =
    let there : slice_get states at ≡ Some state = ap (λ n. slice_get states n) same ∙ place in
    let here = line_at lines states at line view (slice_get_within states at state there) is in
    record { here = here; state_is = same_state lines states at line state view here there }

pub closed : (lines : List Line) (states : List LineState) (endpoint at : ℕ) (old new : Line) (state : LineState) (put : List (List ℕ)) → at ≡ endpoint → Found lines at old state → map state_of lines ≡ states →
    IsPrefix (received old.ring) put → state_of new ≡ record (state_of old) { taken = put; progress = Closed } →
    IsPrefix state.taken put × (map state_of (set lines at new) ≡ set states endpoint (record state { taken = put; progress = Closed }))
closed lines states endpoint at old new state put same it view front becomes = (
  subst (λ (s : LineState). IsPrefix s.taken put) it.state_is front,
  map-set state_of lines at new
      ∙ (ap (λ (xs : List LineState). set xs at (state_of new)) view
      ∙ (ap (λ n. set states n (state_of new)) same
      ∙ ap (λ (s : LineState). set states endpoint s) (becomes ∙ ap (λ (s : LineState). record s { taken = put; progress = Closed }) it.state_is))),
)

-- what is written back over all of a list is the list
pub written : {X : Type 0} (items new : List X) (count : ℕ) → count ≡ length items → length new ≡ length items → take count (new ++ drop (length new) items) ≡ new
written [] [] zero is same = refl
written [] [] (suc count) is same = refl
written [] (y ∷ new) count is same = absurd (omega (arith, same))
written (x ∷ items) [] count is same = absurd (omega (arith, same))
written (x ∷ items) (y ∷ new) zero is same = absurd (omega (arith, is))
written (x ∷ items) (y ∷ new) (suc count) is same = ap (λ xs. y ∷ xs) (written items new count (omega (arith, is)) (omega (arith, same)))

pub stand-written : (items new : List Line) (count : ℕ) → count ≡ length items → length new ≡ length items → AreDeskLines (length items) new
    → AreDeskLines (length (take count (new ++ drop (length new) items))) (take count (new ++ drop (length new) items))
stand-written items new count is same stand =
    subst (λ (lines : List Line). AreDeskLines (length lines) lines) (sym (written items new count is same)) (subst (λ n. AreDeskLines n new) (sym same) stand)

-- ---- all that are opened

opened_seats-append : (room endpoint : ℕ) (rings : List RingName) (ring : RingName) → opened_seats room endpoint (rings ++ ring ∷ []) ≡ opened_seats room endpoint rings ++ opened_seat room (endpoint + length rings) ring ∷ []
opened_seats-append room endpoint [] ring = ap (λ n. opened_seat room n ring ∷ []) (omega arith)
opened_seats-append room endpoint (r ∷ rings) ring =
    ap (λ (seats : List SeatState). opened_seat room endpoint r ∷ seats)
    (opened_seats-append room (endpoint + 1) rings ring ∙ ap (λ n. opened_seats room (endpoint + 1) rings ++ opened_seat room n ring ∷ []) (omega arith))

opened_lines-append : (room b g : ℕ) (rings : List RingName) (ring : RingName) → map (opened_line room b g) (rings ++ ring ∷ []) ≡ map (opened_line room b g) rings ++ opened_line room b g ring ∷ []
opened_lines-append room b g [] ring = refl
opened_lines-append room b g (r ∷ rings) ring = ap (λ (lines : List LineState). opened_line room b g r ∷ lines) (opened_lines-append room b g rings ring)

states-append : (lines : List Line) (line : Line) → map state_of (lines ++ line ∷ []) ≡ map state_of lines ++ state_of line ∷ []
states-append [] line = refl
states-append (l ∷ lines) line = ap (λ (states : List LineState). state_of l ∷ states) (states-append lines line)

-- so many were opened
pub record HaveOpened (endpoints b g room count : ℕ) (lines : List Line) (seats : List SeatState) : Type 0 where
  pub rings : List RingName
  pub each : length rings ≡ count
  pub many : length lines ≡ count
  pub lines_are : map state_of lines ≡ map (opened_line room b g) rings
  pub seats_are : seats ≡ opened_seats room 0 rings
  pub stand : AreDeskLines endpoints lines

get_append : {X : Type 0} (xs : List X) (y : X) (at : ℕ) (x : X) → slice_get (xs ++ y ∷ []) at ≡ Some x → ((at ≡ length xs) × (x ≡ y)) ⊎ (slice_get xs at ≡ Some x)
get_append [] y zero x is = inl (refl, sym (some-same y x is))
get_append [] y (suc at) x is = inr is
get_append (z ∷ xs) y zero x is = inr is
get_append (z ∷ xs) y (suc at) x is = elim (get_append xs y at x is) [
  | inl p ↦ inl (ap suc p.0, p.1)
  | inr q ↦ inr q
]

pub opened-more : (endpoints b g room count : ℕ) (lines : List Line) (seats : List SeatState) (line : Line) (seat : SeatState) (ring : RingName) → HaveOpened endpoints b g room count lines seats →
    IsDeskLine count endpoints line → state_of line ≡ opened_line room b g ring → seat ≡ opened_seat room count ring → HaveOpened endpoints b g room (count + 1) (lines ++ line ∷ []) (seats ++ seat ∷ [])
opened-more endpoints b g room count lines seats line seat ring some is_line line_is seat_is = record {
  rings = some.rings ++ ring ∷ [];
  each = length_push some.rings ring ∙ ap (λ n. n + 1) some.each;
  many = length_push lines line ∙ ap (λ n. n + 1) some.many;
  lines_are = states-append lines line
      ∙ (ap (λ (states : List LineState). states ++ state_of line ∷ []) some.lines_are
      ∙ (ap (λ (s : LineState). map (opened_line room b g) some.rings ++ s ∷ []) line_is ∙ sym (opened_lines-append room b g some.rings ring)));
  seats_are = ap (λ (xs : List SeatState). xs ++ seat ∷ []) some.seats_are
      ∙ (ap (λ (s : SeatState). opened_seats room 0 some.rings ++ s ∷ []) (seat_is ∙ ap (λ n. opened_seat room n ring) (omega (arith, some.each)))
      ∙ sym (opened_seats-append room 0 some.rings ring));
  stand = λ endpoint other is. elim (get_append lines line endpoint other is) [
    | inl p ↦ subst (λ (l : Line). IsDeskLine endpoint endpoints l) (sym p.1) (subst (λ n. IsDeskLine n endpoints line) (sym (p.0 ∙ some.many)) is_line)
    | inr q ↦ some.stand endpoint other q
  ];
}
