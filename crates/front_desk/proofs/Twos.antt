-- A desk for two endpoints; for tests alone.
use Rattle.std.proofs.Common.{◌≡◌, ℕ, List, [], ◌∷◌, ◌++◌, length, map, set, Option, Some, slice_get, option_to_list, All, sym, ◌∙◌, ap, subst, refl, arith}
use Rattle.std.proofs.lemmas.List.{same_from_push}
use Rattle.std.proofs.lemmas.List.Elements.{All-nil, All-cons}
use Rattle.front_desk.specs.declared.progress.Progress.TheVariants.{Closed}
use Rattle.front_desk.specs.State.{RingName, LineState, SeatState, AreOpened, opened_line, opened_seat, opened_seats}
use Rattle.front_desk.specs.Examples.{AreOpenForTwo}

-- ---- it is opened

opened-two : (desk : List LineState) (seats after rest : List SeatState) (first second : SeatState) (rings : List RingName) → length rings ≡ 2 → desk ≡ map (opened_line 4 8 8) rings → seats ≡ opened_seats 4 0 rings →
    seats ≡ after ++ second ∷ [] → after ≡ rest ++ first ∷ [] → AreOpenForTwo desk first second × ((first.put ≡ []) × (second.put ≡ []))
opened-two desk seats after rest first second [] two lines are last next = absurd (omega (arith, two))
opened-two desk seats after rest first second (a ∷ []) two lines are last next = absurd (omega (arith, two))
opened-two desk seats after rest first second (a ∷ (b ∷ (c ∷ rings))) two lines are last next = absurd (omega (arith, two))
opened-two desk seats after rest first second (a ∷ (b ∷ [])) two lines are last next =
    let one = same_from_push after (opened_seat 4 0 a ∷ []) second (opened_seat 4 1 b) (sym last ∙ are) in
    let other = same_from_push rest [] first (opened_seat 4 0 a) (sym next ∙ one.0) in (
      record {
        one = opened_line 4 8 8 a;
        other = opened_line 4 8 8 b;
        lines = lines;
        first_is = ap (λ (s : SeatState). s.endpoint) other.1;
        second_is = ap (λ (s : SeatState). s.endpoint) one.1;
        first_room = ap (λ (s : SeatState). s.room) other.1;
        second_room = ap (λ (s : SeatState). s.room) one.1;
        first_seat = record { ring = ap (λ (s : SeatState). s.ring) other.1; room = ap (λ (s : SeatState). s.room) other.1 };
        second_seat = record { ring = ap (λ (s : SeatState). s.ring) one.1; room = ap (λ (s : SeatState). s.room) one.1 };
        first_open = refl;
        second_open = refl;
      },
      (ap (λ (s : SeatState). s.put) other.1, ap (λ (s : SeatState). s.put) one.1),
    )

pub opened : (desk : List LineState) (seats after rest : List SeatState) (first second : SeatState) (one other : Option SeatState) → AreOpened 2 8 8 4 desk seats →
    seats ≡ after ++ option_to_list other → after ≡ rest ++ option_to_list one → one ≡ Some first → other ≡ Some second → AreOpenForTwo desk first second × ((first.put ≡ []) × (second.put ≡ []))
opened desk seats after rest first second one other are last next is_first is_second =
    opened-two desk seats after rest first second are.rings are.each are.lines are.seats_are
    (last ∙ ap (λ o. after ++ option_to_list o) is_second) (next ∙ ap (λ o. rest ++ option_to_list o) is_first)

-- ---- it is closed

abbrev pub closed_line : LineState → SeatState → LineState
closed_line line seat = record line { taken = seat.put; progress = Closed }

pub second-line : (desk : List LineState) (first second : SeatState) (are : AreOpenForTwo desk first second) → slice_get desk second.endpoint ≡ Some are.other
second-line desk first second are = ap (λ (lines : List LineState). slice_get lines second.endpoint) are.lines ∙ ap (λ n. slice_get (are.one ∷ are.other ∷ []) n) are.second_is

-- the second seat is closed
pub after-second : (desk new : List LineState) (first second : SeatState) (are : AreOpenForTwo desk first second) → new ≡ set desk second.endpoint (closed_line are.other second) → new ≡ are.one ∷ closed_line are.other second ∷ []
after-second desk new first second are is =
    is ∙ (ap (λ (lines : List LineState). set lines second.endpoint (closed_line are.other second)) are.lines ∙ ap (λ n. set (are.one ∷ are.other ∷ []) n (closed_line are.other second)) are.second_is)

pub first-line : (new : List LineState) (endpoint : ℕ) (one other : LineState) → endpoint ≡ 0 → new ≡ one ∷ other ∷ [] → slice_get new endpoint ≡ Some one
first-line new endpoint one other zero_is is = ap (λ (lines : List LineState). slice_get lines endpoint) is ∙ ap (λ n. slice_get (one ∷ other ∷ []) n) zero_is

pub after-first : (desk new : List LineState) (endpoint : ℕ) (one other closed : LineState) → endpoint ≡ 0 → desk ≡ one ∷ other ∷ [] → new ≡ set desk endpoint closed → new ≡ closed ∷ other ∷ []
after-first desk new endpoint one other closed zero_is lines is =
    is ∙ (ap (λ (ls : List LineState). set ls endpoint closed) lines ∙ ap (λ n. set (one ∷ other ∷ []) n closed) zero_is)

pub all-closed : (new : List LineState) (one other : LineState) → new ≡ one ∷ other ∷ [] → one.progress ≡ Closed → other.progress ≡ Closed → All (λ (line : LineState). line.progress ≡ Closed) new
all-closed new one other is first second =
    subst (λ (lines : List LineState). All (λ (line : LineState). line.progress ≡ Closed) lines) (sym is)
    (All-cons (λ (line : LineState). line.progress ≡ Closed) one (other ∷ []) first (All-cons (λ (line : LineState). line.progress ≡ Closed) other [] second (All-nil (λ (line : LineState). line.progress ≡ Closed))))
