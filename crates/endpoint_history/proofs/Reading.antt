-- How the packets of a round are read from a world.
use Rattle.std.proofs.Common.{◌≡◌, ℕ, zero, suc, ◌+◌, ◌≤◌, true, false, cond, List, [], ◌∷◌, drop, slice_get, ◌∙◌, ap, refl, arith}
use Rattle.std.specs.Prelude.{map, filter}
use Rattle.std.proofs.lemmas.Bool.{ne_eqb}
use Rattle.loss_world.specs.Arrivals.{Departure, arrives_in, arrivals}
use Rattle.loss_world.specs.History.{WorldCall, Departs, AsksFor, departures_of, asked_of, is_asked, arrivals_left, EachAskTakesOne}
use Rattle.endpoint_history.specs.Rounds.{Posted, arriving}
use Rattle.endpoint_history.specs.Reading.{spelled, SpelledAlike, AsksBelow, after_asks, RoundsAreReadInOrder}

arrivals-spelled : {T : Type 0} (spell : T → List ℕ) (posted : List (Posted T)) (round : ℕ) → arrivals (map (spelled spell) posted) round ≡ map spell (arriving posted round)
arrivals-spelled spell [] round = refl
arrivals-spelled {T} spell (p ∷ posted) round =
    let rest = arrivals-spelled spell posted round in
    elim (arrives_in p.fate p.round round)
    as (λ b. map (λ (q : Departure). q.bytes) (cond b (spelled spell p ∷ filter (λ (q : Departure). arrives_in q.fate q.round round) (map (spelled spell) posted)) (filter (λ (q : Departure). arrives_in q.fate q.round round) (map (spelled spell) posted)))
    ≡ map spell (map (λ (q : Posted T). q.packet) (cond b (p ∷ filter (λ (q : Posted T). arrives_in q.fate q.round round) posted) (filter (λ (q : Posted T). arrives_in q.fate q.round round) posted)))) [
      | true ↦ ap (λ xs. spell p.packet ∷ xs) rest
      | false ↦ rest
    ]

pub spelled_alike : SpelledAlike
spelled_alike = record { up = λ spell posted round. arrivals-spelled spell posted round; down = λ spell posted round. arrivals-spelled spell posted round }

-- ---- one after the other

pub not_asked : (round : ℕ) (history : List WorldCall) → AsksBelow round history → is_asked history round ≡ false
not_asked round [] below = refl
not_asked round (Departs packet ∷ history) below = not_asked round history below
not_asked round (AsksFor asked ∷ history) below = let low = below.0 in rw (ne_eqb asked round (omega arith)) (not_asked round history below.1)

pub asked_below : (round : ℕ) (history : List WorldCall) → AsksBelow round history → asked_of history ≤ round
asked_below round [] below = omega arith
asked_below round (Departs packet ∷ history) below = asked_below round history below
asked_below round (AsksFor asked ∷ history) below = let low = below.0 in let rest = asked_below round history below.1 in omega arith

pub below_next : (round : ℕ) (history : List WorldCall) → AsksBelow round history → AsksBelow (round + 1) history
below_next round [] below = tt
below_next round (Departs packet ∷ history) below = below_next round history below
below_next round (AsksFor asked ∷ history) below = let low = below.0 in (omega arith, below_next round history below.1)

after-sent : (asks round : ℕ) (history : List WorldCall) → departures_of (after_asks asks round history) ≡ departures_of history
after-sent zero round history = refl
after-sent (suc asks) round history = after-sent asks round history

after-asked : (asks round : ℕ) (history : List WorldCall) → AsksBelow round history → asked_of (after_asks asks round history) ≤ round
after-asked zero round history below = asked_below round history below
after-asked (suc asks) round history below = let rest = after-asked asks round history below in omega arith

after-below : (asks round : ℕ) (history : List WorldCall) → AsksBelow round history → AsksBelow (round + 1) (after_asks asks round history)
after-below zero round history below = below_next round history below
after-below (suc asks) round history below = (omega arith, after-below asks round history below)

-- the first that is left of a list is the one at that place
first-left : {X : Type 0} (xs : List X) (at_it : ℕ) → slice_get (drop at_it xs) 0 ≡ slice_get xs at_it
first-left [] zero = refl
first-left [] (suc at_it) = refl
first-left (x ∷ xs) zero = refl
first-left (x ∷ xs) (suc at_it) = first-left xs at_it

one-less : {X : Type 0} (xs : List X) (n : ℕ) → drop 1 (drop n xs) ≡ drop (suc n) xs
one-less [] zero = refl
one-less [] (suc n) = refl
one-less (x ∷ xs) zero = refl
one-less (x ∷ xs) (suc n) = one-less xs n

after-left : (one : EachAskTakesOne) (asks round : ℕ) (history : List WorldCall) → AsksBelow round history → arrivals_left (after_asks asks round history) round ≡ drop asks (arrivals (departures_of history) round)
after-left one zero round history below = one.whole history round (not_asked round history below)
after-left one (suc asks) round history below =
    one.taken (after_asks asks round history) round ∙ ap (λ xs. drop 1 xs) (after-left one asks round history below) ∙ one-less (arrivals (departures_of history) round) asks

pub rounds_are_read_in_order : EachAskTakesOne → RoundsAreReadInOrder
rounds_are_read_in_order one round asks history below = record {
  next = ap (λ xs. slice_get xs 0) (after-left one asks round history below) ∙ first-left (arrivals (departures_of history) round) asks;
  sent = after-sent asks round history;
  asked = after-asked asks round history below;
  below = after-below asks round history below;
}
