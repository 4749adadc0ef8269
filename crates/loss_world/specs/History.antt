-- What the asks for a round are given, over all that was sent and asked for. A history has its latest event first. From this project's own profile.
use Rattle.std.specs.Prelude.{◌≡◌, ◌≢◌, ℕ, ◌+◌, ◌<◌, ◌≤◌, min, max, Bool, false, ◌||◌, ◌==◌, List, [], ◌∷◌, ◌++◌, length, drop, All, Option, None, slice_get, option_to_list, if◌then◌else◌}
use Rattle.loss_world.specs.Arrivals.{Departure, arrivals}
use Rattle.loss_world.specs.InTransit.{Held, due_in, IsToCome}

-- a call of a world: a packet is sent, or the next arrival of a round is asked for
pub data WorldCall : Type 0 where
  Departs : (packet : Departure) → WorldCall
  AsksFor : (round : ℕ) → WorldCall

-- every packet that was sent, in the order of sending
abbrev pub departures_of : List WorldCall → List Departure
departures_of [] = []
departures_of (Departs packet ∷ earlier) = departures_of earlier ++ packet ∷ []
departures_of (AsksFor round ∷ earlier) = departures_of earlier

-- the latest round that was asked for, 0 for none
abbrev pub asked_of : List WorldCall → ℕ
asked_of [] = 0
asked_of (Departs packet ∷ earlier) = asked_of earlier
asked_of (AsksFor round ∷ earlier) = max round (asked_of earlier)

-- whether the round was asked for
abbrev pub is_asked : List WorldCall → ℕ → Bool
is_asked [] round = false
is_asked (Departs packet ∷ earlier) round = is_asked earlier round
is_asked (AsksFor asked ∷ earlier) round = asked == round || is_asked earlier round

-- so many of a round's arrivals were given: each ask for it gives one, while there is one
abbrev pub given_in : List WorldCall → ℕ → ℕ
given_in [] round = 0
given_in (Departs packet ∷ earlier) round = given_in earlier round
given_in (AsksFor asked ∷ earlier) round =
    if asked == round
    then min (given_in earlier round + 1) (length (arrivals (departures_of earlier) round))
    else given_in earlier round

-- the arrivals of a round that were not given
abbrev pub arrivals_left : List WorldCall → ℕ → List (List ℕ)
arrivals_left history round = drop (given_in history round) (arrivals (departures_of history) round)

-- the arrival that the next ask for the round is given, none where none is left
abbrev pub next_arrival : List WorldCall → ℕ → Option (List ℕ)
next_arrival history round = slice_get (arrivals_left history round) 0

-- what the asks for a round were given, in the order of the asks
abbrev pub answers_in : List WorldCall → ℕ → List (List ℕ)
answers_in [] round = []
answers_in (Departs packet ∷ earlier) round = answers_in earlier round
answers_in (AsksFor asked ∷ earlier) round =
    if asked == round then answers_in earlier round ++ option_to_list (next_arrival earlier round) else answers_in earlier round

-- they are the first of the round's arrivals, in order, and those left are the others
abbrev pub GivenInOrder : Type 0
GivenInOrder =
    (history : List WorldCall) (round : ℕ) → answers_in history round ++ arrivals_left history round ≡ arrivals (departures_of history) round

-- an ask is given nothing only once all were given
abbrev pub AllAreGiven : Type 0
AllAreGiven =
    (history : List WorldCall) (round : ℕ) → next_arrival history round ≡ None → answers_in history round ≡ arrivals (departures_of history) round

-- what a call changes of the arrivals that are left of a round: an ask for it takes the first, another ask none, and a packet
-- that is sent later adds none; of a round that was not asked for all are left
pub record EachAskTakesOne : Type 0 where
  pub taken : (earlier : List WorldCall) (round : ℕ) → arrivals_left (AsksFor round ∷ earlier) round ≡ drop 1 (arrivals_left earlier round)
  pub other : (asked : ℕ) (earlier : List WorldCall) (round : ℕ) → asked ≢ round → arrivals_left (AsksFor asked ∷ earlier) round ≡ arrivals_left earlier round
  pub sent : (packet : Departure) (earlier : List WorldCall) (round : ℕ) → round < packet.round → arrivals_left (Departs packet ∷ earlier) round ≡ arrivals_left earlier round
  pub whole : (history : List WorldCall) (round : ℕ) → is_asked history round ≡ false → arrivals_left history round ≡ arrivals (departures_of history) round

-- a world stands for a history: in each round that may still be asked for its packets give what is left of the arrivals, and
-- each packet that it holds is still to arrive
pub record WorldStandsFor (world : Held) (history : List WorldCall) : Type 0 where
  pub left : (round : ℕ) → asked_of history ≤ round → due_in world.flights round ≡ arrivals_left history round
  pub to_come : All (IsToCome (asked_of history)) world.flights
