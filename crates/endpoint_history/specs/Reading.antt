-- How the packets of a round are read from a world, one after the other: as bytes they are those that arrive, spelled. From this project's own profile.
use Rattle.std.specs.Prelude.{◌≡◌, ℕ, zero, suc, ◌+◌, ◌<◌, ◌≤◌, List, [], ◌∷◌, map, slice_get}
use Rattle.loss_world.specs.Arrivals.{Departure, arrivals}
use Rattle.loss_world.specs.History.{WorldCall, Departs, AsksFor, departures_of, asked_of, next_arrival}
use Rattle.endpoint_history.specs.Packets.{DownPacket, UpPacket}
use Rattle.endpoint_history.specs.Rounds.{Posted, arriving}

-- what is sent for a packet that is posted
abbrev pub spelled : {T : Type 0} → (T → List ℕ) → Posted T → Departure
spelled spell p = record { round = p.round; fate = p.fate; bytes = spell p.packet }

-- what arrives of all that was sent is what arrives as packets, spelled
pub record SpelledAlike : Type 0 where
  pub up : (spell : UpPacket → List ℕ) (posted : List (Posted UpPacket)) (round : ℕ) → arrivals (map (spelled spell) posted) round ≡ map spell (arriving posted round)
  pub down : (spell : DownPacket → List ℕ) (posted : List (Posted DownPacket)) (round : ℕ) → arrivals (map (spelled spell) posted) round ≡ map spell (arriving posted round)

-- ---- one after the other

-- every round that was asked for is below this one
abbrev pub AsksBelow : ℕ → List WorldCall → Type 0
AsksBelow round [] = Unit {0}
AsksBelow round (Departs packet ∷ earlier) = AsksBelow round earlier
AsksBelow round (AsksFor asked ∷ earlier) = (asked < round) × AsksBelow round earlier

-- a round is asked for so many times
abbrev pub after_asks : ℕ → ℕ → List WorldCall → List WorldCall
after_asks zero round history = history
after_asks (suc asks) round history = AsksFor round ∷ after_asks asks round history

-- in a round that was not asked for before, each ask is given the next of its arrivals, from the first on
pub record RoundIsRead (round asks : ℕ) (history : List WorldCall) : Type 0 where
  pub next : next_arrival (after_asks asks round history) round ≡ slice_get (arrivals (departures_of history) round) asks
  pub sent : departures_of (after_asks asks round history) ≡ departures_of history
  pub asked : asked_of (after_asks asks round history) ≤ round
  pub below : AsksBelow (round + 1) (after_asks asks round history)

abbrev pub RoundsAreReadInOrder : Type 0
RoundsAreReadInOrder = (round asks : ℕ) (history : List WorldCall) → AsksBelow round history → RoundIsRead round asks history
