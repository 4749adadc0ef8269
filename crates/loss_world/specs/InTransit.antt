-- The packets that are still to arrive, in the order of sending, each with the rounds in which it is. From this project's own profile.
use Rattle.std.specs.Prelude.{ℕ, ◌+◌, ◌≤◌, Bool, ◌&&◌, nat_le, List, [], ◌∷◌, ◌++◌, map, filter, Option, Some, None, option_map, option_to_list, if◌then◌else◌}
use Rattle.loss_world.specs.declared.fate.Fate.{Fate}
use Rattle.loss_world.specs.declared.fate.Fate.TheVariants.{Lose, Hold, Twice}
use Rattle.loss_world.specs.declared.fate.Rounds.{Rounds}
use Rattle.loss_world.specs.Arrivals.{Departure}

-- a packet that is still to arrive
pub record InFlight : Type 0 where
  pub rounds : Rounds
  pub bytes : List ℕ

-- what a world holds: the packets that are still to arrive, and how many buffers it has, each with room for one packet
pub record Held : Type 0 where
  pub flights : List InFlight
  pub buffers : ℕ

-- the rounds in which a packet arrives that is sent in this one, by its fate
abbrev pub rounds_of : Option Fate → ℕ → Option Rounds
rounds_of None sent = Some (record { next = sent; last = sent })
rounds_of (Some Lose) sent = None
rounds_of (Some (Hold held)) sent = Some (record { next = sent + held; last = sent + held })
rounds_of (Some Twice) sent = Some (record { next = sent; last = sent + 1 })

-- what a packet is when it is sent: nothing where it is lost
abbrev pub flight_of : Departure → List InFlight
flight_of packet =
    option_to_list (option_map (λ rounds. record { rounds = rounds; bytes = packet.bytes }) (rounds_of packet.fate packet.round))

-- whether it is still to arrive in this round
abbrev pub is_due : ℕ → InFlight → Bool
is_due round flight = nat_le flight.rounds.next round && nat_le round flight.rounds.last

-- the bytes of those that are still to arrive in this round
abbrev pub due_in : List InFlight → ℕ → List (List ℕ)
due_in flights round = map (λ flight. flight.bytes) (filter (is_due round) flights)

-- what is left of a packet that has arrived in this round: nothing where that was its last
abbrev pub rest_of : ℕ → InFlight → List InFlight
rest_of round flight =
    if nat_le flight.rounds.last round
    then []
    else record { rounds = record { next = round + 1; last = flight.rounds.last }; bytes = flight.bytes } ∷ []

-- a world with one packet more, which is to arrive in this round alone
abbrev pub with_packet : ℕ → List ℕ → Held → Held
with_packet round bytes world =
    record world { flights = world.flights ++ record { rounds = record { next = round; last = round }; bytes = bytes } ∷ [] }

-- it is still to arrive, in a round that may be asked for when this one was
pub record IsToCome (asked : ℕ) (flight : InFlight) : Type 0 where
  pub some_round : flight.rounds.next ≤ flight.rounds.last
  pub not_over : asked ≤ flight.rounds.last
