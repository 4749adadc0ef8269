-- Which of the packets that were sent one way arrive in a round: those whose fate says so, in the order of sending. From this project's own profile.
use Rattle.std.specs.Prelude.{◌≡◌, ℕ, ◌+◌, ◌<◌, ◌≤◌, Bool, true, false, ◌||◌, ◌==◌, List, [], map, filter, All, Option, Some, None}
use Rattle.loss_world.specs.declared.fate.Fate.{Fate}
use Rattle.loss_world.specs.declared.fate.Fate.TheVariants.{Lose, Hold, Twice}

-- a packet that was sent: the round in which it was, its fate, if it has one, and its bytes
pub record Departure : Type 0 where
  pub round : ℕ
  pub fate : Option Fate
  pub bytes : List ℕ

-- whether a packet that was sent in one round arrives in another
abbrev pub arrives_in : Option Fate → ℕ → ℕ → Bool
arrives_in None sent round = round == sent
arrives_in (Some Lose) sent round = false
arrives_in (Some (Hold held)) sent round = round == sent + held
arrives_in (Some Twice) sent round = round == sent || round == sent + 1

-- the bytes of every packet that arrives in the round, of all that were sent
abbrev pub arrivals : List Departure → ℕ → List (List ℕ)
arrivals sent round = map (λ packet. packet.bytes) (filter (λ packet. arrives_in packet.fate packet.round round) sent)

-- no packet arrives before the round in which it was sent
pub record NoneArrivesEarly : Type 0 where
  pub each : (fate : Option Fate) (sent round : ℕ) → arrives_in fate sent round ≡ true → sent ≤ round
  pub all : (sent : List Departure) (round : ℕ) → All (λ packet. round < packet.round) sent → arrivals sent round ≡ []
