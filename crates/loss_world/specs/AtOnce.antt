-- A packet that arrives in its round alone, read while none else is on its way. From this project's own profile.
use Rattle.std.specs.Prelude.{◌≡◌, ℕ, ◌≤◌, List, [], ◌∷◌, None}
use Rattle.loss_world.specs.InTransit.{Held, with_packet, due_in}
use Rattle.loss_world.specs.History.{WorldCall, Departs, AsksFor, asked_of, WorldStandsFor}

-- without a fate it is on its way once it is sent; it is the one arrival of its round, and nothing is left of it once that is asked for
pub record PacketsPassAtOnce : Type 0 where
  pub sent : (world : Held) (history : List WorldCall) (round : ℕ) (bytes : List ℕ) → WorldStandsFor world history → asked_of history ≤ round →
      WorldStandsFor (with_packet round bytes world) (Departs (record { round = round; fate = None; bytes = bytes }) ∷ history)
  pub due : (world : Held) (round : ℕ) (bytes : List ℕ) → world.flights ≡ [] → due_in (with_packet round bytes world).flights round ≡ bytes ∷ []
  pub gone : (world : Held) (history : List WorldCall) (round : ℕ) (bytes : List ℕ) → world.flights ≡ [] → WorldStandsFor (with_packet round bytes world) history → asked_of history ≤ round →
      WorldStandsFor world (AsksFor round ∷ history)
