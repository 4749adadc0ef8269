-- The made trace: asks and losses that are drawn from one number by a linear congruential generator. This project's own
-- profile.
use Rattle.std.specs.Prelude.{ℕ, zero, suc, ◌+◌, ◌-◌, ◌*◌, ◌/◌, ◌%◌, ◌^◌, ◌==◌, Bool, true, false, List, [], ◌∷◌, ◌++◌, map, nat_le, sum_by, if◌then◌else◌}
use Rattle.std.specs.List.{flat_map, range_with_len}
use Rattle.clos_topology.specs.Network.{Network, endpoints_of}
use Rattle.loss_world.specs.declared.fate.Fate.TheVariants.{Lose}
use Rattle.trace_text.specs.Asks.{slots_asked}
use Rattle.trace_text.specs.Events.{events_kept}
use Rattle.trace_text.specs.Trace.{TraceContent, content_by}
use Rattle.trace_text.specs.declared.ask.Ask.{Ask}
use Rattle.trace_text.specs.declared.events.GivenFate.{GivenFate}

-- the generator's number after a draw, and after so many
unfoldable pub next_state : ℕ → ℕ
next_state x = (x * 6364136223846793005 + 1442695040888963407) % 2 ^ 64

abbrev pub state_after : ℕ → ℕ → ℕ
state_after zero x = x
state_after (suc draws) x = next_state (state_after draws x)

-- what is drawn below a bound by the draw that led to this number
abbrev pub drawn : ℕ → ℕ → ℕ
drawn x below = x / 2 ^ 33 % below

-- one of the endpoints other than the source, by its place among them
abbrev pub other_than : ℕ → ℕ → ℕ
other_than src place = if nat_le src place then place + 1 else place

-- the ask that the next three draws make in a round, and the five asks of a round
abbrev pub made_ask : ℕ → ℕ → ℕ → Ask
made_ask endpoints round x = record {
  round = round;
  src = drawn (state_after 1 x) endpoints;
  dst = other_than (drawn (state_after 1 x) endpoints) (drawn (state_after 2 x) (endpoints - 1));
  slots = 1 + drawn (state_after 3 x) 20;
}

abbrev pub asks_of_round : ℕ → ℕ → ℕ → List Ask
asks_of_round endpoints round x = map (λ ask. made_ask endpoints round (state_after (ask * 3) x)) (range_with_len 0 5)

-- one packet in fifty is lost: for each endpoint that on its way up, and then that on its way down
abbrev pub loss_of : ℕ → ℕ → Bool → ℕ → List GivenFate
loss_of round endpoint up x = if drawn (next_state x) 50 == 0 then record { round = round; endpoint = endpoint; up = up; fate = Lose } ∷ [] else []

abbrev pub losses_of : ℕ → ℕ → ℕ → List GivenFate
losses_of round x endpoint = loss_of round endpoint true (state_after (endpoint * 2) x) ++ loss_of round endpoint false (state_after (endpoint * 2 + 1) x)

abbrev pub losses_of_round : ℕ → ℕ → ℕ → List GivenFate
losses_of_round endpoints round x = flat_map (losses_of round x) (range_with_len 0 endpoints)

-- a round makes 15 draws for its asks and then one for each packet; the generator starts with the number itself
abbrev pub state_before : ℕ → ℕ → ℕ → ℕ
state_before number endpoints round = state_after (round * (15 + endpoints * 2)) number

abbrev pub made_asks : ℕ → ℕ → ℕ → List Ask
made_asks number endpoints rounds = flat_map (λ round. asks_of_round endpoints round (state_before number endpoints round)) (range_with_len 0 rounds)

abbrev pub made_losses : ℕ → ℕ → ℕ → List GivenFate
made_losses number endpoints rounds = flat_map (λ round. losses_of_round endpoints round (state_after 15 (state_before number endpoints round))) (range_with_len 0 rounds)

-- the trace of these asks and losses
abbrev pub made_trace : ℕ → Network → ℕ → TraceContent
made_trace number net rounds =
    content_by net rounds (λ round src dst. sum_by (slots_asked round src dst) (made_asks number (endpoints_of net) rounds)) (events_kept (made_losses number (endpoints_of net) rounds) [] [] [])
