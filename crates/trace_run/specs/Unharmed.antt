-- What no loss, delay, repeat or boot does to an endpoint that no raw row names, in the run of a trace. From this project's own
-- profile.
use Rattle.std.specs.Prelude.{◌≡◌, ℕ, ◌<◌, []}
use Rattle.endpoint_history.specs.Unharmed.{IsUnharmed}
use Rattle.trace_run.specs.Run.{Setting, replayed}

-- no raw row names the endpoint
abbrev pub IsUnforged : Setting → ℕ → Type 0
IsUnforged setting endpoint = (round : ℕ) → setting.outside.raw round endpoint ≡ []

-- so it is unharmed after so many rounds
abbrev pub NoLossOrBootHarmsARun : Type 0
NoLossOrBootHarmsARun =
    (setting : Setting) → 0 < setting.g → (rounds endpoint : ℕ) → endpoint < setting.endpoints → IsUnforged setting endpoint →
    IsUnharmed setting.endpoints setting.b setting.g ((replayed setting rounds).rounds endpoint)
