-- How often the agents of a run boot, and what they are asked for. From this project's own profile.
use Rattle.std.specs.Prelude.{◌≡◌, ◌≤◌, ℕ, zero, suc, ◌+◌, length}
use Rattle.endpoint_history.specs.Agent.{epoch_of, asked}
use Rattle.trace_run.specs.Run.{FromOutside, Setting}
use Rattle.trace_run.specs.Histories.{agent_after}
use Rattle.trace_run.specs.Recorded.{asked_in}

-- the boots of an endpoint in so many rounds
abbrev pub booted_in : FromOutside → ℕ → ℕ → ℕ
booted_in outside zero endpoint = 0
booted_in outside (suc rounds) endpoint = booted_in outside rounds endpoint + length (outside.boots rounds endpoint)

-- an agent's epoch counts its boots
abbrev pub EpochsCountBoots : Type 0
EpochsCountBoots = (setting : Setting) (rounds endpoint : ℕ) → epoch_of (agent_after setting rounds endpoint) ≡ 1 + booted_in setting.outside rounds endpoint

-- in its present boot an agent was asked for no more than in all rounds
abbrev pub AskedIsWithinAll : Type 0
AskedIsWithinAll = (setting : Setting) (rounds src dst : ℕ) → asked (agent_after setting rounds src) dst ≤ asked_in setting.outside rounds src dst
