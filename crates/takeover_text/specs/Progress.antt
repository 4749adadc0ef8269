-- A script as far as it has come: its first events, the pair that they came to, and what the last of them shows. From this project's
-- own profile.
use Rattle.std.specs.Prelude.{ℕ, List, [], ◌∷◌, take, reverse}
use Rattle.report_text.specs.declared.line.Line.{Line}
use Rattle.takeover_history.specs.declared.event.Event.{Event}
use Rattle.takeover_history.specs.Events.{PairSetting, Log}
use Rattle.takeover_history.specs.Steps.{log_of}
use Rattle.takeover_core.specs.declared.pair.Pair.{Pair}
use Rattle.takeover_core.specs.declared.outcome.Outcome.{Outcome}
use Rattle.takeover_core.specs.declared.outcome.Outcome.TheVariants.{Nothing}
use Rattle.takeover_core.specs.Outcomes.{outcome_of}
use Rattle.takeover_core.specs.Promised.{IsPromised}
use Rattle.takeover_core.specs.Standing.{PairStandsFor}
use Rattle.script_text.specs.Content.{ScriptContent}
use Rattle.takeover_text.specs.Lines.{lines_of}

-- the first so many events, the latest first, and their log
abbrev pub first_events : ScriptContent → ℕ → List Event
first_events script count = reverse (take count script.events)

abbrev pub log_after : ScriptContent → ℕ → Log
log_after script count = log_of script.pair (first_events script count)

-- the pair stands for them
abbrev pub PairHasTaken : ScriptContent → ℕ → Pair → Type 0
PairHasTaken script count pair = PairStandsFor script.pair pair (first_events script count)

-- what the latest event of a log answered, and what it shows
abbrev pub latest_outcome : PairSetting → Log → Outcome
latest_outcome setting [] = Nothing
latest_outcome setting (fact ∷ earlier) = outcome_of setting earlier fact

abbrev pub latest_lines : PairSetting → Log → List Line
latest_lines setting [] = []
latest_lines setting (fact ∷ earlier) = lines_of setting earlier fact

-- what is promised of every list of events holds after each event of the script, and so of all of them
abbrev pub IsPromisedThroughout : ScriptContent → Type 0
IsPromisedThroughout script = (count : ℕ) → IsPromised script.pair (log_after script count)
