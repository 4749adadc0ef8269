-- What a reader of a trace was given, for the calls of this crate that give it (this project's own profile).
use Rattle.std.specs.Prelude.{ℕ, List, []}
use Rattle.trace_text.specs.declared.command.Command.{Command}
use Rattle.trace_text.specs.declared.reader.TraceReader.{TraceReader}
use Rattle.trace_text.specs.Reader.{HasRead}

-- a reader that had read nothing has read this text, whatever it reads for
abbrev pub IsGiven : TraceReader → TraceReader → List ℕ → Type 0
IsGiven old new text = (command : Command) → HasRead command [] old → HasRead command text new
