-- Which kinds of rows a command takes, and how many rounds. This project's own profile.
use Rattle.std.specs.Prelude.{ℕ, ◌==◌, Bool, true, false}
use Rattle.trace_text.specs.declared.command.Command.{Command}
use Rattle.trace_text.specs.declared.command.Command.TheVariants as command
use Rattle.trace_text.specs.declared.kind.Kind.{Kind}
use Rattle.trace_text.specs.declared.kind.Kind.TheVariants as kind

abbrev pub takes_kind : Command → Kind → Bool
takes_kind command.Replay kind.Put = false
takes_kind command.Replay k = true
takes_kind command.Plan kind.Net = true
takes_kind command.Plan kind.Ask = true
takes_kind command.Plan kind.End = true
takes_kind command.Plan k = false
takes_kind command.Receive kind.Net = true
takes_kind command.Receive kind.Put = true
takes_kind command.Receive kind.End = true
takes_kind command.Receive k = false

-- packets are received in one round
abbrev pub takes_rounds : Command → ℕ → Bool
takes_rounds command.Receive rounds = rounds == 1
takes_rounds command rounds = true
