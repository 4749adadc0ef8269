-- What an acknowledgement says of a number: that it arrived, that it is lost, or nothing. From this project's own profile.
use Rattle.std.specs.Prelude.{ℕ, ◌+◌, ◌-◌, Bool, true, false, ◌&&◌, ◌||◌, not, ◌==◌, nat_lt, IsTrue, Option, Some, None, if◌then◌else◌}
use Rattle.std.specs.Int.{bit_at}
use Rattle.ack_window.specs.declared.acknowledgement.Acknowledgement.{Acknowledgement}
use Rattle.ack_window.specs.declared.acknowledgement.Decision.{Decision}
use Rattle.ack_window.specs.declared.acknowledgement.Decision.TheVariants.{Acknowledged, Lost}

-- bit i of the mask stands for the number high - 1 - i; an acknowledgement shows its high, and the numbers whose bit is set
abbrev pub shows : ℕ → Acknowledgement → ℕ → Bool
shows span ack number =
    number == ack.high
    || (nat_lt number ack.high && (nat_lt (ack.high - 1 - number) span && bit_at ack.mask (ack.high - 1 - number) == 1))

-- it finds a number lost that is more than reorder below its high and that it does not show
abbrev pub finds_lost : ℕ → ℕ → Acknowledgement → ℕ → Bool
finds_lost reorder span ack number = nat_lt (number + reorder) ack.high && not (shows span ack number)

-- the acknowledgement shows the number
abbrev pub Shows : ℕ → Acknowledgement → ℕ → Type 0
Shows span ack number = IsTrue (shows span ack number)

-- the acknowledgement finds the number lost
abbrev pub FindsLost : ℕ → ℕ → Acknowledgement → ℕ → Type 0
FindsLost reorder span ack number = IsTrue (finds_lost reorder span ack number)

abbrev pub is_lost : Decision → Bool
is_lost Acknowledged = false
is_lost Lost = true

-- what an acknowledgement decides of a number, where it decides anything
abbrev pub decision_by : ℕ → ℕ → Acknowledgement → ℕ → Option Decision
decision_by reorder span ack number =
    if shows span ack number
    then Some Acknowledged
    else (if finds_lost reorder span ack number then Some Lost else None)

-- the same, read when the newest number sent is this: an acknowledgement whose high is above it is passed over
abbrev pub decision_read : ℕ → ℕ → ℕ → Acknowledgement → ℕ → Option Decision
decision_read reorder span newest ack number = if nat_lt newest ack.high then None else decision_by reorder span ack number

abbrev pub is_acknowledged : Option Decision → Bool
is_acknowledged (Some Acknowledged) = true
is_acknowledged (Some Lost) = false
is_acknowledged None = false

abbrev pub is_found_lost : Option Decision → Bool
is_found_lost (Some Acknowledged) = false
is_found_lost (Some Lost) = true
is_found_lost None = false
