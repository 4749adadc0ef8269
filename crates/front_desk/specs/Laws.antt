-- A law on what lanes record. From this project's own profile.
use Rattle.std.specs.Prelude.{◌≡◌, ℕ, List}
use Rattle.front_desk.specs.Answers.{entries_of}

-- how many rounds a window has shows in no entry of round 0, since nothing was told before it
abbrev pub EveryWindowRecordsTheSame : Type 0
EveryWindowRecordsTheSame = (endpoint endpoints g h : ℕ) (packets : List (List ℕ)) → entries_of endpoint endpoints g packets ≡ entries_of endpoint endpoints h packets
