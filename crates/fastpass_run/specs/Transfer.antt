-- What was taken from a source over many calls.
use Rattle.std.specs.Prelude.{ℕ, ◌≤◌, List, length, Option}
use Rattle.std.specs.Io.KnownBytes.{Consumes, IsAtEnd}

-- the most bytes that an input may have
abbrev pub input_limit : ℕ
input_limit = 67108864

-- bytes were taken, so many that their number passes
abbrev pub Takes : Option (List ℕ) → Option (List ℕ) → (ℕ → Type 0) → Type 0
Takes old new passes = (bytes : List ℕ) × Consumes old new bytes × passes (length bytes)

-- all bytes were taken, at most the limit, and they are so
abbrev pub TakesAll : Option (List ℕ) → Option (List ℕ) → (List ℕ → Type 0) → Type 0
TakesAll old new passes = (bytes : List ℕ) × Consumes old new bytes × IsAtEnd new × (length bytes ≤ input_limit) × passes bytes
