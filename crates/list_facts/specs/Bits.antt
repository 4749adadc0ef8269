-- Bits of words as marks of places (this project's own profile).
use Rattle.std.specs.Prelude.{◌≡◌, ℕ, ◌/◌, ◌%◌, ◌==◌, List, Bool, Option, None, is_some}
use Rattle.std.specs.List.{slice_index_or}
use Rattle.std.specs.Int.{bit_at}

-- the bit of a place, where words of 64 bits stand one after the other
abbrev pub names_place : List ℕ → ℕ → Bool
names_place words place = bit_at (slice_index_or words (place / 64) 0) (place % 64) == 1

-- a word has a bit for each place of a row that holds something, and no other
abbrev pub TellsHeld : {X : Type 0} → List (Option X) → ℕ → Type 0
TellsHeld row word = (place : ℕ) → (bit_at word place == 1) ≡ is_some (slice_index_or row place None)
