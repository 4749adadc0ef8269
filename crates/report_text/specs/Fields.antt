-- A field spelled at the front of some bytes.
use Rattle.std.specs.Prelude.{◌≡◌, ℕ, List, [], ◌∷◌, take}
use Rattle.report_text.specs.Lines.{number_fields}

-- the field of a number, as far as the place `end`
abbrev pub IsField : ℕ → List ℕ → ℕ → Type 0
IsField number bytes end = take end bytes ≡ number_fields (number ∷ [])
