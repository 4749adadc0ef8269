-- The lines of a text: what each spells, and nothing for a line that spells no line of the output or that has no line feed
-- (this project's own profile).
use Rattle.std.specs.Prelude.{◌⊎◌, ◌≡◌, ◌≢◌, ℕ, List, [], ◌∷◌, ◌++◌, Option, Some, None, All}
use Rattle.std.specs.List.{flat_map, AllZip}
use Rattle.report_text.specs.declared.line.Line.{Line}
use Rattle.report_text.specs.Lines.{line_bytes, IsLine}

-- bytes with what they spell
abbrev pub Reads : List ℕ → Option Line → Type 0
Reads bytes (Some l) = IsLine l × (line_bytes l ≡ bytes)
Reads bytes None = (l : Line) → IsLine l → line_bytes l ≢ bytes

-- the bytes between line feeds, and those after the last one
pub record IsCut (bytes : List ℕ) (pieces : List (List ℕ)) (rest : List ℕ) : Type 0 where
  pub whole : bytes ≡ flat_map (λ piece. piece ++ 10 ∷ []) pieces ++ rest
  pub formed : All (All (λ byte. byte ≢ 10)) pieces
  pub unformed : All (λ byte. byte ≢ 10) rest

-- a rest is a last line that spells nothing
abbrev pub unformed_line : List ℕ → List (Option Line)
unformed_line [] = []
unformed_line (byte ∷ bytes) = None ∷ []

-- the lines of a text
abbrev pub ReadsLines : List ℕ → List (Option Line) → Type 0
ReadsLines bytes lines =
    (pieces : List (List ℕ)) × (rest : List ℕ) × (formed : List (Option Line)) × IsCut bytes pieces rest × AllZip Reads pieces formed × (lines ≡ formed ++ unformed_line rest)

-- the first line up to a line feed, and the bytes behind that; or a rest without a line feed
abbrev pub ReadsLine : List ℕ → Option Line → List ℕ → Type 0
ReadsLine bytes line later =
    ((piece : List ℕ) × (bytes ≡ piece ++ 10 ∷ later) × All (λ byte. byte ≢ 10) piece × Reads piece line)
    ⊎ ((bytes ≢ []) × All (λ byte. byte ≢ 10) bytes × (line ≡ None) × (later ≡ []))
