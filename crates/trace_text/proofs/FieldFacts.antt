-- The fields of a record by their places.
use Rattle.std.proofs.Common.{◌≡◌, ℕ, zero, suc, [], ◌∷◌, refl}
use Rattle.std.specs.Prelude.{unwrap_or}
use Rattle.csv.specs.Records.{field_at}
use Rattle.trace_text.specs.Fields.{Record, field}

pub field-field_at : (fields : Record) (at : ℕ) → field fields at ≡ unwrap_or (field_at fields at) []
unfolding field_at
field-field_at [] at = refl
field-field_at (f ∷ fields) zero = refl
field-field_at (f ∷ fields) (suc at) = field-field_at fields at
