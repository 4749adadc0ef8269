-- A table filled with the fields of numbers, one after the other.
use Rattle.std.proofs.Common.{◌≡◌, ◌<◌, ◌+◌, ℕ, List, length, inl, inr, arith}
use Rattle.std.proofs.Math.ListN.{set}
use Rattle.std.proofs.lemmas.Bool.{cases_lt}
use Rattle.std.proofs.lemmas.List.{get_or-set_same, get_or-set_other}
use Rattle.report_text.specs.ShortFields.{IsShortField, HasShortFields}
use Rattle.report_text.specs.declared.short_field.ShortField.{ShortField}

pub more_fields : (number : ℕ) (fields : List ShortField) (field : ShortField) → number < length fields → HasShortFields number fields → IsShortField number field
    → HasShortFields (number + 1) (set fields number field)
more_fields number fields field below before now n d under =
    elim (cases_lt n number) [
      | inl earlier ↦ rw (get_or-set_other fields number n field d (λ (e : n ≡ number). omega arith)) (before n d earlier)
      | inr last ↦ let here : n ≡ number = omega arith in rw (here, get_or-set_same fields number field d below) now
    ]
