-- The mask's field in each version.
use Rattle.std.proofs.Common.{◌≡◌, ℕ, ◌*◌, ◌^◌, ◌<◌, Bool, true, false, cond, ◌||◌, eqb, refl, subst, inl, inr, ◌⊎◌, arith}
use Rattle.std.specs.Int.{w64, w128, byte_len}
use Rattle.std.proofs.lemmas.Bool.{eqb-true}
use Rattle.fcp_framing.specs.Versions.{IsVersion, is_version, mask_bits, mask_width}
use Rattle.fcp_framing.proofs.Numbers.{IsField, field64, field128}

pub mask_field : (version : ℕ) → IsField (mask_width version)
unfolding mask_width
mask_field version =
    elim (eqb version 2) as (λ b. IsField (cond b w128 w64)) [
      | true ↦ field128
      | false ↦ field64
    ]

mask_width-bits : (version : ℕ) → 8 * byte_len (mask_width version) ≡ mask_bits version
unfolding mask_width
mask_width-bits version =
    elim (eqb version 2) as (λ b. 8 * byte_len (cond b w128 w64) ≡ cond b 128 64) [
      | true ↦ refl
      | false ↦ refl
    ]

-- a mask that fits its field fits its version, and the other way round
pub bits_from_width : (version mask : ℕ) → mask < 2 ^ (8 * byte_len (mask_width version)) → mask < 2 ^ mask_bits version
bits_from_width version mask fits = subst (λ (n : ℕ). mask < 2 ^ n) (mask_width-bits version) fits

pub width_from_bits : (version mask : ℕ) → mask < 2 ^ mask_bits version → mask < 2 ^ (8 * byte_len (mask_width version))
width_from_bits version mask fits = rw (mask_width-bits version) fits

pub within_128 : (version mask : ℕ) → mask < 2 ^ mask_bits version → mask < 2 ^ 128
within_128 version mask =
    elim (eqb version 2) as (λ b. mask < 2 ^ cond b 128 64 → mask < 2 ^ 128) [
      | true ↦ λ fits. fits
      | false ↦ λ fits. omega arith
    ]

pub either : (a b : Bool) → (a || b) ≡ true → (a ≡ true) ⊎ (b ≡ true)
either true b e = inl refl
either false b e = inr e

pub version_rule : (version : ℕ) → is_version version ≡ true → IsVersion version
version_rule version test = elim (either (eqb version 1) (eqb version 2) test) [
  | inl one ↦ inl (eqb-true version 1 one)
  | inr two ↦ inr (eqb-true version 2 two)
]

pub version_test : (version : ℕ) → IsVersion version → is_version version ≡ true
version_test version (inl one) = rw one refl
version_test version (inr two) = rw two refl
