-- What the proofs use of the limits of a version.
use Rattle.std.proofs.Common.{◌≡◌, ℕ, ◌-◌, ◌/◌, ◌^◌, ◌<◌, ◌≤◌, true, false, cond, ◌==◌, refl, arith}
use Rattle.ack_window.specs.Versions.{reorder_of, span_of}

pub reorder-span : (version : ℕ) → reorder_of version < span_of version
reorder-span version = elim (version == 2) as (λ b. cond {A = ℕ} b 16 4 < cond {A = ℕ} b 128 64) [ true ↦ omega arith | false ↦ omega arith ]

pub span-most : (version : ℕ) → span_of version ≤ 128
span-most version = elim (version == 2) as (λ b. cond {A = ℕ} b 128 64 ≤ 128) [ true ↦ omega arith | false ↦ omega arith ]

-- the greatest mask, shifted down to a version's bits
pub ones-span : (version : ℕ) → 340282366920938463463374607431768211455 / 2 ^ (128 - span_of version) ≡ 2 ^ span_of version - 1
ones-span version = elim (version == 2) as (λ b. 340282366920938463463374607431768211455 / 2 ^ (128 - cond {A = ℕ} b 128 64) ≡ 2 ^ cond {A = ℕ} b 128 64 - 1) [ true ↦ refl | false ↦ refl ]
