-- The versions of the protocol, and the mask of each (this project's own profile): 64 bits in version 1, 128 in version 2.
use Rattle.std.specs.Prelude.{◌≡◌, ◌⊎◌, ◌==◌, ◌||◌, ℕ, Bool, if◌then◌else◌}
use Rattle.std.specs.Int.{Width, w64, w128}

abbrev pub IsVersion : ℕ → Type 0
IsVersion version = (version ≡ 1) ⊎ (version ≡ 2)

abbrev pub is_version : ℕ → Bool
is_version version = version == 1 || version == 2

-- how many bits a mask has
abbrev pub mask_bits : ℕ → ℕ
mask_bits version = if version == 2 then 128 else 64

-- the width of the field of a mask
unfoldable pub mask_width : ℕ → Width
mask_width version = if version == 2 then w128 else w64
