-- Sets of slots of a batch, as tests, and the lowest slots of a set (this project's own way to the greedy slots of the
-- SIGCOMM 2014 Fastpass paper). Slots are counted from 0.
use Rattle.std.specs.Prelude.{◌≡◌, ◌≤◌, ℕ, zero, suc, ◌+◌, Bool, false, ◌==◌, ◌&&◌, nat_lt, if◌then◌else◌}
use Rattle.std.specs.Int.{bit_at}

-- the slots that a word names: those at whose places its bits are 1
abbrev pub has_slot : ℕ → ℕ → Bool
has_slot slots slot = bit_at slots slot == 1

-- how many of the slots below this one pass
abbrev pub count_below : (ℕ → Bool) → ℕ → ℕ
count_below test zero = 0
count_below test (suc slot) = (if test 0 then 1 else 0) + count_below (λ later. test (suc later)) slot

-- the slots that pass and have fewer than `need` that pass below them
abbrev pub is_among_lowest : (ℕ → Bool) → ℕ → ℕ → Bool
is_among_lowest test need slot = test slot && nat_lt (count_below test slot) need

-- no slot passes, from this one on
abbrev pub NoneFrom : ℕ → (ℕ → Bool) → Type 0
NoneFrom end test = (slot : ℕ) → end ≤ slot → test slot ≡ false
