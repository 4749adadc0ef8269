-- Which of the numbers that arrive are taken, and how they are acknowledged. A list of arrivals has the latest first. From this project's own profile.
use Rattle.std.specs.Prelude.{◌≡◌, ℕ, zero, suc, ◌+◌, ◌-◌, ◌*◌, ◌^◌, max, Bool, true, false, ◌&&◌, ◌||◌, ◌==◌, nat_lt, List, [], ◌∷◌, if◌then◌else◌}
use Rattle.std.specs.List.{list_any}
use Rattle.ack_window.specs.declared.take_window.Taken.{Taken}
use Rattle.ack_window.specs.declared.take_window.Taken.TheVariants.{Fresh, Repeat, Old}
use Rattle.ack_window.specs.declared.acknowledgement.Acknowledgement.{Acknowledgement}

-- the greatest number that arrived, 0 for none
abbrev pub highest : List ℕ → ℕ
highest [] = 0
highest (number ∷ earlier) = max number (highest earlier)

-- the number is among those that arrived
abbrev pub has_come : List ℕ → ℕ → Bool
has_come arrived number = list_any (λ other. other == number) arrived

-- what a number is that arrives after these: old where a number more than reorder above it came before, else a repeat where it came before
abbrev pub receive_verdict : ℕ → List ℕ → ℕ → Taken
receive_verdict reorder earlier number =
    if nat_lt (number + reorder) (highest earlier)
    then Old
    else (if has_come earlier number then Repeat else Fresh)

abbrev pub is_fresh : Taken → Bool
is_fresh Fresh = true
is_fresh Repeat = false
is_fresh Old = false

-- whether the number was taken: it was fresh when it arrived
abbrev pub is_number_taken : ℕ → List ℕ → ℕ → Bool
is_number_taken reorder [] number = false
is_number_taken reorder (latest ∷ earlier) number =
    (latest == number && is_fresh (receive_verdict reorder earlier latest)) || is_number_taken reorder earlier number

-- the number whose bit i, for i below n, is set exactly where the test of i holds
unfoldable pub bits_where : (ℕ → Bool) → ℕ → ℕ
bits_where test zero = 0
bits_where test (suc n) = (if test n then 1 else 0) * 2 ^ n + bits_where test n

-- the mask of span bits whose bit i says that the number i + 1 below the highest was taken
abbrev pub mask_of : ℕ → ℕ → List ℕ → ℕ
mask_of reorder span arrived =
    bits_where (λ i. nat_lt (i + 1) (highest arrived) && is_number_taken reorder arrived (highest arrived - 1 - i)) span

-- the acknowledgement of all that arrived
abbrev pub acknowledgement : ℕ → ℕ → List ℕ → Acknowledgement
acknowledgement reorder span arrived = record { high = highest arrived; mask = mask_of reorder span arrived }

-- a window stands for the numbers that arrived
pub record StandsForArrivals (reorder span : ℕ) (window : Acknowledgement) (arrived : List ℕ) : Type 0 where
  pub high : window.high ≡ highest arrived
  pub mask : window.mask ≡ mask_of reorder span arrived
