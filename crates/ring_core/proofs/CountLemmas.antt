-- How many pieces flow through the edges of a ring.
use Rattle.std.proofs.Common.{◌≡◌, ◌<◌, ◌≤◌, ◌+◌, ◌-◌, ℕ, zero, suc, nat_eq, length, ap, arith, length-append}
use Rattle.slot_batches.specs.Pieces.{pieces}
use Rattle.ring_core.specs.Windows.{Window, list_before_stage, pieces_before, worker_of}
use Rattle.ring_core.specs.Streams.{pieces_at, pieces_into}
use Rattle.ring_core.proofs.StreamLemmas.{at_most, into_own, length-pieces}

-- more stages bring no fewer pieces
into_more : (window : Window) (worker s d : ℕ) → length (pieces_into window worker s) ≤ length (pieces_into window worker (s + d))
into_more window worker s zero = let q = ap (λ (n : ℕ). length (pieces_into window worker n)) (let p : s + 0 ≡ s = omega arith in p) in omega (arith, q)
into_more window worker s (suc d) =
    let on = ap (λ (n : ℕ). length (pieces_into window worker n)) (let p : s + suc d ≡ suc (s + d) = omega arith in p) in
    omega (arith, on, into_more window worker s d, length-append (pieces_into window worker (s + d)) (pieces_at window worker (s + d)))

pub into_up : (window : Window) (worker s t : ℕ) → s ≤ t → length (pieces_into window worker s) ≤ length (pieces_into window worker t)
into_up window worker s t le =
    let on = ap (λ (n : ℕ). length (pieces_into window worker n)) (let p : s + (t - s) ≡ t = omega (arith, le) in p) in
    omega (arith, on, into_more window worker s (t - s))

-- past an own stage its pieces are among them
pub into_past : (window : Window) (worker s t : ℕ) → worker_of window.workers s ≡ worker → s < t → length (pieces_into window worker s) + pieces_before window s ≤ length (pieces_into window worker t)
into_past window worker s t own less =
    let on = ap length (into_own window worker s own) in
    omega (arith, on, length-append (pieces_into window worker s) (pieces s (list_before_stage window s)), length-pieces window s, into_up window worker (s + 1) t (omega (arith, less)))

-- a stage brings a worker at most its own pieces
pub into_most : (window : Window) (worker s : ℕ) → length (pieces_into window worker (s + 1)) ≤ length (pieces_into window worker s) + pieces_before window s
into_most window worker s =
    let on = ap (λ (n : ℕ). length (pieces_into window worker n)) (let p : s + 1 ≡ suc s = omega arith in p) in
    let few : length (pieces_at window worker s) ≤ pieces_before window s = at_most (nat_eq (worker_of window.workers s) worker) (pieces s (list_before_stage window s)) (pieces_before window s) (omega (arith, length-pieces window s)) in
    omega (arith, on, few, length-append (pieces_into window worker s) (pieces_at window worker s))
