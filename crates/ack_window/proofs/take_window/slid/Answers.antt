use Rattle.std.proofs.Common.{◌≡◌, ◌+◌, ◌-◌, ◌==◌, nat_lt, if◌then◌else◌, ℕ, bit_or, ◌*◌, ◌%◌, ◌^◌, sym, subst}
use Rattle.std.specs.Int.{bit_at}
use Rattle.ack_window.proofs.Bits.{bit_at-slid, bit_at-slid_once}
use Rattle.ack_window.proofs.take_window.slid.Goals as goal

pub returns-then-ahead-eq1 : goal.returns-then-ahead-eq1
returns-then-ahead-eq1 c = λ i within.
    let mask = c.args.mask in
    let P : ℕ → Type 0 = λ a. bit_at (bit_or (mask * 2 % 2 ^ 128) 1) i ≡ (if i + 1 == a then 1 else (if nat_lt i a then 0 else bit_at mask (i - a))) in
    subst P (sym c.if-ahead-eq1.true) (bit_at-slid_once mask i c.ranges.mask.fits within)

pub returns : goal.returns
returns c = λ i within. bit_at-slid c.args.mask c.args.ahead i c.requires.some c.requires.most within
