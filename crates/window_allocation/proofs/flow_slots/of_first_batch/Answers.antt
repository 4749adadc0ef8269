use Rattle.std.proofs.Common.{◌≡◌, ◌<◌, ◌≤◌, ◌+◌, ◌*◌, ◌/◌, ◌==◌, ℕ, false, w64, ap, arith}
use Rattle.std.specs.Int.{trailing_zeros}
use Rattle.std.proofs.Math.Nat.{div-mul-le_self}
use Rattle.std.proofs.lemmas.Nat.{mul-le}
use Rattle.std.proofs.lemmas.Nat.Bits.{bit_at-trailing_zeros}
use Rattle.endpoint_bitmaps.specs.Slots.{has_slot}
use Rattle.window_allocation.proofs.SlotWords.{found_first}
use Rattle.window_allocation.proofs.flow_slots.of_first_batch.Goals as goal

pub returns : goal.returns
returns c = λ at is.
    let lowest : ℕ = trailing_zeros w64 c.args.slots in
    let batch : ℕ = lowest / c.from.result in
    let zeros = bit_at-trailing_zeros w64 c.args.slots (omega (arith, c.if-slots-eq0.false)) c.ranges.slots.fits in
    let few : (batch + 1) * c.args.b ≤ 64 = omega (arith, mul-le (batch + 1) c.args.b c.args.batches c.args.b (omega (arith, c.if-batch-from.false, c.from-2.ensures)) (omega arith), c.requires) in
    let none : (earlier : ℕ) → earlier < batch * c.args.b → has_slot c.args.slots earlier ≡ false = λ earlier below. ap (λ (n : ℕ). n == 1) (zeros.2 earlier (omega (arith, below, ap (λ (n : ℕ). batch * n) c.from.ensures, div-mul-le_self lowest c.from.result))) in
    found_first c.args.slots c.first_slots.result batch c.args.b at none (c.first_slots.ensures few) is
