use Rattle.std.proofs.Common.{◌≡◌, ◌<◌, ◌-◌, ℕ, sym, ap, ◌∙◌, arith, nat_lt}
use Rattle.std.proofs.lemmas.Nat.{one_shl}
use Rattle.endpoint_bitmaps.specs.Slots.{has_slot}
use Rattle.endpoint_bitmaps.proofs.WordLemmas.{has_slot-first}
use Rattle.endpoint_bitmaps.proofs.free_maps.first_slots.Goals as goal

pub returns-then-count-eq64 : goal.returns-then-count-eq64
returns-then-count-eq64 c = λ slot.
    let all : 64 ≡ c.args.count = sym c.if-count-eq64.true in
    has_slot-first 64 slot ∙ ap (nat_lt slot) all

pub returns-else-count-eq64 : goal.returns-else-count-eq64
returns-else-count-eq64 c = λ slot.
    let below : c.args.count < 64 = omega (arith, c.requires, c.if-count-eq64.false) in
    ap (λ (n : ℕ). has_slot (n - 1) slot) (one_shl c.args.count 64 below) ∙ has_slot-first c.args.count slot
