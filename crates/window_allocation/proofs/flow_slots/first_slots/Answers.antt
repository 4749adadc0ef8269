use Rattle.std.proofs.Common.{◌≡◌, ◌<◌, ◌-◌, ℕ, ap, ◌∙◌, arith, nat_lt}
use Rattle.std.proofs.lemmas.Nat.{one_shl}
use Rattle.endpoint_bitmaps.specs.Slots.{has_slot}
use Rattle.endpoint_bitmaps.proofs.WordLemmas.{has_slot-first}
use Rattle.window_allocation.proofs.flow_slots.first_slots.Goals as goal

pub returns-then-count-ge64 : goal.returns-then-count-ge64
returns-then-count-ge64 c = λ few slot.
    let all : 64 ≡ c.args.count = omega (arith, few, c.if-count-ge64.true) in
    has_slot-first 64 slot ∙ ap (nat_lt slot) all

pub returns-else-count-ge64 : goal.returns-else-count-ge64
returns-else-count-ge64 c = λ few slot.
    let below : c.args.count < 64 = omega (arith, c.if-count-ge64.false) in
    ap (λ (n : ℕ). has_slot (n - 1) slot) (one_shl c.args.count 64 below) ∙ has_slot-first c.args.count slot
