use Rattle.std.proofs.Common.{◌≡◌, ℕ, ◌-◌, ◌*◌, ◌%◌, ◌^◌, ◌<◌, List, ◌∷◌, true, arith, sym, ap, subst, bit_or}
use Rattle.std.specs.Int.{w128}
use Rattle.std.proofs.Math.Pow.{pow-lt}
use Rattle.std.proofs.lemmas.Nat.{or_lt, one_shl}
use Rattle.std.proofs.lemmas.Nat.Bits.{bit_at_set_same, bit_at_set_other}
use Rattle.ack_window.specs.declared.take_window.Taken.{Taken}
use Rattle.ack_window.specs.declared.take_window.Taken.TheVariants.{Fresh, Repeat}
use Rattle.ack_window.specs.Arrivals.{highest, has_come, receive_verdict, is_fresh, StandsForArrivals}
use Rattle.ack_window.specs.Versions.{reorder_of, span_of}
use Rattle.ack_window.specs.Windows.{Receiver, HasHeard}
use Rattle.ack_window.proofs.Bits.{bit_at-tested, bit_at-tested_clear}
use Rattle.ack_window.proofs.Spans.{reorder-span, span-most}
use Rattle.ack_window.proofs.Taking.{fits-stands, stands-above, stands-below, stands-stale, verdict-fresh, verdict-repeat, verdict-set, verdict-clear, came-above, came-highest}
use Rattle.ack_window.proofs.take_window.TakeWindow.take.Goals as goal

-- from the fields to what clauses see of them, and back
to_fields : (fields now : Receiver) (arrived : List ℕ) → fields ≡ now → HasHeard now arrived → HasHeard fields arrived
to_fields fields now arrived is stands = subst (λ (w : Receiver). HasHeard w arrived) (sym is) stands

as_seen : (fields now : Receiver) (arrived : List ℕ) (number : ℕ) (verdict : Taken) → fields ≡ now →
    receive_verdict (reorder_of fields.version) arrived number ≡ verdict → verdict ≡ receive_verdict (reorder_of now.version) arrived number
as_seen fields now arrived number verdict is judged = subst (λ (w : Receiver). verdict ≡ receive_verdict (reorder_of w.version) arrived number) is (sym judged)

-- a number above the highest
above : (c : goal.After-self-then-seq-self-1) (arrived : List ℕ) →
    StandsForArrivals (reorder_of c.self.inside.version) (span_of c.self.inside.version) (record { high = c.self.inside.high; mask = c.self.inside.mask }) arrived →
    StandsForArrivals (reorder_of c.self.inside.version) (span_of c.self.inside.version) (record { high = c.args.seq; mask = c.mask_up_to-self-inside.result }) (c.args.seq ∷ arrived)
above c arrived before =
    let high = before.high in
    stands-above _ _ _ arrived c.args.seq c.mask_up_to-self-inside.result before (omega arith) c.mask_up_to-self-inside.ensures.fits c.mask_up_to-self-inside.ensures.bits

pub invariant_of-self : goal.invariant_of-self
invariant_of-self c = (c.args.seq ∷ c.self.invariant.0, above c c.self.invariant.0 c.self.invariant.1)

pub returns-then-seq-self-clause-verdict : goal.returns-then-seq-self-clause-verdict
returns-then-seq-self-clause-verdict c = λ arrived stands.
    let before = to_fields _ _ arrived c.self.view_is stands in
    let high = before.high in
    as_seen _ _ arrived c.args.seq Fresh c.self.view_is
    (verdict-fresh (reorder_of c.self.inside.version) arrived c.args.seq (omega arith) (came-above arrived c.args.seq (omega arith)))

pub returns-then-seq-self-clause-stands : goal.returns-then-seq-self-clause-stands
returns-then-seq-self-clause-stands c = λ arrived stands. above c arrived (to_fields _ _ arrived c.self.view_is stands)

-- the highest again
pub returns-then-seq-self-2-clause-verdict : goal.returns-then-seq-self-2-clause-verdict
returns-then-seq-self-2-clause-verdict c = λ arrived stands.
    let before = to_fields _ _ arrived c.self.view_is stands in
    let high = before.high in
    let top : highest arrived ≡ c.args.seq = omega arith in
    as_seen _ _ arrived c.args.seq Repeat c.self.view_is
    (verdict-repeat (reorder_of c.self.inside.version) arrived c.args.seq (omega arith) (subst (λ (n : ℕ). has_come arrived n ≡ true) top (came-highest arrived (omega arith))))

-- a number below the highest whose bit is set
repeated : (c : goal.Then-self-bit-ne0) (arrived : List ℕ) →
    StandsForArrivals (reorder_of c.self.inside.version) (span_of c.self.inside.version) (record { high = c.self.inside.high; mask = c.self.inside.mask }) arrived →
    receive_verdict (reorder_of c.self.inside.version) arrived c.args.seq ≡ Repeat
repeated c arrived before =
    let near = c.reorder.ensures in
    let less = reorder-span c.self.inside.version in
    let most = span-most c.self.inside.version in
    verdict-set (reorder_of c.self.inside.version) (span_of c.self.inside.version) _ arrived c.args.seq before c.requires (omega arith) (omega arith) (omega arith)
    (bit_at-tested c.self.inside.mask (c.self.inside.high - 1 - c.args.seq) (omega arith) c.if-self-bit-ne0.true)

pub returns-then-self-bit-ne0-clause-verdict : goal.returns-then-self-bit-ne0-clause-verdict
returns-then-self-bit-ne0-clause-verdict c = λ arrived stands.
    as_seen _ _ arrived c.args.seq Repeat c.self.view_is (repeated c arrived (to_fields _ _ arrived c.self.view_is stands))

pub returns-then-self-bit-ne0-clause-stands : goal.returns-then-self-bit-ne0-clause-stands
returns-then-self-bit-ne0-clause-stands c = λ arrived stands.
    let before = to_fields _ _ arrived c.self.view_is stands in
    let high = before.high in
    subst (λ (w : Receiver). HasHeard w (c.args.seq ∷ arrived)) c.self.view_is
    (stands-stale _ _ _ arrived c.args.seq before (omega arith) (ap is_fresh (repeated c arrived before)))

-- a number below the highest whose bit is clear
fresh : (c : goal.After-self-2-1) (arrived : List ℕ) →
    StandsForArrivals (reorder_of c.self.inside.version) (span_of c.self.inside.version) (record { high = c.self.inside.high; mask = c.self.inside.mask }) arrived →
    receive_verdict (reorder_of c.self.inside.version) arrived c.args.seq ≡ Fresh
fresh c arrived before =
    let near = c.reorder.ensures in
    let less = reorder-span c.self.inside.version in
    let most = span-most c.self.inside.version in
    verdict-clear (reorder_of c.self.inside.version) (span_of c.self.inside.version) _ arrived c.args.seq before c.requires (omega arith) (omega arith) (omega arith)
    (bit_at-tested_clear c.self.inside.mask (c.self.inside.high - 1 - c.args.seq) (omega arith) c.if-self-bit-ne0.false)

below : (c : goal.After-self-2-1) (arrived : List ℕ) →
    StandsForArrivals (reorder_of c.self.inside.version) (span_of c.self.inside.version) (record { high = c.self.inside.high; mask = c.self.inside.mask }) arrived →
    StandsForArrivals (reorder_of c.self.inside.version) (span_of c.self.inside.version)
    (record { high = c.self.inside.high; mask = bit_or c.self.inside.mask (1 * 2 ^ (c.self.inside.high - 1 - c.args.seq) % 2 ^ 128) }) (c.args.seq ∷ arrived)
below c arrived before =
    let high = before.high in
    let near = c.reorder.ensures in
    let less = reorder-span c.self.inside.version in
    let most = span-most c.self.inside.version in
    let place = c.self.inside.high - 1 - c.args.seq in
    let inside : place < span_of c.self.inside.version = omega arith in
    let within : place < 128 = omega arith in
    let one : 1 * 2 ^ place % 2 ^ 128 < 2 ^ span_of c.self.inside.version = subst (λ (n : ℕ). n < 2 ^ span_of c.self.inside.version) (sym (one_shl place 128 within)) (pow-lt inside) in
    stands-below (reorder_of c.self.inside.version) (span_of c.self.inside.version) _ arrived c.args.seq _ before c.requires (omega arith) (fresh c arrived before)
    (or_lt (span_of c.self.inside.version) c.self.inside.mask (1 * 2 ^ place % 2 ^ 128) (fits-stands _ _ _ arrived before) one)
    (bit_at_set_same w128 c.self.inside.mask place within)
    (bit_at_set_other w128 c.self.inside.mask place within)

pub invariant_of-self-2 : goal.invariant_of-self-2
invariant_of-self-2 c = (c.args.seq ∷ c.self.invariant.0, below c c.self.invariant.0 c.self.invariant.1)

pub returns-clause-verdict : goal.returns-clause-verdict
returns-clause-verdict c = λ arrived stands.
    as_seen _ _ arrived c.args.seq Fresh c.self.view_is (fresh c arrived (to_fields _ _ arrived c.self.view_is stands))

pub returns-clause-stands : goal.returns-clause-stands
returns-clause-stands c = λ arrived stands. below c arrived (to_fields _ _ arrived c.self.view_is stands)
