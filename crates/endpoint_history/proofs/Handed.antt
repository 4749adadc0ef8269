-- What goes with a lane's numbers.
use Rattle.std.proofs.Common.{◌≡◌, ℕ, ◌+◌, ◌-◌, ◌*◌, ◌<◌, Bool, true, false, ◌&&◌, cond, nat_lt, List, [], ◌∷◌, Some, subst, inl, inr, arith}
use Rattle.std.specs.Prelude.{nat_le}
use Rattle.std.proofs.lemmas.Bool.{cases_eq, cases_Bool, eq-eqb, ne_eqb}
use Rattle.ack_window.specs.Ends.{content_of}
use Rattle.ack_window.specs.Sends.{newest_of}
use Rattle.fcp_framing.specs.declared.packet.Told.{Told}
use Rattle.endpoint_history.specs.Packets.{Telling, Resets, Requests}
use Rattle.endpoint_history.specs.Lane.{LaneHistory, MakesDown, TakesUp, Records, epoch_of, last_reset, restarts, is_current, telling_in, may_send, numbers}
use Rattle.endpoint_history.specs.Steps.{rounds_begun, RoundsRise}
use Rattle.endpoint_history.specs.Tellings.{EachToldPasses}
use Rattle.endpoint_history.specs.CountLaws.{WhatIsToldWasHandedOver}

-- a number was new when a packet was made, or had its content before
made-before : (g round : ℕ) (slots : List Told) (history : LaneHistory) (number : ℕ) (telling : Telling) (P : Telling → Type 0) →
    P (telling_in g history round slots) → (content_of (numbers g history) number ≡ Some telling → P telling) →
    content_of (numbers g (MakesDown round slots ∷ history)) number ≡ Some telling → P telling
made-before g round slots history number telling P now before is =
    let sent = numbers g history in
    let latest = telling_in g history round slots in
    elim (cases_Bool (nat_lt 0 (epoch_of history) && may_send history sent)) [
      | inr again ↦ before (rw again at is)
      | inl new ↦
          elim (cases_eq number (newest_of sent + 1)) [
            | inl here ↦
                let same = subst (λ (b : Bool). cond b (Some latest) (content_of sent number) ≡ Some telling) (eq-eqb number (newest_of sent + 1) here) (rw new at is) in
                let content : latest ≡ telling = cc in
                subst P content now
            | inr other ↦ before (subst (λ (b : Bool). cond b (Some latest) (content_of sent number) ≡ Some telling) (ne_eqb number (newest_of sent + 1) other) (rw new at is))
          ]
    ]

old-content : (g round epoch version : ℕ) (history : LaneHistory) (number : ℕ) (telling : Telling) →
    content_of (numbers g (TakesUp round (Resets epoch version) ∷ history)) number ≡ Some telling → content_of (numbers g history) number ≡ Some telling
old-content g round epoch version history number telling is =
    elim (cases_Bool (restarts history epoch)) [
      | inl new ↦ let none = rw new at is in absurd (cc)
      | inr old ↦ rw old at is
    ]

read-content : (g round : ℕ) (packet : _) (history : LaneHistory) (number : ℕ) (telling : Telling) →
    content_of (numbers g (TakesUp round (Requests packet) ∷ history)) number ≡ Some telling → content_of (numbers g history) number ≡ Some telling
read-content g round packet history number telling is = elim (cases_Bool (is_current history packet)) [ inl current ↦ rw current at is | inr other ↦ rw other at is ]

passes : (g : ℕ) (test : List Told → Bool) (history : LaneHistory) (number : ℕ) (telling : Telling) → test [] ≡ true → EachToldPasses test history →
    content_of (numbers g history) number ≡ Some telling → test telling.told ≡ true
passes g test [] number telling none each is = absurd (cc)
passes g test (Records round ∷ history) number telling none each is = passes g test history number telling none each is
passes g test (TakesUp round (Requests packet) ∷ history) number telling none each is = passes g test history number telling none each (read-content g round packet history number telling is)
passes g test (TakesUp round (Resets epoch version) ∷ history) number telling none each is = passes g test history number telling none each (old-content g round epoch version history number telling is)
passes g test (MakesDown round slots ∷ history) number telling none each is =
    let now : test (telling_in g history round slots).told ≡ true =
    elim (nat_le (2 * g) round && nat_le (last_reset history) (round - 2 * g)) as (λ b. test (cond b slots []) ≡ true) [ true ↦ each.0 | false ↦ none ] in
    made-before g round slots history number telling (λ t. test t.told ≡ true) now (λ before. passes g test history number telling none each.1 before) is

batch-before : (g : ℕ) (history : LaneHistory) (number : ℕ) (telling : Telling) → RoundsRise history → content_of (numbers g history) number ≡ Some telling → telling.batch < rounds_begun history
batch-before g [] number telling rise is = absurd (cc)
batch-before g (Records round ∷ history) number telling rise is = batch-before g history number telling rise is
batch-before g (TakesUp round (Requests packet) ∷ history) number telling rise is = batch-before g history number telling rise (read-content g round packet history number telling is)
batch-before g (TakesUp round (Resets epoch version) ∷ history) number telling rise is = batch-before g history number telling rise (old-content g round epoch version history number telling is)
batch-before g (MakesDown round slots ∷ history) number telling rise is =
    let above = rise.0 in
    made-before g round slots history number telling (λ t. t.batch < round + 1) (omega arith) (λ before. let low = batch-before g history number telling rise.1 before in omega arith) is

pub what_is_told_was_handed_over : WhatIsToldWasHandedOver
what_is_told_was_handed_over = record {
  passes = λ g test history number telling none each is. passes g test history number telling none each is;
  before = λ g history number telling rise is. batch-before g history number telling rise is;
}
