-- Where the numbers of the lane come from.
use Rattle.std.proofs.Common.{◌≡◌, ◌≢◌, ℕ, ◌+◌, ◌-◌, ◌*◌, ◌<◌, ◌≤◌, Bool, true, false, ◌&&◌, not, cond, nat_lt, ◌==◌, List, [], ◌∷◌, Some, None, sym, ◌∙◌, ap, subst, refl, inl, inr, arith}
use Rattle.std.specs.Prelude.{nat_le}
use Rattle.std.proofs.lemmas.Bool.{cases_eq, cases_Bool, eq-eqb, ne_eqb, and_parts, cond-true, cond-false, leb-true}
use Rattle.ack_window.specs.Ends.{content_of}
use Rattle.ack_window.specs.Sends.{newest_of}
use Rattle.fcp_framing.specs.declared.packet.Told.{Told}
use Rattle.endpoint_history.specs.Packets.{Telling, DownPacket, Resets, Requests}
use Rattle.endpoint_history.specs.Lane.{LaneEvent, LaneHistory, MakesDown, TakesUp, Records, epoch_of, last_reset, restarts, is_current, telling_in, may_send, numbers, untold}
use Rattle.endpoint_history.specs.Steps.{lane_of, WasMadeDown, rounds_begun, RoundsRise}
use Rattle.endpoint_history.specs.Tellings.{Among, Issue, issued}
use Rattle.endpoint_history.specs.BothEnds.{End}
use Rattle.endpoint_history.specs.ForgedLaws.{EachTellingWasIssued, ComesAfterTwoWindows, OneNumberForABatch}
use Rattle.endpoint_history.specs.Windows.{Windows}
use Rattle.endpoint_history.proofs.LaneEnd.{end-stays, packet_made, packet_made-is_of, packet_down-is}

-- what is told is the batch of 2 g rounds before
telling-batch : (g : ℕ) (history : LaneHistory) (round : ℕ) (told : List Told) → (telling_in g history round told).told ≢ [] → (telling_in g history round told).batch + 2 * g ≡ round
telling-batch g history round told some =
    elim (cases_Bool (nat_le (2 * g) round && nat_le (last_reset history) (round - 2 * g))) [
      | inr none ↦ absurd (some (rw none refl))
      | inl tells ↦
          let late = leb-true (2 * g) round (and_parts (nat_le (2 * g) round) (nat_le (last_reset history) (round - 2 * g)) tells).0 in
          omega arith
    ]

-- the number was new in its round
pub record CameFrom (g : ℕ) (history : LaneHistory) (epoch number : ℕ) (content : Telling) : Type 0 where
  pub issue : issued g history (content.batch + 2 * g) ≡ Some (record { epoch = epoch; number = number; content = content })
  pub begun : content.batch + 2 * g < rounds_begun history

-- a later round leaves what was issued before
pub issued-later : (g : ℕ) (event : LaneEvent) (history : LaneHistory) (round : ℕ) → RoundsRise (event ∷ history) → round < rounds_begun history →
    issued g (event ∷ history) round ≡ issued g history round
issued-later g (Records number) history round rise begun = refl
issued-later g (TakesUp number up) history round rise begun = refl
issued-later g (MakesDown number told) history round rise begun =
    let above = rise.0 in
    cond-false (number == round) _ (issued g history round) (ne_eqb number round (omega arith))

pub begun-later : (event : LaneEvent) (history : LaneHistory) → RoundsRise (event ∷ history) → rounds_begun history ≤ rounds_begun (event ∷ history)
begun-later (Records number) history rise = omega arith
begun-later (TakesUp number up) history rise = omega arith
begun-later (MakesDown number told) history rise = let above = rise.0 in omega arith

CameFrom-later : (g : ℕ) (event : LaneEvent) (history : LaneHistory) (epoch number : ℕ) (content : Telling) → RoundsRise (event ∷ history) →
    CameFrom g history epoch number content → CameFrom g (event ∷ history) epoch number content
CameFrom-later g event history epoch number content rise came =
    let begun = came.begun in
    let grows = begun-later event history rise in
    record { issue = issued-later g event history (content.batch + 2 * g) rise begun ∙ came.issue; begun = omega arith }

pub rise-before : (event : LaneEvent) (history : LaneHistory) → RoundsRise (event ∷ history) → RoundsRise history
rise-before (Records number) history rise = rise
rise-before (TakesUp number up) history rise = rise
rise-before (MakesDown number told) history rise = rise.1

-- of the numbers since the last reset
pub content-came : (g : ℕ) (history : LaneHistory) (number : ℕ) (content : Telling) → RoundsRise history →
    content_of (numbers g history) number ≡ Some content → content.told ≢ [] → CameFrom g history (epoch_of history) number content
content-came g [] number content rise is some = absurd (cc)
content-came g (Records round ∷ history) number content rise is some =
    CameFrom-later g (Records round) history (epoch_of history) number content rise (content-came g history number content rise is some)
content-came g (TakesUp round (Requests packet) ∷ history) number content rise is some =
    let before : content_of (numbers g history) number ≡ Some content =
    elim (cases_Bool (is_current history packet)) [ inl current ↦ rw current at is | inr other ↦ rw other at is ] in
    CameFrom-later g (TakesUp round (Requests packet)) history (epoch_of history) number content rise (content-came g history number content rise before some)
content-came g (TakesUp round (Resets epoch version) ∷ history) number content rise is some =
    elim (cases_Bool (restarts history epoch)) [
      | inl new ↦ let none = rw new at is in absurd (cc)
      | inr old ↦
          let before : content_of (numbers g history) number ≡ Some content = rw old at is in
          let stays = ap (λ (e : End Telling). e.epoch) (end-stays g round epoch version history old) in
          subst (λ (e : ℕ). CameFrom g (TakesUp round (Resets epoch version) ∷ history) e number content) (sym stays)
          (CameFrom-later g (TakesUp round (Resets epoch version)) history (epoch_of history) number content rise (content-came g history number content rise before some))
    ]
content-came g (MakesDown round told ∷ history) number content rise is some =
    let sent = numbers g history in
    elim (cases_Bool (nat_lt 0 (epoch_of history) && may_send history sent)) [
      | inr again ↦ CameFrom-later g (MakesDown round told) history (epoch_of history) number content rise (content-came g history number content rise.1 (rw again at is) some)
      | inl new ↦
          let it = rw new at is in
          elim (cases_eq number (newest_of sent + 1)) [
            | inr other ↦
                let before : content_of sent number ≡ Some content = subst (λ (b : Bool). cond b (Some (telling_in g history round told)) (content_of sent number) ≡ Some content) (ne_eqb number (newest_of sent + 1) other) it in
                CameFrom-later g (MakesDown round told) history (epoch_of history) number content rise (content-came g history number content rise.1 before some)
            | inl latest ↦
                let here : Some (telling_in g history round told) ≡ Some content = subst (λ (b : Bool). cond b (Some (telling_in g history round told)) (content_of sent number) ≡ Some content) (eq-eqb number (newest_of sent + 1) latest) it in
                let same : telling_in g history round told ≡ content = cc in
                let in_round : (telling_in g history round told).batch + 2 * g ≡ round =
                telling-batch g history round told (subst (λ (t : Telling). t.told ≢ []) (sym same) some) in
                subst (λ (n : ℕ). CameFrom g (MakesDown round told ∷ history) (epoch_of history) n content) (sym latest)
                (subst (λ (t : Telling). CameFrom g (MakesDown round told ∷ history) (epoch_of history) (newest_of sent + 1) t) same
                (record {
                  issue = cond-true (round == (telling_in g history round told).batch + 2 * g) _ _ (eq-eqb round ((telling_in g history round told).batch + 2 * g) (sym in_round))
                      ∙ cond-true (nat_lt 0 (epoch_of history) && may_send history sent) _ None new;
                  begun = omega arith;
                }))
          ]
    ]

-- of every packet ever made
pub packet-came : (w : Windows) (g : ℕ) (history : LaneHistory) (packet : DownPacket) → RoundsRise history → WasMadeDown g history packet → packet.content.told ≢ [] →
    CameFrom g history packet.epoch packet.seq packet.content
packet-came w g [] packet rise made some = absurd made
packet-came w g (Records round ∷ history) packet rise made some = CameFrom-later g (Records round) history packet.epoch packet.seq packet.content rise (packet-came w g history packet rise made some)
packet-came w g (TakesUp round up ∷ history) packet rise made some = CameFrom-later g (TakesUp round up) history packet.epoch packet.seq packet.content rise (packet-came w g history packet rise made some)
packet-came w g (MakesDown round told ∷ history) packet rise made some =
    elim made [
      | inr before ↦ CameFrom-later g (MakesDown round told) history packet.epoch packet.seq packet.content rise (packet-came w g history packet rise.1 before some)
      | inl now ↦
          let parts = packet_down-is g history round told packet now in
          let it = packet_made g history round told in
          let content = (packet_made-is_of w g history round told parts.0).content in
          subst (λ (p : DownPacket). CameFrom g (MakesDown round told ∷ history) p.epoch p.seq p.content) parts.1
          (content-came g (MakesDown round told ∷ history) it.seq it.content rise content (subst (λ (p : DownPacket). p.content.told ≢ []) (sym parts.1) some))
    ]

-- what was untold was issued under no number
pub untold-came : (g : ℕ) (history : LaneHistory) (telling : Telling) → RoundsRise history → Among telling (untold g history) → telling.told ≢ [] →
    (issued g history (telling.batch + 2 * g) ≡ None) × (telling.batch + 2 * g < rounds_begun history)
untold-came g [] telling rise among some = absurd among
untold-came g (Records round ∷ history) telling rise among some = untold-came g history telling rise among some
untold-came g (TakesUp round (Requests packet) ∷ history) telling rise among some = untold-came g history telling rise among some
untold-came g (TakesUp round (Resets epoch version) ∷ history) telling rise among some =
    elim (cases_Bool (restarts history epoch)) [
      | inl new ↦ absurd (rw new at among)
      | inr old ↦ untold-came g history telling rise (rw old at among) some
    ]
untold-came g (MakesDown round told ∷ history) telling rise among some =
    let sent = numbers g history in
    let later = λ (before : Among telling (untold g history)).
    (let came = untold-came g history telling rise.1 before some in
    let begun = came.1 in
    let above = rise.0 in
    let both : (issued g (MakesDown round told ∷ history) (telling.batch + 2 * g) ≡ None) × (telling.batch + 2 * g < round + 1) =
    (issued-later g (MakesDown round told) history (telling.batch + 2 * g) rise begun ∙ came.0, omega arith) in both) in
    elim (cases_Bool (nat_lt 0 (epoch_of history) && not (may_send history sent))) [
      | inr told_it ↦ later (rw told_it at among)
      | inl stopped ↦
          elim (rw stopped at among) [
            | inr before ↦ later before
            | inl same ↦
                let in_round : (telling_in g history round told).batch + 2 * g ≡ round =
                telling-batch g history round told (subst (λ (t : Telling). t.told ≢ []) (sym same) some) in
                let batch = ap (λ (t : Telling). t.batch) same in
                let parts = and_parts (nat_lt 0 (epoch_of history)) (not (may_send history sent)) stopped in (
                  cond-true (round == telling.batch + 2 * g) _ _ (eq-eqb round (telling.batch + 2 * g) (omega arith))
                      ∙ cond-false (nat_lt 0 (epoch_of history) && may_send history sent) _ None (none (nat_lt 0 (epoch_of history)) (may_send history sent) parts.1),
                  omega arith,
                )
          ]
    ]
  where
    none : (a b : Bool) → not b ≡ true → a && b ≡ false
    none true true h = absurd (cc)
    none true false h = refl
    none false b h = refl

-- ---- what the agent is promised

pub each_telling_was_issued : (w : Windows) → EachTellingWasIssued
each_telling_was_issued w g history packet rise made some = let came = packet-came w g history packet rise made some in (came.issue, came.begun)

pub comes_after_two_windows : (w : Windows) → ComesAfterTwoWindows
comes_after_two_windows w g steps round packet rise made begun some =
    let came = (packet-came w g (lane_of steps) packet rise made some).begun in
    omega arith

pub one_number_for_a_batch : (w : Windows) → OneNumberForABatch
one_number_for_a_batch w g history one other rise made_one made_other some_one some_other same =
    let a = (packet-came w g history one rise made_one some_one).issue in
    let b = (packet-came w g history other rise made_other some_other).issue in
    let joined : Some (record { epoch = one.epoch; number = one.seq; content = one.content }) ≡ Some (record { epoch = other.epoch; number = other.seq; content = other.content }) =
    sym a ∙ ap (λ n. issued g history (n + 2 * g)) same ∙ b in
    let issues : record { epoch = one.epoch; number = one.seq; content = one.content } ≡ record { epoch = other.epoch; number = other.seq; content = other.content } = cc in
    (ap (λ (i : Issue). i.epoch) issues, ap (λ (i : Issue). i.number) issues, ap (λ (i : Issue). i.content) issues)
