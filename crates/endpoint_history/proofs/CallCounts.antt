-- What each call changes of a lane's counts.
use Rattle.std.proofs.Common.{◌≡◌, ℕ, ◌+◌, ◌<◌, Bool, true, false, ◌&&◌, cond, nat_lt, List, ◌∷◌, Option, None, ◌∙◌, ap, refl, inl, inr, arith}
use Rattle.std.proofs.lemmas.Bool.{cases_Bool, cases_lt, lt-ltb, le-ltb, ne_eqb}
use Rattle.std.proofs.lemmas.List.Sums.{sum_by-cons}
use Rattle.ack_window.specs.declared.acknowledgement.Acknowledgement.{Acknowledgement}
use Rattle.ack_window.specs.declared.acknowledgement.Decision.{Decision}
use Rattle.ack_window.specs.Acknowledgement.{decision_read, is_acknowledged, is_found_lost}
use Rattle.ack_window.specs.Ends.{Numbered}
use Rattle.ack_window.specs.Sends.{newest_of, decision_of, decided_by}
use Rattle.ack_window.specs.Versions.{reorder_of, span_of}
use Rattle.ack_window.specs.Weights.{weight_lost, weight_shown}
use Rattle.ack_window.proofs.Sending.{decision_of-above}
use Rattle.fcp_framing.specs.declared.packet.Demand.{Demand}
use Rattle.fcp_framing.specs.declared.packet.Told.{Told}
use Rattle.endpoint_history.specs.Packets.{Telling, Resets, Requests, slots_to}
use Rattle.endpoint_history.specs.Lane.{LaneHistory, MakesDown, TakesUp, epoch_of, version_of, restarts, is_current, takes, telling_in, may_send, numbers, untold}
use Rattle.endpoint_history.specs.Counts.{recorded, slots_in, decides, acknowledged, slots_untold, lost, told}
use Rattle.endpoint_history.specs.BothEnds.{End}
use Rattle.endpoint_history.specs.CountLaws.{telling_to, MakingTells, ReadingDecides, ResetsCountAnew}
use Rattle.endpoint_history.specs.Windows.{Windows}
use Rattle.endpoint_history.proofs.LaneEnd.{end-stays}
use Rattle.endpoint_history.proofs.SlotSums.{to, slots_in-reads, slots_in-sends}

-- ---- a number that is not sent yet is not decided

pub read-above : (reorder span newest : ℕ) (ack : Acknowledgement) (number : ℕ) → newest < number → decision_read reorder span newest ack number ≡ None
read-above reorder span newest ack number above =
    elim (cases_lt newest ack.high) [
      | inl past ↦ rw (lt-ltb newest ack.high past) refl
      | inr known ↦ rw (le-ltb newest ack.high known, ne_eqb number ack.high (omega arith), le-ltb number ack.high (omega arith), le-ltb (number + reorder) ack.high (omega arith)) refl
    ]

-- ---- a downward packet is made

-- the slots in numbers of whose decisions a test holds
abbrev decided_to : (Option Decision → Bool) → ℕ → LaneHistory → ℕ → ℕ
decided_to test g history dst = slots_in (decides test history (numbers g history)) (numbers g history) dst

decided-makes : (w : Windows) (test : Option Decision → Bool) → test None ≡ false → (g round : ℕ) (slots : List Told) (history : LaneHistory) (dst : ℕ) →
    decided_to test g (MakesDown round slots ∷ history) dst ≡ decided_to test g history dst
decided-makes w test none_yet g round slots history dst =
    let sent = numbers g history in
    elim (cases_Bool (nat_lt 0 (epoch_of history) && may_send history sent)) [
      | inr again ↦ rw again (refl {a = slots_in (decides test history sent) sent dst})
      | inl new ↦
          let push = slots_in-sends w (decides test history sent) (telling_in g history round slots) sent dst in
          let none = ap (λ d. cond (test d) (telling_to g history round slots dst) 0) (decision_of-above (reorder_of (version_of history)) (span_of (version_of history)) sent (newest_of sent + 1) (omega arith))
          ∙ ap (λ b. cond b (telling_to g history round slots dst) 0) none_yet in
          rw new (omega arith)
    ]

untold-sent : (g round : ℕ) (slots : List Told) (history : LaneHistory) (dst : ℕ) → 0 < epoch_of history → may_send history (numbers g history) ≡ true →
    slots_untold g (MakesDown round slots ∷ history) dst ≡ slots_untold g history dst
untold-sent g round slots history dst begun new = rw (lt-ltb 0 (epoch_of history) begun, new) refl

untold-untold : (g round : ℕ) (slots : List Told) (history : LaneHistory) (dst : ℕ) → 0 < epoch_of history → may_send history (numbers g history) ≡ false →
    slots_untold g (MakesDown round slots ∷ history) dst ≡ slots_untold g history dst + telling_to g history round slots dst
untold-untold g round slots history dst begun stopped =
    let push = sum_by-cons (λ (t : Telling). slots_to dst t.told) (telling_in g history round slots) (untold g history) in
    rw (lt-ltb 0 (epoch_of history) begun, stopped) (omega arith)

untold-before : (g round : ℕ) (slots : List Told) (history : LaneHistory) (dst : ℕ) → epoch_of history ≡ 0 → slots_untold g (MakesDown round slots ∷ history) dst ≡ slots_untold g history dst
untold-before g round slots history dst none = rw (le-ltb 0 (epoch_of history) (omega arith)) refl

told-begun : (w : Windows) (g round : ℕ) (slots : List Told) (history : LaneHistory) (dst : ℕ) → 0 < epoch_of history →
    told g (MakesDown round slots ∷ history) dst ≡ told g history dst + telling_to g history round slots dst
told-begun w g round slots history dst begun =
    let sent = numbers g history in
    let push = slots_in-sends w (λ number. true) (telling_in g history round slots) sent dst in
    let more = sum_by-cons (λ (t : Telling). slots_to dst t.told) (telling_in g history round slots) (untold g history) in
    elim (cases_Bool (may_send history sent)) [
      | inl new ↦ rw (lt-ltb 0 (epoch_of history) begun, new) (omega arith)
      | inr stopped ↦ rw (lt-ltb 0 (epoch_of history) begun, stopped) (omega arith)
    ]

told-before : (g round : ℕ) (slots : List Told) (history : LaneHistory) (dst : ℕ) → epoch_of history ≡ 0 → told g (MakesDown round slots ∷ history) dst ≡ told g history dst
told-before g round slots history dst none = rw (le-ltb 0 (epoch_of history) (omega arith)) refl

pub making_tells : Windows → MakingTells
making_tells w = record {
  tells = λ g round slots history dst begun. told-begun w g round slots history dst begun;
  loses_none = λ g round slots history dst begun new. omega (arith, decided-makes w is_found_lost refl g round slots history dst, untold-sent g round slots history dst begun new);
  loses_all = λ g round slots history dst begun stopped. omega (arith, decided-makes w is_found_lost refl g round slots history dst, untold-untold g round slots history dst begun stopped);
  decides_none = λ g round slots history dst. decided-makes w is_acknowledged refl g round slots history dst;
  before = λ g round slots history dst none. (
    told-before g round slots history dst none,
    omega (arith, decided-makes w is_found_lost refl g round slots history dst, untold-before g round slots history dst none),
  );
}

-- ---- a request arrives

reads-acknowledged : (w : Windows) (g round : ℕ) (packet : Numbered (List Demand)) (history : LaneHistory) (dst : ℕ) → is_current history packet ≡ true →
    acknowledged g (TakesUp round (Requests packet) ∷ history) dst
    ≡ acknowledged g history dst + weight_shown (to dst) (decided_by (reorder_of (version_of history)) (span_of (version_of history)) (numbers g history) packet.ack)
unfolding slots_in
reads-acknowledged w g round packet history dst current = rw current (w.moved.shown (to dst) (reorder_of (version_of history)) (span_of (version_of history)) (numbers g history) packet.ack)

reads-lost : (w : Windows) (g round : ℕ) (packet : Numbered (List Demand)) (history : LaneHistory) (dst : ℕ) → is_current history packet ≡ true →
    decided_to is_found_lost g (TakesUp round (Requests packet) ∷ history) dst
    ≡ decided_to is_found_lost g history dst + weight_lost (to dst) (decided_by (reorder_of (version_of history)) (span_of (version_of history)) (numbers g history) packet.ack)
unfolding slots_in
reads-lost w g round packet history dst current = rw current (w.moved.lost (to dst) (reorder_of (version_of history)) (span_of (version_of history)) (numbers g history) packet.ack)

told-requests : (w : Windows) (g round : ℕ) (packet : Numbered (List Demand)) (history : LaneHistory) (dst : ℕ) → told g (TakesUp round (Requests packet) ∷ history) dst ≡ told g history dst
told-requests w g round packet history dst =
    elim (cases_Bool (is_current history packet)) [
      | inl current ↦ rw current (ap (λ n. n + slots_untold g history dst) (slots_in-reads w (λ number. true) packet.ack (numbers g history) dst))
      | inr other ↦ rw other refl
    ]

pub not-taken : (history : LaneHistory) (packet : Numbered (List Demand)) → is_current history packet ≡ false → takes history packet ≡ false
unfolding takes
not-taken history packet other = rw other refl

refused-decided : (test : Option Decision → Bool) (g round : ℕ) (packet : Numbered (List Demand)) (history : LaneHistory) (dst : ℕ) → is_current history packet ≡ false →
    decided_to test g (TakesUp round (Requests packet) ∷ history) dst ≡ decided_to test g history dst
refused-decided test g round packet history dst other = rw other refl

refused-recorded : (round : ℕ) (packet : Numbered (List Demand)) (history : LaneHistory) (dst : ℕ) → is_current history packet ≡ false → recorded (TakesUp round (Requests packet) ∷ history) dst ≡ recorded history dst
refused-recorded round packet history dst other = rw (not-taken history packet other) refl

pub reading_decides : Windows → ReadingDecides
reading_decides w = record {
  shows = λ g round packet history dst current. reads-acknowledged w g round packet history dst current;
  finds = λ g round packet history dst current. let more = reads-lost w g round packet history dst current in omega arith;
  tells_none = λ g round packet history dst. told-requests w g round packet history dst;
  refused = λ g round packet history dst other. (
    refused-decided is_acknowledged g round packet history dst other,
    ap (λ n. n + slots_untold g history dst) (refused-decided is_found_lost g round packet history dst other),
    refused-recorded round packet history dst other,
  );
}

-- ---- a reset arrives

old-decided : (test : Option Decision → Bool) (g round epoch version : ℕ) (history : LaneHistory) (dst : ℕ) → restarts history epoch ≡ false →
    decided_to test g (TakesUp round (Resets epoch version) ∷ history) dst ≡ decided_to test g history dst
old-decided test g round epoch version history dst old =
    ap (λ (e : End Telling). slots_in (λ n. test (decision_of (reorder_of e.version) (span_of e.version) e.sent n)) e.sent dst) (end-stays g round epoch version history old)

old-untold : (g round epoch version : ℕ) (history : LaneHistory) (dst : ℕ) → restarts history epoch ≡ false → slots_untold g (TakesUp round (Resets epoch version) ∷ history) dst ≡ slots_untold g history dst
old-untold g round epoch version history dst old = rw old refl

old-told : (g round epoch version : ℕ) (history : LaneHistory) (dst : ℕ) → restarts history epoch ≡ false → told g (TakesUp round (Resets epoch version) ∷ history) dst ≡ told g history dst
old-told g round epoch version history dst old = rw old refl

old-recorded : (round epoch version : ℕ) (history : LaneHistory) (dst : ℕ) → restarts history epoch ≡ false → recorded (TakesUp round (Resets epoch version) ∷ history) dst ≡ recorded history dst
old-recorded round epoch version history dst old = rw old refl

new-recorded : (round epoch version : ℕ) (history : LaneHistory) (dst : ℕ) → restarts history epoch ≡ true → recorded (TakesUp round (Resets epoch version) ∷ history) dst ≡ 0
new-recorded round epoch version history dst new = rw new refl

new-told : (g round epoch version : ℕ) (history : LaneHistory) (dst : ℕ) → restarts history epoch ≡ true → told g (TakesUp round (Resets epoch version) ∷ history) dst ≡ 0
unfolding slots_in
new-told g round epoch version history dst new = rw new refl

new-acknowledged : (g round epoch version : ℕ) (history : LaneHistory) (dst : ℕ) → restarts history epoch ≡ true → acknowledged g (TakesUp round (Resets epoch version) ∷ history) dst ≡ 0
unfolding slots_in
new-acknowledged g round epoch version history dst new = rw new refl

new-lost : (g round epoch version : ℕ) (history : LaneHistory) (dst : ℕ) → restarts history epoch ≡ true → lost g (TakesUp round (Resets epoch version) ∷ history) dst ≡ 0
unfolding slots_in
new-lost g round epoch version history dst new = rw new refl

pub resets_count_anew : ResetsCountAnew
resets_count_anew = record {
  anew = λ g round epoch version history dst new.
      let none_recorded = new-recorded round epoch version history dst new in
      let none_lost = new-lost g round epoch version history dst new in
      (none_recorded, new-told g round epoch version history dst new, new-acknowledged g round epoch version history dst new, none_lost, omega arith);
  as_before = λ g round epoch version history dst old.
      let same_recorded = old-recorded round epoch version history dst old in
      let same_found = old-decided is_found_lost g round epoch version history dst old in
      let same_untold = old-untold g round epoch version history dst old in
      (same_recorded, old-told g round epoch version history dst old, old-decided is_acknowledged g round epoch version history dst old, omega arith, omega arith);
}
