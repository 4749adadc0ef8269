-- What an acknowledgement decides of the numbers that are open.
use Rattle.std.proofs.Common.{◌≡◌, ℕ, ◌+◌, Bool, true, false, cond, List, [], ◌∷◌, All, Option, Some, None, ap, sym, refl, arith}
use Rattle.std.specs.Prelude.{sum_by}
use Rattle.std.specs.List.{cons_option}
use Rattle.std.specs.Option.{option_map}
use Rattle.std.proofs.lemmas.List.Elements.{All-nil, All-cons, All-head, All-tail, All-same}
use Rattle.std.proofs.lemmas.List.Sums.{sum_by-cons}
use Rattle.ack_window.specs.declared.acknowledgement.Acknowledgement.{Acknowledgement}
use Rattle.ack_window.specs.declared.acknowledgement.Decision.{Decision}
use Rattle.ack_window.specs.declared.send_window.Decided.{Decided}
use Rattle.ack_window.specs.declared.send_window.Unresolved.{Unresolved}
use Rattle.ack_window.specs.Acknowledgement.{is_lost, decision_read}
use Rattle.ack_window.specs.Outstanding.{decided_in}
use Rattle.ack_window.specs.Sends.{Event, newest_of, open_numbers, decided_by}
use Rattle.ack_window.specs.Versions.{reorder_of, span_of}
use Rattle.ack_window.specs.Weights.{AReadingMovesWhatItDecides}
use Rattle.ack_window.specs.Windows.{Sender, HasDone}
use Rattle.endpoint_history.specs.Packets.{Telling, slots_to}
use Rattle.arbiter_lane.specs.declared.line.LaneLine.{LaneLine}
use Rattle.arbiter_lane.specs.State.{AreInFlight, unresolved_to}
use Rattle.arbiter_lane.specs.Lines.{slots_shown, slots_lost}

-- what is true of the contents of open numbers is true of those that are decided
decided-next : (P : Telling → Type 0) (s : Unresolved Telling) (rest : List (Decided Telling)) (o : Option Decision) → P s.content → All (λ (d : Decided Telling). P d.content) rest →
    All (λ (d : Decided Telling). P d.content) (cons_option (option_map (λ d. record { number = s.number; lost = is_lost d; content = s.content }) o) rest)
decided-next P s rest None here all = all
decided-next P s rest (Some d) here all = All-cons (λ (d : Decided Telling). P d.content) (record { number = s.number; lost = is_lost d; content = s.content }) rest here all

decided_in-all : (P : Telling → Type 0) (decision : ℕ → Option Decision) (sent : List (Unresolved Telling)) → All (λ (s : Unresolved Telling). P s.content) sent →
    All (λ (d : Decided Telling). P d.content) (decided_in decision sent)
decided_in-all P decision [] all = All-nil (λ (d : Decided Telling). P d.content)
decided_in-all P decision (s ∷ sent) all =
    decided-next P s (decided_in decision sent) (decision s.number) (All-head (λ (s : Unresolved Telling). P s.content) s sent all)
    (decided_in-all P decision sent (All-tail (λ (s : Unresolved Telling). P s.content) s sent all))

pub decided-all : (P : Telling → Type 0) (sent : Sender Telling) (events : List (Event Telling)) (ack : Acknowledgement) (found : List (Decided Telling)) → HasDone sent events →
    found ≡ decided_by (reorder_of sent.version) (span_of sent.version) events ack → All (λ (s : Unresolved Telling). P s.content) sent.outstanding.unresolved → All (λ (d : Decided Telling). P d.content) found
decided-all P sent events ack found done is all =
    let decided = decided_by (reorder_of sent.version) (span_of sent.version) events ack in
    All-same (λ (d : Decided Telling). P d.content) found decided is
    (decided_in-all P (decision_read (reorder_of sent.version) (span_of sent.version) (newest_of events) ack) (open_numbers (reorder_of sent.version) (span_of sent.version) events)
    (All-same (λ (s : Unresolved Telling). P s.content) (open_numbers (reorder_of sent.version) (span_of sent.version) events) sent.outstanding.unresolved (sym done.unresolved) all))

-- each number that is decided is shown or lost
shown_or_lost : (found : List (Decided Telling)) (dst : ℕ) → slots_shown found dst + slots_lost found dst ≡ sum_by (λ (d : Decided Telling). slots_to dst d.content.told) found
shown_or_lost [] dst = refl
shown_or_lost (d ∷ found) dst =
    let shown = sum_by-cons (λ (d : Decided Telling). cond {A = ℕ} d.lost 0 (slots_to dst d.content.told)) d found in
    let lost = sum_by-cons (λ (d : Decided Telling). cond {A = ℕ} d.lost (slots_to dst d.content.told) 0) d found in
    let all = sum_by-cons (λ (d : Decided Telling). slots_to dst d.content.told) d found in
    let one = either d.lost (slots_to dst d.content.told) in
    let rest = shown_or_lost found dst in
    omega (arith, shown, lost, all, one, rest)
  where
    either : (b : Bool) (n : ℕ) → cond {A = ℕ} b 0 n + cond {A = ℕ} b n 0 ≡ n
    either true n = omega arith
    either false n = omega arith

-- what is decided was in flight
pub decided-in_flight : (law : AReadingMovesWhatItDecides Telling) (sent : Sender Telling) (events : List (Event Telling)) (ack : Acknowledgement) (found : List (Decided Telling)) (lines : List LaneLine) → HasDone sent events →
    found ≡ decided_by (reorder_of sent.version) (span_of sent.version) events ack → AreInFlight (λ dst. unresolved_to dst sent) lines → AreInFlight (λ dst. slots_shown found dst + slots_lost found dst) lines
decided-in_flight law sent events ack found lines done is held dst line here =
    let decided = decided_by (reorder_of sent.version) (span_of sent.version) events ack in
    let moved = law.waiting (λ (t : Telling). slots_to dst t.told) (reorder_of sent.version) (span_of sent.version) events ack in
    let opened : unresolved_to dst sent ≡ sum_by (λ (s : Unresolved Telling). slots_to dst s.content.told) (open_numbers (reorder_of sent.version) (span_of sent.version) events) =
    ap (sum_by (λ (s : Unresolved Telling). slots_to dst s.content.told)) done.unresolved in
    let same : sum_by (λ (d : Decided Telling). slots_to dst d.content.told) found ≡ sum_by (λ (d : Decided Telling). slots_to dst d.content.told) decided = ap (sum_by (λ (d : Decided Telling). slots_to dst d.content.told)) is in
    omega (arith, shown_or_lost found dst, same, moved, opened, held dst line here)

-- and so are those of one that is decided alone
pub one-in_flight : (d : Decided Telling) (lines : List LaneLine) → AreInFlight (λ dst. slots_shown (d ∷ []) dst + slots_lost (d ∷ []) dst) lines → AreInFlight (λ dst. slots_to dst d.content.told) lines
one-in_flight d lines held dst line here =
    let none : sum_by (λ (e : Decided Telling). slots_to dst e.content.told) [] ≡ 0 = refl in
    omega (arith, held dst line here, shown_or_lost (d ∷ []) dst, sum_by-cons (λ (e : Decided Telling). slots_to dst e.content.told) d [], none)
