-- What lies at the places of numbers is carried along by a sender's steps.
use Rattle.std.proofs.Common.{◌≡◌, ◌≢◌, ℕ, zero, suc, ◌+◌, ◌<◌, ◌≤◌, Bool, true, false, cond, List, [], ◌∷◌, ◌++◌, length, map, get_or, All, Option, Some, None, is_none, sym, ◌∙◌, ap, subst, refl, arith}
use Rattle.std.specs.List.{cons_option}
use Rattle.std.specs.Option.{option_map}
use Rattle.std.proofs.lemmas.List.{get_or-set_same, get_or-set_other, map-append}
use Rattle.std.proofs.lemmas.List.Elements.{All-head, All-tail}
use Rattle.ack_window.specs.declared.acknowledgement.Acknowledgement.{Acknowledgement}
use Rattle.ack_window.specs.declared.acknowledgement.Decision.{Decision}
use Rattle.ack_window.specs.declared.send_window.Decided.{Decided}
use Rattle.ack_window.specs.declared.send_window.Unresolved.{Unresolved}
use Rattle.ack_window.specs.Acknowledgement.{is_lost, decision_read}
use Rattle.ack_window.specs.Kept.{last_number}
use Rattle.ack_window.specs.Outstanding.{may_send_new, decided_in, left_in}
use Rattle.ack_window.specs.Sends.{Event, Sends, Reads, newest_content, decided_by}
use Rattle.ack_window.specs.Steps.{after_sending, after_reading, decided_for, SendersGoOnByStep}
use Rattle.ack_window.specs.Versions.{reorder_of, span_of}
use Rattle.ack_window.specs.Windows.{Sender, HasDone, MaySend}
use Rattle.endpoint_history.specs.Packets.{Telling}
use Rattle.arbiter_lane.specs.Places.{TellingPlaces, table_place, telling_at, with_telling, unresolved_with, decided_with, with_contents}

-- ---- numbers alone decide

left-with : (places : TellingPlaces) (decision : ℕ → Option Decision) (xs : List (Unresolved (Unit {0}))) → left_in decision (map (unresolved_with places) xs) ≡ map (unresolved_with places) (left_in decision xs)
left-with places decision [] = refl
left-with places decision (s ∷ xs) =
    rw (left-with places decision xs) (one (is_none (decision s.number)))
  where
    one : (b : Bool) → cond b (unresolved_with places s ∷ map (unresolved_with places) (left_in decision xs)) (map (unresolved_with places) (left_in decision xs)) ≡ map (unresolved_with places) (cond b (s ∷ left_in decision xs) (left_in decision xs))
    one true = refl
    one false = refl

decided-with : (places : TellingPlaces) (decision : ℕ → Option Decision) (xs : List (Unresolved (Unit {0}))) → decided_in decision (map (unresolved_with places) xs) ≡ map (decided_with places) (decided_in decision xs)
decided-with places decision [] = refl
decided-with places decision (s ∷ xs) =
    rw (decided-with places decision xs) (one (decision s.number))
  where
    one : (o : Option Decision) →
        cons_option (option_map (λ d. record { number = s.number; lost = is_lost d; content = telling_at places s.number }) o) (map (decided_with places) (decided_in decision xs))
        ≡ map (decided_with places) (cons_option (option_map (λ d. record { number = s.number; lost = is_lost d; content = s.content }) o) (decided_in decision xs))
    one None = refl
    one (Some d) = refl

pub reading-with : (places : TellingPlaces) (sent : Sender (Unit {0})) (ack : Acknowledgement) → with_contents places (after_reading sent ack) ≡ after_reading (with_contents places sent) ack
reading-with places sent ack =
    ap {A = List (Unresolved Telling)} (λ xs. record { version = sent.version; outstanding = record { newest = sent.outstanding.newest; unresolved = xs } })
    (sym (left-with places (decision_read (reorder_of sent.version) (span_of sent.version) sent.outstanding.newest ack) sent.outstanding.unresolved))

pub found-with : (places : TellingPlaces) (sent : Sender (Unit {0})) (ack : Acknowledgement) → decided_for (with_contents places sent) ack ≡ map (decided_with places) (decided_for sent ack)
found-with places sent ack = decided-with places (decision_read (reorder_of sent.version) (span_of sent.version) sent.outstanding.newest ack) sent.outstanding.unresolved

-- ---- a new number

-- two numbers that are less than 129 apart have different places
places-differ : (first older number : ℕ) → older < number → number ≤ older + 128 → table_place first older ≢ table_place first number
places-differ first older number below near same = omega (arith, below, near, same)

-- what is written at a place is what lies there, and elsewhere nothing changes
telling-written : (places : TellingPlaces) (number : ℕ) (new : Telling) → length places.tellings ≡ 129 → telling_at (with_telling places number new) number ≡ new
telling-written places number new long = get_or-set_same places.tellings (table_place places.first number) new _ (omega (arith, long))

telling-kept : (places : TellingPlaces) (older number : ℕ) (new : Telling) → older < number → number ≤ older + 128 → telling_at (with_telling places number new) older ≡ telling_at places older
telling-kept places older number new below near = get_or-set_other places.tellings (table_place places.first number) (table_place places.first older) new _ (places-differ places.first older number below near)

kept-with : (places : TellingPlaces) (number : ℕ) (new : Telling) (xs : List (Unresolved (Unit {0}))) → All (λ s. (s.number < number) × (number ≤ s.number + 128)) xs →
    map (unresolved_with (with_telling places number new)) xs ≡ map (unresolved_with places) xs
kept-with places number new [] near = refl
kept-with places number new (s ∷ xs) near =
    let here = All-head (λ (s : Unresolved (Unit {0})). (s.number < number) × (number ≤ s.number + 128)) s xs near in
    let rest = kept-with places number new xs (All-tail (λ (s : Unresolved (Unit {0})). (s.number < number) × (number ≤ s.number + 128)) s xs near) in
    rw (telling-kept places s.number number new here.0 here.1, rest) refl

pushed-with : (places : TellingPlaces) (number : ℕ) (new : Telling) (xs : List (Unresolved (Unit {0}))) → length places.tellings ≡ 129 → All (λ s. (s.number < number) × (number ≤ s.number + 128)) xs →
    map (unresolved_with (with_telling places number new)) (xs ++ record { number = number; content = tt } ∷ []) ≡ map (unresolved_with places) xs ++ record { number = number; content = new } ∷ []
pushed-with places number new xs long near =
    map-append (unresolved_with (with_telling places number new)) xs (_ ∷ [])
    ∙ (ap (λ ys. ys ++ unresolved_with (with_telling places number new) (record { number = number; content = tt }) ∷ []) (kept-with places number new xs near)
    ∙ ap (λ (t : Telling). map (unresolved_with places) xs ++ record { number = number; content = t } ∷ []) (telling-written places number new long))

pub sending-with : (places : TellingPlaces) (sent : Sender (Unit {0})) (new : Telling) → length places.tellings ≡ 129 →
    All (λ s. (s.number < sent.outstanding.newest + 1) × (sent.outstanding.newest + 1 ≤ s.number + 128)) sent.outstanding.unresolved →
    with_contents (with_telling places (sent.outstanding.newest + 1) new) (after_sending sent tt) ≡ after_sending (with_contents places sent) new
sending-with places sent new long near =
    ap {A = List (Unresolved Telling)} (λ xs. record { version = sent.version; outstanding = record { newest = sent.outstanding.newest + 1; unresolved = xs } })
    (pushed-with places (sent.outstanding.newest + 1) new sent.outstanding.unresolved long near)

-- where no number is unresolved, which place is the first doesn't matter
pub begun-with : (settled : Bool) (places begun : TellingPlaces) (sent : Sender (Unit {0})) → (settled ≡ false → begun ≡ places) → (settled ≡ true → sent.outstanding.unresolved ≡ []) → with_contents begun sent ≡ with_contents places sent
begun-with true places begun sent same none =
    ap {A = List (Unresolved Telling)} (λ xs. record { version = sent.version; outstanding = record { newest = sent.outstanding.newest; unresolved = xs } })
    (ap (map (unresolved_with begun)) (none refl) ∙ sym (ap (map (unresolved_with places)) (none refl)))
begun-with false places begun sent same none = ap (λ (p : TellingPlaces). with_contents p sent) (same refl)

pub may-with : (places : TellingPlaces) (sent : Sender (Unit {0})) → may_send_new (span_of sent.version) sent.outstanding.newest (map (unresolved_with places) sent.outstanding.unresolved) ≡ may_send_new (span_of sent.version) sent.outstanding.newest sent.outstanding.unresolved
may-with places sent = first (span_of sent.version) sent.outstanding.newest sent.outstanding.unresolved
  where
    first : (span newest : ℕ) (xs : List (Unresolved (Unit {0}))) → may_send_new span newest (map (unresolved_with places) xs) ≡ may_send_new span newest xs
    first span newest [] = refl
    first span newest (s ∷ xs) = refl

-- ---- the newest number

-- where the last number is the newest, its content is what lies at its place
last-with : (places : TellingPlaces) (newest : ℕ) (P : Telling → Type 0) (xs : List (Unresolved (Unit {0}))) → 1 ≤ length xs → last_number xs ≡ newest →
    All (λ (s : Unresolved Telling). s.number ≡ newest → P s.content) (map (unresolved_with places) xs) → P (telling_at places newest)
last-with places newest P [] some last all = absurd (omega (arith, some))
last-with places newest P (s ∷ []) some last all =
    subst (λ n. P (telling_at places n)) last (All-head (λ (s : Unresolved Telling). s.number ≡ newest → P s.content) (unresolved_with places s) [] all last)
last-with places newest P (s ∷ t ∷ xs) some last all =
    last-with places newest P (t ∷ xs) (omega arith) last (All-tail (λ (s : Unresolved Telling). s.number ≡ newest → P s.content) (unresolved_with places s) (map (unresolved_with places) (t ∷ xs)) all)

some-open : (span newest : ℕ) (xs : List (Unresolved (Unit {0}))) → (may_send_new span newest xs ≡ true → ⊥) → 1 ≤ length xs
some-open span newest [] full = absurd (full refl)
some-open span newest (s ∷ xs) full = omega arith

pub newest-with : (law : SendersGoOnByStep Telling) (places : TellingPlaces) (sent : Sender (Unit {0})) (history : List (Event Telling)) → (MaySend (with_contents places sent) → ⊥) → last_number sent.outstanding.unresolved ≡ sent.outstanding.newest →
    HasDone (with_contents places sent) history → newest_content history ≡ Some (telling_at places sent.outstanding.newest)
newest-with law places sent history full last done =
    last-with places sent.outstanding.newest (λ t. newest_content history ≡ Some t) sent.outstanding.unresolved
    (some-open (span_of sent.version) sent.outstanding.newest sent.outstanding.unresolved (λ may. full (may-with places sent ∙ may))) last (law.newest (with_contents places sent) history done)

pub goes-on-told : (law : SendersGoOnByStep Telling) (places written : TellingPlaces) (sent now : Sender (Unit {0})) (number : ℕ) (new : Telling) (history : List (Event Telling)) → length places.tellings ≡ 129 →
    number ≡ sent.outstanding.newest + 1 → now ≡ after_sending sent tt → written ≡ with_telling places number new → All (λ s. (s.number < number) × (number ≤ s.number + 128)) sent.outstanding.unresolved →
    MaySend (with_contents places sent) → HasDone (with_contents places sent) history → HasDone (with_contents written now) (Sends new ∷ history)
goes-on-told law places written sent now number new history long is_number is_now is_written near may done =
    let next = sent.outstanding.newest + 1 in
    let near' : All (λ (s : Unresolved (Unit {0})). (s.number < next) × (next ≤ s.number + 128)) sent.outstanding.unresolved =
    subst (λ n. All (λ (s : Unresolved (Unit {0})). (s.number < n) × (n ≤ s.number + 128)) sent.outstanding.unresolved) is_number near in
    let same : with_contents written now ≡ after_sending (with_contents places sent) new =
    ap (λ xs. with_contents xs now) (is_written ∙ ap (λ n. with_telling places n new) is_number)
    ∙ (ap (with_contents (with_telling places next new)) is_now ∙ sending-with places sent new long near') in
    subst (λ (w : Sender Telling). HasDone w (Sends new ∷ history)) (sym same) (law.sends (with_contents places sent) new history done may)

pub goes-on-read : (law : SendersGoOnByStep Telling) (places : TellingPlaces) (sent now : Sender (Unit {0})) (ack : Acknowledgement) (history : List (Event Telling)) → now ≡ after_reading sent ack →
    HasDone (with_contents places sent) history → HasDone (with_contents places now) (Reads ack ∷ history)
goes-on-read law places sent now ack history is_now done =
    subst (λ (w : Sender Telling). HasDone w (Reads ack ∷ history)) (sym (ap (with_contents places) is_now ∙ reading-with places sent ack)) (law.reads (with_contents places sent) ack history done)

-- what is found is what the history says that it decides
pub found-is : (law : SendersGoOnByStep Telling) (places : TellingPlaces) (sent : Sender (Unit {0})) (ack : Acknowledgement) (found : List (Decided (Unit {0}))) (history : List (Event Telling)) → found ≡ decided_for sent ack →
    HasDone (with_contents places sent) history → map (decided_with places) found ≡ decided_by (reorder_of sent.version) (span_of sent.version) history ack
found-is law places sent ack found history is done =
    ap (map (decided_with places)) is ∙ (sym (found-with places sent ack) ∙ sym (law.decided (with_contents places sent) ack history done))

-- ---- a number that is decided

-- of the numbers that are decided, the one at a place
pub decided-at : (places : TellingPlaces) (found : List (Decided (Unit {0}))) (at : ℕ) (other : Decided (Unit {0})) → get_or (map (decided_with places) found) at (decided_with places other) ≡ decided_with places (get_or found at other)
decided-at places [] at other = refl
decided-at places (d ∷ found) zero other = refl
decided-at places (d ∷ found) (suc at) other = decided-at places found at other

pub as_many : (places : TellingPlaces) (found : List (Decided (Unit {0}))) → length (map (decided_with places) found) ≡ length found
as_many places [] = refl
as_many places (d ∷ found) = ap suc (as_many places found)
