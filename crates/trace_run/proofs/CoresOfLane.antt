-- The cores decide nothing of what a lane counts and records: its calls with the cores forgotten give the same.
use Rattle.std.proofs.Common.{◌≡◌, ℕ, ◌+◌, ◌-◌, ◌*◌, ◌==◌, not, ◌&&◌, max, nat_lt, Bool, true, false, cond, List, [], ◌∷◌, map, Option, Some, None, refl, sym, ap, ◌∙◌}
use Rattle.std.specs.Prelude.{nat_le, option_map, unwrap_or, sum_by, is_none}
use Rattle.std.proofs.Math.Path.{fun_ext}
use Rattle.std.proofs.lemmas.List.{map-append}
use Rattle.std.proofs.lemmas.List.Sums.{sum_by-cons}
use Rattle.ack_window.specs.declared.acknowledgement.Decision.{Decision}
use Rattle.ack_window.specs.declared.send_window.Unresolved.{Unresolved}
use Rattle.ack_window.specs.Acknowledgement.{is_acknowledged, is_found_lost}
use Rattle.ack_window.specs.Ends.{Numbered}
use Rattle.ack_window.specs.Outstanding.{may_send_new, left_in}
use Rattle.ack_window.specs.Sends.{Event, Sends, Reads, newest_of, newest_content, numbers_sent, decision_of, open_numbers}
use Rattle.ack_window.specs.Versions.{reorder_of, span_of}
use Rattle.fcp_framing.specs.declared.packet.Demand.{Demand}
use Rattle.fcp_framing.specs.declared.packet.Told.{Told}
use Rattle.endpoint_history.specs.Packets.{Telling, DownPacket, Resets, Requests, slots_to}
use Rattle.endpoint_history.specs.Lane.{LaneEvent, LaneHistory, MakesDown, TakesUp, Records, epoch_of, restarts, version_of, last_reset, is_current, arrived, takes, telling_in, may_send, numbers, untold, packet_down}
use Rattle.endpoint_history.specs.Counts.{recorded, slots_in, decides, acknowledged, slots_untold, lost, owed}
use Rattle.endpoint_history.specs.Entries.{counted_from, is_reset, added, had, next_entry}
use Rattle.trace_run.specs.Cores.{bare_slot, bare_telling, bare_down}

-- ---- calls without cores

abbrev bare_event : Event Telling → Event Telling
bare_event (Sends t) = Sends (bare_telling t)
bare_event (Reads ack) = Reads ack

abbrev bare_number : Unresolved Telling → Unresolved Telling
bare_number u = record u { content = bare_telling u.content }

abbrev pub bare_lane : LaneEvent → LaneEvent
bare_lane (MakesDown round told) = MakesDown round (map bare_slot told)
bare_lane (TakesUp round packet) = TakesUp round packet
bare_lane (Records round) = Records round

-- ---- maps

pub map-cond : {X Y : Type 0} (f : X → Y) (b : Bool) (xs ys : List X) → cond b (map f xs) (map f ys) ≡ map f (cond b xs ys)
map-cond f true xs ys = refl
map-cond f false xs ys = refl

pub sum-map : {X : Type 0} (f : X → X) (weight : X → ℕ) → ((x : X) → weight (f x) ≡ weight x) → (xs : List X) → sum_by weight (map f xs) ≡ sum_by weight xs
sum-map f weight same [] = refl
sum-map f weight same (x ∷ xs) = rw (sum_by-cons weight (f x) (map f xs), sum_by-cons weight x xs, same x, sum-map f weight same xs) refl

pub slots_to-bare : (dst : ℕ) (told : List Told) → slots_to dst (map bare_slot told) ≡ slots_to dst told
slots_to-bare dst told = sum-map bare_slot (λ (t : Told). cond (t.dst == dst) 1 0) (λ t. refl) told

-- ---- numbers

newest-bare : (sent : List (Event Telling)) → newest_of (map bare_event sent) ≡ newest_of sent
newest-bare [] = refl
newest-bare (Sends t ∷ sent) = ap (λ (n : ℕ). n + 1) (newest-bare sent)
newest-bare (Reads ack ∷ sent) = newest-bare sent

decision-bare : (reorder span : ℕ) (sent : List (Event Telling)) (number : ℕ) → decision_of reorder span (map bare_event sent) number ≡ decision_of reorder span sent number
decision-bare reorder span [] number = refl
decision-bare reorder span (Sends t ∷ sent) number = decision-bare reorder span sent number
decision-bare reorder span (Reads ack ∷ sent) number = rw (newest-bare sent, decision-bare reorder span sent number) refl

sent-bare : (sent : List (Event Telling)) → numbers_sent (map bare_event sent) ≡ map bare_number (numbers_sent sent)
sent-bare [] = refl
sent-bare (Reads ack ∷ sent) = sent-bare sent
sent-bare (Sends t ∷ sent) = rw (newest-bare sent, sent-bare sent) (sym (map-append bare_number (numbers_sent sent) (record { number = newest_of sent + 1; content = t } ∷ [])))

left-bare : (decision : ℕ → Option Decision) (us : List (Unresolved Telling)) → left_in decision (map bare_number us) ≡ map bare_number (left_in decision us)
left-bare decision [] = refl
left-bare decision (u ∷ us) = rw (left-bare decision us) (map-cond bare_number (is_none (decision u.number)) (u ∷ left_in decision us) (left_in decision us))

may-bare : (span newest : ℕ) (us : List (Unresolved Telling)) → may_send_new span newest (map bare_number us) ≡ may_send_new span newest us
may-bare span newest [] = refl
may-bare span newest (u ∷ us) = refl

open-bare : (reorder span : ℕ) (sent : List (Event Telling)) → open_numbers reorder span (map bare_event sent) ≡ map bare_number (open_numbers reorder span sent)
open-bare reorder span sent =
    ap (λ (decision : ℕ → Option Decision). left_in decision (numbers_sent (map bare_event sent))) (fun_ext (decision-bare reorder span sent))
    ∙ (ap (left_in (decision_of reorder span sent)) (sent-bare sent) ∙ left-bare (decision_of reorder span sent) (numbers_sent sent))

content-bare : (sent : List (Event Telling)) → newest_content (map bare_event sent) ≡ option_map bare_telling (newest_content sent)
content-bare [] = refl
content-bare (Sends t ∷ sent) = refl
content-bare (Reads ack ∷ sent) = content-bare sent

-- ---- what a lane takes

epoch-bare : (h : LaneHistory) → epoch_of (map bare_lane h) ≡ epoch_of h
epoch-bare [] = refl
epoch-bare (TakesUp round (Resets epoch version) ∷ h) = ap (max epoch) (epoch-bare h)
epoch-bare (_ ∷ h) = epoch-bare h

version-bare : (h : LaneHistory) → version_of (map bare_lane h) ≡ version_of h
version-bare [] = refl
version-bare (TakesUp round (Resets epoch version) ∷ h) = rw (epoch-bare h, version-bare h) refl
version-bare (_ ∷ h) = version-bare h

pub reset-bare : (h : LaneHistory) → last_reset (map bare_lane h) ≡ last_reset h
reset-bare [] = refl
reset-bare (TakesUp round (Resets epoch version) ∷ h) = rw (epoch-bare h, reset-bare h) refl
reset-bare (_ ∷ h) = reset-bare h

current-bare : (h : LaneHistory) (p : Numbered (List Demand)) → is_current (map bare_lane h) p ≡ is_current h p
unfolding is_current
current-bare h p = rw (epoch-bare h, version-bare h) refl

arrived-bare : (h : LaneHistory) → arrived (map bare_lane h) ≡ arrived h
arrived-bare [] = refl
arrived-bare (TakesUp round (Resets epoch version) ∷ h) = rw (epoch-bare h, arrived-bare h) refl
arrived-bare (TakesUp round (Requests packet) ∷ h) = rw (current-bare h packet, arrived-bare h) refl
arrived-bare (_ ∷ h) = arrived-bare h

takes-bare : (h : LaneHistory) (p : Numbered (List Demand)) → takes (map bare_lane h) p ≡ takes h p
unfolding takes
takes-bare h p = rw (current-bare h p, version-bare h, arrived-bare h) refl

pub recorded-bare : (h : LaneHistory) (dst : ℕ) → recorded (map bare_lane h) dst ≡ recorded h dst
recorded-bare [] dst = refl
recorded-bare (TakesUp round (Resets epoch version) ∷ h) dst = rw (epoch-bare h, recorded-bare h dst) refl
recorded-bare (TakesUp round (Requests packet) ∷ h) dst = rw (takes-bare h packet, recorded-bare h dst) refl
recorded-bare (_ ∷ h) dst = recorded-bare h dst

-- ---- what it tells

telling-bare : (g : ℕ) (h : LaneHistory) (round : ℕ) (told : List Told) → telling_in g (map bare_lane h) round (map bare_slot told) ≡ bare_telling (telling_in g h round told)
telling-bare g h round told =
    rw (reset-bare h) (ap (λ (ts : List Told). record { batch = round - 2 * g; told = ts }) (map-cond bare_slot (nat_le (2 * g) round && nat_le (last_reset h) (round - 2 * g)) told []))

may_send-bare : (h : LaneHistory) (sent : List (Event Telling)) → may_send (map bare_lane h) (map bare_event sent) ≡ may_send h sent
unfolding may_send
may_send-bare h sent =
    rw (version-bare h, newest-bare sent, open-bare (reorder_of (version_of h)) (span_of (version_of h)) sent)
    (may-bare (span_of (version_of h)) (newest_of sent) (open_numbers (reorder_of (version_of h)) (span_of (version_of h)) sent))

numbers-bare : (g : ℕ) (h : LaneHistory) → numbers g (map bare_lane h) ≡ map bare_event (numbers g h)
numbers-bare g [] = refl
numbers-bare g (Records round ∷ h) = numbers-bare g h
numbers-bare g (TakesUp round (Resets epoch version) ∷ h) = rw (epoch-bare h, numbers-bare g h) (map-cond bare_event (restarts h epoch) [] (numbers g h))
numbers-bare g (TakesUp round (Requests packet) ∷ h) =
    rw (current-bare h packet, numbers-bare g h) (map-cond bare_event (is_current h packet) (Reads packet.ack ∷ numbers g h) (numbers g h))
numbers-bare g (MakesDown round told ∷ h) =
    rw (epoch-bare h, numbers-bare g h, may_send-bare h (numbers g h), telling-bare g h round told)
    (map-cond bare_event (nat_lt 0 (epoch_of h) && may_send h (numbers g h)) (Sends (telling_in g h round told) ∷ numbers g h) (numbers g h))

untold-bare : (g : ℕ) (h : LaneHistory) → untold g (map bare_lane h) ≡ map bare_telling (untold g h)
untold-bare g [] = refl
untold-bare g (TakesUp round (Resets epoch version) ∷ h) = rw (epoch-bare h, untold-bare g h) (map-cond bare_telling (restarts h epoch) [] (untold g h))
untold-bare g (MakesDown round told ∷ h) =
    rw (epoch-bare h, numbers-bare g h, may_send-bare h (numbers g h), telling-bare g h round told, untold-bare g h)
    (map-cond bare_telling (nat_lt 0 (epoch_of h) && not (may_send h (numbers g h))) (telling_in g h round told ∷ untold g h) (untold g h))
untold-bare g (_ ∷ h) = untold-bare g h

-- it makes the same packets, but for the cores
pub packet_down-bare : (g : ℕ) (h : LaneHistory) (round : ℕ) (told : List Told) → packet_down g (map bare_lane h) round (map bare_slot told) ≡ option_map bare_down (packet_down g h round told)
unfolding packet_down
packet_down-bare g h round told =
    let sent : List (Event Telling) = numbers g (MakesDown round told ∷ h) in
    rw (numbers-bare g (MakesDown round told ∷ h), epoch-bare h, version-bare h, arrived-bare h, newest-bare sent, content-bare sent, inside (newest_content sent)) (some_if (nat_lt 0 (epoch_of h)) _)
  where
    inside : (o : Option Telling) → unwrap_or (option_map bare_telling o) (record { batch = 0; told = [] }) ≡ bare_telling (unwrap_or o (record { batch = 0; told = [] }))
    inside None = refl
    inside (Some t) = refl

    some_if : (b : Bool) (p : DownPacket) → cond b (Some (bare_down p)) None ≡ option_map bare_down (cond b (Some p) None)
    some_if true p = refl
    some_if false p = refl

-- ---- what it counts

slots_in-bare : (test : ℕ → Bool) (sent : List (Event Telling)) (dst : ℕ) → slots_in test (map bare_event sent) dst ≡ slots_in test sent dst
unfolding slots_in
slots_in-bare test sent dst =
    let weight : Unresolved Telling → ℕ = λ u. cond (test u.number) (slots_to dst u.content.told) 0 in
    rw (sent-bare sent) (sum-map bare_number weight (λ u. rw (slots_to-bare dst u.content.told) refl) (numbers_sent sent))

decides-bare : (test : Option Decision → Bool) (h : LaneHistory) (sent : List (Event Telling)) → decides test (map bare_lane h) (map bare_event sent) ≡ decides test h sent
decides-bare test h sent = fun_ext (λ number. rw (version-bare h, decision-bare (reorder_of (version_of h)) (span_of (version_of h)) sent number) refl)

-- those in numbers of which this is decided
decided-bare : (test : Option Decision → Bool) (h : LaneHistory) (sent : List (Event Telling)) (dst : ℕ) →
    slots_in (decides test (map bare_lane h) (map bare_event sent)) (map bare_event sent) dst ≡ slots_in (decides test h sent) sent dst
decided-bare test h sent dst = ap (λ (of : ℕ → Bool). slots_in of (map bare_event sent) dst) (decides-bare test h sent) ∙ slots_in-bare (decides test h sent) sent dst

pub acknowledged-bare : (g : ℕ) (h : LaneHistory) (dst : ℕ) → acknowledged g (map bare_lane h) dst ≡ acknowledged g h dst
acknowledged-bare g h dst = rw (numbers-bare g h) (decided-bare is_acknowledged h (numbers g h) dst)

slots_untold-bare : (g : ℕ) (h : LaneHistory) (dst : ℕ) → slots_untold g (map bare_lane h) dst ≡ slots_untold g h dst
slots_untold-bare g h dst = rw (untold-bare g h) (sum-map bare_telling (λ (t : Telling). slots_to dst t.told) (λ t. slots_to-bare dst t.told) (untold g h))

pub lost-bare : (g : ℕ) (h : LaneHistory) (dst : ℕ) → lost g (map bare_lane h) dst ≡ lost g h dst
lost-bare g h dst = rw (numbers-bare g h, decided-bare is_found_lost h (numbers g h) dst, slots_untold-bare g h dst) refl

owed-bare : (g : ℕ) (h : LaneHistory) (dst : ℕ) → owed g (map bare_lane h) dst ≡ owed g h dst
owed-bare g h dst = rw (recorded-bare h dst, lost-bare g h dst) refl

-- ---- what it records

counted-bare : (h : LaneHistory) → counted_from (map bare_lane h) ≡ map bare_lane (counted_from h)
counted-bare [] = refl
counted-bare (Records round ∷ h) = refl
counted-bare (TakesUp round (Resets epoch version) ∷ h) =
    rw (epoch-bare h, counted-bare h) (map-cond bare_lane (restarts h epoch) (TakesUp round (Resets epoch version) ∷ h) (counted_from h))
counted-bare (_ ∷ h) = counted-bare h

added-bare : (g : ℕ) (h : LaneHistory) (dst : ℕ) → added g (map bare_lane h) dst ≡ added g h dst
added-bare g h dst = rw (owed-bare g h dst, counted-bare h, owed-bare g (counted_from h) dst) refl

is_reset-bare : (h : LaneHistory) → is_reset (map bare_lane h) ≡ is_reset h
is_reset-bare [] = refl
is_reset-bare (Records round ∷ h) = refl
is_reset-bare (TakesUp round (Resets epoch version) ∷ h) = rw (epoch-bare h, is_reset-bare h) refl
is_reset-bare (_ ∷ h) = is_reset-bare h

pub had-bare : (g : ℕ) (h : LaneHistory) (dst : ℕ) → had g (map bare_lane h) dst ≡ had g h dst
had-bare g [] dst = refl
had-bare g (Records round ∷ h) dst = rw (added-bare g h dst, had-bare g h dst) refl
had-bare g (_ ∷ h) dst = had-bare g h dst

pub entry-bare : (endpoint g : ℕ) (h : LaneHistory) (dst : ℕ) → next_entry endpoint g (map bare_lane h) dst ≡ next_entry endpoint g h dst
entry-bare endpoint g h dst = rw (had-bare g h dst, is_reset-bare h, added-bare g h dst) refl
