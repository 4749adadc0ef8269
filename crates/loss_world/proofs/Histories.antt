-- What a send and an ask change of a history.
use Rattle.std.proofs.Common.{◌≡◌, ℕ, ◌+◌, ◌<◌, ◌≤◌, ◌||◌, ◌==◌, min, Bool, true, false, cond, leb, List, [], ◌∷◌, ◌++◌, length, take, drop, filter, All, Some, None, slice_get, option_to_list, sym, ◌∙◌, ap, subst, refl, inl, inr, arith, append_assoc, length-append, append-nil}
use Rattle.std.proofs.lemmas.Bool.{cases_eq, cases_lt, cases_Bool, eq-eqb, ne_eqb, or_left, and_from, and_right, le-leb, lt-leb}
use Rattle.std.proofs.lemmas.List.{drop-append-le, drop-drop}
use Rattle.std.proofs.lemmas.List.Elements.{All-nil, All-cons, All-append, All-same}
use Rattle.std.proofs.Math.Seq.{drop-length}
use Rattle.std.proofs.Math.ListN.{drop_of_length-le}
use Rattle.std.proofs.Math.Nat.{max-eq_left}
use Rattle.loss_world.specs.Arrivals.{Departure, arrivals}
use Rattle.loss_world.specs.AtOnce.{PacketsPassAtOnce}
use Rattle.loss_world.specs.InTransit.{InFlight, Held, with_packet, flight_of, is_due, due_in, IsToCome}
use Rattle.loss_world.specs.History.{WorldCall, Departs, AsksFor, departures_of, asked_of, is_asked, given_in, arrivals_left, next_arrival, answers_in, EachAskTakesOne, WorldStandsFor}
use Rattle.loss_world.proofs.Flights.{arrivals-append, due_in-append, due_in-one, due_in-none, is_kept, taken_off, due_in-flight_of, due_in-forget, due_in-first, due_in-taken_off, none_arrives_early, IsToCome-flight_of, IsToCome-forget, IsToCome-taken_off}

-- ---- what is left of a round

-- no more is given than there is
given_in-within : (history : List WorldCall) (round : ℕ) → given_in history round ≤ length (arrivals (departures_of history) round)
given_in-within [] round = omega arith
given_in-within (Departs packet ∷ earlier) round =
    let before = given_in-within earlier round in
    let more = ap length (arrivals-append (departures_of earlier) (packet ∷ []) round) ∙ length-append (arrivals (departures_of earlier) round) (arrivals (packet ∷ []) round) in
    omega arith
given_in-within (AsksFor asked ∷ earlier) round =
    elim (cases_eq asked round) [
      | inl same ↦ rw (eq-eqb asked round same) (omega arith)
      | inr other ↦ rw (ne_eqb asked round other) (given_in-within earlier round)
    ]

pub arrivals_left-sends : (packet : Departure) (earlier : List WorldCall) (round : ℕ) → arrivals_left (Departs packet ∷ earlier) round ≡ arrivals_left earlier round ++ arrivals (packet ∷ []) round
arrivals_left-sends packet earlier round =
    ap (drop (given_in earlier round)) (arrivals-append (departures_of earlier) (packet ∷ []) round)
    ∙ drop-append-le (given_in earlier round) (arrivals (departures_of earlier) round) (arrivals (packet ∷ []) round) (given_in-within earlier round)

drop-within : {A : Type 0} (n : ℕ) (xs : List A) → drop (min (n + 1) (length xs)) xs ≡ drop 1 (drop n xs)
drop-within n xs =
    elim (cases_lt n (length xs)) [
      | inl more ↦
          let least : min (n + 1) (length xs) ≡ n + 1 = omega arith in
          ap (λ k. drop k xs) least ∙ sym (drop-drop 1 n xs)
      | inr over ↦
          let least : min (n + 1) (length xs) ≡ length xs = omega arith in
          let past : length xs ≤ n + 1 = omega arith in
          ap (λ k. drop k xs) least ∙ drop-length xs ∙ sym (drop_of_length-le xs past) ∙ sym (drop-drop 1 n xs)
    ]

pub arrivals_left-asked : (earlier : List WorldCall) (round : ℕ) → arrivals_left (AsksFor round ∷ earlier) round ≡ drop 1 (arrivals_left earlier round)
arrivals_left-asked earlier round =
    ap (λ (asks : Bool). drop (cond asks (min (given_in earlier round + 1) (length (arrivals (departures_of earlier) round))) (given_in earlier round)) (arrivals (departures_of earlier) round)) (eq-eqb round round refl)
    ∙ drop-within (given_in earlier round) (arrivals (departures_of earlier) round)

pub arrivals_left-other : (asked : ℕ) (earlier : List WorldCall) (round : ℕ) → (asked ≡ round → ⊥) → arrivals_left (AsksFor asked ∷ earlier) round ≡ arrivals_left earlier round
arrivals_left-other asked earlier round other =
    ap (λ (asks : Bool). drop (cond asks (min (given_in earlier round + 1) (length (arrivals (departures_of earlier) round))) (given_in earlier round)) (arrivals (departures_of earlier) round)) (ne_eqb asked round other)

-- ---- what was given and what is left

first_and_rest : {A : Type 0} (xs : List A) → option_to_list (slice_get xs 0) ++ drop 1 xs ≡ xs
first_and_rest [] = refl
first_and_rest (x ∷ xs) = refl

pub given_in_order : (history : List WorldCall) (round : ℕ) → answers_in history round ++ arrivals_left history round ≡ arrivals (departures_of history) round
given_in_order [] round = refl
given_in_order (Departs packet ∷ earlier) round =
    ap (λ left. answers_in earlier round ++ left) (arrivals_left-sends packet earlier round)
    ∙ sym (append_assoc (answers_in earlier round) (arrivals_left earlier round) (arrivals (packet ∷ []) round))
    ∙ ap (λ xs. xs ++ arrivals (packet ∷ []) round) (given_in_order earlier round)
    ∙ sym (arrivals-append (departures_of earlier) (packet ∷ []) round)
given_in_order (AsksFor asked ∷ earlier) round =
    elim (cases_eq asked round) [
      | inl same ↦
          subst (λ r. answers_in (AsksFor r ∷ earlier) round ++ arrivals_left (AsksFor r ∷ earlier) round ≡ arrivals (departures_of earlier) round) (sym same) (
          ap (λ left. answers_in (AsksFor round ∷ earlier) round ++ left) (arrivals_left-asked earlier round)
          ∙ ap (λ (asks : Bool). cond asks (answers_in earlier round ++ option_to_list (next_arrival earlier round)) (answers_in earlier round) ++ drop 1 (arrivals_left earlier round)) (eq-eqb round round refl)
          ∙ append_assoc (answers_in earlier round) (option_to_list (next_arrival earlier round)) (drop 1 (arrivals_left earlier round))
          ∙ ap (λ left. answers_in earlier round ++ left) (first_and_rest (arrivals_left earlier round))
          ∙ given_in_order earlier round
          )
      | inr other ↦
          ap (λ left. answers_in (AsksFor asked ∷ earlier) round ++ left) (arrivals_left-other asked earlier round other)
          ∙ ap (λ (asks : Bool). cond asks (answers_in earlier round ++ option_to_list (next_arrival earlier round)) (answers_in earlier round) ++ arrivals_left earlier round) (ne_eqb asked round other)
          ∙ given_in_order earlier round
    ]

none_left : {A : Type 0} (xs : List A) → slice_get xs 0 ≡ None → xs ≡ []
none_left [] none = refl
none_left (x ∷ xs) none = cc

pub all_are_given : (history : List WorldCall) (round : ℕ) → next_arrival history round ≡ None → answers_in history round ≡ arrivals (departures_of history) round
all_are_given history round none =
    sym (append-nil (answers_in history round))
    ∙ ap (λ left. answers_in history round ++ left) (sym (none_left (arrivals_left history round) none))
    ∙ given_in_order history round

-- ---- what a world stands for

pub WorldStandsFor-send : (world after : Held) (history : List WorldCall) (packet : Departure) → WorldStandsFor world history → asked_of history ≤ packet.round →
    after.flights ≡ world.flights ++ flight_of packet → WorldStandsFor after (Departs packet ∷ history)
WorldStandsFor-send world after history packet stands order sent = record {
  left = λ round asks.
      ap (λ flights. due_in flights round) sent
      ∙ due_in-append world.flights (flight_of packet) round
      ∙ ap (λ xs. xs ++ due_in (flight_of packet) round) (stands.left round asks)
      ∙ ap (λ xs. arrivals_left history round ++ xs) (due_in-flight_of packet round)
      ∙ sym (arrivals_left-sends packet history round);
  to_come = All-same (IsToCome (asked_of history)) after.flights (world.flights ++ flight_of packet) sent
      (All-append (IsToCome (asked_of history)) world.flights (flight_of packet) stands.to_come (IsToCome-flight_of packet (asked_of history) order));
}

-- flights give what is left of this round and of those after it, once the earlier ones are forgotten
pub record IsReady (round : ℕ) (flights : List InFlight) (history : List WorldCall) : Type 0 where
  pub left : (later : ℕ) → round ≤ later → due_in flights later ≡ arrivals_left history later
  pub to_come : All (IsToCome round) flights
  pub order : asked_of history ≤ round

pub IsReady-forget : (world : Held) (history : List WorldCall) (round : ℕ) → WorldStandsFor world history → asked_of history ≤ round → IsReady round (filter (is_kept round) world.flights) history
IsReady-forget world history round stands order = record {
  left = λ later from. due_in-forget world.flights round later from ∙ stands.left later (omega arith);
  to_come = IsToCome-forget world.flights (asked_of history) round stands.to_come;
  order = order;
}

WorldStandsFor-asks : (round : ℕ) (flights : List InFlight) (after : Held) (history : List WorldCall) → IsReady round flights history →
    due_in after.flights round ≡ drop 1 (due_in flights round) → ((later : ℕ) → round < later → due_in after.flights later ≡ due_in flights later) → All (IsToCome round) after.flights →
    WorldStandsFor after (AsksFor round ∷ history)
WorldStandsFor-asks round flights after history ready now later to_come =
    let order = ready.order in record {
      left = λ other asks. elim (cases_eq round other) [
        | inl same ↦ subst (λ r. due_in after.flights r ≡ arrivals_left (AsksFor round ∷ history) r) same (
            now ∙ ap (drop 1) (ready.left round (omega arith)) ∙ sym (arrivals_left-asked history round)
            )
        | inr apart ↦
            let above : round < other = omega arith in
            later other above ∙ ready.left other (omega arith) ∙ sym (arrivals_left-other round history other apart)
      ];
      to_come = subst (λ asked. All (IsToCome asked) after.flights) (sym (max-eq_left order)) to_come;
    }

-- an ask is given nothing where nothing is due
pub WorldStandsFor-none : (round : ℕ) (after : Held) (history : List WorldCall) → IsReady round after.flights history → due_in after.flights round ≡ [] → WorldStandsFor after (AsksFor round ∷ history)
WorldStandsFor-none round after history ready none =
    WorldStandsFor-asks round after.flights after history ready (none ∙ sym (ap (drop 1) none)) (λ later above. refl) ready.to_come

-- else it is given the first that is due, which is taken off
pub WorldStandsFor-some : (round : ℕ) (flights : List InFlight) (after : Held) (history : List WorldCall) (at : ℕ) (flight : InFlight) → IsReady round flights history → slice_get flights at ≡ Some flight →
    due_in (take at flights) round ≡ [] → is_due round flight ≡ true → after.flights ≡ taken_off flights at flight round → WorldStandsFor after (AsksFor round ∷ history)
WorldStandsFor-some round flights after history at flight ready here before due left =
    WorldStandsFor-asks round flights after history ready
    (ap (λ xs. due_in xs round) left ∙ sym (ap (drop 1) (due_in-first flights at flight round here before due)))
    (λ later above. ap (λ xs. due_in xs later) left ∙ due_in-taken_off flights at flight round later here due above)
    (All-same (IsToCome round) after.flights (taken_off flights at flight round) left (IsToCome-taken_off flights at flight round ready.to_come))

-- ---- a packet that passes at once

abbrev only : ℕ → List ℕ → InFlight
only round bytes = record { rounds = record { next = round; last = round }; bytes = bytes }

only-due : (world : Held) (round : ℕ) (bytes : List ℕ) → world.flights ≡ [] → due_in (with_packet round bytes world).flights round ≡ bytes ∷ []
only-due world round bytes none =
    let from_itself = le-leb round round (omega arith) in
    ap (λ (fs : List InFlight). due_in (fs ++ only round bytes ∷ []) round) none
    ∙ due_in-one (only round bytes) round (and_from (leb round round) (leb round round) from_itself from_itself)

only-later : (world : Held) (round : ℕ) (bytes : List ℕ) (later : ℕ) → world.flights ≡ [] → round < later → due_in (with_packet round bytes world).flights later ≡ []
only-later world round bytes later none above =
    ap (λ (fs : List InFlight). due_in (fs ++ only round bytes ∷ []) later) none
    ∙ due_in-none (only round bytes) later (and_right (leb round later) (leb later round) (lt-leb later round above))

only-gone : (world : Held) (history : List WorldCall) (round : ℕ) (bytes : List ℕ) → world.flights ≡ [] → WorldStandsFor (with_packet round bytes world) history → asked_of history ≤ round →
    WorldStandsFor world (AsksFor round ∷ history)
only-gone world history round bytes none stands order =
    let none_to_come : All (IsToCome round) world.flights = All-same (IsToCome round) world.flights [] none (All-nil (IsToCome round)) in
    let ready : IsReady round (with_packet round bytes world).flights history = record {
      left = λ later from. stands.left later (omega arith);
      to_come = All-append (IsToCome round) world.flights (only round bytes ∷ []) none_to_come (IsToCome-flight_of (record { round = round; fate = None; bytes = bytes }) round (omega arith));
      order = order;
    } in
    WorldStandsFor-asks round (with_packet round bytes world).flights world history ready
    (ap (λ (fs : List InFlight). due_in fs round) none ∙ sym (ap (drop 1) (only-due world round bytes none)))
    (λ later above. ap (λ (fs : List InFlight). due_in fs later) none ∙ sym (only-later world round bytes later none above))
    none_to_come

pub packets_pass_at_once : PacketsPassAtOnce
packets_pass_at_once = record {
  sent = λ world history round bytes stands order.
      WorldStandsFor-send world (with_packet round bytes world) history (record { round = round; fate = None; bytes = bytes }) stands order refl;
  due = only-due;
  gone = only-gone;
}

-- the flights that are left after a world has forgotten the earlier rounds are ready
pub IsReady-kept : (world : Held) (kept : List InFlight) (history : List WorldCall) (round : ℕ) → WorldStandsFor world history → asked_of history ≤ round →
    kept ≡ filter (is_kept round) world.flights → IsReady round kept history
IsReady-kept world kept history round stands order keeps =
    subst (λ (xs : List InFlight). IsReady round xs history) (sym keeps) (IsReady-forget world history round stands order)

-- ---- ask by ask

-- a round that was not asked for has given nothing
given_in-unasked : (history : List WorldCall) (round : ℕ) → is_asked history round ≡ false → given_in history round ≡ 0
given_in-unasked [] round unasked = refl
given_in-unasked (Departs packet ∷ earlier) round unasked = given_in-unasked earlier round unasked
given_in-unasked (AsksFor asked ∷ earlier) round unasked =
    elim (cases_Bool (asked == round)) [
      | inl this ↦ absurd (let here : is_asked (AsksFor asked ∷ earlier) round ≡ true = or_left (asked == round) (is_asked earlier round) this in cc)
      | inr other ↦ rw other (given_in-unasked earlier round (sym (ap (λ b. b || is_asked earlier round) other) ∙ unasked))
    ]

arrivals_left-later : (packet : Departure) (earlier : List WorldCall) (round : ℕ) → round < packet.round → arrivals_left (Departs packet ∷ earlier) round ≡ arrivals_left earlier round
arrivals_left-later packet earlier round later =
    arrivals_left-sends packet earlier round
    ∙ ap (λ xs. arrivals_left earlier round ++ xs) (none_arrives_early.all (packet ∷ []) round (All-cons (λ (p : Departure). round < p.round) packet [] later (All-nil (λ (p : Departure). round < p.round))))
    ∙ append-nil (arrivals_left earlier round)

pub each_ask_takes_one : EachAskTakesOne
each_ask_takes_one = record {
  taken = arrivals_left-asked;
  other = arrivals_left-other;
  sent = arrivals_left-later;
  whole = λ history round unasked. ap (λ n. drop n (arrivals (departures_of history) round)) (given_in-unasked history round unasked);
}
