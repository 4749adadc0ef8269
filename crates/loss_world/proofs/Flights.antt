-- What is due in a round, of packets that are sent, forgotten or taken off.
use Rattle.std.proofs.Common.{◌≡◌, ℕ, zero, suc, ◌+◌, ◌-◌, ◌<◌, ◌≤◌, Bool, true, false, ◌&&◌, ◌||◌, cond, eqb, leb, List, [], ◌∷◌, ◌++◌, length, take, drop, get_or, map, filter, remove, set, add-one, All, Option, Some, None, slice_get, sym, ◌∙◌, ap, refl, inl, inr, arith, append_assoc}
use Rattle.std.proofs.lemmas.Bool.{eqb-true, or_cases, false_from_ne_true, cases_lt, cases_order, cond-true, cond-false, or_from, or_left, or_right, leb-true, leb-false, le-leb, lt-leb, eq-eqb, ne_eqb, and_left, and_right, and_from, and_parts, cond_both}
use Rattle.std.proofs.lemmas.List.{take-append-drop, take-append-le, drop-drop, drop_more, map-append, set_split, length-take, get_or-take}
use Rattle.std.proofs.lemmas.List.Elements.{filter-append, All-nil, All-cons, All-head, All-tail, All-append, All-take, All-drop}
use Rattle.std.proofs.lemmas.Option.{get_or_from_slice_get, slice_get_read, slice_get_within}
use Rattle.loss_world.specs.declared.fate.Fate.{Fate}
use Rattle.loss_world.specs.declared.fate.Fate.TheVariants.{Lose, Hold, Twice}
use Rattle.loss_world.specs.Arrivals.{Departure, arrives_in, arrivals, NoneArrivesEarly}
use Rattle.loss_world.specs.InTransit.{InFlight, flight_of, is_due, due_in, rest_of, IsToCome}

-- ---- joined lists

pub arrivals-append : (xs ys : List Departure) (round : ℕ) → arrivals (xs ++ ys) round ≡ arrivals xs round ++ arrivals ys round
arrivals-append xs ys round =
    let test : Departure → Bool = λ packet. arrives_in packet.fate packet.round round in
    let bytes : Departure → List ℕ = λ packet. packet.bytes in
    ap (map bytes) (filter-append test xs ys) ∙ map-append bytes (filter test xs) (filter test ys)

pub due_in-append : (xs ys : List InFlight) (round : ℕ) → due_in (xs ++ ys) round ≡ due_in xs round ++ due_in ys round
due_in-append xs ys round =
    let bytes : InFlight → List ℕ = λ flight. flight.bytes in
    ap (map bytes) (filter-append (is_due round) xs ys) ∙ map-append bytes (filter (is_due round) xs) (filter (is_due round) ys)

-- ---- one packet

pub due_in-one : (flight : InFlight) (round : ℕ) → is_due round flight ≡ true → due_in (flight ∷ []) round ≡ flight.bytes ∷ []
due_in-one flight round due = ap (map (λ (f : InFlight). f.bytes)) (cond-true (is_due round flight) (flight ∷ []) [] due)

pub due_in-none : (flight : InFlight) (round : ℕ) → is_due round flight ≡ false → due_in (flight ∷ []) round ≡ []
due_in-none flight round due = ap (map (λ (f : InFlight). f.bytes)) (cond-false (is_due round flight) (flight ∷ []) [] due)

-- from a number to itself there is one number, and to the next one there are two
from_itself : (sent round : ℕ) → (leb sent round && leb round sent) ≡ eqb round sent
from_itself sent round =
    elim (cases_order round sent) [
      | inl same ↦ and_from (leb sent round) (leb round sent) (le-leb sent round (omega arith)) (le-leb round sent (omega arith)) ∙ sym (eq-eqb round sent same)
      | inr (inl below) ↦ and_left (leb sent round) (leb round sent) (lt-leb sent round below) ∙ sym (ne_eqb round sent (λ e. omega arith))
      | inr (inr above) ↦ and_right (leb sent round) (leb round sent) (lt-leb round sent above) ∙ sym (ne_eqb round sent (λ e. omega arith))
    ]

to_the_next : (sent round : ℕ) → (leb sent round && leb round (sent + 1)) ≡ (eqb round sent || eqb round (sent + 1))
to_the_next sent round =
    elim (cases_lt round sent) [
      | inl below ↦ and_left (leb sent round) (leb round (sent + 1)) (lt-leb sent round below) ∙ sym (or_from (eqb round sent) (eqb round (sent + 1)) (ne_eqb round sent (λ e. omega arith)) (ne_eqb round (sent + 1) (λ e. omega arith)))
      | inr from ↦ elim (cases_lt (sent + 1) round) [
        | inl above ↦ and_right (leb sent round) (leb round (sent + 1)) (lt-leb round (sent + 1) above) ∙ sym (or_from (eqb round sent) (eqb round (sent + 1)) (ne_eqb round sent (λ e. omega arith)) (ne_eqb round (sent + 1) (λ e. omega arith)))
        | inr to ↦ and_from (leb sent round) (leb round (sent + 1)) (le-leb sent round from) (le-leb round (sent + 1) to) ∙ sym (elim (cases_lt sent round) as (λ _. (eqb round sent || eqb round (sent + 1)) ≡ true) [
          | inl second ↦ or_right (eqb round sent) (eqb round (sent + 1)) (eq-eqb round (sent + 1) (omega arith))
          | inr first ↦ or_left (eqb round sent) (eqb round (sent + 1)) (eq-eqb round sent (omega arith))
        ])
      ]
    ]

one_of_each : (test : Bool) (flight : InFlight) (packet : Departure) → flight.bytes ≡ packet.bytes →
    map (λ (f : InFlight). f.bytes) (cond test (flight ∷ []) []) ≡ map (λ (p : Departure). p.bytes) (cond test (packet ∷ []) [])
one_of_each true flight packet same = ap (λ bytes. bytes ∷ []) same
one_of_each false flight packet same = refl

due_by_fate : (fate : Option Fate) (sent : ℕ) (bytes : List ℕ) (round : ℕ) →
    due_in (flight_of (record { round = sent; fate = fate; bytes = bytes })) round ≡ arrivals (record { round = sent; fate = fate; bytes = bytes } ∷ []) round
due_by_fate None sent bytes round =
    rw (from_itself sent round) (one_of_each (eqb round sent) (record { rounds = record { next = sent; last = sent }; bytes = bytes }) (record { round = sent; fate = None; bytes = bytes }) refl)
due_by_fate (Some Lose) sent bytes round = refl
due_by_fate (Some (Hold held)) sent bytes round =
    rw (from_itself (sent + held) round) (one_of_each (eqb round (sent + held)) (record { rounds = record { next = sent + held; last = sent + held }; bytes = bytes }) (record { round = sent; fate = Some (Hold held); bytes = bytes }) refl)
due_by_fate (Some Twice) sent bytes round =
    rw (to_the_next sent round) (one_of_each (eqb round sent || eqb round (sent + 1)) (record { rounds = record { next = sent; last = sent + 1 }; bytes = bytes }) (record { round = sent; fate = Some Twice; bytes = bytes }) refl)

-- a packet is due, from when it is sent, in the rounds in which it arrives
pub due_in-flight_of : (packet : Departure) (round : ℕ) → due_in (flight_of packet) round ≡ arrivals (packet ∷ []) round
due_in-flight_of packet round = due_by_fate packet.fate packet.round packet.bytes round

to_come_by_fate : (fate : Option Fate) (sent : ℕ) (bytes : List ℕ) (asked : ℕ) → asked ≤ sent → All (IsToCome asked) (flight_of (record { round = sent; fate = fate; bytes = bytes }))
to_come_by_fate None sent bytes asked asks = All-cons (IsToCome asked) _ [] (record { some_round = omega arith; not_over = asks }) (All-nil (IsToCome asked))
to_come_by_fate (Some Lose) sent bytes asked asks = All-nil (IsToCome asked)
to_come_by_fate (Some (Hold held)) sent bytes asked asks = All-cons (IsToCome asked) _ [] (record { some_round = omega arith; not_over = omega arith }) (All-nil (IsToCome asked))
to_come_by_fate (Some Twice) sent bytes asked asks = All-cons (IsToCome asked) _ [] (record { some_round = omega arith; not_over = omega arith }) (All-nil (IsToCome asked))

-- it is to come where its round is not below the one asked for
pub IsToCome-flight_of : (packet : Departure) (asked : ℕ) → asked ≤ packet.round → All (IsToCome asked) (flight_of packet)
IsToCome-flight_of packet asked asks = to_come_by_fate packet.fate packet.round packet.bytes asked asks

-- ---- what is forgotten

-- whether it may arrive in this round or a later one
abbrev pub is_kept : ℕ → InFlight → Bool
is_kept round flight = leb round flight.rounds.last

due_in-kept : (flights : List InFlight) (round later : ℕ) → round ≤ later → filter (is_due later) (filter (is_kept round) flights) ≡ filter (is_due later) flights
due_in-kept [] round later order = refl
due_in-kept (flight ∷ rest) round later order =
    let again = due_in-kept rest round later order in
    elim (cases_lt flight.rounds.last round) [
      | inl over ↦
          rw (lt-leb round flight.rounds.last over) (
          again ∙ sym (cond-false (is_due later flight) (flight ∷ filter (is_due later) rest) (filter (is_due later) rest) (and_right (leb flight.rounds.next later) (leb later flight.rounds.last) (lt-leb later flight.rounds.last (omega arith))))
          )
      | inr stays ↦ rw (le-leb round flight.rounds.last stays) (ap (λ xs. cond (is_due later flight) (flight ∷ xs) xs) again)
    ]

pub due_in-forget : (flights : List InFlight) (round later : ℕ) → round ≤ later → due_in (filter (is_kept round) flights) later ≡ due_in flights later
due_in-forget flights round later order = ap (map (λ (f : InFlight). f.bytes)) (due_in-kept flights round later order)

pub IsToCome-forget : (flights : List InFlight) (asked round : ℕ) → All (IsToCome asked) flights → All (IsToCome round) (filter (is_kept round) flights)
IsToCome-forget [] asked round to_come = All-nil (IsToCome round)
IsToCome-forget (flight ∷ rest) asked round to_come =
    let first = All-head (IsToCome asked) flight rest to_come in
    let others = IsToCome-forget rest asked round (All-tail (IsToCome asked) flight rest to_come) in
    cond_both (is_kept round flight) (flight ∷ filter (is_kept round) rest) (filter (is_kept round) rest) (All (IsToCome round))
    (λ kept. All-cons (IsToCome round) flight (filter (is_kept round) rest) (record { some_round = first.some_round; not_over = leb-true round flight.rounds.last kept }) others)
    (λ _. others)

-- ---- what is taken off

pub split_at : (flights : List InFlight) (at : ℕ) (flight : InFlight) → slice_get flights at ≡ Some flight → flights ≡ take at flights ++ (flight ∷ drop (at + 1) flights)
split_at flights at flight here =
    sym (take-append-drop at flights)
    ∙ ap (λ xs. take at flights ++ xs) (
    drop_more flights at flight (slice_get_within flights at flight here) ∙ ap (λ f. f ∷ drop (at + 1) flights) (get_or_from_slice_get flights at flight flight here)
    )

one_or_none : (test : Bool) (f g : InFlight) → f.bytes ≡ g.bytes → map (λ (x : InFlight). x.bytes) (cond test (f ∷ []) []) ≡ map (λ (x : InFlight). x.bytes) (cond test (g ∷ []) [])
one_or_none true f g same = ap (λ bytes. bytes ∷ []) same
one_or_none false f g same = refl

-- in its round a packet gives its bytes, and none of them once it has arrived
pub due_in-arrived : (flight : InFlight) (round : ℕ) → due_in (rest_of round flight) round ≡ []
due_in-arrived flight round =
    elim (cases_lt round flight.rounds.last) [
      | inl more ↦ rw (lt-leb flight.rounds.last round more) (due_in-none (record { rounds = record { next = round + 1; last = flight.rounds.last }; bytes = flight.bytes }) round (and_left (leb (round + 1) round) (leb round flight.rounds.last) (lt-leb (round + 1) round (omega arith))))
      | inr over ↦ rw (le-leb flight.rounds.last round over) refl
    ]

-- in the later rounds it is due as before
pub due_in-later : (flight : InFlight) (round later : ℕ) → flight.rounds.next ≤ round → round < later → due_in (rest_of round flight) later ≡ due_in (flight ∷ []) later
due_in-later flight round later from order =
    elim (cases_lt round flight.rounds.last) [
      | inl more ↦ rw (lt-leb flight.rounds.last round more, le-leb (round + 1) later (omega arith), le-leb flight.rounds.next later (omega arith)) (one_or_none (leb later flight.rounds.last) (record { rounds = record { next = round + 1; last = flight.rounds.last }; bytes = flight.bytes }) flight refl)
      | inr over ↦ rw (le-leb flight.rounds.last round over) (sym (due_in-none flight later (and_right (leb flight.rounds.next later) (leb later flight.rounds.last) (lt-leb later flight.rounds.last (omega arith)))))
    ]

pub IsToCome-rest : (flight : InFlight) (round : ℕ) → All (IsToCome round) (rest_of round flight)
IsToCome-rest flight round =
    let later : InFlight = record { rounds = record { next = round + 1; last = flight.rounds.last }; bytes = flight.bytes } in
    cond_both (leb flight.rounds.last round) [] (later ∷ []) (All (IsToCome round))
    (λ _. All-nil (IsToCome round))
    (λ more. let after = leb-false flight.rounds.last round more in All-cons (IsToCome round) later [] (record { some_round = omega arith; not_over = omega arith }) (All-nil (IsToCome round)))

-- the flights once the one at this place has arrived in this round
abbrev pub taken_off : List InFlight → ℕ → InFlight → ℕ → List InFlight
taken_off flights at flight round = take at flights ++ (rest_of round flight ++ drop (at + 1) flights)

due_in-around : (middle flights : List InFlight) (at round : ℕ) →
    due_in (take at flights ++ (middle ++ drop (at + 1) flights)) round ≡ due_in (take at flights) round ++ (due_in middle round ++ due_in (drop (at + 1) flights) round)
due_in-around middle flights at round =
    due_in-append (take at flights) (middle ++ drop (at + 1) flights) round
    ∙ ap (λ xs. due_in (take at flights) round ++ xs) (due_in-append middle (drop (at + 1) flights) round)

due_in-split : (flights : List InFlight) (at : ℕ) (flight : InFlight) (round : ℕ) → slice_get flights at ≡ Some flight →
    due_in flights round ≡ due_in (take at flights) round ++ (due_in (flight ∷ []) round ++ due_in (drop (at + 1) flights) round)
due_in-split flights at flight round here = ap (λ xs. due_in xs round) (split_at flights at flight here) ∙ due_in-around (flight ∷ []) flights at round

-- in its round the flight at this place gives its bytes where none before it is due
pub due_in-first : (flights : List InFlight) (at : ℕ) (flight : InFlight) (round : ℕ) → slice_get flights at ≡ Some flight → due_in (take at flights) round ≡ [] → is_due round flight ≡ true →
    due_in flights round ≡ flight.bytes ∷ due_in (taken_off flights at flight round) round
due_in-first flights at flight round here before due =
    let others = due_in (drop (at + 1) flights) round in
    due_in-split flights at flight round here
    ∙ ap (λ xs. xs ++ (due_in (flight ∷ []) round ++ others)) before
    ∙ ap (λ xs. xs ++ others) (due_in-one flight round due)
    ∙ ap (λ xs. flight.bytes ∷ xs) (sym (due_in-around (rest_of round flight) flights at round ∙ ap (λ xs. xs ++ (due_in (rest_of round flight) round ++ others)) before ∙ ap (λ xs. xs ++ others) (due_in-arrived flight round)))

-- and in the later ones nothing changes
pub due_in-taken_off : (flights : List InFlight) (at : ℕ) (flight : InFlight) (round later : ℕ) → slice_get flights at ≡ Some flight → is_due round flight ≡ true → round < later →
    due_in (taken_off flights at flight round) later ≡ due_in flights later
due_in-taken_off flights at flight round later here due order =
    let from = leb-true flight.rounds.next round ((and_parts (leb flight.rounds.next round) (leb round flight.rounds.last) due).0) in
    due_in-around (rest_of round flight) flights at later
    ∙ ap (λ xs. due_in (take at flights) later ++ (xs ++ due_in (drop (at + 1) flights) later)) (due_in-later flight round later from order)
    ∙ sym (due_in-split flights at flight later here)

pub IsToCome-taken_off : (flights : List InFlight) (at : ℕ) (flight : InFlight) (round : ℕ) → All (IsToCome round) flights → All (IsToCome round) (taken_off flights at flight round)
IsToCome-taken_off flights at flight round to_come =
    All-append (IsToCome round) (take at flights) (rest_of round flight ++ drop (at + 1) flights)
    (All-take (IsToCome round) at flights to_come)
    (All-append (IsToCome round) (rest_of round flight) (drop (at + 1) flights) (IsToCome-rest flight round) (All-drop (IsToCome round) (at + 1) flights to_come))

-- ---- how it is taken off

pub found_there : (flights : List InFlight) (at : ℕ) (flight found : InFlight) → slice_get flights at ≡ Some flight → found ≡ get_or flights at found → found ≡ flight
found_there flights at flight found here is = is ∙ get_or_from_slice_get flights at flight found here

pub taken_off-set : (flights : List InFlight) (at : ℕ) (flight found : InFlight) (round : ℕ) → slice_get flights at ≡ Some flight → found ≡ get_or flights at found → round < found.rounds.last →
    set flights at (record { rounds = record { next = round + 1; last = found.rounds.last }; bytes = found.bytes }) ≡ taken_off flights at flight round
taken_off-set flights at flight found round here is more =
    set_split flights at (record { rounds = record { next = round + 1; last = found.rounds.last }; bytes = found.bytes }) (slice_get_within flights at flight here)
    ∙ ap (λ k. take at flights ++ (record { rounds = record { next = round + 1; last = found.rounds.last }; bytes = found.bytes } ∷ drop k flights)) (sym (add-one at))
    ∙ ap (λ rest. take at flights ++ (rest ++ drop (at + 1) flights)) (sym (cond-false (leb found.rounds.last round) [] (record { rounds = record { next = round + 1; last = found.rounds.last }; bytes = found.bytes } ∷ []) (lt-leb found.rounds.last round more)))
    ∙ ap (λ f. taken_off flights at f round) (found_there flights at flight found here is)

pub taken_off-remove : (flights : List InFlight) (at : ℕ) (flight found : InFlight) (round : ℕ) → slice_get flights at ≡ Some flight → found ≡ get_or flights at found → found.rounds.last ≤ round →
    remove flights at ≡ taken_off flights at flight round
taken_off-remove flights at flight found round here is over =
    ap (λ k. take at flights ++ drop k flights) (sym (add-one at))
    ∙ ap (λ rest. take at flights ++ (rest ++ drop (at + 1) flights)) (sym (cond-true (leb found.rounds.last round) [] (record { rounds = record { next = round + 1; last = found.rounds.last }; bytes = found.bytes } ∷ []) (le-leb found.rounds.last round over)))
    ∙ ap (λ f. taken_off flights at f round) (found_there flights at flight found here is)

-- ---- how one is set aside

-- one is moved behind all others: the front is shorter by it
removed_front : (xs : List InFlight) (m at : ℕ) (x : InFlight) → at ≤ m → m < length xs → take m (remove xs at ++ x ∷ []) ≡ remove (take (suc m) xs) at
removed_front [] m at x within long = absurd (omega (arith, long))
removed_front (y ∷ ys) m zero x within long = take-append-le m ys (x ∷ []) (omega (arith, long))
removed_front (y ∷ ys) zero (suc at) x within long = absurd (omega (arith, within))
removed_front (y ∷ ys) (suc m) (suc at) x within long = ap (λ (zs : List InFlight). y ∷ zs) (removed_front ys m at x (omega (arith, within)) (omega (arith, long)))

pub moved_behind : (xs : List InFlight) (n at : ℕ) (x : InFlight) → at < n → n ≤ length xs → take (n - 1) (remove xs at ++ x ∷ []) ≡ remove (take n xs) at
moved_behind xs n at x within long =
    let one : suc (n - 1) ≡ n = omega (arith, within) in
    removed_front xs (n - 1) at x (omega (arith, within)) (omega (arith, within, long)) ∙ ap (λ k. remove (take k xs) at) one

-- a walk that sets aside those that are over
pub passed_over : (test : InFlight → Bool) (xs : List InFlight) (at : ℕ) (x : InFlight) → slice_get xs at ≡ Some x → test x ≡ false →
    take at (remove xs at) ≡ take at xs ++ filter test (take 1 (drop at xs))
passed_over test [] at x here over = absurd cc
passed_over test (y ∷ ys) zero x here over =
    let same : y ≡ x = cc in
    sym (cond-false (test y) (y ∷ []) [] (ap test same ∙ over))
passed_over test (y ∷ ys) (suc at) x here over = ap (λ (zs : List InFlight). y ∷ zs) (passed_over test ys at x here over)

pub walk_goes_on : (test : InFlight → Bool) (old new : List InFlight) (at next : ℕ) → take next new ≡ take at old ++ filter test (take 1 (drop at old)) → drop next new ≡ drop (at + 1) old →
    take next new ++ filter test (drop next new) ≡ take at old ++ filter test (drop at old)
walk_goes_on test old new at next passed rest =
    let ys = drop at old in
    ap (λ zs. zs ++ filter test (drop next new)) passed
    ∙ ap (λ zs. (take at old ++ filter test (take 1 ys)) ++ filter test zs) (rest ∙ sym (drop-drop 1 at old))
    ∙ append_assoc (take at old) (filter test (take 1 ys)) (filter test (drop 1 ys))
    ∙ ap (λ zs. take at old ++ zs) (sym (filter-append test (take 1 ys) (drop 1 ys)) ∙ ap (filter test) (take-append-drop 1 ys))

-- the flight at a place of the front
pub front_get : (xs : List InFlight) (n at : ℕ) (x : InFlight) → at < length (take n xs) → x ≡ get_or xs at x → slice_get (take n xs) at ≡ Some x
front_get xs n at x within is =
    slice_get_read (take n xs) (length (take n xs)) at x refl within
    (is ∙ sym (get_or-take n xs at x (omega (arith, within, length-take n xs))))

-- ---- an ask

-- what an ask for a round finds once the earlier rounds are forgotten: the flight at this place is the first that is due
pub record Found (round : ℕ) (old kept : List InFlight) (at : ℕ) (flight : InFlight) : Type 0 where
  pub keeps : kept ≡ filter (is_kept round) old
  pub here : slice_get kept at ≡ Some flight
  pub before : due_in (take at kept) round ≡ []
  pub due : is_due round flight ≡ true

due_in-old : (old kept : List InFlight) (round later : ℕ) → kept ≡ filter (is_kept round) old → round ≤ later → due_in old later ≡ due_in kept later
due_in-old old kept round later keeps order = sym (ap (λ xs. due_in xs later) keeps ∙ due_in-forget old round later order)

pub first-found : (round : ℕ) (old kept : List InFlight) (at : ℕ) (flight : InFlight) → Found round old kept at flight → Some flight.bytes ≡ slice_get (due_in old round) 0
first-found round old kept at flight f =
    ap (λ xs. slice_get xs 0) (sym (due_in-old old kept round round f.keeps (omega arith) ∙ due_in-first kept at flight round f.here f.before f.due))

pub taken-found : (round : ℕ) (old kept after : List InFlight) (at : ℕ) (flight : InFlight) → Found round old kept at flight → after ≡ taken_off kept at flight round →
    due_in after round ≡ drop 1 (due_in old round)
taken-found round old kept after at flight f left =
    ap (λ xs. due_in xs round) left
    ∙ sym (ap (drop 1) (due_in-old old kept round round f.keeps (omega arith) ∙ due_in-first kept at flight round f.here f.before f.due))

pub later-found : (round : ℕ) (old kept after : List InFlight) (at : ℕ) (flight : InFlight) → Found round old kept at flight → after ≡ taken_off kept at flight round →
    (later : ℕ) → round < later → due_in after later ≡ due_in old later
later-found round old kept after at flight f left later order =
    ap (λ xs. due_in xs later) left
    ∙ due_in-taken_off kept at flight round later f.here f.due order
    ∙ sym (due_in-old old kept round later f.keeps (omega arith))

-- where none is due
pub first-none : (round : ℕ) (old kept : List InFlight) → kept ≡ filter (is_kept round) old → due_in kept round ≡ [] → None ≡ slice_get (due_in old round) 0
first-none round old kept keeps none = ap (λ xs. slice_get xs 0) (sym (due_in-old old kept round round keeps (omega arith) ∙ none))

pub taken-none : (round : ℕ) (old kept : List InFlight) → kept ≡ filter (is_kept round) old → due_in kept round ≡ [] → due_in kept round ≡ drop 1 (due_in old round)
taken-none round old kept keeps none = none ∙ sym (ap (drop 1) (due_in-old old kept round round keeps (omega arith) ∙ none))

pub later-none : (round : ℕ) (old kept : List InFlight) → kept ≡ filter (is_kept round) old → (later : ℕ) → round < later → due_in kept later ≡ due_in old later
later-none round old kept keeps later order = sym (due_in-old old kept round later keeps (omega arith))

-- ---- none arrives early

arrives_late : (fate : Option Fate) (sent round : ℕ) → arrives_in fate sent round ≡ true → sent ≤ round
arrives_late None sent round comes = let is = eqb-true round sent comes in omega arith
arrives_late (Some Lose) sent round comes = absurd (cc)
arrives_late (Some (Hold held)) sent round comes = let is = eqb-true round (sent + held) comes in omega arith
arrives_late (Some Twice) sent round comes = elim (or_cases (eqb round sent) (eqb round (sent + 1)) comes) [
  | inl first ↦ let is = eqb-true round sent first in omega arith
  | inr second ↦ let is = eqb-true round (sent + 1) second in omega arith
]

none_before : (sent : List Departure) (round : ℕ) → All (λ packet. round < packet.round) sent → arrivals sent round ≡ []
none_before [] round all = refl
none_before (packet ∷ rest) round all =
    let first = All-head (λ (p : Departure). round < p.round) packet rest all in
    let others = none_before rest round (All-tail (λ (p : Departure). round < p.round) packet rest all) in
    rw (false_from_ne_true (arrives_in packet.fate packet.round round) (λ comes. let late = arrives_late packet.fate packet.round round comes in absurd (omega arith))) others

pub none_arrives_early : NoneArrivesEarly
none_arrives_early = record { each = arrives_late; all = none_before }
