-- The `sent` lines of a replay's text are what its rounds send.
use Rattle.std.proofs.Common.{◌≡◌, ◌≢◌, ◌<◌, ◌≤◌, ◌+◌, ◌-◌, ℕ, zero, suc, Bool, false, ◌&&◌, ◌==◌, nat_lt, List, [], ◌∷◌, ◌++◌, map, count_by, Option, Some, None, All, refl, sym, ap, ◌∙◌, subst, arith, inl, inr}
use Rattle.std.specs.List.{flat_map, range_with_len}
use Rattle.std.proofs.lemmas.Bool.{cond-true, cond-false, cases_Bool, and_left, and_right, eqb-true, eqb-false, ne_eqb}
use Rattle.std.proofs.lemmas.List.Elements.{All-nil, All-cons, All-append, All-map}
use Rattle.list_facts.specs.Order.{insert_by, sort_by}
use Rattle.list_facts.proofs.Lists.{flat-last, All-flat}
use Rattle.list_facts.proofs.Counting.{count-append, one_of, count-cons, count-none, count-map}
use Rattle.list_facts.proofs.Bools.{at_most_one}
use Rattle.list_facts.proofs.StableSort.{All-sort_by}
use Rattle.greedy_rules.specs.declared.flows.Flow.{Flow}
use Rattle.endpoint_history.specs.Rounds.{sent_by}
use Rattle.endpoint_history.specs.Sending.{Slot}
use Rattle.endpoint_history.specs.Tellings.{Among}
use Rattle.endpoint_history.proofs.Once.{numbered}
use Rattle.report_text.specs.declared.line.Line.{Line}
use Rattle.report_text.specs.declared.line.Line.TheVariants as line
use Rattle.trace_text.specs.Trace.{TraceContent}
use Rattle.trace_run.specs.Run.{Setting, replayed}
use Rattle.trace_run.specs.Sends.{sent_up_to, EverySendIsScheduled, NoSlotIsSentTwice}
use Rattle.trace_run.specs.Windows.{batch_at, collected_after}
use Rattle.replay_rounds.specs.declared.played.Departure.{Departure}
use Rattle.replay_rounds.specs.Played.{raw_answers, departure, departures_in, departures_from}
use Rattle.replay_rounds.specs.Standing.{slots_between}
use Rattle.window_engine.specs.declared.counts.Counts.{Counts}
use Rattle.window_engine.specs.Replay.{replay_counts}
use Rattle.clos_topology.specs.Network.{endpoints_of}
use Rattle.clos_topology.specs.NetSlots.{SlotCores}
use Rattle.greedy_rules.specs.Schedule.{first_slot}
use Rattle.run_lines.specs.Text.{entry_line, refused_line, sent_line, count_line, count_lines_of, counts_lines}
use Rattle.text_output.proofs.TextLemmas.{IsNoSend}
use Rattle.run_text.specs.ReplayText.{round_lines, replay_rounds_lines, replay_window_lines, step_lines, steps_lines, steps_of, replay_lines}
use Rattle.run_text.specs.Sends.{IsScheduledSend, is_send_in, SendsAreScheduled}
use Rattle.run_text.proofs.LineSums.{refusals_all, slots_all, sources_all, steps_sum}

-- ---- how many elements pass

-- a sort by a number keeps elements and their number
count-insert : {X : Type 0} (p : X → Bool) (number : X → ℕ) (x : X) (ys : List X) → count_by p (insert_by number x ys) ≡ one_of p x + count_by p ys
count-insert p number x [] = count-cons p x []
count-insert p number x (y ∷ ys) =
    let test : Bool = nat_lt (number y) (number x) in
    elim (cases_Bool test) [
      | inl is ↦
          ap (count_by p) (cond-true test (y ∷ insert_by number x ys) (x ∷ (y ∷ ys)) is) ∙ omega (arith, count-cons p y (insert_by number x ys), count-insert p number x ys, count-cons p y ys)
      | inr other ↦ ap (count_by p) (cond-false test (y ∷ insert_by number x ys) (x ∷ (y ∷ ys)) other) ∙ count-cons p x (y ∷ ys)
    ]

count-sort : {X : Type 0} (p : X → Bool) (number : X → ℕ) (xs : List X) → count_by p (sort_by number xs) ≡ count_by p xs
count-sort p number [] = refl
count-sort p number (x ∷ xs) = omega (arith, count-insert p number x (sort_by number xs), count-sort p number xs, count-cons p x xs)

All-among : {X : Type 0} (P : X → Type 0) (xs : List X) → ((x : X) → Among x xs → P x) → All P xs
All-among P [] each = All-nil P
All-among P (x ∷ xs) each = All-cons P x xs (each x (inl refl)) (All-among P xs (λ y among. each y (inr among)))

Among-later : {X : Type 0} (x : X) (xs ys : List X) → Among x ys → Among x (xs ++ ys)
Among-later x [] ys among = among
Among-later x (y ∷ xs) ys among = inr (Among-later x xs ys among)

-- ---- lines that are no sends

no_send : (slot src : ℕ) (l : Line) → IsNoSend l → is_send_in slot src l ≡ false
no_send slot src (line.Sent number source dst) is = absurd is
no_send slot src l is = refl

no_send_scheduled : (setting : Setting) (rounds : ℕ) (l : Line) → IsNoSend l → IsScheduledSend setting rounds l
no_send_scheduled setting rounds (line.Sent number source dst) is = absurd is
no_send_scheduled setting rounds l is = tt

none_counted : (slot src : ℕ) (lines : List Line) → All IsNoSend lines → count_by (is_send_in slot src) lines ≡ 0
none_counted slot src lines all = count-none (is_send_in slot src) lines (λ i d below. no_send slot src _ (all i d below))

none_unscheduled : (setting : Setting) (rounds : ℕ) (lines : List Line) → All IsNoSend lines → All (IsScheduledSend setting rounds) lines
none_unscheduled setting rounds lines all i d below = no_send_scheduled setting rounds _ (all i d below)

count_without : (flow : Flow) (counts : Option Counts) → All IsNoSend (count_lines_of flow counts)
count_without flow None = All-nil IsNoSend
count_without flow (Some counts) = All-cons IsNoSend (count_line flow counts) [] tt (All-nil IsNoSend)

-- what stands before a round's sends
abbrev before_sends : Setting → TraceContent → ℕ → List Line
before_sends setting trace round = map (entry_line round) (batch_at setting round).entries ++ flat_map (refused_line round) (raw_answers setting trace round)

without_sends : (setting : Setting) (trace : TraceContent) (round : ℕ) → All IsNoSend (before_sends setting trace round)
without_sends setting trace round =
    All-append IsNoSend (map (entry_line round) (batch_at setting round).entries) (flat_map (refused_line round) (raw_answers setting trace round)) (All-map IsNoSend (entry_line round) (batch_at setting round).entries (λ i d below. tt)) (refusals_all IsNoSend round (raw_answers setting trace round) (λ number. tt))

-- ---- the sends of a round

abbrev sends_in : Setting → ℕ → ℕ → List Slot
sends_in setting round src = sent_by setting.endpoints setting.b setting.g ((replayed setting (round + 1)).rounds src)

abbrev is_departure : ℕ → ℕ → Departure → Bool
is_departure slot src d = d.slot == slot && d.src == src

own_source : (slot src : ℕ) (ss : List Slot) → count_by (is_departure slot src) (map (departure src) ss) ≤ count_by (numbered slot) ss
own_source slot src [] = omega arith
own_source slot src (s ∷ ss) =
    let later = own_source slot src ss in
    let first = count-cons (is_departure slot src) (departure src s) (map (departure src) ss) in
    let second = count-cons (numbered slot) s ss in
    elim (cases_Bool (s.slot == slot)) [
      | inl is ↦
          let one : one_of (numbered slot) s ≡ 1 = cond-true (s.slot == slot) 1 0 is in
          omega (arith, first, second, later, one, at_most_one (is_departure slot src (departure src s)))
      | inr other ↦
          let none : one_of (is_departure slot src) (departure src s) ≡ 0 = cond-false (is_departure slot src (departure src s)) 1 0 (and_left (s.slot == slot) (src == src) other) in
          omega (arith, first, second, later, none)
    ]

other_source : (slot src e : ℕ) (ss : List Slot) → e ≢ src → count_by (is_departure slot src) (map (departure e) ss) ≡ 0
other_source slot src e ss other =
    count-none (is_departure slot src) (map (departure e) ss) (All-map (λ d. is_departure slot src d ≡ false) (departure e) ss (λ i d below. and_right _ (e == src) (ne_eqb e src other)))

-- over the first so many endpoints: none where the source isn't among them, and no more than it sends
sources_send : (setting : Setting) (round slot src count : ℕ) →
    let total : ℕ = count_by (is_departure slot src) (flat_map (departures_from setting round) (range_with_len 0 count)) in
    (count ≤ src → total ≡ 0) × (total ≤ count_by (numbered slot) (sends_in setting round src))
sources_send setting round slot src zero = (λ le. refl, omega arith)
sources_send setting round slot src (suc count) =
    let f : ℕ → List Departure = departures_from setting round in
    let p : Departure → Bool = is_departure slot src in
    let (none, few) = sources_send setting round slot src count in
    let one : suc count ≡ count + 1 = omega arith in
    let at : 0 + count ≡ count = omega arith in
    let split : count_by p (flat_map f (range_with_len 0 (suc count))) ≡ count_by p (flat_map f (range_with_len 0 count)) + count_by p (f count) =
    ap (λ (n : ℕ). count_by p (flat_map f (range_with_len 0 n))) one
    ∙ (ap (count_by p) (flat-last f 0 count)
    ∙ (count-append p (flat_map f (range_with_len 0 count)) (f (0 + count)) ∙ ap (λ (k : ℕ). count_by p (flat_map f (range_with_len 0 count)) + count_by p (f k)) at)) in
    elim (cases_Bool (count == src)) [
      | inl is ↦
          let same : count ≡ src = eqb-true count src is in
          let own : count_by p (f count) ≤ count_by (numbered slot) (sends_in setting round src) =
          subst (λ (e : ℕ). count_by p (f e) ≤ count_by (numbered slot) (sends_in setting round src)) (sym same) (own_source slot src (sends_in setting round src)) in (
            λ le. absurd (omega (arith, le, same)),
            omega (arith, split, none (omega (arith, same)), own),
          )
      | inr different ↦
          let other : count ≢ src = eqb-false count src different in
          let no : count_by p (f count) ≡ 0 = other_source slot src count (sends_in setting round count) other in
          (λ le. omega (arith, split, none (omega (arith, le)), no), omega (arith, split, few, no))
    ]

round_sends : (setting : Setting) (trace : TraceContent) (round slot src : ℕ) → count_by (is_send_in slot src) (round_lines setting trace round) ≤ count_by (numbered slot) (sends_in setting round src)
round_sends setting trace round slot src =
    let p : Line → Bool = is_send_in slot src in
    let before : List Line = before_sends setting trace round in
    let all : List Departure = flat_map (departures_from setting round) (range_with_len 0 setting.endpoints) in
    let sorted : List Departure = sort_by (λ d. d.slot) all in
    let sent : count_by p (map sent_line sorted) ≡ count_by (is_departure slot src) all = count-map p sent_line sorted ∙ count-sort (is_departure slot src) (λ d. d.slot) all in
    omega (arith, count-append p before (map sent_line sorted), none_counted slot src before (without_sends setting trace round), sent, (sources_send setting round slot src setting.endpoints).1)

rounds_send : (setting : Setting) (trace : TraceContent) (slot src rounds : ℕ) → count_by (is_send_in slot src) (replay_rounds_lines setting trace 0 rounds) ≤ count_by (numbered slot) (sent_up_to setting rounds src)
rounds_send setting trace slot src zero = omega arith
rounds_send setting trace slot src (suc round) =
    let p : Line → Bool = is_send_in slot src in
    let f : ℕ → List Line = round_lines setting trace in
    let one : suc round ≡ round + 1 = omega arith in
    let at : 0 + round ≡ round = omega arith in
    let split : count_by p (replay_rounds_lines setting trace 0 (suc round)) ≡ count_by p (replay_rounds_lines setting trace 0 round) + count_by p (f round) =
    ap (λ (n : ℕ). count_by p (flat_map f (range_with_len 0 n))) one
    ∙ (ap (count_by p) (flat-last f 0 round)
    ∙ (count-append p (replay_rounds_lines setting trace 0 round) (f (0 + round)) ∙ ap (λ (k : ℕ). count_by p (replay_rounds_lines setting trace 0 round) + count_by p (f k)) at)) in
    let now : List Slot = sent_by setting.endpoints setting.b setting.g ((replayed setting (suc round)).rounds src) in
    let same : count_by (numbered slot) (sends_in setting round src) ≡ count_by (numbered slot) now =
    ap (λ (n : ℕ). count_by (numbered slot) (sent_by setting.endpoints setting.b setting.g ((replayed setting n).rounds src))) (sym one) in
    omega (arith, split, rounds_send setting trace slot src round, round_sends setting trace round slot src, same, count-append (numbered slot) (sent_up_to setting round src) now)

-- ---- scheduled sends

round_scheduled : (setting : Setting) (trace : TraceContent) (round rounds : ℕ) → EverySendIsScheduled → 0 < setting.g → round < rounds → All (IsScheduledSend setting rounds) (round_lines setting trace round)
round_scheduled setting trace round rounds scheduled some below =
    let P : Line → Type 0 = IsScheduledSend setting rounds in
    let all : List Departure = flat_map (departures_from setting round) (range_with_len 0 setting.endpoints) in
    let one : round + 1 ≡ suc round = omega arith in
    let own : (src : ℕ) → All (λ d. P (sent_line d)) (departures_from setting round src) = λ src.
    All-map (λ d. P (sent_line d)) (departure src) (sends_in setting round src)
    (All-among (λ s. P (sent_line (departure src s))) (sends_in setting round src) (λ s among.
    let now : Among s (sent_by setting.endpoints setting.b setting.g ((replayed setting (suc round)).rounds src)) =
    subst (λ (n : ℕ). Among s (sent_by setting.endpoints setting.b setting.g ((replayed setting n).rounds src))) one among in
    scheduled setting some (suc round) rounds src (omega (arith, below)) s (Among-later s (sent_up_to setting round src) _ now))) in
    All-append P (before_sends setting trace round) (map sent_line (departures_in setting round)) (none_unscheduled setting rounds (before_sends setting trace round) (without_sends setting trace round))
    (All-map P sent_line (departures_in setting round) (All-sort_by (λ d. P (sent_line d)) (λ d. d.slot) all (All-flat (λ d. P (sent_line d)) (departures_from setting round) (range_with_len 0 setting.endpoints) own)))

rounds_scheduled : (setting : Setting) (trace : TraceContent) (first count rounds : ℕ) → EverySendIsScheduled → 0 < setting.g → first + count ≤ rounds → All (IsScheduledSend setting rounds) (replay_rounds_lines setting trace first count)
rounds_scheduled setting trace first zero rounds scheduled some within = All-nil (IsScheduledSend setting rounds)
rounds_scheduled setting trace first (suc count) rounds scheduled some within =
    let P : Line → Type 0 = IsScheduledSend setting rounds in
    let f : ℕ → List Line = round_lines setting trace in
    let one : count + 1 ≡ suc count = omega arith in
    subst (λ (n : ℕ). All P (flat_map f (range_with_len first n))) one
    (subst (All P) (sym (flat-last f first count))
    (All-append P (replay_rounds_lines setting trace first count) (f (first + count)) (rounds_scheduled setting trace first count rounds scheduled some (omega (arith, within))) (round_scheduled setting trace (first + count) rounds scheduled some (omega (arith, within)))))

pub collected_within : (g rounds steps : ℕ) → collected_after g rounds steps ≤ rounds
collected_within g rounds zero = omega arith
collected_within g rounds (suc steps) = omega (arith, collected_within g rounds steps)

step_scheduled : (cores : SlotCores) (setting : Setting) (trace : TraceContent) (step : ℕ) → EverySendIsScheduled → 0 < setting.g → All (IsScheduledSend setting trace.rounds) (step_lines cores setting trace step)
step_scheduled cores setting trace step scheduled some =
    let here : ℕ = collected_after setting.g trace.rounds step in
    let next : ℕ = collected_after setting.g trace.rounds (suc step) in
    let before : ℕ = collected_after setting.g trace.rounds (step - 1) in
    let within : here + (next - here) ≤ trace.rounds = omega (arith, collected_within setting.g trace.rounds step, collected_within setting.g trace.rounds (suc step)) in
    All-append (IsScheduledSend setting trace.rounds) (replay_rounds_lines setting trace here (next - here)) (replay_window_lines cores setting before here) (rounds_scheduled setting trace here (next - here) trace.rounds scheduled some within)
    (none_unscheduled setting trace.rounds (replay_window_lines cores setting before here) (slots_all IsNoSend cores (first_slot setting.b before) (slots_between setting before here) (λ number core_of flow. tt)))

-- ---- the whole text

pub sends_are_scheduled : (cores : SlotCores) (setting : Setting) (trace : TraceContent) → EverySendIsScheduled → NoSlotIsSentTwice → 0 < setting.g → SendsAreScheduled setting trace.rounds (replay_lines cores setting trace)
sends_are_scheduled cores setting trace scheduled once some =
    let P : Line → Type 0 = IsScheduledSend setting trace.rounds in
    let all : ℕ = steps_of setting trace in
    let steps : List Line = steps_lines cores setting trace all in
    let counts : List Line = counts_lines setting trace in
    let last : List Line = line.End trace.rounds ∷ [] in
    let no_counts : All IsNoSend counts = sources_all IsNoSend (λ flow. count_lines_of flow (replay_counts setting trace.rounds flow)) (endpoints_of trace.net) (λ src dst low high. count_without (record { src = src; dst = dst }) (replay_counts setting trace.rounds (record { src = src; dst = dst }))) in
    let no_last : All IsNoSend last = All-cons IsNoSend (line.End trace.rounds) [] tt (All-nil IsNoSend) in
    record {
      scheduled = All-append P (steps ++ counts) last
          (All-append P steps counts (All-flat P (step_lines cores setting trace) (range_with_len 0 all) (λ step. step_scheduled cores setting trace step scheduled some)) (none_unscheduled setting trace.rounds counts no_counts))
          (none_unscheduled setting trace.rounds last no_last);
      once = λ slot src.
          let p : Line → Bool = is_send_in slot src in
          let reached : ℕ = collected_after setting.g trace.rounds all in
          omega (
            arith,
            count-append p (steps ++ counts) last,
            count-append p steps counts,
            none_counted slot src counts no_counts,
            none_counted slot src last no_last,
            steps_sum (one_of p) cores setting trace all (λ number core_of flow. refl),
            rounds_send setting trace slot src reached,
            once setting some reached src slot,
          );
    }
