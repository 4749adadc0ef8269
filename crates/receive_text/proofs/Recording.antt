-- What the lanes of a desk answer and record of the packets that were received.
use Rattle.std.proofs.Common.{◌≡◌, ℕ, suc, ◌+◌, ◌<◌, ◌≤◌, List, [], ◌∷◌, ◌++◌, length, get_or, map, All, Option, Some, None, IfSome, slice_get, inl, inr, refl, sym, ap, subst, ◌∙◌, arith}
use Rattle.std.specs.List.{flat_map, range_with_len}
use Rattle.std.proofs.lemmas.List.{get_or-map, length-map}
use Rattle.std.proofs.lemmas.List.Elements.{All-nil, All-cons, All-map}
use Rattle.std.proofs.lemmas.Option.{slice_get-get_or}
use Rattle.clos_topology.specs.Network.{endpoints_of}
use Rattle.greedy_rules.specs.declared.flows.Entry.{Entry}
use Rattle.fcp_framing.specs.declared.refusal.FrameRefused.TheVariants as frame
use Rattle.arbiter_lane.specs.declared.refusal.UpRefused.{UpRefused}
use Rattle.arbiter_lane.specs.declared.refusal.UpRefused.TheVariants as refused
use Rattle.endpoint_history.specs.Lane.{LaneHistory}
use Rattle.trace_text.specs.Trace.{TraceContent, puts_at}
use Rattle.front_desk.specs.State.{LineState, recorded_line}
use Rattle.front_desk.specs.Answers.{answer_number, answers_after, answers_of, desk_entries_from, entries_of}
use Rattle.front_desk.proofs.Reading.{length-answers_after}
use Rattle.report_text.specs.Names.{IsAnswer}
use Rattle.receive_text.specs.ReceiveText.{answers_to, recorded_in, recorded_of, window_rounds}
use Rattle.receive_text.specs.Received.{HasReceived, HasWindows}
use Rattle.receive_text.proofs.Closing.{some_at}

-- ---- answers

low-answer : (n : ℕ) → n ≤ 12 → IsAnswer n
low-answer n low = inl low

high-answer : (n : ℕ) → 21 ≤ n → n ≤ 26 → IsAnswer n
high-answer n low high = inr (low, high)

has_name : (answer : Option UpRefused) → IsAnswer (answer_number answer)
has_name None = low-answer 0 (omega arith)
has_name (Some (refused.Frame frame.Short)) = low-answer 1 (omega arith)
has_name (Some (refused.Frame frame.Version)) = low-answer 2 (omega arith)
has_name (Some (refused.Frame frame.Kind)) = low-answer 3 (omega arith)
has_name (Some (refused.Frame frame.Endpoint)) = low-answer 4 (omega arith)
has_name (Some (refused.Frame frame.Count)) = low-answer 5 (omega arith)
has_name (Some (refused.Frame frame.Order)) = low-answer 6 (omega arith)
has_name (Some (refused.Frame frame.SelfFlow)) = low-answer 7 (omega arith)
has_name (Some (refused.Frame frame.TooMuch)) = low-answer 8 (omega arith)
has_name (Some (refused.Frame frame.Mask)) = low-answer 9 (omega arith)
has_name (Some (refused.Frame frame.Trailing)) = low-answer 10 (omega arith)
has_name (Some (refused.Frame frame.Epoch)) = low-answer 11 (omega arith)
has_name (Some (refused.Frame frame.Seq)) = low-answer 12 (omega arith)
has_name (Some refused.Unsynced) = high-answer 21 (omega arith) (omega arith)
has_name (Some refused.OldEpoch) = high-answer 22 (omega arith) (omega arith)
has_name (Some refused.OldSeq) = high-answer 23 (omega arith) (omega arith)
has_name (Some refused.Repeat) = high-answer 24 (omega arith) (omega arith)
has_name (Some refused.NotMine) = high-answer 25 (omega arith) (omega arith)
has_name (Some refused.OtherVersion) = high-answer 26 (omega arith) (omega arith)

all_named : (endpoint endpoints : ℕ) (packets : List (List ℕ)) (history : LaneHistory) → All IsAnswer (answers_after endpoint endpoints packets history)
all_named endpoint endpoints [] history = All-nil IsAnswer
all_named endpoint endpoints (bytes ∷ packets) history = All-cons IsAnswer _ _ (has_name _) (all_named endpoint endpoints packets _)

pub answers-many : (trace : TraceContent) (endpoint : ℕ) → length (answers_to trace endpoint) ≡ length (puts_at trace endpoint)
answers-many trace endpoint = length-answers_after endpoint (endpoints_of trace.net) (puts_at trace endpoint) _

pub answers-named : (trace : TraceContent) (endpoint place : ℕ) → place < length (answers_to trace endpoint) → IsAnswer (get_or (answers_to trace endpoint) place 0)
answers-named trace endpoint place low = all_named endpoint (endpoints_of trace.net) (puts_at trace endpoint) _ place 0 low

-- the desk's answer to a packet that was received
pub answered : (trace : TraceContent) (desk : List LineState) (endpoint place answer : ℕ) → HasReceived trace desk → endpoint < endpoints_of trace.net
    → IfSome (slice_get desk endpoint) (λ line. slice_get (answers_of endpoint (length desk) line.taken) place ≡ Some answer) → slice_get (answers_to trace endpoint) place ≡ Some answer
answered trace desk endpoint place answer received low told =
    let below : endpoint < length desk = omega (arith, received.endpoints, low) in
    let d = some_at desk endpoint below in
    let here : slice_get (answers_of endpoint (length desk) (get_or desk endpoint d).taken) place ≡ Some answer =
    subst (λ (o : Option LineState). IfSome o (λ line. slice_get (answers_of endpoint (length desk) line.taken) place ≡ Some answer)) (slice_get-get_or desk endpoint d below) told in
    ap (λ (packets : List (List ℕ)). slice_get (answers_of endpoint (endpoints_of trace.net) packets) place) (sym (received.taken endpoint d below))
    ∙ (ap (λ n. slice_get (answers_of endpoint n (get_or desk endpoint d).taken) place) (sym received.endpoints) ∙ here)

-- as many were taken as are put
pub taken-many : (trace : TraceContent) (desk : List LineState) (endpoint place : ℕ) → HasReceived trace desk → endpoint < endpoints_of trace.net → place < length (puts_at trace endpoint)
    → IfSome (slice_get desk endpoint) (λ (line : LineState). place < length line.taken)
taken-many trace desk endpoint place received low many =
    let below : endpoint < length desk = omega (arith, received.endpoints, low) in
    let d = some_at desk endpoint below in
    subst (λ (o : Option LineState). IfSome o (λ (line : LineState). place < length line.taken)) (sym (slice_get-get_or desk endpoint d below))
    (omega (arith, many, ap (λ (packets : List (List ℕ)). length packets) (received.taken endpoint d below)))

-- ---- what is recorded

entries-of : (trace : TraceContent) (first : ℕ) (lines : List LineState) → ((at : ℕ) (d : LineState) → at < length lines → (get_or lines at d).taken ≡ puts_at trace (first + at)) → HasWindows lines
    → desk_entries_from (endpoints_of trace.net) first lines ≡ flat_map (recorded_of trace) (range_with_len first (length lines))
entries-of trace first [] taken windows = refl
entries-of trace first (line ∷ lines) taken windows =
    let here : line.taken ≡ puts_at trace first = taken 0 line (omega arith) ∙ ap (puts_at trace) (omega arith) in
    let window : line.g ≡ window_rounds = windows 0 line (omega arith) in
    ap (λ (packets : List (List ℕ)). entries_of first (endpoints_of trace.net) line.g packets ++ desk_entries_from (endpoints_of trace.net) (first + 1) lines) here
    ∙ (ap (λ g. entries_of first (endpoints_of trace.net) g (puts_at trace first) ++ desk_entries_from (endpoints_of trace.net) (first + 1) lines) window
    ∙ ap (λ (entries : List Entry). recorded_of trace first ++ entries)
    (entries-of trace (first + 1) lines (λ at d low. taken (suc at) d (omega arith) ∙ ap (puts_at trace) (omega arith)) (λ at d low. windows (suc at) d (omega arith))))

pub entries-received : (trace : TraceContent) (desk : List LineState) → HasReceived trace desk → desk_entries_from (length desk) 0 desk ≡ recorded_in trace
entries-received trace desk received =
    ap (λ n. desk_entries_from n 0 desk) received.endpoints
    ∙ (entries-of trace 0 desk (λ at d low. received.taken at d low ∙ ap (puts_at trace) (omega arith)) received.windows
    ∙ ap (λ n. flat_map (recorded_of trace) (range_with_len 0 n)) received.endpoints)

-- a desk has received what it has when its entries are recorded
pub recorded-received : (trace : TraceContent) (desk : List LineState) → HasReceived trace desk → HasReceived trace (map recorded_line desk)
recorded-received trace desk received = record {
  endpoints = length-map desk recorded_line ∙ received.endpoints;
  taken = λ endpoint d low.
      let below : endpoint < length desk = omega (arith, length-map desk recorded_line, low) in
      ap (λ (l : LineState). l.taken) (get_or-map recorded_line desk endpoint d d below) ∙ received.taken endpoint d below;
  windows = All-map (λ (l : LineState). l.g ≡ window_rounds) recorded_line desk received.windows;
}
