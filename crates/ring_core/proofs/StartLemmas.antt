-- A ring as a window begins.
use Rattle.std.proofs.Common.{◌≡◌, ◌<◌, ◌≤◌, ◌+◌, ◌-◌, ◌*◌, ◌^◌, ℕ, zero, suc, Bool, cond, nat_eq, nat_le, List, [], ◌∷◌, ◌++◌, length, set, get_or, Option, Some, None, slice_get, All, refl, sym, ap, ◌∙◌, subst, arith, inl, inr, length-append, length-set, append_assoc}
use Rattle.std.proofs.lemmas.Nat.{mod-mul-add, mul-le}
use Rattle.std.proofs.lemmas.List.FromFn.{length-map-range_with_len}
use Rattle.std.proofs.lemmas.Bool.{cases_lt, ne_eqb, lt-leb, le-leb}
use Rattle.std.proofs.lemmas.Option.{slice_get-get_or, slice_get_within}
use Rattle.std.proofs.lemmas.List.{get_or_default, drop_at}
use Rattle.std.proofs.lemmas.List.Elements.{All-drop}
use Rattle.greedy_rules.specs.declared.flows.Item.{Item}
use Rattle.greedy_rules.specs.Batches.{DemandBatch}
use Rattle.greedy_rules.specs.Demands.{AreBelow, opened}
use Rattle.greedy_rules.specs.Recorded.{Applies, MayBeApplied}
use Rattle.greedy_rules.specs.Room.{FlowsFitPairs}
use Rattle.greedy_rules.specs.Schedule.{first_slot, list_then}
use Rattle.slot_batches.specs.NextList.{IsListBefore, EveryBatchKeepsItsFlows}
use Rattle.slot_batches.specs.Pieces.{Part, piece_count, pieces}
use Rattle.ring_core.specs.States.{EdgeState, RingState, WorkerState}
use Rattle.ring_core.specs.Workers.{IsWorker, MayBegin, IsWorkerWindow, HasBegunWith, Plays, first_ends}
use Rattle.ring_core.specs.Cores.{IsRing, IsAtRest, MayStart, IsPlaying, pairs_of, window_in}
use Rattle.ring_core.proofs.EdgeLemmas.{room_kept}
use Rattle.ring_core.specs.Windows.{Window, MayBePlayed, list_after, list_before_stage, batch_of_stage, batch_of, pieces_before, worker_of, worker_after, window_of}
use Rattle.ring_core.specs.Streams.{EdgeInto, pieces_at, pieces_into, edge_stream}
use Rattle.ring_core.specs.Ends.{WorkerEnds}
use Rattle.ring_core.specs.Edges.{between, Holds, AllHold, StreamsAreShort, taken_of, sent_on_edge, taken_at, sent_at, room_at, ends_between}
use Rattle.ring_core.specs.Openings.{crew_openings}
use Rattle.ring_core.proofs.WindowLemmas.{few_pieces}
use Rattle.ring_core.proofs.OpeningLemmas.{crew_and_list, lists_fit}
use Rattle.ring_core.proofs.StreamLemmas.{at_own, into_none, into_step, into_short, after_small, after_last}
use Rattle.ring_core.proofs.PlayLemmas.{get_set_same, get_set_other}

applies_each : (endpoints b k : ℕ) (list : List Item) (batches : List DemandBatch) → MayBeApplied endpoints b k list batches → (stage : ℕ) → stage < length batches → Applies endpoints (batch_of_stage batches stage) (list_after b k list batches stage)
applies_each endpoints b k list [] may stage below = absurd (omega arith)
applies_each endpoints b k list (batch ∷ batches) may zero below = may.0
applies_each endpoints b k list (batch ∷ batches) may (suc stage) below = applies_each endpoints b (k + 1) (list_then b k batch list) batches may.1 stage (omega arith)

pub window_applies : (endpoints : ℕ) (window : Window) → MayBeApplied endpoints window.b window.first_batch window.list window.batches → (stage : ℕ) → stage < length window.batches → Applies endpoints (batch_of window stage) (list_before_stage window stage)
unfolding list_before_stage
window_applies endpoints window may = applies_each endpoints window.b window.first_batch window.list window.batches may

pub first_pieces : (window : Window) → pieces 0 (list_before_stage window 0) ≡ pieces 0 window.list
unfolding list_before_stage
first_pieces window = refl

pub first_count : (window : Window) → piece_count window.list ≡ pieces_before window 0
unfolding list_before_stage
first_count window = refl

pub streams_short : (endpoints : ℕ) (window : Window) → MayBePlayed endpoints window → EveryBatchKeepsItsFlows → FlowsFitPairs → StreamsAreShort window
unfolding edge_stream
streams_short endpoints window may keeps pairs worker =
    let short = into_short window worker (few_pieces endpoints window may keeps pairs) (length window.batches + 1) (omega arith) in
    omega (arith, short, may.few_batches)

-- the positions as the window begins
no_edge : (f : Option EdgeState → ℕ) (o : Option EdgeState) → f None ≡ 0 → ((e : EdgeState) → o ≡ Some e → f (Some e) ≡ 0) → f o ≡ 0
no_edge f None none some = none
no_edge f (Some e) none some = some e refl

abbrev pub AreEmptied : List EdgeState → Type 0
AreEmptied edges = (number : ℕ) (edge : EdgeState) → slice_get edges number ≡ Some edge → (edge.pieces ≡ []) × (edge.taken ≡ 0) × (edge.sent ≡ 0)

pub none_taken : (edges : List EdgeState) (first : EdgeState) → AreEmptied edges → first.taken ≡ 0 → (number : ℕ) → taken_at (set edges 0 first) number ≡ 0
none_taken [] first empty none number = refl
none_taken (e ∷ es) first empty none zero = none
none_taken (e ∷ es) first empty none (suc number) = no_edge taken_of (slice_get es number) refl (λ edge is. (empty (suc number) edge is).1)

pub list_sent : (edges : List EdgeState) (first : EdgeState) (count : ℕ) → AreEmptied edges → 0 < length edges → first.sent ≡ count → (number : ℕ) → sent_at (set edges 0 first) number ≡ cond (nat_eq number 0) count 0
list_sent [] first count empty some sent number = absurd (omega arith)
list_sent (e ∷ es) first count empty some sent zero = sent
list_sent (e ∷ es) first count empty some sent (suc number) =
    no_edge sent_on_edge (slice_get es number) refl (λ edge is. (empty (suc number) edge is).2) ∙ sym (ap (λ (b : Bool). cond b count 0) (ne_eqb (suc number) 0 (λ q. omega (arith, q))))

-- the window's list is the front of the stream into worker 0
pub front_of : (window : Window) (worker d s : ℕ) → (rest : List Part) × (pieces_into window worker (s + d) ≡ pieces_into window worker s ++ rest)
front_of window worker zero s = ([], ap (pieces_into window worker) (let q : s + 0 ≡ s = omega arith in q) ∙ sym (nil_end (pieces_into window worker s)))
  where
    nil_end : (ps : List Part) → ps ++ [] ≡ ps
    nil_end [] = refl
    nil_end (p ∷ ps) = ap (λ (qs : List Part). p ∷ qs) (nil_end ps)
front_of window worker (suc d) s =
    let before = front_of window worker d s in
    let on : s + suc d ≡ suc (s + d) = omega arith in (
      before.0 ++ pieces_at window worker (s + d),
      ap (pieces_into window worker) on
          ∙ (ap (λ (ps : List Part). ps ++ pieces_at window worker (s + d)) before.1 ∙ append_assoc (pieces_into window worker s) before.0 (pieces_at window worker (s + d))),
    )

pub between_front : {A : Type 0} (xs ys : List A) (n : ℕ) → n ≡ length xs → between 0 n (xs ++ ys) ≡ xs
between_front [] ys zero is = refl
between_front [] ys (suc n) is = absurd (omega (arith, is))
between_front (x ∷ xs) ys zero is = absurd (omega (arith, is))
between_front {A} (x ∷ xs) ys (suc n) is = ap (λ (zs : List A). x ∷ zs) (between_front xs ys n (omega (arith, is)))

pub own_zero : (workers : ℕ) → 0 < workers → worker_of workers 0 ≡ 0
own_zero workers some = ap (worker_of workers) (let q : 0 ≡ 0 * workers + 0 = omega arith in q) ∙ mod-mul-add 0 workers 0 some

holds_first : (window : Window) (edge : EdgeState) → 0 < window.workers → edge.pieces ≡ pieces 0 window.list → edge.taken ≡ 0 → edge.sent ≡ piece_count window.list → Holds (record { window = window; worker = 0 }) edge
unfolding edge_stream
holds_first window edge some held taken sent =
    let front : pieces_into window 0 1 ≡ pieces 0 window.list = at_own window 0 0 (own_zero window.workers some) ∙ first_pieces window in
    let all = front_of window 0 (length window.batches) 1 in
    let on : length window.batches + 1 ≡ 1 + length window.batches = omega arith in
    let stream : pieces_into window 0 (length window.batches + 1) ≡ pieces 0 window.list ++ all.0 = ap (pieces_into window 0) on ∙ (all.1 ∙ ap (λ (ps : List Part). ps ++ all.0) front) in
    let count : length (pieces 0 window.list) ≡ piece_count window.list = length-map-range_with_len _ 0 (piece_count window.list) in
    record {
      order = omega (arith, taken);
      within = omega (arith, sent, ap length stream, length-append (pieces 0 window.list) all.0, count);
      pieces = held ∙ (sym (between_front (pieces 0 window.list) all.0 edge.sent (sent ∙ sym count)) ∙ (λ i. between (sym taken i) edge.sent (sym stream i)));
    }

holds_none : (into : EdgeInto) (edge : EdgeState) → edge.pieces ≡ [] → edge.taken ≡ 0 → edge.sent ≡ 0 → Holds into edge
holds_none into edge items taken sent = record {
  order = omega (arith, taken);
  within = omega (arith, sent);
  pieces = items ∙ (λ i. between (sym taken i) (sym sent i) (edge_stream into));
}

pub all_hold : (window : Window) (edges : List EdgeState) (first : EdgeState) → 0 < window.workers → AreEmptied edges → first.pieces ≡ pieces 0 window.list → first.taken ≡ 0 → first.sent ≡ piece_count window.list → AllHold window (set edges 0 first)
all_hold window edges first some empty held taken sent = record {
  each = λ number edge is. elim (cases_lt 0 number) [
    | inl later ↦
        let it = empty number edge (sym (get_set_other edges 0 number first (λ q. omega (arith, q, later))) ∙ is) in
        holds_none (record { window = window; worker = number }) edge it.0 it.1 it.2
    | inr here ↦
        let at : number ≡ 0 = omega (arith, here) in
        let same : edge ≡ first = get_set_same edges 0 first edge (ap (slice_get (set edges 0 first)) (sym at) ∙ is) in
        subst (λ (n : ℕ). Holds (record { window = window; worker = n }) edge) (sym at) (subst (λ (e : EdgeState). Holds (record { window = window; worker = 0 }) e) (sym same) (holds_first window first some held taken sent))
  ];
}

-- what each worker finds sent
pub found_sent : (window : Window) (worker : ℕ) → 0 < window.workers → worker < window.workers
    → (cond (nat_le window.workers (worker + 1)) (pieces_before window 0) 0 ≡ length (pieces_into window (worker_after window.workers worker) (worker + 1)))
    × (cond (nat_eq (worker_after window.workers worker) 0) (pieces_before window 0) 0 ≡ length (pieces_into window (worker_after window.workers worker) (worker + 1)))
found_sent window worker some below = elim (cases_lt (worker + 1) window.workers) [
  | inl small ↦
      let after = after_small window.workers worker small in
      let none : length (pieces_into window (worker_after window.workers worker) (worker + 1)) ≡ 0 =
      ap (λ (n : ℕ). length (pieces_into window n (worker + 1))) after ∙ ap length (into_none window (worker + 1) (worker + 1) small (omega arith)) in
      (ap (λ (b : Bool). cond b (pieces_before window 0) 0) (lt-leb window.workers (worker + 1) small) ∙ sym none, ap (λ (b : Bool). cond b (pieces_before window 0) 0) (ne_eqb (worker_after window.workers worker) 0 (λ q. omega (arith, q, after))) ∙ sym none)
  | inr last ↦
      let after = after_last window.workers worker below last in
      let turned : worker + 1 ≡ 0 + window.workers = omega (arith, below, last) in
      let all : length (pieces_into window (worker_after window.workers worker) (worker + 1)) ≡ pieces_before window 0 =
      (λ i. length (pieces_into window (after i) (turned i))) ∙ (into_step window 0 0 some (own_zero window.workers some) ∙ (let q : 0 + pieces_before window 0 ≡ pieces_before window 0 = omega arith in q)) in
      (ap (λ (b : Bool). cond b (pieces_before window 0) 0) (le-leb window.workers (worker + 1) last) ∙ sym all, ap (λ (n : ℕ). cond (nat_eq n 0) (pieces_before window 0) 0) after ∙ sym all)
]

-- what a window begins with
pub record Starts (core : RingState) (first : ℕ) (batches : List DemandBatch) (list : List Item) : Type 0 where
  pub ring : IsRing core
  pub endpoints : core.endpoints ≤ 256
  pub count : length batches ≤ core.batches
  pub may : MayBeApplied core.endpoints core.b first list batches
  pub before : IsListBefore (first_slot core.b first) list
  pub numbers : first_slot core.b (first + length batches) ≤ 2 ^ 32
  pub few : length list ≤ 65536

pub few_pairs : (endpoints : ℕ) → endpoints ≤ 256 → endpoints * (endpoints - 1) ≤ 65536
few_pairs endpoints few = omega (arith, mul-le endpoints (endpoints - 1) 256 256 few (omega (arith, few)))

pub starts_at : (core : RingState) (first : ℕ) (batches : List DemandBatch) (list : List Item) → IsAtRest core → MayStart core first batches list → Starts core first batches list
starts_at core first batches list rest may = record {
  ring = rest.ring;
  endpoints = may.few_endpoints;
  count = may.count;
  may = may.may;
  before = may.before;
  numbers = may.numbers;
  few = omega (arith, may.fits, few_pairs core.endpoints may.few_endpoints);
}

module _ (core : RingState) (first : ℕ) (batches : List DemandBatch) (list : List Item) (starts : Starts core first batches list) where
  abbrev window : Window
  window = window_of list batches first core.b core.workers

  pub may_be_played : MayBePlayed core.endpoints window
  may_be_played = record {
    few_endpoints = starts.endpoints;
    some_workers = starts.ring.some_workers;
    few_workers = starts.ring.few_workers;
    few_batches = omega (arith, starts.count, starts.ring.few_batches);
    applies = window_applies core.endpoints window starts.may;
    before = subst (λ (n : ℕ). IsListBefore (first_slot core.b n) list) (let q : first ≡ first + 0 = omega arith in q) starts.before;
    few_items = starts.few;
    numbers = starts.numbers;
  }

  pub may_begin : (number : ℕ) (worker : WorkerState) → slice_get core.crew number ≡ Some worker → IsWorker worker × MayBegin worker first batches
  may_begin number worker is =
      let it = starts.ring.each number worker is in
      let range : All (λ batch. AreBelow core.endpoints (opened batch.entries)) batches = λ k d below.
      let applies = window_applies core.endpoints window starts.may k below in
      let same : batch_of_stage batches k ≡ get_or batches k d = get_or_default batches k _ d below in
      let opened_below : AreBelow core.endpoints (opened (batch_of_stage batches k).entries) =
      subst (AreBelow core.endpoints) (drop_at (list_before_stage window k) (opened (batch_of_stage batches k).entries) (length (list_before_stage window k)) refl)
      (All-drop (λ (item : Item). (item.flow.src < core.endpoints) × (item.flow.dst < core.endpoints)) (length (list_before_stage window k)) (list_before_stage window k ++ opened (batch_of_stage batches k).entries) applies.below) in
      subst (λ (batch : DemandBatch). AreBelow core.endpoints (opened batch.entries)) same opened_below in (
        it.is_worker,
        record {
          most = omega (arith, starts.count, it.batches_is);
          in_range = subst (λ (n : ℕ). All (λ (batch : DemandBatch). AreBelow n (opened batch.entries)) batches) (sym it.endpoints_is) range;
          numbers = subst (λ (n : ℕ). (first + length batches) * n + 1 ≤ 4294967296) (sym it.b_is) starts.numbers;
        },
      )

  pub is_window : (number : ℕ) (worker : WorkerState) → slice_get core.crew number ≡ Some worker → IsWorkerWindow worker first batches window
  is_window number worker is =
      let it = starts.ring.each number worker is in
      record {
        may = subst (λ (n : ℕ). MayBePlayed n window) (sym it.endpoints_is) may_be_played;
        batches_are = refl;
        first_is = refl;
        b_is = sym it.b_is;
        workers_are = sym it.workers_is;
      }

  -- each worker plays from its first ends
  pub plays_first : (edges : List EdgeState) (pieces : ℕ) (number : ℕ) (old new : WorkerState) → pieces ≡ pieces_before window 0 → slice_get core.crew number ≡ Some old
      → HasBegunWith first batches (cond (nat_le old.workers (old.number + 1)) pieces 0) old new → ((k : ℕ) → taken_at edges k ≡ 0) → ((k : ℕ) → sent_at edges k ≡ cond (nat_eq k 0) (pieces_before window 0) 0)
      → Plays batches (ends_between window edges number (worker_after core.workers number)) new
  plays_first edges pieces number old new pieces_is is begun taken sent =
      let it = starts.ring.each number old is in
      let below : number < core.workers = omega (arith, slice_get_within core.crew number old is, starts.ring.worker_count) in
      let found = found_sent window number starts.ring.some_workers below in
      let sent_is : cond (nat_le old.workers (old.number + 1)) pieces 0 ≡ (first_ends window old.number).sent =
      (λ i. cond (nat_le (it.workers_is i) (it.number_is i + 1)) (pieces_is i) 0)
      ∙ (found.0 ∙ (λ i. (first_ends window (sym it.number_is i)).sent)) in
      let plays : Plays batches (first_ends window old.number) new = begun.plays window (is_window number old is) sent_is in
      let there : first_ends window number ≡ ends_between window edges number (worker_after core.workers number) =
      λ i. record {
        before = record { window = window; worker = number };
        after = record { window = window; worker = worker_after core.workers number };
        taken = sym (taken number) i;
        sent = (sym found.1 ∙ sym (sent (worker_after core.workers number))) i;
      } in
      subst (λ (e : WorkerEnds). Plays batches e new) (ap (first_ends window) it.number_is ∙ there) plays

  -- the nodes that the stages take, beside those of the list's items
  pub nodes_found : EveryBatchKeepsItsFlows → FlowsFitPairs → length list ≤ pairs_of core.endpoints
      → (crew_openings batches core.crew + length list ≡ length (list_before_stage window (length batches))) × (length (list_before_stage window (length batches)) ≤ pairs_of core.endpoints)
  nodes_found keeps pairs fits = (
    crew_and_list window core.crew starts.ring.some_workers starts.ring.worker_count
        (λ number w is. let it = starts.ring.each number w is in (it.workers_is, omega (arith, it.number_is), omega (arith, it.is_worker.enough, it.batches_is, starts.count))) keeps,
    lists_fit core.endpoints window may_be_played keeps pairs fits (length batches) (omega arith),
  )

  -- and so the ring plays the window
  pub ring_playing : (next : RingState) (empty : List EdgeState) (edge : EdgeState) (crew : List WorkerState) (pieces_sent : ℕ) → window_in batches next ≡ window → next.workers ≡ core.workers → next.endpoints ≡ core.endpoints → next.batches ≡ core.batches → next.b ≡ core.b → next.room ≡ core.room → next.stages ≡ length batches
      → next.edges ≡ set empty 0 edge → next.crew ≡ crew → length empty ≡ length core.edges → AreEmptied empty → ((number : ℕ) → room_at empty number ≡ room_at core.edges number)
      → edge.pieces ≡ pieces 0 list → edge.taken ≡ 0 → edge.sent ≡ piece_count list → edge.room ≡ room_at empty 0 → pieces_sent ≡ piece_count list → length crew ≡ length core.crew
      → ((number : ℕ) (old new : WorkerState) → slice_get core.crew number ≡ Some old → slice_get crew number ≡ Some new → HasBegunWith first batches (cond (nat_le old.workers (old.number + 1)) pieces_sent 0) old new)
      → next.spare + length (list_before_stage window (length batches)) ≡ pairs_of core.endpoints → EveryBatchKeepsItsFlows → FlowsFitPairs → IsPlaying batches next
  ring_playing next empty edge crew pieces_sent window_is workers_is endpoints_is batches_is b_is room_is stages_is edges_are crew_is count emptied rooms held taken sent room sent_is crew_count begun nodes keeps pairs =
      let some : 0 < length empty = omega (arith, count, starts.ring.edge_count, starts.ring.some_workers) in
      let here : pieces_sent ≡ pieces_before window 0 = sent_is ∙ first_count window in
      let sent_here : edge.sent ≡ pieces_before window 0 = sent ∙ first_count window in
      let old_of : (number : ℕ) (new : WorkerState) → slice_get crew number ≡ Some new → slice_get core.crew number ≡ Some (get_or core.crew number new) =
      λ number new is. slice_get-get_or core.crew number new (omega (arith, slice_get_within crew number new is, crew_count)) in
      record {
        ring = record {
          some_workers = omega (arith, workers_is, starts.ring.some_workers);
          few_workers = omega (arith, workers_is, starts.ring.few_workers);
          few_batches = omega (arith, batches_is, starts.ring.few_batches);
          edge_count = ap length edges_are ∙ (length-set empty 0 edge ∙ (count ∙ (starts.ring.edge_count ∙ sym workers_is)));
          worker_count = ap length crew_is ∙ (crew_count ∙ (starts.ring.worker_count ∙ sym workers_is));
          rooms = λ number within. ap (λ (es : List EdgeState). room_at es number) edges_are
              ∙ (room_kept empty 0 edge number room some ∙ (rooms number ∙ (starts.ring.rooms number (omega (arith, within, workers_is)) ∙ sym room_is)));
          each = λ number new is.
              let there = ap (λ (ws : List WorkerState). slice_get ws number) (sym crew_is) ∙ is in
              let old = old_of number new there in
              let it = starts.ring.each number (get_or core.crew number new) old in
              let was = begun number (get_or core.crew number new) new old there in
              record {
                is_worker = was.is_worker;
                number_is = was.same.same_number ∙ it.number_is;
                workers_is = was.same.same_workers ∙ (it.workers_is ∙ sym workers_is);
                endpoints_is = was.same.same_endpoints ∙ (it.endpoints_is ∙ sym endpoints_is);
                batches_is = was.same.same_batches ∙ (it.batches_is ∙ sym batches_is);
                b_is = was.same.same_b ∙ (it.b_is ∙ sym b_is);
              };
        };
        stages = stages_is;
        may = subst (λ (n : ℕ). MayBePlayed n (window_in batches next)) (sym endpoints_is) (subst (MayBePlayed core.endpoints) (sym window_is) may_be_played);
        short = subst StreamsAreShort (sym window_is) (streams_short core.endpoints window may_be_played keeps pairs);
        holds = subst (λ (w : Window). AllHold w next.edges) (sym window_is) (subst (AllHold window) (sym edges_are) (all_hold window empty edge starts.ring.some_workers emptied held taken sent));
        nodes = subst (λ (n : ℕ). next.spare + length (list_before_stage (window_in batches next) (length batches)) ≡ pairs_of n) (sym endpoints_is) (subst (λ (w : Window). next.spare + length (list_before_stage w (length batches)) ≡ pairs_of core.endpoints) (sym window_is) nodes);
        plays = λ number new is.
            let there = ap (λ (ws : List WorkerState). slice_get ws number) (sym crew_is) ∙ is in
            let old = old_of number new there in
            let plays = plays_first (set empty 0 edge) pieces_sent number (get_or core.crew number new) new here old (begun number (get_or core.crew number new) new old there)
            (none_taken empty edge emptied taken) (list_sent empty edge (pieces_before window 0) emptied some sent_here) in
            subst (λ (n : ℕ). Plays batches (ends_between (window_in batches next) next.edges number (worker_after n number)) new) (sym workers_is)
            (subst (λ (w : Window). Plays batches (ends_between w next.edges number (worker_after core.workers number)) new) (sym window_is)
            (subst (λ (es : List EdgeState). Plays batches (ends_between window es number (worker_after core.workers number)) new) (sym edges_are) plays));
      }
