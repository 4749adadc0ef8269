-- The list and the slots that a ring is left with.
use Rattle.std.proofs.Common.{◌≡◌, ◌<◌, ◌≤◌, ◌+◌, ◌-◌, ◌*◌, ◌/◌, ◌%◌, ◌^◌, ℕ, zero, suc, List, [], ◌∷◌, ◌++◌, length, map, take, drop, replicate, Some, slice_get, refl, sym, ap, ◌∙◌, arith}
use Rattle.std.specs.List.{range_with_len}
use Rattle.std.proofs.lemmas.Nat.{div-add-mod'}
use Rattle.std.proofs.lemmas.List.{append-nil, append_assoc, length-append, length-replicate, length-take-le, take-append-drop, take_all, take_at, drop_all, drop-replicate}
use Rattle.list_facts.proofs.Lists.{take_on}
use Rattle.greedy_rules.specs.declared.flows.Flow.{Flow}
use Rattle.greedy_rules.specs.declared.flows.Item.{Item}
use Rattle.greedy_rules.specs.Batches.{DemandBatch}
use Rattle.greedy_rules.specs.Schedule.{slots_then, list_then, schedule_from, rest_from}
use Rattle.greedy_rules.proofs.TableLemmas.{next_row}
use Rattle.slot_batches.specs.Pieces.{piece_count, piece_at, pieces}
use Rattle.ring_core.specs.States.{EdgeState, RingState, WorkerState}
use Rattle.ring_core.specs.Windows.{Window, batch_of_stage, list_after, list_before_stage, slots_of_stage, worker_of}
use Rattle.ring_core.specs.Streams.{EdgeInto, edge_stream, items_of}
use Rattle.ring_core.specs.Workers.{own_stage, IsEndedStage}
use Rattle.ring_core.specs.Cores.{IsRing, IsAtRest, IsPlaying, IsFinished, pairs_of, ends_in, window_in}
use Rattle.ring_core.specs.Edges.{room_at}
use Rattle.ring_core.proofs.StreamLemmas.{at_own}
use Rattle.ring_core.proofs.BeginLemmas.{own_before}
use Rattle.ring_core.proofs.EdgeLemmas.{between_length}
use Rattle.ring_core.proofs.EndLemmas.{last_list}
use Rattle.ring_core.proofs.GoneLemmas.{all_gone}
use Rattle.ring_core.proofs.StartLemmas.{AreEmptied, few_pairs}

schedule_more : (b k : ℕ) (list : List Item) (batches : List DemandBatch) (t : ℕ) → t < length batches
    → schedule_from b k list (take (suc t) batches) ≡ schedule_from b k list (take t batches) ++ slots_then b (k + t) (batch_of_stage batches t) (list_after b k list batches t)
schedule_more b k list [] t below = absurd (omega arith)
schedule_more b k list (batch ∷ batches) zero below = append-nil (slots_then b k batch list) ∙ ap (λ (n : ℕ). slots_then b n batch list) (let q : k ≡ k + 0 = omega arith in q)
schedule_more b k list (batch ∷ batches) (suc t) below =
    let then : List Item = list_then b k batch list in
    let on : k + 1 + t ≡ k + suc t = omega arith in
    ap (λ (xs : List (List Flow)). slots_then b k batch list ++ xs)
    (schedule_more b (k + 1) then batches t (omega arith) ∙ ap (λ (n : ℕ). schedule_from b (k + 1) then (take t batches) ++ slots_then b n (batch_of_stage batches t) (list_after b (k + 1) then batches t)) on)
    ∙ sym (append_assoc (slots_then b k batch list) (schedule_from b (k + 1) then (take t batches)) (slots_then b (k + suc t) (batch_of_stage batches t) (list_after b (k + 1) then batches t)))

-- the slots of one stage more
pub slots_more : (window : Window) (t : ℕ) → t < length window.batches
    → schedule_from window.b window.first_batch window.list (take (t + 1) window.batches) ≡ schedule_from window.b window.first_batch window.list (take t window.batches) ++ slots_of_stage window t
unfolding list_before_stage
slots_more window t below =
    ap (λ (n : ℕ). schedule_from window.b window.first_batch window.list (take n window.batches)) (let q : t + 1 ≡ suc t = omega arith in q)
    ∙ schedule_more window.b window.first_batch window.list window.batches t below

rest_is : (b k : ℕ) (list : List Item) (batches : List DemandBatch) → list_after b k list batches (length batches) ≡ rest_from b k list batches
rest_is b k list [] = refl
rest_is b k list (batch ∷ batches) = rest_is b (k + 1) (list_then b k batch list) batches

-- the list after the last stage
pub last_is : (window : Window) → list_before_stage window (length window.batches) ≡ rest_from window.b window.first_batch window.list window.batches
unfolding list_before_stage
last_is window = rest_is window.b window.first_batch window.list window.batches

drop_on : {X : Type 0} (n m : ℕ) (xs : List X) → drop m (drop n xs) ≡ drop (n + m) xs
drop_on zero m xs = ap (λ (k : ℕ). drop k xs) (let q : m ≡ 0 + m = omega arith in q)
drop_on {X} (suc n) m [] = drop_all m [] (omega arith) ∙ sym (drop_all {X = X} (suc n + m) [] (omega arith))
drop_on (suc n) m (x ∷ xs) = drop_on n m xs ∙ ap (λ (k : ℕ). drop k (x ∷ xs)) (let q : suc (n + m) ≡ suc n + m = omega arith in q)

items_from : (stage : ℕ) (list : List Item) (a n : ℕ) → items_of (map (piece_at stage list) (range_with_len a n)) ≡ take (64 * n) (drop (64 * a) list)
items_from stage list a zero = refl
items_from stage list a (suc n) =
    let on : 64 * a + 64 ≡ 64 * (a + 1) = omega arith in
    let all : 64 + 64 * n ≡ 64 * suc n = omega arith in
    ap (λ (xs : List Item). take 64 (drop (64 * a) list) ++ xs) (items_from stage list (a + 1) n)
    ∙ (ap (λ (xs : List Item). take 64 (drop (64 * a) list) ++ take (64 * n) xs) (sym (drop_on (64 * a) 64 list ∙ ap (λ (k : ℕ). drop k list) on))
    ∙ (sym (take_on 64 (64 * n) (drop (64 * a) list)) ∙ ap (λ (k : ℕ). take k (drop (64 * a) list)) all))

-- a list's pieces have its items
pub items_are : (stage : ℕ) (list : List Item) → items_of (pieces stage list) ≡ list
items_are stage list = items_from stage list 0 (piece_count list) ∙ take_all (64 * piece_count list) list (omega arith)

drop_past : {X : Type 0} (xs ys : List X) (n : ℕ) → drop (length xs + n) (xs ++ ys) ≡ drop n ys
drop_past [] ys n = ap (λ (k : ℕ). drop k ys) (let q : 0 + n ≡ n = omega arith in q)
drop_past (x ∷ xs) ys n = ap (λ (k : ℕ). drop k (x ∷ (xs ++ ys))) (let q : length (x ∷ xs) + n ≡ suc (length xs + n) = omega arith in q) ∙ drop_past xs ys n

-- slots copied behind those that were
pub copied_on : (was slots old : List (List Flow)) (to left : ℕ) → old ≡ was ++ replicate left [] → length was ≡ to
    → take to old ++ slots ++ drop (to + length slots) old ≡ (was ++ slots) ++ replicate (left - length slots) []
copied_on was slots old to left is long =
    let none : List Flow = [] in
    let front : take to old ≡ was = ap (take to) is ∙ take_at was (replicate left none) to (omega (arith, long)) in
    let back : drop (to + length slots) old ≡ replicate (left - length slots) none =
    (λ i. drop (sym long i + length slots) (is i)) ∙ (drop_past was (replicate left none) (length slots) ∙ drop-replicate (length slots) left none) in
    λ i. front i ++ slots ++ back i

-- where all stages have ended, so has each
pub ended_at : (batches : List DemandBatch) (core : RingState) → IsPlaying batches core → IsFinished core → (stage : ℕ) (w : WorkerState) → stage < core.stages → slice_get core.crew (stage % core.workers) ≡ Some w → IsEndedStage w stage
ended_at batches core playing finished stage w below is =
    let it = playing.ring.each (stage % core.workers) w is in
    let played = (playing.plays (stage % core.workers) w is).2 in
    let place : ℕ = stage / core.workers in
    let here : stage ≡ own_stage w.workers w.number place = sym (div-add-mod' stage core.workers) ∙ (λ i. place * sym it.workers_is i + sym it.number_is i) in
    (place, own_before w.workers w.number place w.place (omega (arith, sym here, played.stage, finished (stage % core.workers) w is, below)), here)

-- the slots of the first so many stages
abbrev pub scheduled : List DemandBatch → RingState → ℕ → List (List Flow)
scheduled batches core count = schedule_from core.b core.first_batch core.list (take count batches)

-- behind the slots of the batches that came before
abbrev pub scheduled_behind : List (List Flow) → List DemandBatch → RingState → ℕ → List (List Flow)
scheduled_behind front batches core count = front ++ scheduled batches core count

-- before the first stage
pub none_copied : (passed : ℕ) (batches : List DemandBatch) (core : RingState) (slots : List (List Flow)) → passed * core.b ≤ length slots → drop (passed * core.b) slots ≡ replicate (length slots - passed * core.b) []
    → (slots ≡ scheduled_behind (take (passed * core.b) slots) batches core 0 ++ replicate (length slots - (passed + 0) * core.b) []) × (length (scheduled_behind (take (passed * core.b) slots) batches core 0) ≡ (passed + 0) * core.b)
none_copied passed batches core slots fits empty =
    let none : List Flow = [] in
    let front : List (List Flow) = take (passed * core.b) slots in
    let here : passed * core.b ≡ (passed + 0) * core.b = ap (λ (n : ℕ). n * core.b) (let q : passed ≡ passed + 0 = omega arith in q) in
    let behind : drop (passed * core.b) slots ≡ replicate (length slots - (passed + 0) * core.b) none = empty ∙ ap (λ (n : ℕ). replicate (length slots - n) none) here in (
      sym (take-append-drop (passed * core.b) slots) ∙ (λ i. sym (append-nil front) i ++ behind i),
      ap length (append-nil front) ∙ (length-take-le (passed * core.b) slots fits ∙ here),
    )

-- one stage's slots copied
pub stage_copied : (front : List (List Flow)) (passed : ℕ) (batches : List DemandBatch) (core : RingState) (stage : ℕ) (slots old new : List (List Flow)) (to total : ℕ) → stage < length batches → slots ≡ slots_of_stage (window_in batches core) stage → length slots ≡ core.b
    → to ≡ (passed + stage) * core.b → (passed + stage + 1) * core.b ≤ total → old ≡ scheduled_behind front batches core stage ++ replicate (total - (passed + stage) * core.b) []
    → length (scheduled_behind front batches core stage) ≡ (passed + stage) * core.b → new ≡ take to old ++ slots ++ drop (to + length slots) old
    → (new ≡ scheduled_behind front batches core (stage + 1) ++ replicate (total - (passed + (stage + 1)) * core.b) []) × (length (scheduled_behind front batches core (stage + 1)) ≡ (passed + (stage + 1)) * core.b) × (length new ≡ total)
stage_copied front passed batches core stage slots old new to total below slots_are count to_is fits old_is long new_is =
    let none : List Flow = [] in
    let was : List (List Flow) = scheduled_behind front batches core stage in
    let more : scheduled_behind front batches core (stage + 1) ≡ was ++ slots =
    ap (λ (xs : List (List Flow)). front ++ xs) (slots_more (window_in batches core) stage below ∙ ap (λ (xs : List (List Flow)). scheduled batches core stage ++ xs) (sym slots_are))
    ∙ sym (append_assoc front (scheduled batches core stage) slots) in
    let place : passed + (stage + 1) ≡ passed + stage + 1 = omega arith in
    let on : (passed + (stage + 1)) * core.b ≡ (passed + stage) * core.b + core.b = ap (λ (n : ℕ). n * core.b) place ∙ next_row (passed + stage) core.b in
    let left : total - (passed + stage) * core.b - length slots ≡ total - (passed + (stage + 1)) * core.b = omega (arith, on, count) in
    let here : new ≡ scheduled_behind front batches core (stage + 1) ++ replicate (total - (passed + (stage + 1)) * core.b) none =
    new_is ∙ (copied_on was slots old to (total - (passed + stage) * core.b) old_is (long ∙ sym to_is) ∙ (λ i. sym more i ++ replicate (left i) none)) in
    let all : length (scheduled_behind front batches core (stage + 1)) ≡ (passed + (stage + 1)) * core.b = omega (arith, ap length more, length-append was slots, long, count, on) in
    let rest : List (List Flow) = replicate (total - (passed + (stage + 1)) * core.b) none in
    let within : (passed + (stage + 1)) * core.b ≤ total = omega (arith, fits, ap (λ (n : ℕ). n * core.b) place) in
    (here, all, omega (arith, ap length here, length-append (scheduled_behind front batches core (stage + 1)) rest, length-replicate (total - (passed + (stage + 1)) * core.b) none, all, within))

-- where all stages have ended, the edge into the worker of the last list holds its items
pub last_items : (batches : List DemandBatch) (core : RingState) → IsPlaying batches core → IsFinished core → (edge : EdgeState) → slice_get core.edges (length batches % core.workers) ≡ Some edge
    → items_of edge.pieces ≡ rest_from core.b core.first_batch core.list batches
last_items batches core playing finished edge is =
    let window : Window = window_in batches core in
    let number : ℕ = worker_of core.workers (length batches) in
    ap items_of (last_list batches core playing finished number edge is ∙ at_own window number (length batches) refl)
    ∙ (items_are (length batches) (list_before_stage window (length batches)) ∙ last_is window)

-- its positions are numbers of 32 bits
pub counts_fit : (batches : List DemandBatch) (core : RingState) → IsPlaying batches core → (number : ℕ) (edge : EdgeState) → slice_get core.edges number ≡ Some edge → edge.taken + length edge.pieces + 1 < 2 ^ 32
counts_fit batches core playing number edge is =
    let into : EdgeInto = record { window = window_in batches core; worker = number } in
    let holds = playing.holds.each number edge is in
    omega (arith, ap length holds.pieces, between_length edge.taken edge.sent (edge_stream into) holds.order holds.within, holds.within, playing.short number)

-- the list that is left has no more items than there are flows
pub few_left : (batches : List DemandBatch) (core : RingState) → IsPlaying batches core → length (rest_from core.b core.first_batch core.list batches) ≤ 65536
few_left batches core playing = omega (arith, ap length (last_is (window_in batches core)), playing.nodes, few_pairs core.endpoints playing.may.few_endpoints)

-- with other edges of the same room it is a ring again
pub ring_with : (core : RingState) (edges : List EdgeState) → IsRing core → length edges ≡ length core.edges → ((number : ℕ) → room_at edges number ≡ room_at core.edges number) → IsRing (record core { edges = edges })
ring_with core edges ring count rooms = record {
  some_workers = ring.some_workers;
  few_workers = ring.few_workers;
  few_batches = ring.few_batches;
  edge_count = count ∙ ring.edge_count;
  worker_count = ring.worker_count;
  rooms = λ number within. rooms number ∙ ring.rooms number within;
  each = ring.each;
}

-- where all stages have ended it is at rest once its edges are empty, and all its nodes are spare
pub rest_with : (batches : List DemandBatch) (core : RingState) (edges : List EdgeState) (spare : ℕ) → IsPlaying batches core → IsFinished core → length edges ≡ length core.edges → ((number : ℕ) → room_at edges number ≡ room_at core.edges number)
    → AreEmptied edges → spare ≡ pairs_of core.endpoints → IsAtRest (record core { edges = edges; spare = spare })
rest_with batches core edges spare playing finished count rooms empty nodes =
    let ring = ring_with core edges playing.ring count rooms in
    record {
      ring = record {
        some_workers = ring.some_workers;
        few_workers = ring.few_workers;
        few_batches = ring.few_batches;
        edge_count = ring.edge_count;
        worker_count = ring.worker_count;
        rooms = ring.rooms;
        each = ring.each;
      };
      nodes = nodes;
      none_held = λ number w is. all_gone batches (ends_in batches core number) w (playing.plays number w is) (omega (arith, finished number w is, playing.stages));
      none_lies = empty;
    }
