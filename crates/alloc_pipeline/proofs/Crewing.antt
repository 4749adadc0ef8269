-- The workers of a ring, from one window to the next.
use Rattle.std.proofs.Common.{◌≡◌, ℕ, zero, suc, ◌+◌, ◌<◌, ◌≤◌, List, [], ◌∷◌, length, replicate, Option, Some, slice_get, sym, ap, ◌∙◌, subst, refl, arith}
use Rattle.std.proofs.lemmas.Option.{same_Some}
use Rattle.std.proofs.lemmas.List.{length-replicate}
use Rattle.crossbeam_queue.specs.Passes.{Pass, view}
use Rattle.crossbeam_queue.specs.declared.array_queue.Doing.{Doing}
use Rattle.crossbeam_queue.specs.declared.array_queue.Slotted.{Slotted}
use Rattle.greedy_rules.specs.declared.flows.Item.{Item}
use Rattle.greedy_rules.specs.Batches.{DemandBatch}
use Rattle.greedy_rules.specs.Room.{FlowsFitPairs}
use Rattle.greedy_rules.specs.Schedule.{rest_from}
use Rattle.slot_batches.specs.NextList.{EveryBatchKeepsItsFlows}
use Rattle.ring_core.specs.States.{RingState, WorkerState}
use Rattle.ring_core.specs.Cores.{AreCrewed, IsCrewed, pairs_of}
use Rattle.ring_core.specs.Edges.{room_at}
use Rattle.ring_core.specs.Ends.{WorkerEnds}
use Rattle.ring_core.specs.Openings.{crew_openings}
use Rattle.ring_core.specs.Windows.{window_of}
use Rattle.ring_core.specs.Workers.{IsSameWorker, Plays, HasEnded}
use Rattle.ring_core.proofs.GoneLemmas.{all_gone}
use Rattle.ring_core.proofs.StartLemmas.{Starts, may_begin, is_window, nodes_found, few_pairs}
use Rattle.ring_core.proofs.TakeLemmas.{last_is}
use Rattle.alloc_pipeline.specs.declared.crew.Crew.{Crew}
use Rattle.alloc_pipeline.specs.declared.parcel.EdgeWindow.{EdgeWindow}
use Rattle.alloc_pipeline.specs.declared.parcel.Parcel.{Parcel}
use Rattle.alloc_pipeline.specs.declared.parcel.View.{View}
use Rattle.alloc_pipeline.specs.declared.player.Player.{Player}
use Rattle.alloc_pipeline.specs.Ring.{moved_by}
use Rattle.alloc_pipeline.specs.Rules.{into_of}
use Rattle.alloc_pipeline.specs.Players.{ends_of}
use Rattle.alloc_pipeline.specs.Rings.{AllLinked, AllGoOn, AllEnded, last_list}
use Rattle.alloc_pipeline.specs.Joined.{AllInPlace, AllRaised, crew_of, turned, stream_at, edge_at}
use Rattle.alloc_pipeline.specs.Starts.{SameMoved, AreSame, MayTakeUp, AllMayTakeUp, AllResting, MayBeStarted, AreStarted, MayPlayOut, played_window}
use Rattle.alloc_pipeline.proofs.Drained.{places_then}
use Rattle.alloc_pipeline.proofs.Finished.{on_count}
use Rattle.alloc_pipeline.specs.Crews.{moved_of, HoldNone, CrewIsReady, CrewMayPlay, AllPlayedOut, HavePlayedOut, IsSameCrew}

-- each worker may take up a window, if each of them by its number may
take_up_each : (w : EdgeWindow) (k : ℕ) (ws : List WorkerState) → ((n : ℕ) (v : WorkerState) → slice_get ws n ≡ Some v → MayTakeUp w (k + n) v) → AllMayTakeUp w k ws
take_up_each w k [] each = tt
take_up_each w k (v ∷ ws) each = (
  subst (λ (n : ℕ). MayTakeUp w n v) (let q : k + 0 ≡ k = omega arith in q) (each 0 v refl),
  take_up_each w (k + 1) ws (λ n u is. subst (λ (m : ℕ). MayTakeUp w m u) (let q : k + suc n ≡ k + 1 + n = omega arith in q) (each (suc n) u is)),
)

no_rooms : (n k : ℕ) → room_at (replicate n (record { pieces = []; taken = 0; sent = 0; room = 0 })) k ≡ 0
no_rooms zero k = refl
no_rooms (suc n) zero = refl
no_rooms (suc n) (suc k) = no_rooms n k

-- the window that a ring plays
abbrev pub window_for : Crew → ℕ → List DemandBatch → List Item → EdgeWindow
window_for crew first batches list = record { list = list; batches = batches; first_batch = first; b = crew.b; workers = crew.count; worker = 0 }

module _ (crew : Crew) (first : ℕ) (batches : List DemandBatch) (list : List Item) (ready : CrewIsReady crew) (may : CrewMayPlay crew first batches list) where
  abbrev w : EdgeWindow
  w = window_for crew first batches list

  -- as the laws of a ring over lists see it
  abbrev core : RingState
  core = record {
    workers = crew.count;
    endpoints = crew.endpoints;
    batches = crew.batches;
    b = crew.b;
    room = 0;
    list = list;
    first_batch = first;
    stages = length batches;
    edges = replicate crew.count (record { pieces = []; taken = 0; sent = 0; room = 0 });
    crew = crew.resting.workers.items;
    spare = length crew.resting.spare;
  }

  starts : Starts core first batches list
  starts = record {
    ring = record {
      some_workers = ready.sizes.some_workers.0;
      few_workers = omega (arith, ready.sizes.some_workers.1);
      few_batches = omega (arith, ready.sizes.some_batches.1);
      edge_count = length-replicate crew.count _;
      worker_count = ready.worker_count;
      rooms = λ number within. no_rooms crew.count number;
      each = ready.workers;
    };
    endpoints = ready.sizes.few_endpoints;
    count = may.count;
    may = may.may;
    before = may.before;
    numbers = may.numbers;
    few = omega (arith, may.fits, few_pairs crew.endpoints ready.sizes.few_endpoints);
  }

  -- the nodes of the list and of what opens are those of the list that the window leaves, and there are so many
  pub nodes_are : EveryBatchKeepsItsFlows → FlowsFitPairs
      → (crew_openings batches crew.resting.workers.items + length list ≡ length (last_list w)) × (length (last_list w) ≤ pairs_of crew.endpoints)
  nodes_are keeps pairs = nodes_found core first batches list starts keeps pairs may.fits

  pub left_is : last_list w ≡ rest_from crew.b first list batches
  left_is = last_is (into_of w).window

  pub few_nodes : pairs_of crew.endpoints ≤ 65536
  few_nodes = few_pairs crew.endpoints ready.sizes.few_endpoints

  pub may_start : EveryBatchKeepsItsFlows → FlowsFitPairs → MayBeStarted crew.queues.items w batches crew.resting.workers.items crew.resting.passes.items (length crew.resting.spare)
  may_start keeps pairs = record {
    batches_are = refl;
    queue_count = ready.queue_count;
    some_workers = ready.sizes.some_workers.0;
    few_workers = omega (arith, ready.sizes.some_workers.1);
    rooms = λ k d within. let room = ready.rooms k d within in omega (arith, room);
    count_crew = ready.worker_count;
    count = ready.pass_count;
    resting = ready.resting;
    ready = take_up_each w 0 crew.resting.workers.items (λ n v is.
        let it = ready.workers n v is in
        let begins = may_begin core first batches list starts n v is in
        subst (λ (m : ℕ). MayTakeUp w m v) (let q : n ≡ 0 + n = omega arith in q)
        (record { number = it.number_is; is_worker = begins.0; may = begins.1; window = is_window core first batches list starts n v is; none = ready.none_held n v is }));
    few_items = omega (arith, may.fits, few_nodes);
    nodes = let n = nodes_are keeps pairs in omega (arith, n.0, n.1, ready.nodes);
  }

-- a worker that has played a window to its end, as the one that it was before
pub record PlayedFrom (w : EdgeWindow) (batches : List DemandBatch) (xs : List WorkerState) (n : ℕ) (v : WorkerState) : Type 0 where
  pub was : WorkerState
  pub here : slice_get xs n ≡ Some was
  pub same : IsSameWorker was v
  pub ends : WorkerEnds
  pub in_window : ends.before.window ≡ (into_of w).window
  pub plays : Plays batches ends v
  pub ended : HasEnded batches v

module _ {Q A : Type 0} (queues : List (Slotted (Option Parcel) (Doing Parcel View) Q A)) (w : EdgeWindow) (batches : List DemandBatch) where
  pub played_each : (k : ℕ) (xs : List WorkerState) (ss rs : List Player) → AreSame xs (crew_of ss) → AllGoOn queues batches ss rs → AllEnded batches rs → AllInPlace w k rs → (n : ℕ) (v : WorkerState) → slice_get (crew_of rs) n ≡ Some v → PlayedFrom w batches xs n v
  played_each k (x ∷ xs) (s ∷ ss) (r ∷ rs) same on ended place zero v is =
      let here : r.worker ≡ v = same_Some r.worker v is in
      subst (PlayedFrom w batches (x ∷ xs) 0) here
      (record {
        was = x;
        here = refl;
        same = record {
          same_number = on.0.follows.worker.same_number ∙ same.0.same_number;
          same_workers = on.0.follows.worker.same_workers ∙ same.0.same_workers;
          same_endpoints = on.0.follows.worker.same_endpoints ∙ same.0.same_endpoints;
          same_batches = on.0.follows.worker.same_batches ∙ same.0.same_batches;
          same_b = on.0.follows.worker.same_b ∙ same.0.same_b;
        };
        ends = ends_of r;
        in_window = ap (λ (e : EdgeWindow). (into_of e).window) place.0.taking_in;
        plays = on.0.plays.plays;
        ended = ended.0;
      })
  played_each k (x ∷ xs) (s ∷ ss) (r ∷ rs) same on ended place (suc n) v is =
      let later = played_each (k + 1) xs ss rs same.1 on.1 ended.1 place.1 n v is in
      record { was = later.was; here = later.here; same = later.same; ends = later.ends; in_window = later.in_window; plays = later.plays; ended = later.ended }
  played_each k [] [] [] same on ended place n v is = absurd (cc)
  played_each k [] [] (r ∷ rs) same on ended place n v is = absurd on
  played_each k [] (s ∷ ss) rs same on ended place n v is = absurd same
  played_each k (x ∷ xs) [] rs same on ended place n v is = absurd same
  played_each k (x ∷ xs) (s ∷ ss) [] same on ended place n v is = absurd on

  -- each edge has moved its stream, and its pass is whole
  pub moved_is : (k : ℕ) (ps gs qs : List (Pass Parcel View)) → SameMoved ps gs → AllRaised queues w k gs qs → moved_of qs ≡ moved_by (into_of w).window k (moved_of ps)
  moved_is k [] [] [] same raised = refl
  moved_is k (p ∷ ps) (g ∷ gs) (q ∷ qs) same raised =
      let here : (view q).moved ≡ (view p).moved + length (stream_at w k) = ap (λ (v : View). v.moved) raised.0.raised ∙ ap (λ (n : ℕ). n + length (stream_at w k)) same.0 in
      λ i. here i ∷ moved_is (k + 1) ps gs qs same.1 raised.1 i
  moved_is k [] [] (q ∷ qs) same raised = absurd raised
  moved_is k [] (g ∷ gs) qs same raised = absurd same
  moved_is k (p ∷ ps) [] qs same raised = absurd same
  moved_is k (p ∷ ps) (g ∷ gs) [] same raised = absurd raised

  pub rest_again : (k : ℕ) (gs qs : List (Pass Parcel View)) → AllRaised queues w k gs qs → AllResting queues k qs
  rest_again k [] [] raised = tt
  rest_again k (g ∷ gs) (q ∷ qs) raised =
      (record { on = raised.0.on; whole = ap (λ (v : View). v.kind) raised.0.raised; bare = ap (λ (v : View). v.marked) raised.0.raised }, rest_again (k + 1) gs qs raised.1)
  rest_again k [] (q ∷ qs) raised = absurd raised
  rest_again k (g ∷ gs) [] raised = absurd raised

  pub pass_count : (k : ℕ) (ps gs qs : List (Pass Parcel View)) → SameMoved ps gs → AllRaised queues w k gs qs → length qs ≡ length ps
  pass_count k [] [] [] same raised = refl
  pass_count k (p ∷ ps) (g ∷ gs) (q ∷ qs) same raised = ap suc (pass_count (k + 1) ps gs qs same.1 raised.1)
  pass_count k [] [] (q ∷ qs) same raised = absurd raised
  pass_count k [] (g ∷ gs) qs same raised = absurd same
  pass_count k (p ∷ ps) [] qs same raised = absurd same
  pass_count k (p ∷ ps) (g ∷ gs) [] same raised = absurd raised

pub crew_count : (rs : List Player) → length (crew_of rs) ≡ length rs
crew_count [] = refl
crew_count (r ∷ rs) = ap suc (crew_count rs)

-- they are again the workers of a ring, without a node, and have played the window out
module _ (w : EdgeWindow) (batches : List DemandBatch) (xs vs : List WorkerState) (each : (n : ℕ) (v : WorkerState) → slice_get vs n ≡ Some v → PlayedFrom w batches xs n v) where
  pub crewed_again : (workers endpoints most b : ℕ) → AreCrewed workers endpoints most b xs → AreCrewed workers endpoints most b vs
  crewed_again workers endpoints most b crewed n v is =
      let from = each n v is in
      let it = crewed n from.was from.here in
      record {
        is_worker = from.plays.2.is_worker;
        number_is = from.same.same_number ∙ it.number_is;
        workers_is = from.same.same_workers ∙ it.workers_is;
        endpoints_is = from.same.same_endpoints ∙ it.endpoints_is;
        batches_is = from.same.same_batches ∙ it.batches_is;
        b_is = from.same.same_b ∙ it.b_is;
      }

  pub none_again : HoldNone vs
  none_again n v is = let from = each n v is in all_gone batches from.ends v from.plays from.ended

  pub played_out : w.batches ≡ batches → AllPlayedOut (into_of w).window vs
  played_out are n v is =
      let from = each n v is in
      record {
        ends = from.ends;
        in_window = from.in_window;
        plays = subst (λ (bs : List DemandBatch). Plays bs from.ends v) (sym are) from.plays;
        ended = subst (λ (bs : List DemandBatch). HasEnded bs v) (sym are) from.ended;
      }

module _ {Q A : Type 0} where
  -- as the code names them
  pub start_there : (queues qs : List (Slotted (Option Parcel) (Doing Parcel View) Q A)) (w v : EdgeWindow) (batches : List DemandBatch) (crew : List WorkerState) (passes : List (Pass Parcel View)) (spare : ℕ) → qs ≡ queues → v ≡ w
      → MayBeStarted queues w batches crew passes spare → MayBeStarted qs v batches crew passes spare
  start_there queues qs w v batches crew passes spare qs_are v_is may =
      subst (λ (xs : List (Slotted (Option Parcel) (Doing Parcel View) Q A)). MayBeStarted xs v batches crew passes spare) (sym qs_are) (subst (λ (u : EdgeWindow). MayBeStarted queues u batches crew passes spare) (sym v_is) may)

  pub started_here : (queues qs : List (Slotted (Option Parcel) (Doing Parcel View) Q A)) (w v : EdgeWindow) (batches : List DemandBatch) (crew : List WorkerState) (passes : List (Pass Parcel View)) (old new : ℕ) (players : List Player) → qs ≡ queues → v ≡ w
      → AreStarted qs v batches crew passes old new players → AreStarted queues w batches crew passes old new players
  started_here queues qs w v batches crew passes old new players qs_are v_is started =
      subst (λ (xs : List (Slotted (Option Parcel) (Doing Parcel View) Q A)). AreStarted xs w batches crew passes old new players) qs_are (subst (λ (u : EdgeWindow). AreStarted qs u batches crew passes old new players) v_is started)

-- the window that the players name
pub same_window : (w : EdgeWindow) (players : List Player) → 0 < length players → w.worker ≡ 0 → AllInPlace w 0 players → played_window players ≡ w
same_window w [] some zero_ places = absurd (omega (arith, some))
same_window w (s ∷ ss) some zero_ places = (λ i. edge_at (places.0.taking_in i) 0) ∙ (λ i. record { list = w.list; batches = w.batches; first_batch = w.first_batch; b = w.b; workers = w.workers; worker = sym zero_ i })

module _ {Q A : Type 0} (queues qs : List (Slotted (Option Parcel) (Doing Parcel View) Q A)) (qs_are : qs ≡ queues) (w : EdgeWindow) (batches : List DemandBatch) (batches_are : w.batches ≡ batches) (crew : List WorkerState) (passes : List (Pass Parcel View)) (old mid : ℕ)
    (players ps : List Player) (ps_are : ps ≡ players) (started : AreStarted queues w batches crew passes old mid players) where
  linked_there : AllLinked qs batches ps
  linked_there = subst (λ (xs : List (Slotted (Option Parcel) (Doing Parcel View) Q A)). AllLinked xs batches ps) (sym qs_are) (subst (AllLinked queues batches) (sym ps_are) started.linked)

  places : AllInPlace w 0 ps
  places = subst (AllInPlace w 0) (sym ps_are) started.places

  player_count : length ps ≡ length crew
  player_count = ap length ps_are ∙ started.count

  -- what the players begin with
  pub may_play_out : w.worker ≡ 0 → 0 < w.workers → length crew ≡ w.workers → (played_window ps ≡ w) × AllLinked qs batches ps × AllInPlace w 0 ps × (length ps ≡ w.workers)
  may_play_out zero_ some count = (same_window w ps (omega (arith, some, count, player_count)) zero_ places, linked_there, places, player_count ∙ count)

  -- and what they end with
  pub played_again : (ended : List Player) (vs : List WorkerState) → AllGoOn qs batches ps ended → AllEnded batches ended → vs ≡ crew_of ended
      → ((n : ℕ) (v : WorkerState) → slice_get vs n ≡ Some v → PlayedFrom w batches crew n v) × (length vs ≡ length crew)
  played_again ended vs on all_ended vs_are = (
    λ n v is. played_each qs w batches 0 crew ps ended (subst (λ (xs : List Player). AreSame crew (crew_of xs)) (sym ps_are) started.same) on all_ended
        (places_then qs w 0 ps ended places (subst (λ (bs : List DemandBatch). AllGoOn qs bs ps ended) (sym batches_are) on)) n v (ap (λ (xs : List WorkerState). slice_get xs n) (sym vs_are) ∙ is),
    ap length vs_are ∙ (crew_count ended ∙ (on_count qs batches ps ended on ∙ player_count)),
  )

  pub moved_again : (v : EdgeWindow) (out : List (Pass Parcel View)) → v ≡ w → AllRaised qs v 0 (turned ps) out
      → AllResting queues 0 out × (length out ≡ length passes) × (moved_of out ≡ moved_by (into_of w).window 0 (moved_of passes))
  moved_again v out v_is raised =
      let here : AllRaised queues w 0 (turned ps) out =
      subst (λ (xs : List (Slotted (Option Parcel) (Doing Parcel View) Q A)). AllRaised xs w 0 (turned ps) out) qs_are (subst (λ (u : EdgeWindow). AllRaised qs u 0 (turned ps) out) v_is raised) in
      let same : SameMoved passes (turned ps) = subst (λ (xs : List Player). SameMoved passes (turned xs)) (sym ps_are) started.moved in
      (rest_again queues w batches 0 (turned ps) out here, pass_count queues w batches 0 passes (turned ps) out same here, moved_is queues w batches 0 passes (turned ps) out same here)

-- as the code names the window
pub out_there : {Q A : Type 0} (qs : List (Slotted (Option Parcel) (Doing Parcel View) Q A)) (w v : EdgeWindow) (batches : List DemandBatch) (players : List Player) (last room spare : ℕ) → v ≡ w
    → MayPlayOut qs w batches players last room spare → MayPlayOut qs v batches players last room spare
out_there qs w v batches players last room spare is may = subst (λ (u : EdgeWindow). MayPlayOut qs u batches players last room spare) (sym is) may

-- a crew that has played a window out
pub have_played : (old new : Crew) (first : ℕ) (batches : List DemandBatch) (list : List Item) (workers : List WorkerState) → CrewIsReady old → CrewIsReady new → IsSameCrew old new
    → AllPlayedOut (window_of list batches first old.b old.count) new.resting.workers.items → workers ≡ new.resting.workers.items
    → HavePlayedOut new.endpoints new.batches new.b (length batches) (window_of list batches first old.b old.count) workers
have_played old new first batches list workers was is same played workers_are = record {
  some = was.sizes.some_workers.0;
  count = ap length workers_are ∙ (is.worker_count ∙ same.count);
  b_is = sym same.b;
  stages_are = refl;
  crewed = λ number worker at.
      subst (λ (n : ℕ). IsCrewed n new.endpoints new.batches new.b number worker) same.count (is.workers number worker (ap (λ (xs : List WorkerState). slice_get xs number) (sym workers_are) ∙ at));
  played = λ number worker at. played number worker (ap (λ (xs : List WorkerState). slice_get xs number) (sym workers_are) ∙ at);
}
