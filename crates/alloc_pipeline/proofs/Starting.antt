-- The workers of a ring as a window begins, the last of them and the others.
use Rattle.std.proofs.Common.{◌≡◌, ℕ, ◌+◌, ◌<◌, Bool, false, cond, List, [], ◌∷◌, ◌++◌, length, drop, Option, get_or, sym, ap, ◌∙◌, subst, refl, arith, length-append}
use Rattle.std.proofs.lemmas.Bool.{lt-leb, le-leb}
use Rattle.crossbeam_queue.specs.Passes.{Pass, view, IsPassOf}
use Rattle.crossbeam_queue.specs.declared.array_queue.Doing.{Doing}
use Rattle.crossbeam_queue.specs.declared.array_queue.Slotted.{Slotted}
use Rattle.greedy_rules.specs.Batches.{DemandBatch}
use Rattle.slot_batches.specs.Pieces.{piece_count}
use Rattle.ring_core.specs.States.{WorkerState}
use Rattle.ring_core.specs.Ends.{WorkerEnds}
use Rattle.ring_core.specs.Openings.{own_openings, crew_openings}
use Rattle.ring_core.specs.Windows.{Window, pieces_before, worker_after}
use Rattle.ring_core.specs.Workers.{IsWorkerWindow, IsSameWorker, Plays, first_ends}
use Rattle.ring_core.proofs.StreamLemmas.{after_small, after_last}
use Rattle.ring_core.proofs.StartLemmas.{found_sent, first_count}
use Rattle.alloc_pipeline.specs.declared.parcel.EdgeWindow.{EdgeWindow}
use Rattle.alloc_pipeline.specs.declared.parcel.Parcel.{Parcel}
use Rattle.alloc_pipeline.specs.declared.parcel.View.{View}
use Rattle.alloc_pipeline.specs.declared.player.Player.{Player}
use Rattle.alloc_pipeline.specs.Rules.{giving, taking, into_of}
use Rattle.alloc_pipeline.specs.Players.{ends_of}
use Rattle.alloc_pipeline.specs.Rings.{IsOn, IsLinked, AllLinked}
use Rattle.alloc_pipeline.specs.Joined.{edge_at, givings, turned, crew_of, IsInPlace, AllInPlace}
use Rattle.alloc_pipeline.specs.Starts.{SameMoved, AreSame, MayTakeUp, AllMayTakeUp, IsResting, AllResting, TakesFirst, MayLink, AreLinked, MayBeStarted, AreStarted}
use Rattle.alloc_pipeline.proofs.Rejoining.{givings_last, crew_last}
use Rattle.alloc_pipeline.proofs.Collected.{turned_last}

-- a list by its first element and the others
pub by_first : {X : Type 0} (xs : List X) (x : X) (ys : List X) → 0 < length xs → x ≡ get_or xs 0 x → ys ≡ drop 1 xs → xs ≡ x ∷ ys
by_first [] x ys some is rest = absurd (omega (arith, some))
by_first (a ∷ as_) x ys some is rest = λ i. sym is i ∷ sym rest i

-- a list of so many elements, with one more
more : {X : Type 0} (xs : List X) (x : X) → length (xs ++ x ∷ []) ≡ length xs + 1
more xs x = length-append xs (x ∷ [])

take_up_last : (w : EdgeWindow) (k : ℕ) (ws : List WorkerState) (v : WorkerState) → AllMayTakeUp w k (ws ++ v ∷ []) → AllMayTakeUp w k ws × MayTakeUp w (k + length ws) v
take_up_last w k [] v h = (tt, subst (λ (n : ℕ). MayTakeUp w n v) (let q : k ≡ k + 0 = omega arith in q) h.0)
take_up_last w k (u ∷ us) v h =
    let r = take_up_last w (k + 1) us v h.1 in
    ((h.0, r.0), subst (λ (n : ℕ). MayTakeUp w n v) (let q : k + 1 + length us ≡ k + length (u ∷ us) = omega arith in q) r.1)

openings_last : (batches : List DemandBatch) (ws : List WorkerState) (v : WorkerState)
    → crew_openings batches (ws ++ v ∷ []) ≡ crew_openings batches ws + own_openings (length v.stages) batches v.workers v.number
openings_last batches [] v = omega arith
openings_last batches (u ∷ us) v = let r = openings_last batches us v in omega (arith, r)

same_last : (us vs : List WorkerState) (u v : WorkerState) → AreSame us vs → IsSameWorker u v → AreSame (us ++ u ∷ []) (vs ++ v ∷ [])
same_last [] [] u v h s = (s, tt)
same_last (a ∷ us) (b ∷ vs) u v h s = (h.0, same_last us vs u v h.1 s)
same_last [] (b ∷ vs) u v h s = absurd h
same_last (a ∷ us) [] u v h s = absurd h

moved_last : (gs hs : List (Pass Parcel View)) (g h : Pass Parcel View) → SameMoved gs hs → (view h).moved ≡ (view g).moved → SameMoved (gs ++ g ∷ []) (hs ++ h ∷ [])
moved_last [] [] g h s e = (e, tt)
moved_last (a ∷ gs) (b ∷ hs) g h s e = (s.0, moved_last gs hs g h s.1 e)
moved_last [] (b ∷ hs) g h s e = absurd s
moved_last (a ∷ gs) [] g h s e = absurd s

places_last : (w : EdgeWindow) (k : ℕ) (ps : List Player) (p : Player) → AllInPlace w k ps → IsInPlace w (k + length ps) p → AllInPlace w k (ps ++ p ∷ [])
places_last w k [] p h i = (subst (λ (n : ℕ). IsInPlace w n p) (let q : k + 0 ≡ k = omega arith in q) i, tt)
places_last w k (s ∷ ss) p h i = (h.0, places_last w (k + 1) ss p h.1 (subst (λ (n : ℕ). IsInPlace w n p) (let q : k + length (s ∷ ss) ≡ k + 1 + length ss = omega arith in q) i))

-- how many pieces a worker finds sent: none, but the last one those of the window's list
pub none_sent : (window : Window) (k : ℕ) → k + 1 < window.workers → 0 ≡ (first_ends window k).sent
none_sent window k small = ap (λ (b : Bool). cond b (pieces_before window 0) 0) (sym (lt-leb window.workers (k + 1) small)) ∙ (found_sent window k (omega (arith, small)) (omega (arith, small))).0

pub list_sent : (window : Window) (k : ℕ) → k + 1 ≡ window.workers → piece_count window.list ≡ (first_ends window k).sent
list_sent window k last =
    first_count window ∙ (ap (λ (b : Bool). cond b (pieces_before window 0) 0) (sym (le-leb window.workers (k + 1) (omega (arith, last)))) ∙ (found_sent window k (omega (arith, last)) (omega (arith, last))).0)

-- a worker that has taken up the window, with its two passes
pub record HasTakenUp (w : EdgeWindow) (batches : List DemandBatch) (k sent moved : ℕ) (x : WorkerState) (y : Player) : Type 0 where
  pub number : y.number ≡ k
  pub same : IsSameWorker x y.worker
  pub begun : (window : Window) → IsWorkerWindow x w.first_batch batches window → sent ≡ (first_ends window x.number).sent → Plays batches (first_ends window x.number) y.worker
  pub sent_is : sent ≡ (first_ends (into_of w).window k).sent
  pub none_taking : y.taking.me.1 ≡ []
  pub none_giving : y.giving.me.1 ≡ []
  pub takes : view y.taking ≡ taking (edge_at w k) 0
  pub gives : view y.giving ≡ giving (edge_at w (worker_after w.workers k)) sent moved

module _ {Q A : Type 0} (queues : List (Slotted (Option Parcel) (Doing Parcel View) Q A)) (w : EdgeWindow) (batches : List DemandBatch) (batches_are : w.batches ≡ batches) (count : length queues ≡ w.workers) where
  resting_last : (k : ℕ) (ps : List (Pass Parcel View)) (p : Pass Parcel View) → AllResting queues k (ps ++ p ∷ []) → AllResting queues k ps × IsResting queues (k + length ps) p
  resting_last k [] p h = (tt, subst (λ (n : ℕ). IsResting queues n p) (let q : k ≡ k + 0 = omega arith in q) h.0)
  resting_last k (a ∷ ps) p h =
      let r = resting_last (k + 1) ps p h.1 in
      ((h.0, r.0), subst (λ (n : ℕ). IsResting queues n p) (let q : k + 1 + length ps ≡ k + length (a ∷ ps) = omega arith in q) r.1)

  linked_more : (ps : List Player) (p : Player) → AllLinked queues batches ps → IsLinked queues batches p → AllLinked queues batches (ps ++ p ∷ [])
  linked_more [] p h i = (i, tt)
  linked_more (s ∷ ss) p h i = (h.0, linked_more ss p h.1 i)

  module _ (k sent moved : ℕ) (below : k < w.workers) (x : WorkerState) (y : Player) (may : MayTakeUp w k x) (up : HasTakenUp w batches k sent moved x y) where
    ends_are : ends_of y ≡ first_ends (into_of w).window k
    ends_are =
        (λ i. record { before = into_of (up.takes i).window; after = into_of (up.gives i).window; taken = (up.takes i).position; sent = (up.gives i).position })
        ∙ (λ i. record { before = into_of (edge_at w k); after = into_of (edge_at w (worker_after w.workers k)); taken = 0; sent = up.sent_is i })

    plays : Plays batches (ends_of y) y.worker
    plays =
        let window : Window = (into_of w).window in
        let is : IsWorkerWindow x w.first_batch batches window = subst (λ (bs : List DemandBatch). IsWorkerWindow x w.first_batch bs window) batches_are may.window in
        let at : sent ≡ (first_ends window x.number).sent = up.sent_is ∙ (λ i. (first_ends window (sym may.number i)).sent) in
        subst (λ (e : WorkerEnds). Plays batches e y.worker) (ap (first_ends window) may.number ∙ sym ends_are) (up.begun window is at)

    pub player_linked : IsOn queues k y.taking → IsOn queues (worker_after w.workers k) y.giving → IsLinked queues batches y
    player_linked on_taking on_giving = record {
      number = omega (arith, up.number, below, count);
      taking = λ q is. on_taking q (is ∙ ap (λ (n : ℕ). get_or queues n q) up.number);
      giving = λ small q is. on_giving q (is ∙ ap (λ (n : ℕ). get_or queues n q) ((let e : y.number + 1 ≡ k + 1 = omega (arith, up.number) in e) ∙ sym (after_small w.workers k (omega (arith, small, up.number, count)))));
      giving_last = λ great q is. on_giving q (is ∙ ap (λ (n : ℕ). get_or queues n q) (sym (after_last w.workers k below (omega (arith, great, up.number, count)))));
      plays = record {
        taking = ap (λ (v : View). v.kind) up.takes;
        giving = ap (λ (v : View). v.kind) up.gives;
        none_taking = up.none_taking;
        none_giving = up.none_giving;
        plays = plays;
      };
    }

    pub player_placed : IsInPlace w k y
    player_placed = record {
      number = up.number;
      worker = up.same.same_number ∙ may.number;
      workers = up.same.same_workers ∙ sym may.window.workers_are;
      taking_in = ap (λ (v : View). v.window) up.takes;
      giving_in = ap (λ (v : View). v.window) up.gives;
    }

  -- the first of the workers that may be linked, without the last of them
  pub link_less : (all ws : List WorkerState) (v : WorkerState) (passes ps : List (Pass Parcel View)) (p : Pass Parcel View) (spare : ℕ) (first : Pass Parcel View) → all ≡ ws ++ v ∷ [] → passes ≡ ps ++ p ∷ []
      → MayLink queues w batches all passes spare first → MayLink queues w batches ws ps spare first × MayTakeUp w (length ws) v × IsResting queues (length ws + 1) p × (length ws + 1 < w.workers) × (crew_openings batches ws + own_openings (length v.stages) batches v.workers v.number ≡ crew_openings batches all)
  link_less all ws v passes ps p spare first all_is passes_are may =
      let crew = take_up_last w 0 ws v (subst (AllMayTakeUp w 0) all_is may.ready) in
      let resting = resting_last 1 ps p (subst (AllResting queues 1) passes_are may.resting) in
      let a = ap length all_is ∙ more ws v in
      let b = ap length passes_are ∙ more ps p in
      let o : crew_openings batches ws + own_openings (length v.stages) batches v.workers v.number ≡ crew_openings batches all = sym (ap (crew_openings batches) all_is ∙ openings_last batches ws v) in (
        record {
          batches_are = may.batches_are;
          queue_count = may.queue_count;
          few_workers = may.few_workers;
          rooms = may.rooms;
          below = omega (arith, a, may.below);
          count = omega (arith, a, b, may.count);
          resting = resting.0;
          ready = crew.0;
          nodes = omega (arith, o, may.nodes);
          takes = may.takes;
        },
        subst (λ (n : ℕ). MayTakeUp w n v) (let q : 0 + length ws ≡ length ws = omega arith in q) crew.1,
        subst (λ (n : ℕ). IsResting queues n p) (let q : 1 + length ps ≡ length ws + 1 = omega (arith, a, b, may.count) in q) resting.1,
        omega (arith, a, may.below),
        o,
      )

  -- none is linked
  pub links_none : (all : List WorkerState) (passes : List (Pass Parcel View)) (spare : ℕ) (first : Pass Parcel View) → length all ≡ 0 → MayLink queues w batches all passes spare first → AreLinked queues w batches all passes spare spare [] first
  links_none [] [] spare first none may = record { linked = tt; places = tt; count = refl; same = tt; moved = tt; nodes = omega arith; takes = may.takes }
  links_none [] (p ∷ ps) spare first none may = let e = may.count in absurd (omega (arith, e))
  links_none (v ∷ ws) passes spare first none may = absurd (omega (arith, none))

  -- one more is linked
  pub links_more : (all ws : List WorkerState) (v : WorkerState) (passes ps : List (Pass Parcel View)) (p : Pass Parcel View) (old mid new : ℕ) (players out : List Player) (y : Player) (last next : Pass Parcel View) → all ≡ ws ++ v ∷ [] → passes ≡ ps ++ p ∷ []
      → out ≡ players ++ y ∷ [] → AreLinked queues w batches ws ps old mid players last → new + own_openings (length v.stages) batches v.workers v.number ≡ mid → IsLinked queues batches y → IsInPlace w (length ws) y → IsSameWorker v y.worker → (view y.giving).moved ≡ (view p).moved
      → TakesFirst queues w (length ws + 1) next → AreLinked queues w batches all passes old new out next
  links_more all ws v passes ps p old mid new players out y last next all_is passes_are out_is were nodes linked place same moved takes = record {
    linked = subst (AllLinked queues batches) (sym out_is) (linked_more players y were.linked linked);
    places = subst (AllInPlace w 0) (sym out_is) (places_last w 0 players y were.places (subst (λ (n : ℕ). IsInPlace w n y) (let q : length ws ≡ 0 + length players = omega (arith, were.count) in q) place));
    count = ap length out_is ∙ (more players y ∙ (ap (λ (n : ℕ). n + 1) were.count ∙ sym (ap length all_is ∙ more ws v)));
    same = subst (λ (xs : List WorkerState × List WorkerState). AreSame xs.0 xs.1) (λ i. (sym all_is i, sym (ap crew_of out_is ∙ crew_last players y) i)) (same_last ws (crew_of players) v y.worker were.same same);
    moved = subst (λ (xs : List (Pass Parcel View) × List (Pass Parcel View)). SameMoved xs.0 xs.1) (λ i. (sym passes_are i, sym (ap givings out_is ∙ givings_last players y) i)) (moved_last ps (givings players) p y.giving were.moved moved);
    nodes = omega (arith, were.nodes, nodes, ap (crew_openings batches) all_is, openings_last batches ws v);
    takes = subst (λ (n : ℕ). TakesFirst queues w n next) (sym (ap length all_is ∙ more ws v)) takes;
  }

  -- what the last worker leaves to the others
  pub start_less : (all ws : List WorkerState) (v : WorkerState) (p : Pass Parcel View) (ps : List (Pass Parcel View)) (old given : ℕ) (first : Pass Parcel View) → all ≡ ws ++ v ∷ []
      → MayBeStarted queues w batches all (p ∷ ps) old → given + length w.list ≡ old → TakesFirst queues w 0 first
      → MayLink queues w batches ws ps given first × MayTakeUp w (length ws) v × (length ws + 1 ≡ w.workers) × (crew_openings batches ws + own_openings (length v.stages) batches v.workers v.number ≡ crew_openings batches all)
  start_less all ws v p ps old given first all_is may left takes =
      let crew = take_up_last w 0 ws v (subst (AllMayTakeUp w 0) all_is may.ready) in
      let a = ap length all_is ∙ more ws v in
      let o : crew_openings batches ws + own_openings (length v.stages) batches v.workers v.number ≡ crew_openings batches all = sym (ap (crew_openings batches) all_is ∙ openings_last batches ws v) in (
        record {
          batches_are = may.batches_are;
          queue_count = may.queue_count;
          few_workers = may.few_workers;
          rooms = may.rooms;
          below = omega (arith, a, may.count_crew);
          count = omega (arith, a, may.count, may.count_crew);
          resting = may.resting.1;
          ready = crew.0;
          nodes = omega (arith, o, left, may.nodes);
          takes = takes;
        },
        subst (λ (n : ℕ). MayTakeUp w n v) (let q : 0 + length ws ≡ length ws = omega arith in q) crew.1,
        omega (arith, a, may.count_crew),
        o,
      )

  -- all are linked
  pub all_started : (all ws : List WorkerState) (v : WorkerState) (p : Pass Parcel View) (ps : List (Pass Parcel View)) (old given mid new : ℕ) (players out : List Player) (y : Player) (last : Pass Parcel View) → all ≡ ws ++ v ∷ []
      → out ≡ players ++ y ∷ [] → given + length w.list ≡ old → AreLinked queues w batches ws ps given mid players last → new + own_openings (length v.stages) batches v.workers v.number ≡ mid → IsLinked queues batches y → IsInPlace w (length ws) y → IsSameWorker v y.worker
      → (view y.giving).moved ≡ (view p).moved → AreStarted queues w batches all (p ∷ ps) old new out
  all_started all ws v p ps old given mid new players out y last all_is out_is left were nodes linked place same moved = record {
    linked = subst (AllLinked queues batches) (sym out_is) (linked_more players y were.linked linked);
    places = subst (AllInPlace w 0) (sym out_is) (places_last w 0 players y were.places (subst (λ (n : ℕ). IsInPlace w n y) (let q : length ws ≡ 0 + length players = omega (arith, were.count) in q) place));
    count = ap length out_is ∙ (more players y ∙ (ap (λ (n : ℕ). n + 1) were.count ∙ sym (ap length all_is ∙ more ws v)));
    same = subst (λ (xs : List WorkerState × List WorkerState). AreSame xs.0 xs.1) (λ i. (sym all_is i, sym (ap crew_of out_is ∙ crew_last players y) i)) (same_last ws (crew_of players) v y.worker were.same same);
    moved = subst (SameMoved (p ∷ ps)) (sym (ap turned out_is ∙ turned_last players y)) (moved, were.moved);
    nodes = omega (arith, were.nodes, nodes, left, ap (crew_openings batches) all_is, openings_last batches ws v);
  }

  -- another pass of the same queue
  pub on_too : (k : ℕ) (p q : Pass Parcel View) (r : Slotted (Option Parcel) (Doing Parcel View) Q A) → IsOn queues k p → r ≡ get_or queues k r → IsPassOf r q → IsOn queues k q
  on_too k p q r on is here s at = (here.0 ∙ (sym (on r is).0 ∙ (on s at).0), here.1)

  -- one more worker has taken up the window, with a pass that gives into the edge after it
  pub link_one : (all ws : List WorkerState) (v u : WorkerState) (passes ps : List (Pass Parcel View)) (p giver : Pass Parcel View) (old mid new number : ℕ) (players out : List Player) (first last next : Pass Parcel View) (r : Slotted (Option Parcel) (Doing Parcel View) Q A)
      → all ≡ ws ++ v ∷ [] → passes ≡ ps ++ p ∷ [] → out ≡ players ++ record { number = number; worker = u; taking = last; giving = giver; ended = false } ∷ [] → MayLink queues w batches all passes old first → AreLinked queues w batches ws ps old mid players last
      → number ≡ length ws → r ≡ get_or queues (number + 1) r → IsPassOf r giver → IsPassOf r next → view giver ≡ giving (edge_at w (number + 1)) 0 (view p).moved → view next ≡ taking (edge_at w (number + 1)) 0
      → IsSameWorker v u → ((window : Window) → IsWorkerWindow v w.first_batch batches window → 0 ≡ (first_ends window v.number).sent → Plays batches (first_ends window v.number) u)
      → new + own_openings (length v.stages) batches v.workers v.number ≡ mid → AreLinked queues w batches all passes old new out next
  link_one all ws v u passes ps p giver old mid new number players out first last next r all_is passes_are out_is may were at is on_giver on_next gives takes same begun nodes =
      let less = link_less all ws v passes ps p old first all_is passes_are may in
      let k : ℕ = length ws in
      let y : Player = record { number = number; worker = u; taking = last; giving = giver; ended = false } in
      let small : k + 1 < w.workers = less.3 in
      let next_is : number + 1 ≡ k + 1 = omega (arith, at) in
      let after : k + 1 ≡ worker_after w.workers k = sym (after_small w.workers k small) in
      let here : r ≡ get_or queues (k + 1) r = is ∙ ap (λ (n : ℕ). get_or queues n r) next_is in
      let on : IsOn queues (k + 1) giver = on_too (k + 1) p giver r less.2.on here on_giver in
      let up : HasTakenUp w batches k 0 (view p).moved v y = record {
        number = at;
        same = same;
        begun = begun;
        sent_is = none_sent (into_of w).window k small;
        none_taking = were.takes.free;
        none_giving = on_giver.1;
        takes = were.takes.takes;
        gives = gives ∙ ap (λ (n : ℕ). giving (edge_at w n) 0 (view p).moved) (next_is ∙ after);
      } in
      links_more all ws v passes ps p old mid new players out y last next all_is passes_are out_is were nodes
      (player_linked k 0 (view p).moved (omega (arith, small)) v y less.1 up were.takes.on (subst (λ (n : ℕ). IsOn queues n giver) after on)) (player_placed k 0 (view p).moved (omega (arith, small)) v y less.1 up) same
      (ap (λ (x : View). x.moved) gives)
      (record { on = on_too (k + 1) p next r less.2.on here on_next; free = on_next.1; takes = takes ∙ ap (λ (n : ℕ). taking (edge_at w n) 0) next_is })

  -- and so has the last one, whose pass gives into the first edge, which has the window's list
  pub start_one : (all ws : List WorkerState) (v u : WorkerState) (p giver : Pass Parcel View) (ps : List (Pass Parcel View)) (old given mid new number sent : ℕ) (players out : List Player) (first last : Pass Parcel View) (r : Slotted (Option Parcel) (Doing Parcel View) Q A)
      → all ≡ ws ++ v ∷ [] → out ≡ players ++ record { number = number; worker = u; taking = last; giving = giver; ended = false } ∷ [] → MayBeStarted queues w batches all (p ∷ ps) old → given + length w.list ≡ old → TakesFirst queues w 0 first → AreLinked queues w batches ws ps given mid players last
      → number + 1 ≡ w.workers → r ≡ get_or queues 0 r → IsPassOf r giver → view giver ≡ giving (edge_at w 0) sent (view p).moved → sent ≡ piece_count w.list
      → IsSameWorker v u → ((window : Window) → IsWorkerWindow v w.first_batch batches window → sent ≡ (first_ends window v.number).sent → Plays batches (first_ends window v.number) u)
      → new + own_openings (length v.stages) batches v.workers v.number ≡ mid → AreStarted queues w batches all (p ∷ ps) old new out
  start_one all ws v u p giver ps old given mid new number sent players out first last r all_is out_is may left takes were at is on_giver gives sent_is same begun nodes =
      let less = start_less all ws v p ps old given first all_is may left takes in
      let k : ℕ = length ws in
      let y : Player = record { number = number; worker = u; taking = last; giving = giver; ended = false } in
      let turned_ : k + 1 ≡ w.workers = less.2 in
      let after : 0 ≡ worker_after w.workers k = sym (after_last w.workers k (omega (arith, turned_)) (omega (arith, turned_))) in
      let up : HasTakenUp w batches k sent (view p).moved v y = record {
        number = omega (arith, at, turned_);
        same = same;
        begun = begun;
        sent_is = sent_is ∙ list_sent (into_of w).window k turned_;
        none_taking = were.takes.free;
        none_giving = on_giver.1;
        takes = were.takes.takes;
        gives = gives ∙ ap (λ (n : ℕ). giving (edge_at w n) sent (view p).moved) after;
      } in
      all_started all ws v p ps old given mid new players out y last all_is out_is left were nodes
      (player_linked k sent (view p).moved (omega (arith, turned_)) v y less.1 up were.takes.on (subst (λ (n : ℕ). IsOn queues n giver) after (on_too 0 p giver r may.resting.0.on is on_giver))) (player_placed k sent (view p).moved (omega (arith, turned_)) v y less.1 up) same
      (ap (λ (x : View). x.moved) gives)
