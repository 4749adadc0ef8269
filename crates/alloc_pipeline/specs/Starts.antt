-- A window as it begins (this project's own profile).
use Rattle.std.specs.Prelude.{◌≡◌, ℕ, ◌+◌, ◌<◌, ◌≤◌, ◌^◌, false, List, [], ◌∷◌, length, map, Option, All}
use Rattle.crossbeam_queue.specs.declared.array_queue.Doing.{Doing}
use Rattle.crossbeam_queue.specs.declared.array_queue.Slotted.{Slotted}
use Rattle.crossbeam_queue.specs.Passes.{Pass, view, ruled_capacity}
use Rattle.greedy_rules.specs.Batches.{DemandBatch}
use Rattle.ring_core.specs.States.{WorkerState}
use Rattle.ring_core.specs.Openings.{crew_openings}
use Rattle.ring_core.specs.Windows.{worker_of}
use Rattle.ring_core.specs.Workers.{IsWorker, MayBegin, IsWorkerWindow, IsSameWorker}
use Rattle.alloc_pipeline.specs.declared.parcel.EdgeWindow.{EdgeWindow}
use Rattle.alloc_pipeline.specs.declared.parcel.Kind.TheVariants.{Whole}
use Rattle.alloc_pipeline.specs.declared.parcel.Parcel.{Parcel}
use Rattle.alloc_pipeline.specs.declared.parcel.View.{View}
use Rattle.alloc_pipeline.specs.declared.player.Player.{Player}
use Rattle.alloc_pipeline.specs.declared.start.Opening.{Opening}
use Rattle.alloc_pipeline.specs.Rules.{taking, into_of, no_window}
use Rattle.alloc_pipeline.specs.Rings.{IsOn, AllLinked, AllEnded, last_list}
use Rattle.alloc_pipeline.specs.Joined.{edge_at, givings, turned, crew_of, AllInPlace}

-- the window that the marks name, and its edge into worker 0
abbrev pub named : Opening → EdgeWindow
named o = record { list = o.list.now.items; batches = map (λ batch. batch.value) o.batches.now.items; first_batch = o.first_batch; b = o.b; workers = o.workers; worker = 0 }

-- the window that they play, and its edge into worker 0
abbrev pub played_window : List Player → EdgeWindow
played_window [] = no_window
played_window (player ∷ players) = edge_at (view player.taking).window 0

-- the passes moved as much before, one by one
abbrev pub SameMoved : List (Pass Parcel View) → List (Pass Parcel View) → Type 0
SameMoved [] [] = Unit {0}
SameMoved (g ∷ gs) (h ∷ hs) = ((view h).moved ≡ (view g).moved) × SameMoved gs hs
SameMoved [] (h ∷ hs) = ⊥
SameMoved (g ∷ gs) [] = ⊥

-- the workers are the same, one by one
abbrev pub AreSame : List WorkerState → List WorkerState → Type 0
AreSame [] [] = Unit {0}
AreSame (w ∷ ws) (v ∷ vs) = IsSameWorker w v × AreSame ws vs
AreSame [] (v ∷ vs) = ⊥
AreSame (w ∷ ws) [] = ⊥

-- the worker of this number may take up the window, and has no nodes
pub record MayTakeUp (w : EdgeWindow) (k : ℕ) (worker : WorkerState) : Type 0 where
  pub number : worker.number ≡ k
  pub is_worker : IsWorker worker
  pub may : MayBegin worker w.first_batch w.batches
  pub window : IsWorkerWindow worker w.first_batch w.batches (into_of w).window
  pub none : All (λ stage. stage.nodes ≡ 0) worker.stages

abbrev pub AllMayTakeUp : EdgeWindow → ℕ → List WorkerState → Type 0
AllMayTakeUp w k [] = Unit {0}
AllMayTakeUp w k (worker ∷ crew) = MayTakeUp w k worker × AllMayTakeUp w (k + 1) crew

module _ {Q A : Type 0} where
  -- it is the whole pass of the queue with this number, between windows
  pub record IsResting (queues : List (Slotted (Option Parcel) (Doing Parcel View) Q A)) (k : ℕ) (p : Pass Parcel View) : Type 0 where
    pub on : IsOn queues k p
    pub whole : (view p).kind ≡ Whole
    pub bare : (view p).marked ≡ false

  abbrev pub AllResting : List (Slotted (Option Parcel) (Doing Parcel View) Q A) → ℕ → List (Pass Parcel View) → Type 0
  AllResting queues k [] = Unit {0}
  AllResting queues k (p ∷ ps) = IsResting queues k p × AllResting queues (k + 1) ps

  -- each edge has room
  abbrev pub HaveRoom : List (Slotted (Option Parcel) (Doing Parcel View) Q A) → Type 0
  HaveRoom queues = All (λ queue. 0 < ruled_capacity queue) queues

  -- the pass takes from the window's edge with this number, and has taken nothing
  pub record TakesFirst (queues : List (Slotted (Option Parcel) (Doing Parcel View) Q A)) (w : EdgeWindow) (k : ℕ) (p : Pass Parcel View) : Type 0 where
    pub on : IsOn queues k p
    pub free : p.me.1 ≡ []
    pub takes : view p ≡ taking (edge_at w k) 0

  -- the first workers of a ring may be linked, each with the pass of the edge after it
  pub record MayLink (queues : List (Slotted (Option Parcel) (Doing Parcel View) Q A)) (w : EdgeWindow) (batches : List DemandBatch) (crew : List WorkerState) (passes : List (Pass Parcel View)) (spare : ℕ) (first : Pass Parcel View) : Type 0 where
    pub batches_are : w.batches ≡ batches
    pub queue_count : length queues ≡ w.workers
    pub few_workers : w.workers < 2 ^ 16
    pub rooms : HaveRoom queues
    pub below : length crew < w.workers
    pub count : length passes ≡ length crew
    pub resting : AllResting queues 1 passes
    pub ready : AllMayTakeUp w 0 crew
    pub nodes : crew_openings batches crew ≤ spare
    pub takes : TakesFirst queues w 0 first

  -- they are linked, and `last` takes from the edge after the last of them
  pub record AreLinked (queues : List (Slotted (Option Parcel) (Doing Parcel View) Q A)) (w : EdgeWindow) (batches : List DemandBatch) (crew : List WorkerState) (passes : List (Pass Parcel View)) (spare_old spare_new : ℕ) (players : List Player) (last : Pass Parcel View) : Type 0 where
    pub linked : AllLinked queues batches players
    pub places : AllInPlace w 0 players
    pub count : length players ≡ length crew
    pub same : AreSame crew (crew_of players)
    pub moved : SameMoved passes (givings players)
    pub nodes : spare_new + crew_openings batches crew ≡ spare_old
    pub takes : TakesFirst queues w (length crew) last

  -- a ring may begin the window: it has a queue, a pass and a worker of each number, and nodes for the list and for what opens
  pub record MayBeStarted (queues : List (Slotted (Option Parcel) (Doing Parcel View) Q A)) (w : EdgeWindow) (batches : List DemandBatch) (crew : List WorkerState) (passes : List (Pass Parcel View)) (spare : ℕ) : Type 0 where
    pub batches_are : w.batches ≡ batches
    pub queue_count : length queues ≡ w.workers
    pub some_workers : 0 < w.workers
    pub few_workers : w.workers < 2 ^ 16
    pub rooms : HaveRoom queues
    pub count_crew : length crew ≡ w.workers
    pub count : length passes ≡ w.workers
    pub resting : AllResting queues 0 passes
    pub ready : AllMayTakeUp w 0 crew
    pub few_items : length w.list ≤ 65536
    pub nodes : crew_openings batches crew + length w.list ≤ spare

  -- it has begun
  pub record AreStarted (queues : List (Slotted (Option Parcel) (Doing Parcel View) Q A)) (w : EdgeWindow) (batches : List DemandBatch) (crew : List WorkerState) (passes : List (Pass Parcel View)) (spare_old spare_new : ℕ) (players : List Player) : Type 0 where
    pub linked : AllLinked queues batches players
    pub places : AllInPlace w 0 players
    pub count : length players ≡ length crew
    pub same : AreSame crew (crew_of players)
    pub moved : SameMoved passes (turned players)
    pub nodes : spare_new + (crew_openings batches crew + length w.list) ≡ spare_old

  -- the players of a window, by their numbers; `last` is the worker whose edge brings the list that it leaves, for which there is room
  pub record AreOfWindow (queues : List (Slotted (Option Parcel) (Doing Parcel View) Q A)) (w : EdgeWindow) (players : List Player) (last room spare : ℕ) : Type 0 where
    pub places : AllInPlace w 0 players
    pub queue_count : length queues ≡ w.workers
    pub player_count : length players ≡ w.workers
    pub some_workers : 0 < w.workers
    pub few_workers : w.workers < 2 ^ 16
    pub last_is : worker_of w.workers (length w.batches) ≡ last
    pub fits : length (last_list w) ≤ room
    pub counts : spare + length (last_list w) < 2 ^ 64

  -- they may play the window to its end
  pub record MayPlayOut (queues : List (Slotted (Option Parcel) (Doing Parcel View) Q A)) (w : EdgeWindow) (batches : List DemandBatch) (players : List Player) (last room spare : ℕ) : Type 0 where
    pub batches_are : w.batches ≡ batches
    pub linked : AllLinked queues batches players
    pub all : AreOfWindow queues w players last room spare

  -- all have ended, and the list that the window leaves may be taken
  pub record MayCollect (queues : List (Slotted (Option Parcel) (Doing Parcel View) Q A)) (w : EdgeWindow) (players : List Player) (last room spare : ℕ) : Type 0 where
    pub linked : AllLinked queues w.batches players
    pub ended : AllEnded w.batches players
    pub all : AreOfWindow queues w players last room spare
