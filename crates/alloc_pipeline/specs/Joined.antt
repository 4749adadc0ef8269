-- The two passes of each edge, and the pass that they become (this project's own profile).
use Rattle.std.specs.Prelude.{◌≡◌, ℕ, ◌+◌, ◌<◌, false, List, [], ◌∷◌, length, Option}
use Rattle.crossbeam_queue.specs.declared.array_queue.Doing.{Doing}
use Rattle.crossbeam_queue.specs.declared.array_queue.Slotted.{Slotted}
use Rattle.crossbeam_queue.specs.Passes.{Pass, view}
use Rattle.ring_core.specs.States.{WorkerState}
use Rattle.alloc_pipeline.specs.declared.parcel.Kind.TheVariants.{Giving, Taking}
use Rattle.alloc_pipeline.specs.declared.parcel.Parcel.{Parcel}
use Rattle.alloc_pipeline.specs.declared.parcel.View.{View}
use Rattle.alloc_pipeline.specs.declared.player.Player.{Player}
use Rattle.slot_batches.specs.Pieces.{Part}
use Rattle.ring_core.specs.Streams.{edge_stream}
use Rattle.ring_core.specs.Windows.{worker_after}
use Rattle.alloc_pipeline.specs.declared.parcel.EdgeWindow.{EdgeWindow}
use Rattle.alloc_pipeline.specs.Rules.{whole, into_of}
use Rattle.alloc_pipeline.specs.Rings.{IsOn}

abbrev pub givings : List Player → List (Pass Parcel View)
givings [] = []
givings (s ∷ rest) = s.giving ∷ givings rest

abbrev pub takings : List Player → List (Pass Parcel View)
takings [] = []
takings (s ∷ rest) = s.taking ∷ takings rest

-- the giving passes by the edges that they are of: the last player's first
abbrev pub last_pass : Pass Parcel View → List (Pass Parcel View) → Pass Parcel View
last_pass g [] = g
last_pass g (h ∷ rest) = last_pass h rest

abbrev pub early_of : Pass Parcel View → List (Pass Parcel View) → List (Pass Parcel View)
early_of g [] = []
early_of g (h ∷ rest) = g ∷ early_of h rest

abbrev pub turned_passes : List (Pass Parcel View) → List (Pass Parcel View)
turned_passes [] = []
turned_passes (g ∷ rest) = last_pass g rest ∷ early_of g rest

abbrev pub turned : List Player → List (Pass Parcel View)
turned players = turned_passes (givings players)

abbrev pub crew_of : List Player → List WorkerState
crew_of [] = []
crew_of (s ∷ rest) = s.worker ∷ crew_of rest

module _ {Q A : Type 0} where
  -- all that the one sent the other took
  pub record IsEven (queues : List (Slotted (Option Parcel) (Doing Parcel View) Q A)) (k : ℕ) (g t : Pass Parcel View) : Type 0 where
    pub number : k < length queues
    pub on_giving : IsOn queues k g
    pub on_taking : IsOn queues k t
    pub giving : (view g).kind ≡ Giving
    pub taking : (view t).kind ≡ Taking
    pub even : (view g).position ≡ (view t).position

  abbrev pub AllEven : List (Slotted (Option Parcel) (Doing Parcel View) Q A) → ℕ → List (Pass Parcel View) → List (Pass Parcel View) → Type 0
  AllEven queues k [] [] = Unit {0}
  AllEven queues k (g ∷ gs) (t ∷ ts) = IsEven queues k g t × AllEven queues (k + 1) gs ts
  AllEven queues k [] (t ∷ ts) = ⊥
  AllEven queues k (g ∷ gs) [] = ⊥

  -- it is the whole pass of the edge, and has moved what the giving one sent
  pub record IsJoined (queues : List (Slotted (Option Parcel) (Doing Parcel View) Q A)) (k : ℕ) (g p : Pass Parcel View) : Type 0 where
    pub on : IsOn queues k p
    pub joined : view p ≡ whole false (view g).window ((view g).moved + (view g).position)

  abbrev pub AllJoined : List (Slotted (Option Parcel) (Doing Parcel View) Q A) → ℕ → List (Pass Parcel View) → List (Pass Parcel View) → Type 0
  AllJoined queues k [] [] = Unit {0}
  AllJoined queues k (g ∷ gs) (p ∷ ps) = IsJoined queues k g p × AllJoined queues (k + 1) gs ps
  AllJoined queues k [] (p ∷ ps) = ⊥
  AllJoined queues k (g ∷ gs) [] = ⊥

-- the window's edge into another worker
abbrev pub edge_at : EdgeWindow → ℕ → EdgeWindow
edge_at w k = record { list = w.list; batches = w.batches; first_batch = w.first_batch; b = w.b; workers = w.workers; worker = k }

abbrev pub stream_at : EdgeWindow → ℕ → List Part
stream_at w k = edge_stream (into_of (edge_at w k))

-- the player is that of this worker, in this window
pub record IsInPlace (w : EdgeWindow) (k : ℕ) (s : Player) : Type 0 where
  pub number : s.number ≡ k
  pub worker : s.worker.number ≡ k
  pub workers : s.worker.workers ≡ w.workers
  pub taking_in : (view s.taking).window ≡ edge_at w k
  pub giving_in : (view s.giving).window ≡ edge_at w (worker_after w.workers k)

abbrev pub AllInPlace : EdgeWindow → ℕ → List Player → Type 0
AllInPlace w k [] = Unit {0}
AllInPlace w k (s ∷ rest) = IsInPlace w k s × AllInPlace w (k + 1) rest

module _ {Q A : Type 0} where
  -- the giving pass of the edge into this worker, with all of the stream sent
  pub record HasGiven (queues : List (Slotted (Option Parcel) (Doing Parcel View) Q A)) (w : EdgeWindow) (k : ℕ) (p : Pass Parcel View) : Type 0 where
    pub on : IsOn queues k p
    pub kind : (view p).kind ≡ Giving
    pub window : (view p).window ≡ edge_at w k
    pub all : (view p).position ≡ length (stream_at w k)

  -- the taking pass of that edge, with all of the stream taken
  pub record HasTaken (queues : List (Slotted (Option Parcel) (Doing Parcel View) Q A)) (w : EdgeWindow) (k : ℕ) (p : Pass Parcel View) : Type 0 where
    pub on : IsOn queues k p
    pub kind : (view p).kind ≡ Taking
    pub all : (view p).position ≡ length (stream_at w k)

  pub record IsDrained (queues : List (Slotted (Option Parcel) (Doing Parcel View) Q A)) (w : EdgeWindow) (k : ℕ) (s : Player) : Type 0 where
    pub taking : HasTaken queues w k s.taking
    pub giving : HasGiven queues w (worker_after w.workers k) s.giving

  abbrev pub AllDrained : List (Slotted (Option Parcel) (Doing Parcel View) Q A) → EdgeWindow → ℕ → List Player → Type 0
  AllDrained queues w k [] = Unit {0}
  AllDrained queues w k (s ∷ rest) = IsDrained queues w k s × AllDrained queues w (k + 1) rest

  -- the whole pass of the edge into this worker: it has moved the stream
  pub record IsRaised (queues : List (Slotted (Option Parcel) (Doing Parcel View) Q A)) (w : EdgeWindow) (k : ℕ) (g p : Pass Parcel View) : Type 0 where
    pub on : IsOn queues k p
    pub raised : view p ≡ whole false (edge_at w k) ((view g).moved + length (stream_at w k))

  abbrev pub AllRaised : List (Slotted (Option Parcel) (Doing Parcel View) Q A) → EdgeWindow → ℕ → List (Pass Parcel View) → List (Pass Parcel View) → Type 0
  AllRaised queues w k [] [] = Unit {0}
  AllRaised queues w k (g ∷ gs) (p ∷ ps) = IsRaised queues w k g p × AllRaised queues w (k + 1) gs ps
  AllRaised queues w k [] (p ∷ ps) = ⊥
  AllRaised queues w k (g ∷ gs) [] = ⊥
