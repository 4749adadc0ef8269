-- All workers of a ring (this project's own profile).
use Rattle.std.specs.Prelude.{◌≡◌, ℕ, ◌+◌, ◌<◌, ◌≤◌, List, [], ◌∷◌, length, Option, get_or}
use Rattle.greedy_rules.specs.declared.flows.Item.{Item}
use Rattle.ring_core.specs.Windows.{worker_of, list_before_stage}
use Rattle.ring_core.specs.Streams.{pieces_into}
use Rattle.alloc_pipeline.specs.declared.parcel.EdgeWindow.{EdgeWindow}
use Rattle.alloc_pipeline.specs.Rules.{into_of}
use Rattle.crossbeam_queue.specs.declared.array_queue.Doing.{Doing}
use Rattle.crossbeam_queue.specs.declared.array_queue.Slotted.{Slotted}
use Rattle.crossbeam_queue.specs.Passes.{Pass, IsPassOf}
use Rattle.greedy_rules.specs.Batches.{DemandBatch}
use Rattle.ring_core.specs.Workers.{HasEnded}
use Rattle.alloc_pipeline.specs.declared.parcel.Parcel.{Parcel}
use Rattle.alloc_pipeline.specs.declared.parcel.View.{View}
use Rattle.alloc_pipeline.specs.declared.player.Player.{Player}
use Rattle.alloc_pipeline.specs.Players.{PlaysAt, Follows}

-- the list that a window leaves
abbrev pub last_list : EdgeWindow → List Item
last_list w = list_before_stage (into_of w).window (length w.batches)

-- the edge into worker 0, in a window of this list
pub record IsFirstEdge (w : EdgeWindow) (list : List Item) : Type 0 where
  pub some_workers : 0 < w.workers
  pub first : w.worker ≡ 0
  pub list_is : w.list ≡ list

-- the edge into the worker of the last list, of which all before that list was taken
pub record StandsBeforeLast (w : EdgeWindow) (taken : ℕ) : Type 0 where
  pub last : worker_of w.workers (length w.batches) ≡ w.worker
  pub taken_is : taken ≡ length (pieces_into (into_of w).window w.worker (length w.batches))

module _ {Q A : Type 0} where
  -- the pass is one of the queue with that number
  abbrev pub IsOn : List (Slotted (Option Parcel) (Doing Parcel View) Q A) → ℕ → Pass Parcel View → Type 0
  IsOn queues k p = (q : Slotted (Option Parcel) (Doing Parcel View) Q A) → q ≡ get_or queues k q → IsPassOf q p

  pub record IsLinked (queues : List (Slotted (Option Parcel) (Doing Parcel View) Q A)) (batches : List DemandBatch) (s : Player) : Type 0 where
    pub number : s.number < length queues
    pub taking : IsOn queues s.number s.taking
    pub giving : s.number + 1 < length queues → IsOn queues (s.number + 1) s.giving
    pub giving_last : length queues ≤ s.number + 1 → IsOn queues 0 s.giving
    pub plays : PlaysAt batches s

  abbrev pub AllLinked : List (Slotted (Option Parcel) (Doing Parcel View) Q A) → List DemandBatch → List Player → Type 0
  AllLinked queues batches [] = Unit {0}
  AllLinked queues batches (s ∷ rest) = IsLinked queues batches s × AllLinked queues batches rest

  pub record GoesOn (queues : List (Slotted (Option Parcel) (Doing Parcel View) Q A)) (batches : List DemandBatch) (s r : Player) : Type 0 where
    pub plays : PlaysAt batches r
    pub follows : Follows s r

  abbrev pub AllGoOn : List (Slotted (Option Parcel) (Doing Parcel View) Q A) → List DemandBatch → List Player → List Player → Type 0
  AllGoOn queues batches [] [] = Unit {0}
  AllGoOn queues batches (s ∷ ss) (r ∷ rs) = GoesOn queues batches s r × AllGoOn queues batches ss rs
  AllGoOn queues batches [] (r ∷ rs) = ⊥
  AllGoOn queues batches (s ∷ ss) [] = ⊥

abbrev pub AllEnded : List DemandBatch → List Player → Type 0
AllEnded batches [] = Unit {0}
AllEnded batches (s ∷ rest) = HasEnded batches s.worker × AllEnded batches rest
