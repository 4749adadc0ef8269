-- The rule of an edge (this project's own profile).
use Rattle.std.specs.Prelude.{◌≡◌, ℕ, ◌≤◌, Bool, true, false, List, [], ◌∷◌, map, length, ◌⊎◌, Option, Some, None}
use mathlib.Core.Option.{some}
use lib.ListN.{get_elem?}
use Rattle.slot_batches.specs.Pieces.{Part, part_of}
use Rattle.ring_core.specs.Windows.{window_of}
use Rattle.ring_core.specs.Streams.{EdgeInto, edge_stream}
use Rattle.ring_core.specs.Edges.{between}
use Rattle.alloc_pipeline.specs.declared.parcel.Kind.TheVariants.{Whole, Giving, Taking, Spent}
use Rattle.alloc_pipeline.specs.declared.parcel.Mark.{Mark}
use Rattle.alloc_pipeline.specs.declared.parcel.Parcel.{Parcel}
use Rattle.alloc_pipeline.specs.declared.parcel.Parcel.TheVariants.{Start as StartOf, Part as PartOf}
use Rattle.alloc_pipeline.specs.declared.parcel.View.{View}
use Rattle.alloc_pipeline.specs.declared.parcel.EdgeWindow.{EdgeWindow}

abbrev pub no_window : EdgeWindow
no_window = record { list = []; batches = []; first_batch = 0; b = 0; workers = 0; worker = 0 }

-- the edge of a window, as the ring has it
abbrev pub into_of : EdgeWindow → EdgeInto
into_of w = record { window = window_of w.list w.batches w.first_batch w.b w.workers; worker = w.worker }

-- the window and the edge that a start mark names
abbrev pub named_by : Mark → EdgeWindow
named_by m = record { list = m.list.value.items; batches = map (λ batch. batch.value) m.batches.value.items; first_batch = m.first_batch; b = m.b; workers = m.workers; worker = m.worker }

abbrev pub whole : Bool → EdgeWindow → ℕ → View
whole marked w moved = record { kind = Whole; marked = marked; window = w; position = 0; moved = moved }

abbrev pub giving : EdgeWindow → ℕ → ℕ → View
giving w sent moved = record { kind = Giving; marked = false; window = w; position = sent; moved = moved }

abbrev pub taking : EdgeWindow → ℕ → View
taking w taken = record { kind = Taking; marked = false; window = w; position = taken; moved = 0 }

abbrev pub spent : View
spent = record { kind = Spent; marked = false; window = no_window; position = 0; moved = 0 }

-- the piece of a parcel, if it is one
abbrev pub part_in : Parcel → Option Part
part_in (StartOf mark) = None
part_in (PartOf piece) = Some (part_of piece)

-- the parcels are these pieces of the edge's stream
abbrev pub AreBetween : EdgeWindow → ℕ → ℕ → List Parcel → Type 0
AreBetween w taken sent items = map part_in items ≡ map Some (between taken sent (edge_stream (into_of w)))

-- what the queue holds beside a whole pass
abbrev pub EdgeIsAtRest : Bool → EdgeWindow → List Parcel → Type 0
EdgeIsAtRest true w items = (mark : Mark) × (named_by mark ≡ w) × (items ≡ StartOf mark ∷ [])
EdgeIsAtRest false w items = items ≡ []

-- one whole view, and else spent ones
pub record ViewsRest (items : List Parcel) (views : List View) : Type 0 where
  pub holder : ℕ
  pub marked : Bool
  pub window : EdgeWindow
  pub moved : ℕ
  pub holds : EdgeIsAtRest marked window items
  pub others : (port : ℕ) (v : View) → get_elem? views port ≡ some v → (v.kind ≡ Spent) ⊎ ((port ≡ holder) × (v ≡ whole marked window moved))

-- one giving and one taking view, and else spent ones
pub record ViewsRun (items : List Parcel) (views : List View) : Type 0 where
  pub giver : ℕ
  pub taker : ℕ
  pub window : EdgeWindow
  pub taken : ℕ
  pub sent : ℕ
  pub moved : ℕ
  pub order : taken ≤ sent
  pub within : sent ≤ length (edge_stream (into_of window))
  pub holds : AreBetween window taken sent items
  pub others : (port : ℕ) (v : View) → get_elem? views port ≡ some v → (v.kind ≡ Spent) ⊎ (((port ≡ giver) × (v ≡ giving window sent moved)) ⊎ ((port ≡ taker) × (v ≡ taking window taken)))

abbrev pub Kept : List Parcel → List View → Type 0
Kept items views = ViewsRest items views ⊎ ViewsRun items views
