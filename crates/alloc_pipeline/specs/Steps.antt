-- What each step of an edge tells (this project's own profile).
use Rattle.std.specs.Prelude.{◌≡◌, ℕ, ◌+◌, ◌≤◌, true, false, List, length}
use Rattle.slot_batches.specs.declared.piece.Piece.{Piece}
use Rattle.ring_core.specs.Streams.{IsPieceAt, edge_stream}
use Rattle.alloc_pipeline.specs.declared.parcel.Mark.{Mark}
use Rattle.alloc_pipeline.specs.declared.parcel.Parcel.{Parcel}
use Rattle.alloc_pipeline.specs.declared.parcel.Parcel.TheVariants.{Start as StartOf, Part as PartOf}
use Rattle.alloc_pipeline.specs.declared.parcel.View.{View}
use Rattle.alloc_pipeline.specs.Rules.{whole, giving, taking, named_by, into_of, AreBetween}

abbrev pub Marked : View → Parcel → View → Type 0
Marked v x w = (mark : Mark) × (x ≡ StartOf mark) × (w ≡ whole true (named_by mark) v.moved)

abbrev pub Unmarked : View → Parcel → View → Type 0
Unmarked v x w = w ≡ whole false v.window v.moved

abbrev pub Given : View → Parcel → View → Type 0
Given v x w = w ≡ giving v.window (v.position + 1) v.moved

abbrev pub Taken : View → Parcel → View → Type 0
Taken v x w = (piece : Piece) × (x ≡ PartOf piece) × IsPieceAt (into_of v.window) v.position piece × (w ≡ taking v.window (v.position + 1))

-- what a refused push teaches of the parcels: they are the stream up to what was sent
abbrev pub HeldThen : View → List Parcel → Type 0
HeldThen v items = (taken : ℕ) × (taken ≤ v.position) × (v.position ≤ length (edge_stream (into_of v.window))) × AreBetween v.window taken v.position items

-- what a refused pop teaches: they are the stream from what was taken
abbrev pub LeftThen : View → List Parcel → Type 0
LeftThen v items = (sent : ℕ) × (v.position ≤ sent) × (sent ≤ length (edge_stream (into_of v.window))) × AreBetween v.window v.position sent items
