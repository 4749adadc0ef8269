-- Parcels and the pieces that they are.
use Rattle.std.proofs.Common.{◌≡◌, ℕ, zero, suc, List, [], ◌∷◌, map, Some, refl}
use Rattle.slot_batches.specs.declared.piece.Piece.{Piece}
use Rattle.slot_batches.specs.Pieces.{Part, part_of}
use Rattle.ring_core.specs.Edges.{between}
use Rattle.alloc_pipeline.specs.declared.parcel.Parcel.{Parcel}
use Rattle.alloc_pipeline.specs.declared.parcel.Parcel.TheVariants.{Start as StartOf, Part as PartOf}
use Rattle.alloc_pipeline.specs.Rules.{part_in}

pub between_none : {A : Type 0} (at : ℕ) (xs : List A) → between at at xs ≡ []
between_none zero xs = refl
between_none (suc at) [] = refl
between_none (suc at) (x ∷ xs) = between_none at xs

pub map_none : {A B : Type 0} (f : A → B) (xs : List A) → map f xs ≡ [] → xs ≡ []
map_none f [] is = refl
map_none f (x ∷ xs) is = absurd (cc)

-- what is first among the mapped
pub map_first : {A B : Type 0} (f : A → B) (xs : List A) (y : B) (ys : List B) → y ∷ ys ≡ map f xs → (x : A) × (rest : List A) × (xs ≡ x ∷ rest) × (y ≡ f x) × (ys ≡ map f rest)
map_first f [] y ys is = absurd (cc)
map_first f (x ∷ xs) y ys is = (x, xs, refl, cc, cc)

-- a parcel that is a piece
pub piece_in : (x : Parcel) (part : Part) → part_in x ≡ Some part → (piece : Piece) × (x ≡ PartOf piece) × (part_of piece ≡ part)
piece_in (StartOf mark) part is = absurd (cc)
piece_in (PartOf piece) part is = (piece, refl, cc)
