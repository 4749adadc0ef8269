-- What flows through the edges of a ring in a window: the edge into a worker brings it the pieces of the lists before its own
-- stages, one list after the other (this project's own profile).
use Rattle.std.specs.Prelude.{◌≡◌, ℕ, zero, suc, ◌+◌, List, [], ◌∷◌, ◌++◌, length, Some, ◌==◌, slice_get, if◌then◌else◌}
use Rattle.greedy_rules.specs.declared.flows.Item.{Item}
use Rattle.slot_batches.specs.declared.piece.Piece.{Piece}
use Rattle.slot_batches.specs.Pieces.{Part, part_of, pieces}
use Rattle.ring_core.specs.Windows.{Window, list_before_stage, worker_of}

-- the edge into a worker in a window
pub record EdgeInto : Type 0 where
  pub window : Window
  pub worker : ℕ

-- the items of pieces, one piece after the other
abbrev pub items_of : List Part → List Item
items_of [] = []
items_of (part ∷ parts) = part.items ++ items_of parts

-- the pieces of the list before a stage, where the worker is the stage's
abbrev pub pieces_at : Window → ℕ → ℕ → List Part
pieces_at window worker stage = if worker_of window.workers stage == worker then pieces stage (list_before_stage window stage) else []

-- the pieces of the lists before the worker's stages below this one; the list that the window leaves counts as one before
-- a further stage
abbrev pub pieces_into : Window → ℕ → ℕ → List Part
pieces_into window worker zero = []
pieces_into window worker (suc stage) = pieces_into window worker stage ++ pieces_at window worker stage

unfoldable pub edge_stream : EdgeInto → List Part
edge_stream edge = pieces_into edge.window edge.worker (length edge.window.batches + 1)

-- the piece at this place of the edge's stream
abbrev pub IsPieceAt : EdgeInto → ℕ → Piece → Type 0
IsPieceAt edge at piece = slice_get (edge_stream edge) at ≡ Some (part_of piece)
