-- A list cut into pieces of 64 items: the last has the end, and an empty list has one empty piece; and which piece comes next
-- of a list that is still growing (this project's own profile).
use Rattle.std.specs.Prelude.{◌≡◌, ℕ, ◌+◌, ◌-◌, ◌*◌, ◌/◌, List, length, take, drop, map, Bool, true, ◌&&◌, ◌||◌, nat_le, nat_lt, Option, Some, None, slice_get, if◌then◌else◌}
use Rattle.std.specs.List.{range_with_len}
use Rattle.greedy_rules.specs.declared.flows.Item.{Item}
use Rattle.slot_batches.specs.declared.piece.Piece.{Piece}

-- a piece, its items as a list
pub record Part : Type 0 where
  pub stage : ℕ
  pub from : ℕ
  pub items : List Item
  pub end : Bool

abbrev pub part_of : Piece → Part
part_of piece = record { stage = piece.stage; from = piece.from; items = piece.items; end = piece.end }

abbrev pub piece_count : List Item → ℕ
piece_count list = (length list - 1) / 64 + 1

-- the piece at this place, counted from 0
abbrev pub piece_at : ℕ → List Item → ℕ → Part
piece_at stage list place =
    record { stage = stage; from = 64 * place; items = take 64 (drop (64 * place) list); end = nat_le (length list) (64 * (place + 1)) }

abbrev pub pieces : ℕ → List Item → List Part
pieces stage list = map (piece_at stage list) (range_with_len 0 (piece_count list))

-- the settled items that are in no piece given yet, where so many were given
abbrev pub waiting_items : ℕ → List Item → List Item
waiting_items given settled = drop (64 * given) settled

-- a piece comes where more than 64 items wait, or where the list has ended and the piece with its end was not given
abbrev pub has_piece : Bool → ℕ → List Item → Bool
has_piece finished given settled = nat_lt 64 (length (waiting_items given settled)) || (finished && nat_lt given (piece_count settled))

abbrev pub next_piece : ℕ → Bool → ℕ → List Item → Option Part
next_piece stage finished given settled = if has_piece finished given settled then Some (piece_at stage settled given) else None

-- of a list that has ended the next piece is the one at its place
abbrev pub EndedListsGiveTheirPieces : Type 0
EndedListsGiveTheirPieces = (stage given : ℕ) (list : List Item) → next_piece stage true given list ≡ slice_get (pieces stage list) given
