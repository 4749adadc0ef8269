-- Edges that a list lies whole before, counted as its pieces.
use Rattle.std.proofs.Common.{◌≡◌, ◌≢◌, ◌+◌, ℕ, zero, suc, List, [], ◌∷◌, length, set, Option, Some, None, slice_get, refl, sym, ap, ◌∙◌}
use Rattle.std.proofs.lemmas.Option.{same_Some}
use Rattle.std.proofs.lemmas.List.FromFn.{length-map-range_with_len}
use Rattle.greedy_rules.specs.declared.flows.Item.{Item}
use Rattle.slot_batches.specs.Pieces.{Part, piece_at, piece_count, pieces}
use Rattle.ring_core.specs.States.{EdgeState}
use Rattle.ring_core.specs.Edges.{room_at}
use Rattle.ring_core.specs.Windows.{worker_of}
use Rattle.ring_core.specs.Wholes.{with_parts, with_list}

pub count_is : (stage : ℕ) (list : List Item) → length (pieces stage list) ≡ piece_count list
count_is stage list = length-map-range_with_len (piece_at stage list) 0 (piece_count list)

-- an edge into which pieces were sent
abbrev pub sent_into : EdgeState → List Part → EdgeState
sent_into edge parts = record { pieces = parts; taken = edge.taken; sent = edge.sent + length parts; room = edge.room }

pub parts_here : (number : ℕ) (parts : List Part) (edges : List EdgeState) (edge : EdgeState) → slice_get edges number ≡ Some edge → slice_get (with_parts number parts edges) number ≡ Some (sent_into edge parts)
parts_here number parts [] edge is = absurd (cc)
parts_here zero parts (e ∷ es) edge is = ap (λ (x : EdgeState). Some (sent_into x parts)) (same_Some e edge is)
parts_here (suc number) parts (e ∷ es) edge is = parts_here number parts es edge is

pub parts_other : (number k : ℕ) (parts : List Part) (edges : List EdgeState) → k ≢ number → slice_get (with_parts number parts edges) k ≡ slice_get edges k
parts_other number k parts [] other = refl
parts_other zero zero parts (e ∷ es) other = absurd (other refl)
parts_other zero (suc k) parts (e ∷ es) other = refl
parts_other (suc number) zero parts (e ∷ es) other = refl
parts_other (suc number) (suc k) parts (e ∷ es) other = parts_other number k parts es (λ is. other (ap suc is))

pub parts_length : (number : ℕ) (parts : List Part) (edges : List EdgeState) → length (with_parts number parts edges) ≡ length edges
parts_length number parts [] = refl
parts_length zero parts (e ∷ es) = refl
parts_length (suc number) parts (e ∷ es) = ap suc (parts_length number parts es)

pub parts_room : (number : ℕ) (parts : List Part) (edges : List EdgeState) (k : ℕ) → room_at (with_parts number parts edges) k ≡ room_at edges k
parts_room number parts [] k = refl
parts_room zero parts (e ∷ es) zero = refl
parts_room zero parts (e ∷ es) (suc k) = refl
parts_room (suc number) parts (e ∷ es) zero = refl
parts_room (suc number) parts (e ∷ es) (suc k) = parts_room number parts es k

pub parts_set : (number : ℕ) (parts : List Part) (edges : List EdgeState) (edge new : EdgeState) → slice_get edges number ≡ Some edge → new ≡ sent_into edge parts → set edges number new ≡ with_parts number parts edges
parts_set number parts [] edge new is new_is = refl
parts_set zero parts (e ∷ es) edge new is new_is = ap (λ (x : EdgeState). x ∷ es) (new_is ∙ ap (λ (x : EdgeState). sent_into x parts) (sym (same_Some e edge is)))
parts_set (suc number) parts (e ∷ es) edge new is new_is = ap (λ (xs : List EdgeState). e ∷ xs) (parts_set number parts es edge new is new_is)

pub list_length : (whole : Option ℕ) (workers : ℕ) (list : List Item) (edges : List EdgeState) → length (with_list whole workers list edges) ≡ length edges
list_length None workers list edges = refl
list_length (Some stage) workers list edges = parts_length (worker_of workers stage) (pieces stage list) edges

pub list_room : (whole : Option ℕ) (workers : ℕ) (list : List Item) (edges : List EdgeState) (k : ℕ) → room_at (with_list whole workers list edges) k ≡ room_at edges k
list_room None workers list edges k = refl
list_room (Some stage) workers list edges k = parts_room (worker_of workers stage) (pieces stage list) edges k
