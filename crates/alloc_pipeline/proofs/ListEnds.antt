-- The lists at the two ends of a window, piece by piece.
use Rattle.std.proofs.Common.{◌≡◌, ◌<◌, ◌≤◌, ◌+◌, ◌*◌, ℕ, zero, suc, nat_le, true, false, List, [], ◌∷◌, ◌++◌, length, take, drop, Some, slice_get, sym, ap, ◌∙◌, subst, arith, length-append, append_assoc}
use Rattle.std.proofs.lemmas.Option.{same_Some}
use Rattle.std.proofs.lemmas.List.{take_all}
use Rattle.std.proofs.lemmas.Bool.{leb-true, leb-false}
use Rattle.list_facts.proofs.Lists.{take_on}
use Rattle.greedy_rules.specs.declared.flows.Item.{Item}
use Rattle.slot_batches.specs.declared.piece.Piece.{Piece}
use Rattle.slot_batches.specs.Pieces.{Part, part_of, piece_at, piece_count, pieces}
use Rattle.ring_core.specs.Windows.{Window, list_before_stage, pieces_before}
use Rattle.ring_core.specs.Streams.{IsPieceAt, edge_stream, pieces_into}
use Rattle.ring_core.proofs.StreamLemmas.{stream_has, into_own, length-pieces}
use Rattle.ring_core.proofs.StartLemmas.{own_zero}
use Rattle.ring_core.proofs.WindowLemmas.{first_list}
use Rattle.alloc_pipeline.specs.declared.parcel.EdgeWindow.{EdgeWindow}
use Rattle.alloc_pipeline.specs.Rules.{into_of}
use Rattle.alloc_pipeline.specs.Rings.{IsFirstEdge, StandsBeforeLast, last_list}

-- the first edge's stream begins with the pieces of the window's list
pub first_piece : (w : EdgeWindow) (list : List Item) (place : ℕ) → IsFirstEdge w list → place < piece_count list → slice_get (edge_stream (into_of w)) place ≡ Some (piece_at 0 list place)
first_piece w list place first below =
    let window : Window = (into_of w).window in
    let is : list_before_stage window 0 ≡ list = first_list window ∙ first.list_is in
    let within : place < pieces_before window 0 = omega (arith, below, ap piece_count is) in
    let here = stream_has (into_of w) 0 place (own_zero w.workers first.some_workers ∙ sym first.first) (omega arith) within in
    let at : 0 + place ≡ place = omega arith in
    subst (λ (n : ℕ). slice_get (edge_stream (into_of w)) n ≡ Some (piece_at 0 list place)) at (here ∙ ap (λ (l : List Item). Some (piece_at 0 l place)) is)

-- an edge's stream ends with those of the list that the window leaves
pub last_piece : (w : EdgeWindow) (taken place : ℕ) → StandsBeforeLast w taken → place < piece_count (last_list w) → slice_get (edge_stream (into_of w)) (taken + place) ≡ Some (piece_at (length w.batches) (last_list w) place)
last_piece w taken place stands below =
    subst (λ (n : ℕ). slice_get (edge_stream (into_of w)) (n + place) ≡ Some (piece_at (length w.batches) (last_list w) place)) (sym stands.taken_is)
    (stream_has (into_of w) (length w.batches) place stands.last (omega arith) below)

pub all_taken_then : (w : EdgeWindow) (taken : ℕ) → StandsBeforeLast w taken → taken + piece_count (last_list w) ≡ length (edge_stream (into_of w))
unfolding edge_stream
all_taken_then w taken stands =
    let window : Window = (into_of w).window in
    let n : ℕ = length w.batches in
    let all = into_own window w.worker n stands.last in
    omega (arith, stands.taken_is, ap length all, length-append (pieces_into window w.worker n) (pieces n (list_before_stage window n)), length-pieces window n)

take_short : {X : Type 0} (n : ℕ) (xs : List X) → length (take n xs) ≤ length xs
take_short zero xs = omega arith
take_short (suc n) [] = omega arith
take_short (suc n) (x ∷ xs) = let r = take_short n xs in omega arith

-- so many pieces of the list were taken, and no more than it has
pub record HasTakenOf (w : EdgeWindow) (start : ℕ) (old : List Item) (taken : ℕ) (items : List Item) : Type 0 where
  pub place : ℕ
  pub going : place < piece_count (last_list w)
  pub at : taken ≡ start + place
  pub items_are : items ≡ old ++ take (64 * place) (last_list w)

pub taken_there : (w : EdgeWindow) (start : ℕ) (old : List Item) (a b : ℕ) (xs ys : List Item) → b ≡ a → ys ≡ xs → HasTakenOf w start old a xs → HasTakenOf w start old b ys
taken_there w start old a b xs ys at is was = record { place = was.place; going = was.going; at = at ∙ was.at; items_are = is ∙ was.items_are }

module _ (w : EdgeWindow) (start : ℕ) (stands : StandsBeforeLast w start) (old items : List Item) (taken : ℕ) (was : HasTakenOf w start old taken items) (piece : Piece) (next : IsPieceAt (into_of w) taken piece) where
  abbrev list : List Item
  list = last_list w

  part_here : part_of piece ≡ piece_at (length w.batches) list was.place
  part_here = same_Some _ _ (sym next ∙ (ap (slice_get (edge_stream (into_of w))) was.at ∙ last_piece w start was.place stands was.going))

  pub grown : items ++ piece.items ≡ old ++ take (64 * (was.place + 1)) list
  grown =
      let on : 64 * was.place + 64 ≡ 64 * (was.place + 1) = omega arith in
      let items_here : piece.items ≡ take 64 (drop (64 * was.place) list) = ap (λ (p : Part). p.items) part_here in
      (λ i. was.items_are i ++ items_here i)
      ∙ (append_assoc old (take (64 * was.place) list) (take 64 (drop (64 * was.place) list))
      ∙ ap (λ (l : List Item). old ++ l) (sym (take_on (64 * was.place) 64 list) ∙ ap (λ (n : ℕ). take n list) on))

  end_here : piece.end ≡ nat_le (length list) (64 * (was.place + 1))
  end_here = ap (λ (p : Part). p.end) part_here

  pub fits : (room : ℕ) → length list ≤ room → length items + length piece.items ≤ length old + room
  fits room enough =
      omega (arith, length-append items piece.items, ap length grown, length-append old (take (64 * (was.place + 1)) list), take_short (64 * (was.place + 1)) list, enough)

  pub goes_on : piece.end ≡ false → HasTakenOf w start old (taken + 1) (items ++ piece.items)
  goes_on more =
      let beyond : 64 * (was.place + 1) < length list = leb-false (length list) (64 * (was.place + 1)) (sym end_here ∙ more) in
      record { place = was.place + 1; going = omega (arith, beyond, was.going); at = omega (arith, was.at); items_are = grown }

  pub ends : piece.end ≡ true → (items ++ piece.items ≡ old ++ list) × (taken + 1 ≡ length (edge_stream (into_of w)))
  ends last =
      let all : length list ≤ 64 * (was.place + 1) = leb-true (length list) (64 * (was.place + 1)) (sym end_here ∙ last) in
      (grown ∙ ap (λ (l : List Item). old ++ l) (take_all (64 * (was.place + 1)) list all), omega (arith, all, was.going, was.at, all_taken_then w start stands))
