-- A list as it is cut into pieces, in its order.
use Rattle.std.proofs.Common.{◌≡◌, ◌+◌, ◌-◌, ◌*◌, ℕ, min, nat_le, List, length, take, drop, ap, ◌∙◌, arith}
use Rattle.std.proofs.lemmas.List.{length-take, length-drop}
use Rattle.greedy_rules.specs.declared.flows.Item.{Item}
use Rattle.slot_batches.specs.Pieces.{piece_at}
use Rattle.ring_core.proofs.ListLemmas.{all_from}

-- the piece at a place of the list, as it is cut
pub part_is : (stage : ℕ) (items list : List Item) (place to : ℕ) → items ≡ list → to ≡ min (length items) (place * 64 + 64)
    → record { stage = stage; from = place * 64; items = take (to - place * 64) (drop (place * 64) items); end = nat_le (length items) (place * 64 + 64) } ≡ piece_at stage list place
part_is stage items list place to same is =
    let from : ℕ = place * 64 in
    let cut : take (to - from) (drop from items) ≡ take 64 (drop from items) = all_from items from to is in
    let from_is : from ≡ 64 * place = omega arith in
    let to_is : from + 64 ≡ 64 * (place + 1) = omega arith in
    (λ i. record { stage = stage; from = from_is i; items = cut i; end = nat_le (length items) (to_is i) })
    ∙ (ap (λ (n : ℕ). record { stage = stage; from = 64 * place; items = take 64 (drop n items); end = nat_le (length items) (64 * (place + 1)) }) from_is
    ∙ ap (λ (l : List Item). piece_at stage l place) same)

-- how many items it has
pub part_length : (items : List Item) (place to : ℕ) → to ≡ min (length items) (place * 64 + 64) → length (take (to - place * 64) (drop (place * 64) items)) + min (place * 64) (length items) ≡ min ((place + 1) * 64) (length items)
part_length items place to is = omega (arith, is, length-take (to - place * 64) (drop (place * 64) items), length-drop (place * 64) items)
