-- A list that is woven where it stands: its runs move down.
use Rattle.std.proofs.Common.{◌≡◌, ◌<◌, ◌≤◌, ◌+◌, ◌-◌, ℕ, Bool, List, ◌++◌, length, take, drop, get_or, refl, sym, ap, ◌∙◌, subst, arith}
use Rattle.std.specs.List.{copy_within}
use Rattle.std.proofs.lemmas.List.{append_assoc, take_all, take_at, take_rest, take-take, drop-take, drop-drop, drop_at, length-take-le, length-drop, take-append-le, drop-append-le}
use Rattle.std.proofs.lemmas.List.Edits.{take-paste, drop-paste}
use Rattle.greedy_rules.specs.declared.flows.Item.{Item}
use Rattle.slot_batches.specs.Woven.{weave, woven, places_from}
use Rattle.window_allocation.specs.Picked.{staying}
use Rattle.window_allocation.proofs.Places.{IsStep, next_step}

-- lists that are alike from a place on are so from every later one
pub further : {X : Type 0} (xs ys : List X) (from to : ℕ) → from ≤ to → drop from xs ≡ drop from ys → drop to xs ≡ drop to ys
further xs ys from to up alike =
    let there : from + (to - from) ≡ to = omega (arith, up) in
    ap (λ (k : ℕ). drop k xs) (sym there)
    ∙ (sym (drop-drop (to - from) from xs) ∙ (ap (drop (to - from)) alike ∙ (drop-drop (to - from) from ys ∙ ap (λ (k : ℕ). drop k ys) there)))

-- what a move down leaves: the run behind what stood before it, and all that stood behind the run
pub moved : {X : Type 0} (xs : List X) (end from to : ℕ) → end ≤ from → from ≤ to → to ≤ length xs
    → (take (end + (to - from)) (copy_within xs from to end) ≡ take end xs ++ take (to - from) (drop from xs)) × (drop to (copy_within xs from to end) ≡ drop to xs)
moved xs end from to down run within =
    let n : ℕ = to - from in
    let inside : end ≤ length xs = omega (arith, down, run, within) in
    let long : n ≤ length (drop from xs) = omega (arith, length-drop from xs, run, within) in (
      take-paste xs end (drop from xs) n inside long,
      further (copy_within xs from to end) xs (end + n) to (omega (arith, down, run)) (drop-paste xs end (drop from xs) n inside long),
    )

-- a run of the old list moves down, with the item behind it, if it stays: this was put at its place before
pub run_moved : {X : Type 0} (old list now : List X) (end from to kept : ℕ) (stays : List X) → end ≤ from → from ≤ to → to < length list → length now ≡ length list → kept ≤ 1
    → drop from list ≡ drop from old → take (to + kept) now ≡ take to list ++ stays → drop (to + 1) now ≡ drop (to + 1) list
    → (take (end + (to + kept - from)) (copy_within now from (to + kept) end) ≡ take end list ++ (take (to - from) (drop from old) ++ stays))
    × (drop (to + 1) (copy_within now from (to + kept) end) ≡ drop (to + 1) old)
run_moved old list now end from to kept stays down run within same one alike renewed behind =
    let n : ℕ = to + kept - from in
    let all : from + n ≡ to + kept = omega (arith, run) in
    let part : from + (to - from) ≡ to = omega (arith, run) in
    let long : length (take to list) ≡ to = length-take-le to list (omega (arith, within)) in
    let move = moved now end from (to + kept) down (omega (arith, run)) (omega (arith, within, same, one)) in
    let front : take end now ≡ take end list =
    sym (take-take end (to + kept) now (omega (arith, down, run)))
    ∙ (ap (take end) renewed ∙ (take-append-le end (take to list) stays (omega (arith, long, down, run)) ∙ take-take end to list (omega (arith, down, run)))) in
    let before : drop from (take to list) ≡ take (to - from) (drop from old) =
    ap (λ (k : ℕ). drop from (take k list)) (sym part) ∙ (drop-take from (to - from) list ∙ ap (take (to - from)) alike) in
    let moving : take n (drop from now) ≡ take (to - from) (drop from old) ++ stays =
    sym (drop-take from n now)
    ∙ (ap (λ (k : ℕ). drop from (take k now)) all
    ∙ (ap (drop from) renewed ∙ (drop-append-le from (take to list) stays (omega (arith, long, run)) ∙ ap (λ (xs : List _). xs ++ stays) before))) in (
      move.0 ∙ (ap (λ (xs : List _). xs ++ take n (drop from now)) front ∙ ap (λ (xs : List _). take end list ++ xs) moving),
      further (copy_within now from (to + kept) end) now (to + kept) (to + 1) (omega (arith, one)) move.1 ∙ (behind ∙ further list old from (to + 1) (omega (arith, run)) alike),
    )

-- what is known at the next place, where places are those of the whole list
pub next_down : (aside : Item → Bool) (from i : ℕ) (places : List ℕ) (list rest : List Item) → from ≤ length list → i < length places → drop i places ≡ places_from aside from (drop from list)
    → IsStep aside 0 from i (get_or places i 0) places list rest
next_down aside from i places list rest within more left =
    let here : from ≡ 0 + from = omega arith in
    let step = next_step aside 0 from i places list rest within more (left ∙ ap (λ (n : ℕ). places_from aside n (drop from list)) here) in
    let there : get_or places i 0 - 0 ≡ get_or places i 0 = omega arith in
    subst (λ (n : ℕ). IsStep aside 0 from i n places list rest) there step.1

-- the list woven up to a run, and then up to the place behind it
pub woven_down : (aside : Item → Bool) (old list now rest : List Item) (end from to at kept i : ℕ) (places : List ℕ) → IsStep aside 0 from i to places old (drop at rest) → drop from list ≡ drop from old
    → kept ≡ length (staying (drop to list) (drop at rest))
    → take (end + (to + kept - from)) now ≡ take end list ++ (take (to - from) (drop from old) ++ staying (drop to list) (drop at rest))
    → take (end + (to + kept - from)) now ++ weave aside (drop (to + 1) old) (drop (at + kept) rest) ≡ take end list ++ weave aside (drop from old) (drop at rest)
woven_down aside old list now rest end from to at kept i places step alike count taken =
    let run : List Item = take (to - from) (drop from old) in
    let stays : List Item = staying (drop to list) (drop at rest) in
    let same : stays ≡ staying (drop to old) (drop at rest) = ap (λ (xs : List Item). staying xs (drop at rest)) (further list old from to step.above alike) in
    let then : List Item → List Item = weave aside (drop (to + 1) old) in
    let left : drop (at + kept) rest ≡ drop (length (staying (drop to old) (drop at rest))) (drop at rest) =
    ap (λ (k : ℕ). drop (at + k) rest) (count ∙ ap length same) ∙ sym (drop-drop (length (staying (drop to old) (drop at rest))) at rest) in
    ap (λ (xs : List Item). xs ++ then (drop (at + kept) rest)) taken
    ∙ (append_assoc (take end list) (run ++ stays) (then (drop (at + kept) rest))
    ∙ ap (λ (xs : List Item). take end list ++ xs)
    (ap (λ (xs : List Item). (run ++ xs) ++ then (drop (at + kept) rest)) same
    ∙ (ap (λ (xs : List Item). (run ++ staying (drop to old) (drop at rest)) ++ then xs) left ∙ sym step.woven)))

-- what is left of a list when its last run has moved down, and what comes behind that is cut off
pub all_moved : {X : Type 0} (old list : List X) (end from : ℕ) → end ≤ from → from ≤ length list → drop from list ≡ drop from old
    → take (end + (length list - from)) (copy_within list from (length list) end) ≡ take end list ++ drop from old
all_moved old list end from down within alike =
    let move = moved list end from (length list) down within (omega arith) in
    move.0 ∙ ap (λ (xs : List _). take end list ++ xs) (take_all (length list - from) (drop from list) (omega (arith, length-drop from list)) ∙ alike)

-- items that were put over the first ones leave all the others
pub put_over : {X : Type 0} (list now front : List X) (n : ℕ) → now ≡ front ++ drop (length front) list → length front ≤ n → drop n now ≡ drop n list
put_over list now front n put below =
    let k : ℕ = length front in
    further now list k n below (ap (drop k) put ∙ drop_at front (drop k list) k refl)

-- both parts of a list, as the code cuts them: the first put where it stood, the second moved down to its end
pub woven_in_place : (aside : Item → Bool) (list now left front rest : List Item) (served rest_served at end : ℕ) → now ≡ front ++ drop (length front) list → length front ≡ end → end ≤ served
    → front ++ weave aside (take (length list - served) (drop served list)) (take (length rest - rest_served) (drop rest_served rest)) ≡ woven aside list rest
    → left ++ drop at (take (length rest - rest_served) (drop rest_served rest)) ≡ take end now ++ weave aside (drop served now) (take (length rest - rest_served) (drop rest_served rest))
    → left ++ drop (rest_served + at) rest ≡ woven aside list rest
woven_in_place aside list now left front rest served rest_served at end put long below both down =
    let then : List Item = take (length rest - rest_served) (drop rest_served rest) in
    let behind : drop (rest_served + at) rest ≡ drop at then = sym (drop-drop at rest_served rest) ∙ ap (drop at) (sym (take_rest rest rest_served)) in
    let first : take end now ≡ front = ap (take end) put ∙ take_at front (drop (length front) list) end long in
    let second : drop served now ≡ take (length list - served) (drop served list) = put_over list now front served put (omega (arith, long, below)) ∙ sym (take_rest list served) in
    ap (λ (xs : List Item). left ++ xs) behind
    ∙ (down ∙ (ap (λ (xs : List Item). xs ++ weave aside (drop served now) then) first ∙ (ap (λ (xs : List Item). front ++ weave aside xs then) second ∙ both)))
