-- A row holds each source's destination at the source's place, and is seen as its flows, rising by source.
use Rattle.std.proofs.Common.{◌≡◌, ◌<◌, ◌≤◌, ◌+◌, ℕ, zero, suc, List, [], ◌∷◌, ◌++◌, length, get_or, set, replicate, true, false, ◌==◌, nat_lt, Option, Some, None, IfSome, All, AllPairs, find, refl, sym, ap, ◌∙◌, arith}
use Rattle.std.specs.Option.{option_map}
use Rattle.std.proofs.lemmas.Bool.{cond-true, cond-false, eq-eqb, ne_eqb, lt-ltb, le-ltb}
use Rattle.std.proofs.lemmas.List.Elements.{All-nil, All-cons, All-head, All-tail, All-weaker}
use Rattle.greedy_rules.specs.declared.flows.Flow.{Flow}
use Rattle.greedy_rules.specs.Slot.{slot_with}
use Rattle.greedy_rules.specs.SlotTable.{flows_from, destination_of, IsSlotOf, AreCells}
use Rattle.list_facts.proofs.Pairs.{AllPairs-nil, AllPairs-cons}

pub destination-low : (k src : ℕ) (cells : List (Option ℕ)) → src < k → destination_of (flows_from k cells) src ≡ None
destination-low k src [] low = refl
destination-low k src (None ∷ cells) low = destination-low (k + 1) src cells (omega arith)
destination-low k src (Some dst ∷ cells) low =
    let other : (k == src) ≡ false = ne_eqb _ _ (λ e. omega arith) in
    ap (option_map (λ (flow : Flow). flow.dst)) (cond-false (k == src) (Some (record { src = k; dst = dst })) (find (λ flow. flow.src == src) (flows_from (k + 1) cells)) other)
    ∙ destination-low (k + 1) src cells (omega arith)

-- what stands at the source's place is its destination
pub destination-at : (k i src : ℕ) (cells : List (Option ℕ)) → src ≡ k + i → destination_of (flows_from k cells) src ≡ get_or cells i None
destination-at k i src [] is = refl
destination-at k zero src (None ∷ cells) is = destination-low (k + 1) src cells (omega arith)
destination-at k (suc i) src (None ∷ cells) is = destination-at (k + 1) i src cells (omega arith)
destination-at k zero src (Some dst ∷ cells) is =
    let here : (k == src) ≡ true = eq-eqb _ _ (omega arith) in
    ap (option_map (λ (flow : Flow). flow.dst)) (cond-true (k == src) (Some (record { src = k; dst = dst })) (find (λ flow. flow.src == src) (flows_from (k + 1) cells)) here)
destination-at k (suc i) src (Some dst ∷ cells) is =
    let other : (k == src) ≡ false = ne_eqb _ _ (λ e. omega arith) in
    ap (option_map (λ (flow : Flow). flow.dst)) (cond-false (k == src) (Some (record { src = k; dst = dst })) (find (λ flow. flow.src == src) (flows_from (k + 1) cells)) other)
    ∙ destination-at (k + 1) i src cells (omega arith)

pub sources_from : (k : ℕ) (cells : List (Option ℕ)) → All (λ flow. k ≤ flow.src) (flows_from k cells)
sources_from k [] = All-nil (λ flow. k ≤ flow.src)
sources_from k (None ∷ cells) = All-weaker (λ flow. k + 1 ≤ flow.src) (λ flow. k ≤ flow.src) (λ flow le. omega arith) (flows_from (k + 1) cells) (sources_from (k + 1) cells)
sources_from k (Some dst ∷ cells) =
    All-cons (λ flow. k ≤ flow.src) (record { src = k; dst = dst }) (flows_from (k + 1) cells) (omega arith)
    (All-weaker (λ flow. k + 1 ≤ flow.src) (λ flow. k ≤ flow.src) (λ flow le. omega arith) (flows_from (k + 1) cells) (sources_from (k + 1) cells))

slot_with-front : (flow : Flow) (slot : List Flow) → All (λ next. flow.src ≤ next.src) slot → slot_with flow slot ≡ flow ∷ slot
slot_with-front flow [] above = refl
slot_with-front flow (next ∷ slot) above =
    cond-false (nat_lt next.src flow.src) (next ∷ slot_with flow slot) (flow ∷ (next ∷ slot)) (le-ltb _ _ (All-head (λ next. flow.src ≤ next.src) next slot above))

-- a write at an empty place puts the flow at its place in the slot
pub flows_from-set : (k i src dst : ℕ) (cells : List (Option ℕ)) → src ≡ k + i → i < length cells → get_or cells i None ≡ None
    → flows_from k (set cells i (Some dst)) ≡ slot_with (record { src = src; dst = dst }) (flows_from k cells)
flows_from-set k i src dst [] is below free = absurd (omega arith)
flows_from-set k zero src dst (None ∷ cells) is below free =
    let e : k ≡ src = omega arith in
    ap (λ (s : ℕ). record { src = s; dst = dst } ∷ flows_from (k + 1) cells) e
    ∙ sym (slot_with-front (record { src = src; dst = dst }) (flows_from (k + 1) cells)
    (All-weaker (λ flow. k + 1 ≤ flow.src) (λ flow. src ≤ flow.src) (λ flow le. omega arith) (flows_from (k + 1) cells) (sources_from (k + 1) cells)))
flows_from-set k (suc i) src dst (None ∷ cells) is below free = flows_from-set (k + 1) i src dst cells (omega arith) (omega arith) free
flows_from-set k zero src dst (Some other ∷ cells) is below free = absurd (cc)
flows_from-set k (suc i) src dst (Some other ∷ cells) is below free =
    ap (λ (slot : List Flow). record { src = k; dst = other } ∷ slot) (flows_from-set (k + 1) i src dst cells (omega arith) (omega arith) free)
    ∙ sym (cond-true (nat_lt k src) (record { src = k; dst = other } ∷ slot_with (record { src = src; dst = dst }) (flows_from (k + 1) cells))
    (record { src = src; dst = dst } ∷ (record { src = k; dst = other } ∷ flows_from (k + 1) cells)) (lt-ltb k src (omega arith)))

pub flows_from-replicate : (k n : ℕ) → flows_from k (replicate n None) ≡ []
flows_from-replicate k zero = refl
flows_from-replicate k (suc n) = flows_from-replicate (k + 1) n

-- places behind a row in which nobody sends have no flows
pub flows_from-idle : (k n : ℕ) (cells : List (Option ℕ)) → flows_from k (cells ++ replicate n None) ≡ flows_from k cells
flows_from-idle k n [] = flows_from-replicate k n
flows_from-idle k n (None ∷ cells) = flows_from-idle (k + 1) n cells
flows_from-idle k n (Some dst ∷ cells) = ap (λ (slot : List Flow). record { src = k; dst = dst } ∷ slot) (flows_from-idle (k + 1) n cells)

rising_from : (k : ℕ) (cells : List (Option ℕ)) → AllPairs (λ f g. f.src < g.src) (flows_from k cells)
rising_from k [] = AllPairs-nil (λ f g. f.src < g.src)
rising_from k (None ∷ cells) = rising_from (k + 1) cells
rising_from k (Some dst ∷ cells) =
    AllPairs-cons (λ f g. f.src < g.src) (record { src = k; dst = dst }) (flows_from (k + 1) cells)
    (All-weaker (λ flow. k + 1 ≤ flow.src) (λ flow. k < flow.src) (λ flow le. omega arith) (flows_from (k + 1) cells) (sources_from (k + 1) cells))
    (rising_from (k + 1) cells)

in_range_from : (endpoints k : ℕ) (cells : List (Option ℕ)) → k + length cells ≤ endpoints → AreCells endpoints cells → All (λ flow. (flow.src < endpoints) × (flow.dst < endpoints)) (flows_from k cells)
in_range_from endpoints k [] within row = All-nil (λ flow. (flow.src < endpoints) × (flow.dst < endpoints))
in_range_from endpoints k (None ∷ cells) within row = in_range_from endpoints (k + 1) cells (omega arith) (All-tail (λ cell. IfSome cell (λ dst. dst < endpoints)) None cells row)
in_range_from endpoints k (Some dst ∷ cells) within row =
    All-cons (λ flow. (flow.src < endpoints) × (flow.dst < endpoints)) (record { src = k; dst = dst }) (flows_from (k + 1) cells)
    (omega arith, All-head (λ cell. IfSome cell (λ dst. dst < endpoints)) (Some dst) cells row)
    (in_range_from endpoints (k + 1) cells (omega arith) (All-tail (λ cell. IfSome cell (λ dst. dst < endpoints)) (Some dst) cells row))

pub slot_of_row : (endpoints : ℕ) (cells : List (Option ℕ)) → length cells ≤ endpoints → AreCells endpoints cells → IsSlotOf endpoints (flows_from 0 cells)
slot_of_row endpoints cells full row = record {
  rising = rising_from 0 cells;
  in_range = in_range_from endpoints 0 cells (omega arith) row;
}

pub flows_from-append : (src : ℕ) (xs ys : List (Option ℕ)) → flows_from src (xs ++ ys) ≡ flows_from src xs ++ flows_from (src + length xs) ys
flows_from-append src [] ys = let here : src ≡ src + 0 = omega arith in ap (λ (n : ℕ). flows_from n ys) here
flows_from-append src (None ∷ xs) ys =
    let on : src + 1 + length xs ≡ src + suc (length xs) = omega arith in
    flows_from-append (src + 1) xs ys ∙ ap (λ (n : ℕ). flows_from (src + 1) xs ++ flows_from n ys) on
flows_from-append src (Some dst ∷ xs) ys =
    let on : src + 1 + length xs ≡ src + suc (length xs) = omega arith in
    ap (λ (fs : List Flow). record { src = src; dst = dst } ∷ fs) (flows_from-append (src + 1) xs ys ∙ ap (λ (n : ℕ). flows_from (src + 1) xs ++ flows_from n ys) on)
