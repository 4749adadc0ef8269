-- Asks that rise by their ranks, and the part of them that one source asks for in one round.
use Rattle.std.proofs.Common.{◌≡◌, ℕ, zero, suc, ◌+◌, ◌-◌, ◌*◌, ◌<◌, ◌≤◌, List, [], ◌∷◌, ◌++◌, length, get_or, drop, map, Bool, true, false, cond, All, refl, sym, ap, subst, ◌∙◌, arith, length-append}
use Rattle.std.proofs.Math.Seq.{drop-cons, get_or-append_seam}
use Rattle.std.specs.Prelude.{◌==◌, ◌&&◌, nat_lt, filter, sum_by}
use Rattle.std.specs.List.{range_with_len}
use Rattle.std.specs.List.Sorted.{IsNonDecreasingBy}
use Rattle.std.proofs.lemmas.Bool.Decides.{nat_tests}
use Rattle.std.proofs.lemmas.List.Sums.{sum_by-cons}
use Rattle.trace_text.specs.Asks.{rank_of, slots_asked, is_asked_by, IsAmong, IsRisingFrom}
use Rattle.trace_text.specs.Ranks.{has_rank_in}
use Rattle.trace_text.specs.Trace.{some_below}
use Rattle.trace_text.specs.declared.ask.Ask.{Ask}

-- one more, above the last
pub rising-more : (low : ℕ) (asks : List Ask) (last next : Ask) → IsRisingFrom low (asks ++ last ∷ []) → rank_of last < rank_of next → IsRisingFrom low ((asks ++ last ∷ []) ++ next ∷ [])
rising-more low [] last next rising above = (rising.0, (omega arith, tt))
rising-more low (ask ∷ asks) last next rising above = (rising.0, rising-more (rank_of ask + 1) asks last next rising.1 above)

-- another of the same rank in the place of the last
pub rising-same : (low : ℕ) (asks : List Ask) (last next : Ask) → IsRisingFrom low (asks ++ last ∷ []) → rank_of next ≡ rank_of last → IsRisingFrom low (asks ++ next ∷ [])
rising-same low [] last next rising same = (omega arith, tt)
rising-same low (ask ∷ asks) last next rising same = (rising.0, rising-same (rank_of ask + 1) asks last next rising.1 same)

-- asks of one rank are of one round and flow
pub same-rank : (a b : Ask) → IsAmong 256 a → IsAmong 256 b → rank_of a ≡ rank_of b → (a.round ≡ b.round) × (a.src ≡ b.src) × (a.dst ≡ b.dst)
same-rank a b p q e =
    let low = p.src in
    let low2 = p.dst in
    let low3 = q.src in
    let low4 = q.dst in
    (omega arith, omega arith, omega arith)

-- two asks of one round and flow together
pub slots_asked-both : (a b : Ask) (round src dst : ℕ) → (a.round ≡ b.round) × (a.src ≡ b.src) × (a.dst ≡ b.dst)
    → slots_asked round src dst (record { round = b.round; src = b.src; dst = b.dst; slots = a.slots + b.slots }) ≡ slots_asked round src dst a + slots_asked round src dst b
slots_asked-both a b round src dst same = rw (same.0, same.1, same.2) (by ((b.round == round) && (b.src == src) && (b.dst == dst)))
  where
    by : (x : Bool) → cond x (a.slots + b.slots) 0 ≡ cond x a.slots 0 + cond x b.slots 0
    by true = refl
    by false = refl

-- an ask is one of its own round and flow
pub slots_asked-own : (a b : Ask) → (a.round ≡ b.round) × (a.src ≡ b.src) × (a.dst ≡ b.dst) → slots_asked b.round b.src b.dst a ≡ a.slots
slots_asked-own a b same =
    let one : (a.round == b.round) ≡ true = grind (arith, nat_tests) in
    let two : (a.src == b.src) ≡ true = grind (arith, nat_tests) in
    let three : (a.dst == b.dst) ≡ true = grind (arith, nat_tests) in
    rw (one, two, three) refl

-- more endpoints
pub among-more : (endpoints more : ℕ) (asks : List Ask) → endpoints ≤ more → All (IsAmong endpoints) asks → All (IsAmong more) asks
among-more endpoints more asks few among k d lt =
    let ask = among k d lt in
    let src = ask.src in
    let dst = ask.dst in
    record { src = omega arith; dst = omega arith; other = ask.other; some = ask.some }

-- no endpoint asks for itself
pub own-none : (endpoints round src : ℕ) (asks : List Ask) → All (IsAmong endpoints) asks → sum_by (slots_asked round src src) asks ≡ 0
own-none endpoints round src [] among = refl
own-none endpoints round src (ask ∷ asks) among =
    sum_by-cons (slots_asked round src src) ask asks ∙ rw (own-none endpoints round src asks (λ k d lt. among (suc k) d (omega arith))) (by (ask.round == round) (ask.src == src) refl (ask.dst == src) refl)
  where
    here : IsAmong endpoints ask
    here = among 0 ask (omega arith)

    by : (a b : Bool) → (ask.src == src) ≡ b → (c : Bool) → (ask.dst == src) ≡ c → cond (a && b && c) ask.slots 0 + 0 ≡ 0
    by true true e true f =
        let same : ask.src ≡ src = grind (arith, nat_tests) in
        let same2 : ask.dst ≡ src = grind (arith, nat_tests) in
        absurd (here.other (same ∙ sym same2))
    by true true e false f = refl
    by true false e c f = refl
    by false b e c f = refl

-- what holds of each holds of the last
pub last-of : {X : Type 0} (P : X → Type 0) (xs : List X) (x : X) → All P (xs ++ x ∷ []) → P x
last-of P xs x all =
    let long = length-append xs (x ∷ []) in
    subst P (get_or-append_seam xs x [] x) (all (length xs) x (omega arith))

rising-at : (low : ℕ) (asks : List Ask) → IsRisingFrom low asks → (j : ℕ) (d : Ask) → j < length asks → low ≤ rank_of (get_or asks j d)
rising-at low [] rising j d lt = absurd (omega arith)
rising-at low (ask ∷ asks) rising zero d lt = rising.0
rising-at low (ask ∷ asks) rising (suc j) d lt = let rest = rising-at (rank_of ask + 1) asks rising.1 j d (omega arith) in omega arith

pub rising-sorted : (low : ℕ) (asks : List Ask) → IsRisingFrom low asks → IsNonDecreasingBy rank_of asks
rising-sorted low [] rising i j d le lt = absurd (omega arith)
rising-sorted low (ask ∷ asks) rising zero zero d le lt = omega arith
rising-sorted low (ask ∷ asks) rising zero (suc j) d le lt = let above = rising-at (rank_of ask + 1) asks rising.1 j d (omega arith) in omega arith
rising-sorted low (ask ∷ asks) rising (suc i) zero d le lt = absurd (omega arith)
rising-sorted low (ask ∷ asks) rising (suc i) (suc j) d le lt = rising-sorted (rank_of ask + 1) asks rising.1 i j d (omega arith) (omega arith)

-- from one ask on they rise, if it is no lower and those after it are above it
pub rising-before : (low at : ℕ) (asks : List Ask) (d : Ask) → at < length asks → low ≤ rank_of (get_or asks at d) → (above : ℕ) → above ≡ rank_of (get_or asks at d) + 1 → IsRisingFrom above (drop (at + 1) asks)
    → IsRisingFrom low (drop at asks)
rising-before low at asks d within least above is rest =
    let next : suc at ≡ at + 1 = omega arith in
    subst (IsRisingFrom low) (sym (drop-cons asks at d within ∙ ap (λ k. get_or asks at d ∷ drop k asks) next)) (least, subst (λ k. IsRisingFrom k (drop (at + 1) asks)) is rest)

-- an ask has the ranks of its round and source
block-rank : (round src : ℕ) (ask : Ask) → src < 256 → ask.src < 256 → ask.dst < 256
    → has_rank_in rank_of ((round * 256 + src) * 256) ((round * 256 + src) * 256 + 256) ask ≡ is_asked_by round src ask
block-rank round src ask low low2 low3 = by (ask.round == round) refl (ask.src == src) refl
  where
    by : (a : Bool) → (ask.round == round) ≡ a → (b : Bool) → (ask.src == src) ≡ b → has_rank_in rank_of ((round * 256 + src) * 256) ((round * 256 + src) * 256 + 256) ask ≡ (a && b)
    by true e true f = grind (arith, nat_tests)
    by true e false f = grind (arith, nat_tests)
    by false e b f = grind (arith, nat_tests)

-- the ranks of one round and source
pub filter-block : (asks : List Ask) (round src : ℕ) → src < 256 → All (IsAmong 256) asks
    → filter (has_rank_in rank_of ((round * 256 + src) * 256) ((round * 256 + src) * 256 + 256)) asks ≡ filter (is_asked_by round src) asks
filter-block [] round src low among = refl
filter-block (ask ∷ asks) round src low among =
    let here = among 0 ask (omega arith) in
    let rest = filter-block asks round src low (λ k d lt. among (suc k) d (omega arith)) in
    rw (block-rank round src ask low here.src here.dst, rest) refl

-- a destination and its slots
abbrev pub pair_of : Ask → ℕ × ℕ
pair_of ask = (ask.dst, ask.slots)

-- destinations that rise below a bound, each with some slots
abbrev Rises : ℕ → ℕ → List (ℕ × ℕ) → Type 0
Rises bound low [] = Unit {0}
Rises bound low (p ∷ ps) = (low ≤ p.0) × (p.0 < bound) × (0 < p.1) × Rises bound (p.0 + 1) ps

abbrev amount_at : ℕ → ℕ × ℕ → ℕ
amount_at dst p = cond (p.0 == dst) p.1 0

pairs-rise : (n round src k low : ℕ) (asks : List Ask) → k ≤ low - (round * 256 + src) * 256 → IsRisingFrom low asks → All (IsAmong n) asks → Rises n k (map pair_of (filter (is_asked_by round src) asks))
pairs-rise n round src k low [] at rising among = tt
pairs-rise n round src k low (ask ∷ asks) at rising among =
    by (is_asked_by round src ask) refl
    (λ same. pairs-rise n round src (ask.dst + 1) (rank_of ask + 1) asks (omega arith) rising.1 (λ j d lt. among (suc j) d (omega arith)))
    (pairs-rise n round src k (rank_of ask + 1) asks (omega arith) rising.1 (λ j d lt. among (suc j) d (omega arith)))
  where
    here : IsAmong n ask
    here = among 0 ask (omega arith)

    by : (a : Bool) → is_asked_by round src ask ≡ a
        → ((ask.round ≡ round) × (ask.src ≡ src) → Rises n (ask.dst + 1) (map pair_of (filter (is_asked_by round src) asks)))
        → Rises n k (map pair_of (filter (is_asked_by round src) asks))
        → Rises n k (map pair_of (cond a (ask ∷ filter (is_asked_by round src) asks) (filter (is_asked_by round src) asks)))
    by true e more rest =
        let same : ask.round ≡ round = grind (arith, nat_tests) in
        let same2 : ask.src ≡ src = grind (arith, nat_tests) in
        (omega arith, here.dst, here.some, more (same, same2))
    by false e more rest = rest

pairs-amount : (asks : List Ask) (round src dst : ℕ) → sum_by (amount_at dst) (map pair_of (filter (is_asked_by round src) asks)) ≡ sum_by (slots_asked round src dst) asks
pairs-amount [] round src dst = refl
pairs-amount (ask ∷ asks) round src dst =
    by (is_asked_by round src ask) (ask.dst == dst) (pairs-amount asks round src dst) ∙ sym (sum_by-cons (slots_asked round src dst) ask asks)
  where
    by : (a b : Bool) → sum_by (amount_at dst) (map pair_of (filter (is_asked_by round src) asks)) ≡ sum_by (slots_asked round src dst) asks
        → sum_by (amount_at dst) (map pair_of (cond a (ask ∷ filter (is_asked_by round src) asks) (filter (is_asked_by round src) asks))) ≡ cond (a && (ask.dst == dst)) ask.slots 0 + sum_by (slots_asked round src dst) asks
    by true b rest = sum_by-cons (amount_at dst) (pair_of ask) (map pair_of (filter (is_asked_by round src) asks)) ∙ ap (λ k. cond (ask.dst == dst) ask.slots 0 + k) rest
    by false b rest = rest ∙ omega arith

-- nothing is asked for below the first
none-below : (bound low dst : ℕ) (ps : List (ℕ × ℕ)) → Rises bound low ps → dst < low → sum_by (amount_at dst) ps ≡ 0
none-below bound low dst [] rises below = refl
none-below bound low dst (p ∷ ps) rises below =
    let other : (p.0 == dst) ≡ false = grind (arith, nat_tests) in
    let rest = none-below bound (p.0 + 1) dst ps rises.3 (omega arith) in
    sum_by-cons (amount_at dst) p ps ∙ rw (other, rest) refl

pairs-all : (count low bound : ℕ) (ps : List (ℕ × ℕ)) (amount : ℕ → ℕ) → low + count ≡ bound → Rises bound low ps → ((d : ℕ) → low ≤ d → amount d ≡ sum_by (amount_at d) ps)
    → ps ≡ filter (λ p. nat_lt 0 p.1) (map (λ dst. (dst, amount dst)) (range_with_len low count))
pairs-all zero low bound [] amount end rises is = refl
pairs-all zero low bound (p ∷ ps) amount end rises is = absurd (omega arith)
pairs-all (suc count) low bound [] amount end rises is =
    let none : amount low ≡ 0 = is low (omega arith) in
    rw none (pairs-all count (low + 1) bound [] amount (omega arith) tt (λ d le. is d (omega arith)))
pairs-all (suc count) low bound (p ∷ ps) amount end rises is =
    by (p.0 == low) refl
    (λ same. pairs-all count (low + 1) bound ps amount (omega arith) (subst (λ k. Rises bound (k + 1) ps) same rises.3)
    (λ d le. let other : (p.0 == d) ≡ false = grind (arith, nat_tests) in is d (omega arith) ∙ sum_by-cons (amount_at d) p ps ∙ rw other (omega arith)))
    (λ above. pairs-all count (low + 1) bound (p ∷ ps) amount (omega arith) (above, rises.1, rises.2, rises.3) (λ d le. is d (omega arith)))
  where
    here : amount low ≡ amount_at low p + sum_by (amount_at low) ps
    here = is low (omega arith) ∙ sum_by-cons (amount_at low) p ps

    rest : List (ℕ × ℕ)
    rest = filter (λ p. nat_lt 0 p.1) (map (λ dst. (dst, amount dst)) (range_with_len (low + 1) count))

    by : (a : Bool) → (p.0 == low) ≡ a → (p.0 ≡ low → ps ≡ rest) → (low + 1 ≤ p.0 → p ∷ ps ≡ rest)
        → p ∷ ps ≡ cond (nat_lt 0 (amount low)) ((low, amount low) ∷ rest) rest
    by true e kept passed =
        let same : p.0 ≡ low = grind (arith, nat_tests) in
        let after : sum_by (amount_at low) ps ≡ 0 = none-below bound (p.0 + 1) low ps rises.3 (omega arith) in
        let amount_is : amount low ≡ p.1 = here ∙ rw (e, after) (omega arith) in
        let some : nat_lt 0 (amount low) ≡ true = grind (arith, nat_tests) in
        let first : p ≡ (low, amount low) = rw (amount_is, ← same) refl in
        rw some (ap (λ q. q ∷ ps) first ∙ ap (λ l. (low, amount low) ∷ l) (kept same))
    by false e kept passed =
        let above : low + 1 ≤ p.0 = grind (arith, nat_tests) in
        let after : sum_by (amount_at low) ps ≡ 0 = none-below bound (p.0 + 1) low ps rises.3 (omega arith) in
        let none : amount low ≡ 0 = here ∙ rw (e, after) refl in
        rw none (passed above)

-- what one source asks for in one round
pub asked-pairs : (endpoints round src : ℕ) (asks : List Ask) → IsRisingFrom 0 asks → All (IsAmong endpoints) asks
    → map pair_of (filter (is_asked_by round src) asks) ≡ some_below endpoints (λ dst. sum_by (slots_asked round src dst) asks)
asked-pairs endpoints round src asks rising among =
    pairs-all endpoints 0 endpoints (map pair_of (filter (is_asked_by round src) asks)) (λ dst. sum_by (slots_asked round src dst) asks) (omega arith)
    (pairs-rise endpoints round src 0 0 asks (omega arith) rising among) (λ d le. sym (pairs-amount asks round src d))
