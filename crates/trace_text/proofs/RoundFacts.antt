-- The asks of a round as they are kept: source by source.
use Rattle.std.proofs.Common.{◌≡◌, ℕ, zero, suc, ◌+◌, ◌*◌, ◌<◌, ◌≤◌, List, [], ◌∷◌, ◌++◌, get_or, map, Bool, true, false, cond, All, refl, sym, ap, ◌∙◌, arith}
use Rattle.std.specs.Prelude.{◌==◌, filter, sum_by}
use Rattle.std.specs.List.{flat_map, range_with_len}
use Rattle.std.proofs.lemmas.Bool.Decides.{nat_tests}
use Rattle.list_facts.proofs.Lists.{filter_none}
use Rattle.clos_topology.specs.Network.{Network, endpoints_of}
use Rattle.trace_text.specs.Asks.{rank_of, slots_asked, is_asked_by, ask_for, asks_in, IsAmong, IsRisingFrom, IsKept}
use Rattle.trace_text.specs.Ranks.{has_rank_in}
use Rattle.trace_text.specs.Trace.{Events, asked_at, content_by}
use Rattle.trace_text.specs.declared.ask.Ask.{Ask}
use Rattle.trace_text.proofs.RankFacts.{within-round}
use Rattle.trace_text.proofs.AskFacts.{among-more, asked-pairs, filter-block, pair_of}
use Rattle.trace_text.proofs.ContentFacts.{asked_at-content_by}
use Rattle.trace_text.proofs.EventFacts.{filter-same}
use Rattle.trace_text.proofs.MadeFacts.{flat_map-more}

-- ranks from a bound on, above which none stands lower
none-in : (asks : List Ask) (low a b : ℕ) → IsRisingFrom low asks → b ≤ low → filter (has_rank_in rank_of a b) asks ≡ []
none-in [] low a b rising above = refl
none-in (ask ∷ asks) low a b rising above =
    let out : has_rank_in rank_of a b ask ≡ false = let here = rising.0 in grind (arith, nat_tests) in
    rw out (none-in asks (rank_of ask + 1) a b rising.1 (omega (arith, rising.0)))

-- the ranks up to a bound, and those from it on
ranks-split : (asks : List Ask) (low a b c : ℕ) → IsRisingFrom low asks → a ≤ b → b ≤ c
    → filter (has_rank_in rank_of a c) asks ≡ filter (has_rank_in rank_of a b) asks ++ filter (has_rank_in rank_of b c) asks
ranks-split [] low a b c rising p q = refl
ranks-split (ask ∷ asks) low a b c rising p q = by (has_rank_in rank_of a b ask) refl (has_rank_in rank_of b c ask) refl (ranks-split asks (rank_of ask + 1) a b c rising.1 p q)
  where
    first : List Ask
    first = filter (has_rank_in rank_of a b) asks

    second : List Ask
    second = filter (has_rank_in rank_of b c) asks

    all : List Ask
    all = filter (has_rank_in rank_of a c) asks

    by : (x : Bool) → has_rank_in rank_of a b ask ≡ x → (y : Bool) → has_rank_in rank_of b c ask ≡ y → all ≡ first ++ second
        → cond (has_rank_in rank_of a c ask) (ask ∷ all) all ≡ cond x (ask ∷ first) first ++ cond y (ask ∷ second) second
    by true e true f rest = absurd (grind (arith, nat_tests))
    by true e false f rest = let inside : has_rank_in rank_of a c ask ≡ true = grind (arith, nat_tests) in rw inside (ap (λ l. ask ∷ l) rest)
    by false e true f rest =
        let inside : has_rank_in rank_of a c ask ≡ true = grind (arith, nat_tests) in
        let high : b ≤ rank_of ask = grind (arith, nat_tests) in
        let none : first ≡ [] = none-in asks (rank_of ask + 1) a b rising.1 (omega arith) in
        rw inside (ap (λ l. ask ∷ l) (rest ∙ ap (λ l. l ++ second) none) ∙ sym (ap (λ l. l ++ ask ∷ second) none))
    by false e false f rest = let out : has_rank_in rank_of a c ask ≡ false = grind (arith, nat_tests) in rw out rest

-- the asks of a round, source by source
sources-of : (asks : List Ask) (round n : ℕ) → IsRisingFrom 0 asks → All (IsAmong 256) asks → n ≤ 256
    → filter (has_rank_in rank_of (round * 65536) (round * 65536 + n * 256)) asks ≡ flat_map (λ src. filter (is_asked_by round src) asks) (range_with_len 0 n)
sources-of asks round zero rising among few = filter_none _ asks (λ k d lt. grind (arith, nat_tests))
sources-of asks round (suc n) rising among few =
    let e : round * 65536 + suc n * 256 ≡ (round * 256 + n) * 256 + 256 = omega arith in
    let f : round * 65536 + n * 256 ≡ (round * 256 + n) * 256 = omega arith in
    let g : suc n ≡ n + 1 = omega arith in
    ap (λ k. filter (has_rank_in rank_of (round * 65536) k) asks) e
    ∙ ranks-split asks 0 (round * 65536) (round * 65536 + n * 256) ((round * 256 + n) * 256 + 256) rising (omega arith) (omega arith)
    ∙ ap (λ l. l ++ filter (has_rank_in rank_of (round * 65536 + n * 256) ((round * 256 + n) * 256 + 256)) asks) (sources-of asks round n rising among (omega arith))
    ∙ ap (λ l. flat_map (λ src. filter (is_asked_by round src) asks) (range_with_len 0 n) ++ l)
    (ap (λ k. filter (has_rank_in rank_of k ((round * 256 + n) * 256 + 256)) asks) f ∙ filter-block asks round n (omega arith) among)
    ∙ sym (ap (λ k. flat_map (λ src. filter (is_asked_by round src) asks) (range_with_len 0 k)) g ∙ flat_map-more (λ src. filter (is_asked_by round src) asks) n)

-- a round's asks are those of its sources
whole-round : (n round : ℕ) (ask : Ask) → n ≤ 256 → IsAmong n ask → has_rank_in rank_of (round * 65536) ((round + 1) * 65536) ask ≡ has_rank_in rank_of (round * 65536) (round * 65536 + n * 256) ask
whole-round n round ask few among =
    let src = among.src in
    let dst = among.dst in
    by (ask.round == round) refl
  where
    by : (a : Bool) → (ask.round == round) ≡ a → has_rank_in rank_of (round * 65536) ((round + 1) * 65536) ask ≡ has_rank_in rank_of (round * 65536) (round * 65536 + n * 256) ask
    by true e = let src = among.src in let dst = among.dst in grind (arith, nat_tests)
    by false e = let src = among.src in let dst = among.dst in grind (arith, nat_tests)

-- an ask is that of its round and source for its destination and slots
ask-same : (ask : Ask) (round src : ℕ) → ask.round ≡ round → ask.src ≡ src → ask_for round src (pair_of ask) ≡ ask
ask-same ask round src same same2 =
    ap (λ r. record { round = r; src = src; dst = ask.dst; slots = ask.slots }) (sym same) ∙ ap (λ s. record { round = ask.round; src = s; dst = ask.dst; slots = ask.slots }) (sym same2)

asks-back : (asks : List Ask) (round src : ℕ) → map (ask_for round src) (map pair_of (filter (is_asked_by round src) asks)) ≡ filter (is_asked_by round src) asks
asks-back [] round src = refl
asks-back (ask ∷ asks) round src = by (is_asked_by round src ask) refl (asks-back asks round src)
  where
    kept : List Ask
    kept = filter (is_asked_by round src) asks

    by : (a : Bool) → is_asked_by round src ask ≡ a → map (ask_for round src) (map pair_of kept) ≡ kept → map (ask_for round src) (map pair_of (cond a (ask ∷ kept) kept)) ≡ cond a (ask ∷ kept) kept
    by true e rest =
        let same : ask.round ≡ round = grind (arith, nat_tests) in
        let same2 : ask.src ≡ src = grind (arith, nat_tests) in
        ap (λ (a : Ask). a ∷ map (ask_for round src) (map pair_of kept)) (ask-same ask round src same same2) ∙ ap (λ l. ask ∷ l) rest
    by false e rest = rest

flat-same : {X : Type 0} (f g : ℕ → List X) (low n : ℕ) → ((i : ℕ) → i < low + n → f i ≡ g i) → flat_map f (range_with_len low n) ≡ flat_map g (range_with_len low n)
flat-same f g low zero same = refl
flat-same f g low (suc n) same = ap (λ l. l ++ flat_map f (range_with_len (low + 1) n)) (same low (omega arith)) ∙ ap (λ l. g low ++ l) (flat-same f g (low + 1) n (λ i lt. same i (omega arith)))

pub round-asks : (net : Network) (rounds : ℕ) (events : Events) (asks own : List Ask) (starts : List ℕ) (round : ℕ) → IsKept (endpoints_of net) rounds asks starts → round < rounds
    → own ≡ filter (has_rank_in rank_of (round * 65536) ((round + 1) * 65536)) asks
    → own ≡ asks_in (content_by net rounds (λ r s d. sum_by (slots_asked r s d) asks) events) round
round-asks net rounds events asks own starts round kept low is =
    let n = endpoints_of net in
    is
    ∙ filter-same _ (has_rank_in rank_of (round * 65536) (round * 65536 + n * 256)) asks (λ k d lt. whole-round n round (get_or asks k d) kept.few (kept.among k d lt))
    ∙ sources-of asks round n kept.rising (among-more n 256 asks kept.few kept.among) kept.few
    ∙ flat-same (λ src. filter (is_asked_by round src) asks) _ 0 n (λ src lt. sym (asks-back asks round src)
    ∙ ap (map (ask_for round src)) (asked-pairs n round src asks kept.rising kept.among ∙ sym (asked_at-content_by net rounds (λ r s d. sum_by (slots_asked r s d) asks) events round src low (omega arith))))

-- what one source asks for in one round, found in the asks of the round
pub source-asks : (net : Network) (rounds : ℕ) (events : Events) (asks own : List Ask) (starts : List ℕ) (round src : ℕ) → IsKept (endpoints_of net) rounds asks starts → round < rounds
    → src < endpoints_of net → own ≡ filter (has_rank_in rank_of (round * 65536) ((round + 1) * 65536)) asks
    → filter (has_rank_in rank_of ((round * 256 + src) * 256) ((round * 256 + src) * 256 + 256)) own
    ≡ map (ask_for round src) (asked_at (content_by net rounds (λ r s d. sum_by (slots_asked r s d) asks) events) round src)
source-asks net rounds events asks own starts round src kept low low2 is =
    let n = endpoints_of net in
    let few = kept.few in
    within-round rank_of asks own 65536 round ((round * 256 + src) * 256) ((round * 256 + src) * 256 + 256) is (omega arith) (omega arith)
    ∙ filter-block asks round src (omega arith) (among-more n 256 asks kept.few kept.among)
    ∙ sym (asks-back asks round src)
    ∙ ap (map (ask_for round src)) (asked-pairs n round src asks kept.rising kept.among ∙ sym (asked_at-content_by net rounds (λ r s d. sum_by (slots_asked r s d) asks) events round src low low2))
