-- What is asked for in a trace rises, lies within the net, and is bounded for each flow.
use Rattle.std.proofs.Common.{◌≡◌, ◌≢◌, ℕ, zero, suc, ◌+◌, ◌<◌, ◌≤◌, List, [], ◌∷◌, length, get_or, map, Bool, true, false, cond, All, AllPairs, Option, None, IfSome, refl, sym, ap, subst, ◌∙◌, arith}
use Rattle.std.specs.Prelude.{◌==◌, ◌&&◌, nat_lt, filter, sum_by}
use Rattle.std.specs.List.{range_with_len}
use Rattle.std.specs.List.Sorted.{IsStrictlyIncreasing}
use Rattle.std.proofs.lemmas.Bool.Decides.{nat_tests}
use Rattle.std.proofs.lemmas.List.{length-map, get_or-map}
use Rattle.std.proofs.lemmas.List.Elements.{All-filter, filter_passes}
use Rattle.std.proofs.lemmas.List.FromFn.{get_or-map-range_with_len, length-map-range_with_len}
use Rattle.std.proofs.lemmas.List.Kept.{AllPairs-from_increasing}
use Rattle.std.proofs.lemmas.List.Sums.{sum_by-cons}
use Rattle.list_facts.proofs.Lists.{sum_by-map}
use Rattle.list_facts.proofs.Bools.{at_most_one}
use Rattle.clos_topology.specs.Network.{Network, endpoints_of}
use Rattle.clos_topology.specs.Limits.{IsNetwork}
use Rattle.trace_text.specs.Asks.{IsAmong, slots_asked, slots_for}
use Rattle.trace_text.specs.Earlier.{row_slots, slots_in_round}
use Rattle.trace_text.specs.Rows.{Row}
use Rattle.trace_text.specs.Rows as row
use Rattle.trace_text.specs.Events.{EventsAreAmong, events_kept, is_boot_of}
use Rattle.trace_text.specs.Faults.{is_fate}
use Rattle.trace_text.specs.Puts.{AreFew, puts_in}
use Rattle.trace_text.specs.Trace.{TraceContent, Events, of_way, content_by, with_puts, each_below, table_of, some_below}
use Rattle.trace_text.proofs.ContentFacts.{below-at, below-cases, table-cases}
use Rattle.loss_world.specs.declared.fate.Fate.{Fate}
use Rattle.trace_text.specs.Valid.{IsAskList, IsTrace, amount_for, total_asked}
use Rattle.trace_text.specs.declared.ask.Ask.{Ask}
use Rattle.trace_text.specs.declared.events.GivenFate.{GivenFate}
use Rattle.trace_text.specs.declared.events.Boot.{Boot}
use Rattle.trace_text.specs.declared.packets.KeptPacket.{KeptPacket}
use Rattle.trace_text.specs.declared.puts.PutRows.{PutRows}
use Rattle.trace_text.proofs.AskFacts.{own-none}
use Rattle.trace_text.proofs.EventFacts.{holds-told, versions-told, short-told, bytes-told}
use mathlib.Core.Path.{fun_ext}

-- a sum is at most another where each term is
sum_by-below : {X : Type 0} (f g : X → ℕ) (xs : List X) → ((x : X) → f x ≤ g x) → sum_by f xs ≤ sum_by g xs
sum_by-below f g [] le = omega arith
sum_by-below f g (x ∷ xs) le = omega (arith, sum_by-cons f x xs, sum_by-cons g x xs, le x, sum_by-below f g xs le)

-- a sum of sums
sum_by-plus : {X : Type 0} (f g : X → ℕ) (xs : List X) → sum_by (λ x. f x + g x) xs ≡ sum_by f xs + sum_by g xs
sum_by-plus f g [] = refl
sum_by-plus f g (x ∷ xs) = omega (arith, sum_by-cons (λ y. f y + g y) x xs, sum_by-cons f x xs, sum_by-cons g x xs, sum_by-plus f g xs)

-- pairs whose first parts rise, from low on
abbrev RisesFrom : ℕ → List (ℕ × ℕ) → Type 0
RisesFrom low [] = Unit {0}
RisesFrom low (p ∷ ps) = (low ≤ p.0) × RisesFrom (p.0 + 1) ps

rises-below : (low more : ℕ) (ps : List (ℕ × ℕ)) → low ≤ more → RisesFrom more ps → RisesFrom low ps
rises-below low more [] le rises = tt
rises-below low more (p ∷ ps) le rises = (omega arith, rises.1)

some-rises : (count low : ℕ) (f : ℕ → ℕ) → RisesFrom low (filter (λ p. nat_lt 0 p.1) (map (λ d. (d, f d)) (range_with_len low count)))
some-rises zero low f = tt
some-rises (suc count) low f = by (nat_lt 0 (f low)) (some-rises count (low + 1) f)
  where
    rest : List (ℕ × ℕ)
    rest = filter (λ p. nat_lt 0 p.1) (map (λ d. (d, f d)) (range_with_len (low + 1) count))

    by : (b : Bool) → RisesFrom (low + 1) rest → RisesFrom low (cond b ((low, f low) ∷ rest) rest)
    by true more = (omega arith, more)
    by false more = rises-below low (low + 1) rest (omega arith) more

rises-strictly : (low : ℕ) (ps : List (ℕ × ℕ)) → RisesFrom low ps → IsStrictlyIncreasing (map (λ p. p.0) ps)
rises-strictly low [] rises k lt = absurd (omega arith)
rises-strictly low (p ∷ []) rises k lt = absurd (omega arith)
rises-strictly low (p ∷ (q ∷ ps)) rises zero lt = let next = rises.1.0 in omega arith
rises-strictly low (p ∷ (q ∷ ps)) rises (suc k) lt =
    let xs = map (λ (r : ℕ × ℕ). r.0) (p ∷ (q ∷ ps)) in
    let next : suc (k + 1) ≡ suc k + 1 = omega arith in
    subst (λ n. get_or xs (suc k) 0 < get_or xs n 0) next (rises-strictly (p.0 + 1) (q ∷ ps) rises.1 k (omega arith))

-- what one destination is asked for is told once
some-amount : (count low : ℕ) (f : ℕ → ℕ) (d : ℕ)
    → (amount_for d (filter (λ p. nat_lt 0 p.1) (map (λ x. (x, f x)) (range_with_len low count))) ≤ f d)
    × (d < low → amount_for d (filter (λ p. nat_lt 0 p.1) (map (λ x. (x, f x)) (range_with_len low count))) ≡ 0)
some-amount zero low f d = (omega arith, λ below. refl)
some-amount (suc count) low f d = by (nat_lt 0 (f low)) (low == d) refl (some-amount count (low + 1) f d)
  where
    rest : List (ℕ × ℕ)
    rest = filter (λ p. nat_lt 0 p.1) (map (λ x. (x, f x)) (range_with_len (low + 1) count))

    by : (a b : Bool) → (low == d) ≡ b → (amount_for d rest ≤ f d) × (d < low + 1 → amount_for d rest ≡ 0)
        → (amount_for d (cond a ((low, f low) ∷ rest) rest) ≤ f d) × (d < low → amount_for d (cond a ((low, f low) ∷ rest) rest) ≡ 0)
    by false b e more = (more.0, λ below. more.1 (omega arith))
    by true true e more =
        let same : low ≡ d = grind (arith, nat_tests) in
        let none : amount_for d rest ≡ 0 = more.1 (omega arith) in
        let all : amount_for d ((low, f low) ∷ rest) ≡ f low = sum_by-cons (λ p. cond (p.0 == d) p.1 0) (low, f low) rest ∙ rw (e, none) (omega arith) in
        (rw (all, same) (omega arith), λ below. absurd (omega arith))
    by true false e more =
        let all : amount_for d ((low, f low) ∷ rest) ≡ amount_for d rest = sum_by-cons (λ p. cond (p.0 == d) p.1 0) (low, f low) rest ∙ rw e (omega arith) in
        (rw all more.0, λ below. rw all (more.1 (omega arith)))

each-made : (endpoints : ℕ) (f : ℕ → ℕ) → All (λ (p : ℕ × ℕ). (p.0 < endpoints) × (p.1 ≡ f p.0)) (each_below endpoints (λ x. (x, f x)))
each-made endpoints f k d lt =
    let pair : ℕ → ℕ × ℕ = λ x. (x, f x) in
    let long : k < endpoints = omega (arith, length-map-range_with_len pair 0 endpoints) in
    let is = get_or-map-range_with_len pair 0 endpoints k k d long (omega arith) in
    subst (λ (p : ℕ × ℕ). (p.0 < endpoints) × (p.1 ≡ f p.0)) (sym is) (long, refl)

some-asked : (endpoints : ℕ) (f : ℕ → ℕ) → All (λ (p : ℕ × ℕ). (p.0 < endpoints) × (p.1 ≡ f p.0) × (0 < p.1)) (some_below endpoints f)
some-asked endpoints f k d lt =
    let p = get_or (some_below endpoints f) k d in
    let made : p.0 < endpoints × (p.1 ≡ f p.0) = All-filter (λ p. nat_lt 0 p.1) (λ p. (p.0 < endpoints) × (p.1 ≡ f p.0)) (each_below endpoints (λ x. (x, f x))) (each-made endpoints f) k d lt in
    let some : nat_lt 0 p.1 ≡ true = filter_passes (λ p. nat_lt 0 p.1) (each_below endpoints (λ x. (x, f x))) k d lt in
    let above : 0 < p.1 = grind (arith, nat_tests) in
    (made.0, made.1, above)

rises : (ps : List (ℕ × ℕ)) → IsStrictlyIncreasing (map (λ p. p.0) ps) → AllPairs (λ p q. p.0 < q.0) ps
rises ps rising i j d lt below =
    let first : ℕ × ℕ → ℕ = λ p. p.0 in
    let long : j < length (map first ps) = omega (arith, length-map ps first) in
    let pairs : get_or (map first ps) i 0 < get_or (map first ps) j 0 = AllPairs-from_increasing (map first ps) rising i j 0 lt long in
    omega (arith, get_or-map first ps i d 0 (omega arith), get_or-map first ps j d 0 below)

ask_list : (endpoints : ℕ) (f : ℕ → ℕ) → IsAskList endpoints (some_below endpoints f)
ask_list endpoints f = record {
  rising = rises (some_below endpoints f) (rises-strictly 0 (some_below endpoints f) (some-rises endpoints 0 f));
  in_range = λ k d lt. (some-asked endpoints f k d lt).0;
  some = λ k d lt. (some-asked endpoints f k d lt).2;
}

-- an ask is one of one round at most
some-round : (count low : ℕ) (round slots : ℕ) (b : Bool)
    → (sum_by (λ r. cond ((round == r) && b) slots 0) (range_with_len low count) ≤ cond b slots 0)
    × (round < low → sum_by (λ r. cond ((round == r) && b) slots 0) (range_with_len low count) ≡ 0)
some-round zero low round slots b = (omega arith, λ below. refl)
some-round (suc count) low round slots b = by (round == low) refl (some-round count (low + 1) round slots b)
  where
    rest : ℕ
    rest = sum_by (λ r. cond ((round == r) && b) slots 0) (range_with_len (low + 1) count)

    all : sum_by (λ r. cond ((round == r) && b) slots 0) (range_with_len low (suc count)) ≡ cond ((round == low) && b) slots 0 + rest
    all = sum_by-cons (λ r. cond ((round == r) && b) slots 0) low (range_with_len (low + 1) count)

    by : (a : Bool) → (round == low) ≡ a → (rest ≤ cond b slots 0) × (round < low + 1 → rest ≡ 0)
        → (sum_by (λ r. cond ((round == r) && b) slots 0) (range_with_len low (suc count)) ≤ cond b slots 0)
        × (round < low → sum_by (λ r. cond ((round == r) && b) slots 0) (range_with_len low (suc count)) ≡ 0)
    by true e more =
        let same : round ≡ low = grind (arith, nat_tests) in
        let none : rest ≡ 0 = more.1 (omega arith) in
        (rw (all, e, none) (omega arith), λ below. absurd (omega arith))
    by false e more = (rw (all, e) (omega (arith, more.0)), λ below. rw (all, e) (omega (arith, more.1 (omega arith))))

none-round : (count low : ℕ) → sum_by (λ (r : ℕ). 0) (range_with_len low count) ≡ 0
none-round zero low = refl
none-round (suc count) low = sum_by-cons (λ (r : ℕ). 0) low (range_with_len (low + 1) count) ∙ omega (arith, none-round count (low + 1))

ask-rounds : (count src dst : ℕ) (ask : Ask) → sum_by (λ r. slots_asked r src dst ask) (range_with_len 0 count) ≤ slots_for src dst ask
ask-rounds count src dst ask =
    let grouped : sum_by (λ r. slots_asked r src dst ask) (range_with_len 0 count) ≡ sum_by (λ r. cond ((ask.round == r) && ((ask.src == src) && (ask.dst == dst))) ask.slots 0) (range_with_len 0 count) =
    ap (λ g. sum_by g (range_with_len 0 count)) (fun_ext (λ r. by (ask.round == r))) in
    rw grouped (some-round count 0 ask.round ask.slots ((ask.src == src) && (ask.dst == dst))).0
  where
    by : (a : Bool) → cond (a && (ask.src == src) && (ask.dst == dst)) ask.slots 0 ≡ cond (a && ((ask.src == src) && (ask.dst == dst))) ask.slots 0
    by true = refl
    by false = refl

-- a sum over rounds of sums is at most a sum
sums-le : {X : Type 0} (part : ℕ → X → ℕ) (whole : X → ℕ) (count : ℕ) (xs : List X) → ((x : X) → sum_by (λ r. part r x) (range_with_len 0 count) ≤ whole x)
    → sum_by (λ r. sum_by (part r) xs) (range_with_len 0 count) ≤ sum_by whole xs
sums-le part whole count [] each = omega (arith, none-round count 0)
sums-le part whole count (x ∷ xs) each =
    let split : sum_by (λ r. sum_by (part r) (x ∷ xs)) (range_with_len 0 count) ≡ sum_by (λ r. part r x + sum_by (part r) xs) (range_with_len 0 count) =
    ap (λ g. sum_by g (range_with_len 0 count)) (fun_ext (λ r. sum_by-cons (part r) x xs)) in
    omega (
      arith,
      split,
      sum_by-plus (λ r. part r x) (λ r. sum_by (part r) xs) (range_with_len 0 count),
      sum_by-cons whole x xs,
      each x,
      sums-le part whole count xs each,
    )

pub rounds-le : (count src dst : ℕ) (asks : List Ask) → sum_by (λ r. sum_by (slots_asked r src dst) asks) (range_with_len 0 count) ≤ sum_by (slots_for src dst) asks
rounds-le count src dst asks = sums-le (λ r. slots_asked r src dst) (slots_for src dst) count asks (ask-rounds count src dst)

-- the same of rows
pub row-rounds-le : (count src dst : ℕ) (rows : List Row) → sum_by (λ r. sum_by (slots_in_round r src dst) rows) (range_with_len 0 count) ≤ sum_by (row_slots src dst) rows
row-rounds-le count src dst rows = sums-le (λ r. slots_in_round r src dst) (row_slots src dst) count rows each
  where
    each : (row : Row) → sum_by (λ r. slots_in_round r src dst row) (range_with_len 0 count) ≤ row_slots src dst row
    each (row.Net racks hosts cores) = omega (arith, none-round count 0)
    each (row.Ask round s d slots) = ask-rounds count src dst (record { round = round; src = s; dst = d; slots = slots })
    each (row.Meets round endpoint up fate) = omega (arith, none-round count 0)
    each (row.Boot round endpoint version) = omega (arith, none-round count 0)
    each (row.Raw round packet) = omega (arith, none-round count 0)
    each (row.Put endpoint packet) = omega (arith, none-round count 0)
    each (row.End rounds) = omega (arith, none-round count 0)

-- what a flow asks for in one round it asks for
in-round : (a b c : Bool) (slots : ℕ) → cond (a && b && c) slots 0 ≤ cond (b && c) slots 0
in-round true b c slots = omega arith
in-round false b c slots = omega arith

pub asked-le : (round src dst : ℕ) (asks : List Ask) → sum_by (slots_asked round src dst) asks ≤ sum_by (slots_for src dst) asks
asked-le round src dst asks = sum_by-below (slots_asked round src dst) (slots_for src dst) asks (λ ask. in-round (ask.round == round) (ask.src == src) (ask.dst == dst) ask.slots)

pub row-asked-le : (round src dst : ℕ) (rows : List Row) → sum_by (slots_in_round round src dst) rows ≤ sum_by (row_slots src dst) rows
row-asked-le round src dst rows = sum_by-below (slots_in_round round src dst) (row_slots src dst) rows each
  where
    each : (row : Row) → slots_in_round round src dst row ≤ row_slots src dst row
    each (row.Net racks hosts cores) = omega arith
    each (row.Ask r s d slots) = in-round (r == round) (s == src) (d == dst) slots
    each (row.Meets r endpoint up fate) = omega arith
    each (row.Boot r endpoint version) = omega arith
    each (row.Raw r packet) = omega arith
    each (row.Put endpoint packet) = omega arith
    each (row.End rounds) = omega arith

-- a boot is one of one round at most
boots-le : (count endpoint : ℕ) (boots : List Boot) → sum_by (λ r. length (map (λ boot. boot.version) (filter (is_boot_of r endpoint) boots))) (range_with_len 0 count) ≤ length boots
boots-le count endpoint [] = omega (arith, none-round count 0)
boots-le count endpoint (boot ∷ boots) =
    let told : ℕ → ℕ = λ r. length (map (λ (b : Boot). b.version) (filter (is_boot_of r endpoint) boots)) in
    let split : sum_by (λ r. length (map (λ (b : Boot). b.version) (filter (is_boot_of r endpoint) (boot ∷ boots)))) (range_with_len 0 count)
    ≡ sum_by (λ r. cond ((boot.round == r) && (boot.endpoint == endpoint)) 1 0 + told r) (range_with_len 0 count) =
    ap (λ g. sum_by g (range_with_len 0 count)) (fun_ext (λ r. by ((boot.round == r) && (boot.endpoint == endpoint)) (filter (is_boot_of r endpoint) boots))) in
    omega (
      arith,
      split,
      sum_by-plus (λ r. cond ((boot.round == r) && (boot.endpoint == endpoint)) 1 0) told (range_with_len 0 count),
      (some-round count 0 boot.round 1 (boot.endpoint == endpoint)).0,
      at_most_one (boot.endpoint == endpoint),
      boots-le count endpoint boots,
    )
  where
    by : (b : Bool) (rest : List Boot) → length (map (λ (b : Boot). b.version) (cond b (boot ∷ rest) rest)) ≡ cond b 1 0 + length (map (λ (b : Boot). b.version) rest)
    by true rest = omega arith
    by false rest = omega arith

-- what a source asks for, in a round
abbrev some_asked : ℕ → (ℕ → ℕ → ℕ → ℕ) → ℕ → ℕ → List (ℕ × ℕ)
some_asked endpoints f round src = some_below endpoints (f round src)

total-le : (endpoints rounds src dst : ℕ) (f : ℕ → ℕ → ℕ → ℕ) → total_asked (table_of rounds endpoints (some_asked endpoints f)) src dst ≤ sum_by (λ r. f r src dst) (range_with_len 0 rounds)
total-le endpoints rounds src dst f =
    rw (sum_by-map (λ (l : List (List (ℕ × ℕ))). amount_for dst (get_or l src [])) (λ r. each_below endpoints (some_asked endpoints f r)) (range_with_len 0 rounds))
    (sum_by-below _ _ (range_with_len 0 rounds) (λ r. below-cases (λ l. amount_for dst l ≤ f r src dst) endpoints (some_asked endpoints f r) [] src (omega arith) (some-amount endpoints 0 (f r src) dst).0))

pub content_by-sound : (net : Network) (rounds : ℕ) (asks : List Ask) (fates : List GivenFate) (boots : List Boot) (raws : List KeptPacket) (bytes : List ℕ) → IsNetwork net → 1 ≤ rounds → rounds ≤ 100000 → All (IsAmong (endpoints_of net)) asks
    → ((src dst : ℕ) → sum_by (λ round. sum_by (slots_asked round src dst) asks) (range_with_len 0 rounds) ≤ 100000000) → EventsAreAmong (endpoints_of net) fates boots raws bytes → length boots ≤ 67108864 → All (λ byte. byte < 256) bytes
    → IsTrace (content_by net rounds (λ round src dst. sum_by (slots_asked round src dst) asks) (events_kept fates boots raws bytes))
content_by-sound net rounds asks fates boots raws bytes limits some few among bounded within few_boots are = record {
  net = limits;
  some_round = some;
  few_rounds = few;
  rounds = length-map-range_with_len row 0 rounds;
  sources = λ k d lt. ap length (row-at k d lt) ∙ length-map-range_with_len (some_asked endpoints f k) 0 endpoints;
  asks = λ k d lt. subst (All (IsAskList endpoints)) (sym (row-at k d lt)) (λ src e below.
      let low : src < endpoints = omega (arith, length-map-range_with_len (some_asked endpoints f k) 0 endpoints) in
      subst (IsAskList endpoints) (sym (below-at endpoints (some_asked endpoints f k) e src low)) (ask_list endpoints (f k src)));
  apart = λ round src. table-cases (All (λ p. p.0 ≢ src)) rounds endpoints (some_asked endpoints f) [] round src (λ k d lt. absurd (omega arith)) (λ k d lt same.
      let p = get_or (some_below endpoints (f round src)) k d in
      let told = some-asked endpoints (f round src) k d lt in
      let none : f round src p.0 ≡ 0 = ap (f round src) same ∙ own-none endpoints round src asks among in
      omega (arith, told.1, told.2, none));
  bounded = λ src dst. omega (arith, total-le endpoints rounds src dst f, bounded src dst);
  holds = λ round endpoint up. fate-holds round endpoint up;
  versions = λ round endpoint. table-cases (All (λ version. (1 ≤ version) × (version ≤ 2))) rounds endpoints events.boots [] round endpoint (λ k d lt. absurd (omega arith))
      (versions-told endpoints boots round endpoint within.each_boot);
  few_boots = λ endpoint. omega (arith, boots-all endpoint, boots-le rounds endpoint boots, few_boots);
  short = λ round. below-cases (All (λ packet. length packet ≤ 2048)) rounds events.raw [] round (λ k d lt. absurd (omega arith)) (short-told bytes raws round within.each_raw);
  bytes = λ round. below-cases (All (All (λ byte. byte < 256))) rounds events.raw [] round (λ k d lt. absurd (omega arith)) (bytes-told bytes raws round are);
  putters = length-map-range_with_len none_put 0 endpoints;
  few_puts = λ endpoint. below-cases (λ (l : List (List ℕ)). length l ≤ 1024) endpoints none_put [] endpoint (omega arith) (omega arith);
  short_puts = λ endpoint. below-cases (All (λ packet. length packet ≤ 2048)) endpoints none_put [] endpoint (λ k d lt. absurd (omega arith)) (λ k d lt. absurd (omega arith));
  put_bytes = λ endpoint. below-cases (All (All (λ byte. byte < 256))) endpoints none_put [] endpoint (λ k d lt. absurd (omega arith)) (λ k d lt. absurd (omega arith));
}
  where
    endpoints : ℕ
    endpoints = endpoints_of net

    f : ℕ → ℕ → ℕ → ℕ
    f = λ round src dst. sum_by (slots_asked round src dst) asks

    none_put : ℕ → List (List ℕ)
    none_put = λ endpoint. []

    events : Events
    events = events_kept fates boots raws bytes

    row : ℕ → List (List (ℕ × ℕ))
    row = λ round. each_below endpoints (some_asked endpoints f round)

    row-at : (k : ℕ) (d : List (List (ℕ × ℕ))) → k < length (each_below rounds row) → get_or (each_below rounds row) k d ≡ row k
    row-at k d lt = let low : k < rounds = omega (arith, length-map-range_with_len row 0 rounds) in below-at rounds row d k low

    fate-holds : (round endpoint : ℕ) (up : Bool) → IfSome (of_way up (get_or (get_or (table_of rounds endpoints (λ r e. (events.fates r e true, events.fates r e false))) round []) endpoint (None, None))) (λ fate. is_fate fate ≡ true)
    fate-holds round endpoint up =
        table-cases (λ (p : Option Fate × Option Fate). IfSome (of_way up p) (λ fate. is_fate fate ≡ true)) rounds endpoints (λ r e. (events.fates r e true, events.fates r e false)) (None, None) round endpoint (no_fate up) (a_fate up)
      where
        no_fate : (u : Bool) → IfSome (of_way u (None, None)) (λ fate. is_fate fate ≡ true)
        no_fate true = tt
        no_fate false = tt

        a_fate : (u : Bool) → IfSome (of_way u (events.fates round endpoint true, events.fates round endpoint false)) (λ fate. is_fate fate ≡ true)
        a_fate true = holds-told endpoints fates round endpoint true within.each_fate
        a_fate false = holds-told endpoints fates round endpoint false within.each_fate

    boots-all : (endpoint : ℕ) → sum_by (λ r. length (get_or (get_or (table_of rounds endpoints events.boots) r []) endpoint [])) (range_with_len 0 rounds) ≤ sum_by (λ r. length (events.boots r endpoint)) (range_with_len 0 rounds)
    boots-all endpoint = sum_by-below _ _ (range_with_len 0 rounds) (λ r. table-cases (λ (l : List ℕ). length l ≤ length (events.boots r endpoint)) rounds endpoints events.boots [] r endpoint (omega arith) (omega arith))

-- and where packets are put
pub with_puts-sound : (n : ℕ) (puts : PutRows) (trace : TraceContent) → IsTrace trace → n ≡ endpoints_of trace.net → AreFew puts → All (λ byte. byte < 256) puts.bytes.items → IsTrace (with_puts (each_below n (puts_in puts)) trace)
with_puts-sound n puts trace is same few are = record {
  net = is.net;
  some_round = is.some_round;
  few_rounds = is.few_rounds;
  rounds = is.rounds;
  sources = is.sources;
  asks = is.asks;
  apart = is.apart;
  bounded = is.bounded;
  holds = is.holds;
  versions = is.versions;
  few_boots = is.few_boots;
  short = is.short;
  bytes = is.bytes;
  putters = length-map-range_with_len (puts_in puts) 0 n ∙ same;
  few_puts = λ endpoint. below-cases (λ (l : List (List ℕ)). length l ≤ 1024) n (puts_in puts) [] endpoint (omega arith) (few.few endpoint);
  short_puts = λ endpoint. below-cases (All (λ packet. length packet ≤ 2048)) n (puts_in puts) [] endpoint (λ k d lt. absurd (omega arith)) (short-told puts.bytes.items puts.packets.items endpoint few.within);
  put_bytes = λ endpoint. below-cases (All (All (λ byte. byte < 256))) n (puts_in puts) [] endpoint (λ k d lt. absurd (omega arith)) (bytes-told puts.bytes.items puts.packets.items endpoint are);
}
