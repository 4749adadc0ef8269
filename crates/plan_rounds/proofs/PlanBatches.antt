-- The batches of a plan, one by one: their entries rise, and are of flows between the trace's endpoints.
use Rattle.std.proofs.Common.{◌≡◌, ◌<◌, ◌+◌, ◌^◌, ℕ, zero, suc, List, [], ◌∷◌, ◌++◌, length, get_or, map, take, drop, All, AllPairs, refl, sym, ap, ◌∙◌, arith}
use Rattle.std.proofs.lemmas.Bool.Decides.{nat_tests}
use Rattle.std.proofs.lemmas.List.{append-nil, append_assoc, take_more, length-drop, get_or-drop}
use Rattle.std.proofs.lemmas.List.Sums.{sum_by_more, sum_by-take-le}
use Rattle.std.proofs.lemmas.List.Elements.{All-head, All-tail, All-map}
use Rattle.greedy_rules.specs.declared.flows.Entry.{Entry}
use Rattle.greedy_rules.specs.declared.limits.Limits.{Limits}
use Rattle.greedy_rules.specs.Batches.{DemandBatch}
use Rattle.greedy_rules.specs.Matching.{AreAmong}
use Rattle.greedy_rules.proofs.BatchLemmas.{Below}
use Rattle.greedy_rules.proofs.CellLemmas.{by_source}
use Rattle.list_facts.proofs.Pairs.{AllPairs-nil, AllPairs-head, AllPairs-tail, AllPairs-cons, AllPairs-append}
use Rattle.clos_topology.specs.Network.{endpoints_of}
use Rattle.clos_topology.specs.NetSlots.{limits_of}
use Rattle.trace_text.specs.Trace.{TraceContent, asked_at}
use Rattle.trace_text.specs.Valid.{amount_for, total_asked, IsAskList, IsTrace}
use Rattle.plan_rounds.specs.Batches.{AskedRound, asked_entry, asked_entries_from, batch_after, batches_after, plan_batches}
use Rattle.window_allocation.specs.Needs.{place_of}
use Rattle.plan_rounds.specs.Tallies.{Tallies, added_in, Adds}
use Rattle.plan_rounds.proofs.AskLemmas.{row_of}
use Rattle.plan_rounds.proofs.EntryLemmas.{all_entries, round_adds}

abbrev pub round_of : TraceContent → ℕ → AskedRound
round_of trace k = get_or trace.asked k []

abbrev pub batch_of : TraceContent → ℕ → DemandBatch
batch_of trace k = batch_after (limits_of trace.net) (take k trace.asked) (round_of trace k)

pub long : (trace : TraceContent) (k : ℕ) → IsTrace trace → k < trace.rounds → k < length trace.asked
long trace k sound below = omega (arith, sound.rounds)

length-batches : (limits : Limits) (before rounds : List AskedRound) → length (batches_after limits before rounds) ≡ length rounds
length-batches limits before [] = refl
length-batches limits before (round ∷ rounds) = ap suc (length-batches limits (before ++ round ∷ []) rounds)

pub batch_count : (trace : TraceContent) → IsTrace trace → length (plan_batches trace) ≡ trace.rounds
batch_count trace sound = length-batches (limits_of trace.net) [] trace.asked ∙ sound.rounds

batch_in : (limits : Limits) (before rounds : List AskedRound) (k : ℕ) (d : DemandBatch) → k < length rounds → get_or (batches_after limits before rounds) k d ≡ batch_after limits (before ++ take k rounds) (get_or rounds k [])
batch_in limits before [] k d below = absurd (omega arith)
batch_in limits before (round ∷ rounds) zero d below = ap (λ (rs : List AskedRound). batch_after limits rs round) (sym (append-nil before))
batch_in limits before (round ∷ rounds) (suc k) d below =
    batch_in limits (before ++ round ∷ []) rounds k d (omega arith) ∙ ap (λ (rs : List AskedRound). batch_after limits rs (get_or rounds k [])) (append_assoc before (round ∷ []) (take k rounds))

batch_at : (trace : TraceContent) (k : ℕ) (d : DemandBatch) → IsTrace trace → k < trace.rounds → get_or (plan_batches trace) k d ≡ batch_of trace k
batch_at trace k d sound below = batch_in (limits_of trace.net) [] trace.asked k d (long trace k sound below)

-- so many batches from one on, and one more
pub batches_more : (trace : TraceContent) (first n : ℕ) → IsTrace trace → first + n < trace.rounds
    → take (n + 1) (drop first (plan_batches trace)) ≡ take n (drop first (plan_batches trace)) ++ batch_of trace (first + n) ∷ []
batches_more trace first n sound below =
    let batches : List DemandBatch = plan_batches trace in
    let none : DemandBatch = batch_of trace 0 in
    take_more (drop first batches) n none (omega (arith, length-drop first batches, batch_count trace sound))
    ∙ ap (λ (x : DemandBatch). take n (drop first batches) ++ x ∷ []) (get_or-drop first batches n none ∙ batch_at trace (first + n) none sound below)

-- the entries of all batches are of flows between the trace's endpoints
pub among : (endpoints : ℕ) (before : List AskedRound) (round : AskedRound) → length round ≡ endpoints → All (IsAskList endpoints) round → AreAmong endpoints (asked_entries_from before 0 round)
among endpoints before round wide lists =
    all_entries (λ e. (e.flow.src < endpoints) × (e.flow.dst < endpoints)) before 0 round
    (λ n within i d inside.
    let list = row_of endpoints round n lists in
    let src : 0 + n < endpoints = omega arith in
    (src, list.in_range i d inside))

by_destination : (before : List AskedRound) (src : ℕ) (p q : ℕ × ℕ) → p.0 < q.0 → Below (asked_entry before src p) (asked_entry before src q)
by_destination before src p q lt = grind (arith, nat_tests)

own_rise : (before : List AskedRound) (src : ℕ) (asks : List (ℕ × ℕ)) → AllPairs (λ p q. p.0 < q.0) asks → AllPairs Below (map (asked_entry before src) asks)
own_rise before src [] rising = AllPairs-nil Below
own_rise before src (ask ∷ asks) rising =
    let Less : ℕ × ℕ → ℕ × ℕ → Type 0 = λ p q. p.0 < q.0 in
    AllPairs-cons Below (asked_entry before src ask) (map (asked_entry before src) asks)
    (All-map (Below (asked_entry before src ask)) (asked_entry before src) asks (λ k d below. by_destination before src ask (get_or asks k d) (AllPairs-head Less ask asks rising k d below)))
    (own_rise before src asks (AllPairs-tail Less ask asks rising))

pub rise_from : (endpoints : ℕ) (before : List AskedRound) (src : ℕ) (round : AskedRound) → All (IsAskList endpoints) round → AllPairs Below (asked_entries_from before src round)
rise_from endpoints before src [] lists = AllPairs-nil Below
rise_from endpoints before src (asks ∷ round) lists =
    let here : IsAskList endpoints asks = All-head (IsAskList endpoints) asks round lists in
    let later : List Entry = asked_entries_from before (src + 1) round in
    let above : All (λ f. src < f.flow.src) later = all_entries (λ f. src < f.flow.src) before (src + 1) round (λ n within i d inside. omega arith) in
    AllPairs-append Below (map (asked_entry before src) asks) later (own_rise before src asks here.rising)
    (rise_from endpoints before (src + 1) round (All-tail (IsAskList endpoints) asks round lists))
    (All-map (λ e. All (Below e) later) (asked_entry before src) asks (λ i d inside k e below. by_source (asked_entry before src (get_or asks i d)) (get_or later k e) (above k e below)))

-- a round's slots come on top of those before
total_more : (trace : TraceContent) (k src dst : ℕ) → IsTrace trace → k < trace.rounds
    → total_asked (take (k + 1) trace.asked) src dst ≡ total_asked (take k trace.asked) src dst + amount_for dst (asked_at trace k src)
total_more trace k src dst sound below = sum_by_more (λ (r : AskedRound). amount_for dst (get_or r src [])) trace.asked k [] (long trace k sound below)

-- and all fit
total_fits : (trace : TraceContent) (k src dst : ℕ) → IsTrace trace → total_asked (take k trace.asked) src dst < 2 ^ 32
total_fits trace k src dst sound = omega (arith, sound.bounded src dst, sum_by-take-le (λ (r : AskedRound). amount_for dst (get_or r src [])) trace.asked k)

pub batch_fits : (trace : TraceContent) (k : ℕ) (table : List ℕ) → IsTrace trace → k < trace.rounds → Tallies (endpoints_of trace.net) (take k trace.asked) table
    → (src dst : ℕ) → src < endpoints_of trace.net → dst < endpoints_of trace.net → get_or table (place_of (endpoints_of trace.net) src dst) 0 + added_in src dst (batch_of trace k).entries < 2 ^ 32
batch_fits trace k table sound below tallies src dst s t =
    omega (arith, tallies.at src dst s t, round_adds (take k trace.asked) (round_of trace k) src dst, total_more trace k src dst sound below, total_fits trace (k + 1) src dst sound)

pub tallies_more : (trace : TraceContent) (k : ℕ) (old new : List ℕ) → IsTrace trace → k < trace.rounds → Tallies (endpoints_of trace.net) (take k trace.asked) old
    → Adds (endpoints_of trace.net) (batch_of trace k).entries old new → Tallies (endpoints_of trace.net) (take (k + 1) trace.asked) new
tallies_more trace k old new sound below tallies adds = record {
  long = adds.long ∙ tallies.long;
  at = λ src dst s t. omega (arith, adds.at src dst s t, tallies.at src dst s t, round_adds (take k trace.asked) (round_of trace k) src dst, total_more trace k src dst sound below);
}
