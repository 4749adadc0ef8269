-- The rounds of a window with some endpoints that follow each other: their numbers, where their batches lie, one endpoint more, and those
-- behind them.
use Rattle.std.proofs.Common.{◌≡◌, ◌<◌, ◌≤◌, ◌==◌, ◌&&◌, ◌||◌, Bool, true, false, not, cond, nat_lt, IsTrue, ℕ, zero, suc, ◌+◌, List, [], ◌∷◌, ◌++◌, length, map, get_or, Option, Some, None, IfSome, All, refl, sym, ap, ◌∙◌, subst, arith, add-one, slice_set, slice_get, take, drop, append_assoc}
use Rattle.std.specs.List.{flat_map, range_with_len, filter_map, cons_option}
use Rattle.std.proofs.lemmas.Grind.{flat_map-append}
use Rattle.std.proofs.lemmas.Bool.{lt-ltb}
use Rattle.std.proofs.lemmas.List.{take-append-drop, drop_more}
use Rattle.std.proofs.lemmas.Option.{slice_get_within, get_or_from_slice_get}
use Rattle.std.proofs.lemmas.List.Elements.{All-nil, All-cons, All-head}
use Rattle.std.proofs.lemmas.List.FromFn.{get_or-map-range_with_len, length-map-range_with_len}
use Rattle.greedy_rules.specs.declared.flows.Entry.{Entry}
use Rattle.list_facts.proofs.Pairs.{AllPairs-append, AllPairs-head, AllPairs-tail}
use Rattle.list_facts.proofs.Lists.{flat-last, range_both}
use Rattle.greedy_rules.specs.Flows.{flow_below}
use Rattle.greedy_rules.specs.Batches.{DemandBatch, IsAboveLast, IsBatch}
use Rattle.endpoint_history.specs.Lane.{LaneHistory}
use Rattle.endpoint_history.specs.Entries.{had, is_reset, added, next_entry}
use Rattle.endpoint_history.specs.Rounds.{Round, entries_by, read, played}
use Rattle.endpoint_history.specs.Steps.{lane_of}
use Rattle.lane_rounds.proofs.Entries.{Below, Below-append, Below-more, Below-filter_map, entry-below, above_last}
use Rattle.trace_text.specs.Trace.{TraceContent}
use Rattle.trace_run.specs.Run.{Setting, next_rounds, replayed}
use Rattle.replay_rounds.specs.declared.played.Departure.{Departure}
use Rattle.replay_rounds.specs.Played.{Played, departures_from}
use Rattle.replay_rounds.specs.Collecting.{answers_of, entries_recorded, refused_of, round_part, with_behind, with_endpoint, with_numbers, AreRoundsFrom, LieBelow, RawPart, RoundPart}
use Rattle.replay_rounds.specs.Departures.{by_slot}
use Rattle.replay_rounds.proofs.PlayLemmas.{same_part}
use Rattle.list_facts.proofs.StableSort.{sort_front}
use Rattle.replay_rounds.proofs.SortLemmas.{sort_back, sort_again}

-- ---- lists

pub map_by : {X Y Z : Type 0} (f : Y → Z) (g : X → Y) (h : X → Z) → ((x : X) → f (g x) ≡ h x) → (xs : List X) → map f (map g xs) ≡ map h xs
map_by f g h same [] = refl
map_by f g h same (x ∷ xs) = cc (same x, map_by f g h same xs)

flat_map_both : {X : Type 0} (f : ℕ → List X) (from m k : ℕ)
    → flat_map f (range_with_len from m) ++ flat_map f (range_with_len (from + m) k) ≡ flat_map f (range_with_len from (m + k))
flat_map_both f from m k = sym (ap (flat_map f) (range_both from m k) ∙ flat_map-append f (range_with_len from m) (range_with_len (from + m) k))

-- ---- the rounds of a window

pub parts_from : (setting : Setting) (trace : TraceContent) (from n first count : ℕ) → AreRoundsFrom first (map (round_part setting trace from n) (range_with_len first count))
parts_from setting trace from n first count at d below =
    let within : at < count = omega (arith, below, length-map-range_with_len (round_part setting trace from n) first count) in
    ap (λ (p : RoundPart). p.round) (get_or-map-range_with_len (round_part setting trace from n) first count at (first + at) d within refl)

-- one endpoint more
pub parts_more : (setting : Setting) (trace : TraceContent) (from n : ℕ) (numbers : List ℕ)
    → map (with_endpoint setting trace (from + n)) (map (round_part setting trace from n) numbers) ≡ map (round_part setting trace from (n + 1)) numbers
parts_more setting trace from n numbers =
    map_by (with_endpoint setting trace (from + n)) (round_part setting trace from n) (round_part setting trace from (n + 1))
    (λ number. same_part (with_endpoint setting trace (from + n) (round_part setting trace from n number)) (round_part setting trace from (n + 1) number) refl
    (sym (flat-last (entries_recorded setting number) from n)) refl
    (sym (flat-last (refused_of setting trace number) from n))
    (sort_front (λ (d : Departure). d.slot) (flat_map (departures_from setting number) (range_with_len from n)) (departures_from setting number (from + n))
    ∙ ap by_slot (sym (flat-last (departures_from setting number) from n)))) numbers

-- those behind
pub part_both : (setting : Setting) (trace : TraceContent) (from m k number : ℕ)
    → with_behind (round_part setting trace (from + m) k number) (round_part setting trace from m number) ≡ round_part setting trace from (m + k) number
part_both setting trace from m k number =
    let slot : Departure → ℕ = λ d. d.slot in
    let front : List Departure = flat_map (departures_from setting number) (range_with_len from m) in
    let back : List Departure = flat_map (departures_from setting number) (range_with_len (from + m) k) in
    same_part (with_behind (round_part setting trace (from + m) k number) (round_part setting trace from m number)) (round_part setting trace from (m + k) number) refl
    (flat_map_both (entries_recorded setting number) from m k) refl
    (flat_map_both (refused_of setting trace number) from m k)
    (sort_front slot front (by_slot back)
    ∙ (sort_back slot front (by_slot back) back (sort_again slot back)
    ∙ ap by_slot (flat_map_both (departures_from setting number) from m k)))

-- ---- what is recorded lies from the first endpoint up to the last

entries-below : (endpoint endpoints g : ℕ) (rounds : List Round) → Below (endpoint + 1) (entries_by endpoint endpoints g rounds)
entries-below endpoint endpoints g [] = tt
entries-below endpoint endpoints g (round ∷ earlier) =
    Below-filter_map (endpoint + 1) (next_entry endpoint g (lane_of (read endpoints g (length earlier) round (played endpoints g earlier))))
    (entry-below endpoint g (lane_of (read endpoints g (length earlier) round (played endpoints g earlier)))) (range_with_len 0 endpoints)

below-bound : (setting : Setting) (number from n : ℕ) → Below (from + n) (flat_map (entries_recorded setting number) (range_with_len from n))
below-bound setting number from zero = tt
below-bound setting number from (suc n) =
    let entries = entries_recorded setting number in
    let next : from + n + 1 ≡ from + suc n = omega arith in
    subst (λ (k : ℕ). Below (from + suc n) (flat_map entries (range_with_len from k))) (add-one n)
    (subst (λ (xs : List Entry). Below (from + suc n) xs) (sym (flat-last entries from n))
    (subst (λ (k : ℕ). Below k (flat_map entries (range_with_len from n) ++ entries (from + n))) next
    (Below-append (from + n + 1) (flat_map entries (range_with_len from n)) (entries (from + n))
    (Below-more (from + n) (from + n + 1) (flat_map entries (range_with_len from n)) (omega arith) (below-bound setting number from n))
    (entries-below (from + n) setting.endpoints setting.g (next_rounds setting number (replayed setting number) (from + n))))))

pub parts_above : (setting : Setting) (trace : TraceContent) (from n first count : ℕ)
    → All (λ part. IsAboveLast part.batch.entries (record { src = from + n; dst = 0 })) (map (round_part setting trace from n) (range_with_len first count))
parts_above setting trace from n first count at d below =
    let within : at < count = omega (arith, below, length-map-range_with_len (round_part setting trace from n) first count) in
    let is = get_or-map-range_with_len (round_part setting trace from n) first count at (first + at) d within refl in
    subst (λ (p : RoundPart). IsAboveLast p.batch.entries (record { src = from + n; dst = 0 })) (sym is) (above_last (from + n) _ (below-bound setting (first + at) from n))

-- entries of sources from an endpoint on
abbrev From : ℕ → List Entry → Type 0
From low [] = Unit {0}
From low (entry ∷ entries) = (low ≤ entry.flow.src) × From low entries

From-append : (low : ℕ) (xs ys : List Entry) → From low xs → From low ys → From low (xs ++ ys)
From-append low [] ys here there = there
From-append low (x ∷ xs) ys here there = (here.0, From-append low xs ys here.1 there)

From-less : (low lower : ℕ) (xs : List Entry) → lower ≤ low → From low xs → From lower xs
From-less low lower [] le from = tt
From-less low lower (x ∷ xs) le from = (omega (arith, from.0), From-less low lower xs le from.1)

From-cons : (low : ℕ) (entry : Option Entry) (entries : List Entry) → IfSome entry (λ e. low ≤ e.flow.src) → From low entries → From low (cons_option entry entries)
From-cons low None entries here there = there
From-cons low (Some entry) entries here there = (here, there)

From-filter_map : (low : ℕ) (f : ℕ → Option Entry) → ((n : ℕ) → IfSome (f n) (λ entry. low ≤ entry.flow.src)) → (ns : List ℕ) → From low (filter_map f ns)
From-filter_map low f each [] = tt
From-filter_map low f each (n ∷ ns) = From-cons low (f n) (filter_map f ns) (each n) (From-filter_map low f each ns)

if_from : (some : Bool) (entry : Entry) (low : ℕ) → low ≤ entry.flow.src → IfSome (cond some (Some entry) None) (λ e. low ≤ e.flow.src)
if_from true entry low from = from
if_from false entry low from = tt

entry-from : (endpoint g : ℕ) (history : LaneHistory) (dst : ℕ) → IfSome (next_entry endpoint g history dst) (λ entry. endpoint ≤ entry.flow.src)
entry-from endpoint g history dst =
    if_from (nat_lt 0 (added g history dst) || (is_reset history && had g history dst))
    (record { flow = record { src = endpoint; dst = dst }; opens = nat_lt 0 (added g history dst) && not (had g history dst); clear = is_reset history && had g history dst; add = added g history dst })
    endpoint (omega arith)

entries-from : (endpoint endpoints g : ℕ) (rounds : List Round) → From endpoint (entries_by endpoint endpoints g rounds)
entries-from endpoint endpoints g [] = tt
entries-from endpoint endpoints g (round ∷ earlier) =
    From-filter_map endpoint (next_entry endpoint g (lane_of (read endpoints g (length earlier) round (played endpoints g earlier))))
    (entry-from endpoint g (lane_of (read endpoints g (length earlier) round (played endpoints g earlier)))) (range_with_len 0 endpoints)

from-bound : (setting : Setting) (number from n : ℕ) → From from (flat_map (entries_recorded setting number) (range_with_len from n))
from-bound setting number from zero = tt
from-bound setting number from (suc n) =
    let entries = entries_recorded setting number in
    From-append from (entries from) (flat_map entries (range_with_len (from + 1) n))
    (entries-from from setting.endpoints setting.g (next_rounds setting number (replayed setting number) from))
    (From-less (from + 1) from (flat_map entries (range_with_len (from + 1) n)) (omega arith) (from-bound setting number (from + 1) n))

-- a batch whose sources lie below those of another lies below it
lower_first : (bound : ℕ) (x : Entry) (ys : List Entry) → x.flow.src < bound → From bound ys → All (λ y. IsTrue (flow_below x.flow y.flow)) ys
lower_first bound x [] low from = All-nil (λ y. IsTrue (flow_below x.flow y.flow))
lower_first bound x (y ∷ ys) low from =
    All-cons (λ z. IsTrue (flow_below x.flow z.flow)) y ys
    (subst (λ (b : Bool). IsTrue (b || (x.flow.src == y.flow.src && nat_lt x.flow.dst y.flow.dst))) (sym (lt-ltb x.flow.src y.flow.src (omega (arith, from.0)))) refl)
    (lower_first bound x ys low from.1)

all_lower : (bound : ℕ) (xs ys : List Entry) → Below bound xs → From bound ys → LieBelow xs ys
all_lower bound [] ys below from = All-nil (λ x. All (λ y. IsTrue (flow_below x.flow y.flow)) ys)
all_lower bound (x ∷ xs) ys below from =
    All-cons (λ z. All (λ y. IsTrue (flow_below z.flow y.flow)) ys) x xs (lower_first bound x ys below.0 from) (all_lower bound xs ys below.1 from)

pub behind_above : (setting : Setting) (trace : TraceContent) (from m k number : ℕ)
    → LieBelow (round_part setting trace from m number).batch.entries (round_part setting trace (from + m) k number).batch.entries
behind_above setting trace from m k number =
    let entries = entries_recorded setting number in
    all_lower (from + m) (flat_map entries (range_with_len from m)) (flat_map entries (range_with_len (from + m) k)) (below-bound setting number from m) (from-bound setting number (from + m) k)

-- the last entry before another lies below it
last_below : (before : List Entry) (entry : Entry) (rest : List Entry) → IsBatch (before ++ entry ∷ rest) → IsAboveLast before entry.flow
last_below [] entry rest rises = tt
last_below (x ∷ []) entry rest rises = All-head (λ y. IsTrue (flow_below x.flow y.flow)) entry rest (AllPairs-head (λ e f. IsTrue (flow_below e.flow f.flow)) x (entry ∷ rest) rises)
last_below (x ∷ (y ∷ before)) entry rest rises = last_below (y ∷ before) entry rest (AllPairs-tail (λ e f. IsTrue (flow_below e.flow f.flow)) x (y ∷ before ++ entry ∷ rest) rises)

-- an entry of the second of two batches that are one stands above the last of those before it
pub rises_at : (front back : List Entry) (at : ℕ) (entry : Entry) → slice_get back at ≡ Some entry → IsBatch front → IsBatch back → LieBelow front back
    → IsAboveLast (front ++ take at back) entry.flow
rises_at front back at entry got front_rises back_rises below =
    let rises : IsBatch (front ++ back) = AllPairs-append (λ e f. IsTrue (flow_below e.flow f.flow)) front back front_rises back_rises below in
    let whole : front ++ back ≡ (front ++ take at back) ++ entry ∷ drop (at + 1) back =
    ap (λ (es : List Entry). front ++ es) (sym (take-append-drop at back)
    ∙ ap (λ (es : List Entry). take at back ++ es) (drop_more back at entry (slice_get_within back at entry got)
    ∙ ap (λ (e : Entry). e ∷ drop (at + 1) back) (get_or_from_slice_get back at entry entry got)))
    ∙ sym (append_assoc front (take at back) (entry ∷ drop (at + 1) back)) in
    last_below (front ++ take at back) entry (drop (at + 1) back) (subst IsBatch whole rises)

-- ---- numbers at their places

pub with_numbers-more : (refused : List (ℕ × ℕ)) (one : ℕ × ℕ) (answers : List (Option ℕ))
    → with_numbers (refused ++ one ∷ []) answers ≡ slice_set (with_numbers refused answers) one.0 (Some one.1)
with_numbers-more [] one answers = refl
with_numbers-more (r ∷ refused) one answers = with_numbers-more refused one (slice_set answers r.0 (Some r.1))

-- ---- what all rounds give

pub same_played : (x y : Played) → x.batches ≡ y.batches → x.answers ≡ y.answers → x.departures ≡ y.departures → x ≡ y
same_played x y batches answers departures =
    ap (λ (bs : List DemandBatch). record { batches = bs; answers = x.answers; departures = x.departures }) batches
    ∙ (ap (λ (zs : List (List (Option ℕ))). record { batches = y.batches; answers = zs; departures = x.departures }) answers
    ∙ ap (λ (ds : List (List Departure)). record { batches = y.batches; answers = y.answers; departures = ds }) departures)

-- one round's answers more
pub answers_more : (raws : List RawPart) (raw : RawPart) (parts : List RoundPart) (d : RoundPart) → length raws < length parts
    → answers_of (raws ++ raw ∷ []) parts ≡ answers_of raws parts ++ with_numbers (get_or parts (length raws) d).refused raw.answers ∷ []
answers_more [] raw (part ∷ parts) d below = refl
answers_more (r ∷ raws) raw (part ∷ parts) d below =
    ap (λ (xs : List (List (Option ℕ))). with_numbers part.refused r.answers ∷ xs) (answers_more raws raw parts d (omega (arith, below)))
answers_more [] raw [] d below = absurd (omega (arith, below))
answers_more (r ∷ raws) raw [] d below = absurd (omega (arith, below))

-- ---- a list in two parts

pub is_map_range : {X : Type 0} (f : ℕ → X) (xs : List X) (first : ℕ) → ((at : ℕ) (d : X) → at < length xs → get_or xs at d ≡ f (first + at)) → xs ≡ map f (range_with_len first (length xs))
is_map_range f [] first each = refl
is_map_range {X} f (x ∷ xs) first each =
    let here : first + 0 ≡ first = omega arith in
    let head : x ≡ f first = each 0 x (omega arith) ∙ ap f here in
    let tail : xs ≡ map f (range_with_len (first + 1) (length xs)) = is_map_range f xs (first + 1) (λ at d below.
    let next : first + (at + 1) ≡ first + 1 + at = omega arith in
    let more : get_or xs at d ≡ get_or (x ∷ xs) (at + 1) d = ap (λ (k : ℕ). get_or (x ∷ xs) k d) (sym (add-one at)) in
    more ∙ (each (at + 1) d (omega (arith, below)) ∙ ap f next)) in
    cc (head, tail)

-- the rounds with the endpoints of both parts
pub rounds_both : (setting : Setting) (trace : TraceContent) (from m k first count : ℕ) (front back both : List RoundPart)
    → front ≡ map (round_part setting trace from m) (range_with_len first count) → back ≡ map (round_part setting trace (from + m) k) (range_with_len first count)
    → length both ≡ length front → ((at : ℕ) (d : RoundPart) → at < length front → get_or both at d ≡ with_behind (get_or back at d) (get_or front at d))
    → both ≡ map (round_part setting trace from (m + k)) (range_with_len first count)
rounds_both setting trace from m k first count front back both front_is back_is same each =
    let many : length both ≡ count = same ∙ (ap length front_is ∙ length-map-range_with_len (round_part setting trace from m) first count) in
    is_map_range (round_part setting trace from (m + k)) both first (λ at d below.
    let within : at < count = omega (arith, below, many) in
    let one : get_or front at d ≡ round_part setting trace from m (first + at) =
    ap (λ (xs : List RoundPart). get_or xs at d) front_is ∙ get_or-map-range_with_len (round_part setting trace from m) first count at (first + at) d within refl in
    let other : get_or back at d ≡ round_part setting trace (from + m) k (first + at) =
    ap (λ (xs : List RoundPart). get_or xs at d) back_is ∙ get_or-map-range_with_len (round_part setting trace (from + m) k) first count at (first + at) d within refl in
    each at d (omega (arith, below, same))
    ∙ (ap (λ (p : RoundPart). with_behind p (get_or front at d)) other
    ∙ (ap (with_behind (round_part setting trace (from + m) k (first + at))) one
    ∙ part_both setting trace from m k (first + at))))
    ∙ ap (λ (n : ℕ). map (round_part setting trace from (m + k)) (range_with_len first n)) many

pub rounds_below : (setting : Setting) (trace : TraceContent) (from m k first count : ℕ) (front back : List RoundPart)
    → front ≡ map (round_part setting trace from m) (range_with_len first count) → back ≡ map (round_part setting trace (from + m) k) (range_with_len first count)
    → (at : ℕ) (d : RoundPart) → at < length front → LieBelow (get_or front at d).batch.entries (get_or back at d).batch.entries
rounds_below setting trace from m k first count front back front_is back_is at d below =
    let within : at < count = omega (arith, below, ap length front_is ∙ length-map-range_with_len (round_part setting trace from m) first count) in
    let one : get_or front at d ≡ round_part setting trace from m (first + at) =
    ap (λ (xs : List RoundPart). get_or xs at d) front_is ∙ get_or-map-range_with_len (round_part setting trace from m) first count at (first + at) d within refl in
    let other : get_or back at d ≡ round_part setting trace (from + m) k (first + at) =
    ap (λ (xs : List RoundPart). get_or xs at d) back_is ∙ get_or-map-range_with_len (round_part setting trace (from + m) k) first count at (first + at) d within refl in
    subst (λ (p : RoundPart). LieBelow p.batch.entries (get_or back at d).batch.entries) (sym one)
    (subst (λ (p : RoundPart). LieBelow (round_part setting trace from m (first + at)).batch.entries p.batch.entries) (sym other) (behind_above setting trace from m k (first + at)))
