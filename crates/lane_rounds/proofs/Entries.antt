-- Entries of sources below a bound: that what a lane records is, and that a batch of such may take entries of the bound.
use Rattle.std.proofs.Common.{◌≤◌, ◌<◌, ℕ, ◌+◌, ◌==◌, ◌&&◌, ◌||◌, Bool, true, false, not, cond, nat_lt, IsTrue, List, [], ◌∷◌, ◌++◌, Option, Some, None, IfSome, sym, subst, refl, arith}
use Rattle.std.specs.List.{filter_map, cons_option}
use Rattle.std.proofs.lemmas.Bool.{lt-ltb}
use Rattle.greedy_rules.specs.declared.flows.Entry.{Entry}
use Rattle.greedy_rules.specs.Batches.{IsAboveLast}
use Rattle.endpoint_history.specs.Lane.{LaneHistory}
use Rattle.endpoint_history.specs.Entries.{had, is_reset, added, next_entry}

-- entries of sources below a bound
abbrev pub Below : ℕ → List Entry → Type 0
Below bound [] = Unit {0}
Below bound (entry ∷ entries) = (entry.flow.src < bound) × Below bound entries

pub Below-append : (bound : ℕ) (xs ys : List Entry) → Below bound xs → Below bound ys → Below bound (xs ++ ys)
Below-append bound [] ys here there = there
Below-append bound (x ∷ xs) ys here there = (here.0, Below-append bound xs ys here.1 there)

pub Below-more : (bound other : ℕ) (xs : List Entry) → bound ≤ other → Below bound xs → Below other xs
Below-more bound other [] le below = tt
Below-more bound other (x ∷ xs) le below = (omega (arith, below.0), Below-more bound other xs le below.1)

pub Below-cons : (bound : ℕ) (entry : Option Entry) (entries : List Entry) → IfSome entry (λ e. e.flow.src < bound) → Below bound entries → Below bound (cons_option entry entries)
Below-cons bound None entries here there = there
Below-cons bound (Some entry) entries here there = (here, there)

pub Below-filter_map : (bound : ℕ) (f : ℕ → Option Entry) → ((n : ℕ) → IfSome (f n) (λ entry. entry.flow.src < bound)) → (ns : List ℕ) → Below bound (filter_map f ns)
Below-filter_map bound f each [] = tt
Below-filter_map bound f each (n ∷ ns) = Below-cons bound (f n) (filter_map f ns) (each n) (Below-filter_map bound f each ns)

-- the entry of a lane lies below the next endpoint
if_below : (some : Bool) (entry : Entry) (bound : ℕ) → entry.flow.src < bound → IfSome (cond some (Some entry) None) (λ e. e.flow.src < bound)
if_below true entry bound below = below
if_below false entry bound below = tt

pub entry-below : (endpoint g : ℕ) (history : LaneHistory) (dst : ℕ) → IfSome (next_entry endpoint g history dst) (λ entry. entry.flow.src < endpoint + 1)
entry-below endpoint g history dst =
    if_below (nat_lt 0 (added g history dst) || (is_reset history && had g history dst))
    (record { flow = record { src = endpoint; dst = dst }; opens = nat_lt 0 (added g history dst) && not (had g history dst); clear = is_reset history && had g history dst; add = added g history dst })
    (endpoint + 1) (omega arith)

pub above_last : (bound : ℕ) (entries : List Entry) → Below bound entries → IsAboveLast entries (record { src = bound; dst = 0 })
above_last bound [] below = tt
above_last bound (x ∷ []) below = subst (λ (b : Bool). IsTrue (b || (x.flow.src == bound && nat_lt x.flow.dst 0))) (sym (lt-ltb x.flow.src bound below.0)) refl
above_last bound (x ∷ (y ∷ entries)) below = above_last bound (y ∷ entries) below.1
