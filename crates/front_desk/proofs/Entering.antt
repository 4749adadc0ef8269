-- The entries of all lines, by rising endpoint.
use Rattle.std.proofs.Common.{◌≡◌, ◌≤◌, ℕ, zero, suc, ◌+◌, List, [], ◌∷◌, ◌++◌, length, map, set, take, Some, slice_get, All, sym, ◌∙◌, ap, subst, refl, append_assoc, arith}
use Rattle.std.specs.List.{range_with_len}
use Rattle.std.proofs.lemmas.Option.{get_or_from_slice_get, slice_get_within}
use Rattle.std.proofs.lemmas.List.{append-nil}
use Rattle.greedy_rules.specs.declared.flows.Entry.{Entry}
use Rattle.greedy_rules.specs.Batches.{IsAboveLast}
use Rattle.endpoint_history.specs.Entries.{next_entry}
use Rattle.endpoint_history.proofs.OneContent.{some-same}
use Rattle.lane_rounds.proofs.Entries.{Below, Below-append, Below-more, Below-filter_map, entry-below, above_last}
use Rattle.front_desk.specs.State.{LineState, recorded_line}
use Rattle.front_desk.specs.declared.progress.Progress.TheVariants.{Closed}
use Rattle.front_desk.specs.Answers.{calls_of, entries_of, desk_entries_from}

-- ---- those of a front of the lines

pub next : (n : ℕ) → suc n ≡ n + 1
next n = omega arith

-- these are the entries of so many lines
pub record AreEntries (endpoints count : ℕ) (lines : List LineState) (entries : List Entry) : Type 0 where
  pub entries_are : entries ≡ desk_entries_from endpoints 0 (take count lines)
  pub below : Below count entries

pub entries-above : (endpoints count : ℕ) (lines : List LineState) (entries : List Entry) → AreEntries endpoints count lines entries → IsAboveLast entries (record { src = count; dst = 0 })
entries-above endpoints count lines entries are = above_last count entries are.below

take-more : (xs : List LineState) (at : ℕ) (x : LineState) → slice_get xs at ≡ Some x → take (suc at) xs ≡ take at xs ++ x ∷ []
take-more [] at x is = absurd (cc)
take-more (y ∷ xs) zero x is = ap (λ (z : LineState). z ∷ []) (some-same y x is)
take-more (y ∷ xs) (suc at) x is = ap (λ (r : List LineState). y ∷ r) (take-more xs at x is)

long : (xs : List LineState) (at : ℕ) (x : LineState) → slice_get xs at ≡ Some x → length (take at xs) ≡ at
long [] at x is = absurd (cc)
long (y ∷ xs) zero x is = refl
long (y ∷ xs) (suc at) x is = ap suc (long xs at x is)

entries-append : (endpoints first : ℕ) (lines : List LineState) (line : LineState) →
    desk_entries_from endpoints first (lines ++ line ∷ []) ≡ desk_entries_from endpoints first lines ++ entries_of (first + length lines) endpoints line.g line.taken
entries-append endpoints first [] line = append-nil (entries_of first endpoints line.g line.taken) ∙ ap (λ n. entries_of n endpoints line.g line.taken) (omega arith)
entries-append endpoints first (l ∷ lines) line =
    ap (λ (es : List Entry). entries_of first endpoints l.g l.taken ++ es) (entries-append endpoints (first + 1) lines line ∙ ap (λ n. desk_entries_from endpoints (first + 1) lines ++ entries_of n endpoints line.g line.taken) (omega arith))
    ∙ sym (append_assoc (entries_of first endpoints l.g l.taken) (desk_entries_from endpoints (first + 1) lines) (entries_of (first + length (l ∷ lines)) endpoints line.g line.taken))

pub entries-none : (endpoints : ℕ) (lines : List LineState) (entries : List Entry) → entries ≡ [] → AreEntries endpoints 0 lines entries
entries-none endpoints lines entries none = record { entries_are = none; below = subst (λ (es : List Entry). Below 0 es) (sym none) tt }

pub entries-more : (endpoints at : ℕ) (lines : List LineState) (line : LineState) (entries more : List Entry) → AreEntries endpoints at lines entries → slice_get lines at ≡ Some line →
    more ≡ entries ++ entries_of at endpoints line.g line.taken → AreEntries endpoints (at + 1) lines more
entries-more endpoints at lines line entries more are here is = record {
  entries_are = is
      ∙ (ap (λ (es : List Entry). es ++ entries_of at endpoints line.g line.taken) are.entries_are
      ∙ (ap (λ n. desk_entries_from endpoints 0 (take at lines) ++ entries_of n endpoints line.g line.taken) (omega (arith, long lines at line here))
      ∙ (sym (entries-append endpoints 0 (take at lines) line) ∙ ap (λ (ls : List LineState). desk_entries_from endpoints 0 ls) (sym (take-more lines at line here) ∙ ap (λ n. take n lines) (next at)))));
  below = subst (λ (es : List Entry). Below (at + 1) es) (sym is)
      (Below-append (at + 1) entries (entries_of at endpoints line.g line.taken) (Below-more at (at + 1) entries (omega arith) are.below)
      (Below-filter_map (at + 1) (next_entry at line.g (calls_of at endpoints line.taken)) (entry-below at line.g (calls_of at endpoints line.taken)) (range_with_len 0 endpoints)));
}

-- ---- the lines themselves: those up to here are recorded

abbrev pub recorded_to : ℕ → List LineState → List LineState
recorded_to count [] = []
recorded_to zero (line ∷ lines) = line ∷ lines
recorded_to (suc count) (line ∷ lines) = recorded_line line ∷ recorded_to count lines

pub recorded-none : (lines : List LineState) → recorded_to 0 lines ≡ lines
recorded-none [] = refl
recorded-none (line ∷ lines) = refl

pub recorded-here : (lines : List LineState) (at : ℕ) → slice_get (recorded_to at lines) at ≡ slice_get lines at
recorded-here [] at = refl
recorded-here (line ∷ lines) zero = refl
recorded-here (line ∷ lines) (suc at) = recorded-here lines at

pub recorded-more : (lines : List LineState) (at : ℕ) (line : LineState) → slice_get lines at ≡ Some line → set (recorded_to at lines) at (recorded_line line) ≡ recorded_to (suc at) lines
recorded-more [] at line is = refl
recorded-more (l ∷ lines) zero line is = ap (λ (s : LineState). recorded_line s ∷ lines) (sym (some-same l line is)) ∙ ap (λ (ls : List LineState). recorded_line l ∷ ls) (sym (recorded-none lines))
recorded-more (l ∷ lines) (suc at) line is = ap (λ (ls : List LineState). recorded_line l ∷ ls) (recorded-more lines at line is)

pub recorded-all : (lines : List LineState) (count : ℕ) → length lines ≤ count → recorded_to count lines ≡ map recorded_line lines
recorded-all [] count all = refl
recorded-all (line ∷ lines) zero all = absurd (omega arith)
recorded-all (line ∷ lines) (suc count) all = ap (λ (ls : List LineState). recorded_line line ∷ ls) (recorded-all lines count (omega arith))

pub take-all : (lines : List LineState) (count : ℕ) → length lines ≤ count → take count lines ≡ lines
take-all [] zero all = refl
take-all [] (suc count) all = refl
take-all (line ∷ lines) zero all = absurd (omega arith)
take-all (line ∷ lines) (suc count) all = ap (λ (ls : List LineState). line ∷ ls) (take-all lines count (omega arith))

pub closed-here : (lines : List LineState) (at : ℕ) (line : LineState) → All (λ (l : LineState). l.progress ≡ Closed) lines → slice_get lines at ≡ Some line → line.progress ≡ Closed
closed-here lines at line all here =
    subst (λ (l : LineState). l.progress ≡ Closed) (get_or_from_slice_get lines at line line here) (all at line (slice_get_within lines at line here))
