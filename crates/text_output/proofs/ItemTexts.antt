-- The lines of the items of a list, one after the other.
use Rattle.std.proofs.Common.{◌≡◌, ◌<◌, ◌+◌, ℕ, List, [], ◌∷◌, ◌++◌, length, get_or, take, drop, sym, ap, ◌∙◌}
use Rattle.std.specs.List.{flat_map}
use Rattle.std.proofs.lemmas.List.{append-nil, take_more, take-append-drop}
use Rattle.std.proofs.lemmas.List.Concat.{flat_map-append}
use Rattle.report_text.specs.declared.line.Line.{Line}
use Rattle.text_output.specs.Text.{line_text, text_of}
use Rattle.std.proofs.Common.{arith}
use Rattle.std.proofs.lemmas.List.FromFn.{length-range_with_len, get_or-range_with_len}
use Rattle.std.specs.List.{range_with_len}

-- one item of a list more
pub items_more : {X : Type 0} (lines : X → List Line) (xs : List X) (i : ℕ) (d : X) → i < length xs
    → text_of (flat_map lines (take (i + 1) xs)) ≡ text_of (flat_map lines (take i xs)) ++ text_of (lines (get_or xs i d))
items_more lines xs i d below =
    ap (λ ys. text_of (flat_map lines ys)) (take_more xs i d below)
    ∙ (ap text_of (flat_map-append lines (take i xs) (get_or xs i d ∷ []))
    ∙ (flat_map-append line_text (flat_map lines (take i xs)) (lines (get_or xs i d) ++ [])
    ∙ ap (λ (ls : List Line). text_of (flat_map lines (take i xs)) ++ text_of ls) (append-nil (lines (get_or xs i d)))))

pub items_whole : {X : Type 0} (lines : X → List Line) (xs : List X) (i : ℕ) (d : X) → i < length xs
    → text_of (flat_map lines xs) ≡ (text_of (flat_map lines (take i xs)) ++ text_of (lines (get_or xs i d))) ++ text_of (flat_map lines (drop (i + 1) xs))
items_whole lines xs i d below =
    ap (λ ys. text_of (flat_map lines ys)) (sym (take-append-drop (i + 1) xs))
    ∙ (ap text_of (flat_map-append lines (take (i + 1) xs) (drop (i + 1) xs))
    ∙ (flat_map-append line_text (flat_map lines (take (i + 1) xs)) (flat_map lines (drop (i + 1) xs))
    ∙ ap (λ (t : List ℕ). t ++ text_of (flat_map lines (drop (i + 1) xs))) (items_more lines xs i d below)))

pub numbers_more : (lines : ℕ → List Line) (n at : ℕ) → at < n
    → text_of (flat_map lines (take (at + 1) (range_with_len 0 n))) ≡ text_of (flat_map lines (take at (range_with_len 0 n))) ++ text_of (lines at)
numbers_more lines n at below =
    items_more lines (range_with_len 0 n) at 0 (omega (arith, length-range_with_len 0 n))
    ∙ ap (λ (m : ℕ). text_of (flat_map lines (take at (range_with_len 0 n))) ++ text_of (lines m)) (omega (arith, get_or-range_with_len 0 n at 0 below))
