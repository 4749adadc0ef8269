-- The lines of a number, for each below another.
use Rattle.std.proofs.Common.{◌≡◌, ◌<◌, ◌+◌, ℕ, List, ◌++◌, length, get_or, take, drop, ap, ◌∙◌, arith}
use Rattle.std.proofs.Math.Seq.{take-length}
use Rattle.std.specs.List.{flat_map, range_with_len}
use Rattle.std.proofs.lemmas.List.FromFn.{length-range_with_len, get_or-range_with_len}
use Rattle.report_text.specs.declared.line.Line.{Line}
use Rattle.text_output.specs.Text.{text_of}
use Rattle.text_output.proofs.ItemTexts.{items_whole}

number_at : (n at : ℕ) → at < n → get_or (range_with_len 0 n) at 0 ≡ at
number_at n at below = omega (arith, get_or-range_with_len 0 n at 0 below)

pub numbers_whole : (lines : ℕ → List Line) (n at : ℕ) → at < n
    → text_of (flat_map lines (range_with_len 0 n)) ≡ (text_of (flat_map lines (take at (range_with_len 0 n))) ++ text_of (lines at)) ++ text_of (flat_map lines (drop (at + 1) (range_with_len 0 n)))
numbers_whole lines n at below =
    items_whole lines (range_with_len 0 n) at 0 (omega (arith, length-range_with_len 0 n))
    ∙ ap (λ (m : ℕ). (text_of (flat_map lines (take at (range_with_len 0 n))) ++ text_of (lines m)) ++ text_of (flat_map lines (drop (at + 1) (range_with_len 0 n)))) (number_at n at below)

pub numbers_all : (lines : ℕ → List Line) (n at : ℕ) → at ≡ n → text_of (flat_map lines (take at (range_with_len 0 n))) ≡ text_of (flat_map lines (range_with_len 0 n))
numbers_all lines n at is =
    let long : at ≡ length (range_with_len 0 n) = omega (arith, length-range_with_len 0 n) in
    ap (λ (xs : List ℕ). text_of (flat_map lines xs)) (ap (λ (m : ℕ). take m (range_with_len 0 n)) long ∙ take-length (range_with_len 0 n))
