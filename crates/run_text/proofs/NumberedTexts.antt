-- The lines of things one after the other, of a list or by number.
use Rattle.std.proofs.Common.{◌≡◌, ◌<◌, ◌+◌, ◌-◌, ℕ, zero, suc, List, ◌++◌, refl, sym, ap, ◌∙◌, arith}
use Rattle.std.specs.List.{flat_map, range_with_len}
use Rattle.std.proofs.lemmas.List.{append-nil}
use Rattle.std.proofs.lemmas.List.Concat.{flat_map-append}
use Rattle.list_facts.proofs.Lists.{range_both}
use Rattle.report_text.specs.declared.line.Line.{Line}
use Rattle.run_lines.specs.Text.{text_of, line_text}

numbers-plus : (lines : ℕ → List Line) (a m n : ℕ) → flat_map lines (range_with_len a (m + n)) ≡ flat_map lines (range_with_len a m) ++ flat_map lines (range_with_len (a + m) n)
numbers-plus lines a m n = ap (flat_map lines) (range_both a m n) ∙ flat_map-append lines (range_with_len a m) (range_with_len (a + m) n)

pub numbers-last : (lines : ℕ → List Line) (a n : ℕ) → flat_map lines (range_with_len a (n + 1)) ≡ flat_map lines (range_with_len a n) ++ lines (a + n)
numbers-last lines a n = numbers-plus lines a n 1 ∙ ap (λ (ls : List Line). flat_map lines (range_with_len a n) ++ ls) (append-nil (lines (a + n)))

-- one number more
pub numbers_more : (lines : ℕ → List Line) (n : ℕ) → text_of (flat_map lines (range_with_len 0 (n + 1))) ≡ text_of (flat_map lines (range_with_len 0 n)) ++ text_of (lines n)
numbers_more lines n =
    let at : 0 + n ≡ n = omega arith in
    ap text_of (numbers-last lines 0 n) ∙ (flat_map-append line_text (flat_map lines (range_with_len 0 n)) (lines (0 + n)) ∙ ap (λ (k : ℕ). text_of (flat_map lines (range_with_len 0 n)) ++ text_of (lines k)) at)

pub numbers_whole : (lines : ℕ → List Line) (count n : ℕ) → n < count → text_of (flat_map lines (range_with_len 0 count))
    ≡ (text_of (flat_map lines (range_with_len 0 n)) ++ text_of (lines n)) ++ text_of (flat_map lines (range_with_len (0 + (n + 1)) (count - (n + 1))))
numbers_whole lines count n below =
    let parts : count ≡ (n + 1) + (count - (n + 1)) = omega arith in
    let rest : List Line = flat_map lines (range_with_len (0 + (n + 1)) (count - (n + 1))) in
    ap (λ (k : ℕ). text_of (flat_map lines (range_with_len 0 k))) parts
    ∙ (ap text_of (numbers-plus lines 0 (n + 1) (count - (n + 1)))
    ∙ (flat_map-append line_text (flat_map lines (range_with_len 0 (n + 1))) rest ∙ ap (λ (t : List ℕ). t ++ text_of rest) (numbers_more lines n)))

-- the same lines under other numbers
pub numbers-same : (f h : ℕ → List Line) (a n : ℕ) → ((i : ℕ) → i < n → f i ≡ h (a + i)) → flat_map f (range_with_len 0 n) ≡ flat_map h (range_with_len a n)
numbers-same f h a zero same = refl
numbers-same f h a (suc n) same =
    let one : suc n ≡ n + 1 = omega arith in
    let at : 0 + n ≡ n = omega arith in
    ap (λ (k : ℕ). flat_map f (range_with_len 0 k)) one
    ∙ (numbers-last f 0 n
    ∙ (ap (λ (k : ℕ). flat_map f (range_with_len 0 n) ++ f k) at
    ∙ (ap (λ (ls : List Line). flat_map f (range_with_len 0 n) ++ ls) (same n (omega arith))
    ∙ (ap (λ (ls : List Line). ls ++ h (a + n)) (numbers-same f h a n (λ i below. same i (omega arith)))
    ∙ (sym (numbers-last h a n) ∙ ap (λ (k : ℕ). flat_map h (range_with_len a k)) (sym one))))))
