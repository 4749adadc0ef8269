-- The heads of asks: what they say, and how they are compared a word at a time.
use Rattle.std.proofs.Common.{◌≡◌, ℕ, zero, suc, ◌+◌, ◌-◌, ◌<◌, ◌≤◌, List, [], ◌∷◌, ◌++◌, length, get_or, take, drop, true, refl, sym, ap, ◌∙◌, arith, length-append}
use Rattle.std.specs.Int.{w32, from_le_bytes}
use Rattle.std.proofs.lemmas.Nat.{le_bytes_4}
use Rattle.std.proofs.lemmas.List.{append_assoc, take_all, take_at, take-append-drop, take_more_same, take-take}
use Rattle.trace_text.specs.Fields.{is_number, number_of}
use Rattle.trace_text.specs.Lines.{IsAskHead, IsNumberBefore, head_digits}

-- a text of which each element is a byte
abbrev pub AreBytes : List ℕ → Type 0
AreBytes xs = (i : ℕ) → get_or xs i 0 < 256

four-bytes : (a b c d : ℕ) → a < 256 → b < 256 → c < 256 → d < 256 → AreBytes (a ∷ b ∷ c ∷ d ∷ [])
four-bytes a b c d p q r s zero = p
four-bytes a b c d p q r s (suc zero) = q
four-bytes a b c d p q r s (suc (suc zero)) = r
four-bytes a b c d p q r s (suc (suc (suc zero))) = s
four-bytes a b c d p q r s (suc (suc (suc (suc i)))) = omega arith

-- the bytes of a word, lowest first
abbrev pub word_of : List ℕ → ℕ → ℕ
word_of xs at = from_le_bytes w32 (get_or xs at 0 ∷ get_or xs (at + 1) 0 ∷ get_or xs (at + 2) 0 ∷ get_or xs (at + 3) 0 ∷ [])

abbrev four_at : List ℕ → ℕ → List ℕ
four_at xs at = get_or xs at 0 ∷ get_or xs (at + 1) 0 ∷ get_or xs (at + 2) 0 ∷ get_or xs (at + 3) 0 ∷ []

same-bytes : (xs ys : List ℕ) (at : ℕ) → AreBytes xs → AreBytes ys → word_of xs at ≡ word_of ys at → four_at xs at ≡ four_at ys at
same-bytes xs ys at bytes others same =
    sym (le_bytes_4 (four_at xs at) (word_of xs at) refl (four-bytes _ _ _ _ (bytes at) (bytes (at + 1)) (bytes (at + 2)) (bytes (at + 3))) refl)
    ∙ le_bytes_4 (four_at ys at) (word_of xs at) refl (four-bytes _ _ _ _ (others at) (others (at + 1)) (others (at + 2)) (others (at + 3))) same

-- one byte more, at a place that is said in two ways
one-more : (xs ys : List ℕ) (i j : ℕ) → i + 1 ≡ j → j ≤ length xs → j ≤ length ys → take i xs ≡ take i ys → get_or xs i 0 ≡ get_or ys i 0 → take j xs ≡ take j ys
one-more xs ys i j next few less before here = rw (← next) (take_more_same xs ys i 0 (omega arith) (omega arith) before here)

-- two texts that are the same up to a place are so four bytes on, where they have the same word there
pub word-more : (xs ys : List ℕ) (at : ℕ) → AreBytes xs → AreBytes ys → at + 4 ≤ length xs → at + 4 ≤ length ys → word_of xs at ≡ word_of ys at → take at xs ≡ take at ys → take (at + 4) xs ≡ take (at + 4) ys
word-more xs ys at bytes others few less same before =
    let four = same-bytes xs ys at bytes others same in
    let one = one-more xs ys at (at + 1) refl (omega arith) (omega arith) before (ap (λ (l : List ℕ). get_or l 0 0) four) in
    let two = one-more xs ys (at + 1) (at + 2) (omega arith) (omega arith) (omega arith) one (ap (λ (l : List ℕ). get_or l 1 0) four) in
    let three = one-more xs ys (at + 2) (at + 3) (omega arith) (omega arith) (omega arith) two (ap (λ (l : List ℕ). get_or l 2 0) four) in
    one-more xs ys (at + 3) (at + 4) (omega arith) few less three (ap (λ (l : List ℕ). get_or l 3 0) four)

-- the same up to a lower place
pub same-before : (xs ys : List ℕ) (low high : ℕ) → low ≤ high → take high xs ≡ take high ys → take low xs ≡ take low ys
same-before xs ys low high le same = sym (take-take low high xs le) ∙ ap (take low) same ∙ take-take low high ys le

-- a text that begins as a head does, up to the head's end
pub begins-all : (head text : List ℕ) (size : ℕ) → size ≡ length head → take size head ≡ take size text → text ≡ head ++ drop (length head) text
begins-all head text size is same =
    let all : head ≡ take (length head) text = sym (take_all (length head) head (omega arith)) ∙ rw is at same in
    sym (take-append-drop (length head) text) ∙ ap (λ (l : List ℕ). l ++ drop (length head) text) (sym all)

-- what a head says, and that it is the front of its text
pub head-says : (digits : List ℕ) (round : ℕ) → is_number digits ≡ true → round ≡ number_of digits → IsAskHead (97 ∷ 115 ∷ 107 ∷ 44 ∷ (digits ++ 44 ∷ [])) round
head-says digits round number value =
    let head = 97 ∷ 115 ∷ 107 ∷ 44 ∷ (digits ++ 44 ∷ []) in
    let size : length head - 5 ≡ length digits = omega (arith, length-append digits (44 ∷ [])) in
    let own : head_digits head ≡ digits = ap (λ k. take k (digits ++ 44 ∷ [])) size ∙ take_at digits (44 ∷ []) (length digits) refl in
    (ap (λ (l : List ℕ). 97 ∷ 115 ∷ 107 ∷ 44 ∷ (l ++ 44 ∷ [])) (sym own), ap is_number own ∙ number, value ∙ ap number_of (sym own))

pub front-says : (text numbers rest : List ℕ) (round size : ℕ) → text ≡ 97 ∷ 115 ∷ 107 ∷ 44 ∷ numbers → IsNumberBefore numbers 44 round rest → size ≡ length text - length rest
    → IsAskHead (take size text) round × (text ≡ take size text ++ rest)
front-says text numbers rest round size named (digits, is, number, value) sized =
    let head = 97 ∷ 115 ∷ 107 ∷ 44 ∷ (digits ++ 44 ∷ []) in
    let all : text ≡ head ++ rest = named ∙ ap (λ (l : List ℕ). 97 ∷ 115 ∷ 107 ∷ 44 ∷ l) (is ∙ sym (append_assoc digits (44 ∷ []) rest)) in
    let long : length head ≡ size = omega (arith, sized, ap length all, length-append head rest) in
    let front : take size text ≡ head = ap (take size) all ∙ take_at head rest size long in
    (rw front (head-says digits round number value), all ∙ ap (λ (l : List ℕ). l ++ rest) (sym front))
