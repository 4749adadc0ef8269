-- A line at the front of a text.
use Rattle.std.specs.Prelude.{◌==◌}
use Rattle.std.proofs.Common.{zero, suc, ◌≡◌, ◌<◌, ◌≤◌, ◌+◌, ◌*◌, ◌%◌, ℕ, List, [], ◌∷◌, ◌++◌, length, take, get_or, decimal, refl, sym, ap, ◌∙◌, arith}
use Rattle.std.proofs.lemmas.Fmt.{decimal_digit, decimal_step}
use Rattle.std.proofs.lemmas.Nat.{div-mul-add, mod-mul-add}
use Rattle.std.proofs.lemmas.List.{append-nil, append_assoc, take_more}
use Rattle.report_text.specs.Lines.{bit, fields, number_fields}
use Rattle.report_text.proofs.NumbersRead.{numbers_first}

-- ---- number_fields, digit by digit

pub one_more : (text : List ℕ) (at value digit : ℕ) → at < length text → take at text ≡ decimal value → 1 ≤ value → value ≤ 4294967295 → digit < 10 → get_or text at 0 ≡ 48 + digit → take (at + 1) text ≡ decimal (value * 10 + digit)
one_more text at value digit within so_far some few small is =
    take_more text at 0 within
    ∙ (ap (λ (front : List ℕ). front ++ get_or text at 0 ∷ []) so_far
    ∙ (ap (λ (byte : ℕ). decimal value ++ byte ∷ []) is
    ∙ sym (decimal_step (value * 10 + digit) (omega arith) (omega arith)
    ∙ (ap (λ (n : ℕ). decimal n ++ (48 + (value * 10 + digit) % 10) ∷ []) (div-mul-add value 10 digit small)
    ∙ ap (λ (n : ℕ). decimal value ++ (48 + n) ∷ []) (mod-mul-add value 10 digit small)))))

-- ---- fields before a line feed

-- a field behind number_fields
pub field_behind : (ns field rest : List ℕ) → (number_fields ns ++ fields (field ∷ [])) ++ rest ≡ number_fields ns ++ (44 ∷ field ++ rest)
field_behind ns field rest = append_assoc (number_fields ns) (fields (field ∷ [])) rest ∙ ap (λ (bytes : List ℕ). number_fields ns ++ (44 ∷ bytes ++ rest)) (append-nil field)

pub three_numbers : (a b c : ℕ) (rest : List ℕ) → number_fields (a ∷ b ∷ c ∷ []) ++ rest ≡ 44 ∷ decimal a ++ (44 ∷ decimal b ++ (44 ∷ decimal c ++ rest))
three_numbers a b c rest =
    numbers_first a (b ∷ c ∷ []) rest
    ∙ ap (λ (bytes : List ℕ). 44 ∷ decimal a ++ bytes) (numbers_first b (c ∷ []) rest ∙ ap (λ (bytes : List ℕ). 44 ∷ decimal b ++ bytes) (numbers_first c [] rest))

pub five_numbers : (a b c d e : ℕ) (rest : List ℕ) → number_fields (a ∷ b ∷ c ∷ d ∷ e ∷ []) ++ rest ≡ 44 ∷ decimal a ++ (44 ∷ decimal b ++ (44 ∷ decimal c ++ (44 ∷ decimal d ++ (44 ∷ decimal e ++ rest))))
five_numbers a b c d e rest =
    numbers_first a (b ∷ c ∷ d ∷ e ∷ []) rest
    ∙ ap (λ (bytes : List ℕ). 44 ∷ decimal a ++ bytes) (numbers_first b (c ∷ d ∷ e ∷ []) rest
    ∙ ap (λ (bytes : List ℕ). 44 ∷ decimal b ++ bytes) (three_numbers c d e rest))

pub first_one : (text : List ℕ) (digit : ℕ) → 0 < length text → get_or text 0 0 ≡ 48 + digit → digit < 10 → take 1 text ≡ decimal digit
first_one [] digit within is small = absurd (omega arith)
first_one (byte ∷ text) digit within is small = ap (λ (b : ℕ). b ∷ []) is ∙ sym (decimal_digit digit small)

-- the number ends where its end stands
pub ends_at : (text rest : List ℕ) (at value end : ℕ) → take at text ≡ decimal value → get_or text at 0 ≡ end → text ≡ take at text ++ get_or text at 0 ∷ rest → text ≡ decimal value ++ end ∷ rest
ends_at text rest at value end front byte is =
    is ∙ (ap (λ (bytes : List ℕ). bytes ++ get_or text at 0 ∷ rest) front ∙ ap (λ (b : ℕ). decimal value ++ b ∷ rest) byte)

pub three_fields : (text t1 t2 rest : List ℕ) (a b c : ℕ) → text ≡ decimal a ++ 44 ∷ t1 → t1 ≡ decimal b ++ 44 ∷ t2 → t2 ≡ decimal c ++ 10 ∷ rest → 44 ∷ text ≡ number_fields (a ∷ b ∷ c ∷ []) ++ 10 ∷ rest
three_fields text t1 t2 rest a b c first second third =
    ap (λ (bytes : List ℕ). 44 ∷ bytes) (first ∙ ap (λ (bytes : List ℕ). decimal a ++ 44 ∷ bytes) (second ∙ ap (λ (bytes : List ℕ). decimal b ++ 44 ∷ bytes) third))
    ∙ sym (three_numbers a b c (10 ∷ rest))

pub four_fields : (text t1 t2 t3 field rest : List ℕ) (a b c : ℕ) → text ≡ decimal a ++ 44 ∷ t1 → t1 ≡ decimal b ++ 44 ∷ t2 → t2 ≡ decimal c ++ 44 ∷ t3 → t3 ≡ field ++ 10 ∷ rest
    → 44 ∷ text ≡ (number_fields (a ∷ b ∷ c ∷ []) ++ fields (field ∷ [])) ++ 10 ∷ rest
four_fields text t1 t2 t3 field rest a b c first second third fourth =
    ap (λ (bytes : List ℕ). 44 ∷ bytes)
    (first ∙ ap (λ (bytes : List ℕ). decimal a ++ 44 ∷ bytes) (second ∙ ap (λ (bytes : List ℕ). decimal b ++ 44 ∷ bytes) (third ∙ ap (λ (bytes : List ℕ). decimal c ++ 44 ∷ bytes) fourth)))
    ∙ (sym (three_numbers a b c (44 ∷ field ++ 10 ∷ rest)) ∙ sym (field_behind (a ∷ b ∷ c ∷ []) field (10 ∷ rest)))

pub five_fields : (text t1 t2 t3 t4 rest : List ℕ) (a b c d e : ℕ) → text ≡ decimal a ++ 44 ∷ t1 → t1 ≡ decimal b ++ 44 ∷ t2 → t2 ≡ decimal c ++ 44 ∷ t3 → t3 ≡ decimal d ++ 44 ∷ t4 → t4 ≡ decimal e ++ 10 ∷ rest
    → 44 ∷ text ≡ number_fields (a ∷ b ∷ c ∷ d ∷ e ∷ []) ++ 10 ∷ rest
five_fields text t1 t2 t3 t4 rest a b c d e first second third fourth fifth =
    ap (λ (bytes : List ℕ). 44 ∷ bytes)
    (first ∙ ap (λ (bytes : List ℕ). decimal a ++ 44 ∷ bytes) (second ∙ ap (λ (bytes : List ℕ). decimal b ++ 44 ∷ bytes)
    (third ∙ ap (λ (bytes : List ℕ). decimal c ++ 44 ∷ bytes) (fourth ∙ ap (λ (bytes : List ℕ). decimal d ++ 44 ∷ bytes) fifth))))
    ∙ sym (five_numbers a b c d e (10 ∷ rest))

-- ---- flags

pub flag_is : (n : ℕ) → n ≤ 1 → bit (n == 1) ≡ n
flag_is zero small = refl
flag_is (suc zero) small = refl
flag_is (suc (suc n)) small = absurd (omega arith)
