-- Where a field ends, and which fields are plain numbers.
use Rattle.std.proofs.Common.{◌≡◌, ◌≢◌, zero, suc, ◌<◌, ◌≤◌, ◌^◌, ◌-◌, ℕ, List, [], ◌∷◌, ◌++◌, length, take, drop, get_or, decimal, codes, append-nil, Option, Some, None, IfSome, Result, Ok, Err, refl, sym, ap, ◌∙◌, arith, inl, inr, subst, length-append}
use Rattle.report_text.specs.Lines.{fields, core_field}
use Rattle.std.proofs.Math.Seq.{take-append_seam, drop-append_seam}
use Rattle.std.specs.Result.{result_ok}
use Rattle.std.specs.Int.{IsInRange}
use Rattle.std.specs.Str.{IsUtf8}
use Rattle.std.specs.Str.Parse.{AllDigits, ParsesUnsigned}
use Rattle.std.proofs.lemmas.Str.{IsUtf8-from_ascii}
use Rattle.std.proofs.lemmas.Str.Parse.{parse_plain, numerals_by_value, tells_digits, tells_by_index}
use Rattle.std.proofs.lemmas.Fmt.{decimal-digits_value, decimal_nonempty, digits_decimal, first_decimal, decimal_digit, parse-decimal, IsAscii-decimal}
use Rattle.std.proofs.lemmas.Bool.{cases_lt}
use Rattle.std.proofs.lemmas.Grind.{get_or_default_zero}
use Rattle.std.proofs.lemmas.List.{get_or_append_left, get_or-append_right}

pub decimal_digits : (n : ℕ) → n < 2 ^ 64 → (i : ℕ) → i < length (decimal n) → IsInRange 48 57 (get_or (decimal n) i 0)
decimal_digits n small = digits_decimal (numerals_by_value _ tells_by_index) n (omega arith)

-- a number begins with no sign, and with a zero only where it is 0
pub decimal_no_plus : (n : ℕ) → n < 2 ^ 64 → get_or (decimal n) 0 0 ≢ 43
decimal_no_plus n small plus = omega (arith, plus, (decimal_digits n small 0 (decimal_nonempty n (omega arith))).0)

pub decimal_zero : (n : ℕ) → n < 2 ^ 64 → get_or (decimal n) 0 0 ≡ 48 → length (decimal n) ≡ 1
decimal_zero zero small first = ap length (decimal_digit 0 (omega arith))
decimal_zero (suc n) small first = absurd (omega (arith, first, first_decimal (suc n) (omega arith) (omega arith)))

pub decimal_no_comma : (n : ℕ) → n < 2 ^ 64 → (i : ℕ) → i < length (decimal n) → get_or (decimal n) i 0 ≢ 44
decimal_no_comma n small i below comma = omega (arith, comma, (decimal_digits n small i below).0)

pub decimal_utf8 : (n : ℕ) → n < 2 ^ 64 → IsUtf8 (decimal n)
decimal_utf8 n small = IsUtf8-from_ascii (decimal n) (IsAscii-decimal n (omega arith))

-- what `parse` reads without a sign and a leading zero is the decimal text of its number
pub parsed_is_decimal : {E : Type 0} (field : List ℕ) (r : Result ℕ E) → get_or field 0 0 ≢ 43 → (get_or field 0 0 ≡ 48 → length field ≡ 1) → ParsesUnsigned 64 10 field r → IfSome (result_ok r) (λ n. field ≡ decimal n)
parsed_is_decimal field (Err e) no_plus lead read = tt
parsed_is_decimal {E} field (Ok n) no_plus lead read =
    let r : Result ℕ E = Ok n in
    let own = numerals_by_value (AllDigits 10) tells_digits in
    let is = parse_plain own 64 field r read no_plus in
    sym (ap decimal is.1 ∙ decimal-digits_value own field is.0.0 is.0.1 lead (omega (arith, is.0.2)))

pub decimal_is_parsed : {E : Type 0} (field : List ℕ) (r : Result ℕ E) (n : ℕ) → n < 2 ^ 64 → field ≡ decimal n → ParsesUnsigned 64 10 field r → result_ok r ≡ Some n
decimal_is_parsed field r n small is read = ap result_ok (parse-decimal 64 n field r small (omega arith) is read)

-- a field without a comma ends where the first comma stands, or else at the end
pub field_ends : (field rest : List ℕ) (n : ℕ) → ((i : ℕ) → i < length field → get_or field i 0 ≢ 44) → get_or rest 0 44 ≡ 44 → n ≤ length (field ++ rest) → ((i : ℕ) → i < n → get_or (field ++ rest) i 0 ≢ 44) → (n < length (field ++ rest) → get_or (field ++ rest) n 0 ≡ 44) → n ≡ length field
field_ends field rest n none next within before comma =
    let whole = length-append field rest in
    let none_left : length field - length field ≡ 0 = omega arith in
    let at_end = get_or-append_right field rest (length field) (length field) 0 refl (omega arith) ∙ ap (λ (k : ℕ). get_or rest k 0) none_left in
    elim (cases_lt n (length field)) [
      | inl below ↦ absurd (none n below (sym (get_or_append_left field rest 0 n below) ∙ comma (omega (arith, whole))))
      | inr above ↦ elim (cases_lt (length field) n) [
        | inl past ↦ absurd (before (length field) past (at_end ∙ sym (get_or_default_zero rest 0 44 (omega (arith, whole))) ∙ next))
        | inr not_past ↦ omega arith
      ]
    ]

-- so a cut there gives the field and the rest
pub cut_field : (text field rest : List ℕ) (n : ℕ) → text ≡ field ++ rest → ((i : ℕ) → i < length field → get_or field i 0 ≢ 44) → get_or rest 0 44 ≡ 44 → n ≤ length text → ((i : ℕ) → i < n → get_or text i 0 ≢ 44) → (n < length text → get_or text n 0 ≡ 44) → (take n text ≡ field) × (drop n text ≡ rest)
cut_field text field rest n is none next within before comma =
    let ends = field_ends field rest n none next (subst (λ t. n ≤ length t) is within) (subst (λ t. (i : ℕ) → i < n → get_or t i 0 ≢ 44) is before) (subst (λ t. n < length t → get_or t n 0 ≡ 44) is comma) in
    (ap (take n) is ∙ (ap (λ (k : ℕ). take k (field ++ rest)) ends ∙ take-append_seam field rest), ap (drop n) is ∙ (ap (λ (k : ℕ). drop k (field ++ rest)) ends ∙ drop-append_seam field rest))

-- only the field of no core is a hyphen
pub no_core : (core : Option ℕ) → IfSome core (λ c. c ≤ 65535) → fields (core_field core ∷ []) ≡ codes ",-" → None ≡ core
no_core None small is = refl
no_core (Some n) small is =
    let hyphen : decimal n ≡ codes "-" = sym (append-nil (decimal n)) ∙ ap (drop 1) is in
    absurd (omega (arith, ap (λ (bs : List ℕ). get_or bs 0 0) hyphen, (decimal_digits n (omega arith) 0 (decimal_nonempty n (omega arith))).0))
