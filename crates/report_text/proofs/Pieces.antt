-- A line spelled piece by piece.
use Rattle.std.proofs.Common.{◌≡◌, ◌<◌, ◌≤◌, ◌+◌, ◌-◌, ℕ, List, [], ◌∷◌, ◌++◌, length, get_or, take, drop, map, decimal, refl, sym, ap, ◌∙◌, arith}
use Rattle.std.proofs.Math.Seq.{take-append-add}
use Rattle.std.proofs.lemmas.Fmt.{length-decimal-le}
use Rattle.std.proofs.lemmas.List.{drop-drop, append_assoc, length-append, length-take-le, take-take, take_more, map-append}
use Rattle.report_text.specs.Lines.{fields, number_fields}

-- what was left alone from some place on was left alone from any later one on
pub later_rest : (a b : ℕ) (xs ys : List ℕ) → a ≤ b → drop a xs ≡ drop a ys → drop b xs ≡ drop b ys
later_rest a b xs ys le same =
    let on : b ≡ a + (b - a) = omega arith in
    ap (λ (n : ℕ). drop n xs) on
    ∙ (sym (drop-drop (b - a) a xs) ∙ (ap (drop (b - a)) same ∙ (drop-drop (b - a) a ys ∙ ap (λ (n : ℕ). drop n ys) (sym on))))

fields-append : (xs ys : List (List ℕ)) → fields (xs ++ ys) ≡ fields xs ++ fields ys
fields-append [] ys = refl
fields-append (x ∷ xs) ys = ap (λ (rest : List ℕ). 44 ∷ x ++ rest) (fields-append xs ys) ∙ sym (append_assoc (44 ∷ x) (fields xs) (fields ys))

pub numbers-append : (xs ys : List ℕ) → number_fields (xs ++ ys) ≡ number_fields xs ++ number_fields ys
numbers-append xs ys = ap fields (map-append decimal xs ys) ∙ fields-append (map decimal xs) (map decimal ys)

-- one number more after a name
pub numbers_more : (name values : List ℕ) (i d : ℕ) → i < length values → name ++ number_fields (take (i + 1) values) ≡ (name ++ number_fields (take i values)) ++ number_fields (get_or values i d ∷ [])
numbers_more name values i d below =
    ap (λ (ns : List ℕ). name ++ number_fields ns) (take_more values i d below)
    ∙ (ap (λ (bs : List ℕ). name ++ bs) (numbers-append (take i values) (get_or values i d ∷ []))
    ∙ sym (append_assoc name (number_fields (take i values)) (number_fields (get_or values i d ∷ []))))

-- a buffer that begins with a text up to a place, and is as it was from there on
pub record IsSpelled (text : List ℕ) (at : ℕ) (buf old : List ℕ) : Type 0 where
  pub end : at ≡ length text
  pub written : take at buf ≡ text
  pub rest : drop at buf ≡ drop at old

-- one number more
pub spelled_more : (front values : List ℕ) (i d n at next : ℕ) (buf new old : List ℕ) → i < length values → n ≡ get_or values i d → IsSpelled (front ++ number_fields (take i values)) at buf old
    → next ≡ at + length (number_fields (n ∷ [])) → take next new ≡ take at buf ++ number_fields (n ∷ []) → drop next new ≡ drop next buf → IsSpelled (front ++ number_fields (take (i + 1) values)) next new old
spelled_more front values i d n at next buf new old below is so_far end written rest =
    let more = numbers_more front values i d below ∙ ap (λ (m : ℕ). (front ++ number_fields (take i values)) ++ number_fields (m ∷ [])) (sym is) in
    record {
      end = end ∙ omega (arith, so_far.end, ap length more, length-append (front ++ number_fields (take i values)) (number_fields (n ∷ [])));
      written = written ∙ (ap (λ (bs : List ℕ). bs ++ number_fields (n ∷ [])) so_far.written ∙ sym more);
      rest = rest ∙ later_rest at next buf old (omega (arith, end)) so_far.rest;
    }

-- a front of what was put at a place
pub front_of : (at count whole : ℕ) (old bytes new : List ℕ) → at ≤ length old → count ≤ length bytes → whole ≡ at + length bytes → take whole new ≡ take at old ++ bytes
    → take (at + count) new ≡ take at old ++ take count bytes
front_of at count whole old bytes new fits most is written =
    let within : at + count ≤ whole = omega (arith, is) in
    sym (take-take (at + count) whole new within)
    ∙ (ap (take (at + count)) written
    ∙ (ap (λ (n : ℕ). take (n + count) (take at old ++ bytes)) (sym (length-take-le at old fits))
    ∙ take-append-add (take at old) bytes count))

-- ---- how long a number is

pub decimal_of_3_digits : (n : ℕ) → n < 1000 → length (decimal n) ≤ 3
decimal_of_3_digits n small = length-decimal-le 3 n (omega arith) (omega arith) (omega arith)

pub decimal_of_32_bits : (n : ℕ) → n < 4294967296 → length (decimal n) ≤ 10
decimal_of_32_bits n small = length-decimal-le 10 n (omega arith) (omega arith) (omega arith)
