-- Numbers read one after the other.
use Rattle.std.proofs.Common.{◌≡◌, ◌<◌, ◌+◌, ℕ, List, [], ◌∷◌, ◌++◌, length, get_or, drop, decimal, refl, sym, ap, ◌∙◌}
use Rattle.std.proofs.lemmas.List.{append_assoc, drop_more}
use Rattle.report_text.specs.Lines.{number_fields}
use Rattle.report_text.proofs.Pieces.{numbers-append}

-- number_fields are nothing, or begin with a comma
pub numbers_begin : (ns rest : List ℕ) → get_or rest 0 44 ≡ 44 → get_or (number_fields ns ++ rest) 0 44 ≡ 44
numbers_begin [] rest next = next
numbers_begin (n ∷ ns) rest next = refl

pub numbers_first : (n : ℕ) (ns rest : List ℕ) → number_fields (n ∷ ns) ++ rest ≡ 44 ∷ decimal n ++ (number_fields ns ++ rest)
numbers_first n ns rest = append_assoc (44 ∷ decimal n) (number_fields ns) rest

-- one number more
pub numbers_then : (ns rest : List ℕ) (n : ℕ) → number_fields ns ++ (44 ∷ decimal n ++ rest) ≡ number_fields (ns ++ n ∷ []) ++ rest
numbers_then ns rest n =
    ap (λ (bs : List ℕ). number_fields ns ++ bs) (sym (numbers_first n [] rest))
    ∙ (sym (append_assoc (number_fields ns) (number_fields (n ∷ [])) rest) ∙ ap (λ (bs : List ℕ). bs ++ rest) (sym (numbers-append ns (n ∷ []))))

-- where number_fields are left, the next one stands first
pub numbers_next : (i : ℕ) (text ns rest : List ℕ) → i < length ns → text ≡ number_fields (drop i ns) ++ rest → text ≡ 44 ∷ decimal (get_or ns i 0) ++ (number_fields (drop (i + 1) ns) ++ rest)
numbers_next i text ns rest below is = is ∙ (ap (λ (left : List ℕ). number_fields left ++ rest) (drop_more ns i 0 below) ∙ numbers_first (get_or ns i 0) (drop (i + 1) ns) rest)
