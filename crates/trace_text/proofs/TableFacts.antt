-- The table of what each flow asked for, where one flow asks for more.
use Rattle.std.proofs.Common.{◌≡◌, ◌≢◌, ℕ, ◌+◌, ◌*◌, ◌<◌, zero, suc, List, length, replicate, set, get_or, Bool, true, false, cond, refl, sym, ◌∙◌, arith}
use Rattle.std.specs.Prelude.{◌==◌, ◌&&◌}
use Rattle.std.proofs.lemmas.List.{get_or-set_same, get_or-set_other}
use Rattle.std.proofs.lemmas.Nat.{same_from_place, mul-add-lt}
use Rattle.std.proofs.lemmas.Bool.Decides.{nat_tests}
use Rattle.trace_text.specs.Rows.{Ask}
use Rattle.trace_text.specs.Earlier.{row_slots}

pub table-more : (totals : List ℕ) (n round src dst slots s d : ℕ) → length totals ≡ n * n → src < n → dst < n → s < n → d < n
    → get_or (set totals (src * n + dst) (get_or totals (src * n + dst) 0 + slots)) (s * n + d) 0 ≡ get_or totals (s * n + d) 0 + row_slots s d (Ask round src dst slots)
table-more totals n round src dst slots s d len low low2 low3 low4 = by (src == s) refl (dst == d) refl
  where
    at : ℕ
    at = src * n + dst

    other : ((s * n + d) ≡ at → ⊥) → get_or (set totals at (get_or totals at 0 + slots)) (s * n + d) 0 ≡ get_or totals (s * n + d) 0
    other ne = get_or-set_other totals at (s * n + d) (get_or totals at 0 + slots) 0 ne

    by : (a : Bool) → (src == s) ≡ a → (b : Bool) → (dst == d) ≡ b
        → get_or (set totals at (get_or totals at 0 + slots)) (s * n + d) 0 ≡ get_or totals (s * n + d) 0 + cond (a && b) slots 0
    by true e true f =
        let same : src ≡ s = grind (arith, nat_tests) in
        let same2 : dst ≡ d = grind (arith, nat_tests) in
        let within : at < length totals = rw len (mul-add-lt src n dst n low low2) in
        rw (← same, ← same2) (get_or-set_same totals at (get_or totals at 0 + slots) 0 within)
    by true e false f =
        let differ : dst ≢ d = grind (arith, nat_tests) in
        other (λ h. differ (sym (same_from_place s d src dst n low4 low2 h).1)) ∙ omega arith
    by false e b f =
        let differ : src ≢ s = grind (arith, nat_tests) in
        other (λ h. differ (sym (same_from_place s d src dst n low4 low2 h).0)) ∙ omega arith

-- a table of one number
pub all-same : (x n k : ℕ) → get_or (replicate n x) k x ≡ x
all-same x zero k = refl
all-same x (suc n) zero = refl
all-same x (suc n) (suc k) = all-same x n k
