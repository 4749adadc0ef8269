-- What rows say together, where one row more stands at their end.
use Rattle.std.proofs.Common.{◌≡◌, ℕ, ◌+◌, ◌<◌, ◌≤◌, max, List, [], ◌∷◌, ◌++◌, length, Bool, true, false, Option, Some, None, IsSome, refl, ap, ◌∙◌, arith, length-append}
use Rattle.std.specs.Prelude.{◌==◌, sum_by}
use Rattle.std.specs.Option.{option_or}
use Rattle.std.proofs.lemmas.List.Sums.{sum_by_push}
use Rattle.std.proofs.lemmas.Bool.{false≢true}
use Rattle.std.proofs.lemmas.Bool.Decides.{nat_tests}
use Rattle.list_facts.proofs.Options.{option_or-none}
use Rattle.clos_topology.specs.Network.{Network}
use Rattle.trace_text.specs.Rows.{Row, Ask}
use Rattle.trace_text.specs.Earlier.{greatest_round, end_in, end_of, named_round, row_slots}
use Rattle.trace_text.specs.Standing.{IsNetOf, endpoints_kept}

pub length-more : (before : List Row) (row : Row) → length (before ++ row ∷ []) ≡ length before + 1
length-more before row = omega (arith, length-append before (row ∷ []))

-- a row after the first tells nothing of the net
pub net-more : (before : List Row) (row : Row) (net : Option Network) → IsSome net → IsNetOf before net → IsNetOf (before ++ row ∷ []) net
net-more before row None some is = absurd (false≢true some)
net-more [] row (Some net) some is = absurd (omega (arith, is.0))
net-more (first ∷ rows) row (Some net) some is = (omega (arith, length-append rows (row ∷ [])), is.1, is.2)

-- where there is an endpoint, there is a net
pub net-some : (net : Option Network) (endpoint : ℕ) → endpoint < endpoints_kept net → IsSome net
net-some None endpoint below = absurd (omega arith)
net-some (Some net) endpoint below = refl

-- where there is no net, there is no row
pub no-rows : (before : List Row) (net : Option Network) → net ≡ None → IsNetOf before net → before ≡ []
no-rows before net none is = by before (rw none at is)
  where
    by : (rows : List Row) → length rows ≡ 0 → rows ≡ []
    by [] e = refl
    by (row ∷ rows) e = absurd (omega arith)

-- there are at most 256 endpoints
pub few-endpoints : (before : List Row) (net : Option Network) → IsNetOf before net → endpoints_kept net ≤ 256
few-endpoints before None is = omega arith
few-endpoints before (Some net) is = is.2.most_endpoints

pub greatest_round-more : (before : List Row) (row : Row) → greatest_round (before ++ row ∷ []) ≡ max (greatest_round before) (named_round row)
greatest_round-more [] row = omega arith
greatest_round-more (first ∷ rows) row = let rest = greatest_round-more rows row in omega arith

option_or-assoc : (a b c : Option ℕ) → option_or a (option_or b c) ≡ option_or (option_or a b) c
option_or-assoc None b c = refl
option_or-assoc (Some n) b c = refl

pub end_of-more : (before : List Row) (row : Row) → end_of (before ++ row ∷ []) ≡ option_or (end_of before) (end_in row)
end_of-more [] row = option_or-none (end_in row)
end_of-more (first ∷ rows) row = ap (λ o. option_or (end_in first) o) (end_of-more rows row) ∙ option_or-assoc (end_in first) (end_of rows) (end_in row)

-- no flow asks for too much where this one does not
pub slots_of-bounded : (before : List Row) (round src dst slots s d : ℕ) → ((s d : ℕ) → sum_by (row_slots s d) before ≤ 100000000)
    → sum_by (row_slots src dst) before + slots ≤ 100000000 → sum_by (row_slots s d) (before ++ Ask round src dst slots ∷ []) ≤ 100000000
slots_of-bounded before round src dst slots s d each this = by (src == s) refl (dst == d) refl
  where
    by : (a : Bool) → (src == s) ≡ a → (b : Bool) → (dst == d) ≡ b → sum_by (row_slots s d) (before ++ Ask round src dst slots ∷ []) ≤ 100000000
    by true e true f =
        let same : src ≡ s = grind (arith, nat_tests) in
        let same2 : dst ≡ d = grind (arith, nat_tests) in
        rw (sum_by_push (row_slots s d) before (Ask round src dst slots), e, f) (rw (same, same2) at this)
    by true e false f = rw (sum_by_push (row_slots s d) before (Ask round src dst slots), e, f) (omega (arith, each s d))
    by false e b f = rw (sum_by_push (row_slots s d) before (Ask round src dst slots), e) (omega (arith, each s d))
