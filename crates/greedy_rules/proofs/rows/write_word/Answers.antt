use Rattle.std.proofs.Common.{◌≡◌, ◌≢◌, ◌<◌, ◌+◌, ◌*◌, ◌==◌, ℕ, List, Option, true, not, length, w64, Fits, sym, ap, refl, ◌∙◌, arith, rules}
use Rattle.std.specs.Int.{bit_at, trailing_zeros}
use Rattle.std.proofs.lemmas.Bool.{and_parts}
use Rattle.std.proofs.lemmas.Nat.Bits.{bit_at-trailing_zeros}
use Rattle.list_facts.proofs.Bits.{bit-without_lowest}
use Rattle.greedy_rules.proofs.NamedCells.{lowest_written}
use Rattle.greedy_rules.proofs.rows.write_word.Goals as goal

-- the place of the lowest bit that is left is in both rows
inside : (word rest : ℕ) (into row : List (Option ℕ)) → Fits w64 rest → rest ≢ 0 → ((bit : ℕ) → (bit_at rest bit == 1) ≡ true → (word * 64 + bit < length into) × (word * 64 + bit < length row))
    → (word * 64 + trailing_zeros w64 rest < length into) × (word * 64 + trailing_zeros w64 rest < length row)
inside word rest into row fits some within = within (trailing_zeros w64 rest) (ap (λ (n : ℕ). n == 1) (bit_at-trailing_zeros w64 rest (omega (arith, some)) (search rules)).1)

pub overflow_mul-place : goal.overflow_mul-place
overflow_mul-place c =
    let at = inside c.args.word c.loop-rest.rest c.args.into.now c.args.row.now c.loop-rest.auto.rest-fits c.loop-rest-test.true c.loop-rest.invariant.within in
    omega (arith, at.0, c.requires.few)

pub overflow_add-place : goal.overflow_add-place
overflow_add-place c =
    let at = inside c.args.word c.loop-rest.rest c.args.into.now c.args.row.now c.loop-rest.auto.rest-fits c.loop-rest-test.true c.loop-rest.invariant.within in
    omega (arith, at.0, c.requires.few)

pub bounds-row-place : goal.bounds-row-place
bounds-row-place c = (inside c.args.word c.loop-rest.rest c.args.into.now c.args.row.now c.loop-rest.auto.rest-fits c.loop-rest-test.true c.loop-rest.invariant.within).1

pub bounds-into-place : goal.bounds-into-place
bounds-into-place c =
    let at = inside c.args.word c.loop-rest.rest c.args.into.now c.args.row.now c.loop-rest.auto.rest-fits c.loop-rest-test.true c.loop-rest.invariant.within in
    omega (arith, at.0, c.loop-rest.auto.into)

pub loop-rest-preserved : goal.loop-rest-preserved
loop-rest-preserved c =
    let was = c.loop-rest in
    let word = c.args.word in
    let row = c.args.row.now in
    let rest = was.rest in
    let at = inside word rest c.args.into.now row was.auto.rest-fits c.loop-rest-test.true was.invariant.within in
    let lowest = bit_at-trailing_zeros w64 rest (omega (arith, c.loop-rest-test.true)) (search rules) in
    record {
      within = λ bit is. was.invariant.within bit ((and_parts (bit_at rest bit == 1) (not (bit == trailing_zeros w64 rest)) (sym (bit-without_lowest rest (trailing_zeros w64 rest) bit lowest.1 lowest.2) ∙ is)).0);
      written = λ place. lowest_written word rest (trailing_zeros w64 rest) row was.into _ lowest.1 lowest.2 lowest.0 (omega (arith, at.0, was.auto.into)) refl place ∙ was.invariant.written place;
    }

pub offset_bounds-row-place : goal.offset_bounds-row-place
offset_bounds-row-place c =
    let at = inside c.args.word c.loop-rest.rest c.args.into.now c.args.row.now c.loop-rest.auto.rest-fits c.loop-rest-test.true c.loop-rest.invariant.within in
    omega (arith, at.0, c.requires.few)

pub offset_bounds-into-place : goal.offset_bounds-into-place
offset_bounds-into-place c =
    let at = inside c.args.word c.loop-rest.rest c.args.into.now c.args.row.now c.loop-rest.auto.rest-fits c.loop-rest-test.true c.loop-rest.invariant.within in
    omega (arith, at.0, c.requires.few)
