-- The first fields of a record tell what a row is.
use Rattle.std.proofs.Common.{◌≡◌, ℕ, ◌<◌, ◌≤◌, List, [], ◌∷◌, ◌++◌, length, false, cond, Option, Some, None, Result, Ok, Err, refl, sym, ap, ◌∙◌, inl, inr, arith, length-take, length-append}
use Rattle.std.specs.Prelude.{◌&&◌, not, codes}
use Rattle.std.specs.Str.{bytes_eq}
use Rattle.std.proofs.lemmas.Bool.{cases_lt}
use Rattle.std.proofs.lemmas.Bool.Decides.{nat_tests}
use Rattle.std.proofs.lemmas.List.{take_all, take-append-le, take-take}
use Rattle.trace_text.specs.Fields.{Field, Record, cut, field}
use Rattle.trace_text.specs.Rows.{Row, kind_of, may_have}
use Rattle.trace_text.specs.Faults.{is_first, read_row, read_kind, read_named}
use Rattle.trace_text.specs.Standing.{TakesRow}
use Rattle.trace_text.specs.declared.command.Command.{Command}
use Rattle.trace_text.specs.declared.kind.Kind.{Kind}
use Rattle.trace_text.specs.declared.kind.Kind.TheVariants as kind
use Rattle.trace_text.specs.declared.fault.Fault.{Fault}
use Rattle.trace_text.specs.declared.fault.Fault.TheVariants as fault
use Rattle.trace_text.specs.declared.fault.TraceRefused.{TraceRefused}
use Rattle.trace_text.specs.declared.fault.TraceRefused.TheVariants as refused
use Rattle.trace_text.specs.declared.rows.Rows.{Rows}

-- one field more
pub cut-push : (kept whole : Record) (f : Field) → kept ≡ cut whole → length kept < 6 → kept ++ f ∷ [] ≡ cut (whole ++ f ∷ [])
cut-push kept whole f is few =
    let many = ap length is in
    let short : length whole < 6 = omega (arith, many, few, length-take 6 whole) in
    let all : cut whole ≡ whole = take_all 6 whole (omega (arith, short)) in
    let more : cut (whole ++ f ∷ []) ≡ whole ++ f ∷ [] = take_all 6 (whole ++ f ∷ []) (omega (arith, short, length-append whole (f ∷ []))) in
    ap (λ (fs : Record). fs ++ f ∷ []) (is ∙ all) ∙ sym more

pub cut-full : (kept whole : Record) (f : Field) → kept ≡ cut whole → 6 ≤ length kept → kept ≡ cut (whole ++ f ∷ [])
cut-full kept whole f is full =
    let many = ap length is in
    let long : 6 ≤ length whole = omega (arith, many, full, length-take 6 whole) in
    is ∙ sym (take-append-le 6 whole (f ∷ []) long)

cut-first : (whole : Record) → field (cut whole) 0 ≡ field whole 0
cut-first [] = refl
cut-first (f ∷ whole) = refl

-- no row has six fields
pub too_many : (k : Kind) (n : ℕ) → 6 ≤ n → may_have k n ≡ false
too_many kind.Net n long = grind (arith, nat_tests)
too_many kind.Ask n long = grind (arith, nat_tests)
too_many kind.Lose n long = grind (arith, nat_tests)
too_many kind.Twice n long = grind (arith, nat_tests)
too_many kind.Hold n long = grind (arith, nat_tests)
too_many kind.Boot n long = grind (arith, nat_tests)
too_many kind.Raw n long = grind (arith, nat_tests)
too_many kind.Put n long = grind (arith, nat_tests)
too_many kind.End n long = grind (arith, nat_tests)

-- a row of six fields is as little one as a row of more
cut-may_have : (k : Kind) (whole : Record) → 6 ≤ length whole → (may_have k (length (cut whole)) ≡ false) × (may_have k (length whole) ≡ false)
cut-may_have k whole long =
    let six : length (cut whole) ≡ 6 = omega (arith, length-take 6 whole) in
    (ap (may_have k) six ∙ too_many k 6 (omega arith), too_many k (length whole) long)

cut-kind : (command : Command) (before : List Row) (whole : Record) (k : Kind) → 6 ≤ length whole → read_kind command before (cut whole) k ≡ read_kind command before whole k
unfolding read_kind
cut-kind command before whole k long = let none = cut-may_have k whole long in rw (none.0, none.1) refl

cut-named : (command : Command) (before : List Row) (whole : Record) (k : Option Kind) → 6 ≤ length whole → read_named command before (cut whole) k ≡ read_named command before whole k
cut-named command before whole None long = refl
cut-named command before whole (Some k) long = cut-kind command before whole k long

cut-long : (command : Command) (before : List Row) (whole : Record) → 6 ≤ length whole → read_row command before (cut whole) ≡ read_row command before whole
unfolding read_row
cut-long command before whole long =
    ap (λ (name : Field). cond (is_first before && not (bytes_eq name (codes "net"))) (Err fault.NoNet) (read_named command before (cut whole) (kind_of name))) (cut-first whole)
    ∙ ap (λ (r : Result Row Fault). cond (is_first before && not (bytes_eq (field whole 0) (codes "net"))) (Err fault.NoNet) r) (cut-named command before whole (kind_of (field whole 0)) long)

-- the first fields tell what the row is
cut-row : (command : Command) (before : List Row) (whole : Record) → read_row command before (cut whole) ≡ read_row command before whole
cut-row command before whole = elim (cases_lt (length whole) 6) [
  | inl short ↦ ap (read_row command before) (take_all 6 whole (omega (arith, short)))
  | inr long ↦ cut-long command before whole long
]

-- so do those of another record that begins alike
pub alike-row : (command : Command) (before : List Row) (kept whole : Record) → cut kept ≡ cut whole → read_row command before kept ≡ read_row command before whole
alike-row command before kept whole alike = sym (cut-row command before kept) ∙ (ap (read_row command before) alike ∙ cut-row command before whole)

pub alike-takes : (command : Command) (before : List Row) (kept whole : Record) (rows : Rows) (r : Result (Unit {0}) TraceRefused) → cut kept ≡ cut whole → TakesRow command before kept rows r → TakesRow command before whole rows r
alike-takes command before kept whole rows (Ok done) alike takes = (takes.0, sym (alike-row command before kept whole alike) ∙ takes.1, takes.2)
alike-takes command before kept whole rows (Err (refused.Row row fault)) alike takes = (sym (alike-row command before kept whole alike) ∙ takes.0, takes.1)
alike-takes command before kept whole rows (Err refused.Memory) alike takes = takes

pub cut-twice : (kept whole : Record) → kept ≡ cut whole → cut kept ≡ cut whole
cut-twice kept whole is = ap cut is ∙ take-take 6 6 whole (omega arith)
