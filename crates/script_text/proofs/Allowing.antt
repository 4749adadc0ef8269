-- What a row without fault keeps.
use Rattle.std.proofs.Common.{◌≡◌, ◌==◌, ◌&&◌, not, ℕ, List, [], ◌∷◌, length, cond, codes, Bool, true, false, Option, Some, None, Result, Ok, Err, refl, sym, ap, ◌∙◌, subst}
use Rattle.std.specs.Str.{bytes_eq}
use Rattle.std.proofs.lemmas.Bool.{cond-true, not-false}
use Rattle.list_facts.proofs.Bools.{not_without}
use Rattle.trace_text.specs.Fields.{Record, field}
use Rattle.trace_text.specs.declared.fault.Fault.{Fault}
use Rattle.trace_text.specs.declared.fault.Fault.TheVariants as fault
use Rattle.script_text.specs.Rows.{script_kind_of, fields_in, is_readable_row, script_row_of}
use Rattle.script_text.specs.Earlier.{pair_of}
use Rattle.script_text.specs.Faults.{is_row_in_range, asks_for_itself, is_pair, is_first_row, is_row_out_of_order, asks_too_much, checked_script_row, read_script_kind, read_script_named, read_script_row}
use Rattle.script_text.specs.declared.kind.Kind.{Kind}
use Rattle.script_text.specs.declared.kind.Kind.TheVariants as kind
use Rattle.script_text.specs.declared.row.Row.{Row}

pub record Allowed (before : List Row) (this : Row) : Type 0 where
  pub leads : is_first_row before ≡ true → is_pair this ≡ true
  pub range : is_row_in_range (pair_of before).endpoints this ≡ true
  pub apart : asks_for_itself this ≡ false
  pub order : is_row_out_of_order before this ≡ false
  pub sum : asks_too_much before this ≡ false

-- where a row came out, no fault was told
ok_if : (b : Bool) (why : Fault) (r : Result Row Fault) (this : Row) → cond b (Err why) r ≡ Ok this → (b ≡ false) × (r ≡ Ok this)
ok_if true why r this is = absurd cc
ok_if false why r this is = (refl, is)

abbrev row_in : Row → Result Row Fault → Row
row_in other (Ok row) = row
row_in other (Err why) = other

record Checked (before : List Row) (row this : Row) : Type 0 where
  same : row ≡ this
  range : is_row_in_range (pair_of before).endpoints row ≡ true
  apart : asks_for_itself row ≡ false
  order : is_row_out_of_order before row ≡ false
  sum : asks_too_much before row ≡ false

checked-ok : (before : List Row) (row this : Row) → checked_script_row before row ≡ Ok this → Checked before row this
unfolding checked_script_row
checked-ok before row this is =
    let range = ok_if (not (is_row_in_range (pair_of before).endpoints row)) fault.Range _ this is in
    let apart = ok_if (asks_for_itself row) fault.SelfFlow _ this range.1 in
    let order = ok_if (is_row_out_of_order before row) fault.Order _ this apart.1 in
    let sum = ok_if (asks_too_much before row) fault.Sum (Ok row) this order.1 in
    record { same = ap (row_in row) sum.1; range = not-false (is_row_in_range (pair_of before).endpoints row) range.0; apart = apart.0; order = order.0; sum = sum.0 }

kind-ok : (before : List Row) (fields : Record) (k : Kind) (this : Row) → read_script_kind before fields k ≡ Ok this → checked_script_row before (script_row_of k fields) ≡ Ok this
unfolding read_script_kind
kind-ok before fields k this is =
    let count = ok_if (not (length fields == fields_in k)) fault.Fields _ this is in
    (ok_if (not (is_readable_row k fields)) fault.Number _ this count.1).1

named-ok : (before : List Row) (fields : Record) (o : Option Kind) (this : Row) → read_script_named before fields o ≡ Ok this → (k : Kind) × (o ≡ Some k) × (read_script_kind before fields k ≡ Ok this)
named-ok before fields None this is = absurd cc
named-ok before fields (Some k) this is = (k, refl, is)

abbrev kind_in : Kind → Option Kind → Kind
kind_in other None = other
kind_in other (Some k) = k

pub allowed : (before : List Row) (fields : Record) (this : Row) → read_script_row before fields ≡ Ok this → Allowed before this
unfolding read_script_row
allowed before fields this is =
    let name = field fields 0 in
    let first = ok_if (is_first_row before && not (bytes_eq name (codes "pair"))) fault.NoNet (read_script_named before fields (script_kind_of name)) this is in
    let named = named-ok before fields (script_kind_of name) this first.1 in
    let k : Kind = named.0 in
    let c = checked-ok before (script_row_of k fields) this (kind-ok before fields k this named.2) in
    record {
      leads = λ leading.
          let pair : script_kind_of name ≡ Some kind.Pair = cond-true (bytes_eq name (codes "pair")) (Some kind.Pair) _ (not_without (is_first_row before) (bytes_eq name (codes "pair")) first.0 leading) in
          let its : k ≡ kind.Pair = ap (kind_in k) (sym named.1 ∙ pair) in
          subst (λ (r : Row). is_pair r ≡ true) c.same (ap (λ (x : Kind). is_pair (script_row_of x fields)) its);
      range = subst (λ (r : Row). is_row_in_range (pair_of before).endpoints r ≡ true) c.same c.range;
      apart = subst (λ (r : Row). asks_for_itself r ≡ false) c.same c.apart;
      order = subst (λ (r : Row). is_row_out_of_order before r ≡ false) c.same c.order;
      sum = subst (λ (r : Row). asks_too_much before r ≡ false) c.same c.sum;
    }
