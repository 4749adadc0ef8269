use Rattle.std.proofs.Common.{rules, ◌*◌, ℕ, List, Option, None, replicate, sym, ap, refl, ◌∙◌, subst, arith}
use Rattle.greedy_rules.specs.SlotTable.{table_slots, AreRows}
use Rattle.greedy_rules.proofs.TableLemmas.{empty_table, no_rows}
use Rattle.greedy_rules.proofs.rows.Rows.open.Goals as goal

pub returns-clause-table : goal.returns-clause-table
returns-clause-table c =
    let slots : ℕ = c.args.slots in
    let endpoints : ℕ = c.args.endpoints in
    let places = c.in_ok-vec.ensures.items_if_clones_equal (λ y cloned. search rules) in
    let cells = c.in_ok-vec-2.ensures.items_if_clones_equal (λ y cloned. search rules) in
    record {
      rows_are = subst (λ (xs : List (Option ℕ)). AreRows endpoints xs c.in_ok-vec.field-0.items c.in_ok-with_capacity.field-0.items) (sym cells)
          (subst (λ (xs : List (Option ℕ)). AreRows endpoints (replicate (slots * endpoints) None) xs c.in_ok-with_capacity.field-0.items) (sym places)
          (subst (AreRows endpoints (replicate (slots * endpoints) None) (replicate slots None)) (sym c.in_ok-with_capacity.ensures.items) (no_rows endpoints slots (slots * endpoints) refl)));
      few = omega (arith, c.in_ok-vec.ensures.len, c.ranges.slots.fits);
      room = omega (arith, c.in_ok-vec.ensures.len, c.in_ok-with_capacity.ensures.capacity);
      idle = c.in_ok-vec-3.ensures.items_if_clones_equal (λ y cloned. search rules);
    }

pub returns-clause-slots : goal.returns-clause-slots
returns-clause-slots c =
    ap (table_slots c.args.endpoints c.in_ok-vec-2.field-0.items) (c.in_ok-vec.ensures.items_if_clones_equal (λ y cloned. search rules))
    ∙ empty_table c.args.endpoints c.args.slots c.in_ok-vec-2.field-0.items
