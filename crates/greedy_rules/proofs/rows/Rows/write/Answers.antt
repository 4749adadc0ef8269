use Rattle.std.proofs.Common.{◌≡◌, ◌<◌, ◌≤◌, ◌+◌, ◌-◌, ℕ, List, ◌++◌, length, set, replicate, Option, None, sym, ap, ◌∙◌, subst, arith}
use Rattle.std.proofs.lemmas.List.{with_items_is}
use borrow.Rule.Slice.PartMut.{put_mid, same_len_mid}
use Rattle.greedy_rules.specs.declared.flows.Flow.{Flow}
use Rattle.greedy_rules.specs.SlotTable.{flows_from, AreCells}
use Rattle.greedy_rules.proofs.TableLemmas.{filled, filled_long, filled_cells, filled_flows, row_ends, rows_now, slots_now}
use Rattle.greedy_rules.proofs.rows.Rows.write.Goals as goal

-- the row that is written fills the slot's
written : (endpoints size : ℕ) (row : List (Option ℕ)) → size ≡ endpoints → row ++ replicate (size - length row) None ≡ filled endpoints row
written endpoints size row is = ap (λ (n : ℕ). row ++ replicate (n - length row) None) is

pub overflow_add-from : goal.overflow_add-from
overflow_add-from c =
    let now = c.reach-from.new.self in
    let at = c.reach-from.ensures.row in
    omega (arith, row_ends now c.args.slot at.0 c.reach-from.ensures.table at.1, at.2, now.cells.ok.0, now.cells.small)

pub offset_bounds-deref_mut-from : goal.offset_bounds-deref_mut-from
offset_bounds-deref_mut-from c =
    let now = c.reach-from.new.self in
    let at = c.reach-from.ensures.row in
    omega (arith, row_ends now c.args.slot at.0 c.reach-from.ensures.table at.1, at.2, c.deref_mut.ensures.len, c.deref_mut.type_inv.1)

pub slice_bounds-write_row-end : goal.slice_bounds-write_row-end
slice_bounds-write_row-end c =
    let now = c.reach-from.new.self in
    let at = c.reach-from.ensures.row in
    omega (arith, row_ends now c.args.slot at.0 c.reach-from.ensures.table at.1, at.2, c.deref_mut.ensures.len)

pub returns-clause-table : goal.returns-clause-table
returns-clause-table c =
    let now = c.reach-from.new.self in
    let table = c.reach-from.ensures.table in
    let at = c.reach-from.ensures.row in
    let from : ℕ = c.reach-from.result in
    let size : ℕ = (from + now.endpoints) - from in
    let held = c.deref_mut.result.now in
    let new = c.write_row.new.into in
    let row = c.args.row.now in
    let below : c.args.slot < length now.places.items = omega (arith, now.places.ok.0, c.requires.slot, c.reach-from.ensures.count) in
    let whole : length row ≤ now.endpoints = omega (arith, c.requires.whole, c.reach-from.ensures.endpoints) in
    let cells : AreCells now.endpoints row = subst (λ (n : ℕ). AreCells n row) (sym c.reach-from.ensures.endpoints) c.requires.cells in
    let kept : length (put_mid from size held new) ≡ now.cells.len = omega (arith, same_len_mid from size held new c.write_row.auto.into, c.deref_mut.ensures.len) in
    let wrote = with_items_is now.cells (put_mid from size held new) kept in
    record {
      rows_are = rows_now now c.args.slot at.0 from size held new (filled now.endpoints row) table below at.1 at.2 (omega arith) c.deref_mut.ensures.value (c.write_row.ensures ∙ written now.endpoints _ row (omega arith))
          (filled_long now.endpoints row whole) _ wrote (ap length wrote ∙ kept) (filled_cells now.endpoints row cells);
      few = table.few;
      room = table.room;
      idle = table.idle;
    }

pub returns-clause-slots : goal.returns-clause-slots
returns-clause-slots c =
    let now = c.reach-from.new.self in
    let table = c.reach-from.ensures.table in
    let at = c.reach-from.ensures.row in
    let from : ℕ = c.reach-from.result in
    let size : ℕ = (from + now.endpoints) - from in
    let held = c.deref_mut.result.now in
    let new = c.write_row.new.into in
    let row = c.args.row.now in
    let below : c.args.slot < length now.places.items = omega (arith, now.places.ok.0, c.requires.slot, c.reach-from.ensures.count) in
    let whole : length row ≤ now.endpoints = omega (arith, c.requires.whole, c.reach-from.ensures.endpoints) in
    let kept : length (put_mid from size held new) ≡ now.cells.len = omega (arith, same_len_mid from size held new c.write_row.auto.into, c.deref_mut.ensures.len) in
    let wrote = with_items_is now.cells (put_mid from size held new) kept in
    slots_now now c.args.slot at.0 from size held new (filled now.endpoints row) table below at.1 at.2 (omega arith) c.deref_mut.ensures.value (c.write_row.ensures ∙ written now.endpoints _ row (omega arith))
    (filled_long now.endpoints row whole) _ wrote
    ∙ (ap (λ (slots : List (List Flow)). set slots c.args.slot (flows_from 0 (filled now.endpoints row))) c.reach-from.ensures.slots
    ∙ ap (set _ c.args.slot) (filled_flows now.endpoints row))
