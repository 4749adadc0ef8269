use Rattle.std.proofs.Common.{◌≡◌, ◌<◌, ◌≤◌, ◌+◌, ◌-◌, ◌*◌, ℕ, List, [], length, set, get_or, take, drop, Option, Some, None, sym, ap, ◌∙◌, subst, arith}
use Rattle.std.proofs.lemmas.List.{with_items_is, length-take, length-drop}
use borrow.Rule.Slice.PartMut.{put_mid, same_len_mid}
use Rattle.greedy_rules.specs.declared.flows.Flow.{Flow}
use Rattle.greedy_rules.specs.declared.rows.Rows.{Rows}
use Rattle.greedy_rules.specs.Schedule.{slot_in}
use Rattle.greedy_rules.specs.SlotTable.{flows_from, row_of, flows_at, destination_of, AreCells, IsTable, place_at, slots_of_rows}
use Rattle.greedy_rules.specs.Senders.{AreSendersOf}
use Rattle.greedy_rules.proofs.RowLemmas.{destination-at}
use Rattle.greedy_rules.proofs.TableLemmas.{filled, filled_long, filled_cells, filled_flows, slot_at, row_ends, rows_now, slots_now}
use Rattle.greedy_rules.proofs.NamedCells.{named_within, over, copied}
use Rattle.greedy_rules.proofs.rows.Rows.write_new.Goals as goal

-- the row of an empty slot, in which a row's senders are written, holds the row
module _ (old rows : Rows) (slot row from k : ℕ) (held new cells : List (Option ℕ)) (words : List ℕ) (below : slot < length old.places.items) (none : place_at old.places.items slot ≡ None)
    (same : slots_of_rows rows ≡ slots_of_rows old) (inside : slot < length rows.places.items) (table : IsTable rows) (is : place_at rows.places.items slot ≡ Some row)
    (first : from ≡ row * rows.endpoints) (size : k ≡ rows.endpoints) (had : held ≡ rows.cells.items) (are : AreSendersOf (flows_from 0 cells) words) (whole : length cells ≤ rows.endpoints)
    (long : length new ≡ length (take k (drop from held))) (wrote : (place : ℕ) → get_or new place None ≡ over words cells (take k (drop from held)) place) where
  part : take k (drop from held) ≡ row_of rows.endpoints rows.cells.items row
  part =
      ap (λ (n : ℕ). take n (drop from held)) size
      ∙ (ap (λ (n : ℕ). take rows.endpoints (drop n held)) first ∙ ap (λ (xs : List (Option ℕ)). row_of rows.endpoints xs row) had)

  idle : (place : ℕ) → get_or (take k (drop from held)) place None ≡ None
  idle place =
      ap (λ (xs : List (Option ℕ)). get_or xs place None) part
      ∙ (sym (destination-at 0 place place (row_of rows.endpoints rows.cells.items row) (omega arith))
      ∙ ap (λ (flows : List Flow). destination_of flows place)
      (sym (slot_at rows.endpoints rows.cells.items rows.places.items slot [] inside ∙ ap (flows_at rows.endpoints rows.cells.items) is)
      ∙ (ap (λ (slots : List (List Flow)). slot_in slots slot) same
      ∙ (slot_at old.endpoints old.cells.items old.places.items slot [] below ∙ ap (flows_at old.endpoints old.cells.items) none))))

  count : length (take k (drop from held)) ≡ rows.endpoints
  count = omega (arith, length-take k (drop from held), length-drop from held, ap length had, row_ends rows slot row table is, rows.cells.ok.0, first, size)

  holds_row : new ≡ filled rows.endpoints cells
  holds_row = copied words cells (take k (drop from held)) new are idle (omega (arith, whole, count)) long wrote ∙ ap (λ (n : ℕ). filled n cells) count

pub overflow_add-from : goal.overflow_add-from
overflow_add-from c =
    let now = c.add_row-from.new.self in
    let at = c.add_row-from.ensures.row in
    omega (arith, row_ends now c.args.slot at.0 c.add_row-from.ensures.table at.1, at.2, now.cells.ok.0, now.cells.small)

pub offset_bounds-deref_mut-from : goal.offset_bounds-deref_mut-from
offset_bounds-deref_mut-from c =
    let now = c.add_row-from.new.self in
    let at = c.add_row-from.ensures.row in
    omega (arith, row_ends now c.args.slot at.0 c.add_row-from.ensures.table at.1, at.2, c.deref_mut.ensures.len, c.deref_mut.type_inv.1)

pub slice_bounds-write_named-end : goal.slice_bounds-write_named-end
slice_bounds-write_named-end c =
    let now = c.add_row-from.new.self in
    let at = c.add_row-from.ensures.row in
    omega (arith, row_ends now c.args.slot at.0 c.add_row-from.ensures.table at.1, at.2, c.deref_mut.ensures.len)

pub write_named-requires-clause-within : goal.write_named-requires-clause-within
write_named-requires-clause-within c = λ place named.
    let now = c.add_row-from.new.self in
    let at = c.add_row-from.ensures.row in
    let from : ℕ = c.add_row-from.result in
    let size : ℕ = (from + now.endpoints) - from in
    let held = c.deref_mut.result.now in
    let row = c.args.row.now in
    let within = named_within row c.args.senders.now place c.requires.senders named in
    (omega (arith, within, c.requires.whole, c.add_row-from.ensures.endpoints, length-take size (drop from held), length-drop from held, c.deref_mut.ensures.len, row_ends now c.args.slot at.0 c.add_row-from.ensures.table at.1, at.2), within)

pub returns-clause-table : goal.returns-clause-table
returns-clause-table c =
    let old = c.args.self.now in
    let now = c.add_row-from.new.self in
    let added = c.add_row-from.ensures in
    let at = added.row in
    let from : ℕ = c.add_row-from.result in
    let size : ℕ = (from + now.endpoints) - from in
    let held = c.deref_mut.result.now in
    let new = c.write_named.new.into in
    let row = c.args.row.now in
    let below : c.args.slot < length old.places.items = omega (arith, old.places.ok.0, c.requires.slot) in
    let inside : c.args.slot < length now.places.items = omega (arith, now.places.ok.0, c.requires.slot, added.count) in
    let whole : length row ≤ now.endpoints = omega (arith, c.requires.whole, added.endpoints) in
    let cells : AreCells now.endpoints row = subst (λ (n : ℕ). AreCells n row) (sym added.endpoints) c.requires.cells in
    let kept : length (put_mid from size held new) ≡ now.cells.len = omega (arith, same_len_mid from size held new c.write_named.auto.into, c.deref_mut.ensures.len) in
    let wrote = with_items_is now.cells (put_mid from size held new) kept in
    let is_new = holds_row old now c.args.slot at.0 from size held new row c.args.senders.now below c.requires.none added.slots inside added.table at.1 at.2 (omega arith) c.deref_mut.ensures.value c.requires.senders whole c.write_named.auto.into c.write_named.ensures in
    record {
      rows_are = rows_now now c.args.slot at.0 from size held new (filled now.endpoints row) added.table inside at.1 at.2 (omega arith) c.deref_mut.ensures.value is_new
          (filled_long now.endpoints row whole) _ wrote (ap length wrote ∙ kept) (filled_cells now.endpoints row cells);
      few = added.table.few;
      room = added.table.room;
      idle = added.table.idle;
    }

pub returns-clause-slots : goal.returns-clause-slots
returns-clause-slots c =
    let old = c.args.self.now in
    let now = c.add_row-from.new.self in
    let added = c.add_row-from.ensures in
    let at = added.row in
    let from : ℕ = c.add_row-from.result in
    let size : ℕ = (from + now.endpoints) - from in
    let held = c.deref_mut.result.now in
    let new = c.write_named.new.into in
    let row = c.args.row.now in
    let below : c.args.slot < length old.places.items = omega (arith, old.places.ok.0, c.requires.slot) in
    let inside : c.args.slot < length now.places.items = omega (arith, now.places.ok.0, c.requires.slot, added.count) in
    let whole : length row ≤ now.endpoints = omega (arith, c.requires.whole, added.endpoints) in
    let kept : length (put_mid from size held new) ≡ now.cells.len = omega (arith, same_len_mid from size held new c.write_named.auto.into, c.deref_mut.ensures.len) in
    let wrote = with_items_is now.cells (put_mid from size held new) kept in
    let is_new = holds_row old now c.args.slot at.0 from size held new row c.args.senders.now below c.requires.none added.slots inside added.table at.1 at.2 (omega arith) c.deref_mut.ensures.value c.requires.senders whole c.write_named.auto.into c.write_named.ensures in
    slots_now now c.args.slot at.0 from size held new (filled now.endpoints row) added.table inside at.1 at.2 (omega arith) c.deref_mut.ensures.value is_new
    (filled_long now.endpoints row whole) _ wrote
    ∙ (ap (λ (slots : List (List Flow)). set slots c.args.slot (flows_from 0 (filled now.endpoints row))) added.slots
    ∙ ap (set (slots_of_rows old) c.args.slot) (filled_flows now.endpoints row))
