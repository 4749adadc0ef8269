use Rattle.std.proofs.Common.{◌≡◌, ◌<◌, ◌≤◌, ◌+◌, ◌-◌, ◌*◌, ℕ, List, [], length, set, take, replicate, get_or, Option, Some, None, sym, ap, refl, ◌∙◌, subst, arith}
use Rattle.std.specs.Prelude.{vec_len}
use Rattle.std.proofs.lemmas.List.{with_items_is, length-replicate}
use Rattle.std.proofs.lemmas.List.Elements.{All-replicate}
use borrow.Rule.Slice.PartMut.{put_mid, same_len_mid}
use Rattle.greedy_rules.specs.declared.rows.Rows.{Rows}
use Rattle.greedy_rules.specs.SlotTable.{row_of, table_slots, place_at, AreRows, IsTable, slots_of_rows}
use Rattle.greedy_rules.proofs.RowLemmas.{flows_from-replicate}
use Rattle.greedy_rules.proofs.TableLemmas.{nobody, none_placed, placed_below, IsCell, row_given, row_ends, row_now, rows_now, slots_now, freed_rows, freed_slots}
use Rattle.greedy_rules.proofs.rows.Rows.free_row.Goals as goal

-- the row of the slot that was given its one last is emptied, and then given back
module _ (rows : Rows) (slot row k : ℕ) (held new now : List (Option ℕ)) (table : IsTable rows) (is : place_at rows.places.items slot ≡ Some row) (last : row + 1 ≡ length rows.owners.items)
    (size : k ≡ rows.endpoints) (had : held ≡ rows.cells.items) (empty : new ≡ replicate rows.endpoints None) (wrote : now ≡ put_mid (row * rows.endpoints) k held new) where
  below : slot < length rows.places.items
  below = placed_below rows.places.items slot row is

  whole : length (replicate rows.endpoints nobody) ≡ rows.endpoints
  whole = length-replicate rows.endpoints nobody

  idle : (place : ℕ) → get_or (row_of rows.endpoints now row) place None ≡ None
  idle place =
      ap (λ (xs : List (Option ℕ)). get_or xs place None) (row_now rows slot row (row * rows.endpoints) k held new (replicate rows.endpoints None) table below is refl size had empty whole now wrote)
      ∙ none_placed rows.endpoints place

  emptied : length now ≡ vec_len rows.cells → AreRows rows.endpoints now rows.places.items rows.owners.items
  emptied long =
      rows_now rows slot row (row * rows.endpoints) k held new (replicate rows.endpoints None) table below is refl size had empty whole now wrote long
      (All-replicate (IsCell rows.endpoints) rows.endpoints None tt)

  rows_left : length now ≡ vec_len rows.cells → AreRows rows.endpoints now (set rows.places.items slot None) (take row rows.owners.items)
  rows_left long = freed_rows rows.endpoints slot row now rows.places.items rows.owners.items (emptied long) is last idle

  slots_left : length now ≡ vec_len rows.cells → table_slots rows.endpoints now (set rows.places.items slot None) ≡ set (slots_of_rows rows) slot []
  slots_left long =
      freed_slots rows.endpoints slot row now rows.places.items rows.owners.items (emptied long) is last idle
      ∙ (slots_now rows slot row (row * rows.endpoints) k held new (replicate rows.endpoints None) table below is refl size had empty whole now wrote
      ∙ ap (set (slots_of_rows rows) slot) (flows_from-replicate 0 rows.endpoints))

-- the number of the row that was given last
last_row : (rows : Rows) (slot count : ℕ) → place_at rows.places.items slot ≡ Some (vec_len rows.owners - 1) → count ≡ vec_len rows.owners → place_at rows.places.items slot ≡ Some (count - 1)
last_row rows slot count is counts = is ∙ ap (λ (n : ℕ). Some (n - 1)) (sym counts)

-- there is such a row
some_row : (rows : Rows) (slot count : ℕ) → IsTable rows → place_at rows.places.items slot ≡ Some (vec_len rows.owners - 1) → count ≡ vec_len rows.owners → count - 1 + 1 ≡ length rows.owners.items
some_row rows slot count table is counts =
    let given = row_given rows.endpoints slot (vec_len rows.owners - 1) rows.cells.items rows.places.items rows.owners.items table.rows_are is in
    omega (arith, given.0, counts, rows.owners.ok.0)

pub overflow_sub-row : goal.overflow_sub-row
overflow_sub-row c =
    let rows = c.args.self.now in
    let given = row_given rows.endpoints c.args.slot (vec_len rows.owners - 1) rows.cells.items rows.places.items rows.owners.items c.requires.table.rows_are c.requires.last in
    omega (arith, given.0, c.len-row.ensures, rows.owners.ok.0)

-- the last row's cells end within the table's
cells_end : (rows : Rows) (slot count : ℕ) → IsTable rows → place_at rows.places.items slot ≡ Some (vec_len rows.owners - 1) → count ≡ vec_len rows.owners → (count - 1) * rows.endpoints + rows.endpoints ≤ vec_len rows.cells
cells_end rows slot count table is counts = row_ends rows slot (count - 1) table (last_row rows slot count is counts)

pub overflow_mul-from : goal.overflow_mul-from
overflow_mul-from c = let rows = c.args.self.now in omega (arith, cells_end rows c.args.slot c.len-row.result c.requires.table c.requires.last c.len-row.ensures, rows.cells.ok.0, rows.cells.small)

pub overflow_add-from : goal.overflow_add-from
overflow_add-from c = let rows = c.args.self.now in omega (arith, cells_end rows c.args.slot c.len-row.result c.requires.table c.requires.last c.len-row.ensures, rows.cells.ok.0, rows.cells.small)

pub offset_bounds-deref_mut-from : goal.offset_bounds-deref_mut-from
offset_bounds-deref_mut-from c =
    let rows = c.args.self.now in
    omega (arith, cells_end rows c.args.slot c.len-row.result c.requires.table c.requires.last c.len-row.ensures, c.deref_mut.ensures.len, c.deref_mut.type_inv.1)

pub slice_bounds-empty_row-end : goal.slice_bounds-empty_row-end
slice_bounds-empty_row-end c =
    let rows = c.args.self.now in
    omega (arith, cells_end rows c.args.slot c.len-row.result c.requires.table c.requires.last c.len-row.ensures, c.deref_mut.ensures.len)

pub returns-clause-table : goal.returns-clause-table
returns-clause-table c =
    let rows = c.args.self.now in
    let table = c.requires.table in
    let row : ℕ = c.len-row.result - 1 in
    let size : ℕ = (row * rows.endpoints + rows.endpoints) - row * rows.endpoints in
    let held = c.deref_mut.result.now in
    let new = c.empty_row.new.row in
    let at = last_row rows c.args.slot c.len-row.result c.requires.last c.len-row.ensures in
    let some = some_row rows c.args.slot c.len-row.result table c.requires.last c.len-row.ensures in
    let kept : length (put_mid (row * rows.endpoints) size held new) ≡ vec_len rows.cells = omega (arith, same_len_mid (row * rows.endpoints) size held new c.empty_row.auto.row, c.deref_mut.ensures.len) in
    let wrote = with_items_is rows.cells (put_mid (row * rows.endpoints) size held new) kept in
    record {
      rows_are = subst (AreRows rows.endpoints _ (set rows.places.items c.args.slot None)) (sym c.truncate.ensures.items)
          (rows_left rows c.args.slot row size held new _ table at some (omega arith) c.deref_mut.ensures.value (c.empty_row.ensures ∙ ap (λ (n : ℕ). replicate n None) (omega arith)) wrote (ap length wrote ∙ kept));
      few = table.few;
      room = omega (arith, table.room, c.truncate.ensures.capacity);
      idle = table.idle;
    }

pub returns-clause-slots : goal.returns-clause-slots
returns-clause-slots c =
    let rows = c.args.self.now in
    let table = c.requires.table in
    let row : ℕ = c.len-row.result - 1 in
    let size : ℕ = (row * rows.endpoints + rows.endpoints) - row * rows.endpoints in
    let held = c.deref_mut.result.now in
    let new = c.empty_row.new.row in
    let at = last_row rows c.args.slot c.len-row.result c.requires.last c.len-row.ensures in
    let some = some_row rows c.args.slot c.len-row.result table c.requires.last c.len-row.ensures in
    let kept : length (put_mid (row * rows.endpoints) size held new) ≡ vec_len rows.cells = omega (arith, same_len_mid (row * rows.endpoints) size held new c.empty_row.auto.row, c.deref_mut.ensures.len) in
    let wrote = with_items_is rows.cells (put_mid (row * rows.endpoints) size held new) kept in
    slots_left rows c.args.slot row size held new _ table at some (omega arith) c.deref_mut.ensures.value (c.empty_row.ensures ∙ ap (λ (n : ℕ). replicate n None) (omega arith)) wrote (ap length wrote ∙ kept)

pub returns-clause-owners : goal.returns-clause-owners
returns-clause-owners c =
    let rows = c.args.self.now in
    omega (arith, some_row rows c.args.slot c.len-row.result c.requires.table c.requires.last c.len-row.ensures, c.truncate.ensures.len, c.len-row.ensures, rows.owners.ok.0)
