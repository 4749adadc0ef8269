use Rattle.std.proofs.Common.{◌≡◌, ◌<◌, ℕ, List, [], ◌∷◌, ◌++◌, length, set, Some, None, sym, ap, ◌∙◌, subst, arith}
use Rattle.greedy_rules.specs.SlotTable.{place_at, table_slots, AreRows, IsTable}
use Rattle.greedy_rules.specs.declared.rows.Rows.{Rows}
use Rattle.greedy_rules.proofs.TableLemmas.{fits, one_less, given_slots, given_rows}
use Rattle.greedy_rules.proofs.rows.Rows.add_row.Goals as goal

-- the slot has no row, so there is room for one
room_for_one : (rows : Rows) (slot : ℕ) → IsTable rows → slot < length rows.places.items → place_at rows.places.items slot ≡ None → length rows.owners.items < length rows.places.items
room_for_one rows slot table below none = omega (arith, one_less rows.places.items slot below none, table.rows_are.counted)

pub push_reserved-requires : goal.push_reserved-requires
push_reserved-requires c =
    let rows = c.args.self.now in
    omega (arith, room_for_one rows c.args.slot c.requires.table (omega (arith, rows.places.ok.0, c.requires.slot)) c.requires.none, c.requires.table.room, rows.places.ok.0, rows.owners.ok.0)

pub overflow_cast-row : goal.overflow_cast-row
overflow_cast-row c =
    let rows = c.args.self.now in
    omega (arith, room_for_one rows c.args.slot c.requires.table (omega (arith, rows.places.ok.0, c.requires.slot)) c.requires.none, c.requires.table.few, rows.places.ok.0, rows.owners.ok.0, c.len-row.ensures)

pub overflow_mul-result : goal.overflow_mul-result
overflow_mul-result c =
    let rows = c.args.self.now in
    let less = room_for_one rows c.args.slot c.requires.table (omega (arith, rows.places.ok.0, c.requires.slot)) c.requires.none in
    omega (arith, fits rows.endpoints (length rows.places.items) c.len-row.result (omega (arith, less, rows.owners.ok.0, c.len-row.ensures)), c.requires.table.rows_are.whole, rows.cells.ok.0, rows.cells.small)

pub returns-clause-table : goal.returns-clause-table
returns-clause-table c =
    let rows = c.args.self.now in
    let table = c.requires.table in
    let owners : List ℕ = rows.owners.items in
    let below : c.args.slot < length rows.places.items = omega (arith, rows.places.ok.0, c.requires.slot) in
    let row : length owners ≡ c.len-row.result = omega (arith, rows.owners.ok.0, c.len-row.ensures) in
    record {
      rows_are = subst (AreRows rows.endpoints rows.cells.items (set rows.places.items c.args.slot (Some c.len-row.result))) (sym c.push_reserved.ensures.items)
          (subst (λ (n : ℕ). AreRows rows.endpoints rows.cells.items (set rows.places.items c.args.slot (Some n)) (owners ++ c.args.slot ∷ [])) row
          (given_rows rows.endpoints c.args.slot rows.cells.items rows.places.items owners table.rows_are below c.requires.none));
      few = table.few;
      room = omega (arith, table.room, c.push_reserved.ensures.capacity);
      idle = table.idle;
    }

-- the slot was empty, and stays so
pub returns-clause-slots : goal.returns-clause-slots
returns-clause-slots c =
    let rows = c.args.self.now in
    let below : c.args.slot < length rows.places.items = omega (arith, rows.places.ok.0, c.requires.slot) in
    let row : c.len-row.result ≡ length rows.owners.items = omega (arith, rows.owners.ok.0, c.len-row.ensures) in
    ap (λ (n : ℕ). table_slots rows.endpoints rows.cells.items (set rows.places.items c.args.slot (Some n))) row
    ∙ given_slots rows.endpoints c.args.slot rows.cells.items rows.places.items rows.owners.items c.requires.table.rows_are below c.requires.none
