use Rattle.std.proofs.Common.{◌≡◌, ◌<◌, ◌+◌, ◌*◌, ℕ, List, length, set, Some, None, ap, ◌∙◌, arith}
use Rattle.greedy_rules.specs.declared.flows.Flow.{Flow}
use Rattle.greedy_rules.specs.Slot.{slot_with}
use Rattle.greedy_rules.specs.Schedule.{slot_in}
use Rattle.greedy_rules.specs.SlotTable.{destination_of, table_slots, place_at, IsTable, slots_of_rows}
use Rattle.greedy_rules.specs.declared.rows.Rows.{Rows}
use Rattle.greedy_rules.proofs.TableLemmas.{fits, row_given, row_ends, put_is, put_rows}
use Rattle.greedy_rules.proofs.rows.Rows.put.Goals as goal

-- the cell is one of the row
within_row : (rows : Rows) (slot row from src : ℕ) → IsTable rows → place_at rows.places.items slot ≡ Some row → from ≡ row * rows.endpoints → src < rows.endpoints → from + src < rows.cells.len
within_row rows slot row from src table is at here = omega (arith, row_ends rows slot row table is, at, here)

pub overflow_add-from : goal.overflow_add-from
overflow_add-from c =
    let now = c.reach-from.new.self in
    let row = c.reach-from.ensures.row in
    omega (arith, within_row now c.args.slot row.0 c.reach-from.result c.args.src c.reach-from.ensures.table row.1 row.2 (omega (arith, c.requires.src, c.reach-from.ensures.endpoints)), now.cells.small)

pub index_mut-requires : goal.index_mut-requires
index_mut-requires c =
    let now = c.reach-from.new.self in
    let row = c.reach-from.ensures.row in
    within_row now c.args.slot row.0 c.reach-from.result c.args.src c.reach-from.ensures.table row.1 row.2 (omega (arith, c.requires.src, c.reach-from.ensures.endpoints))

pub returns-clause-table : goal.returns-clause-table
returns-clause-table c =
    let now = c.reach-from.new.self in
    let row = c.reach-from.ensures.row in
    let table = c.reach-from.ensures.table in
    let given = row_given now.endpoints c.args.slot row.0 now.cells.items now.places.items now.owners.items table.rows_are row.1 in
    record {
      rows_are = put_rows now.endpoints (c.reach-from.result + c.args.src) c.args.dst now.cells.items now.places.items now.owners.items table.rows_are
          (omega (arith, row.2, c.requires.src, c.reach-from.ensures.endpoints, fits now.endpoints (length now.owners.items) row.0 given.0)) (omega (arith, c.requires.dst, c.reach-from.ensures.endpoints));
      few = table.few;
      room = table.room;
      idle = table.idle;
    }

pub returns-clause-slots : goal.returns-clause-slots
returns-clause-slots c =
    let now = c.reach-from.new.self in
    let row = c.reach-from.ensures.row in
    let table = c.reach-from.ensures.table in
    let slot : ℕ = c.args.slot in
    let src : ℕ = c.args.src in
    let below : slot < length now.places.items = omega (arith, now.places.ok.0, c.requires.slot, c.reach-from.ensures.count) in
    let at : c.reach-from.result + src ≡ row.0 * now.endpoints + src = omega (arith, row.2) in
    let free : destination_of (slot_in (slots_of_rows now) slot) src ≡ None = ap (λ (slots : List (List Flow)). destination_of (slot_in slots slot) src) c.reach-from.ensures.slots ∙ c.requires.free in
    ap (λ (n : ℕ). table_slots now.endpoints (set now.cells.items n (Some c.args.dst)) now.places.items) at
    ∙ (put_is now.endpoints slot row.0 src c.args.dst now.cells.items now.places.items now.owners.items table.rows_are below row.1 (omega (arith, c.requires.src, c.reach-from.ensures.endpoints)) free
    ∙ ap (λ (slots : List (List Flow)). set slots slot (slot_with (record { src = src; dst = c.args.dst }) (slot_in slots slot))) c.reach-from.ensures.slots)
