use Rattle.std.proofs.Common.{◌≡◌, ◌<◌, [], length, Some, None, sym, ap, ◌∙◌, arith}
use Rattle.greedy_rules.specs.SlotTable.{flows_from, flows_at, place_at}
use Rattle.greedy_rules.proofs.RowLemmas.{flows_from-replicate}
use Rattle.greedy_rules.proofs.TableLemmas.{place_read, row_ends, slot_at}
use Rattle.greedy_rules.proofs.rows.Rows.row.Goals as goal

pub slice_bounds-result-end : goal.slice_bounds-result-end
slice_bounds-result-end c =
    let rows = c.args.self.now in
    let below : c.args.slot < length rows.places.items = omega (arith, rows.places.ok.0, c.requires.slot) in
    let here : place_at rows.places.items c.args.slot ≡ Some c.in-Some.row = place_read rows.places.items c.args.slot c.index.result.now below c.index.ensures ∙ c.in-Some.is in
    omega (arith, row_ends rows c.args.slot c.in-Some.row c.requires.table here, c.deref.ensures.len)

pub returns-in-None-clause-flows : goal.returns-in-None-clause-flows
returns-in-None-clause-flows c =
    let rows = c.args.self.now in
    let below : c.args.slot < length rows.places.items = omega (arith, rows.places.ok.0, c.requires.slot) in
    let here : place_at rows.places.items c.args.slot ≡ None = place_read rows.places.items c.args.slot c.index.result.now below c.index.ensures ∙ c.in-None.is in
    ap (flows_from 0) (c.deref-in-None.ensures.value ∙ c.requires.table.idle)
    ∙ (flows_from-replicate 0 rows.endpoints ∙ sym (slot_at rows.endpoints rows.cells.items rows.places.items c.args.slot [] below ∙ ap (flows_at rows.endpoints rows.cells.items) here))
