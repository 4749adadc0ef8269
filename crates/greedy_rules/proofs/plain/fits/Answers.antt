use Rattle.std.proofs.Common.{◌<◌, None, not, get_or, sym, ap, ◌∙◌, arith, length}
use Rattle.std.specs.Option.{is_some}
use Rattle.std.proofs.lemmas.Bool.{ltb-true}
use Rattle.greedy_rules.specs.Limits.{is_barred}
use Rattle.greedy_rules.specs.SlotTable.{flows_from}
use Rattle.greedy_rules.specs.Walk.{bars}
use Rattle.greedy_rules.proofs.WalkLemmas.{has_place, barred_by_table, fits_is, fits_not, needs_none}
use Rattle.greedy_rules.proofs.plain.fits.Goals as goal
use Rattle.greedy_rules.proofs.plain.fits.Goals.{then-item-gt0, else-item-gt0}

pub returns-then-is_none : goal.returns-then-is_none
returns-then-is_none c =
    let item = c.args.item.now in
    let marks = c.args.marks.now in
    let sends = get_or c.args.sends.now item.flow.src None in
    let barred = is_barred marks.limits (flows_from 0 c.args.sends.now) item.flow in
    let place = has_place (length c.args.sends.now) marks item.flow c.requires.places c.requires.src c.requires.dst in
    let table = barred_by_table c.args.sends.now marks item.flow None c.requires.src place c.requires.marks in
    ap not c.bars.ensures ∙ elim c.if-item-gt0.branch [
      | then-item-gt0 w ↦ fits_is item.need barred (is_some sends) (bars marks item.flow) table w.if-item-gt0.true (w.is_none.ensures ∙ ap not (sym w.value-is ∙ c.if-is_none.true))
      | else-item-gt0 w ↦ let needs : 0 < item.need = ltb-true 0 item.need (sym w.value-is ∙ c.if-is_none.true) in absurd (omega (arith, w.if-item-gt0.false))
    ]

pub returns-else-is_none : goal.returns-else-is_none
returns-else-is_none c =
    let item = c.args.item.now in
    let marks = c.args.marks.now in
    let sends = get_or c.args.sends.now item.flow.src None in
    let barred = is_barred marks.limits (flows_from 0 c.args.sends.now) item.flow in
    let place = has_place (length c.args.sends.now) marks item.flow c.requires.places c.requires.src c.requires.dst in
    let table = barred_by_table c.args.sends.now marks item.flow None c.requires.src place c.requires.marks in
    c.if-is_none.false ∙ elim c.if-item-gt0.branch [
      | then-item-gt0 w ↦ fits_not item.need barred (is_some sends) (bars marks item.flow) table (w.is_none.ensures ∙ ap not (sym w.value-is ∙ c.if-is_none.false))
      | else-item-gt0 w ↦ needs_none item.need barred w.if-item-gt0.false
    ]
