use Rattle.std.proofs.Common.{◌++◌, sym, ◌∙◌, ap, arith}
use Rattle.std.proofs.lemmas.List.{append-nil}
use Rattle.arbiter_lane.proofs.Marking.{marked-entered, entered-none, entered-past, entered-all}
use Rattle.arbiter_lane.proofs.Recording.{entry-unmarked, entries-same, entries-end}
use Rattle.arbiter_lane.proofs.flows.record.Goals as goal

pub returns-then-next_from-lines-clause-entries : goal.returns-then-next_from-lines-clause-entries
returns-then-next_from-lines-clause-entries c =
    let lines = c.args.lines.now in
    let first = c.next_from in
    let none = entries-same lines c.args.endpoint c.args.resets 0 first.result (omega arith)
    (λ dst low high. entry-unmarked c.mark_entries.new.risen lines c.args.endpoint c.args.resets dst c.mark_entries.ensures.entries (first.ensures.first dst low high)) in
    sym (ap (λ xs. c.args.batch.now.entries ++ xs) (sym (entries-end lines c.args.endpoint c.args.resets first.result c.if-next_from-lines.true) ∙ none) ∙ append-nil c.args.batch.now.entries)

pub returns-then-next_from-lines-clause-entered : goal.returns-then-next_from-lines-clause-entered
returns-then-next_from-lines-clause-entered c =
    let lines = c.args.lines.now in
    let first = c.next_from in
    entered-all lines lines first.result c.if-next_from-lines.true
    (entered-past c.mark_entries.new.risen lines lines 0 first.result c.mark_entries.ensures.marked first.ensures.first (entered-none lines) (omega arith))

pub returns-clause-marked : goal.returns-clause-marked
returns-clause-marked c = marked-entered c.clear_all.new.self c.args.lines.now c.settle.new.lines c.settle.ensures
