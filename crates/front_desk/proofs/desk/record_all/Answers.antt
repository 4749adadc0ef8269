use Rattle.std.proofs.Common.{◌≡◌, List, Some, length, map, set, get_or, slice_get, sym, ◌∙◌, ap, refl, arith}
use Rattle.std.proofs.lemmas.List.{length-set, map-set}
use Rattle.std.proofs.lemmas.Option.{slice_get-get_or}
use Rattle.front_desk.specs.State.{LineState}
use Rattle.front_desk.specs.Answers.{desk_entries_from}
use Rattle.front_desk.specs.Standing.{state_of}
use Rattle.front_desk.proofs.Lines.{lines-set, state_at, length-states}
use Rattle.front_desk.proofs.Entering.{closed-here, next, entries-none, entries-above, entries-more, recorded_to, recorded-none, recorded-here, recorded-more, recorded-all, take-all}
use Rattle.front_desk.proofs.desk.record_all.Goals as goal

pub loop-endpoint-init : goal.loop-endpoint-init
loop-endpoint-init c =
    let states = map state_of c.args.lines.now in
    record { many = refl; lines = c.requires.lines; states = sym (recorded-none states); entries = entries-none (length c.args.lines.now) states c.args.batch.now.entries c.requires.empty; limits = refl }

pub record-requires-clause-progress : goal.record-requires-clause-progress
record-requires-clause-progress c =
    let lines = c.loop-endpoint.lines in
    let at = c.loop-endpoint.endpoint in
    let old = get_or lines at c.index-lines-endpoint.result in
    let states = map state_of c.args.lines.now in
    let here = slice_get-get_or lines at c.index-lines-endpoint.result (omega (arith, c.loop-endpoint-test.true, c.loop-endpoint.invariant.many)) in
    closed-here states at (state_of old) c.requires.closed (sym (recorded-here states at) ∙ state_at lines (recorded_to at states) at old c.loop-endpoint.invariant.states here)

pub record-requires-clause-line : goal.record-requires-clause-line
record-requires-clause-line c =
    let at = c.loop-endpoint.endpoint in
    let here = slice_get-get_or c.loop-endpoint.lines at c.index-lines-endpoint.result (omega (arith, c.loop-endpoint-test.true, c.loop-endpoint.invariant.many)) in
    (at, length c.args.lines.now, c.loop-endpoint.invariant.lines at _ here, entries-above (length c.args.lines.now) at (map state_of c.args.lines.now) c.loop-endpoint.batch.entries c.loop-endpoint.invariant.entries)

pub returns-in_err-record-clause-lines : goal.returns-in_err-record-clause-lines
returns-in_err-record-clause-lines c =
    let lines = c.loop-endpoint.lines in
    let at = c.loop-endpoint.endpoint in
    let here = slice_get-get_or lines at c.index-lines-endpoint.result (omega (arith, c.loop-endpoint-test.true, c.loop-endpoint.invariant.many)) in
    lines-set (length c.args.lines.now) lines at (get_or lines at c.index-lines-endpoint.result) c.record.new.self c.loop-endpoint.invariant.lines here c.record.ensures.line

pub loop-endpoint-preserved : goal.loop-endpoint-preserved
loop-endpoint-preserved c =
    let lines = c.loop-endpoint.lines in
    let at = c.loop-endpoint.endpoint in
    let old = get_or lines at c.index-lines-endpoint.result in
    let new = c.record.new.self in
    let states = map state_of c.args.lines.now in
    let here = slice_get-get_or lines at c.index-lines-endpoint.result (omega (arith, c.loop-endpoint-test.true, c.loop-endpoint.invariant.many)) in
    let was : slice_get states at ≡ Some (state_of old) = sym (recorded-here states at) ∙ state_at lines (recorded_to at states) at old c.loop-endpoint.invariant.states here in
    let it = c.in_ok-record.ensures in
    record {
      many = length-set lines at new ∙ c.loop-endpoint.invariant.many;
      lines = lines-set (length c.args.lines.now) lines at old new c.loop-endpoint.invariant.lines here it.line;
      states = map-set state_of lines at new
          ∙ (ap (λ (xs : List LineState). set xs at (state_of new)) c.loop-endpoint.invariant.states
          ∙ (ap (λ (s : LineState). set (recorded_to at states) at s) it.recorded ∙ (recorded-more states at (state_of old) was ∙ ap (λ n. recorded_to n states) (next at))));
      entries = entries-more (length c.args.lines.now) at states (state_of old) c.loop-endpoint.batch.entries c.record.new.batch.entries c.loop-endpoint.invariant.entries was
          (it.entries at (length c.args.lines.now) (c.loop-endpoint.invariant.lines at old here));
      limits = it.limits ∙ c.loop-endpoint.invariant.limits;
    }

pub returns-clause-recorded : goal.returns-clause-recorded
returns-clause-recorded c =
    let states = map state_of c.args.lines.now in
    c.loop-endpoint.invariant.states ∙ recorded-all states c.loop-endpoint.endpoint (omega (arith, length-states c.args.lines.now, c.loop-endpoint.invariant.many, c.loop-endpoint-test.false))

pub returns-clause-entries : goal.returns-clause-entries
returns-clause-entries c =
    let states = map state_of c.args.lines.now in
    c.loop-endpoint.invariant.entries.entries_are
    ∙ ap (λ (ls : List LineState). desk_entries_from (length c.args.lines.now) 0 ls) (take-all states c.loop-endpoint.endpoint (omega (arith, length-states c.args.lines.now, c.loop-endpoint.invariant.many, c.loop-endpoint-test.false)))
