use Rattle.std.proofs.Common.{◌≡◌, ◌+◌, ◌++◌, Some, slice_get, option_to_list, sym, ◌∙◌, ap, refl, arith}
use Rattle.std.proofs.lemmas.List.{append-nil}
use Rattle.std.proofs.lemmas.Option.{slice_get-get_or}
use Rattle.arbiter_lane.specs.Lines.{entry_on}
use Rattle.arbiter_lane.proofs.Entering.{entries_next, above_upward}
use Rattle.arbiter_lane.proofs.Recording.{entry-unmarked, entries-same, entries-end}
use Rattle.arbiter_lane.proofs.flows.enter.Goals as goal

pub loop-dst-init : goal.loop-dst-init
loop-dst-init c =
    let lines = c.args.lines.now in
    let first = c.next_from-dst in
    let none = entries-same lines c.args.endpoint c.args.resets 0 first.result (omega arith) (λ dst low high. entry-unmarked c.args.risen.now lines c.args.endpoint c.args.resets dst c.requires.all (first.ensures.first dst low high)) in
    record {
      entries = sym (ap (λ xs. c.args.batch.now.entries ++ xs) none ∙ append-nil c.args.batch.now.entries);
      limits = refl;
      above = above_upward c.args.batch.now.entries c.args.endpoint 0 first.result (omega arith) c.requires.above;
      most = first.ensures.most;
    }

pub enter_one-requires-clause-fits : goal.enter_one-requires-clause-fits
enter_one-requires-clause-fits c =
    let lines = c.args.lines.now in
    let at = c.loop-dst.dst in
    let line = c.index-lines-dst.result in
    let here : slice_get lines at ≡ Some line = slice_get-get_or lines at line c.loop-dst-test.true ∙ ap Some (sym c.index-lines-dst.is) in
    c.requires.can_rise.fits at line here

pub enter_one-requires-clause-risen : goal.enter_one-requires-clause-risen
enter_one-requires-clause-risen c =
    let lines = c.args.lines.now in
    let at = c.loop-dst.dst in
    let line = c.index-lines-dst.result in
    let here : slice_get lines at ≡ Some line = slice_get-get_or lines at line c.loop-dst-test.true ∙ ap Some (sym c.index-lines-dst.is) in
    c.requires.can_rise.entered at line here

pub loop-dst-preserved : goal.loop-dst-preserved
loop-dst-preserved c =
    let lines = c.args.lines.now in
    let at = c.loop-dst.dst in
    let line = c.index-lines-dst.result in
    let next = c.next_from-dst-in-loop-dst in
    let here : slice_get lines at ≡ Some line = slice_get-get_or lines at line c.loop-dst-test.true ∙ ap Some (sym c.index-lines-dst.is) in
    let none = entries-same lines c.args.endpoint c.args.resets (at + 1) next.result next.ensures.from
    (λ dst low high. entry-unmarked c.args.risen.now lines c.args.endpoint c.args.resets dst c.requires.all (next.ensures.first dst low high)) in
    record {
      entries = c.in_ok-enter_one.ensures.entries
          ∙ (ap (λ xs. xs ++ option_to_list (entry_on line (record { src = c.args.endpoint; dst = at }) c.args.resets)) c.loop-dst.invariant.entries
          ∙ (entries_next c.args.batch.now.entries lines c.args.endpoint c.args.resets at line here
          ∙ ap (λ xs. c.args.batch.now.entries ++ xs) (sym none)));
      limits = c.in_ok-enter_one.ensures.limits ∙ c.loop-dst.invariant.limits;
      above = above_upward c.enter_one.new.batch.entries c.args.endpoint (at + 1) next.result next.ensures.from c.in_ok-enter_one.ensures.above;
      most = next.ensures.most;
    }

pub returns-clause-entries : goal.returns-clause-entries
returns-clause-entries c =
    c.loop-dst.invariant.entries
    ∙ ap (λ xs. c.args.batch.now.entries ++ xs) (entries-end c.args.lines.now c.args.endpoint c.args.resets c.loop-dst.dst (omega (arith, c.loop-dst-test.false)))
