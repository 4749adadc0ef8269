use Rattle.std.proofs.Common.{◌+◌, get_or, arith}
use Rattle.std.proofs.lemmas.Option.{slice_get-get_or}
use Rattle.arbiter_lane.specs.Lines.{IsEntered}
use Rattle.arbiter_lane.proofs.Entering.{still, changed_next}
use Rattle.arbiter_lane.proofs.Marking.{entered-none, entered-past, entered-all}
use Rattle.arbiter_lane.proofs.flows.settle.Goals as goal

pub loop-at-init : goal.loop-at-init
loop-at-init c =
    let lines = c.args.lines.now in
    let first = c.next_from-at in
    record {
      entered = entered-past c.args.risen.now lines lines 0 first.result c.requires.marked first.ensures.first (entered-none lines) (omega arith);
      most = first.ensures.most;
    }

pub settle-requires-clause-fits : goal.settle-requires-clause-fits
settle-requires-clause-fits c =
    let lines = c.loop-at.lines in
    let at = c.loop-at.at in
    let line = get_or lines at c.index-lines-at.result in
    let here = slice_get-get_or lines at c.index-lines-at.result c.loop-at-test.true in
    c.requires.can_rise.fits at line (still (λ dst. IsEntered) c.args.lines.now lines at line c.loop-at.invariant.entered here)

pub settle-requires-clause-risen : goal.settle-requires-clause-risen
settle-requires-clause-risen c =
    let lines = c.loop-at.lines in
    let at = c.loop-at.at in
    let line = get_or lines at c.index-lines-at.result in
    let here = slice_get-get_or lines at c.index-lines-at.result c.loop-at-test.true in
    c.requires.can_rise.entered at line (still (λ dst. IsEntered) c.args.lines.now lines at line c.loop-at.invariant.entered here)

pub loop-at-preserved : goal.loop-at-preserved
loop-at-preserved c =
    let lines = c.loop-at.lines in
    let at = c.loop-at.at in
    let next = c.next_from-at-in-loop-at in
    let here = slice_get-get_or lines at c.index-lines-at.result c.loop-at-test.true in
    let entered = changed_next (λ dst. IsEntered) c.args.lines.now lines at (get_or lines at c.index-lines-at.result) c.settle.new.self c.loop-at.invariant.entered here c.settle.ensures in
    record {
      entered = entered-past c.args.risen.now c.args.lines.now _ (at + 1) next.result c.requires.marked next.ensures.first entered next.ensures.from;
      most = next.ensures.most;
    }

pub returns : goal.returns
returns c =
    let long = c.loop-at.invariant.entered.as_many in
    entered-all c.args.lines.now c.loop-at.lines c.loop-at.at (omega (arith, c.loop-at-test.false, long)) c.loop-at.invariant.entered
