use Rattle.std.proofs.Common.{◌≡◌, ◌<◌, ◌++◌, ◌∷◌, [], List, ℕ, Option, None, length, take, get_or, sym, subst, arith}
use Rattle.std.proofs.lemmas.List.{take_all}
use Rattle.std.proofs.lemmas.Option.{get_or_from_slice_get, slice_get-get_or}
use Rattle.greedy_rules.specs.SlotTable.{flows_from}
use Rattle.clos_topology.specs.Network.{Network, endpoints_of}
use Rattle.schedule_audit.specs.Lines.{Place}
use Rattle.schedule_audit.specs.Walked.{in_slot, StandApart, FlowsAreBetween}
use Rattle.schedule_audit.proofs.WalkSteps.{cell-between, cells-before, row-step, same-text}
use Rattle.schedule_audit.proofs.passing.hold_row.Goals as goal

pub hold_cell-requires-clause-flows : goal.hold_cell-requires-clause-flows
hold_cell-requires-clause-flows c =
    let row = c.args.row.now in
    let src = c.loop-src.src in
    let within : src < length row = omega (arith, c.loop-src-test.true, c.requires.row) in
    subst (λ (net : Network). FlowsAreBetween (endpoints_of net) (flows_from src (get_or row src None ∷ []))) (sym c.loop-src.invariant.text.net)
    (cell-between (endpoints_of c.args.judges.now.net) src row (get_or row src None) within (sym (get_or_from_slice_get row src (get_or row src None) (get_or row src None) (slice_get-get_or row src None within))) c.requires.flows)

pub hold_cell-requires-clause-stands : goal.hold_cell-requires-clause-stands
hold_cell-requires-clause-stands c =
    let row = c.args.row.now in
    let src = c.loop-src.src in
    let (held, counted, before, apart) = c.requires.stands in (
      held ++ in_slot c.args.slot (flows_from 0 (take src row)),
      counted,
      cells-before c.args.slot src held row (omega (arith, c.loop-src-test.true, c.requires.row)) before,
      c.loop-src.invariant.stands held counted before apart,
    )

pub loop-src-preserved : goal.loop-src-preserved
loop-src-preserved c =
    let row = c.args.row.now in
    let src = c.loop-src.src in
    let within : src < length row = omega (arith, c.loop-src-test.true, c.requires.row) in
    let to : Option ℕ = get_or row src None in
    record {
      stands = λ held counted before apart.
          subst (λ (ps : List Place). StandApart ps counted c.hold_cell.new.judges) (row-step c.args.slot src held row to within (sym (get_or_from_slice_get row src to to (slice_get-get_or row src None within))))
          (c.hold_cell.ensures.stands (held ++ in_slot c.args.slot (flows_from 0 (take src row))) counted
          (cells-before c.args.slot src held row (omega (arith, within)) before) (c.loop-src.invariant.stands held counted before apart));
      text = same-text c.args.judges.now c.loop-src.judges c.hold_cell.new.judges c.loop-src.invariant.text c.hold_cell.ensures.text;
    }

pub returns-clause-stands : goal.returns-clause-stands
returns-clause-stands c = λ held counted before apart.
    let row = c.args.row.now in
    let all : take c.loop-src.src row ≡ row = take_all c.loop-src.src row (omega (arith, c.loop-src-test.false, c.requires.row)) in
    subst (λ (xs : List (Option ℕ)). StandApart (held ++ in_slot c.args.slot (flows_from 0 xs)) counted c.loop-src.judges) all (c.loop-src.invariant.stands held counted before apart)
