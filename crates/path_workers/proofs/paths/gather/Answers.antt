use Rattle.std.proofs.Common.{ℕ, List, Option, length, sym, ap, ◌∙◌, subst, arith}
use Rattle.clos_topology.specs.Network.{endpoints_of}
use Rattle.edge_colouring.specs.Cores.{core_in}
use Rattle.path_workers.specs.declared.painter.Painter.{Painter}
use Rattle.path_workers.specs.Painters.{MayPaint}
use Rattle.path_workers.proofs.GatherLemmas.{HaveGiven, begin_given, one_given, all_given, still_room}
use Rattle.path_workers.proofs.paths.gather.Goals as goal

pub loop-painter-init : goal.loop-painter-init
loop-painter-init c = record {
  given = λ net table may nets. begin_given net table c.args.painters.now c.clear.new.self c.clear.ensures.empty;
  room = c.clear.ensures.room;
}

pub give_rows-requires-clause-may : goal.give_rows-requires-clause-may
give_rows-requires-clause-may c =
    let painted = c.requires.painted in
    (painted.0, subst (MayPaint painted.0) (sym c.painter-item.is) (painted.2 c.loop-painter.painter-index c.painter-item.result c.loop-painter-test.true), omega (arith, painted.1, c.loop-painter.invariant.room.slots))

pub give_rows-requires-clause-endpoint_room : goal.give_rows-requires-clause-endpoint_room
give_rows-requires-clause-endpoint_room c =
    omega (
      arith,
      c.requires.endpoint_room c.loop-painter.painter-index c.painter-item.result c.loop-painter-test.true,
      ap (λ (painter : Painter). endpoints_of painter.net) c.painter-item.is,
      c.loop-painter.invariant.room.endpoints,
    )

pub loop-painter-preserved : goal.loop-painter-preserved
loop-painter-preserved c =
    let painters : List Painter = c.args.painters.now in
    let painter : Painter = c.painter-item.result in
    let at : ℕ = c.loop-painter.painter-index in
    record {
      given = λ net table may nets.
          one_given net table painters at painter c.loop-painter.out c.give_rows.new.out (c.loop-painter.invariant.given net table may nets) c.loop-painter-test.true (sym c.painter-item.is) (ap (λ (p : Painter). p.net) c.painter-item.is ∙ nets at painter c.loop-painter-test.true)
          (c.give_rows.ensures.given table (subst (MayPaint table) (sym c.painter-item.is) (may at painter c.loop-painter-test.true)));
      room = still_room c.args.out.now c.loop-painter.out c.give_rows.new.out c.loop-painter.invariant.room c.give_rows.ensures.room;
    }

pub returns-clause-coloured : goal.returns-clause-coloured
returns-clause-coloured c net table may nets have at below =
    let painters : List Painter = c.args.painters.now in
    let all : HaveGiven net table painters (length painters) c.loop-painter.out = subst (λ (n : ℕ). HaveGiven net table painters n c.loop-painter.out) (omega (arith, c.loop-painter-test.false, c.loop-painter.auto.painter-index-end)) (c.loop-painter.invariant.given net table may nets) in
    all_given net table painters c.loop-painter.out at all below (have at below)

pub returns-clause-past : goal.returns-clause-past
returns-clause-past c net table may nets at above source = ap (λ (row : List (Option ℕ)). core_in row source) ((c.loop-painter.invariant.given net table may nets).rows.past at above)
