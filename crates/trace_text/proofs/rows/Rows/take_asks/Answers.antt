use Rattle.std.proofs.Common.{◌∷◌, [], ◌++◌, length, sym, ap, ◌∙◌, refl, arith}
use Rattle.trace_text.specs.Trace.{rows_after}
use Rattle.trace_text.specs.Rows.{Row, Ask}
use Rattle.trace_text.specs.Lines.{records_in}
use Rattle.trace_text.specs.Standing.{AwaitsAsks}
use Rattle.trace_text.proofs.TraceFacts.{rows_after-ok}
use Rattle.trace_text.proofs.EndFacts.{record-here}
use Rattle.trace_text.proofs.RowFacts.{length-more}
use Rattle.trace_text.proofs.SoundFacts.{ask-sound}
use Rattle.trace_text.proofs.WholeLineFacts.{one-less}
use Rattle.trace_text.proofs.rows.Rows.take_asks.Goals as goal

pub loop-ask-init : goal.loop-ask-init
loop-ask-init c = record {
  kept = c.requires.stands;
  within = rw (← c.round.ensures) (c.awaits_asks.ensures c.if-not-awaits_asks.false);
  rows = λ before s. (before, s, λ more. refl, λ more. refl);
  room = refl;
  fewer = omega arith;
}

pub is_sound-requires : goal.is_sound-requires
is_sound-requires c = c.loop-ask.invariant.kept

pub returns-then-not-is_sound-clause-rows : goal.returns-then-not-is_sound-clause-rows
returns-then-not-is_sound-clause-rows c = c.loop-ask.invariant.rows

pub returns-then-not-is_sound-clause-fewer : goal.returns-then-not-is_sound-clause-fewer
returns-then-not-is_sound-clause-fewer c = c.loop-ask.invariant.fewer

pub add_ask-requires-clause-stands : goal.add_ask-requires-clause-stands
add_ask-requires-clause-stands c = c.loop-ask.invariant.kept

pub add_ask-requires-clause-allowed : goal.add_ask-requires-clause-allowed
add_ask-requires-clause-allowed c = c.is_sound.ensures c.if-not-is_sound.false (omega (arith, c.loop-ask.invariant.within.same, c.in-Some.ensures.round))

pub add_ask-requires-clause-room : goal.add_ask-requires-clause-room
add_ask-requires-clause-room c = omega (arith, c.loop-ask.invariant.room, c.requires.room)

pub add_ask-requires-clause-turned : goal.add_ask-requires-clause-turned
add_ask-requires-clause-turned c = c.loop-ask.invariant.within.turned ∙ sym c.in-Some.ensures.round

pub loop-ask-preserved : goal.loop-ask-preserved
loop-ask-preserved c =
    let (fields, row, found) = c.in-Some.ensures.ask in
    let here = ap length (record-here c.loop-ask.rest.now c.in-Some.more.now fields found) in
    let (before, s) = c.loop-ask.invariant.kept in
    let within : AwaitsAsks c.args.command c.in-Some.ask.round c.loop-ask.self = rw c.in-Some.ensures.round c.loop-ask.invariant.within in
    let allowed = c.is_sound.ensures c.if-not-is_sound.false (omega (arith, c.loop-ask.invariant.within.same, c.in-Some.ensures.round)) in
    let ask : Row = Ask c.in-Some.ask.round c.in-Some.ask.src c.in-Some.ask.dst c.in-Some.ask.slots in
    record {
      kept = (before ++ ask ∷ [], c.add_ask.ensures.rows before s);
      within = rw (← c.in-Some.ensures.round) (c.add_ask.ensures.within c.args.command within);
      rows = λ before s.
          let (after, stands, same, count) = c.loop-ask.invariant.rows before s in
          let read = ask-sound c.args.command after fields c.in-Some.ask c.loop-ask.self stands within row allowed in (
            after ++ ask ∷ [],
            c.add_ask.ensures.rows after stands,
            λ more. same more ∙ ap (λ l. rows_after c.args.command l after) (found more) ∙ rows_after-ok c.args.command fields (records_in (c.in-Some.more.now ++ more)) after ask read,
            λ more. omega (arith, count more, length-more after ask, ap length (found more)),
          );
      room = omega (arith, c.loop-ask.invariant.room, c.add_ask.ensures.count, here);
      fewer = omega (arith, c.loop-ask.invariant.fewer, here);
    }

pub returns-clause-rows : goal.returns-clause-rows
returns-clause-rows c = c.loop-ask.invariant.rows

pub returns-clause-fewer : goal.returns-clause-fewer
returns-clause-fewer c = c.loop-ask.invariant.fewer

pub loop-ask-smaller : goal.loop-ask-smaller
loop-ask-smaller c =
    let (fields, row, found) = c.in-Some.ensures.ask in
    one-less c.loop-ask.rest.now c.in-Some.more.now fields found
