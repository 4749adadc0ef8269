use Rattle.std.proofs.Common.{get_or, refl, arith}
use Rattle.std.proofs.lemmas.List.Sums.{sum_by_more, sum_by_more_le}
use Rattle.trace_text.specs.Asks.{slots_asked}
use Rattle.trace_text.specs.declared.ask.Ask.{Ask}
use Rattle.trace_text.proofs.AskFacts.{slots_asked-own}
use Rattle.trace_text.proofs.FlowFacts.{held-own, held-added, added-among}
use Rattle.trace_text.proofs.flow_sums.sum_rounds.Goals as goal

pub add-requires-clause-fits : goal.add-requires-clause-fits
add-requires-clause-fits c =
    let i = c.loop-ask.ask-index in
    let ask = get_or c.args.asks.now i (record { round = 0; src = 0; dst = 0; slots = 0 }) in
    let small = c.requires.small i (record { round = 0; src = 0; dst = 0; slots = 0 }) c.loop-ask-test.true in
    omega (
      arith,
      c.in_ok-turn_to.ensures.sums ask.round ask.src ask.dst,
      c.loop-ask.invariant.sums ask.round ask.src ask.dst,
      held-own ask c.turn_to.new.self.round c.turn_to.new.self.slots.items small.src small.dst c.in_ok-turn_to.ensures.round,
      slots_asked-own ask ask (refl, refl, refl),
      sum_by_more_le (slots_asked ask.round ask.src ask.dst) c.args.asks.now i (record { round = 0; src = 0; dst = 0; slots = 0 }) c.loop-ask-test.true,
      c.requires.bounded ask.round ask.src ask.dst,
    )

pub loop-ask-preserved : goal.loop-ask-preserved
loop-ask-preserved c =
    let i = c.loop-ask.ask-index in
    let none : Ask = record { round = 0; src = 0; dst = 0; slots = 0 } in
    let ask = get_or c.args.asks.now i none in
    let within = c.loop-ask-test.true in
    let small = c.requires.small i none within in
    let turned = c.turn_to.new.self in
    let long = c.in_ok-turn_to.ensures.tidy.flows in
    let after = c.add.new.self in
    record {
      tidy = c.add.ensures.tidy;
      among = λ endpoints asks.
          let (all, each) = c.loop-ask.invariant.among endpoints asks in
          let (all2, each2) = c.in_ok-turn_to.ensures.among endpoints all each in (
            all2,
            added-among endpoints ask turned.slots.items after.slots.items _ small (asks i none within) c.add.ensures.slots each2,
          );
      sums = λ round src dst.
          omega (
            arith,
            held-added ask turned.round after.round turned.slots.items after.slots.items round src dst small.src small.dst long c.in_ok-turn_to.ensures.round c.add.ensures.round c.add.ensures.slots,
            c.in_ok-turn_to.ensures.sums round src dst,
            c.loop-ask.invariant.sums round src dst,
            sum_by_more (slots_asked round src dst) c.args.asks.now i none within,
          );
    }

pub returns-clause-among : goal.returns-clause-among
returns-clause-among c = λ endpoints asks. let (all, each) = c.loop-ask.invariant.among endpoints asks in c.in_ok-drain_into.ensures.among endpoints all each
