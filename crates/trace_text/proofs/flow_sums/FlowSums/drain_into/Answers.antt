use Rattle.std.proofs.Common.{◌≢◌, ◌<◌, ◌+◌, ◌/◌, ◌%◌, get_or, sum_by, subst, sym, ap, ◌∙◌, arith}
use Rattle.std.proofs.lemmas.List.Elements.{All-push}
use Rattle.trace_text.specs.Asks.{slots_asked, IsAmong}
use Rattle.trace_text.specs.FlowSums.{held_sum}
use Rattle.trace_text.proofs.FlowFacts.{handed-out, done-more, kept, held-none, none-above}
use Rattle.trace_text.proofs.flow_sums.FlowSums.drain_into.Goals as goal

pub loop-flow-preserved : goal.loop-flow-preserved
loop-flow-preserved c =
    let before = c.loop-flow.self in
    let after = c.take-slots.new.self in
    let flow = c.loop-flow.flow in
    let so_far = c.loop-flow.invariant in
    let long = so_far.tidy.flows in
    let low = c.loop-flow-test.true in
    let taken = c.take-slots.ensures.slots in
    let next = c.next_from-flow-in-loop-flow.ensures in
    record {
      tidy = c.take-slots.ensures.tidy;
      most = next.most;
      some = next.some;
      done = done-more before.slots.items after.slots.items flow c.next_from-flow-in-loop-flow.result long low taken so_far.done next.first;
      among = λ endpoints asks flows.
          let (all, each) = so_far.among endpoints asks flows in
          let some = so_far.some low in
          let here = each flow low some in (
            rw c.in_ok-push.ensures.items
                (All-push (IsAmong endpoints) c.loop-flow.summed.items _ all
                (record { src = here.0; dst = here.1; other = here.2; some = subst (λ n. 0 < n) (sym c.take-slots.ensures.number) some })),
            kept (λ k. (k / 256 < endpoints) × (k % 256 < endpoints) × (k / 256 ≢ k % 256)) before.slots.items after.slots.items flow long taken each,
          );
      sums = λ round src dst.
          ap (λ (xs : _). sum_by (slots_asked round src dst) xs + held_sum after round src dst) c.in_ok-push.ensures.items
          ∙ handed-out before.round flow before.slots.items c.loop-flow.summed.items round src dst low long after.round c.take-slots.result after.slots.items c.take-slots.ensures.round c.take-slots.ensures.number taken
          ∙ so_far.sums round src dst;
    }

pub returns-clause-none : goal.returns-clause-none
returns-clause-none c = λ flow low. c.loop-flow.invariant.done flow (omega (arith, low, c.loop-flow-test.false))

pub returns-clause-tidy : goal.returns-clause-tidy
returns-clause-tidy c =
    let tidy = c.loop-flow.invariant.tidy in
    let none = returns-clause-none c in
    record { flows = tidy.flows; rows = tidy.rows; marked = tidy.marked; asking = λ flow low some. none-above (get_or c.loop-flow.self.slots.items flow 0) some (none flow low) }

pub returns-clause-among : goal.returns-clause-among
returns-clause-among c = λ endpoints asks flows. (c.loop-flow.invariant.among endpoints asks flows).0

pub returns-clause-sums : goal.returns-clause-sums
returns-clause-sums c = λ round src dst.
    omega (arith, c.loop-flow.invariant.sums round src dst, held-none c.loop-flow.self.round c.loop-flow.self.slots.items round src dst (returns-clause-none c))
