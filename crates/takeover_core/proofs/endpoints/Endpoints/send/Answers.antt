use Rattle.std.proofs.Common.{◌+◌, ◌++◌, ℕ, List, take, sym, ap, ◌∙◌, arith}
use Rattle.std.proofs.lemmas.List.{append_assoc}
use Rattle.takeover_history.specs.Endpoints.{Send, send_to, own_sends}
use Rattle.takeover_core.specs.Sending.{sends_in}
use Rattle.takeover_core.proofs.Sending.{own_sends-more, destination_in_range}
use Rattle.takeover_core.proofs.endpoints.Endpoints.send.Goals as goal

pub send_to-requires-clause-to : goal.send_to-requires-clause-to
send_to-requires-clause-to c =
    destination_in_range c.args.slots.now.endpoints c.loop-offset.self.counts.endpoints c.args.src c.loop-offset.offset c.args.slots.now.slots c.to-to.result c.slots-count.ensures.each (omega (arith, c.slots-count.ensures.count))
    c.to-to.ensures (c.requires.table ∙ sym c.loop-offset.invariant.endpoints)

pub loop-offset-preserved : goal.loop-offset-preserved
loop-offset-preserved c =
    let is = c.in_ok-send_to.ensures in
    let was = c.loop-offset.invariant in
    let before = sends_in c.args.self.now.sent.items in
    let slots = c.args.slots.now.slots in
    let k = c.loop-offset.offset in
    record {
      sent = is.sent
          ∙ (ap (λ (n : ℕ). sends_in c.loop-offset.self.sent.items ++ send_to c.args.src (c.args.first_slot + n) c.to-to.result) c.from.ensures
          ∙ (ap (λ (xs : List Send). xs ++ send_to c.args.src (c.args.first_slot + k) c.to-to.result) was.sent
          ∙ (append_assoc before (own_sends c.args.src c.args.first_slot (take k slots)) (send_to c.args.src (c.args.first_slot + k) c.to-to.result)
          ∙ ap (λ (xs : List Send). before ++ xs)
          (ap (λ o. own_sends c.args.src c.args.first_slot (take k slots) ++ send_to c.args.src (c.args.first_slot + k) o) c.to-to.ensures
          ∙ sym (own_sends-more c.args.src c.args.first_slot k slots (omega (arith, c.slots-count.ensures.count)))))));
      few = omega (arith, is.length, was.few);
      counted = is.counted;
      endpoints = is.endpoints ∙ was.endpoints;
      generations = is.generations ∙ was.generations;
      asked = is.asked ∙ was.asked;
      base = is.base ∙ was.base;
    }
