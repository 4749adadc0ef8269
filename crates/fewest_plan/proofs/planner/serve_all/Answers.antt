use Rattle.std.proofs.Common.{◌≡◌, ◌<◌, ◌+◌, ◌*◌, ◌++◌, ℕ, List, length, take, drop, ap, ◌∙◌}
use Rattle.std.proofs.lemmas.List.{get_or_default}
use Rattle.greedy_rules.specs.declared.flows.Flow.{Flow}
use Rattle.greedy_rules.specs.declared.flows.Item.{Item}
use Rattle.greedy_rules.specs.Batches.{DemandBatch}
use Rattle.greedy_rules.specs.Demands.{after_batch_by}
use Rattle.greedy_rules.specs.Limits.{is_barred}
use Rattle.greedy_rules.specs.Allocation.{batch_slots, list_after_slots_by}
use Rattle.greedy_rules.specs.Schedule.{first_slot, slots_then_by, list_then_by, rest_from_by}
use Rattle.greedy_rules.specs.Examples.{remaining}
use Rattle.run_lines.specs.Text.{no_batch}
use Rattle.fewest_plan.specs.Barred.{batch_of_round}
use Rattle.fewest_plan.proofs.WindowLemmas.{rest_more, slots_more}
use Rattle.fewest_plan.proofs.planner.serve_all.Goals as goal

pub loop-at-preserved : goal.loop-at-preserved
loop-at-preserved c =
    let b : ℕ = c.args.b in
    let at : ℕ = c.loop-at.at in
    let batches : List DemandBatch = c.args.batches.now in
    let list : List Item = c.args.order.now.items in
    let left : List Item = rest_from_by remaining b c.args.first list (take at batches) in
    let below : at < length batches = c.loop-at-test.true in
    let batch : c.index-batches-at.result ≡ batch_of_round batches at = c.index-batches-at.is ∙ get_or_default batches at c.index-batches-at.result no_batch below in
    let number : (c.args.first + at) * c.from.result + 1 ≡ first_slot b (c.args.first + at) = ap (λ (n : ℕ). (c.args.first + at) * n + 1) c.from.ensures in
    let size : c.loop-at.order.b ≡ b = c.loop-at.invariant.same_b ∙ c.requires.b in
    let slots : c.slots.result.now.slots ≡ slots_then_by remaining b (c.args.first + at) (batch_of_round batches at) left =
    c.slots.ensures.slots
    ∙ (c.in_ok-serve.ensures.slots ∙ (λ i. batch_slots (is_barred (batch i).limits) (number i) (size i) (after_batch_by remaining (batch i).entries (c.loop-at.invariant.list i)))) in
    let items : c.serve.new.self.items ≡ list_then_by remaining b (c.args.first + at) (batch_of_round batches at) left =
    c.in_ok-serve.ensures.list ∙ (λ i. list_after_slots_by remaining (is_barred (batch i).limits) (number i) (size i) (after_batch_by remaining (batch i).entries (c.loop-at.invariant.list i))) in
    let count : length c.slots.result.now.slots ≡ b = c.slots.ensures.count ∙ (c.in_ok-serve.ensures.b ∙ size) in
    let place : at * c.from-in-loop-at.result ≡ at * b = ap (λ (n : ℕ). at * n) c.from-in-loop-at.ensures in
    let so_far : List (List Flow) = c.loop-at.slots.slots in
    let these : List (List Flow) = c.slots.result.now.slots in
    record {
      slots = slots_more b c.args.first at list batches c.args.slots.now.slots so_far these c.copy.new.self.slots below (c.schedules_by_key_go_on.ensures.more remaining) (c.schedules_by_key_go_on.ensures.count remaining)
          c.loop-at.invariant.slots slots count (c.copy.ensures.slots ∙ ap (λ (n : ℕ). (take n so_far ++ these) ++ drop (n + length these) so_far) place);
      list = items ∙ rest_more b c.args.first at list batches below (c.schedules_by_key_go_on.ensures.more remaining);
      endpoints = c.copy.ensures.endpoints ∙ c.loop-at.invariant.endpoints;
      same_endpoints = c.in_ok-serve.ensures.endpoints ∙ c.loop-at.invariant.same_endpoints;
      same_b = c.in_ok-serve.ensures.b ∙ c.loop-at.invariant.same_b;
    }
