use Rattle.std.proofs.Common.{◌≡◌, List, [], ◌∷◌, ◌++◌, arith, ap, ◌∙◌}
use Rattle.std.proofs.lemmas.List.Elements.{All-nil, All-cons}
use Rattle.greedy_rules.specs.declared.flows.Entry.{Entry}
use Rattle.greedy_rules.specs.Batches.{DemandBatch}
use Rattle.greedy_rules.specs.Examples.{opening_entry, waiting}
use Rattle.fewest_order.proofs.RowLemmas.{Fits, one_rack, left_is, fits_next, below_next}
use Rattle.fewest_order.proofs.tests.the_flow_that_needs_least_goes_first.Goals as goal

pub order_batch-requires-2-clause-needs : goal.order_batch-requires-2-clause-needs
order_batch-requires-2-clause-needs g c =
    let asked : List Entry = opening_entry 0 1 3 ∷ opening_entry 0 2 1 ∷ [] in
    let limits : c.push-2.new.self.limits ≡ one_rack =
    c.in_ok-push-2.ensures.limits ∙ (c.in_ok-push.ensures.limits ∙ ap (λ (b : DemandBatch). b.limits) c.with_limits-batch.ensures) in
    let entries : c.push-2.new.self.entries ≡ asked =
    c.in_ok-push-2.ensures.ok
    ∙ (ap (λ (e : Entry). c.push.new.self.entries ++ e ∷ []) c.opening-2.ensures
    ∙ ap (λ (es : List Entry). es ++ opening_entry 0 2 1 ∷ [])
    (c.in_ok-push.ensures.ok ∙ (ap (λ (e : Entry). c.with_limits-batch.result.entries ++ e ∷ []) c.opening.ensures ∙ ap (λ (b : DemandBatch). b.entries ++ opening_entry 0 1 3 ∷ []) c.with_limits-batch.ensures))) in
    let left : c.order_batch.new.list.items ≡ waiting 0 2 0 1 ∷ waiting 0 1 2 2 ∷ [] =
    left_is 1 2 c.push-2.new.self.limits c.push-2.new.self.entries asked c.in_ok-list.list.items [] c.order_batch.new.list.items limits entries c.in_ok-list.ensures.empty c.in_ok-order_batch.ensures.list in
    fits_next c.with_limits-none.result.entries c.order_batch.new.list.items (waiting 0 2 0 1 ∷ waiting 0 1 2 2 ∷ []) (ap (λ (b : DemandBatch). b.entries) c.with_limits-none.ensures) left
    (All-cons Fits (waiting 0 2 0 1) (waiting 0 1 2 2 ∷ []) (omega arith) (All-cons Fits (waiting 0 1 2 2) [] (omega arith) (All-nil Fits)))

pub order_batch-requires-2-clause-endpoints : goal.order_batch-requires-2-clause-endpoints
order_batch-requires-2-clause-endpoints g c =
    below_next c.in_ok-out.out.endpoints c.order_batch.new.out.endpoints c.with_limits-none.result.entries c.order_batch.new.list.items
    (ap (λ (b : DemandBatch). b.entries) c.with_limits-none.ensures) c.in_ok-order_batch.ensures.endpoints c.in_ok-order_batch.ensures.in_range
