use Rattle.std.proofs.Common.{◌≡◌, ◌/◌, ◌%◌, ℕ, List, get_or, replicate, nat_lt, sym, ap, ◌∙◌, rules, arith}
use Rattle.std.proofs.lemmas.List.{get_or-replicate}
use Rattle.trace_text.proofs.FlowFacts.{none-above}
use Rattle.trace_text.proofs.flow_sums.FlowSums.new.Goals as goal

pub returns-clause-none : goal.returns-clause-none
returns-clause-none c = λ flow low.
    let none : ℕ = 0 in
    let items : c.in_ok-vec.field-0.items ≡ replicate 65536 none = c.in_ok-vec.ensures.items_if_clones_equal (λ y cloned. search rules) in
    ap (λ (xs : List ℕ). get_or xs flow 0) items ∙ get_or-replicate 65536 flow none 0 low

pub returns-clause-tidy : goal.returns-clause-tidy
returns-clause-tidy c =
    let slots = c.in_ok-vec.field-0 in
    let none = returns-clause-none c in
    record {
      flows = omega (arith, c.in_ok-vec.ensures.len, slots.ok.0);
      rows = omega (arith, c.loop.invariant.long, c.loop-test.false, c.loop.auto.counter-end);
      marked = λ flow low. c.loop.invariant.none (flow / 256) (flow % 256) (omega arith) ∙ sym (ap (λ (n : ℕ). nat_lt 0 n) (none flow low));
      asking = λ flow low some. none-above (get_or slots.items flow 0) some (none flow low);
    }
