use Rattle.std.proofs.Common.{◌≡◌, All, sym, subst, arith}
use Rattle.std.proofs.lemmas.List.Elements.{All-append}
use Rattle.greedy_rules.specs.declared.flows.Item.{Item}
use Rattle.window_allocation.proofs.batches.needs_none.Goals as goal

pub loop-few-preserved : goal.loop-few-preserved
loop-few-preserved c = λ rest.
    let P : Item → Type 0 = λ item. item.need ≡ 0 in
    let few = c.in-Some.few.now in
    let left = c.next.new.self.rest.now in
    c.loop-few.invariant (subst (All P) (sym c.in-Some.ensures.steps.1.0) (All-append P few left (c.needs_of.ensures (omega (arith, c.if-needs_of-gt0.false))) rest))
