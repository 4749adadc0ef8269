use Rattle.std.proofs.Common.{◌≡◌, ◌++◌, ℕ, Bool, false, true, List, take, sym, ap, ◌∙◌, subst, arith}
use Rattle.std.proofs.lemmas.List.{append-nil}
use Rattle.greedy_rules.specs.declared.flows.Item.{Item}
use Rattle.greedy_rules.specs.Demands.{opened}
use Rattle.slot_batches.specs.Feeding.{taken_up}
use Rattle.slot_batches.specs.Filled.{HasTakenUp}
use Rattle.slot_batches.specs.Parts.{fill_of}
use Rattle.slot_batches.proofs.StageLemmas.{open_now}
use Rattle.slot_batches.proofs.FinishLemmas.{may_open_now}
use Rattle.slot_batches.proofs.opening.open_due.Goals as goal

pub open_flows-requires-clause-may : goal.open_flows-requires-clause-may
open_flows-requires-clause-may c =
    let fed = c.requires.fed.0 in
    let so_far = c.requires.fed.1 in
    (taken_up c.args.batch.now.entries fed false, so_far.taken, may_open_now c.args.batch.now fed (fill_of c.args.filling.now) c.args.unopened.now so_far)

pub returns-then-unopened-gt0-clause-taken_up : goal.returns-then-unopened-gt0-clause-taken_up
returns-then-unopened-gt0-clause-taken_up c = λ fed so_far.
    let batch = c.args.batch.now in
    let now = fill_of c.open_flows.new.filling in
    subst (λ (due : Bool). HasTakenUp (taken_up batch.entries fed due) now) (sym c.if-due.true)
    (subst (λ (xs : List Item). HasTakenUp xs now) (open_now batch.entries fed c.args.unopened.now so_far.unopened_is)
    (c.open_flows.ensures.taken_up (taken_up batch.entries fed false) so_far.taken (may_open_now batch fed (fill_of c.args.filling.now) c.args.unopened.now so_far)))

pub returns-else-unopened-gt0-clause-taken_up : goal.returns-else-unopened-gt0-clause-taken_up
returns-else-unopened-gt0-clause-taken_up c = λ fed so_far.
    let entries = c.args.batch.now.entries in
    let none : c.args.unopened.now ≡ 0 = omega (arith, c.if-unopened-gt0.false) in
    let same : taken_up entries fed false ≡ taken_up entries fed true =
    sym (append-nil (taken_up entries fed false))
    ∙ (ap (λ (n : ℕ). taken_up entries fed false ++ opened (take n entries)) (sym none) ∙ open_now entries fed c.args.unopened.now so_far.unopened_is) in
    subst (λ (xs : List Item). HasTakenUp xs (fill_of c.args.filling.now)) (same ∙ ap (taken_up entries fed) (sym c.if-due.true)) so_far.taken
