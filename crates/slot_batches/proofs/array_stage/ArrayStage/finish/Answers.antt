use Rattle.std.proofs.Common.{refl, sym, ap, ◌∙◌, subst}
use Rattle.greedy_rules.specs.SlotTable.{Slots}
use Rattle.slot_batches.specs.Parts.{fill_of}
use Rattle.slot_batches.specs.ArrayStands.{ArrayState, HasBeenFed, array_first, array_size}
use Rattle.slot_batches.proofs.StandsLemmas.{stands_finished}
use Rattle.slot_batches.proofs.array_stage.ArrayStage.finish.Goals as goal

pub open_due-requires-clause-fed : goal.open_due-requires-clause-fed
open_due-requires-clause-fed c =
    let fed = c.requires.0 in
    (fed, subst (λ (s : ArrayState). HasBeenFed c.args.batch.now fed s.fill s.unopened) (sym c.self.view_is) (c.requires.2.feeding refl))

pub returns-clause-stands : goal.returns-clause-stands
returns-clause-stands c = λ fed given stands.
    let batch = c.args.batch.now in
    let view_is = c.self.view_is in
    let old = fill_of c.self.inside.filling in
    let mid = fill_of c.open_due.new.filling in
    let opens = c.open_due.ensures in
    let ends = c.end.ensures in
    let so_far : HasBeenFed batch fed old c.self.inside.unopened = subst (λ (s : ArrayState). HasBeenFed batch fed s.fill s.unopened) (sym view_is) (stands.feeding refl) in
    stands_finished batch fed given c.args.self.now _ mid stands (opens.taken_up fed so_far)
    (opens.same.same_limits ∙ ap (λ (s : ArrayState). s.fill.maps.limits) view_is) (opens.same.same_endpoints ∙ ap (λ (s : ArrayState). s.fill.endpoints) view_is)
    (opens.same.same_first ∙ ap array_first view_is) (opens.same.same_b ∙ ap array_size view_is) (ap (λ (t : Slots). t.slots) ends.slots) ends.list
    (ends.same.same_first ∙ (opens.same.same_first ∙ ap array_first view_is)) (ends.same.same_b ∙ (opens.same.same_b ∙ ap array_size view_is))
    (ap (λ (s : ArrayState). s.marks) view_is) (ap (λ (s : ArrayState). s.given) view_is) refl
