use Rattle.std.proofs.Common.{◌++◌, ◌∷◌, [], refl, sym, ap, ◌∙◌, subst}
use Rattle.slot_batches.specs.Feeding.{was_served, taken_up}
use Rattle.slot_batches.specs.Parts.{fill_of}
use Rattle.slot_batches.specs.ArrayStands.{ArrayState, HasBeenFed, MayBeFed, array_endpoints, array_first, array_size}
use Rattle.slot_batches.proofs.FinishLemmas.{may_feed, fed_one_more}
use Rattle.slot_batches.proofs.StandsLemmas.{stands_for_more}
use Rattle.slot_batches.proofs.array_stage.ArrayStage.feed.Goals as goal

pub open_due-requires-clause-fed : goal.open_due-requires-clause-fed
open_due-requires-clause-fed c =
    let fed = c.requires.may.0 in
    (fed, subst (λ (s : ArrayState). HasBeenFed c.args.batch.now fed s.fill s.unopened) (sym c.self.view_is) (c.requires.may.2.feeding refl))

pub serve-requires-clause-may : goal.serve-requires-clause-may
serve-requires-clause-may c =
    let batch = c.args.batch.now in
    let fed = c.requires.may.0 in
    let item = c.args.item in
    let old = fill_of c.self.inside.filling in
    let new = c.open_due.new.filling in
    let opens = c.open_due.ensures in
    let so_far : HasBeenFed batch fed old c.self.inside.unopened = subst (λ (s : ArrayState). HasBeenFed batch fed s.fill s.unopened) (sym c.self.view_is) (c.requires.may.2.feeding refl) in
    let may : MayBeFed batch.entries old.endpoints old.first_slot (fed ++ item ∷ []) =
    subst (λ (s : ArrayState). MayBeFed batch.entries (array_endpoints s) (array_first s) (fed ++ item ∷ [])) (sym c.self.view_is) c.requires.may.3 in (
      taken_up batch.entries fed (was_served item),
      opens.taken_up fed so_far,
      may_feed batch fed item c.with_near_entry-item.result old c.self.inside.unopened new.endpoints new.first_slot so_far may c.with_near_entry-item.ensures opens.same.same_endpoints opens.same.same_first,
    )

pub returns-clause-stands : goal.returns-clause-stands
returns-clause-stands c = λ fed given stands may_now.
    let batch = c.args.batch.now in
    let item = c.args.item in
    let view_is = c.self.view_is in
    let old = fill_of c.self.inside.filling in
    let mid = c.open_due.new.filling in
    let new = fill_of c.serve.new.self in
    let opens = c.open_due.ensures in
    let takes = c.serve.ensures in
    let so_far : HasBeenFed batch fed old c.self.inside.unopened = subst (λ (s : ArrayState). HasBeenFed batch fed s.fill s.unopened) (sym view_is) (stands.feeding refl) in
    let may : MayBeFed batch.entries old.endpoints old.first_slot (fed ++ item ∷ []) =
    subst (λ (s : ArrayState). MayBeFed batch.entries (array_endpoints s) (array_first s) (fed ++ item ∷ [])) (sym view_is) may_now in
    stands_for_more batch fed given item c.args.self.now _ stands
    (fed_one_more batch fed item c.with_near_entry-item.result old new c.self.inside.unopened c.open_due.new.unopened so_far may c.with_near_entry-item.ensures
    (takes.same.same_endpoints ∙ opens.same.same_endpoints) (takes.same.same_first ∙ opens.same.same_first) (takes.same.same_limits ∙ opens.same.same_limits)
    (takes.taken_up (taken_up batch.entries fed (was_served item)) (opens.taken_up fed so_far)
    (may_feed batch fed item c.with_near_entry-item.result old c.self.inside.unopened mid.endpoints mid.first_slot so_far may c.with_near_entry-item.ensures opens.same.same_endpoints opens.same.same_first))
    opens.unopened)
    (takes.same.same_first ∙ (opens.same.same_first ∙ ap array_first view_is)) (takes.same.same_b ∙ (opens.same.same_b ∙ ap array_size view_is))
    (ap (λ (s : ArrayState). s.marks) view_is) (ap (λ (s : ArrayState). s.given) view_is) (ap (λ (s : ArrayState). s.ends) view_is)
