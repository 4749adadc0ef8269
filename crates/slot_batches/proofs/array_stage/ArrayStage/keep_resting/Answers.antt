use Rattle.std.proofs.Common.{◌<◌, ◌++◌, false, take, refl, sym, ap, ◌∙◌, subst}
use Rattle.std.proofs.lemmas.List.Elements.{All-weaker}
use Rattle.list_facts.proofs.Lists.{all_back}
use Rattle.greedy_rules.specs.Demands.{AreBelow}
use Rattle.slot_batches.specs.Feeding.{taken_up}
use Rattle.slot_batches.specs.Marks.{AreMarked}
use Rattle.slot_batches.specs.Parts.{fill_of}
use Rattle.slot_batches.specs.Rests.{TakesNone, ItemRests}
use Rattle.slot_batches.specs.ArrayStands.{ArrayState, HasBeenFed, MayBeFed, array_endpoints, array_first}
use Rattle.slot_batches.proofs.FedLemmas.{may_feed_part}
use Rattle.slot_batches.proofs.RestLemmas.{may_keep, fed_run}
use Rattle.slot_batches.proofs.StandsLemmas.{stands_for_run}
use Rattle.slot_batches.proofs.array_stage.ArrayStage.keep_resting.Goals as goal

pub resting-count-requires-clause-below : goal.resting-count-requires-clause-below
resting-count-requires-clause-below c =
    let items = c.args.items.now in
    let inside = c.self.inside in
    let below : AreBelow inside.filling.endpoints items =
    subst (λ (s : ArrayState). AreBelow (array_endpoints s) items) (sym c.self.view_is)
    (all_back (λ item. (item.flow.src < array_endpoints c.args.self.now) × (item.flow.dst < array_endpoints c.args.self.now)) c.requires.may.0 items c.requires.may.3.in_range) in
    subst (λ n. AreBelow n items) (sym c.self.invariant.room.maps) below

pub keep-requires-clause-may : goal.keep-requires-clause-may
keep-requires-clause-may c =
    let batch = c.args.batch.now in
    let fed = c.requires.may.0 in
    let run = take c.resting-count.result c.args.items.now in
    let inside = c.self.inside in
    let old = fill_of inside.filling in
    let so_far : HasBeenFed batch fed old inside.unopened = subst (λ (s : ArrayState). HasBeenFed batch fed s.fill s.unopened) (sym c.self.view_is) (c.requires.may.2.feeding refl) in
    let may : MayBeFed batch.entries old.endpoints old.first_slot (fed ++ run) =
    subst (λ (s : ArrayState). MayBeFed batch.entries (array_endpoints s) (array_first s) (fed ++ run)) (sym c.self.view_is)
    (may_feed_part batch.entries (array_endpoints c.args.self.now) (array_first c.args.self.now) fed c.args.items.now c.resting-count.result c.requires.may.3) in
    let marked : AreMarked batch.entries c.deref.result.now = subst (AreMarked batch.entries) (ap (λ (s : ArrayState). s.marks) (sym c.self.view_is) ∙ sym c.deref.ensures.value) c.requires.may.2.marked in
    (taken_up batch.entries fed false, so_far.taken, may_keep batch fed run old inside.unopened so_far may (c.resting-count.ensures.rest marked))

pub keep-requires-clause-none : goal.keep-requires-clause-none
keep-requires-clause-none c =
    let batch = c.args.batch.now in
    let inside = c.self.inside in
    let marked : AreMarked batch.entries c.deref.result.now = subst (AreMarked batch.entries) (ap (λ (s : ArrayState). s.marks) (sym c.self.view_is) ∙ sym c.deref.ensures.value) c.requires.may.2.marked in
    All-weaker (ItemRests batch.entries inside.unopened inside.filling.maps) (TakesNone inside.filling.maps) (λ item rests. rests.takes_none) (take c.resting-count.result c.args.items.now)
    (c.resting-count.ensures.rest marked)

pub returns-then-count-gt0-clause-stands : goal.returns-then-count-gt0-clause-stands
returns-then-count-gt0-clause-stands c = λ fed given stands may_now.
    let batch = c.args.batch.now in
    let run = take c.resting-count.result c.args.items.now in
    let inside = c.self.inside in
    let view_is = c.self.view_is in
    let old = fill_of inside.filling in
    let new = fill_of c.keep.new.self in
    let same = c.keep.ensures.same in
    let so_far : HasBeenFed batch fed old inside.unopened = subst (λ (s : ArrayState). HasBeenFed batch fed s.fill s.unopened) (sym view_is) (stands.feeding refl) in
    let may : MayBeFed batch.entries old.endpoints old.first_slot (fed ++ run) =
    subst (λ (s : ArrayState). MayBeFed batch.entries (array_endpoints s) (array_first s) (fed ++ run)) (sym view_is)
    (may_feed_part batch.entries (array_endpoints c.args.self.now) (array_first c.args.self.now) fed c.args.items.now c.resting-count.result may_now) in
    let marked : AreMarked batch.entries c.deref.result.now = subst (AreMarked batch.entries) (ap (λ (s : ArrayState). s.marks) (sym view_is) ∙ sym c.deref.ensures.value) stands.marked in
    let rests = c.resting-count.ensures.rest marked in
    stands_for_run batch fed run run given c.args.self.now _ stands
    (fed_run batch fed run old new inside.unopened so_far may rests (c.keep.ensures.taken_up (taken_up batch.entries fed false) so_far.taken (may_keep batch fed run old inside.unopened so_far may rests))
    same.same_limits same.same_endpoints same.same_first)
    (c.keep.ensures.waiting ∙ ap (λ (s : ArrayState). s.fill.waiting ++ run) view_is) (ap (λ (s : ArrayState). s.marks) view_is) (ap (λ (s : ArrayState). s.given) view_is)
    (ap (λ (s : ArrayState). s.ends) view_is)
