use Rattle.std.proofs.Common.{◌≡◌, ℕ, List, length, sym, ap, ◌∙◌, subst, arith}
use Rattle.std.proofs.lemmas.List.{with_items_is}
use Rattle.lane_rounds.specs.State.{RoundsState}
use Rattle.trace_run.specs.Run.{Setting}
use Rattle.replay_rounds.specs.Standing.{RoundsContent, AllRoundsStand, setting_with}
use Rattle.replay_rounds.specs.Publishing.{EachLaneStands}
use Rattle.replay_rounds.specs.contracts.rounds.ReplayRounds.{the_view}
use Rattle.replay_rounds.proofs.PublishedWindows.{is_published, stands_counted}
use Rattle.replay_rounds.proofs.rounds.ReplayRounds.count_published.Goals as goal

pub count_slots-requires-clause-published : goal.count_slots-requires-clause-published
count_slots-requires-clause-published c =
    let all : RoundsContent = the_view c.self.inside in
    let (trace, cores, stood) = c.requires.stands in
    let stands : AllRoundsStand trace cores all = subst (AllRoundsStand trace cores) (sym c.self.view_is) stood in
    let setting : Setting = setting_with trace cores all in (
      setting,
      all.collected,
      is_published trace cores all stands (omega (arith, c.collected-collected.type_inv, c.collected-collected.ensures, ap (λ (r : RoundsContent). r.collected) c.self.view_is)),
      subst (EachLaneStands setting all.collected all.counted) (sym c.deref_mut.ensures.value) stands.lanes,
    )

pub returns-clause-stands : goal.returns-clause-stands
returns-clause-stands c = λ trace cores stood.
    let all : RoundsContent = the_view c.self.inside in
    let stands : AllRoundsStand trace cores all = subst (AllRoundsStand trace cores) (sym c.self.view_is) stood in
    let setting : Setting = setting_with trace cores all in
    let new : List RoundsState = c.count_slots.new.lanes in
    let same : c.deref_mut.result.now ≡ all.lanes = c.deref_mut.ensures.value in
    let long : length new ≡ length all.lanes = c.count_slots.ensures.lanes ∙ ap length same in
    let counted : EachLaneStands setting all.collected all.published new =
    subst (λ (n : ℕ). EachLaneStands setting all.collected n new) stands.held
    (c.count_slots.ensures.stands setting all.collected (is_published trace cores all stands (omega (arith, c.collected-collected.type_inv, c.collected-collected.ensures, ap (λ (r : RoundsContent). r.collected) c.self.view_is)))
    (subst (EachLaneStands setting all.collected all.counted) (sym same) stands.lanes)) in
    let written = with_items_is c.self.inside.lanes new (long ∙ sym c.self.inside.lanes.ok.0) in
    subst (λ (xs : List RoundsState). AllRoundsStand trace cores (record all { counted = all.published; lanes = xs })) (sym written)
    (stands_counted trace cores all new stands long counted)
