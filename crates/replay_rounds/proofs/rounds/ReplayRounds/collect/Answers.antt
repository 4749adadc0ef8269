use Rattle.std.proofs.Common.{◌≡◌, ◌+◌, ◌-◌, ℕ, List, length, min, sym, ap, ◌∙◌, subst, arith}
use Rattle.std.specs.Vec.{with_items}
use Rattle.std.proofs.lemmas.List.{with_items_is}
use Rattle.lane_rounds.specs.State.{RoundsState}
use Rattle.replay_rounds.specs.Setting.{setting_of}
use Rattle.replay_rounds.specs.Played.{Played, rounds_played}
use Rattle.replay_rounds.specs.Standing.{RoundsContent, setting_with}
use Rattle.replay_rounds.specs.Collecting.{published_by, setting_by, LanesStand}
use Rattle.replay_rounds.specs.contracts.rounds.ReplayRounds.{the_view}
use Rattle.replay_rounds.proofs.WindowLemmas.{begins, may_collect_rounds, next_window}
use Rattle.replay_rounds.proofs.rounds.ReplayRounds.collect.Goals as goal

pub collect-requires-clause-may : goal.collect-requires-clause-may
collect-requires-clause-may g c κs inside =
    let trace = c.args.trace.now in
    let all : RoundsContent = the_view c.self.inside in
    let count_is : c.min-count.result ≡ min all.g (trace.rounds - all.collected) = omega (arith, c.min-count.ensures, c.from.ensures, c.rounds.ensures.number) in
    let (cores, stood) = c.requires.stands in
    let begun = begins c.steps_go_on.ensures.published trace c.rounds.ensures.sound all c.args.self.now c.self.view_is c.requires.windows c.min-count.result count_is c.deref_mut.result.now c.deref_mut.ensures.value cores stood in
    (cores, may_collect_rounds _ cores c.deref_mut.result.now c.rounds.ensures.sound begun.may begun.counted begun.within begun.stand)

pub returns-clause-stands : goal.returns-clause-stands
returns-clause-stands g c = λ cores stood.
    let trace = c.args.trace.now in
    let all : RoundsContent = the_view c.self.inside in
    let count = c.min-count.result in
    let count_is : count ≡ min all.g (trace.rounds - all.collected) = omega (arith, c.min-count.ensures, c.from.ensures, c.rounds.ensures.number) in
    let begun = begins c.steps_go_on.ensures.published trace c.rounds.ensures.sound all c.args.self.now c.self.view_is c.requires.windows count count_is c.deref_mut.result.now c.deref_mut.ensures.value cores stood in
    let kept : length c.collect.new.lanes ≡ c.self.inside.lanes.len = c.collect.auto.lanes ∙ (ap length c.deref_mut.ensures.value ∙ sym c.self.inside.lanes.ok.0) in
    let same : (with_items c.self.inside.lanes c.collect.new.lanes).items ≡ c.collect.new.lanes = with_items_is c.self.inside.lanes c.collect.new.lanes kept in
    next_window trace cores all begun.stood count (with_items c.self.inside.lanes c.collect.new.lanes).items begun.within
    (subst (λ (lanes : List RoundsState). LanesStand (setting_by trace all.g cores all.window) (all.collected + count) (published_by all.window) lanes) (sym same)
    (c.in_ok-played.ensures.lanes cores (may_collect_rounds _ cores c.deref_mut.result.now c.rounds.ensures.sound begun.may begun.counted begun.within begun.stand)))

pub returns-clause-played : goal.returns-clause-played
returns-clause-played g c = λ cores stood.
    let trace = c.args.trace.now in
    let all : RoundsContent = the_view c.self.inside in
    let played : Played = c.in_ok-played.played in
    let count_is : c.min-count.result ≡ min all.g (trace.rounds - all.collected) = omega (arith, c.min-count.ensures, c.from.ensures, c.rounds.ensures.number) in
    let begun = begins c.steps_go_on.ensures.published trace c.rounds.ensures.sound all c.args.self.now c.self.view_is c.requires.windows c.min-count.result count_is c.deref_mut.result.now c.deref_mut.ensures.value cores stood in
    subst (λ (r : RoundsContent). played ≡ rounds_played (setting_with trace cores r) trace r.collected (min r.g (trace.rounds - r.collected))) c.self.view_is
    (c.in_ok-played.ensures.played cores (may_collect_rounds _ cores c.deref_mut.result.now c.rounds.ensures.sound begun.may begun.counted begun.within begun.stand)
    ∙ (ap (λ (n : ℕ). rounds_played (setting_by trace all.g cores all.window) trace all.collected n) count_is
    ∙ ap (λ (b : ℕ). rounds_played (setting_of trace b all.g cores) trace all.collected (min all.g (trace.rounds - all.collected))) begun.stood.size))
