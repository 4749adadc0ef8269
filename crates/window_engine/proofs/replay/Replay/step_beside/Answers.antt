use Rattle.std.proofs.Common.{◌≤◌, ◌+◌, ◌-◌, ◌*◌, ℕ, length, sym, ap, ◌∙◌, subst, min}
use Rattle.trace_run.specs.Run.{replayed}
use Rattle.replay_rounds.specs.Setting.{setting_of}
use Rattle.replay_rounds.specs.Played.{Played, rounds_played}
use Rattle.replay_rounds.specs.Standing.{RoundsContent, slots_between}
use Rattle.window_engine.specs.Replay.{ReplayState, replay_run}
use Rattle.window_allocation.specs.Standing.{Allocated, HasAllocated}
use Rattle.window_allocation.specs.Windows.{WindowContent, IsWindowOf, jobs_for}
use Rattle.window_allocation.specs.Giving.{HandsOn}
use Rattle.window_allocation.proofs.WindowLemmas.{ring_endpoints}
use Rattle.window_engine.proofs.ReplaySteps.{are_next, replay_allocated}
use Rattle.window_engine.proofs.ReplayPublish.{MayPublish, HasCores, seen_as, publishes_with, publish_next, publish_fits, lanes_after, stands_next}
use Rattle.window_engine.proofs.ReplayBeside.{may_allocate, collects_beside, next_beside}
use Rattle.window_engine.proofs.replay.Replay.step_beside.Goals as goal

pub play_beside-requires-clause-may_allocate : goal.play_beside-requires-clause-may_allocate
play_beside-requires-clause-may_allocate g c κs within =
    let (cores, stands) = c.requires.stands in
    may_allocate c.replays_hold.ensures c.args.trace.now cores c.args.self.now c.rounds-rounds.ensures.sound stands

pub publish-requires-clause-next : goal.publish-requires-clause-next
publish-requires-clause-next g c =
    let trace = c.args.trace.now in
    let old = c.args.self.now in
    let laws = c.replays_hold.ensures in
    let sound = c.rounds-rounds.ensures.sound in
    let (cores, stands) = c.requires.stands in
    let here = ap (λ (e : ReplayState). e.lanes) c.self-2.view_is in
    let collects = collects_beside trace old _ c.self-2.inside.lanes _ here c.in_ok-played.ensures.rounds in
    let next = next_beside laws trace cores old _ _ sound stands c.in_ok-played.ensures.given in
    subst (MayPublish c.self-2.inside.lanes) (sym (seen_as _ _ _ _ c.span.ensures c.slots.ensures c.cores.ensures)) (publish_next laws trace cores old c.self-2.inside.lanes c.in_ok-played.window sound stands collects next)

pub publish-requires-clause-collected : goal.publish-requires-clause-collected
publish-requires-clause-collected g c =
    let trace = c.args.trace.now in
    let old = c.args.self.now in
    let (cores, stands) = c.requires.stands in
    let here = ap (λ (e : ReplayState). e.lanes) c.self-2.view_is in
    let collects = collects_beside trace old _ c.self-2.inside.lanes _ here c.in_ok-played.ensures.rounds in
    let next = next_beside c.replays_hold.ensures trace cores old _ _ c.rounds-rounds.ensures.sound stands c.in_ok-played.ensures.given in
    let fits = publish_fits trace cores old c.self-2.inside.lanes c.in_ok-played.window stands collects next in
    subst (λ (w : WindowContent). c.self-2.inside.lanes.published + w.span.count ≤ c.self-2.inside.lanes.collected) (sym (seen_as _ _ _ _ c.span.ensures c.slots.ensures c.cores.ensures)) fits.0

pub publish-requires-clause-room : goal.publish-requires-clause-room
publish-requires-clause-room g c =
    let trace = c.args.trace.now in
    let old = c.args.self.now in
    let (cores, stands) = c.requires.stands in
    let here = ap (λ (e : ReplayState). e.lanes) c.self-2.view_is in
    let collects = collects_beside trace old _ c.self-2.inside.lanes _ here c.in_ok-played.ensures.rounds in
    let next = next_beside c.replays_hold.ensures trace cores old _ _ c.rounds-rounds.ensures.sound stands c.in_ok-played.ensures.given in
    let fits = publish_fits trace cores old c.self-2.inside.lanes c.in_ok-played.window stands collects next in
    subst (λ (w : WindowContent). w.span.count ≤ c.self-2.inside.lanes.g) (sym (seen_as _ _ _ _ c.span.ensures c.slots.ensures c.cores.ensures)) fits.1

pub end-requires-clause-stands : goal.end-requires-clause-stands
end-requires-clause-stands g c =
    let trace = c.args.trace.now in
    let old = c.args.self.now in
    let laws = c.replays_hold.ensures in
    let sound = c.rounds-rounds.ensures.sound in
    let (cores, stands) = c.requires.stands in
    let here = ap (λ (e : ReplayState). e.lanes) c.self-2.view_is in
    let collects = collects_beside trace old _ c.self-2.inside.lanes _ here c.in_ok-played.ensures.rounds in
    let next = next_beside laws trace cores old _ _ sound stands c.in_ok-played.ensures.given in
    let publishes = publishes_with c.self-2.inside.lanes c.publish.new.self _ _ (seen_as _ _ _ _ c.span.ensures c.slots.ensures c.cores.ensures) c.publish.ensures.frame c.publish.ensures.first c.publish.ensures.stands in
    let (run, named, is_trace, all, is) = publish_next laws trace cores old c.self-2.inside.lanes c.in_ok-played.window sound stands collects next in
    (run, named, publishes.stands run named is_trace all is)

pub end-requires-clause-allocated : goal.end-requires-clause-allocated
end-requires-clause-allocated g c =
    let trace = c.args.trace.now in
    let old = c.args.self.now in
    let (cores, stands) = c.requires.stands in
    let batches = (replayed (setting_of trace old.lanes.b old.lanes.g cores) old.lanes.collected).batches in
    let has = replay_allocated c.replays_hold.ensures trace cores old _ c.rounds-rounds.ensures.sound stands c.in_ok-played.ensures.given.stands in
    (trace.net, old.lanes.g, batches, subst (HasAllocated trace.net old.lanes.g batches) (sym (ap (λ (e : ReplayState). e.allocation) c.self-2.view_is)) has)

pub end-requires-clause-pending : goal.end-requires-clause-pending
end-requires-clause-pending g c =
    let trace = c.args.trace.now in
    let old = c.args.self.now in
    let (cores, stands) = c.requires.stands in
    let has = replay_allocated c.replays_hold.ensures trace cores old _ c.rounds-rounds.ensures.sound stands c.in_ok-played.ensures.given.stands in
    let serves = ap (λ (half : Allocated). half.ring.endpoints) (ap (λ (e : ReplayState). e.allocation) c.self-2.view_is) ∙ ring_endpoints _ _ _ _ has in
    let same = ap (λ (e : ReplayState). length e.pending) c.self-2.view_is ∙ ap (λ (e : ReplayState). length e.pending) c.in_ok-played.ensures.others in
    same ∙ (stands.pending_room ∙ sym (ap (λ (n : ℕ). n * n) serves))

pub returns-clause-published : goal.returns-clause-published
returns-clause-published g c =
    let trace = c.args.trace.now in
    let old = c.args.self.now in
    let (cores, stands) = c.requires.stands in
    let here = ap (λ (e : ReplayState). e.lanes) c.self-2.view_is in
    let collects = collects_beside trace old _ c.self-2.inside.lanes _ here c.in_ok-played.ensures.rounds in
    let next = next_beside c.replays_hold.ensures trace cores old _ _ c.rounds-rounds.ensures.sound stands c.in_ok-played.ensures.given in
    let publishes = publishes_with c.self-2.inside.lanes c.publish.new.self _ _ (seen_as _ _ _ _ c.span.ensures c.slots.ensures c.cores.ensures) c.publish.ensures.frame c.publish.ensures.first c.publish.ensures.stands in
    ap (λ (all : RoundsContent). all.published) c.end.ensures.lanes
    ∙ ap (λ (all : RoundsContent). all.published) (lanes_after trace cores old c.self-2.inside.lanes c.publish.new.self c.in_ok-played.window stands collects next publishes)

pub returns-clause-played : goal.returns-clause-played
returns-clause-played g c cores stands =
    let trace = c.args.trace.now in
    let old = c.args.self.now in
    c.in_ok-shared.ensures.ok
    ∙ (c.in_ok-played.ensures.rounds.played cores stands.lanes
    ∙ ap (λ (n : ℕ). rounds_played (setting_of trace old.lanes.b old.lanes.g cores) trace old.lanes.collected (min old.lanes.g (n - old.lanes.collected))) (sym stands.rounds))

pub returns-clause-span : goal.returns-clause-span
returns-clause-span g c =
    let (cores, stands) = c.requires.stands in
    let next = next_beside c.replays_hold.ensures c.args.trace.now cores c.args.self.now _ _ c.rounds-rounds.ensures.sound stands c.in_ok-played.ensures.given in
    ap (λ (w : WindowContent). w.span) c.in_ok-new.ensures.ok ∙ next.span

pub returns-clause-window : goal.returns-clause-window
returns-clause-window g c cores stands =
    let trace = c.args.trace.now in
    let old = c.args.self.now in
    let next = next_beside c.replays_hold.ensures trace cores old _ _ c.rounds-rounds.ensures.sound stands c.in_ok-played.ensures.given in
    subst (IsWindowOf trace.net old.lanes.b (slots_between (replay_run trace cores old) old.lanes.published old.lanes.collected)) (sym c.in_ok-new.ensures.ok) next.shows

pub returns-clause-jobs : goal.returns-clause-jobs
returns-clause-jobs g c =
    let old = c.args.self.now in
    let (cores, stands) = c.requires.stands in
    let next = are_next c.replays_hold.ensures c.args.trace.now cores old c.rounds-rounds.ensures.sound stands in
    let half = old.allocation in
    ap (λ (a : Allocated). a.paths.jobs) c.end.ensures.allocation
    ∙ (ap (λ (e : ReplayState). e.allocation.paths.jobs) c.self-2.view_is
    ∙ (c.in_ok-played.ensures.given.jobs
    ∙ (ap (λ (n : ℕ). half.paths.jobs + jobs_for n half.b half.paths.paths) next.number
    ∙ ap (λ (n : ℕ). half.paths.jobs + jobs_for (old.lanes.collected - old.lanes.published) n half.paths.paths) stands.size)))

pub returns-clause-shown : goal.returns-clause-shown
returns-clause-shown g c = λ named.
    let (cores, stands) = c.requires.stands in
    c.every_replay_shows.ensures (replay_run c.args.trace.now named c.args.self.now) stands.lanes.rounds.0 _

pub returns-clause-stands : goal.returns-clause-stands
returns-clause-stands g c cores stands named =
    let trace = c.args.trace.now in
    let old = c.args.self.now in
    let laws = c.replays_hold.ensures in
    let sound = c.rounds-rounds.ensures.sound in
    let here = ap (λ (e : ReplayState). e.lanes) c.self-2.view_is in
    let collects = collects_beside trace old _ c.self-2.inside.lanes _ here c.in_ok-played.ensures.rounds in
    let next = next_beside laws trace cores old _ _ sound stands c.in_ok-played.ensures.given in
    let publishes = publishes_with c.self-2.inside.lanes c.publish.new.self _ _ (seen_as _ _ _ _ c.span.ensures c.slots.ensures c.cores.ensures) c.publish.ensures.frame c.publish.ensures.first c.publish.ensures.stands in
    let batches = (replayed (setting_of trace old.lanes.b old.lanes.g cores) old.lanes.collected).batches in
    let half = c.end.ensures.allocation ∙ ap (λ (e : ReplayState). e.allocation) c.self-2.view_is in
    let has = replay_allocated laws trace cores old _ sound stands c.in_ok-played.ensures.given.stands in
    let pending = ap (λ (e : ReplayState). length e.pending) c.self-2.view_is ∙ ap (λ (e : ReplayState). length e.pending) c.in_ok-played.ensures.others in
    let rounds = ap (λ (e : ReplayState). e.rounds) c.self-2.view_is ∙ ap (λ (e : ReplayState). e.rounds) c.in_ok-played.ensures.others in
    let has_cores = subst (λ (w : WindowContent). HasCores old w cores) c.in_ok-new.ensures.ok named in
    stands_next laws trace cores old c.self-2.inside.lanes c.publish.new.self c.in_ok-played.window c.end.new.self sound stands collects next publishes has_cores c.end.ensures.lanes (c.end.ensures.stands trace cores)
    (c.end.ensures.rounds ∙ rounds) (c.end.ensures.waiting ∙ ap (λ (p : Played). p.batches) (c.in_ok-clone.ensures.cases ∙ (c.in_ok-shared.ensures.ok ∙ c.in_ok-played.ensures.rounds.played cores stands.lanes)))
    (subst (HasAllocated trace.net old.lanes.g batches) (sym half) has) (ap (λ (a : Allocated). a.b) half ∙ c.in_ok-played.ensures.given.b) (c.end.ensures.pending ∙ pending) c.end.ensures.ended c.end.ensures.counted

pub returns-clause-workers : goal.returns-clause-workers
returns-clause-workers g c =
    ap (λ (a : Allocated). a.ring.workers) c.end.ensures.allocation ∙ (ap (λ (e : ReplayState). e.allocation.ring.workers) c.self-2.view_is ∙ c.in_ok-played.ensures.given.workers)

pub returns-clause-paths : goal.returns-clause-paths
returns-clause-paths g c =
    ap (λ (a : Allocated). a.paths.paths) c.end.ensures.allocation ∙ (ap (λ (e : ReplayState). e.allocation.paths.paths) c.self-2.view_is ∙ c.in_ok-played.ensures.given.paths)

pub returns-clause-handed : goal.returns-clause-handed
returns-clause-handed g c =
    let old = c.args.self.now in
    let half = c.end.ensures.allocation ∙ ap (λ (e : ReplayState). e.allocation) c.self-2.view_is in
    subst (HandsOn old.allocation old.waiting c.end.new.self.allocation) (sym c.in_ok-new.ensures.ok)
    (subst (λ (a : Allocated). HandsOn old.allocation old.waiting a c.in_ok-played.window) (sym half) c.in_ok-played.ensures.given.handed)
