use Rattle.std.proofs.Common.{◌≡◌, ◌≤◌, ◌+◌, ℕ, sym, ap, ◌∙◌, subst}
use Rattle.replay_rounds.specs.Standing.{RoundsContent, AllRoundsStand, IsNextWindow}
use Rattle.replay_rounds.specs.contracts.rounds.ReplayRounds.{the_view}
use Rattle.replay_rounds.proofs.PublishedWindows.{MayPublish, may_publish_counted, next_counted, names_cores, stands_next, batch_count, whole, has_room}
use Rattle.replay_rounds.proofs.rounds.ReplayRounds.publish.Goals as goal

pub put-requires-clause-whole : goal.put-requires-clause-whole
put-requires-clause-whole c =
    let was : RoundsContent = the_view c.self.inside in
    let (trace, named, is_trace, stands, next) = subst (MayPublish c.args.count c.args.slots.now c.args.cores.now) (sym c.self.view_is)
    (may_publish_counted c.args.self.now c.count_published.new.self c.args.count c.args.slots.now c.args.cores.now c.count_published.ensures.frame c.count_published.ensures.stands c.requires.next) in
    whole c.counting_holds.ensures trace named was c.args.count c.args.slots.now c.args.cores.now is_trace stands next

pub put-requires-clause-room : goal.put-requires-clause-room
put-requires-clause-room c =
    let was : RoundsContent = the_view c.self.inside in
    let (trace, named, is_trace, stands, next) = subst (MayPublish c.args.count c.args.slots.now c.args.cores.now) (sym c.self.view_is)
    (may_publish_counted c.args.self.now c.count_published.new.self c.args.count c.args.slots.now c.args.cores.now c.count_published.ensures.frame c.count_published.ensures.stands c.requires.next) in
    has_room c.counting_holds.ensures trace named was c.args.count c.args.slots.now c.args.cores.now is_trace stands next
    (subst (λ (s : RoundsContent). c.args.count ≤ s.g) (sym (c.self.view_is ∙ c.count_published.ensures.frame)) c.requires.room)

pub put-requires-clause-cores : goal.put-requires-clause-cores
put-requires-clause-cores c =
    let was : RoundsContent = the_view c.self.inside in
    let (trace, named, is_trace, stands, next) = subst (MayPublish c.args.count c.args.slots.now c.args.cores.now) (sym c.self.view_is)
    (may_publish_counted c.args.self.now c.count_published.new.self c.args.count c.args.slots.now c.args.cores.now c.count_published.ensures.frame c.count_published.ensures.stands c.requires.next) in
    names_cores c.counting_holds.ensures trace named was c.args.count c.args.slots.now c.args.cores.now is_trace stands next

pub returns-clause-count : goal.returns-clause-count
returns-clause-count c =
    let was : RoundsContent = the_view c.self.inside in
    let (trace, named, is_trace, stands, next) = subst (MayPublish c.args.count c.args.slots.now c.args.cores.now) (sym c.self.view_is)
    (may_publish_counted c.args.self.now c.count_published.new.self c.args.count c.args.slots.now c.args.cores.now c.count_published.ensures.frame c.count_published.ensures.stands c.requires.next) in
    batch_count c.counting_holds.ensures trace named was c.args.count c.args.slots.now c.args.cores.now is_trace stands next c.put.new.self.count c.put.ensures.count

pub returns-clause-stands : goal.returns-clause-stands
returns-clause-stands c = λ trace named is_trace stood following.
    let was : RoundsContent = the_view c.self.inside in
    let old : RoundsContent = c.args.self.now in
    let mid : RoundsContent = c.count_published.new.self in
    let from : was ≡ record old { counted = old.published; lanes = mid.lanes } = c.self.view_is ∙ c.count_published.ensures.frame in
    let stands : AllRoundsStand trace named was = subst (AllRoundsStand trace named) (sym c.self.view_is) (c.count_published.ensures.stands trace named stood) in
    let next : IsNextWindow trace named was c.args.count c.args.slots.now c.args.cores.now =
    subst (λ (s : RoundsContent). IsNextWindow trace named s c.args.count c.args.slots.now c.args.cores.now) (sym c.self.view_is)
    (next_counted trace named old mid c.args.count c.args.slots.now c.args.cores.now c.count_published.ensures.frame following) in
    let counted : was.counted ≡ was.published = ap (λ (s : RoundsContent). s.counted) from ∙ sym (ap (λ (s : RoundsContent). s.published) from) in
    let behind = subst (λ (s : RoundsContent). s.published + c.args.count ≤ s.collected) (sym from) c.requires.collected in
    let served = c.requires.served ∙ sym (ap (λ (s : RoundsContent). s.endpoints) from) in
    let put = c.put.ensures in
    let counts = batch_count c.counting_holds.ensures trace named was c.args.count c.args.slots.now c.args.cores.now is_trace stands next c.put.new.self.count put.count in
    subst (λ (n : ℕ). AllRoundsStand trace named (record was { published = was.published + n; window = c.put.new.self })) (sym c.from.ensures)
    (stands_next c.counting_holds.ensures trace named was c.args.count c.args.slots.now c.args.cores.now is_trace stands next c.put.new.self counted behind served c.slots-slots.ensures.each
    put.endpoints put.batches put.b put.first counts put.slots)
