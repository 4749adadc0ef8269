use Rattle.std.proofs.Common.{◌≡◌, ◌<◌, ◌+◌, ◌++◌, ℕ, List, arith, refl, sym, ap, ◌∙◌, subst}
use Rattle.fcp_framing.specs.declared.packet.Told.{Told}
use Rattle.greedy_rules.specs.Batches.{IsAboveLast}
use Rattle.lane_rounds.specs.AgentLines.{slots_sent}
use Rattle.replay_rounds.specs.declared.played.Departure.{Departure}
use Rattle.replay_rounds.specs.Played.{departures_from}
use Rattle.replay_rounds.specs.Departures.{by_slot}
use Rattle.replay_rounds.specs.Collecting.{RoundPart, MayBeTold, refused_of, with_endpoint, setting_by, published_by}
use Rattle.replay_rounds.specs.Standing.{LaneStands}
use Rattle.replay_rounds.proofs.PlayLemmas.{may_play, may_play_round, ready, next_stands, entries_are, sends_are, refused_are, same_part}
use Rattle.replay_rounds.proofs.part.RoundInPlay.play.Goals as goal

pub round-requires-clause-may : goal.round-requires-clause-may
round-requires-clause-may c =
    let is : c.self.inside.round ≡ c.args.self.now.round = ap (λ (p : RoundPart). p.round) c.self.view_is in
    let number = c.self.inside.round in
    let events = c.fill_events.new.events in
    let told : List Told = c.fill_told.new.told.items in
    let (cores, may_be, begun) = c.requires.may in
    let few : number < 100000 = omega (arith, is, may_be.within, may_be.sound.few_rounds) in
    let (setting, stood, may) = ready c.rounds_may_be_played.ensures.rounds c.rounds_may_be_played.ensures.told c.args.trace.now c.args.g c.args.publisher.now c.args.self.now.round number c.args.endpoint is c.args.lane.now c.requires.may c.requires.endpoint events told c.in_ok-fill_events.ensures c.fill_told.ensures in
    may_play_round setting number (published_by c.args.publisher.now) c.args.endpoint c.args.lane.now events told c.self.inside.batch.entries stood may few
    (subst (λ (p : RoundPart). IsAboveLast p.batch.entries (record { src = c.args.endpoint; dst = 0 })) (sym c.self.view_is) c.requires.above)

pub returns-clause-lane : goal.returns-clause-lane
returns-clause-lane c = λ cores may_be stood.
    let is : c.self.inside.round ≡ c.args.self.now.round = ap (λ (p : RoundPart). p.round) c.self.view_is in
    let setting = setting_by c.args.trace.now c.args.g cores c.args.publisher.now in
    let events = c.fill_events.new.events in
    let told : List Told = c.fill_told.new.told.items in
    let number = c.self.inside.round in
    let published = published_by c.args.publisher.now in
    let may_be_now = subst (λ (k : ℕ). MayBeTold c.args.trace.now c.args.g cores c.args.publisher.now k) (sym is) may_be in
    let stood_now = subst (λ (k : ℕ). LaneStands setting k published c.args.endpoint c.args.lane.now) (sym is) stood in
    let may = may_play c.rounds_may_be_played.ensures.rounds c.rounds_may_be_played.ensures.told c.args.trace.now c.args.g cores c.args.publisher.now number c.args.endpoint may_be_now c.requires.endpoint c.args.lane.now stood_now events told c.in_ok-fill_events.ensures c.fill_told.ensures in
    let said = c.in_ok-round.ensures.played in
    subst (λ (k : ℕ). LaneStands setting (k + 1) published c.args.endpoint c.round.new.self) is
    (next_stands setting number published c.args.endpoint c.args.lane.now events told stood_now may c.round.new.self said)

pub returns-clause-part : goal.returns-clause-part
returns-clause-part c = λ cores may_be stood.
    let is : c.self.inside.round ≡ c.args.self.now.round = ap (λ (p : RoundPart). p.round) c.self.view_is in
    let setting = setting_by c.args.trace.now c.args.g cores c.args.publisher.now in
    let trace = c.args.trace.now in
    let endpoint = c.args.endpoint in
    let lane = c.args.lane.now in
    let events = c.fill_events.new.events in
    let told : List Told = c.fill_told.new.told.items in
    let number = c.self.inside.round in
    let published = published_by c.args.publisher.now in
    let may_be_now = subst (λ (k : ℕ). MayBeTold trace c.args.g cores c.args.publisher.now k) (sym is) may_be in
    let stood_now = subst (λ (k : ℕ). LaneStands setting k published endpoint lane) (sym is) stood in
    let may = may_play c.rounds_may_be_played.ensures.rounds c.rounds_may_be_played.ensures.told trace c.args.g cores c.args.publisher.now number endpoint may_be_now c.requires.endpoint lane stood_now events told c.in_ok-fill_events.ensures c.fill_told.ensures in
    let said = c.in_ok-round.ensures.gives in
    let before : RoundPart = record { round = number; batch = c.self.inside.batch; refused = c.self.inside.refused.items; departures = c.self.inside.departures } in
    let after : RoundPart = record { round = number; batch = c.round.new.batch; refused = c.note_refused.new.list.items; departures = c.note_sent.new.self } in
    let told_refused = refused_are setting number published endpoint lane events told stood_now may trace c.in_ok-fill_events.ensures c.clear-2.new.self c.round.new.refused c.clear-2.ensures said.refused in
    let sends = sends_are setting number published endpoint lane events told stood_now may (slots_sent c.round.new.sent.items) said.sends in
    let refused : after.refused ≡ before.refused ++ refused_of setting trace number endpoint = c.in_ok-note_refused.ensures ∙ ap (λ (rs : List (ℕ × ℕ)). before.refused ++ rs) told_refused in
    let departures : after.departures ≡ by_slot (before.departures ++ departures_from setting number endpoint) = c.in_ok-note_sent.ensures ∙ ap (λ (ds : List Departure). by_slot (before.departures ++ ds)) sends in
    same_part after (with_endpoint setting trace endpoint before) refl
    (entries_are setting number published endpoint lane events told stood_now may c.self.inside.batch.entries c.round.new.batch.entries said.entries)
    c.round.ensures.limits refused departures
    ∙ ap (with_endpoint setting trace endpoint) c.self.view_is
