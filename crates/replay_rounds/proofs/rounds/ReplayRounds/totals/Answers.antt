use Rattle.std.proofs.Common.{arith}
use Rattle.replay_rounds.specs.Standing.{RoundsContent, setting_with}
use Rattle.replay_rounds.specs.contracts.rounds.ReplayRounds.{the_view}
use Rattle.replay_rounds.proofs.LaneReads.{lane_in, sent_is}
use Rattle.replay_rounds.proofs.rounds.ReplayRounds.totals.Goals as goal

pub totals-requires : goal.totals-requires
totals-requires c =
    let (trace, cores, stands) = c.requires.stands in
    let stood = lane_in trace cores (the_view c.self.inside) c.args.self.now c.args.flow.src c.index.result.now c.self.view_is stands c.requires.src c.index.ensures in
    record { whole = stood.whole; destination = omega (arith, stood.endpoints, stands.endpoints, c.requires.dst) }

pub returns : goal.returns
returns c = λ trace cores stands.
    let all : RoundsContent = c.args.self.now in
    sent_is (setting_with trace cores all) all.collected all.counted c.args.flow.src c.index.result.now
    (lane_in trace cores (the_view c.self.inside) all c.args.flow.src c.index.result.now c.self.view_is stands c.requires.src c.index.ensures)
    c.args.flow.dst c.totals.result c.totals.ensures.sent c.totals.ensures.missed
