use Rattle.std.proofs.Common.{arith}
use Rattle.std.proofs.lemmas.Option.{IfSome_then}
use Rattle.replay_rounds.specs.Standing.{RoundsContent, setting_with}
use Rattle.replay_rounds.specs.contracts.rounds.ReplayRounds.{the_view}
use Rattle.replay_rounds.proofs.LaneReads.{lane_in, opened_is, counted_is}
use Rattle.replay_rounds.proofs.rounds.ReplayRounds.count.Goals as goal

pub count-requires : goal.count-requires
count-requires c =
    let (trace, cores, stands) = c.requires.stands in
    let stood = lane_in trace cores (the_view c.self.inside) c.args.self.now c.args.flow.src c.index.result.now c.self.view_is stands c.requires.src c.index.ensures in
    omega (arith, stood.endpoints, stands.endpoints, c.requires.dst)

pub returns-clause-opened : goal.returns-clause-opened
returns-clause-opened c = λ trace cores stands.
    let all : RoundsContent = c.args.self.now in
    opened_is (setting_with trace cores all) all.collected all.counted c.args.flow.src c.index.result.now
    (lane_in trace cores (the_view c.self.inside) all c.args.flow.src c.index.result.now c.self.view_is stands c.requires.src c.index.ensures)
    c.args.flow.dst c.count.result c.count.ensures.opened

pub returns-clause-counts : goal.returns-clause-counts
returns-clause-counts c =
    let all : RoundsContent = c.args.self.now in
    IfSome_then c.count.result c.count.ensures.counts (λ count of trace cores stands.
    counted_is (setting_with trace cores all) all.collected all.counted c.args.flow.src c.index.result.now
    (lane_in trace cores (the_view c.self.inside) all c.args.flow.src c.index.result.now c.self.view_is stands c.requires.src c.index.ensures)
    c.args.flow.dst count (omega (arith, stands.endpoints, c.requires.dst)) of)
