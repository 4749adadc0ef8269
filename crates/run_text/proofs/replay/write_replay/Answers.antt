use Rattle.std.proofs.Common.{◌∙◌, refl, rules}
use Rattle.replay_rounds.specs.Setting.{setting_of}
use Rattle.run_text.proofs.ReplayCores.{has_replay_cores}
use Rattle.run_text.proofs.LedgerLemmas.{ledger_is_kept}
use Rattle.run_text.proofs.SentLemmas.{sends_are_scheduled}
use Rattle.run_text.proofs.replay.write_replay.Goals as goal

pub put_lines-written-requires-clause-cores : goal.put_lines-written-requires-clause-cores
put_lines-written-requires-clause-cores g c κs within =
    has_replay_cores c.args.trace.now c.args.sizes.b c.args.sizes.g c.cores_decide_nothing.ensures c.every_replay_has_cores.ensures.has c.requires.accepted c.requires.sizes.b.1 c.requires.sizes.g.0

pub returns-in_err-gathered-clause-shown : goal.returns-in_err-gathered-clause-shown
returns-in_err-gathered-clause-shown g c = λ cores. c.every_replay_shows.ensures (setting_of c.args.trace.now c.args.sizes.b c.args.sizes.g cores) c.requires.sizes.g.0 c.args.trace.now.rounds

pub returns-clause-shown : goal.returns-clause-shown
returns-clause-shown g c = λ cores. c.every_replay_shows.ensures (setting_of c.args.trace.now c.args.sizes.b c.args.sizes.g cores) c.requires.sizes.g.0 c.args.trace.now.rounds

pub returns-in_err-gathered-clause-sends : goal.returns-in_err-gathered-clause-sends
returns-in_err-gathered-clause-sends g c = λ cores.
    sends_are_scheduled cores (setting_of c.args.trace.now c.args.sizes.b c.args.sizes.g cores) c.args.trace.now c.every_send_is_scheduled.ensures.scheduled c.every_send_is_scheduled.ensures.once c.requires.sizes.g.0

pub returns-clause-sends : goal.returns-clause-sends
returns-clause-sends g c = λ cores.
    sends_are_scheduled cores (setting_of c.args.trace.now c.args.sizes.b c.args.sizes.g cores) c.args.trace.now c.every_send_is_scheduled.ensures.scheduled c.every_send_is_scheduled.ensures.once c.requires.sizes.g.0

pub returns-in_err-gathered-clause-writes : goal.returns-in_err-gathered-clause-writes
returns-in_err-gathered-clause-writes g c =
    let (cores, makes, none) = has_replay_cores c.args.trace.now c.args.sizes.b c.args.sizes.g c.cores_decide_nothing.ensures c.every_replay_has_cores.ensures.has c.requires.accepted c.requires.sizes.b.1 c.requires.sizes.g.0 in
    (cores, makes, c.texts_follow.ensures.unwritten c.from_residual.ensures.1)

pub returns-clause-writes : goal.returns-clause-writes
returns-clause-writes g c =
    let (cores, makes, ends) = c.put_lines-written.ensures in
    (cores, makes, c.texts_follow.ensures.whole c.new-output.ensures.told (search rules) (c.new-output.ensures.gathered ∙ c.in_ok-gathered.ensures) ends)

pub returns-in_err-gathered-clause-ledger : goal.returns-in_err-gathered-clause-ledger
returns-in_err-gathered-clause-ledger g c = λ cores.
    ledger_is_kept cores (setting_of c.args.trace.now c.args.sizes.b c.args.sizes.g cores) c.args.trace.now refl c.every_replay_shows.ensures c.every_run_is_applicable.ensures.batches c.every_replay_takes_its_steps.ensures c.requires.sizes.g.0
    c.requires.accepted.some_round

pub returns-clause-ledger : goal.returns-clause-ledger
returns-clause-ledger g c = λ cores.
    ledger_is_kept cores (setting_of c.args.trace.now c.args.sizes.b c.args.sizes.g cores) c.args.trace.now refl c.every_replay_shows.ensures c.every_run_is_applicable.ensures.batches c.every_replay_takes_its_steps.ensures c.requires.sizes.g.0
    c.requires.accepted.some_round
