use Rattle.run_text.specs.Made.{made_run, trace_of_number}
use Rattle.run_text.proofs.SumLemmas.{run_balances}
use Rattle.run_text.proofs.make.write_made.Goals as goal

pub returns-clause-balanced : goal.returns-clause-balanced
returns-clause-balanced g c = λ cores.
    run_balances (made_run c.args.number c.args.sizes.b c.args.sizes.g cores) (trace_of_number c.args.number).rounds c.every_flow_is_counted.ensures c.requires.sizes.g.0

pub returns-clause-shown : goal.returns-clause-shown
returns-clause-shown g c = λ cores.
    c.every_replay_shows.ensures (made_run c.args.number c.args.sizes.b c.args.sizes.g cores) c.requires.sizes.g.0 (trace_of_number c.args.number).rounds
