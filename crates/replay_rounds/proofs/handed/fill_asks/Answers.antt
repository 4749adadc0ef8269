use Rattle.std.proofs.Common.{ℕ, List, [], ◌∷◌, ◌++◌, map, sym, ap, ◌∙◌}
use Rattle.std.specs.List.{slice_index_or}
use Rattle.std.proofs.lemmas.List.{map_more, take_all}
use Rattle.trace_text.specs.Trace.{asked_at}
use Rattle.trace_text.specs.declared.ask.Ask.{Ask}
use Rattle.trace_text.proofs.AskFacts.{pair_of}
use Rattle.replay_rounds.proofs.RowLemmas.{asked_back}
use Rattle.replay_rounds.proofs.handed.fill_asks.Goals as goal

pub loop-ask-preserved : goal.loop-ask-preserved
loop-ask-preserved c =
    let asks : List Ask = c.asks_near-next.result.0.now in
    let none : Ask = record { round = 0; src = 0; dst = 0; slots = 0 } in
    c.in_ok-push.ensures.ok
    ∙ (ap (λ (asked : List (ℕ × ℕ)). asked ++ pair_of (slice_index_or asks c.loop-ask.ask-index none) ∷ []) c.loop-ask.invariant
    ∙ sym (map_more pair_of asks c.loop-ask.ask-index none c.loop-ask-test.true))

pub returns : goal.returns
returns c =
    c.loop-ask.invariant
    ∙ (ap (map pair_of) (take_all c.loop-ask.ask-index c.asks_near-next.result.0.now c.loop-ask-test.false ∙ c.asks_near-next.ensures)
    ∙ asked_back c.args.round c.args.endpoint (asked_at c.args.trace.now c.args.round c.args.endpoint))
