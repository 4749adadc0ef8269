use Rattle.std.proofs.Common.{◌≡◌, map, take}
use Rattle.trace_text.proofs.AskFacts.{pair_of}
use Rattle.replay_rounds.proofs.handed.fill_asks.Given as goal

abbrev pub invariant-loop-ask : goal.invariant-loop-ask
invariant-loop-ask l = l.asks ≡ map pair_of (take l.ask-index l.own)
