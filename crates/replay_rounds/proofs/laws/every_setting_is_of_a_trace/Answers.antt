-- The rules of a trace.
use Rattle.replay_rounds.proofs.TraceRules.{is_trace_of_run}
use Rattle.replay_rounds.proofs.laws.every_setting_is_of_a_trace.Goals as goal

pub returns : goal.returns
returns c = is_trace_of_run c.what_is_read_was_spelled_so.ensures c.packets_are_framed_alike.ensures
