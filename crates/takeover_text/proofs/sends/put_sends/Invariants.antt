use Rattle.std.proofs.Common.{◌-◌, List, map, take, drop}
use Rattle.takeover_history.specs.declared.event.Event.{Event}
use Rattle.takeover_history.specs.Events.{PairSetting}
use Rattle.takeover_history.specs.Endpoints.{sent}
use Rattle.takeover_history.specs.Steps.{log_of}
use Rattle.takeover_core.specs.Standing.{PairStandsFor}
use Rattle.text_output.specs.Output.{Passed}
use Rattle.text_output.specs.Text.{text_of}
use Rattle.takeover_text.specs.Lines.{send_line}
use Rattle.takeover_text.proofs.sends.put_sends.Given as goal

abbrev pub invariant-loop-at : goal.invariant-loop-at
invariant-loop-at g l =
    (setting : PairSetting) (events : List Event) → PairStandsFor setting l.pair events
    → Passed l.initial.output l.output (text_of (map send_line (take (l.at - l.from) (drop l.from (sent setting (log_of setting events))))))
