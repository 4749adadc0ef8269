-- What a script holds: its pair, and its events in order. This project's own profile.
use Rattle.std.specs.Prelude.{List}
use Rattle.takeover_history.specs.declared.event.Event.{Event}
use Rattle.takeover_history.specs.Events.{PairSetting}

pub record ScriptContent : Type 0 where
  pub pair : PairSetting
  pub events : List Event
