-- What a takeover comes to (this project's own profile).
use Rattle.std.specs.Prelude.{◌≡◌, ℕ, List, Some, Ok}
use Rattle.script_text.specs.Content.{ScriptContent}
use Rattle.script_text.specs.Script.{script_of}
use Rattle.takeover_text.specs.Lines.{shown, takeover_text}
use Rattle.takeover_text.specs.Progress.{IsPromisedThroughout}
use Rattle.takeover_text.specs.Kept.{KeepPromises}
use Rattle.fastpass_run.specs.Outside.{Outside, Growth}
use Rattle.fastpass_run.specs.Rows.{IsReadAs}
use Rattle.fastpass_run.specs.Words.{asked_by_words}
use Rattle.fastpass_run.specs.Words.Asked.{takes_over}

-- The output grew by the takeover of a script.
pub record TakesOver (grew : Growth) (words : List (List ℕ)) (old new : Outside) : Type 0 where
  pub accepted : asked_by_words words ≡ Some takes_over
  pub script : ScriptContent
  pub read : IsReadAs (λ bytes. script_of bytes ≡ Ok script) old new
  pub written : grew old.sink.held new.sink.held (takeover_text script)
  -- after each event: no batch was published twice, the sends of a slot are a matching of its batch, none is passed over, no more is
  -- sent than asked for, and each generation's batches are one schedule
  pub promised : IsPromisedThroughout script
  -- and so the lines show it
  pub kept : KeepPromises (shown script.pair script.events)
