-- What a desk that receives packets comes to (this project's own profile).
use Rattle.std.specs.Prelude.{◌≡◌, ℕ, List, Some, Ok}
use Rattle.trace_text.specs.declared.command.Command.TheVariants.{Receive}
use Rattle.trace_text.specs.Trace.{TraceContent, trace_of}
use Rattle.receive_text.specs.ReceiveText.{receive_text}
use Rattle.fastpass_run.specs.Outside.{Outside, Growth}
use Rattle.fastpass_run.specs.Rows.{IsReadAs}
use Rattle.fastpass_run.specs.Words.{AskedOfTrace, asked_by_words}
use Rattle.fastpass_run.specs.Words.Asked.{writes}
use Rattle.fastpass_run.specs.declared.words.Input.TheVariants.{Read}

-- The output grew by what a desk answers and records of the packets that a trace puts, which is a function of its rows alone.
pub record Receives (grew : Growth) (words : List (List ℕ)) (old new : Outside) : Type 0 where
  pub asked : AskedOfTrace
  pub accepted : asked_by_words words ≡ Some (writes asked)
  pub command : asked.input ≡ Read Receive
  pub trace : TraceContent
  pub read : IsReadAs (λ bytes. trace_of Receive bytes ≡ Ok trace) old new
  pub written : grew old.sink.held new.sink.held (receive_text trace)
