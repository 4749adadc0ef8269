-- Laws on outputs.
use Rattle.std.specs.Prelude.{◌≡◌, ℕ, List, [], ◌++◌, Result, Err, IsErrAnd}
use Rattle.text_output.specs.Content.{SinkContent, OutputContent}
use Rattle.text_output.specs.Output.{Passes, Passed, EndsText, Writes}
use Rattle.text_output.specs.declared.output.Stop.{Stop}
use Rattle.text_output.specs.declared.output.Stop.TheVariants.{Memory}

-- one text behind another
pub record TextsFollow : Type 0 where
  -- what is passed on after another text is passed on behind it
  pub after : {a b c : OutputContent} {x y z : List ℕ} {result : Result (Unit {0}) Stop} → Passed a b x → Passes b c y result → z ≡ x ++ y → Passes a c z result
  -- where a text stops, so does any that begins with it
  pub stopped : {a b : OutputContent} {x z : List ℕ} {stop : Stop} {result : Result (Unit {0}) Stop} (y : List ℕ) → Passes a b x (Err stop) → IsErrAnd result (λ e. e ≡ stop) → z ≡ x ++ y → Passes a b z result
  -- no text needs nothing, and where memory is wanting nothing was given of any
  pub nothing : {a : OutputContent} → Passed a a []
  pub no_memory : {a : OutputContent} {x : List ℕ} {result : Result (Unit {0}) Stop} → IsErrAnd result (λ e. e ≡ Memory) → Passes a a x result
  -- a text that began with nothing gathered, and ended, is written to the sink; and none is where memory is wanting
  pub whole : {a b : OutputContent} {old new : SinkContent} {x : List ℕ} {result : Result (Unit {0}) Stop} → a.sink ≡ old → b.sink ≡ new → a.gathered ≡ [] → EndsText a b x result → Writes old new x result
  pub unwritten : {sink : SinkContent} {x : List ℕ} {result : Result (Unit {0}) Stop} → IsErrAnd result (λ e. e ≡ Memory) → Writes sink sink x result
