-- Text on its way to a sink: what was given to it, and what is gathered for the next piece.
use Rattle.std.specs.Prelude.{◌≡◌, ℕ, ◌≤◌, List, [], ◌++◌, Result, Ok, OnOk, OnErr, IfErr, ⊤}
use Rattle.std.specs.Io.KnownBytes.{Appends}
use Rattle.fp_edge.specs.Faults.{Rose}
use Rattle.text_output.specs.Content.{SinkContent, OutputContent}
use Rattle.text_output.specs.Transfer.{AppendsFront}
use Rattle.text_output.specs.declared.output.Stop.{Stop}
use Rattle.text_output.specs.declared.output.Stop.TheVariants.{Write, Memory}

-- text came behind what was gathered, and some of all that was given to the sink
abbrev pub Gives : OutputContent → OutputContent → List ℕ → Type 0
Gives old new text = (given : List ℕ) × Appends old.sink.held new.sink.held given × (old.gathered ++ text ≡ given ++ new.gathered)

-- a write that failed has its cause; want of memory needs none
abbrev pub IsCaused : ℕ → ℕ → Stop → Type 0
IsCaused faults faults' Write = Rose faults faults'
IsCaused faults faults' Memory = ⊤

-- what a step does with its text: it passes it on, or the sink has a prefix of what it was to have; the sink is the same
pub record Passes (old new : OutputContent) (text : List ℕ) (result : Result (Unit {0}) Stop) : Type 0 where
  pub name : new.name ≡ old.name
  pub later : old.sink.faults ≤ new.sink.faults
  pub all : OnOk result (Gives old new text)
  pub front : OnErr result (AppendsFront old.sink.held new.sink.held (old.gathered ++ text))
  pub cause : IfErr result (IsCaused old.sink.faults new.sink.faults)

-- all went well so far
abbrev pub Passed : OutputContent → OutputContent → List ℕ → Type 0
Passed old new text = Passes old new text (Ok (tt {0}))

-- the last of a text: nothing is gathered any more where all went well
pub record EndsText (old new : OutputContent) (text : List ℕ) (result : Result (Unit {0}) Stop) : Type 0 where
  pub passes : Passes old new text result
  pub empty : OnOk result (new.gathered ≡ [])

-- what a whole text comes to: all of it, or a front of it and the cause
pub record Writes (old new : SinkContent) (text : List ℕ) (result : Result (Unit {0}) Stop) : Type 0 where
  pub later : old.faults ≤ new.faults
  pub all : OnOk result (Appends old.held new.held text)
  pub front : OnErr result (AppendsFront old.held new.held text)
  pub cause : IfErr result (IsCaused old.faults new.faults)
