-- What a sink tells, and what an output over it holds.
use Rattle.std.specs.Prelude.{ℕ, List, Option}
use Rattle.std.specs.Borrow.{GName}
use Rattle.fp_edge.specs.declared.sink.Sink.{Ghosts as SinkOf}

-- the bytes that a sink has, where it tells them, and its count of faults
pub record SinkContent : Type 0 where
  pub held : Option (List ℕ)
  pub faults : ℕ

abbrev pub sink_content : {K : Type 0} → SinkOf K → K → SinkContent
sink_content of sink = record { held = of.held sink; faults = of.faults sink }

-- which sink it is, what that tells, and the text that is gathered for it
pub record OutputContent : Type 0 where
  pub name : GName
  pub sink : SinkContent
  pub gathered : List ℕ
