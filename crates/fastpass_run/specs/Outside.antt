-- The outside of a run, at one moment: what its source and its sink tell; and how it is changed.
use Rattle.std.specs.Prelude.{◌≡◌, ℕ, List, Option}
use Rattle.fp_edge.specs.declared.source.Source.{Ghosts as SourceOf}
use Rattle.fp_edge.specs.declared.sink.Sink.{Ghosts as SinkOf}
use Rattle.text_output.specs.Content.{SinkContent, sink_content}

-- the bytes that are left in the source, where it tells them, its count of faults, and the same of the sink
pub record Outside : Type 0 where
  pub left : Option (List ℕ)
  pub faults : ℕ
  pub sink : SinkContent

-- what a source tells, beside a sink that tells this
abbrev pub beside : {S : Type 0} → SourceOf S → SinkContent → S → Outside
beside source_of sink source = record { left = source_of.left source; faults = source_of.faults source; sink = sink }

abbrev pub outside : {S O : Type 0} → SourceOf S → SinkOf O → S → O → Outside
outside source_of sink_of source sink = beside source_of (sink_content sink_of sink) source

-- nothing was read
pub record IsUnread (old new : Outside) : Type 0 where
  pub same_bytes : new.left ≡ old.left
  pub same_faults : new.faults ≡ old.faults

-- nothing was written
pub record IsUnwritten (old new : Outside) : Type 0 where
  pub same_bytes : new.sink.held ≡ old.sink.held
  pub same_faults : new.sink.faults ≡ old.sink.faults

-- how an output grew by a text: by all of it (`Appends`), or by a front of it (`AppendsFront`)
abbrev pub Growth : Type 1
Growth = Option (List ℕ) → Option (List ℕ) → List ℕ → Type 0
