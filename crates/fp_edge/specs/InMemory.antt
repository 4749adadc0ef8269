-- What the source and the sink in memory show, and what a call makes of them, by this project's own profile.
use Rattle.std.specs.Prelude.{◌≡◌, ℕ, ◌<◌, List, ◌++◌, length, take, drop, ◌-◌, min, Contains, ◌⊎◌}
use Rattle.fp_edge.specs.Faults.{one_more}

-- a source: the bytes that are left, the most bytes that a call gives, the numbers of the calls that fail, the
-- number of the next call and the count of faults
pub record SourceState : Type 0 where
  pub left : List ℕ
  pub most : ℕ
  pub failing : List ℕ
  pub calls : ℕ
  pub faults : ℕ

-- how many bytes a call gives into a buffer of this length
abbrev pub read_amount : SourceState → ℕ → ℕ
read_amount source room = min source.most (min (length source.left) room)

-- after a call that gave n bytes
abbrev pub after_read : SourceState → ℕ → SourceState
after_read source n = record source { left = drop n source.left; calls = one_more source.calls }

-- after a call that failed
abbrev pub after_failed_read : SourceState → SourceState
after_failed_read source = record source { calls = one_more source.calls; faults = one_more source.faults }

-- a sink: the bytes that it holds, how many it has room for, and the rest as in a source
pub record SinkState : Type 0 where
  pub held : List ℕ
  pub room : ℕ
  pub most : ℕ
  pub failing : List ℕ
  pub calls : ℕ
  pub faults : ℕ

-- how many bytes of a piece a call takes
abbrev pub write_amount : SinkState → List ℕ → ℕ
write_amount sink piece = min sink.most (min (sink.room - length sink.held) (length piece))

-- a call with this piece fails: it is listed, or there is something to take and no room
abbrev pub WriteFails : SinkState → List ℕ → Type 0
WriteFails sink piece = Contains sink.failing sink.calls ⊎ ((0 < length piece) × (length sink.held ≡ sink.room))

-- after a call that took the first n bytes of a piece
abbrev pub after_write : SinkState → List ℕ → ℕ → SinkState
after_write sink piece n = record sink { held = sink.held ++ take n piece; calls = one_more sink.calls }

-- after a call that failed
abbrev pub after_failed_write : SinkState → SinkState
after_failed_write sink = record sink { calls = one_more sink.calls; faults = one_more sink.faults }
