-- What a clause sees of a sink over a writer of std.
use Rattle.fp_edge.specs.declared.standard.StdSink.{StdSink}

-- the writer underneath
abbrev pub writer_of : {T : Type 0} → StdSink T → T
writer_of sink = sink.inner
