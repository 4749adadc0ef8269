-- The records that a reader of a text has left, as the kit's reader of comma separated values defines them.
use Rattle.std.specs.Prelude.{◌≡◌, ℕ, ◌+◌, List, [], length, true, false, Option, Some, None, IsSome}
use Rattle.csv.specs.Machine.{ends_at_end}
use Rattle.csv.specs.Reading.{Ready, default_config, is_flexible, reader_config, reader_state, reader_trim, records_from, source_of}
use Rattle.csv.specs.declared.parser.State.{State}
use Rattle.csv.specs.declared.reader.Reader.{Reader}
use Rattle.csv.specs.declared.reader.Trim.TheVariants as trim
use Rattle.std.specs.Borrow.{Bor}
use Rattle.std.specs.Io.Chain.{chain_remaining}
use Rattle.std.specs.declared.io.traits.Chain.{Chain}
use Rattle.trace_text.specs.Fields.{Record}

-- a text in memory behind a byte order mark
abbrev pub MarkedText : Type 0
MarkedText = Chain (Bor (List ℕ)) (Bor (List ℕ))

abbrev pub bytes_of_marked : MarkedText → Option (List ℕ)
bytes_of_marked = chain_remaining (λ s. Some s.now) (λ s. Some s.now)

-- a reader of it
abbrev pub TextReader : Type 0
TextReader = Reader MarkedText

-- the bytes that it has left
abbrev pub text_left : TextReader → Option (List ℕ)
text_left reader = source_of bytes_of_marked reader

-- the records of what is left, from the state between two records
abbrev pub records_of_rest : State → Option (List ℕ) → List Record
records_of_rest state None = []
records_of_rest state (Some text) = records_from default_config (length text + 1) state text

abbrev pub records_left : TextReader → List Record
records_left reader = records_of_rest (reader_state reader) (text_left reader)

-- it stands between two records, and reads on with any number of fields
pub record IsReading (reader : TextReader) : Type 0 where
  pub untrimmed : reader_trim reader ≡ trim.None
  pub ready : Ready reader
  pub flexible : is_flexible reader ≡ true
  pub config : reader_config reader ≡ default_config
  pub between : ends_at_end (reader_state reader) ≡ false
  pub known : IsSome (text_left reader)
