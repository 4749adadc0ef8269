-- Lines whose fields are plain or stand between quotes: read where they stand, each is the record that a reader of comma separated values makes of
-- it.
use Rattle.std.specs.Prelude.{◌≡◌, ◌≢◌, ◌⊎◌, ◌+◌, ◌-◌, ◌*◌, ◌<◌, ◌≤◌, ℕ, ◌==◌, ◌||◌, not, List, [], ◌∷◌, ◌++◌, length, take, drop, Bool, true, false, Option, Some, None, codes}
use Rattle.std.specs.Char.{is_ascii_digit}
use Rattle.std.specs.List.{list_all}
use Rattle.std.specs.Str.{bytes_eq}
use Rattle.csv.specs.Machine.{next_record}
use Rattle.csv.specs.Reading.{default_config, records}
use Rattle.csv.specs.declared.parser.State.TheVariants.{StartRecord, StartField}
use Rattle.trace_text.specs.Fields.{Record, cut, field, is_number, number_of}
use Rattle.trace_text.specs.Rows.{Ask, kind_of, may_have, is_readable, trace_row_of}
use Rattle.trace_text.specs.declared.kind.Kind.TheVariants as kind
use Rattle.trace_text.specs.declared.plain_ask.PlainAsk.{PlainAsk}
use Rattle.trace_text.specs.declared.records.Found.{Found}
use Rattle.trace_text.specs.declared.records.Found.TheVariants as found

-- the records of a text whose byte order mark, if it had one, is dropped
abbrev pub records_in : List ℕ → List Record
records_in text = records default_config text

-- no comma, no quote and no end of a line
abbrev pub is_plain : ℕ → Bool
is_plain c = not ((c == 44) || (c == 34) || (c == 10) || (c == 13))

-- no quote
abbrev pub is_unquoted : ℕ → Bool
is_unquoted c = not (c == 34)

-- a byte that ends a line
abbrev pub ends_line : ℕ → Bool
ends_line c = (c == 10) || (c == 13)

-- a byte that ends a field, the last of its line or another
abbrev pub ends_field : Bool → ℕ → Bool
ends_field true c = ends_line c
ends_field false c = c == 44

-- the text begins with a plain field, a byte that ends it, and the rest
abbrev pub IsPlainBefore : List ℕ → List ℕ → Bool → List ℕ → Type 0
IsPlainBefore text field last rest = (e : ℕ) × (list_all is_plain field ≡ true) × (ends_field last e ≡ true) × (text ≡ field ++ e ∷ rest)

-- the text goes on with a field without quotes, the quote that closes it, a byte that ends it, and the rest
abbrev pub IsQuotedBefore : List ℕ → List ℕ → Bool → List ℕ → Type 0
IsQuotedBefore text field last rest = (e : ℕ) × (list_all is_unquoted field ≡ true) × (ends_field last e ≡ true) × (text ≡ field ++ 34 ∷ e ∷ rest)

-- the text begins with a plain field or one between quotes, a byte that ends it, and the rest
abbrev pub IsFieldBefore : List ℕ → List ℕ → Bool → List ℕ → Type 0
IsFieldBefore text field last rest = IsPlainBefore text field last rest ⊎ ((quoted : List ℕ) × (text ≡ 34 ∷ quoted) × IsQuotedBefore quoted field last rest)

-- the text begins with a number, the byte that ends it, and the rest
abbrev pub IsNumberBefore : List ℕ → ℕ → ℕ → List ℕ → Type 0
IsNumberBefore text end n rest = (digits : List ℕ) × (text ≡ digits ++ end ∷ rest) × (is_number digits ≡ true) × (n ≡ number_of digits)

-- two texts that have the same records, however both go on, as one does with and without blank lines at its front
abbrev pub ReadAlike : List ℕ → List ℕ → Type 0
ReadAlike text rest = (more : List ℕ) → records_in (text ++ more) ≡ records_in (rest ++ more)

-- the text begins with a number and a byte that ends its line, and the rest reads as what stands behind
abbrev pub IsLastNumberBefore : List ℕ → ℕ → List ℕ → Type 0
IsLastNumberBefore text n rest = (e : ℕ) × (behind : List ℕ) × IsNumberBefore text e n behind × (ends_line e ≡ true) × ReadAlike behind rest

-- the text begins with a byte that ends a line, and the rest reads as what stands behind
abbrev pub IsEndBefore : List ℕ → List ℕ → Type 0
IsEndBefore text rest = (e : ℕ) × (behind : List ℕ) × (text ≡ e ∷ behind) × (ends_line e ≡ true) × ReadAlike behind rest

-- a number stands at a place of the text, and has at most three digits: what stands at the next place is behind it
abbrev pub IsNumberAt : List ℕ → ℕ → ℕ → ℕ → Type 0
IsNumberAt text at n next = (digits : List ℕ) × (drop at text ≡ digits ++ drop next text) × (is_number digits ≡ true) × (n ≡ number_of digits) × (next ≤ at + 3)

-- a byte at a place is one digit more of a number, or ends it there
abbrev pub IsLonger : ℕ → ℕ → ℕ → ℕ → ℕ → Type 0
IsLonger byte n more at next = ((more ≡ n) × (next ≡ at)) ⊎ ((digit : ℕ) × (is_ascii_digit byte ≡ true) × (byte ≡ 48 + digit) × (digit < 10) × (more ≡ n * 10 + digit) × (next ≡ at + 1))

-- the front of an ask of this round, up to the comma behind the round
abbrev pub head_digits : List ℕ → List ℕ
head_digits head = take (length head - 5) (drop 4 head)

abbrev pub IsAskHead : List ℕ → ℕ → Type 0
IsAskHead head round = (head ≡ codes "ask," ++ (head_digits head ++ 44 ∷ [])) × (is_number (head_digits head) ≡ true) × (round ≡ number_of (head_digits head))

-- a row whose fields say this ask
pub record IsAskRow (ask : PlainAsk) (fields : Record) : Type 0 where
  pub named : kind_of (field fields 0) ≡ Some kind.Ask
  pub no_net : bytes_eq (field fields 0) (codes "net") ≡ false
  pub whole : may_have kind.Ask (length fields) ≡ true
  pub readable : is_readable kind.Ask fields ≡ true
  pub row : trace_row_of kind.Ask fields ≡ Ask ask.round ask.src ask.dst ask.slots

-- the first record begins as these fields do, and the others are these
abbrev pub BeginsWith : List Record → Record → List Record → Type 0
BeginsWith before fields after = (whole : Record) × (cut fields ≡ cut whole) × (before ≡ whole ∷ after)

-- the first record begins as these fields do, of which there are more than a row has
abbrev pub BeginsLong : List Record → Record → Type 0
BeginsLong before fields = (6 ≤ length fields) × (after : List Record) × BeginsWith before fields after

-- the text begins with the whole line of this ask, and then has the rest: however it goes on, its first record is the ask, and the
-- others are those of the rest
abbrev pub IsAskBefore : List ℕ → PlainAsk → List ℕ → Type 0
IsAskBefore text ask rest = (fields : Record) × IsAskRow ask fields × ((more : List ℕ) → records_in (text ++ more) ≡ fields ∷ records_in (rest ++ more))

-- the same of a line whose record begins as these fields do
abbrev pub IsLineBefore : List ℕ → Record → List ℕ → Type 0
IsLineBefore text fields rest = (whole : Record) × (cut fields ≡ cut whole) × ((more : List ℕ) → records_in (text ++ more) ≡ whole ∷ records_in (rest ++ more))

-- the text begins with fields of its first line, each with the byte that ends it, and then has the rest: the line ended there, or it
-- goes on with a field more. Of the fields the first are these
abbrev pub AreFieldsBefore : List ℕ → Record → Bool → List ℕ → Type 0
AreFieldsBefore text fields true rest = IsLineBefore text fields rest
AreFieldsBefore text fields false rest = (whole : Record) × (fields ≡ cut whole) × ((more : List ℕ) → next_record default_config StartRecord [] [] (text ++ more) ≡ next_record default_config StartField whole [] (rest ++ more))

-- what is found in the records that are left, and what is left then; the fields are the first of a record
abbrev pub Finds : Found → List Record → Record → List Record → Type 0
Finds found.Fields before fields after = BeginsWith before fields after
Finds found.TooMany before fields after = BeginsLong before fields
Finds found.End before fields after = before ≡ []

-- no byte stands at the front, or one that ends a line
abbrev pub begins_blank : List ℕ → Bool
begins_blank [] = true
begins_blank (c ∷ text) = (c == 10) || (c == 13)

-- a text that ends with a byte that ends a line
abbrev pub EndsLine : List ℕ → Type 0
EndsLine text = (body : List ℕ) × (c : ℕ) × (text ≡ body ++ c ∷ []) × (ends_line c ≡ true)

-- the records of a front, of which there are some, are the first of the text
abbrev pub IsWholeFront : List ℕ → List ℕ → List ℕ → Type 0
IsWholeFront text front rest = (records_in text ≡ records_in front ++ records_in rest) × (0 < length (records_in front))

-- the last field does not end with a byte that ends a line
abbrev pub IsClosed : Record → Type 0
IsClosed fields = (others : Record) (body : List ℕ) (c : ℕ) → ends_line c ≡ true → fields ≢ others ++ (body ++ c ∷ []) ∷ []

-- the records of a reader, where there is one, and behind them those of a text
abbrev pub records_behind : Option (List Record) → List ℕ → List Record
records_behind None text = records_in text
records_behind (Some records) text = records ++ records_in text
