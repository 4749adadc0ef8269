-- A text as a trace: its rows, or the first faulty one. This project's own profile.
use Rattle.std.specs.Prelude.{◌≡◌, ⊤, ℕ, ◌+◌, ◌-◌, List, [], ◌∷◌, ◌++◌, length, Option, Some, None, Result, Ok, Err, nat_lt, filter, sum_by, map, slice_get, slice_index_or, unwrap_or, Bool, true, false}
use Rattle.std.specs.List.{range_with_len, filter_map}
use Rattle.clos_topology.specs.Network.{Network, endpoints_of}
use Rattle.loss_world.specs.declared.fate.Fate.{Fate}
use Rattle.csv.specs.Reading.{default_config, records, strip_bom}
use Rattle.trace_text.specs.Fields.{Record}
use Rattle.trace_text.specs.Rows.{Row}
use Rattle.trace_text.specs.Earlier.{net_of, end_of, slots_in_round, fate_in, boot_in, packet_in, put_in}
use Rattle.trace_text.specs.Faults.{read_row}
use Rattle.trace_text.specs.declared.command.Command.{Command}
use Rattle.trace_text.specs.declared.fault.Fault.{Fault}
use Rattle.trace_text.specs.declared.fault.TraceRefused.{TraceRefused}
use Rattle.trace_text.specs.declared.fault.TraceRefused.TheVariants as refused
use Rattle.trace_text.specs.declared.fault.Fault.TheVariants as fault

-- the rows of a text as fields: comma separated values with double quotes and no header. A byte order mark at the
-- start is dropped, and a blank line is no row
abbrev pub records_of_text : List ℕ → List Record
records_of_text text = records default_config (strip_bom text)

-- a row's number, counted from 1, and its fault
pub record FaultyRow : Type 0 where
  pub row : ℕ
  pub fault : Fault

-- what stands after the last row: a trace begins with a net and ends with its end
abbrev pub ended : List Row → Option ℕ → Result (List Row) FaultyRow
ended [] end = Err (record { row = 1; fault = fault.NoNet })
ended (row ∷ rows) (Some rounds) = Ok (row ∷ rows)
ended (row ∷ rows) None = Err (record { row = length (row ∷ rows) + 1; fault = fault.NoEnd })

-- one row more, or its number and fault
abbrev pub row_more : (List Row → Result (List Row) FaultyRow) → List Row → Result Row Fault → Result (List Row) FaultyRow
row_more more before (Ok row) = more (before ++ row ∷ [])
row_more more before (Err f) = Err (record { row = length before + 1; fault = f })

-- the rows before and then these, or the first of these that is faulty
unfoldable pub rows_after : Command → List Record → List Row → Result (List Row) FaultyRow
rows_after command [] before = ended before (end_of before)
rows_after command (fields ∷ records) before = row_more (rows_after command records) before (read_row command before fields)

-- what is made of each number below a bound, in order
abbrev pub each_below : {A : Type 0} → ℕ → (ℕ → A) → List A
each_below bound f = map f (range_with_len 0 bound)

-- the destinations below a bound of which there is some, rising, each with how much
abbrev pub some_below : ℕ → (ℕ → ℕ) → List (ℕ × ℕ)
some_below bound amount = filter (λ p. nat_lt 0 p.1) (each_below bound (λ dst. (dst, amount dst)))

-- what a trace holds: its net, how many rounds it has, and for each round and source the destinations that are asked
-- for, rising, each with the sum of its asks in the round; for each round and endpoint the fates of its packets up and down,
-- where rows give some, and the versions of its boots; the raw packets of each round; and the packets that each endpoint puts.
-- Boots and packets stand in the order of rows
pub record TraceContent : Type 0 where
  pub net : Network
  pub rounds : ℕ
  pub asked : List (List (List (ℕ × ℕ)))
  pub fates : List (List (Option Fate × Option Fate))
  pub boots : List (List (List ℕ))
  pub raw : List (List (List ℕ))
  pub puts : List (List (List ℕ))

-- the last of some, if there is one
abbrev pub last_one : List ℕ → Option ℕ
last_one xs = slice_get xs (length xs - 1)

-- what a source asks for in a round
abbrev pub asked_at : TraceContent → ℕ → ℕ → List (ℕ × ℕ)
asked_at trace round src = slice_index_or (slice_index_or trace.asked round []) src []

-- what befalls the packet of an endpoint in a round, on its way up or down
abbrev pub of_way : {A : Type 0} → Bool → A × A → A
of_way true p = p.0
of_way false p = p.1

abbrev pub fate_at : TraceContent → ℕ → ℕ → Bool → Option Fate
fate_at trace round endpoint up = of_way up (slice_index_or (slice_index_or trace.fates round []) endpoint (None, None))

-- the versions of an endpoint's boots in a round, and the raw packets of a round
abbrev pub boots_at : TraceContent → ℕ → ℕ → List ℕ
boots_at trace round endpoint = slice_index_or (slice_index_or trace.boots round []) endpoint []

abbrev pub raw_at : TraceContent → ℕ → List (List ℕ)
raw_at trace round = slice_index_or trace.raw round []

-- the packets that an endpoint puts
abbrev pub puts_at : TraceContent → ℕ → List (List ℕ)
puts_at trace endpoint = slice_index_or trace.puts endpoint []

-- what is made of each round and endpoint
abbrev pub table_of : {A : Type 0} → ℕ → ℕ → (ℕ → ℕ → A) → List (List A)
table_of rounds endpoints f = each_below rounds (λ round. each_below endpoints (f round))

-- what happens in the rounds of a trace beside its asks
pub record Events : Type 0 where
  pub fates : ℕ → ℕ → Bool → Option Fate
  pub boots : ℕ → ℕ → List ℕ
  pub raw : ℕ → List (List ℕ)

-- a trace in which so much is asked for in a round by a source for a destination, and this happens; no endpoint puts a packet
abbrev pub content_by : Network → ℕ → (ℕ → ℕ → ℕ → ℕ) → Events → TraceContent
content_by net rounds amount events = record {
  net = net;
  rounds = rounds;
  asked = table_of rounds (endpoints_of net) (λ round src. some_below (endpoints_of net) (amount round src));
  fates = table_of rounds (endpoints_of net) (λ round endpoint. (events.fates round endpoint true, events.fates round endpoint false));
  boots = table_of rounds (endpoints_of net) events.boots;
  raw = each_below rounds events.raw;
  puts = each_below (endpoints_of net) (λ endpoint. []);
}

-- the same in which these packets are put, by endpoint
abbrev pub with_puts : List (List (List ℕ)) → TraceContent → TraceContent
with_puts puts trace = record trace { puts = puts }

-- what happens in these rows; no packet has two fates
abbrev pub events_of : List Row → Events
events_of rows = record {
  fates = λ round endpoint up. slice_get (filter_map (fate_in round endpoint up) rows) 0;
  boots = λ round endpoint. filter_map (boot_in round endpoint) rows;
  raw = λ round. filter_map (packet_in round) rows;
}

-- the packets that these rows put
abbrev pub puts_of : List Row → List (List (List ℕ))
puts_of rows = each_below (endpoints_of (net_of rows)) (λ endpoint. filter_map (put_in endpoint) rows)

-- what these rows are together
abbrev pub content_of : List Row → TraceContent
content_of rows =
    with_puts (puts_of rows) (content_by (net_of rows) (unwrap_or (end_of rows) 0) (λ round src dst. sum_by (slots_in_round round src dst) rows) (events_of rows))

abbrev pub content_or_fault : Result (List Row) FaultyRow → Result TraceContent FaultyRow
content_or_fault (Ok rows) = Ok (content_of rows)
content_or_fault (Err faulty) = Err faulty

-- what the trace of a text holds, or the first faulty row where it is no trace that the command takes
unfoldable pub trace_of : Command → List ℕ → Result TraceContent FaultyRow
trace_of command text = content_or_fault (rows_after command (records_of_text text) [])

-- the refusal tells the first faulty row, or want of memory
abbrev pub IsFaultOf : Result TraceContent FaultyRow → TraceRefused → Type 0
IsFaultOf trace (refused.Row row fault) = trace ≡ Err (record { row = row; fault = fault })
IsFaultOf trace refused.Memory = ⊤
