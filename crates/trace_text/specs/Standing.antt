-- What is kept of the rows so far, and what it stands for.
use Rattle.std.specs.Prelude.{◌≡◌, ◌≢◌, ◌⊎◌, ℕ, ◌+◌, ◌*◌, ◌<◌, ◌≤◌, List, [], ◌∷◌, ◌++◌, length, Option, Some, None, Bool, true, false, ◌&&◌, IsSome, IfSome, All, sum_by, slice_index, Result, Ok, Err, ⊤}
use Rattle.std.specs.Borrow.{Bor}
use Rattle.clos_topology.specs.Network.{Network, endpoints_of}
use Rattle.clos_topology.specs.Limits.{IsNetwork}
use Rattle.clos_topology.specs.declared.net.NetRefused.{NetRefused}
use Rattle.clos_topology.specs.declared.net.NetRefused.TheVariants as net_refused
use Rattle.loss_world.specs.declared.fate.Fate.{Fate}
use Rattle.trace_text.specs.Rows.{Row, Net, Ask, Meets, Boot, Raw, Put, End, may_have, is_readable, trace_row_of}
use Rattle.trace_text.specs.Fields.{Field, Record, field, has_number, field_number_at, is_way, is_up, is_hex, bytes_of}
use Rattle.trace_text.specs.Stage.{takes_kind}
use Rattle.trace_text.specs.Earlier.{net_of, greatest_round, end_of, row_slots, slots_in_round, latest_fate}
use Rattle.trace_text.specs.Faults.{read_row, read_kind, is_between, is_fate, has_rounds_for}
use Rattle.trace_text.specs.Asks.{IsAmong, slots_asked}
use Rattle.trace_text.specs.FlowSums.{held_sum, IsTidy, HoldsAmong}
use Rattle.trace_text.specs.Events.{EventsAreAmong, AreEventsOf, way_number}
use Rattle.trace_text.specs.Puts.{ArePutsOf}
use Rattle.trace_text.specs.Lines.{records_in}
use Rattle.trace_text.specs.Trace.{TraceContent, IsFaultOf, content_or_fault, ended, rows_after}
use Rattle.trace_text.specs.Valid.{IsTrace}
use Rattle.trace_text.specs.declared.command.Command.{Command}
use Rattle.trace_text.specs.declared.kind.Kind.{Kind}
use Rattle.trace_text.specs.declared.kind.Kind.TheVariants as kind
use Rattle.trace_text.specs.declared.fault.Fault.{Fault}
use Rattle.trace_text.specs.declared.fault.Fault.TheVariants as fault
use Rattle.trace_text.specs.declared.fault.TraceRefused.{TraceRefused}
use Rattle.trace_text.specs.declared.fault.TraceRefused.TheVariants as refused
use Rattle.trace_text.specs.declared.taken_row.TakenRow.{TakenRow}
use Rattle.trace_text.specs.declared.taken_row.TakenRow.TheVariants as taken
use Rattle.trace_text.specs.declared.rows.Rows.{Rows}

-- the row
abbrev pub row_value : TakenRow → Row
row_value (taken.Net net) = Net net.racks net.hosts net.cores
row_value (taken.Ask round src dst slots) = Ask round src dst slots
row_value (taken.Meets round endpoint up fate) = Meets round endpoint up fate
row_value (taken.Boot round endpoint version) = Boot round endpoint version
row_value (taken.Raw round packet) = Raw round (bytes_of packet.now)
row_value (taken.Put endpoint packet) = Put endpoint (bytes_of packet.now)
row_value (taken.End rounds) = End rounds

-- the row or its fault
abbrev pub as_rows : Result TakenRow Fault → Result Row Fault
as_rows (Ok row) = Ok (row_value row)
as_rows (Err fault) = Err fault

abbrev pub row_unless : Row → Option Fault → Result Row Fault
row_unless row None = Ok row
row_unless row (Some fault) = Err fault

-- the net, or the fault of a row that would tell it
abbrev pub net_or_fault : Result Network NetRefused → Result Network Fault
net_or_fault (Ok net) = Ok net
net_or_fault (Err net_refused.Range) = Err fault.Range

-- a packet in hexadecimal, which is not too long
abbrev pub IsPacket : Field → Type 0
IsPacket packet = (is_hex packet ≡ true) × (length packet ≤ 4096)

-- the third field read as a packet in hexadecimal, or why it writes none: it is no hexadecimal text, or too long a one
abbrev pub ReadsPacket : Record → Result (Bor Field) Fault → Type 0
ReadsPacket fields (Ok packet) = (packet.now ≡ field fields 2) × IsPacket packet.now
ReadsPacket fields (Err why) =
    ((is_hex (field fields 2) ≡ false) × (why ≡ fault.Number))
    ⊎ ((is_hex (field fields 2) ≡ true) × (4096 < length (field fields 2)) × (why ≡ fault.Range))

-- what is checked where a row is read is within its limits
abbrev pub IsWholeRow : TakenRow → Type 0
IsWholeRow (taken.Net net) = IsNetwork net
IsWholeRow (taken.Meets round endpoint up fate) = is_fate fate ≡ true
IsWholeRow (taken.Boot round endpoint version) = is_between 1 2 version ≡ true
IsWholeRow (taken.Raw round packet) = IsPacket packet.now
IsWholeRow (taken.Put endpoint packet) = IsPacket packet.now
IsWholeRow row = ⊤

-- the fields read as a row that gives this fate, where they can be read
abbrev pub MeetsFate : Record → Fate → Result TakenRow Fault → Type 0
MeetsFate fields fate (Ok row) = (has_number fields 1 && has_number fields 2 && is_way (field fields 3) ≡ true) × (Meets (field_number_at fields 1) (field_number_at fields 2) (is_up (field fields 3)) fate ≡ row_value row) × IsWholeRow row
MeetsFate fields fate (Err why) = (has_number fields 1 && has_number fields 2 && is_way (field fields 3) ≡ false) × (why ≡ fault.Number)

-- a row that can be read, and is whole; or its fault, whatever stands before it
abbrev pub ReadsKind : Command → Kind → Record → Result TakenRow Fault → Type 0
ReadsKind command kind fields (Ok row) =
    (takes_kind command kind ≡ true) × (may_have kind (length fields) ≡ true) × (is_readable kind fields ≡ true) × (has_rounds_for command (trace_row_of kind fields) ≡ true)
    × (trace_row_of kind fields ≡ row_value row) × IsWholeRow row
ReadsKind command kind fields (Err fault) = (before : List Row) → read_kind command before fields kind ≡ Err fault

-- the row is a net
abbrev pub is_net : TakenRow → Bool
is_net (taken.Net net) = true
is_net row = false

-- how many endpoints the net has, where there is one
abbrev pub endpoints_kept : Option Network → ℕ
endpoints_kept None = 0
endpoints_kept (Some net) = endpoints_of net

-- the net is that of the first row, where there is one
abbrev pub IsNetOf : List Row → Option Network → Type 0
IsNetOf before None = length before ≡ 0
IsNetOf before (Some net) = (0 < length before) × (net_of before ≡ net) × IsNetwork net

-- what is kept stands for these rows
pub record StandsFor (before : List Row) (rows : Rows) : Type 0 where
  pub count : rows.count ≡ length before
  pub net : IsNetOf before rows.net
  pub endpoints : rows.endpoints ≡ endpoints_kept rows.net
  pub round : rows.round ≡ greatest_round before
  pub ended : rows.end ≡ end_of before
  pub short : IfSome rows.end (λ rounds. (1 ≤ rounds) × (rounds ≤ 100000))
  pub table : length rows.totals.items ≡ endpoints_kept rows.net * endpoints_kept rows.net
  pub totals : (src dst : ℕ) → src < endpoints_kept rows.net → dst < endpoints_kept rows.net → slice_index rows.totals.items (src * endpoints_kept rows.net + dst) ≡ sum_by (row_slots src dst) before
  pub bounded : (src dst : ℕ) → sum_by (row_slots src dst) before ≤ 100000000
  pub tidy : IsTidy rows.sums
  pub asks : (round src dst : ℕ) → sum_by (slots_asked round src dst) rows.asks.items + held_sum rows.sums round src dst ≡ sum_by (slots_in_round round src dst) before
  pub among : All (IsAmong (endpoints_kept rows.net)) rows.asks.items
  pub held_among : HoldsAmong (endpoints_kept rows.net) rows.sums
  pub ways : length rows.fated.items ≡ endpoints_kept rows.net * 2
  pub fated : (endpoint : ℕ) (up : Bool) → endpoint < endpoints_kept rows.net → slice_index rows.fated.items (endpoint * 2 + way_number up) ≡ latest_fate endpoint up before
  pub events : AreEventsOf before rows.events.fates.items rows.events.boots.items rows.events.raws.items rows.events.bytes.items
  pub few : length rows.events.boots.items ≤ length before
  pub few_raws : length rows.events.raws.items ≤ length before
  pub few_bytes : length rows.events.bytes.items ≤ 2048 * length before
  pub bounds : EventsAreAmong (endpoints_kept rows.net) rows.events.fates.items rows.events.boots.items rows.events.raws.items rows.events.bytes.items
  pub puts : ArePutsOf before (endpoints_kept rows.net) rows.puts

-- an ask of this round may be the next row, and is of the round of the latest row and of the latest ask
pub record AwaitsAsks (command : Command) (round : ℕ) (rows : Rows) : Type 0 where
  pub some : 0 < rows.count
  pub unended : rows.end ≡ None
  pub takes : takes_kind command kind.Ask ≡ true
  pub early : round ≤ 99999
  pub same : rows.round ≡ round
  pub turned : rows.sums.round ≡ round

-- whole lines at the front of a text were taken: what is kept stands for their rows too, and the rest is left, however the text goes on.
-- Each row that was taken is one record less
abbrev pub TakesLines : Command → List Row → List ℕ → Rows → List ℕ → Type 0
TakesLines command before text rows rest =
    (after : List Row) × StandsFor after rows × ((more : List ℕ) → rows_after command (records_in (text ++ more)) before ≡ rows_after command (records_in (rest ++ more)) after)
    × ((more : List ℕ) → length after + length (records_in (rest ++ more)) ≡ length before + length (records_in (text ++ more)))

-- the number and the fault of the first faulty row among them are told, which it is however the text goes on; or memory is wanting
abbrev pub RefusesLines : Command → List Row → List ℕ → TraceRefused → Type 0
RefusesLines command before text (refused.Row row fault) = (more : List ℕ) → rows_after command (records_in (text ++ more)) before ≡ Err (record { row = row; fault = fault })
RefusesLines command before text refused.Memory = ⊤

-- the lines were taken, or one was refused
abbrev pub ReadsLines : Command → List Row → List ℕ → Rows → Result (Bor (List ℕ)) TraceRefused → Type 0
ReadsLines command before text rows (Ok rest) = TakesLines command before text rows rest.now
ReadsLines command before text rows (Err refused) = RefusesLines command before text refused

-- lines were taken so, or one was refused; or none was taken, and nothing is changed
abbrev pub ReadsFirst : Command → List Row → List ℕ → Rows → Rows → Result (Option (Bor (List ℕ))) TraceRefused → Type 0
ReadsFirst command before text rows new (Ok (Some rest)) = TakesLines command before text new rest.now
ReadsFirst command before text rows new (Ok None) = new ≡ rows
ReadsFirst command before text rows new (Err refused) = RefusesLines command before text refused

-- what is kept stands for some rows
abbrev pub RowsAreKept : Rows → Type 0
RowsAreKept rows = (before : List Row) × StandsFor before rows

-- what the code relies on of a row without fault
abbrev pub IsAllowed : Rows → TakenRow → Type 0
IsAllowed rows (taken.Net net) = (rows.net ≡ None) × IsNetwork net
IsAllowed rows (taken.Ask round src dst slots) = (rows.round ≤ round) × (src < endpoints_kept rows.net) × (dst < endpoints_kept rows.net) × (src ≢ dst) × (0 < slots) × (slice_index rows.totals.items (src * endpoints_kept rows.net + dst) + slots ≤ 100000000)
IsAllowed rows (taken.Meets round endpoint up fate) = (rows.round ≤ round) × (round ≤ 99999) × (endpoint < endpoints_kept rows.net) × (is_fate fate ≡ true)
IsAllowed rows (taken.Boot round endpoint version) = (rows.round ≤ round) × (endpoint < endpoints_kept rows.net) × (is_between 1 2 version ≡ true)
IsAllowed rows (taken.Raw round packet) = (rows.round ≤ round) × IsSome rows.net × IsPacket packet.now
IsAllowed rows (taken.Put endpoint packet) = (endpoint < endpoints_kept rows.net) × (slice_index rows.puts.counts.items endpoint < 1024) × IsPacket packet.now
IsAllowed rows (taken.End rounds) = IsSome rows.net × (rows.end ≡ None) × (1 ≤ rounds) × (rounds ≤ 100000)

-- a row was taken, or its number and fault are told
abbrev pub TakesRow : Command → List Row → Record → Rows → Result (Unit {0}) TraceRefused → Type 0
TakesRow command before fields rows (Ok _) = (row : Row) × (read_row command before fields ≡ Ok row) × StandsFor (before ++ row ∷ []) rows
TakesRow command before fields rows (Err (refused.Row row fault)) = (read_row command before fields ≡ Err fault) × (row ≡ length before + 1)
TakesRow command before fields rows (Err refused.Memory) = ⊤

-- of the records that are left of a text, which ends with them, some were read: their rows were taken, each a record less; or the first
-- fault is told, or want of memory
abbrev pub ReadsRecords : Command → List Row → List Record → Rows → List Record → Result (Unit {0}) TraceRefused → Type 0
ReadsRecords command before records rows left (Ok _) =
    (after : List Row) × StandsFor after rows × (rows_after command records before ≡ rows_after command left after) × (length after + length left ≡ length before + length records)
ReadsRecords command before records rows left (Err refused) = IsFaultOf (content_or_fault (rows_after command records before)) refused

-- the trace that these rows and those of the rest of a text are, or the first faulty row
abbrev pub ReadsRest : Command → List Row → List Record → Result TraceContent TraceRefused → Type 0
ReadsRest command before records (Ok trace) = (content_or_fault (rows_after command records before) ≡ Ok trace) × IsTrace trace
ReadsRest command before records (Err refused) = IsFaultOf (content_or_fault (rows_after command records before)) refused

-- what stands after the last row
abbrev pub Finishes : Rows → Result TraceContent TraceRefused → Type 0
Finishes rows (Ok trace) = (before : List Row) → StandsFor before rows → (content_or_fault (ended before (end_of before)) ≡ Ok trace) × IsTrace trace
Finishes rows (Err refused) = (before : List Row) → StandsFor before rows → IsFaultOf (content_or_fault (ended before (end_of before))) refused
