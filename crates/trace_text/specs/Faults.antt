-- When a row of a trace is faulty: each fault is a condition on the row and the rows before it, and the first whose
-- condition holds is the row's. This project's own profile.
use Rattle.std.specs.Prelude.{ℕ, ◌+◌, ◌==◌, ◌&&◌, ◌||◌, List, length, Bool, true, false, not, nat_lt, nat_le, Option, Some, None, is_some, Result, Ok, Err, if◌then◌else◌, codes, sum_by}
use Rattle.std.specs.List.{list_any, filter_map}
use Rattle.std.specs.Str.{bytes_eq}
use Rattle.clos_topology.specs.Network.{endpoints_of}
use Rattle.clos_topology.specs.Limits as limits
use Rattle.trace_text.specs.Fields.{Record, field}
use Rattle.loss_world.specs.declared.fate.Fate.{Fate}
use Rattle.loss_world.specs.declared.fate.Fate.TheVariants.{Hold}
use Rattle.trace_text.specs.Rows.{Row, Net, Ask, Meets, Boot, Raw, Put, End, kind_of, may_have, is_readable, trace_row_of}
use Rattle.trace_text.specs.Stage.{takes_kind, takes_rounds}
use Rattle.trace_text.specs.Earlier.{net_of, named_round, greatest_round, end_of, row_slots, fate_in, put_in}
use Rattle.trace_text.specs.declared.command.Command.{Command}
use Rattle.trace_text.specs.declared.kind.Kind.{Kind}
use Rattle.trace_text.specs.declared.fault.Fault.{Fault}
use Rattle.trace_text.specs.declared.fault.Fault.TheVariants as fault

-- a number from low to high
abbrev pub is_between : ℕ → ℕ → ℕ → Bool
is_between low high n = nat_le low n && nat_le n high

abbrev pub is_round : ℕ → Bool
is_round n = nat_le n 99999

abbrev pub is_fate : Fate → Bool
is_fate (Hold rounds) = is_between 1 100 rounds
is_fate fate = true

-- each field is in its range, in a net of so many endpoints
abbrev pub is_in_range : ℕ → Row → Bool
is_in_range endpoints (Net racks hosts cores) = limits.are_sizes_in_range racks hosts cores
is_in_range endpoints (Ask round src dst slots) = is_round round && nat_lt src endpoints && nat_lt dst endpoints && is_between 1 100000000 slots
is_in_range endpoints (Meets round endpoint up fate) = is_round round && nat_lt endpoint endpoints && is_fate fate
is_in_range endpoints (Boot round endpoint version) = is_round round && nat_lt endpoint endpoints && is_between 1 2 version
is_in_range endpoints (Raw round packet) = is_round round && nat_le (length packet) 2048
is_in_range endpoints (Put endpoint packet) = nat_lt endpoint endpoints && nat_le (length packet) 2048
is_in_range endpoints (End rounds) = is_between 1 100000 rounds

-- the rounds of an end are such as the command takes
abbrev pub has_rounds_for : Command → Row → Bool
has_rounds_for command (End rounds) = takes_rounds command rounds
has_rounds_for command row = true

-- an endpoint asks for itself
abbrev pub is_self_flow : Row → Bool
is_self_flow (Ask round src dst slots) = src == dst
is_self_flow row = false

-- no row stands before
abbrev pub is_first : List Row → Bool
is_first before = length before == 0

-- a row stands after the end, a net after the first row, a round below that of an earlier row, or an end whose rounds
-- are not above every round that is named
abbrev pub is_out_of_order : List Row → Row → Bool
is_out_of_order before (Net racks hosts cores) = not (is_first before)
is_out_of_order before (End rounds) = is_some (end_of before) || nat_le rounds (greatest_round before)
is_out_of_order before (Put endpoint packet) = is_some (end_of before)
is_out_of_order before row = is_some (end_of before) || nat_lt (named_round row) (greatest_round before)

-- the asks of this flow up to this row are too much together, or this endpoint put 1,024 packets before
abbrev pub is_too_much : List Row → Row → Bool
is_too_much before (Ask round src dst slots) = nat_lt 100000000 (sum_by (row_slots src dst) before + slots)
is_too_much before (Put endpoint packet) = nat_le 1024 (length (filter_map (put_in endpoint) before))
is_too_much before row = false

-- an earlier row gave a fate to the same packet
abbrev pub has_two_fates : List Row → Row → Bool
has_two_fates before (Meets round endpoint up fate) = list_any (λ row. is_some (fate_in round endpoint up row)) before
has_two_fates before row = false

-- the fault of a row that could be read, or the row
unfoldable pub checked : List Row → Row → Result Row Fault
checked before row =
    if not (is_in_range (endpoints_of (net_of before)) row) then Err fault.Range
    else if is_self_flow row then Err fault.SelfFlow
    else if is_out_of_order before row then Err fault.Order
    else if is_too_much before row then Err fault.Sum
    else if has_two_fates before row then Err fault.TwoFates
    else Ok row

-- the fault of a row of this kind, or the row
unfoldable pub read_kind : Command → List Row → Record → Kind → Result Row Fault
read_kind command before fields k =
    if not (takes_kind command k) then Err fault.NotHere
    else if not (may_have k (length fields)) then Err fault.Fields
    else if not (is_readable k fields) then Err fault.Number
    else if not (has_rounds_for command (trace_row_of k fields)) then Err fault.Range
    else checked before (trace_row_of k fields)

abbrev pub read_named : Command → List Row → Record → Option Kind → Result Row Fault
read_named command before fields None = Err fault.Kind
read_named command before fields (Some k) = read_kind command before fields k

-- the fault of a row after the rows before it, or the row
unfoldable pub read_row : Command → List Row → Record → Result Row Fault
read_row command before fields =
    if is_first before && not (bytes_eq (field fields 0) (codes "net")) then Err fault.NoNet
    else read_named command before fields (kind_of (field fields 0))
