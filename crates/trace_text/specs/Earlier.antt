-- What the rows of a trace up to some row say together. This project's own profile.
use Rattle.std.specs.Prelude.{ℕ, ◌+◌, ◌==◌, ◌&&◌, max, List, [], ◌∷◌, Bool, true, false, not, Option, Some, None, if◌then◌else◌}
use Rattle.std.specs.Option.{option_or}
use Rattle.clos_topology.specs.Network.{Network}
use Rattle.loss_world.specs.declared.fate.Fate.{Fate}
use Rattle.trace_text.specs.Rows.{Row, Net, Ask, Meets, Boot, Raw, Put, End}

-- no racks, no hosts and no cores
abbrev pub no_net : Network
no_net = record { racks = 0; hosts = 0; cores = 0 }

-- the net that a row tells
abbrev pub net_in : Row → Network
net_in (Net racks hosts cores) = record { racks = racks; hosts = hosts; cores = cores }
net_in row = no_net

-- the net of the first row
abbrev pub net_of : List Row → Network
net_of [] = no_net
net_of (row ∷ rows) = net_in row

-- the round that a row names, or 0
abbrev pub named_round : Row → ℕ
named_round (Ask round src dst slots) = round
named_round (Meets round endpoint up fate) = round
named_round (Boot round endpoint version) = round
named_round (Raw round packet) = round
named_round row = 0

-- the greatest round that is named, or 0
abbrev pub greatest_round : List Row → ℕ
greatest_round [] = 0
greatest_round (row ∷ rows) = max (named_round row) (greatest_round rows)

-- the rounds with which a row ends the trace
abbrev pub end_in : Row → Option ℕ
end_in (End rounds) = Some rounds
end_in row = None

-- the rounds of the trace, once a row has ended it
abbrev pub end_of : List Row → Option ℕ
end_of [] = None
end_of (row ∷ rows) = option_or (end_in row) (end_of rows)

-- the slots that a row asks for, where it is an ask of this flow
abbrev pub row_slots : ℕ → ℕ → Row → ℕ
row_slots src dst (Ask round s d slots) = if (s == src) && (d == dst) then slots else 0
row_slots src dst row = 0

-- the same, where it is one of this round
abbrev pub slots_in_round : ℕ → ℕ → ℕ → Row → ℕ
slots_in_round round src dst (Ask r s d slots) = if (r == round) && (s == src) && (d == dst) then slots else 0
slots_in_round round src dst row = 0

-- both ways are up or both are down
abbrev pub is_same_way : Bool → Bool → Bool
is_same_way true up = up
is_same_way false up = not up

-- the fate that a row gives to the packet of this round, endpoint and way, if it does
abbrev pub fate_in : ℕ → ℕ → Bool → Row → Option Fate
fate_in round endpoint up (Meets r e u fate) = if (r == round) && (e == endpoint) && is_same_way u up then Some fate else None
fate_in round endpoint up row = None

-- the version of a row's boot, where it is one of this round and endpoint
abbrev pub boot_in : ℕ → ℕ → Row → Option ℕ
boot_in round endpoint (Boot r e version) = if (r == round) && (e == endpoint) then Some version else None
boot_in round endpoint row = None

-- the packet of a raw row, where it is one of this round
abbrev pub packet_in : ℕ → Row → Option (List ℕ)
packet_in round (Raw r packet) = if r == round then Some packet else None
packet_in round row = None

-- the packet that a row puts, where it is one of this endpoint
abbrev pub put_in : ℕ → Row → Option (List ℕ)
put_in endpoint (Put e packet) = if e == endpoint then Some packet else None
put_in endpoint row = None

-- the round after the latest in which a row gives a fate to a packet of this endpoint and way, 0 for none
abbrev pub fated_by : ℕ → Bool → Row → ℕ
fated_by endpoint up (Meets r e u fate) = if (e == endpoint) && is_same_way u up then r + 1 else 0
fated_by endpoint up row = 0

abbrev pub latest_fate : ℕ → Bool → List Row → ℕ
latest_fate endpoint up [] = 0
latest_fate endpoint up (row ∷ rows) = max (fated_by endpoint up row) (latest_fate endpoint up rows)
