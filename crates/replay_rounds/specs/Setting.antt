-- The run of a trace as its setting tells it: what the trace says of each round and endpoint, with batches of b slots, windows of g
-- rounds and the cores that are named. From this project's own profile.
use Rattle.std.specs.Prelude.{ℕ, ◌+◌, true, false, List, [], ◌∷◌, length, replicate, Option, unwrap_or}
use Rattle.clos_topology.specs.Network.{endpoints_of}
use Rattle.clos_topology.specs.NetSlots.{SlotCores, limits_of}
use Rattle.trace_text.specs.Trace.{TraceContent, asked_at, fate_at, boots_at, raw_at, last_one}
use Rattle.lane_rounds.specs.Raw.{Raw}
use Rattle.lane_rounds.specs.Outside.{packets_in}
use Rattle.trace_run.specs.Run.{FromOutside, Setting}

-- the byte that names a core to an endpoint, 255 where there is none
abbrev pub byte_of : Option ℕ → ℕ
byte_of core = unwrap_or core 255

-- the raw packets of a round, each with its place among them
abbrev pub rows_from : ℕ → List (List ℕ) → List Raw
rows_from place [] = []
rows_from place (bytes ∷ raw) = record { place = place; bytes = bytes } ∷ rows_from (place + 1) raw

abbrev pub raw_rows : TraceContent → ℕ → List Raw
raw_rows trace round = rows_from 0 (raw_at trace round)

-- boots of one round follow each other with nothing between them, so the version of the last is that of all
abbrev pub boots_in : List ℕ → List ℕ
boots_in versions = replicate (length versions) (unwrap_or (last_one versions) 1)

abbrev pub outside_of : TraceContent → FromOutside
outside_of trace = record {
  boots = λ round endpoint. boots_in (boots_at trace round endpoint);
  asks = λ round endpoint. asked_at trace round endpoint;
  up = λ round endpoint. fate_at trace round endpoint true;
  down = λ round endpoint. fate_at trace round endpoint false;
  raw = λ round endpoint. packets_in endpoint (endpoints_of trace.net) (raw_rows trace round);
}

abbrev pub setting_of : TraceContent → ℕ → ℕ → SlotCores → Setting
setting_of trace b g cores = record {
  endpoints = endpoints_of trace.net;
  limits = limits_of trace.net;
  b = b;
  g = g;
  cores = λ number source. byte_of (cores number source);
  outside = outside_of trace;
}
