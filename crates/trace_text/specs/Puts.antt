-- The packets that endpoints put, as they are kept, and what they stand for. This project's own profile.
use Rattle.std.specs.Prelude.{◌≡◌, ℕ, ◌*◌, ◌<◌, ◌≤◌, List, length, map, filter, slice_index, All}
use Rattle.std.specs.List.{filter_map}
use Rattle.trace_text.specs.Rows.{Row}
use Rattle.trace_text.specs.Earlier.{put_in}
use Rattle.trace_text.specs.Events.{IsWithin, is_packet_of, packet_of}
use Rattle.trace_text.specs.declared.packets.KeptPacket.{KeptPacket}
use Rattle.trace_text.specs.declared.puts.PutRows.{PutRows}

-- the packets of an endpoint, each of which is kept under it, of those of all
abbrev pub puts_kept : List KeptPacket → List ℕ → ℕ → List (List ℕ)
puts_kept packets bytes endpoint = map (packet_of bytes) (filter (is_packet_of endpoint) packets)

abbrev pub puts_in : PutRows → ℕ → List (List ℕ)
puts_in puts endpoint = puts_kept puts.packets.items puts.bytes.items endpoint

-- each packet lies within the bytes, and no endpoint put more than 1,024
pub record AreFew (puts : PutRows) : Type 0 where
  pub within : All (IsWithin (length puts.bytes.items)) puts.packets.items
  pub few : (endpoint : ℕ) → length (puts_in puts endpoint) ≤ 1024

-- what is kept of these rows, with a count for each of so many endpoints
pub record ArePutsOf (before : List Row) (endpoints : ℕ) (puts : PutRows) : Type 0 where
  pub each : (endpoint : ℕ) → puts_in puts endpoint ≡ filter_map (put_in endpoint) before
  pub counted : length puts.counts.items ≡ endpoints
  pub counts : (endpoint : ℕ) → endpoint < endpoints → slice_index puts.counts.items endpoint ≡ length (filter_map (put_in endpoint) before)
  pub are_few : AreFew puts
  pub few_bytes : length puts.bytes.items ≤ 2048 * length before
