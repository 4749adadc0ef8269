-- What stands in the bytes of a control packet, place by place, in each version (this project's own profile).
use Rattle.std.specs.Prelude.{◌==◌, ℕ, ◌+◌, ◌*◌, false, if◌then◌else◌, List, map, take, drop, slice_index}
use Rattle.std.specs.Int.{Width, w16, w32, byte_len, from_be_bytes}
use Rattle.std.specs.Simd.{first_chunks}
use Rattle.fcp_framing.specs.declared.packet.Demand.{Demand}
use Rattle.fcp_framing.specs.declared.packet.Told.{Told}
use Rattle.fcp_framing.specs.declared.packet.Up.{Up}
use Rattle.fcp_framing.specs.declared.packet.Down.{Down}
use Rattle.fcp_framing.specs.Versions.{mask_width}
use Rattle.fcp_framing.specs.Spelling.{reset_of}

-- the number of width w at place i, its highest byte first
unfoldable pub number_at : Width → ℕ → List ℕ → ℕ
number_at w i bytes = from_be_bytes w (take (byte_len w) (drop i bytes))

abbrev pub version_in : List ℕ → ℕ
version_in bytes = slice_index bytes 0

abbrev pub kind_in : List ℕ → ℕ
kind_in bytes = slice_index bytes 1

-- the packet's own endpoint: the source of an upward packet, the destination of a downward one
abbrev pub endpoint_in : List ℕ → ℕ
endpoint_in bytes = number_at w16 2 bytes

abbrev pub epoch_in : List ℕ → ℕ
epoch_in bytes = number_at w32 4 bytes

abbrev pub seq_in : List ℕ → ℕ
seq_in bytes = number_at w32 8 bytes

abbrev pub high_in : List ℕ → ℕ
high_in bytes = number_at w32 12 bytes

-- the mask has the width of the packet's version, and what stands behind it moves with its end
abbrev pub width_in : List ℕ → Width
width_in bytes = mask_width (version_in bytes)

abbrev pub mask_in : List ℕ → ℕ
mask_in bytes = number_at (width_in bytes) 16 bytes

abbrev pub mask_end : List ℕ → ℕ
mask_end bytes = 16 + byte_len (width_in bytes)

-- ---- a request

abbrev pub request_header : List ℕ → ℕ
request_header bytes = mask_end bytes + 2

abbrev pub request_count : List ℕ → ℕ
request_count bytes = number_at w16 (mask_end bytes) bytes

abbrev pub request_length : List ℕ → ℕ
request_length bytes = request_header bytes + 6 * request_count bytes

abbrev pub demand_in : List ℕ → Demand
demand_in entry = record { dst = number_at w16 0 entry; total = number_at w32 2 entry }

abbrev pub demands_in : List ℕ → List Demand
demands_in bytes = map demand_in (first_chunks 6 (request_count bytes) (drop (request_header bytes) bytes))

abbrev pub request_of : List ℕ → Up
request_of bytes = record {
  version = version_in bytes;
  reset = false;
  src = endpoint_in bytes;
  epoch = epoch_in bytes;
  seq = seq_in bytes;
  high = high_in bytes;
  mask = mask_in bytes;
  demands = record { items = demands_in bytes };
}

-- the upward packet that stands in the bytes
unfoldable pub up_of : List ℕ → Up
up_of bytes = if kind_in bytes == 1 then request_of bytes else reset_of (version_in bytes) (endpoint_in bytes) (epoch_in bytes)

-- ---- an allocation

abbrev pub allocation_header : List ℕ → ℕ
allocation_header bytes = mask_end bytes + 6

abbrev pub batch_in : List ℕ → ℕ
batch_in bytes = number_at w32 (mask_end bytes) bytes

abbrev pub allocation_count : List ℕ → ℕ
allocation_count bytes = number_at w16 (mask_end bytes + 4) bytes

abbrev pub allocation_length : List ℕ → ℕ
allocation_length bytes = allocation_header bytes + 4 * allocation_count bytes

abbrev pub told_in_bytes : List ℕ → Told
told_in_bytes entry = record { offset = slice_index entry 0; core = slice_index entry 1; dst = number_at w16 2 entry }

abbrev pub told_slots_in : List ℕ → List Told
told_slots_in bytes = map told_in_bytes (first_chunks 4 (allocation_count bytes) (drop (allocation_header bytes) bytes))

-- the downward packet that stands in the bytes
unfoldable pub down_of : List ℕ → Down
down_of bytes = record {
  version = version_in bytes;
  dst = endpoint_in bytes;
  epoch = epoch_in bytes;
  seq = seq_in bytes;
  high = high_in bytes;
  mask = mask_in bytes;
  batch = batch_in bytes;
  told = record { items = told_slots_in bytes };
}
