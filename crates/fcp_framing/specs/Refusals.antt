-- Which refusals hold of bytes, and the first of them in the order of the table (this project's own profile).
use Rattle.std.specs.Prelude.{◌==◌, ◌&&◌, ◌||◌, ℕ, ◌+◌, Bool, true, false, not, nat_lt, nat_le, if◌then◌else◌, List, [], ◌∷◌, length, map, find, Option}
use Rattle.std.specs.Int.{bit_at}
use Rattle.std.specs.List.{list_any, range_with_len}
use Rattle.fcp_framing.specs.declared.packet.Demand.{Demand}
use Rattle.fcp_framing.specs.declared.packet.Told.{Told}
use Rattle.fcp_framing.specs.declared.refusal.FrameRefused.{FrameRefused}
use Rattle.fcp_framing.specs.declared.refusal.FrameRefused.TheVariants.{Short, Version, Kind, Endpoint, Count, Order, SelfFlow, TooMuch, Mask, Trailing, Epoch, Seq}
use Rattle.fcp_framing.specs.Versions.{is_version}
use Rattle.fcp_framing.specs.Fields.{version_in, kind_in, endpoint_in, epoch_in, seq_in, high_in, mask_in, request_header, request_count, request_length, demands_in, allocation_header, allocation_count, allocation_length, told_slots_in}

abbrev pub frame_refusal_number : FrameRefused → ℕ
frame_refusal_number Short = 1
frame_refusal_number Version = 2
frame_refusal_number Kind = 3
frame_refusal_number Endpoint = 4
frame_refusal_number Count = 5
frame_refusal_number Order = 6
frame_refusal_number SelfFlow = 7
frame_refusal_number TooMuch = 8
frame_refusal_number Mask = 9
frame_refusal_number Trailing = 10
frame_refusal_number Epoch = 11
frame_refusal_number Seq = 12

-- the first refusal that holds
unfoldable pub first_refusal : (FrameRefused → Bool) → Option FrameRefused
first_refusal holds = find holds (Short ∷ Version ∷ Kind ∷ Endpoint ∷ Count ∷ Order ∷ SelfFlow ∷ TooMuch ∷ Mask ∷ Trailing ∷ Epoch ∷ Seq ∷ [])

-- each number is below the next
unfoldable pub is_rising : List ℕ → Bool
is_rising [] = true
is_rising (x ∷ []) = true
is_rising (x ∷ y ∷ xs) = nat_lt x y && is_rising (y ∷ xs)

-- a bit of the mask, which has 128 at most, stands for a number below 1
unfoldable pub names_below_one : ℕ → ℕ → Bool
names_below_one high mask = list_any (λ i. bit_at mask i == 1 && nat_le high (i + 1)) (range_with_len 0 128)

abbrev pub is_no_core : ℕ → Bool
is_no_core core = nat_le 64 core && nat_le core 254

-- ---- the table, for each kind of packet

abbrev pub refuses_reset : ℕ → List ℕ → FrameRefused → Bool
refuses_reset endpoints bytes Short = nat_lt (length bytes) 8
refuses_reset endpoints bytes Endpoint = nat_le endpoints (endpoint_in bytes)
refuses_reset endpoints bytes Trailing = nat_lt 8 (length bytes)
refuses_reset endpoints bytes Epoch = epoch_in bytes == 0
refuses_reset endpoints bytes _ = false

-- the refusals of a request or an allocation that look at its fields alone
abbrev pub refuses_fields : ℕ → List ℕ → FrameRefused → Bool
refuses_fields end bytes Mask = names_below_one (high_in bytes) (mask_in bytes)
refuses_fields end bytes Trailing = nat_lt end (length bytes)
refuses_fields end bytes Epoch = epoch_in bytes == 0
refuses_fields end bytes Seq = seq_in bytes == 0
refuses_fields end bytes _ = false

abbrev pub refuses_request : ℕ → List ℕ → FrameRefused → Bool
refuses_request endpoints bytes Short = nat_lt (length bytes) (request_header bytes) || nat_lt (length bytes) (request_length bytes)
refuses_request endpoints bytes Version = false
refuses_request endpoints bytes Kind = false
refuses_request endpoints bytes Endpoint = nat_le endpoints (endpoint_in bytes) || list_any (λ (demand : Demand). nat_le endpoints demand.dst) (demands_in bytes)
refuses_request endpoints bytes Count = nat_le endpoints (request_count bytes)
refuses_request endpoints bytes Order = not (is_rising (map (λ (demand : Demand). demand.dst) (demands_in bytes)))
refuses_request endpoints bytes SelfFlow = list_any (λ (demand : Demand). demand.dst == endpoint_in bytes) (demands_in bytes)
refuses_request endpoints bytes TooMuch = list_any (λ (demand : Demand). nat_lt 200000000 demand.total) (demands_in bytes)
refuses_request endpoints bytes refusal = refuses_fields (request_length bytes) bytes refusal

abbrev pub refuses_allocation : ℕ → ℕ → List ℕ → FrameRefused → Bool
refuses_allocation endpoints slots bytes Short = nat_lt (length bytes) (allocation_header bytes) || nat_lt (length bytes) (allocation_length bytes)
refuses_allocation endpoints slots bytes Version = false
refuses_allocation endpoints slots bytes Kind = false
refuses_allocation endpoints slots bytes Endpoint = nat_le endpoints (endpoint_in bytes) || list_any (λ (told : Told). nat_le endpoints told.dst) (told_slots_in bytes)
refuses_allocation endpoints slots bytes Count = nat_lt 64 (allocation_count bytes)
refuses_allocation endpoints slots bytes Order = not (is_rising (map (λ (told : Told). told.offset) (told_slots_in bytes)))
refuses_allocation endpoints slots bytes SelfFlow = list_any (λ (told : Told). told.dst == endpoint_in bytes) (told_slots_in bytes)
refuses_allocation endpoints slots bytes TooMuch = list_any (λ (told : Told). nat_le slots told.offset || is_no_core told.core) (told_slots_in bytes)
refuses_allocation endpoints slots bytes refusal = refuses_fields (allocation_length bytes) bytes refusal

-- ---- what several refusals look for at once

-- a line of an allocation to this endpoint would be refused, wherever it stands
abbrev pub line_is_at_fault : ℕ → ℕ → ℕ → Told → Bool
line_is_at_fault endpoints endpoint slots told =
    nat_le endpoints told.dst || (told.dst == endpoint || (nat_le slots told.offset || is_no_core told.core))

-- no refusal finds anything in these lines of an allocation to this endpoint: the offsets rise, and no line is at fault
unfoldable pub lines_are_sound : ℕ → ℕ → ℕ → List Told → Bool
lines_are_sound endpoints endpoint slots lines =
    is_rising (map (λ (told : Told). told.offset) lines) && not (list_any (line_is_at_fault endpoints endpoint slots) lines)

-- ---- the table of each call: upward packets have the kinds 1 and 2, downward ones the kind 3

unfoldable pub refuses_up : ℕ → List ℕ → FrameRefused → Bool
refuses_up endpoints bytes Short =
    nat_lt (length bytes) 2
    || (is_version (version_in bytes) && ((kind_in bytes == 1 && refuses_request endpoints bytes Short) || (kind_in bytes == 2 && refuses_reset endpoints bytes Short)))
refuses_up endpoints bytes Version = not (is_version (version_in bytes))
refuses_up endpoints bytes Kind = not (kind_in bytes == 1 || kind_in bytes == 2)
refuses_up endpoints bytes refusal = if kind_in bytes == 1 then refuses_request endpoints bytes refusal else refuses_reset endpoints bytes refusal

unfoldable pub refuses_down : ℕ → ℕ → List ℕ → FrameRefused → Bool
refuses_down endpoints slots bytes Short =
    nat_lt (length bytes) 2 || (is_version (version_in bytes) && (kind_in bytes == 3 && refuses_allocation endpoints slots bytes Short))
refuses_down endpoints slots bytes Version = not (is_version (version_in bytes))
refuses_down endpoints slots bytes Kind = not (kind_in bytes == 3)
refuses_down endpoints slots bytes refusal = refuses_allocation endpoints slots bytes refusal
