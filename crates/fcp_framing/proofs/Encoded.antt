-- What the parts of an encoder leave in the buffer together.
use Rattle.std.proofs.Common.{◌≡◌, ℕ, ◌+◌, ◌*◌, ◌≤◌, List, ◌∷◌, ◌++◌, length, take, drop, refl, ap, ◌∙◌, append_assoc, arith}
use Rattle.std.specs.Int.{w16, w32, byte_len, to_be_bytes}
use Rattle.std.specs.List.{flat_map}
use Rattle.std.proofs.lemmas.List.{length-append}
use Rattle.fcp_framing.specs.declared.packet.Demand.{Demand}
use Rattle.fcp_framing.specs.declared.packet.Told.{Told}
use Rattle.fcp_framing.specs.declared.packet.Up.{Up}
use Rattle.fcp_framing.specs.declared.packet.Down.{Down}
use Rattle.fcp_framing.specs.Versions.{mask_width}
use Rattle.fcp_framing.specs.Spelling.{demand_bytes, request_bytes, told_bytes, down_bytes}
use Rattle.fcp_framing.specs.Writing.{with_bytes}
use Rattle.fcp_framing.proofs.Widths.{mask_field}
use Rattle.fcp_framing.proofs.Buffers.{wrote_then, take-with_bytes, drop-with_bytes}
use Rattle.fcp_framing.proofs.Requests.{length-request_bytes}
use Rattle.fcp_framing.proofs.Allocations.{length-down_bytes}

-- what all packets begin with, and the number and the acknowledgement behind it
abbrev pub head_bytes : ℕ → ℕ → ℕ → ℕ → List ℕ
head_bytes version kind endpoint epoch = version ∷ kind ∷ to_be_bytes w16 endpoint ++ to_be_bytes w32 epoch

abbrev pub window_bytes : ℕ → ℕ → ℕ → ℕ → List ℕ
window_bytes version seq high mask = to_be_bytes w32 seq ++ to_be_bytes w32 high ++ to_be_bytes (mask_width version) mask

-- a buffer that now begins with these bytes, up to a place, and is as it was from there on
pub record IsWritten (bytes : List ℕ) (end : ℕ) (buf new : List ℕ) : Type 0 where
  pub text : take end new ≡ bytes
  pub len : end ≡ length bytes
  pub rest : drop end new ≡ drop end buf

is_written : (bytes : List ℕ) (end : ℕ) (buf new : List ℕ) → end ≡ length bytes → new ≡ with_bytes 0 bytes buf → IsWritten bytes end buf new
is_written bytes end buf new len whole = record { text = ap (take end) whole ∙ take-with_bytes end bytes buf len; len = len; rest = ap (drop end) whole ∙ drop-with_bytes end bytes buf len }

-- what stands before the mask
abbrev front_bytes : ℕ → ℕ → ℕ → ℕ → ℕ → ℕ → List ℕ
front_bytes version kind endpoint epoch seq high = version ∷ kind ∷ to_be_bytes w16 endpoint ++ to_be_bytes w32 epoch ++ to_be_bytes w32 seq ++ to_be_bytes w32 high

pub request_encoded : (up : Up) (demands : List Demand) (end stop : ℕ) (buf head window count list : List ℕ) → end ≡ 16 + byte_len (mask_width up.version) → stop ≡ end + 2 + 6 * length demands → end + 2 ≤ length buf → demands ≡ up.demands.items → head ≡ with_bytes 0 (head_bytes up.version 1 up.src up.epoch) buf
    → window ≡ with_bytes 8 (window_bytes up.version up.seq up.high up.mask) head → count ≡ with_bytes end (to_be_bytes w16 (length demands)) window
    → list ≡ with_bytes (end + 2) (flat_map demand_bytes demands) count → IsWritten (request_bytes up) stop buf list
request_encoded up demands end stop buf head window count list is ends room same one two three four =
    let version = up.version in
    let header = head_bytes version 1 up.src up.epoch in
    let numbers = window_bytes version up.seq up.high up.mask in
    let front = front_bytes version 1 up.src up.epoch up.seq up.high in
    let mask = to_be_bytes (mask_width version) up.mask in
    let number = to_be_bytes w16 (length demands) in
    let lines = flat_map demand_bytes demands in
    let width : length mask ≡ byte_len (mask_width version) = (mask_field version).len up.mask in
    let to_mask = wrote_then 0 8 header numbers buf head window one two refl (omega arith) in
    let to_count = wrote_then 0 end (header ++ numbers) number buf window count to_mask three (omega (arith, is, width)) (omega arith) in
    let whole = wrote_then 0 (end + 2) ((header ++ numbers) ++ number) lines buf count list to_count four (omega (arith, is, width, length-append mask number)) room in
    is_written (request_bytes up) stop buf list (ends ∙ omega (arith, is, ap length same, length-request_bytes up)) (whole ∙ ap (λ (t : List ℕ). with_bytes 0 (front ++ t) buf) (append_assoc mask number lines)
    ∙ ap (λ (items : List Demand). with_bytes 0 (front ++ (mask ++ (to_be_bytes w16 (length items) ++ flat_map demand_bytes items))) buf) same)

pub allocation_encoded : (down : Down) (slots_told : List Told) (end stop : ℕ) (buf head window batch count list : List ℕ) → end ≡ 16 + byte_len (mask_width down.version) → stop ≡ end + 6 + 4 * length slots_told → end + 6 ≤ length buf → slots_told ≡ down.told.items → head ≡ with_bytes 0 (head_bytes down.version 3 down.dst down.epoch) buf
    → window ≡ with_bytes 8 (window_bytes down.version down.seq down.high down.mask) head → batch ≡ with_bytes end (to_be_bytes w32 down.batch) window
    → count ≡ with_bytes (end + 4) (to_be_bytes w16 (length slots_told)) batch → list ≡ with_bytes (end + 6) (flat_map told_bytes slots_told) count
    → IsWritten (down_bytes down) stop buf list
unfolding down_bytes
allocation_encoded down slots_told end stop buf head window batch count list is ends room same one two three four five =
    let version = down.version in
    let header = head_bytes version 3 down.dst down.epoch in
    let numbers = window_bytes version down.seq down.high down.mask in
    let front = front_bytes version 3 down.dst down.epoch down.seq down.high in
    let mask = to_be_bytes (mask_width version) down.mask in
    let of_batch = to_be_bytes w32 down.batch in
    let number = to_be_bytes w16 (length slots_told) in
    let lines = flat_map told_bytes slots_told in
    let width : length mask ≡ byte_len (mask_width version) = (mask_field version).len down.mask in
    let to_mask = wrote_then 0 8 header numbers buf head window one two refl (omega arith) in
    let to_batch = wrote_then 0 end (header ++ numbers) of_batch buf window batch to_mask three (omega (arith, is, width)) (omega arith) in
    let to_count = wrote_then 0 (end + 4) ((header ++ numbers) ++ of_batch) number buf batch count to_batch four (omega (arith, is, width, length-append mask of_batch)) (omega arith) in
    let whole = wrote_then 0 (end + 6) (((header ++ numbers) ++ of_batch) ++ number) lines buf count list to_count five (omega (arith, is, width, length-append mask of_batch, length-append (mask ++ of_batch) number)) room in
    is_written (down_bytes down) stop buf list (ends ∙ omega (arith, is, ap length same, length-down_bytes down)) (whole ∙ ap (λ (t : List ℕ). with_bytes 0 (front ++ t) buf) (append_assoc (mask ++ of_batch) number lines ∙ append_assoc mask of_batch (number ++ lines))
    ∙ ap (λ (items : List Told). with_bytes 0 (front ++ (mask ++ (of_batch ++ to_be_bytes w16 (length items) ++ flat_map told_bytes items))) buf) same)
