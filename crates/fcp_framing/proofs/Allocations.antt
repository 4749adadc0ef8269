-- An allocation is read as it was written, and written as it was read.
use Rattle.std.proofs.Common.{◌≡◌, ℕ, ◌+◌, ◌*◌, ◌^◌, ◌<◌, List, ◌∷◌, ◌++◌, length, drop, sym, ap, ◌∙◌, arith, refl}
use Rattle.std.specs.Int.{w16, w32, byte_len, to_be_bytes}
use Rattle.std.specs.List.{flat_map, AllByRecursion}
use Rattle.std.specs.Simd.{first_chunks}
use Rattle.std.proofs.lemmas.List.{length-append, length-drop, length-map, drop-drop}
use Rattle.std.proofs.lemmas.Nat.{from_be_bytes-to_be_bytes_2, from_be_bytes-to_be_bytes_4}
use Rattle.fcp_framing.specs.declared.packet.Down.{Down}
use Rattle.fcp_framing.specs.Versions.{mask_bits, mask_width}
use Rattle.fcp_framing.specs.Spelling.{told_bytes, down_bytes, FitsDown}
use Rattle.fcp_framing.specs.Fields.{number_at, version_in, kind_in, endpoint_in, epoch_in, seq_in, high_in, width_in, mask_in, mask_end, batch_in, told_in_bytes, told_slots_in, allocation_count, allocation_header, allocation_length, down_of}
use Rattle.fcp_framing.proofs.Numbers.{AreBytes, AreBytes-drop, field16, field32, number_at-splits, number_again, behind_number}
use Rattle.fcp_framing.proofs.Widths.{mask_field, width_from_bits}
use Rattle.fcp_framing.proofs.Entries.{told_line, FitsTold, lines_written, lines_again, length-lines}
use Rattle.fcp_framing.proofs.Requests.{head_splits, length-first_chunks}

pub length-told_slots_in : (bytes : List ℕ) → length (told_slots_in bytes) ≡ allocation_count bytes
length-told_slots_in bytes =
    length-map (first_chunks 4 (allocation_count bytes) (drop (allocation_header bytes) bytes)) told_in_bytes ∙ length-first_chunks 4 (allocation_count bytes) (drop (allocation_header bytes) bytes)

pub allocation_written : (bytes : List ℕ) → AreBytes bytes → length bytes ≡ allocation_length bytes → kind_in bytes ≡ 3 → bytes ≡ down_bytes (down_of bytes)
unfolding down_bytes down_of
allocation_written bytes fits len kind =
    let list_bytes = drop (allocation_header bytes) bytes in
    let dst = number_at-splits w16 field16 2 bytes fits (omega arith) in
    let epoch = number_at-splits w32 field32 4 bytes fits (omega arith) in
    let seq = number_at-splits w32 field32 8 bytes fits (omega arith) in
    let high = number_at-splits w32 field32 12 bytes fits (omega arith) in
    let mask = number_at-splits (width_in bytes) (mask_field (version_in bytes)) 16 bytes fits (omega arith) in
    let batch = number_at-splits w32 field32 (mask_end bytes) bytes fits (omega arith) in
    let count = number_at-splits w16 field16 (mask_end bytes + 4) bytes fits (omega arith) in
    let header : mask_end bytes + 4 + 2 ≡ allocation_header bytes = omega arith in
    let list : flat_map told_bytes (told_slots_in bytes) ≡ list_bytes =
    lines_written 4 told_bytes told_in_bytes FitsTold told_line (allocation_count bytes) list_bytes (AreBytes-drop (allocation_header bytes) bytes fits) (omega (arith, length-drop (allocation_header bytes) bytes)) in
    let number16 = to_be_bytes w16 in
    let number32 = to_be_bytes w32 in
    let number_mask = to_be_bytes (width_in bytes) in
    let behind_count = count ∙ ap (λ (place : ℕ). number16 (allocation_count bytes) ++ drop place bytes) header ∙ ap (λ (n : ℕ). number16 n ++ list_bytes) (sym (length-told_slots_in bytes))
    ∙ ap (λ (t : List ℕ). number16 (length (told_slots_in bytes)) ++ t) (sym list) in
    let behind_batch = batch ∙ ap (λ (t : List ℕ). number32 (batch_in bytes) ++ t) behind_count in
    let behind_mask = mask ∙ ap (λ (t : List ℕ). number_mask (mask_in bytes) ++ t) behind_batch in
    let behind_high = high ∙ ap (λ (t : List ℕ). number32 (high_in bytes) ++ t) behind_mask in
    let behind_seq = seq ∙ ap (λ (t : List ℕ). number32 (seq_in bytes) ++ t) behind_high in
    let behind_epoch = epoch ∙ ap (λ (t : List ℕ). number32 (epoch_in bytes) ++ t) behind_seq in
    let behind_dst = dst ∙ ap (λ (t : List ℕ). number16 (endpoint_in bytes) ++ t) behind_epoch in
    let head : version_in bytes ∷ kind_in bytes ∷ drop 2 bytes ≡ version_in bytes ∷ 3 ∷ drop 2 bytes = rw kind refl in
    head_splits bytes (omega arith) ∙ head ∙ ap (λ (t : List ℕ). version_in bytes ∷ 3 ∷ t) behind_dst

-- what fits the fields of an allocation
pub record FitsAllocation (down : Down) : Type 0 where
  pub dst : down.dst < 2 ^ 16
  pub mask : down.mask < 2 ^ mask_bits down.version
  pub count : length down.told.items < 2 ^ 16
  pub told : AllByRecursion FitsTold down.told.items
  pub numbers : FitsDown down

abbrev lines_of : Down → List ℕ
lines_of down = flat_map told_bytes down.told.items

abbrev behind_mask : Down → List ℕ
behind_mask down = to_be_bytes w32 down.batch ++ to_be_bytes w16 (length down.told.items) ++ lines_of down

-- the batch, the count and the lines stand behind the mask
behind_mask-again : (down : Down) (more : List ℕ) → drop (16 + byte_len (mask_width down.version)) (down_bytes down ++ more) ≡ behind_mask down ++ more
unfolding down_bytes
behind_mask-again down more =
    let w = mask_width down.version in
    sym (drop-drop (byte_len w) 16 (down_bytes down ++ more)) ∙ behind_number w (mask_field down.version) down.mask (behind_mask down) more

count-again : (down : Down) (more : List ℕ) → drop (16 + byte_len (mask_width down.version) + 4) (down_bytes down ++ more) ≡ (to_be_bytes w16 (length down.told.items) ++ lines_of down) ++ more
count-again down more =
    let end = 16 + byte_len (mask_width down.version) in
    sym (drop-drop 4 end (down_bytes down ++ more)) ∙ ap (drop 4) (behind_mask-again down more)

lines-again : (down : Down) (more : List ℕ) → drop (16 + byte_len (mask_width down.version) + 6) (down_bytes down ++ more) ≡ lines_of down ++ more
lines-again down more =
    let end = 16 + byte_len (mask_width down.version) in
    sym (drop-drop 6 end (down_bytes down ++ more)) ∙ ap (drop 6) (behind_mask-again down more)

-- the version stands in the first byte
pub version_again : (down : Down) (more : List ℕ) → version_in (down_bytes down ++ more) ≡ down.version
unfolding down_bytes
version_again down more = refl

pub allocation_count_again : (down : Down) (more : List ℕ) → length down.told.items < 2 ^ 16 → allocation_count (down_bytes down ++ more) ≡ length down.told.items
unfolding number_at
allocation_count_again down more few = rw (version_again down more, count-again down more) (from_be_bytes-to_be_bytes_2 (length down.told.items) few)

batch_again : (down : Down) (more : List ℕ) → down.batch < 2 ^ 32 → batch_in (down_bytes down ++ more) ≡ down.batch
unfolding number_at
batch_again down more fits = rw (version_again down more, behind_mask-again down more) (from_be_bytes-to_be_bytes_4 down.batch fits)

allocation_mask_again : (down : Down) (more : List ℕ) → down.mask < 2 ^ mask_bits down.version → mask_in (down_bytes down ++ more) ≡ down.mask
unfolding number_at down_bytes
allocation_mask_again down more fits = number_again (mask_width down.version) (mask_field down.version) down.mask (behind_mask down) more (width_from_bits down.version down.mask fits)

told_slots_again : (down : Down) (more : List ℕ) → FitsAllocation down → told_slots_in (down_bytes down ++ more) ≡ down.told.items
told_slots_again down more fits =
    rw (allocation_count_again down more fits.count, version_again down more, lines-again down more) (lines_again 4 told_bytes told_in_bytes FitsTold told_line down.told.items more fits.told)

pub allocation_again : (down : Down) (more : List ℕ) → FitsAllocation down → down_of (down_bytes down ++ more) ≡ down
unfolding number_at down_bytes down_of
allocation_again down more fits =
    let dst = from_be_bytes-to_be_bytes_2 down.dst fits.dst in
    let epoch = from_be_bytes-to_be_bytes_4 down.epoch fits.numbers.epoch in
    let seq = from_be_bytes-to_be_bytes_4 down.seq fits.numbers.seq in
    let high = from_be_bytes-to_be_bytes_4 down.high fits.numbers.high in
    let mask = allocation_mask_again down more fits.mask in
    let batch = batch_again down more fits.numbers.batch in
    let told = told_slots_again down more fits in
    λ i. record { version = down.version; dst = dst i; epoch = epoch i; seq = seq i; high = high i; mask = mask i; batch = batch i; told = record { items = told i } }

pub length-down_bytes : (down : Down) → length (down_bytes down) ≡ 22 + byte_len (mask_width down.version) + 4 * length down.told.items
unfolding down_bytes
length-down_bytes down =
    let w = mask_width down.version in
    omega (arith, length-append (to_be_bytes w down.mask) (behind_mask down), (mask_field down.version).len down.mask, length-lines 4 told_bytes told_in_bytes FitsTold told_line down.told.items)
