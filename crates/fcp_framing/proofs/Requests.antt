-- A request is read as it was written, and written as it was read.
use Rattle.std.proofs.Common.{◌≡◌, ℕ, zero, suc, ◌+◌, ◌*◌, ◌^◌, ◌<◌, ◌≤◌, false, List, [], ◌∷◌, ◌++◌, length, drop, refl, sym, ap, ◌∙◌, arith}
use Rattle.std.specs.Int.{w16, w32, byte_len, to_be_bytes}
use Rattle.std.specs.List.{flat_map, AllByRecursion}
use Rattle.std.specs.Simd.{first_chunks}
use Rattle.std.proofs.lemmas.List.{length-append, length-drop, length-map, drop-drop}
use Rattle.std.proofs.lemmas.Nat.{from_be_bytes-to_be_bytes_2, from_be_bytes-to_be_bytes_4}
use Rattle.fcp_framing.specs.declared.packet.Up.{Up}
use Rattle.fcp_framing.specs.Versions.{mask_bits, mask_width}
use Rattle.fcp_framing.specs.Spelling.{demand_bytes, request_bytes, FitsUp}
use Rattle.fcp_framing.specs.Fields.{number_at, version_in, kind_in, endpoint_in, epoch_in, seq_in, high_in, width_in, mask_in, mask_end, demand_in, demands_in, request_count, request_header, request_length, request_of}
use Rattle.fcp_framing.proofs.Numbers.{AreBytes, AreBytes-drop, field16, field32, number_at-splits, number_again, behind_number}
use Rattle.fcp_framing.proofs.Widths.{mask_field, width_from_bits}
use Rattle.fcp_framing.proofs.Entries.{demand_line, FitsDemand, lines_written, lines_again, length-lines}

-- the first two bytes
pub head_splits : (bytes : List ℕ) → 2 ≤ length bytes → bytes ≡ version_in bytes ∷ kind_in bytes ∷ drop 2 bytes
head_splits [] long = absurd (omega arith)
head_splits (a ∷ []) long = absurd (omega arith)
head_splits (a ∷ b ∷ bytes) long = refl

pub length-first_chunks : {X : Type 0} (n k : ℕ) (xs : List X) → length (first_chunks n k xs) ≡ k
length-first_chunks n zero xs = refl
length-first_chunks n (suc k) xs = ap suc (length-first_chunks n k (drop n xs))

pub length-demands_in : (bytes : List ℕ) → length (demands_in bytes) ≡ request_count bytes
length-demands_in bytes =
    length-map (first_chunks 6 (request_count bytes) (drop (request_header bytes) bytes)) demand_in ∙ length-first_chunks 6 (request_count bytes) (drop (request_header bytes) bytes)

pub request_written : (bytes : List ℕ) → AreBytes bytes → length bytes ≡ request_length bytes → kind_in bytes ≡ 1 → bytes ≡ request_bytes (request_of bytes)
request_written bytes fits len kind =
    let list_bytes = drop (request_header bytes) bytes in
    let src = number_at-splits w16 field16 2 bytes fits (omega arith) in
    let epoch = number_at-splits w32 field32 4 bytes fits (omega arith) in
    let seq = number_at-splits w32 field32 8 bytes fits (omega arith) in
    let high = number_at-splits w32 field32 12 bytes fits (omega arith) in
    let mask = number_at-splits (width_in bytes) (mask_field (version_in bytes)) 16 bytes fits (omega arith) in
    let count = number_at-splits w16 field16 (mask_end bytes) bytes fits (omega arith) in
    let list : flat_map demand_bytes (demands_in bytes) ≡ list_bytes =
    lines_written 6 demand_bytes demand_in FitsDemand demand_line (request_count bytes) list_bytes (AreBytes-drop (request_header bytes) bytes fits) (omega (arith, length-drop (request_header bytes) bytes)) in
    let number16 = to_be_bytes w16 in
    let number32 = to_be_bytes w32 in
    let number_mask = to_be_bytes (width_in bytes) in
    let behind_count = count ∙ ap (λ (n : ℕ). number16 n ++ list_bytes) (sym (length-demands_in bytes)) ∙ ap (λ (t : List ℕ). number16 (length (demands_in bytes)) ++ t) (sym list) in
    let behind_mask = mask ∙ ap (λ (t : List ℕ). number_mask (mask_in bytes) ++ t) behind_count in
    let behind_high = high ∙ ap (λ (t : List ℕ). number32 (high_in bytes) ++ t) behind_mask in
    let behind_seq = seq ∙ ap (λ (t : List ℕ). number32 (seq_in bytes) ++ t) behind_high in
    let behind_epoch = epoch ∙ ap (λ (t : List ℕ). number32 (epoch_in bytes) ++ t) behind_seq in
    let behind_src = src ∙ ap (λ (t : List ℕ). number16 (endpoint_in bytes) ++ t) behind_epoch in
    let head : version_in bytes ∷ kind_in bytes ∷ drop 2 bytes ≡ version_in bytes ∷ 1 ∷ drop 2 bytes = rw kind refl in
    head_splits bytes (omega arith) ∙ head ∙ ap (λ (t : List ℕ). version_in bytes ∷ 1 ∷ t) behind_src

-- what fits the fields of a request
pub record FitsRequest (up : Up) : Type 0 where
  pub kind : up.reset ≡ false
  pub src : up.src < 2 ^ 16
  pub mask : up.mask < 2 ^ mask_bits up.version
  pub count : length up.demands.items < 2 ^ 16
  pub demands : AllByRecursion FitsDemand up.demands.items
  pub numbers : FitsUp up

abbrev lines_of : Up → List ℕ
lines_of up = flat_map demand_bytes up.demands.items

abbrev behind_mask : Up → List ℕ
behind_mask up = to_be_bytes w16 (length up.demands.items) ++ lines_of up

-- the count and the lines stand behind the mask
behind_mask-again : (up : Up) (more : List ℕ) → drop (16 + byte_len (mask_width up.version)) (request_bytes up ++ more) ≡ behind_mask up ++ more
behind_mask-again up more =
    let w = mask_width up.version in
    sym (drop-drop (byte_len w) 16 (request_bytes up ++ more)) ∙ behind_number w (mask_field up.version) up.mask (behind_mask up) more

lines-again : (up : Up) (more : List ℕ) → drop (16 + byte_len (mask_width up.version) + 2) (request_bytes up ++ more) ≡ lines_of up ++ more
lines-again up more =
    let end = 16 + byte_len (mask_width up.version) in
    sym (drop-drop 2 end (request_bytes up ++ more)) ∙ ap (drop 2) (behind_mask-again up more)

pub request_count_again : (up : Up) (more : List ℕ) → length up.demands.items < 2 ^ 16 → request_count (request_bytes up ++ more) ≡ length up.demands.items
unfolding number_at
request_count_again up more few = rw (behind_mask-again up more) (from_be_bytes-to_be_bytes_2 (length up.demands.items) few)

request_mask_again : (up : Up) (more : List ℕ) → up.mask < 2 ^ mask_bits up.version → mask_in (request_bytes up ++ more) ≡ up.mask
unfolding number_at
request_mask_again up more fits = number_again (mask_width up.version) (mask_field up.version) up.mask (behind_mask up) more (width_from_bits up.version up.mask fits)

demands_again : (up : Up) (more : List ℕ) → FitsRequest up → demands_in (request_bytes up ++ more) ≡ up.demands.items
demands_again up more fits = rw (request_count_again up more fits.count, lines-again up more) (lines_again 6 demand_bytes demand_in FitsDemand demand_line up.demands.items more fits.demands)

pub request_again : (up : Up) (more : List ℕ) → FitsRequest up → request_of (request_bytes up ++ more) ≡ up
unfolding number_at
request_again up more fits =
    let src = from_be_bytes-to_be_bytes_2 up.src fits.src in
    let epoch = from_be_bytes-to_be_bytes_4 up.epoch fits.numbers.epoch in
    let seq = from_be_bytes-to_be_bytes_4 up.seq fits.numbers.seq in
    let high = from_be_bytes-to_be_bytes_4 up.high fits.numbers.high in
    let mask = request_mask_again up more fits.mask in
    let demands = demands_again up more fits in
    λ i. record { version = up.version; reset = sym fits.kind i; src = src i; epoch = epoch i; seq = seq i; high = high i; mask = mask i; demands = record { items = demands i } }

pub length-request_bytes : (up : Up) → length (request_bytes up) ≡ 18 + byte_len (mask_width up.version) + 6 * length up.demands.items
length-request_bytes up =
    let w = mask_width up.version in
    omega (arith, length-append (to_be_bytes w up.mask) (behind_mask up), (mask_field up.version).len up.mask, length-lines 6 demand_bytes demand_in FitsDemand demand_line up.demands.items)
