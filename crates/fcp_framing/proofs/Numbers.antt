-- A number in bytes, highest byte first: it is read as it was written, and written as it was read.
use Rattle.std.proofs.Common.{◌≡◌, ℕ, ◌+◌, ◌*◌, ◌/◌, ◌%◌, ◌^◌, ◌<◌, ◌≤◌, List, [], ◌∷◌, ◌++◌, length, get_or, take, drop, refl, sym, ap, ◌∙◌, append_assoc, inl, inr, arith}
use Rattle.std.specs.Int.{Width, w16, w32, w64, w128, byte_len, from_be_bytes, to_be_bytes}
use Rattle.std.proofs.lemmas.Bool.{cases_lt}
use Rattle.std.proofs.lemmas.List.{take-append-drop, take_at, drop_at, drop-drop, length-take, length-drop, get_or-drop, get_or-take, get_or_past}
use Rattle.std.proofs.Math.Nat.{div-div-eq-div-mul, add-mul-div_right}
use Rattle.std.proofs.lemmas.Nat.{div-mul-add, be_bytes_2, be_bytes_4, be_bytes_8, from_be_bytes-to_be_bytes_2, from_be_bytes-to_be_bytes_4, from_be_bytes-to_be_bytes_8}
use Rattle.fcp_framing.specs.Fields.{number_at}

pub record AreBytes (bytes : List ℕ) : Type 0 where
  pub below : (i : ℕ) → get_or bytes i 0 < 256

pub AreBytes-drop : (n : ℕ) (bytes : List ℕ) → AreBytes bytes → AreBytes (drop n bytes)
AreBytes-drop n bytes h = record { below = λ i. rw get_or-drop (h.below (n + i)) }

pub AreBytes-take : (n : ℕ) (bytes : List ℕ) → AreBytes bytes → AreBytes (take n bytes)
AreBytes-take n bytes h = record {
  below = λ i.
      elim (cases_lt i n) [
        | inl lt ↦ rw (get_or-take n bytes i 0 lt) (h.below i)
        | inr le ↦ rw (get_or_past (take n bytes) i 0 (omega (arith, length-take n bytes))) (omega arith)
      ];
}

-- what holds of the widths of the fields
pub record IsField (w : Width) : Type 0 where
  pub back : (bytes : List ℕ) → length bytes ≡ byte_len w → AreBytes bytes → to_be_bytes w (from_be_bytes w bytes) ≡ bytes
  pub below : (bytes : List ℕ) → AreBytes bytes → from_be_bytes w bytes < 2 ^ (8 * byte_len w)
  pub again : (n : ℕ) → n < 2 ^ (8 * byte_len w) → from_be_bytes w (to_be_bytes w n) ≡ n
  pub len : (n : ℕ) → length (to_be_bytes w n) ≡ byte_len w

pub field16 : IsField w16
field16 = record {
  back = λ bytes len fits. be_bytes_2 bytes _ len fits.below refl;
  below = λ bytes fits. omega (arith, fits.below 0, fits.below 1);
  again = from_be_bytes-to_be_bytes_2;
  len = λ n. refl;
}

pub field32 : IsField w32
field32 = record {
  back = λ bytes len fits. be_bytes_4 bytes _ len fits.below refl;
  below = λ bytes fits. omega (arith, fits.below 0, fits.below 1, fits.below 2, fits.below 3);
  again = from_be_bytes-to_be_bytes_4;
  len = λ n. refl;
}

pub field64 : IsField w64
field64 = record {
  back = λ bytes len fits. be_bytes_8 bytes _ len fits.below refl;
  below = λ bytes fits. omega (arith, fits.below 0, fits.below 1, fits.below 2, fits.below 3, fits.below 4, fits.below 5, fits.below 6, fits.below 7);
  again = from_be_bytes-to_be_bytes_8;
  len = λ n. refl;
}

-- ---- sixteen bytes are two numbers of eight

halves_read : (high low : ℕ) → high < 2 ^ 64 → low < 2 ^ 64 → from_be_bytes w128 (to_be_bytes w64 high ++ to_be_bytes w64 low) ≡ high * 2 ^ 64 + low
halves_read high low fits fits' = omega (arith, from_be_bytes-to_be_bytes_8 high fits, from_be_bytes-to_be_bytes_8 low fits')

high_byte : (high low place : ℕ) → low < 2 ^ 64 → (high * 2 ^ 64 + low) / (2 ^ 64 * place) % 256 ≡ high / place % 256
high_byte high low place fits =
    ap (λ (n : ℕ). n % 256) (sym (div-div-eq-div-mul (high * 2 ^ 64 + low) (2 ^ 64) place) ∙ ap (λ (n : ℕ). n / place) (div-mul-add high (2 ^ 64) low fits))

low_byte : (high low place above : ℕ) → 0 < place → 2 ^ 64 ≡ above * 256 * place → (high * 2 ^ 64 + low) / place % 256 ≡ low / place % 256
low_byte high low place above some is =
    let parts : high * 2 ^ 64 + low ≡ low + high * above * 256 * place = grind arith in
    let far : (low + high * above * 256 * place) / place ≡ low / place + high * above * 256 = add-mul-div_right low (high * above * 256) some in
    let near : (low / place + high * above * 256) % 256 ≡ low / place % 256 = omega arith in
    ap (λ (n : ℕ). n / place % 256) parts ∙ ap (λ (n : ℕ). n % 256) far ∙ near

halves_written : (high low : ℕ) → low < 2 ^ 64 → to_be_bytes w128 (high * 2 ^ 64 + low) ≡ to_be_bytes w64 high ++ to_be_bytes w64 low
halves_written high low fits =
    let high7 = high_byte high low 72057594037927936 fits in
    let high6 = high_byte high low 281474976710656 fits in
    let high5 = high_byte high low 1099511627776 fits in
    let high4 = high_byte high low 4294967296 fits in
    let high3 = high_byte high low 16777216 fits in
    let high2 = high_byte high low 65536 fits in
    let high1 = high_byte high low 256 fits in
    let high0 : (high * 2 ^ 64 + low) / 2 ^ 64 % 256 ≡ high % 256 = ap (λ (n : ℕ). n % 256) (div-mul-add high (2 ^ 64) low fits) in
    let low7 = low_byte high low 72057594037927936 1 (omega arith) refl in
    let low6 = low_byte high low 281474976710656 256 (omega arith) refl in
    let low5 = low_byte high low 1099511627776 65536 (omega arith) refl in
    let low4 = low_byte high low 4294967296 16777216 (omega arith) refl in
    let low3 = low_byte high low 16777216 4294967296 (omega arith) refl in
    let low2 = low_byte high low 65536 1099511627776 (omega arith) refl in
    let low1 = low_byte high low 256 281474976710656 (omega arith) refl in
    let low0 : (high * 2 ^ 64 + low) % 256 ≡ low % 256 = omega arith in
    λ i. high7 i ∷ high6 i ∷ high5 i ∷ high4 i ∷ high3 i ∷ high2 i ∷ high1 i ∷ high0 i ∷ low7 i ∷ low6 i ∷ low5 i ∷ low4 i ∷ low3 i ∷ low2 i ∷ low1 i ∷ low0 i ∷ []

read_128 : (bytes : List ℕ) → length bytes ≡ 16 → AreBytes bytes → to_be_bytes w128 (from_be_bytes w128 bytes) ≡ bytes
read_128 bytes len fits =
    let front = AreBytes-take 8 bytes fits in
    let back = AreBytes-drop 8 bytes fits in
    let high = from_be_bytes w64 (take 8 bytes) in
    let low = from_be_bytes w64 (drop 8 bytes) in
    let first : to_be_bytes w64 high ≡ take 8 bytes = field64.back (take 8 bytes) (omega (arith, length-take 8 bytes)) front in
    let second : to_be_bytes w64 low ≡ drop 8 bytes = field64.back (drop 8 bytes) (omega (arith, length-drop 8 bytes)) back in
    let parts : to_be_bytes w64 high ++ to_be_bytes w64 low ≡ bytes = ap (λ (t : List ℕ). t ++ to_be_bytes w64 low) first ∙ ap (λ (t : List ℕ). take 8 bytes ++ t) second ∙ take-append-drop 8 bytes in
    let number : from_be_bytes w128 bytes ≡ high * 2 ^ 64 + low = ap (from_be_bytes w128) (sym parts) ∙ halves_read high low (field64.below (take 8 bytes) front) (field64.below (drop 8 bytes) back) in
    ap (to_be_bytes w128) number ∙ halves_written high low (field64.below (drop 8 bytes) back) ∙ parts

written_128 : (n : ℕ) → n < 2 ^ 128 → from_be_bytes w128 (to_be_bytes w128 n) ≡ n
written_128 n fits =
    let high = n / 18446744073709551616 in
    let low = n % 18446744073709551616 in
    let parts : n ≡ high * 2 ^ 64 + low = omega arith in
    let small : low < 2 ^ 64 = omega arith in
    ap (λ (m : ℕ). from_be_bytes w128 (to_be_bytes w128 m)) parts ∙ ap (from_be_bytes w128) (halves_written high low small) ∙ halves_read high low (omega arith) small ∙ sym parts

pub field128 : IsField w128
field128 = record {
  back = read_128;
  below = λ bytes fits. omega (arith, fits.below 0, fits.below 1, fits.below 2, fits.below 3, fits.below 4, fits.below 5, fits.below 6, fits.below 7, fits.below 8, fits.below 9, fits.below 10, fits.below 11, fits.below 12, fits.below 13, fits.below 14, fits.below 15);
  again = written_128;
  len = λ n. refl;
}

-- ---- at a place of a packet

-- the bytes from a place on begin with the number that stands there
pub number_at-splits : (w : Width) → IsField w → (i : ℕ) (bytes : List ℕ) → AreBytes bytes → i + byte_len w ≤ length bytes → drop i bytes ≡ to_be_bytes w (number_at w i bytes) ++ drop (i + byte_len w) bytes
unfolding number_at
number_at-splits w field i bytes fits within =
    let front : to_be_bytes w (number_at w i bytes) ≡ take (byte_len w) (drop i bytes) =
    field.back (take (byte_len w) (drop i bytes)) (omega (arith, length-take (byte_len w) (drop i bytes), length-drop i bytes)) (AreBytes-take (byte_len w) (drop i bytes) (AreBytes-drop i bytes fits)) in
    sym (take-append-drop (byte_len w) (drop i bytes))
    ∙ ap (λ (x : List ℕ). x ++ drop (byte_len w) (drop i bytes)) (sym front)
    ∙ ap (λ (x : List ℕ). to_be_bytes w (number_at w i bytes) ++ x) (drop-drop (byte_len w) i bytes)

pub number_at-below : (w : Width) → IsField w → (i : ℕ) (bytes : List ℕ) → AreBytes bytes → number_at w i bytes < 2 ^ (8 * byte_len w)
unfolding number_at
number_at-below w field i bytes fits = field.below (take (byte_len w) (drop i bytes)) (AreBytes-take (byte_len w) (drop i bytes) (AreBytes-drop i bytes fits))

-- the bytes that begin with a number, and what stands behind it
pub number_again : (w : Width) → IsField w → (n : ℕ) (rest more : List ℕ) → n < 2 ^ (8 * byte_len w) → from_be_bytes w (take (byte_len w) ((to_be_bytes w n ++ rest) ++ more)) ≡ n
number_again w field n rest more fits =
    ap (λ (t : List ℕ). from_be_bytes w (take (byte_len w) t)) (append_assoc (to_be_bytes w n) rest more)
    ∙ ap (from_be_bytes w) (take_at (to_be_bytes w n) (rest ++ more) (byte_len w) (field.len n))
    ∙ field.again n fits

pub behind_number : (w : Width) → IsField w → (n : ℕ) (rest more : List ℕ) → drop (byte_len w) ((to_be_bytes w n ++ rest) ++ more) ≡ rest ++ more
behind_number w field n rest more = ap (drop (byte_len w)) (append_assoc (to_be_bytes w n) rest more) ∙ drop_at (to_be_bytes w n) (rest ++ more) (byte_len w) (field.len n)
