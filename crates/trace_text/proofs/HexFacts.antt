-- Texts in hexadecimal and the bytes that they write.
use Rattle.std.proofs.Common.{◌≡◌, ℕ, ◌*◌, ◌<◌, List, length, get_or, true, false, Ok, refl, ap}
use Rattle.std.specs.Prelude.{◌==◌, ◌%◌}
use Rattle.std.specs.List.{list_all}
use Rattle.std.proofs.lemmas.Bool.{and_parts, eqb-true}
use Rattle.std.proofs.lemmas.List.Folds.{list_all_at}
use Rattle.std.proofs.lemmas.List.Sums.{AllPass-from_list_all}
use Rattle.hex.specs.Hex.{decode_of, is_hex_digit}
use Rattle.hex.proofs.HexLemmas.{decode_of-digits, decode_of-ok}
use Rattle.trace_text.specs.Fields.{is_hex, bytes_of, bytes_or_none}

-- a byte that is no digit
pub not_hex-at : (text : List ℕ) (i : ℕ) → i < length text → is_hex_digit (get_or text i 0) ≡ false → is_hex text ≡ false
unfolding is_hex
not_hex-at text i lt other = let all = list_all_at is_hex_digit text i 0 lt other in rw all refl

-- all are digits
pub hex-all : (text : List ℕ) → list_all is_hex_digit text ≡ true → is_hex text ≡ (length text % 2 == 0)
unfolding is_hex
hex-all text all = rw all refl

-- what such a text decodes to
pub hex-bytes : (text : List ℕ) → is_hex text ≡ true → (decode_of text ≡ Ok (bytes_of text)) × (length text ≡ 2 * length (bytes_of text))
unfolding is_hex
hex-bytes text hex =
    let parts = and_parts (list_all is_hex_digit text) (length text % 2 == 0) hex in
    let r = decode_of-digits text (eqb-true (length text % 2) 0 parts.1) (AllPass-from_list_all is_hex_digit text parts.0) in
    let same : bytes_of text ≡ r.0 = ap bytes_or_none r.1 in
    (rw same r.1, rw same (decode_of-ok text r.0 r.1).2)
