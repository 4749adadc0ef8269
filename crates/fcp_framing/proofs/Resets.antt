-- A reset is read as it was written, and written as it was read; its tests and its rules.
use Rattle.std.proofs.Common.{◌≡◌, ℕ, ◌+◌, ◌≤◌, leb, eqb, List, [], ◌∷◌, ◌++◌, length, drop, refl, sym, ap, ◌∙◌, arith}
use Rattle.std.specs.Int.{w16, w32, to_be_bytes}
use Rattle.std.proofs.lemmas.Bool.{leb-false, lt-leb, ltb-false, le-ltb, ne_eqb}
use Rattle.std.proofs.lemmas.List.{length-append, length-drop, nil_from_length}
use Rattle.std.proofs.lemmas.Nat.{from_be_bytes-to_be_bytes_2, from_be_bytes-to_be_bytes_4}
use Rattle.fcp_framing.specs.declared.packet.Up.{Up}
use Rattle.fcp_framing.specs.Versions.{IsVersion}
use Rattle.fcp_framing.specs.Spelling.{IsReset, FitsUp, reset_of, reset_bytes, SpellsReset}
use Rattle.fcp_framing.specs.Fields.{number_at, version_in, kind_in, endpoint_in, epoch_in}
use Rattle.fcp_framing.specs.Refusals.{refuses_reset}
use Rattle.fcp_framing.proofs.Finding.{HoldsNone, HoldsBefore, behind, above_zero}
use Rattle.fcp_framing.proofs.Numbers.{AreBytes, field16, field32, number_at-splits, number_at-below}
use Rattle.fcp_framing.proofs.Requests.{head_splits}

-- the reset that stands in the bytes
abbrev pub reset_in : List ℕ → Up
reset_in bytes = reset_of (version_in bytes) (endpoint_in bytes) (epoch_in bytes)

reset_written : (bytes : List ℕ) → AreBytes bytes → length bytes ≡ 8 → kind_in bytes ≡ 2 → bytes ≡ reset_bytes (reset_in bytes)
reset_written bytes fits len kind =
    let src = number_at-splits w16 field16 2 bytes fits (omega arith) in
    let epoch = number_at-splits w32 field32 4 bytes fits (omega arith) in
    let nothing : drop 8 bytes ≡ [] = nil_from_length (drop 8 bytes) (omega (arith, length-drop 8 bytes)) in
    let behind_epoch = epoch ∙ ap (λ (t : List ℕ). to_be_bytes w32 (epoch_in bytes) ++ t) nothing in
    let behind_src = src ∙ ap (λ (t : List ℕ). to_be_bytes w16 (endpoint_in bytes) ++ t) behind_epoch in
    let head : version_in bytes ∷ kind_in bytes ∷ drop 2 bytes ≡ version_in bytes ∷ 2 ∷ drop 2 bytes = rw kind refl in
    head_splits bytes (omega arith) ∙ head ∙ ap (λ (t : List ℕ). version_in bytes ∷ 2 ∷ t) behind_src

pub reset_spelled : (endpoints : ℕ) (bytes : List ℕ) → endpoints ≤ 256 → AreBytes bytes → IsVersion (version_in bytes) → kind_in bytes ≡ 2 → HoldsNone (refuses_reset endpoints bytes)
    → SpellsReset endpoints bytes (reset_in bytes)
reset_spelled endpoints bytes network fits version kind none =
    let long : 8 ≤ length bytes = ltb-false _ _ none.short in
    let ended : length bytes ≤ 8 = ltb-false _ _ none.trailing in
    record {
      rules = record { network = network; version = version; source = leb-false _ _ none.endpoint; epoch = above_zero _ none.epoch; blank = refl };
      fits = record { epoch = number_at-below w32 field32 4 bytes fits; seq = omega arith; high = omega arith };
      text = reset_written bytes fits (omega arith) kind;
    }

-- the reset is read again, whatever follows it
pub reset_again : (endpoints : ℕ) (up : Up) (more : List ℕ) → IsReset endpoints up → FitsUp up → reset_in (reset_bytes up ++ more) ≡ up
unfolding number_at
reset_again endpoints up more rules fits =
    let network = rules.network in
    let here = rules.source in
    let src = from_be_bytes-to_be_bytes_2 up.src (omega arith) in
    let epoch = from_be_bytes-to_be_bytes_4 up.epoch fits.epoch in
    rw (src, epoch) (sym rules.blank)

pub reset_passes : (endpoints : ℕ) (up : Up) (more : List ℕ) → IsReset endpoints up → FitsUp up → HoldsBefore (refuses_reset endpoints (reset_bytes up ++ more)) (length more)
reset_passes endpoints up more rules fits =
    let bytes = reset_bytes up ++ more in
    let again = reset_again endpoints up more rules fits in
    let len : length bytes ≡ 8 + length more = omega (arith, length-append (reset_bytes up) more) in
    let epoch = rules.epoch in
    record {
      short = le-ltb _ _ (omega arith);
      version = refl;
      kind = refl;
      endpoint = ap (λ (u : Up). leb endpoints u.src) again ∙ lt-leb _ _ rules.source;
      count = refl;
      order = refl;
      own = refl;
      much = refl;
      mask = refl;
      trailing = behind 8 (length bytes) (length more) len;
      epoch = ap (λ (u : Up). eqb u.epoch 0) again ∙ ne_eqb _ _ (λ (e : up.epoch ≡ 0). omega arith);
      seq = refl;
    }
