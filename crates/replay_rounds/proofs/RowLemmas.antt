-- The raw packets of a round, each at its place, and whom they name; and its asks.
use Rattle.std.proofs.Common.{◌≡◌, ℕ, zero, suc, ◌+◌, Bool, true, false, not, ◌&&◌, ◌==◌, nat_eq, cond, List, [], ◌∷◌, length, map, Option, Some, None, is_none, slice_get, refl, ap, ◌∙◌, arith}
use Rattle.std.specs.Option.{option_eq}
use Rattle.std.proofs.lemmas.Option.{slice_get_within}
use Rattle.fcp_framing.specs.Fields.{up_of}
use Rattle.fcp_framing.specs.Refusals.{first_refusal, refuses_up}
use Rattle.lane_rounds.specs.Outside.{names}
use Rattle.lane_rounds.specs.Raw.{Raw}
use Rattle.trace_text.specs.Asks.{ask_for}
use Rattle.trace_text.proofs.AskFacts.{pair_of}
use Rattle.replay_rounds.specs.Setting.{rows_from}
use Rattle.replay_rounds.specs.Collecting.{source_of}

-- ---- tests

pub not_true : (b : Bool) → true ≡ not b → b ≡ false
not_true true e = e
not_true false e = refl

pub not_false : (b : Bool) → false ≡ not b → b ≡ true
not_false true e = refl
not_false false e = e

by_source : (spells : Bool) (src endpoint : ℕ) → (spells && (src == endpoint)) ≡ option_eq nat_eq (cond spells (Some src) None) (Some endpoint)
by_source true src endpoint = refl
by_source false src endpoint = refl

-- bytes name an endpoint where it is their source
pub named : (endpoint endpoints : ℕ) (bytes : List ℕ) → names endpoint endpoints bytes ≡ option_eq nat_eq (source_of endpoints bytes) (Some endpoint)
unfolding names
named endpoint endpoints bytes = by_source (is_none (first_refusal (refuses_up endpoints bytes))) (up_of bytes).src endpoint

-- ---- rows

pub length-rows : (place : ℕ) (raw : List (List ℕ)) → length (rows_from place raw) ≡ length raw
length-rows place [] = refl
length-rows place (bytes ∷ raw) = ap suc (length-rows (place + 1) raw)

abbrev row_at : ℕ → List ℕ → Option Raw
row_at place bytes = Some (record { place = place; bytes = bytes })

pub rows_got : (place : ℕ) (raw : List (List ℕ)) (i : ℕ) (bytes : List ℕ) → slice_get raw i ≡ Some bytes
    → slice_get (rows_from place raw) i ≡ Some (record { place = place + i; bytes = bytes })
rows_got place [] i bytes is = absurd (omega (arith, slice_get_within [] i bytes is))
rows_got place (x ∷ raw) zero bytes is =
    let same : x ≡ bytes = cc in
    let here : place ≡ place + 0 = omega arith in
    ap (λ (k : ℕ). row_at k x) here ∙ ap (row_at (place + 0)) same
rows_got place (x ∷ raw) (suc i) bytes is =
    let later : place + 1 + i ≡ place + suc i = omega arith in
    rows_got (place + 1) raw i bytes is ∙ ap (λ (k : ℕ). row_at k bytes) later

pub row_got : (raw : List (List ℕ)) (i : ℕ) (bytes : List ℕ) → slice_get raw i ≡ Some bytes → slice_get (rows_from 0 raw) i ≡ Some (record { place = i; bytes = bytes })
row_got raw i bytes is =
    let same : 0 + i ≡ i = omega arith in
    rows_got 0 raw i bytes is ∙ ap (λ (k : ℕ). row_at k bytes) same

-- ---- asks

pub asked_back : (round src : ℕ) (asked : List (ℕ × ℕ)) → map pair_of (map (ask_for round src) asked) ≡ asked
asked_back round src [] = refl
asked_back round src (one ∷ asked) = ap (λ (rest : List (ℕ × ℕ)). one ∷ rest) (asked_back round src asked)
