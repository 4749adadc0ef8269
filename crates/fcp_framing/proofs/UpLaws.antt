-- Bytes spell an upward packet exactly where no test refuses them, and then they spell the one that stands in them.
use Rattle.std.proofs.Common.{◌≡◌, ℕ, ◌≤◌, ◌<◌, true, cond, ltb, eqb, List, [], ◌++◌, length, Some, None, Result, Ok, Err, refl, sym, ap, subst, ◌∙◌, inl, inr, arith}
use Rattle.std.specs.Prelude.{OnOk, IsOk}
use Rattle.std.specs.Result.{result_err}
use Rattle.std.proofs.lemmas.Bool.{eqb-true, le-ltb, ltb-false, or_parts, not-false}
use Rattle.std.proofs.Math.Bool.{or-false}
use Rattle.std.proofs.lemmas.List.{append-nil}
use Rattle.fcp_framing.specs.declared.packet.Up.{Up}
use Rattle.fcp_framing.specs.declared.refusal.FrameRefused.{FrameRefused}
use Rattle.fcp_framing.specs.declared.refusal.FrameRefused.TheVariants.{Short, Version, Kind, Trailing}
use Rattle.fcp_framing.specs.Versions.{is_version}
use Rattle.fcp_framing.specs.Spelling.{reset_bytes, request_bytes, SpellsReset, SpellsRequest, SpellsUp}
use Rattle.fcp_framing.specs.Fields.{version_in, kind_in, up_of}
use Rattle.fcp_framing.specs.Refusals.{first_refusal, refuses_reset, refuses_request, refuses_up}
use Rattle.fcp_framing.proofs.Finding.{holds_none, first_before, first_same}
use Rattle.fcp_framing.proofs.Numbers.{AreBytes}
use Rattle.fcp_framing.proofs.Widths.{either, version_rule, version_test}
use Rattle.fcp_framing.proofs.Requests.{request_again}
use Rattle.fcp_framing.proofs.RequestRules.{request_spelled, request_passes, request_fitting}
use Rattle.fcp_framing.proofs.Resets.{reset_spelled, reset_passes, reset_again}

-- ---- at bytes of one kind the table of the call is that of the kind

as_request : (endpoints : ℕ) (bytes : List ℕ) → 2 ≤ length bytes → is_version (version_in bytes) ≡ true → kind_in bytes ≡ 1 → (r : FrameRefused) → refuses_up endpoints bytes r ≡ refuses_request endpoints bytes r
unfolding refuses_up
as_request endpoints bytes long version kind Short = let there = le-ltb (length bytes) 2 long in rw (there, version, kind) (or-false _)
as_request endpoints bytes long version kind Version = rw version refl
as_request endpoints bytes long version kind Kind = rw kind refl
as_request endpoints bytes long version kind _ = rw kind refl

as_reset : (endpoints : ℕ) (bytes : List ℕ) → 2 ≤ length bytes → is_version (version_in bytes) ≡ true → kind_in bytes ≡ 2 → (r : FrameRefused) → refuses_up endpoints bytes r ≡ refuses_reset endpoints bytes r
unfolding refuses_up
as_reset endpoints bytes long version kind Short = let there = le-ltb (length bytes) 2 long in rw (there, version, kind) refl
as_reset endpoints bytes long version kind Version = rw version refl
as_reset endpoints bytes long version kind Kind = rw kind refl
as_reset endpoints bytes long version kind _ = rw kind refl

-- ---- what no test refuses is spelled

pub up_spelled : (endpoints : ℕ) (bytes : List ℕ) → endpoints ≤ 256 → AreBytes bytes → first_refusal (refuses_up endpoints bytes) ≡ None → SpellsUp endpoints bytes (up_of bytes)
unfolding refuses_up up_of
up_spelled endpoints bytes network fits first =
    let none = holds_none (refuses_up endpoints bytes) first in
    let long : 2 ≤ length bytes = ltb-false _ _ (or_parts (ltb (length bytes) 2) _ none.short).0 in
    let version : is_version (version_in bytes) ≡ true = not-false _ none.version in
    let rule = version_rule (version_in bytes) version in
    elim (either (eqb (kind_in bytes) 1) (eqb (kind_in bytes) 2) (not-false _ none.kind)) [
      | inl one ↦
          let kind : kind_in bytes ≡ 1 = eqb-true _ _ one in
          let same = first_same (refuses_up endpoints bytes) (refuses_request endpoints bytes) (as_request endpoints bytes long version kind) in
          rw kind (inr (request_spelled endpoints bytes network fits rule kind (holds_none (refuses_request endpoints bytes) (sym same ∙ first))))
      | inr two ↦
          let kind : kind_in bytes ≡ 2 = eqb-true _ _ two in
          let same = first_same (refuses_up endpoints bytes) (refuses_reset endpoints bytes) (as_reset endpoints bytes long version kind) in
          rw kind (inl (reset_spelled endpoints bytes network fits rule kind (holds_none (refuses_reset endpoints bytes) (sym same ∙ first))))
    ]

-- ---- what is spelled no test refuses, but that bytes may follow

-- the first refusal, and what is read, where bytes follow a packet
pub record ReadsUp (endpoints : ℕ) (bytes more : List ℕ) (up : Up) : Type 0 where
  pub first : first_refusal (refuses_up endpoints (bytes ++ more)) ≡ cond (ltb 0 (length more)) (Some Trailing) None
  pub trailing : refuses_up endpoints (bytes ++ more) Trailing ≡ ltb 0 (length more)
  pub kind : kind_in (bytes ++ more) < 3
  pub read : up_of (bytes ++ more) ≡ up

request_reads : (endpoints : ℕ) (up : Up) (more : List ℕ) → SpellsRequest endpoints (request_bytes up) up → ReadsUp endpoints (request_bytes up) more up
unfolding up_of
request_reads endpoints up more spelled =
    let bytes = request_bytes up ++ more in
    let test = version_test up.version spelled.rules.version in
    record {
      first = first_same (refuses_up endpoints bytes) (refuses_request endpoints bytes) (as_request endpoints bytes (omega arith) test refl)
          ∙ first_before (refuses_request endpoints bytes) (length more) (request_passes endpoints up more spelled.rules spelled.fits);
      trailing = as_request endpoints bytes (omega arith) test refl Trailing ∙ (request_passes endpoints up more spelled.rules spelled.fits).trailing;
      kind = omega arith;
      read = request_again up more (request_fitting endpoints up spelled.rules spelled.fits);
    }

reset_reads : (endpoints : ℕ) (up : Up) (more : List ℕ) → SpellsReset endpoints (reset_bytes up) up → ReadsUp endpoints (reset_bytes up) more up
unfolding up_of
reset_reads endpoints up more spelled =
    let bytes = reset_bytes up ++ more in
    let test = version_test up.version spelled.rules.version in
    record {
      first = first_same (refuses_up endpoints bytes) (refuses_reset endpoints bytes) (as_reset endpoints bytes (omega arith) test refl)
          ∙ first_before (refuses_reset endpoints bytes) (length more) (reset_passes endpoints up more spelled.rules spelled.fits);
      trailing = as_reset endpoints bytes (omega arith) test refl Trailing ∙ (reset_passes endpoints up more spelled.rules spelled.fits).trailing;
      kind = omega arith;
      read = reset_again endpoints up more spelled.rules spelled.fits;
    }

pub up_reads : (endpoints : ℕ) (bytes more : List ℕ) (up : Up) → SpellsUp endpoints bytes up → ReadsUp endpoints bytes more up
up_reads endpoints bytes more up (inl reset) =
    subst (λ (b : List ℕ). ReadsUp endpoints b more up) (sym reset.text) (reset_reads endpoints up more (record { rules = reset.rules; fits = reset.fits; text = refl }))
up_reads endpoints bytes more up (inr request) =
    subst (λ (b : List ℕ). ReadsUp endpoints b more up) (sym request.text) (request_reads endpoints up more (record { rules = request.rules; fits = request.fits; text = refl }))

pub up_alone : (endpoints : ℕ) (bytes : List ℕ) (up : Up) → SpellsUp endpoints bytes up → (first_refusal (refuses_up endpoints bytes) ≡ None) × (up_of bytes ≡ up)
up_alone endpoints bytes up spelled =
    let reads = up_reads endpoints bytes [] up spelled in
    let same = append-nil bytes in
    (ap (λ (b : List ℕ). first_refusal (refuses_up endpoints b)) (sym same) ∙ reads.first, ap (up_of) (sym same) ∙ reads.read)

-- ---- the clauses of the reader

pub is_spelled : (endpoints : ℕ) (bytes : List ℕ) (r : Result (Unit {0}) FrameRefused) (into : Up) → endpoints ≤ 256 → AreBytes bytes → result_err r ≡ first_refusal (refuses_up endpoints bytes) → OnOk r (into ≡ up_of bytes) → OnOk r (SpellsUp endpoints bytes into)
is_spelled endpoints bytes (Ok u) into network fits refused read = rw read (up_spelled endpoints bytes network fits (sym refused))
is_spelled endpoints bytes (Err e) into network fits refused read = tt

pub is_only : (endpoints : ℕ) (bytes : List ℕ) (r : Result (Unit {0}) FrameRefused) (into up : Up) → result_err r ≡ first_refusal (refuses_up endpoints bytes) → OnOk r (into ≡ up_of bytes) → SpellsUp endpoints bytes up → IsOk r × (into ≡ up)
is_only endpoints bytes (Ok u) into up refused read spelled = (refl, read ∙ (up_alone endpoints bytes up spelled).1)
is_only endpoints bytes (Err e) into up refused read spelled = let none = (up_alone endpoints bytes up spelled).0 in absurd cc
