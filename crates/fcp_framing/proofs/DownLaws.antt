-- Bytes spell an allocation exactly where no test refuses them, and then they spell the one that stands in them.
use Rattle.std.proofs.Common.{◌≡◌, ℕ, ◌≤◌, cond, true, ltb, List, [], ◌++◌, length, Some, None, Result, Ok, Err, refl, sym, ap, subst, ◌∙◌, arith}
use Rattle.std.specs.Prelude.{OnOk, IsOk}
use Rattle.std.specs.Result.{result_err}
use Rattle.std.proofs.lemmas.Bool.{eqb-true, le-ltb, ltb-false, or_parts, not-false}
use Rattle.std.proofs.lemmas.List.{append-nil}
use Rattle.fcp_framing.specs.declared.packet.Down.{Down}
use Rattle.fcp_framing.specs.declared.refusal.FrameRefused.{FrameRefused}
use Rattle.fcp_framing.specs.declared.refusal.FrameRefused.TheVariants.{Short, Version, Kind, Trailing}
use Rattle.fcp_framing.specs.Versions.{is_version}
use Rattle.fcp_framing.specs.Spelling.{down_bytes, SpellsDown}
use Rattle.fcp_framing.specs.Fields.{version_in, kind_in, down_of}
use Rattle.fcp_framing.specs.Refusals.{first_refusal, refuses_allocation, refuses_down}
use Rattle.fcp_framing.proofs.Finding.{holds_none, first_before, first_same}
use Rattle.fcp_framing.proofs.Numbers.{AreBytes}
use Rattle.fcp_framing.proofs.Widths.{version_rule, version_test}
use Rattle.fcp_framing.proofs.Allocations.{allocation_again}
use Rattle.fcp_framing.proofs.AllocationRules.{allocation_spelled, allocation_passes, allocation_fitting}

-- at bytes of its kind the table of the call is that of the allocation
as_allocation : (endpoints slots : ℕ) (bytes : List ℕ) → 2 ≤ length bytes → is_version (version_in bytes) ≡ true → kind_in bytes ≡ 3 → (r : FrameRefused) → refuses_down endpoints slots bytes r ≡ refuses_allocation endpoints slots bytes r
unfolding refuses_down
as_allocation endpoints slots bytes long version kind Short = let there = le-ltb (length bytes) 2 long in rw (there, version, kind) refl
as_allocation endpoints slots bytes long version kind Version = rw version refl
as_allocation endpoints slots bytes long version kind Kind = rw kind refl
as_allocation endpoints slots bytes long version kind _ = refl

pub down_spelled : (endpoints slots : ℕ) (bytes : List ℕ) → endpoints ≤ 256 → AreBytes bytes → first_refusal (refuses_down endpoints slots bytes) ≡ None → SpellsDown endpoints slots bytes (down_of bytes)
unfolding refuses_down
down_spelled endpoints slots bytes network fits first =
    let none = holds_none (refuses_down endpoints slots bytes) first in
    let long : 2 ≤ length bytes = ltb-false _ _ (or_parts (ltb (length bytes) 2) _ none.short).0 in
    let version : is_version (version_in bytes) ≡ true = not-false _ none.version in
    let rule = version_rule (version_in bytes) version in
    let kind : kind_in bytes ≡ 3 = eqb-true _ _ (not-false _ none.kind) in
    let same = first_same (refuses_down endpoints slots bytes) (refuses_allocation endpoints slots bytes) (as_allocation endpoints slots bytes long version kind) in
    allocation_spelled endpoints slots bytes network fits rule kind (holds_none (refuses_allocation endpoints slots bytes) (sym same ∙ first))

-- the first refusal, and what is read, where bytes follow a packet
pub record ReadsDown (endpoints slots : ℕ) (bytes more : List ℕ) (down : Down) : Type 0 where
  pub first : first_refusal (refuses_down endpoints slots (bytes ++ more)) ≡ cond (ltb 0 (length more)) (Some Trailing) None
  pub trailing : refuses_down endpoints slots (bytes ++ more) Trailing ≡ ltb 0 (length more)
  pub kind : kind_in (bytes ++ more) ≡ 3
  pub read : down_of (bytes ++ more) ≡ down

allocation_reads : (endpoints slots : ℕ) (down : Down) (more : List ℕ) → SpellsDown endpoints slots (down_bytes down) down → ReadsDown endpoints slots (down_bytes down) more down
unfolding down_bytes
allocation_reads endpoints slots down more spelled =
    let bytes = down_bytes down ++ more in
    let test = version_test down.version spelled.rules.version in
    record {
      first = first_same (refuses_down endpoints slots bytes) (refuses_allocation endpoints slots bytes) (as_allocation endpoints slots bytes (omega arith) test refl)
          ∙ first_before (refuses_allocation endpoints slots bytes) (length more) (allocation_passes endpoints slots down more spelled.rules spelled.fits);
      trailing = as_allocation endpoints slots bytes (omega arith) test refl Trailing ∙ (allocation_passes endpoints slots down more spelled.rules spelled.fits).trailing;
      kind = refl;
      read = allocation_again down more (allocation_fitting endpoints slots down spelled.rules spelled.fits);
    }

pub down_reads : (endpoints slots : ℕ) (bytes more : List ℕ) (down : Down) → SpellsDown endpoints slots bytes down → ReadsDown endpoints slots bytes more down
down_reads endpoints slots bytes more down spelled =
    subst (λ (b : List ℕ). ReadsDown endpoints slots b more down) (sym spelled.text) (allocation_reads endpoints slots down more (record { rules = spelled.rules; fits = spelled.fits; text = refl }))

pub down_alone : (endpoints slots : ℕ) (bytes : List ℕ) (down : Down) → SpellsDown endpoints slots bytes down → (first_refusal (refuses_down endpoints slots bytes) ≡ None) × (down_of bytes ≡ down)
down_alone endpoints slots bytes down spelled =
    let reads = down_reads endpoints slots bytes [] down spelled in
    let same = append-nil bytes in
    (ap (λ (b : List ℕ). first_refusal (refuses_down endpoints slots b)) (sym same) ∙ reads.first, ap (down_of) (sym same) ∙ reads.read)

-- ---- the clauses of the reader

pub is_spelled : (endpoints slots : ℕ) (bytes : List ℕ) (r : Result (Unit {0}) FrameRefused) (into : Down) → endpoints ≤ 256 → AreBytes bytes → result_err r ≡ first_refusal (refuses_down endpoints slots bytes) → OnOk r (into ≡ down_of bytes)
    → OnOk r (SpellsDown endpoints slots bytes into)
is_spelled endpoints slots bytes (Ok u) into network fits refused read = rw read (down_spelled endpoints slots bytes network fits (sym refused))
is_spelled endpoints slots bytes (Err e) into network fits refused read = tt

pub is_only : (endpoints slots : ℕ) (bytes : List ℕ) (r : Result (Unit {0}) FrameRefused) (into down : Down) → result_err r ≡ first_refusal (refuses_down endpoints slots bytes) → OnOk r (into ≡ down_of bytes)
    → SpellsDown endpoints slots bytes down → IsOk r × (into ≡ down)
is_only endpoints slots bytes (Ok u) into down refused read spelled = (refl, read ∙ (down_alone endpoints slots bytes down spelled).1)
is_only endpoints slots bytes (Err e) into down refused read spelled = let none = (down_alone endpoints slots bytes down spelled).0 in absurd cc
