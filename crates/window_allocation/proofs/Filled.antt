-- A window that was opened for batches, and what it is once they got their slots and cores.
use Rattle.std.proofs.Common.{◌≡◌, ◌≢◌, ◌+◌, ◌*◌, ℕ, List, [], nat_eq, length, refl, sym, ap, ◌∙◌, subst, arith}
use Rattle.std.proofs.lemmas.Bool.{cond-false, ne_eqb}
use Rattle.std.proofs.lemmas.List.{append-nil, nil_from_length}
use Rattle.greedy_rules.specs.Batches.{DemandBatch}
use Rattle.window_allocation.specs.declared.window.Span.{Span}
use Rattle.window_allocation.specs.Giving.{MayGive, IsOpenForBatches, HasGiven}
use Rattle.window_allocation.specs.Standing.{Allocated, HasAllocated}
use Rattle.window_allocation.specs.Windows.{WindowContent, jobs_for}
use Rattle.window_allocation.proofs.HandedLemmas.{come_of_none}
use Rattle.window_allocation.proofs.WindowLemmas.{ring_endpoints}

-- it is open where the half and the window are seen otherwise
pub tables_here : (here now : Allocated) (batches : List DemandBatch) (inside window : WindowContent) → here ≡ now → inside ≡ window → IsOpenForBatches now batches window → IsOpenForBatches here batches inside
tables_here here now batches inside window same seen is_open = subst (λ (half : Allocated). IsOpenForBatches half batches inside) (sym same) (subst (IsOpenForBatches now batches) (sym seen) is_open)

-- a window of no batch
pub given_none : (half : Allocated) (batches : List DemandBatch) (window : WindowContent) → length batches ≡ 0 → MayGive half batches → IsOpenForBatches half batches window → window.span ≡ record { first = half.batches; count = length batches }
    → HasGiven half batches half window
given_none half batches window none may tables span =
    let (earlier, has, recorded) = may.stands in
    let ends = ring_endpoints _ _ earlier half has in
    let are : batches ≡ [] = nil_from_length batches none in
    let nothing : length batches * half.b ≡ 0 = rw none (omega arith) in
    let empty : window.slots.slots ≡ [] = nil_from_length window.slots.slots (tables.slots ∙ nothing) in
    let counted : window.span.count * half.b ≡ length batches * half.b = ap (λ (s : Span). s.count * half.b) span in
    subst (λ (bs : List DemandBatch). HasGiven half bs half window) (sym are) (record {
      stands = λ before stood all. subst (λ (bs : List DemandBatch). HasAllocated half.paths.net half.ring.batches bs half) (sym (append-nil before)) stood;
      b = refl;
      workers = refl;
      paths = refl;
      jobs = omega arith;
      span = span ∙ ap (λ (bs : List DemandBatch). record { first = half.batches; count = length bs }) are;
      window = record {
        is = empty;
        number = sym (counted ∙ nothing);
        endpoints = tables.endpoints ∙ ends;
        core_slots = tables.core_slots ∙ sym counted;
        core_endpoints = tables.core_endpoints ∙ ends;
        clean = λ at below. absurd (omega (arith, below));
        others = λ at below. absurd (omega (arith, below));
      };
      handed = come_of_none half.b half.batches half.ring.workers half.list.items window.slots.slots half.ring.moved empty;
    })

-- the jobs of a window with batches
pub jobs_of_some : (count b paths : ℕ) → count ≢ 0 → jobs_for count b paths ≡ count * b + paths
jobs_of_some count b paths some = cond-false (nat_eq count 0) 0 (count * b + paths) (ne_eqb count 0 some)
