use Rattle.std.proofs.Common.{◌≡◌, ◌<◌, ◌+◌, ℕ, zero, suc, List, [], ◌∷◌, nat_le, if◌then◌else◌, length, drop, get_or, Some, slice_get, refl, sym, ap, ◌∙◌, subst, arith, length-set}
use Rattle.std.proofs.lemmas.Option.{slice_get_read, slice_get_within, same_Some}
use Rattle.ring_core.specs.States.{WorkerState}
use Rattle.greedy_rules.specs.Batches.{DemandBatch}
use Rattle.ring_core.specs.Workers.{HasBegunWith}
use Rattle.ring_core.specs.Openings.{own_openings, crew_openings}
use Rattle.ring_core.proofs.PlayLemmas.{get_set_other}
use Rattle.ring_core.proofs.EdgeLemmas.{set_each}
use Rattle.ring_core.proofs.ring.begin_crew.Goals as goal

-- the worker that is next
next : (items crew : List WorkerState) (at : ℕ) (d : WorkerState) → at < length items → d ≡ get_or items at d → slice_get items at ≡ slice_get crew at → slice_get crew at ≡ Some (get_or items at d)
next items crew at d within is same = sym same ∙ slice_get_read items (length items) at (get_or items at d) refl within (ap (get_or items at) is)

-- the openings of the workers from one on
one_crew : (batches : List DemandBatch) (crew : List WorkerState) (at : ℕ) (w : WorkerState) → slice_get crew at ≡ Some w
    → crew_openings batches (drop at crew) ≡ own_openings (length w.stages) batches w.workers w.number + crew_openings batches (drop (at + 1) crew)
one_crew batches crew at w is = ap (crew_openings batches) (drop_one crew at w is)
  where
    drop_one : (xs : List WorkerState) (n : ℕ) (x : WorkerState) → slice_get xs n ≡ Some x → drop n xs ≡ x ∷ drop (n + 1) xs
    drop_one [] n x is = absurd (cc)
    drop_one (y ∷ ys) zero x is = ap (λ (z : WorkerState). z ∷ ys) (same_Some y x is)
    drop_one (y ∷ ys) (suc n) x is = drop_one ys n x is ∙ ap (λ (k : ℕ). x ∷ drop k (y ∷ ys)) (let q : suc (n + 1) ≡ suc n + 1 = omega arith in q)

same_openings : (batches : List DemandBatch) (v w : WorkerState) → v ≡ w → own_openings (length v.stages) batches v.workers v.number ≡ own_openings (length w.stages) batches w.workers w.number
same_openings batches v w is = ap (λ (x : WorkerState). own_openings (length x.stages) batches x.workers x.number) is

pub begin-requires-clause-none : goal.begin-requires-clause-none
begin-requires-clause-none c =
    let was = c.loop-worker.invariant in
    let at : ℕ = c.loop-worker.worker-index in
    let here = next c.loop-worker.worker-items c.args.crew.now at c.worker-item.result (omega (arith, c.loop-worker-test.true, was.count)) c.worker-item.is (was.rest at (omega arith)) in
    c.requires.none at _ here

pub begin-requires-clause-nodes : goal.begin-requires-clause-nodes
begin-requires-clause-nodes c =
    let was = c.loop-worker.invariant in
    let at : ℕ = c.loop-worker.worker-index in
    let here = next c.loop-worker.worker-items c.args.crew.now at c.worker-item.result (omega (arith, c.loop-worker-test.true, was.count)) c.worker-item.is (was.rest at (omega arith)) in
    let more = one_crew c.args.batches.now c.args.crew.now at (get_or c.loop-worker.worker-items at c.worker-item.result) here in
    omega (arith, was.nodes, more, c.requires.nodes, same_openings c.args.batches.now _ _ c.worker-item.is)

pub begin-requires-clause-worker : goal.begin-requires-clause-worker
begin-requires-clause-worker c =
    let was = c.loop-worker.invariant in
    let at : ℕ = c.loop-worker.worker-index in
    (c.requires.workers at _ (next c.loop-worker.worker-items c.args.crew.now at c.worker-item.result (omega (arith, c.loop-worker-test.true, was.count)) c.worker-item.is (was.rest at (omega arith)))).0

pub begin-requires-clause-may : goal.begin-requires-clause-may
begin-requires-clause-may c =
    let was = c.loop-worker.invariant in
    let at : ℕ = c.loop-worker.worker-index in
    (c.requires.workers at _ (next c.loop-worker.worker-items c.args.crew.now at c.worker-item.result (omega (arith, c.loop-worker-test.true, was.count)) c.worker-item.is (was.rest at (omega arith)))).1

pub loop-worker-preserved : goal.loop-worker-preserved
loop-worker-preserved c =
    let was = c.loop-worker.invariant in
    let at : ℕ = c.loop-worker.worker-index in
    let items : List WorkerState = c.loop-worker.worker-items in
    let new : WorkerState = c.begin.new.self in
    let here = next items c.args.crew.now at c.worker-item.result (omega (arith, c.loop-worker-test.true, was.count)) c.worker-item.is (was.rest at (omega arith)) in
    let sent : WorkerState → ℕ = λ w. if nat_le w.workers (w.number + 1) then c.args.pieces else 0 in
    let told = c.begin.ensures in
    record {
      count = length-set items at new ∙ was.count;
      nodes = let more = one_crew c.args.batches.now c.args.crew.now at (get_or items at c.worker-item.result) here in omega (arith, was.nodes, c.begin.ensures.spare, more, same_openings c.args.batches.now _ _ c.worker-item.is);
      rest = λ number past. get_set_other items at number new (λ q. omega (arith, q, past)) ∙ was.rest number (omega (arith, past));
      begun = set_each (λ number w. (old : WorkerState) → slice_get c.args.crew.now number ≡ Some old → HasBegunWith c.args.first_batch c.args.batches.now (sent old) old w) items at new
          (λ old is.
          let same : get_or items at c.worker-item.result ≡ old = same_Some _ old (sym here ∙ is) in
          subst (λ (w : WorkerState). HasBegunWith c.args.first_batch c.args.batches.now (sent w) w new) same
          (record { same = told.same; is_worker = told.worker; plays = λ window is_window sent_is. told.plays window is_window (c.sent_before-sent.ensures ∙ sent_is) })) was.begun;
    }

pub returns-clause-begun : goal.returns-clause-begun
returns-clause-begun c = λ number old new was is.
    c.loop-worker.invariant.begun number new (omega (arith, slice_get_within c.loop-worker.worker-items number new is, c.loop-worker-test.false, c.loop-worker.invariant.count)) is old was
