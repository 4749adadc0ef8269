-- The path workers before and after a call.
use Rattle.std.proofs.Common.{◌≡◌, ◌≤◌, ℕ, List, All, Vec, length, get_or, sym, ap, ◌∙◌, subst, arith}
use Rattle.std.specs.Vec.{with_items}
use Rattle.std.proofs.lemmas.List.{with_items_is}
use Rattle.greedy_rules.specs.declared.flows.Flow.{Flow}
use Rattle.greedy_rules.specs.Matching.{IsMatching}
use Rattle.clos_topology.specs.Network.{Network}
use Rattle.path_workers.specs.declared.painter.Painter.{Painter}
use Rattle.path_workers.specs.PathWork.{PathWork}
use Rattle.path_workers.specs.Coloured.{IsFlowOf, IsWithinCores}
use Rattle.path_workers.specs.Painters.{AreColourable, IsPainter, HasPainted, MayPaint}
use Rattle.path_workers.proofs.PainterLemmas.{may_paint}

-- slots that a call may colour
pub colourable : (work inside : PathWork) (slots : List (List Flow)) → inside ≡ work → length slots ≤ work.slots → All (All (IsFlowOf work.net)) slots → All IsMatching slots → All (IsWithinCores work.net) slots → AreColourable inside.net inside.slots slots
colourable work inside slots is count flows matchings within =
    subst (λ (w : PathWork). AreColourable w.net w.slots slots) (sym is) (record { count = count; flows = flows; matchings = matchings; within = within })

-- workers that have forgotten what they coloured
pub crew_ready : {Z : Type 0} (net : Network) (room : ℕ) (slots : List (List Flow)) (painters taken : Vec Painter Z) (shown new : List Painter) → All (IsPainter net room) painters.items → shown ≡ painters.items → (All (IsPainter net room) shown → All (HasPainted net room slots) new)
    → length new ≡ length shown → taken ≡ with_items painters new → All (HasPainted net room slots) taken.items
crew_ready net room slots painters taken shown new sized shows forget len is =
    let items : taken.items ≡ new = ap (λ (v : Vec _ _). v.items) is ∙ with_items_is painters new (omega (arith, len, ap (λ (ps : List Painter). length ps) shows, painters.ok.0)) in
    subst (All (HasPainted net room slots)) (sym items) (forget (subst (All (IsPainter net room)) (sym shows) sized))

pub all_may : (net : Network) (room : ℕ) (slots : List (List Flow)) (painters : List Painter) → AreColourable net room slots → All (HasPainted net room slots) painters → All (MayPaint slots) painters
all_may net room slots painters can painted = λ k d below. may_paint net room slots (get_or painters k d) can (painted k d below)
