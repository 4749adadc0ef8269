use Rattle.std.proofs.Common.{◌≡◌, ◌∙◌, ◌+◌, ◌*◌, ℕ, List, zero, suc, get_or, map, replicate, ap, refl, None, rules}
use Rattle.std.proofs.Math.ListN.{get_or-map}
use Rattle.schedule_audit.specs.Standing.{sum_in}
use Rattle.schedule_audit.proofs.sums.FlowSums.open.Goals as goal

-- each of some zeros is zero, and so is what stands past them
zeros : (n i : ℕ) → get_or (replicate n zero) i zero ≡ zero
zeros zero i = refl
zeros (suc n) zero = refl
zeros (suc n) (suc i) = zeros n i

pub returns-clause-none : goal.returns-clause-none
returns-clause-none c = λ src dst.
    let pairs = c.args.endpoints * c.args.endpoints in
    let place = src * c.args.endpoints + dst in
    let cells : c.in_ok-vec.field-0.items ≡ replicate pairs zero = c.in_ok-vec.ensures.items_if_clones_equal (λ y cloned. search rules) in
    ap (λ (ns : List ℕ). get_or (map sum_in ns) place None) cells ∙ (get_or-map sum_in (replicate pairs zero) place zero ∙ ap sum_in (zeros pairs place))
