use Rattle.std.proofs.Common.{◌≡◌, ◌∙◌, ◌+◌, ◌*◌, suc, ap, cond, subst, ◌<◌, ◌&&◌, ◌==◌, ℕ, List, Option, Some, map, set, sym, arith}
use Rattle.std.proofs.lemmas.List.{map-set, length-map}
use Rattle.schedule_audit.specs.Standing.{Sums, sum_of, sum_in}
use Rattle.schedule_audit.proofs.SumPlaces.{sum-set}
use Rattle.schedule_audit.proofs.sums.FlowSums.set.Goals as goal

pub returns-clause-cells : goal.returns-clause-cells
returns-clause-cells c = λ s d within.
    let same = ap (λ (t : Sums). t.endpoints) c.self.view_is in
    let endpoints = c.self.inside.endpoints in
    let cells = c.self.inside.cells.items in
    let place = c.args.src * endpoints + c.args.dst in
    let next : c.args.sum + 1 ≡ suc c.args.sum = omega arith in
    let kept : map sum_in (set cells place (c.args.sum + 1)) ≡ set (map sum_in cells) place (Some c.args.sum) =
    map-set sum_in cells place (c.args.sum + 1) ∙ ap (λ (n : ℕ). set (map sum_in cells) place (sum_in n)) next in
    ap (λ (os : List (Option ℕ)). sum_of (record { endpoints = endpoints; cells = os }) s d) kept
    ∙ (sum-set endpoints (map sum_in cells) c.args.src c.args.dst (Some c.args.sum) s d (length-map cells sum_in ∙ c.self.invariant)
    (subst (λ (n : ℕ). c.args.src < n) (sym same) c.requires.src) (subst (λ (n : ℕ). c.args.dst < n) (sym same) c.requires.dst) (subst (λ (n : ℕ). d < n) (sym same) within)
    ∙ ap (λ (t : Sums). cond ((c.args.src == s) && (c.args.dst == d)) (Some c.args.sum) (sum_of t s d)) c.self.view_is)
