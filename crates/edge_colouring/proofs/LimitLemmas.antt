-- The degrees of a slot's racks are the packets that leave them and come into them.
use Rattle.std.proofs.Common.{◌≡◌, ◌≤◌, ◌+◌, ℕ, List, [], ◌∷◌, Bool, true, false, not, ◌==◌, ◌&&◌, cond, refl, ap, arith}
use Rattle.std.specs.List.{count_by}
use Rattle.std.proofs.lemmas.Bool.{cond_both}
use Rattle.std.proofs.lemmas.List.Sums.{sum_by-cons}
use Rattle.greedy_rules.specs.declared.flows.Flow.{Flow}
use Rattle.greedy_rules.specs.declared.limits.Limits.{Limits}
use Rattle.greedy_rules.specs.Limits.{rack_of, KeepsLimits}
use Rattle.clos_topology.specs.declared.graph.Edge.{Edge}
use Rattle.clos_topology.specs.RackGraph.{rack_edges}
use Rattle.edge_colouring.specs.Degrees.{rack_on, degree_on, LimitsAreDegrees}
use Rattle.edge_colouring.proofs.CleanLemmas.{edge_of}

-- the end of a flow that counts on a side: at the left its source, at the right its destination
abbrev end_on : Bool → Flow → ℕ
end_on true flow = flow.src
end_on false flow = flow.dst

-- it is between racks, and ends at this one
abbrev ends_at : ℕ → Bool → ℕ → Flow → Bool
ends_at hosts left rack flow = not (rack_of hosts flow.src == rack_of hosts flow.dst) && (rack_of hosts (end_on left flow) == rack)

inward : (stays at : Bool) → stays ≡ true → ◌≡◌ {A = ℕ} (cond (not stays && at) 1 0) 0
inward true at is = refl
inward false at is = absurd (cc)

outward : (stays at : Bool) → stays ≡ false → ◌≡◌ {A = ℕ} (cond (not stays && at) 1 0) (cond at 1 0)
outward true at is = absurd (cc)
outward false at is = refl

rack-end : (hosts : ℕ) (left : Bool) (flow : Flow) → rack_on left (edge_of hosts flow) ≡ rack_of hosts (end_on left flow)
unfolding edge_of
rack-end hosts true flow = refl
rack-end hosts false flow = refl

degree-ends : (hosts : ℕ) (left : Bool) (rack : ℕ) (slot : List Flow) → degree_on left rack (rack_edges hosts slot) ≡ count_by (ends_at hosts left rack) slot
unfolding edge_of
degree-ends hosts left rack [] = refl
degree-ends hosts left rack (flow ∷ slot) =
    let edges : List Edge = rack_edges hosts slot in
    let stays : Bool = rack_of hosts flow.src == rack_of hosts flow.dst in
    let at : Bool = rack_of hosts (end_on left flow) == rack in
    let rest : degree_on left rack edges ≡ count_by (ends_at hosts left rack) slot = degree-ends hosts left rack slot in
    let counted : count_by (ends_at hosts left rack) (flow ∷ slot) ≡ cond (not stays && at) 1 0 + count_by (ends_at hosts left rack) slot = sum_by-cons (λ f. cond (ends_at hosts left rack f) 1 0) flow slot in
    let edge : degree_on left rack (edge_of hosts flow ∷ edges) ≡ cond (rack_on left (edge_of hosts flow) == rack) 1 0 + degree_on left rack edges = sum_by-cons (λ edge. cond (rack_on left edge == rack) 1 0) (edge_of hosts flow) edges in
    let one : Bool → ℕ = λ b. cond b 1 0 in
    let end : one (rack_on left (edge_of hosts flow) == rack) ≡ one at = ap (λ (k : ℕ). one (k == rack)) (rack-end hosts left flow) in
    cond_both stays edges (edge_of hosts flow ∷ edges) (λ es. degree_on left rack es ≡ count_by (ends_at hosts left rack) (flow ∷ slot))
    (λ same. omega (arith, rest, counted, inward stays at same))
    (λ differ. omega (arith, rest, counted, edge, end, outward stays at differ))

degree : (limits : Limits) (slot : List Flow) → KeepsLimits limits slot → (left : Bool) (rack : ℕ) → degree_on left rack (rack_edges limits.hosts slot) ≤ limits.cores
degree limits slot keeps true rack = omega (arith, degree-ends limits.hosts true rack slot, (keeps rack).0)
degree limits slot keeps false rack = omega (arith, degree-ends limits.hosts false rack slot, (keeps rack).1)

pub limits_are_degrees : LimitsAreDegrees
limits_are_degrees limits slot = (
  λ keeps left rack. degree limits slot keeps left rack,
  λ within rack. (
    omega (arith, degree-ends limits.hosts true rack slot, within true rack),
    omega (arith, degree-ends limits.hosts false rack slot, within false rack),
  ),
)
