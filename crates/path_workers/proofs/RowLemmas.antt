-- From the table of one slot to its row, and from rows to the whole table.
use Rattle.std.proofs.Common.{◌≡◌, ◌≢◌, ◌<◌, ◌≤◌, ◌+◌, ◌-◌, ◌*◌, ℕ, nat_lt, List, length, take, drop, true, false, Option, All, Result, Ok, Err, IfErr, OnOk, sym, ap, ◌∙◌, subst, arith, inl, inr}
use Rattle.std.specs.Result.{is_ok}
use Rattle.std.proofs.lemmas.Bool.{cases_order, cond-true, cond-false, lt-ltb, le-ltb}
use Rattle.std.proofs.lemmas.List.{drop-take, length-take, length-drop}
use Rattle.std.proofs.lemmas.Nat.{row_fits}
use Rattle.std.proofs.lemmas.Slice.{take-put_mid_below, drop-put_mid, between-put_mid}
use borrow.Rule.Slice.PartMut.{put_mid}
use Rattle.greedy_rules.specs.declared.flows.Flow.{Flow}
use Rattle.greedy_rules.specs.Matching.{IsMatching}
use Rattle.clos_topology.specs.declared.graph.Edge.{Edge}
use Rattle.clos_topology.specs.Network.{Network}
use Rattle.clos_topology.specs.Links.{CoreOf}
use Rattle.clos_topology.specs.RackGraph.{rack_edges}
use Rattle.edge_colouring.specs.declared.degrees.Degree.{Degree}
use Rattle.edge_colouring.specs.Degrees.{degree_on, HasDegreesWithin, IsFirstExcess}
use Rattle.edge_colouring.specs.Colouring.{IsColouring, MakesClean}
use Rattle.edge_colouring.specs.Cores.{core_in}
use Rattle.path_workers.specs.CoreRows.{first_core}
use Rattle.path_workers.specs.Coloured.{HasItsCores}
use Rattle.path_workers.specs.Painters.{cores_row, cores_at}

-- degrees within the bound are never refused
pub no_excess : {X : Type 0} (result : Result X Degree) (most : ℕ) (edges : List Edge) → is_ok result ≡ false → HasDegreesWithin most edges → IfErr result (IsFirstExcess most edges) → ⊥
no_excess (Ok x) most edges fails within excess = absurd (cc)
no_excess (Err degree) most edges fails within excess =
    let bound : degree_on degree.left degree.rack edges ≤ most = within degree.left degree.rack in
    omega (arith, bound, excess.is, excess.excess)

pub at_ok : {X E : Type 0} (result : Result X E) (P : Type 0) → is_ok result ≡ true → OnOk result P → P
at_ok (Ok x) P ok holds = holds
at_ok (Err e) P ok holds = absurd (cc)

pub row_coloured : (net : Network) (slot : List Flow) (edges : List Edge) (table row : CoreOf) → IsMatching slot → edges ≡ rack_edges net.hosts slot → IsColouring net.cores edges table
    → MakesClean net.hosts net.cores edges table → table ≡ row → HasItsCores net slot row
row_coloured net slot edges table row matching is colouring clean same = subst (HasItsCores net slot) same (record {
  clean = clean slot matching is;
  others = λ source apart. colouring.others source (subst (All (λ edge. edge.source ≢ source)) (sym is) apart);
})

-- what a place stands for: its row, or from 1025 on the first core for one source
pub cores_below : (endpoints place : ℕ) (cores : List (Option ℕ)) → place < 1025 → cores_at endpoints cores place ≡ core_in (cores_row endpoints cores place)
cores_below endpoints place cores lt = cond-true (nat_lt place 1025) (core_in (cores_row endpoints cores place)) (first_core (place - 1025)) (lt-ltb place 1025 lt)

pub cores_from : (endpoints place : ℕ) (cores : List (Option ℕ)) → 1025 ≤ place → cores_at endpoints cores place ≡ first_core (place - 1025)
cores_from endpoints place cores le = cond-false (nat_lt place 1025) (core_in (cores_row endpoints cores place)) (first_core (place - 1025)) (le-ltb place 1025 le)

-- as many places as a row has
pub length-row : (endpoints k from : ℕ) (cores : List (Option ℕ)) → k ≡ endpoints → from + endpoints ≤ length cores → length (take k (drop from cores)) ≡ endpoints
length-row endpoints k from cores size within = omega (arith, length-take k (drop from cores), length-drop from cores)

-- a row that is written: it holds what was written, and the others what they had
pub row_same : (endpoints slot k : ℕ) (cores row : List (Option ℕ)) → k ≡ endpoints → length row ≡ endpoints → slot * endpoints ≤ length cores → cores_row endpoints (put_mid (slot * endpoints) k cores row) slot ≡ row
row_same endpoints slot k cores row size whole within =
    let from : ℕ = slot * endpoints in
    let count : endpoints ≡ (from + endpoints) - from = omega arith in
    ap (λ (n : ℕ). take n (drop from (put_mid from k cores row))) count ∙ between-put_mid from k cores row (from + endpoints) within (omega (arith, whole))

pub row_other : (endpoints slot k at : ℕ) (cores row : List (Option ℕ)) → k ≡ endpoints → length row ≡ endpoints → slot * endpoints ≤ length cores → at ≢ slot
    → cores_row endpoints (put_mid (slot * endpoints) k cores row) at ≡ cores_row endpoints cores at
row_other endpoints slot k at cores row size whole within other =
    let from : ℕ = slot * endpoints in
    let place : ℕ = at * endpoints in
    elim (cases_order at slot) [
      | inl same ↦ absurd (other same)
      | inr (inl before) ↦
          let fits : place + endpoints ≤ from = row_fits at endpoints slot endpoints before (omega arith) in
          sym (drop-take place endpoints (put_mid from k cores row))
          ∙ (ap (drop place) (take-put_mid_below from k cores row (place + endpoints) fits within) ∙ drop-take place endpoints cores)
      | inr (inr after) ↦
          let fits : from + endpoints ≤ place = row_fits slot endpoints at endpoints after (omega arith) in
          ap (take endpoints) (drop-put_mid from k cores row place (omega (arith, fits, size)) within (omega (arith, whole, size)))
    ]
