-- The table of tallies, one entry after another.
use Rattle.std.proofs.Common.{◌≡◌, ◌<◌, ◌+◌, ◌*◌, ◌^◌, ℕ, List, [], ◌∷◌, length, get_or, set, take, ◌==◌, IsTrue, All, refl, sym, ap, ◌∙◌, arith, inl, inr}
use Rattle.std.proofs.lemmas.Bool.{cond-true, cond-false, cases_Bool, eqb-true, eq-eqb, and_from, and_parts, cases_eq}
use Rattle.std.proofs.lemmas.Nat.{same_from_place, mul-add-lt}
use Rattle.std.proofs.lemmas.List.{get_or-set_same, get_or-set_other, length-set}
use Rattle.std.proofs.lemmas.List.Sums.{sum_by_more, sum_by-cons, sum_by-take-le}
use Rattle.std.proofs.lemmas.List.Elements.{All-head, All-tail}
use Rattle.greedy_rules.specs.declared.flows.Flow.{Flow}
use Rattle.greedy_rules.specs.declared.flows.Entry.{Entry}
use Rattle.greedy_rules.specs.Flows.{same_flow, flow_below}
use Rattle.greedy_rules.proofs.Facts.{flow_below-not_same}
use Rattle.window_allocation.specs.Needs.{place_of}
use Rattle.plan_rounds.specs.Tallies.{added_for, added_in, Adds}

-- the entry at this place, of a flow between the endpoints that is above those of the entries before it
pub record IsEntryAt (endpoints : ℕ) (entries : List Entry) (at : ℕ) (entry : Entry) : Type 0 where
  pub inside : at < length entries
  pub is : get_or entries at entry ≡ entry
  pub src : entry.flow.src < endpoints
  pub dst : entry.flow.dst < endpoints
  pub lower : All (λ e. IsTrue (flow_below e.flow entry.flow)) (take at entries)

added_more : (endpoints : ℕ) (entries : List Entry) (at : ℕ) (entry : Entry) (src dst : ℕ) → IsEntryAt endpoints entries at entry
    → added_in src dst (take (at + 1) entries) ≡ added_in src dst (take at entries) + added_for src dst entry
added_more endpoints entries at entry src dst next =
    sum_by_more (added_for src dst) entries at entry next.inside ∙ ap (λ (e : Entry). added_in src dst (take at entries) + added_for src dst e) next.is

here : (entry : Entry) → added_for entry.flow.src entry.flow.dst entry ≡ entry.add
here entry = cond-true (same_flow entry.flow entry.flow) entry.add 0 (and_from _ _ (eq-eqb entry.flow.src entry.flow.src refl) (eq-eqb entry.flow.dst entry.flow.dst refl))

elsewhere : (src dst : ℕ) (entry : Entry) → ((entry.flow.src ≡ src) → (entry.flow.dst ≡ dst) → ⊥) → added_for src dst entry ≡ 0
elsewhere src dst entry other =
    elim (cases_Bool (same_flow entry.flow (record { src = src; dst = dst }))) [
      | inl same ↦ let parts = and_parts (entry.flow.src == src) (entry.flow.dst == dst) same in absurd (other (eqb-true _ _ parts.0) (eqb-true _ _ parts.1))
      | inr differs ↦ cond-false (same_flow entry.flow (record { src = src; dst = dst })) entry.add 0 differs
    ]

-- entries of lower flows add nothing to this one
lower_add_nothing : (flow : Flow) (entries : List Entry) → All (λ e. IsTrue (flow_below e.flow flow)) entries → added_in flow.src flow.dst entries ≡ 0
lower_add_nothing flow [] lower = refl
lower_add_nothing flow (e ∷ entries) lower =
    let Lower : Entry → Type 0 = λ x. IsTrue (flow_below x.flow flow) in
    let this : added_for flow.src flow.dst e ≡ 0 = cond-false (same_flow e.flow flow) e.add 0 (flow_below-not_same e.flow flow (All-head Lower e entries lower)) in
    let rest = lower_add_nothing flow entries (All-tail Lower e entries lower) in
    omega (arith, sum_by-cons (added_for flow.src flow.dst) e entries)

-- so the table still holds of the next entry's flow what it held at first
pub not_yet_added : (endpoints : ℕ) (entries : List Entry) (at : ℕ) (entry : Entry) (initial table : List ℕ) → IsEntryAt endpoints entries at entry → Adds endpoints (take at entries) initial table
    → get_or table (place_of endpoints entry.flow.src entry.flow.dst) 0 ≡ get_or initial (place_of endpoints entry.flow.src entry.flow.dst) 0
not_yet_added endpoints entries at entry initial table next adds = omega (arith, adds.at entry.flow.src entry.flow.dst next.src next.dst, lower_add_nothing entry.flow (take at entries) next.lower)

-- the next entry fits, since all together do
pub next_fits : (endpoints : ℕ) (entries : List Entry) (at : ℕ) (entry : Entry) (initial table : List ℕ) → IsEntryAt endpoints entries at entry → Adds endpoints (take at entries) initial table
    → get_or initial (place_of endpoints entry.flow.src entry.flow.dst) 0 + added_in entry.flow.src entry.flow.dst entries < 2 ^ 32
    → get_or table (place_of endpoints entry.flow.src entry.flow.dst) 0 + entry.add < 2 ^ 32
next_fits endpoints entries at entry initial table next adds fits =
    omega (
      arith,
      adds.at entry.flow.src entry.flow.dst next.src next.dst,
      added_more endpoints entries at entry entry.flow.src entry.flow.dst next,
      here entry,
      sum_by-take-le (added_for entry.flow.src entry.flow.dst) entries (at + 1),
    )

pub adds_more : (endpoints : ℕ) (entries : List Entry) (at : ℕ) (entry : Entry) (initial table : List ℕ) → length initial ≡ endpoints * endpoints → IsEntryAt endpoints entries at entry
    → Adds endpoints (take at entries) initial table
    → Adds endpoints (take (at + 1) entries) initial (set table (place_of endpoints entry.flow.src entry.flow.dst) (get_or table (place_of endpoints entry.flow.src entry.flow.dst) 0 + entry.add))
adds_more endpoints entries at entry initial table long next adds =
    let p : ℕ = place_of endpoints entry.flow.src entry.flow.dst in
    let value : ℕ = get_or table p 0 + entry.add in
    let within : p < endpoints * endpoints = mul-add-lt entry.flow.src endpoints entry.flow.dst endpoints next.src next.dst in
    record {
      long = length-set table p value ∙ adds.long;
      at = λ src dst s d.
          let q : ℕ = place_of endpoints src dst in
          elim (cases_eq q p) [
            | inl same ↦
                let parts = same_from_place src dst entry.flow.src entry.flow.dst endpoints d next.dst same in
                let was = adds.at entry.flow.src entry.flow.dst next.src next.dst in
                let more = added_more endpoints entries at entry entry.flow.src entry.flow.dst next in
                let there : get_or (set table p value) p 0 ≡ get_or initial p 0 + added_in entry.flow.src entry.flow.dst (take (at + 1) entries) =
                get_or-set_same table p value 0 (omega (arith, adds.long)) ∙ omega (arith, was, more, here entry) in
                ap (λ (n : ℕ). get_or (set table p value) n 0) same
                ∙ (there
                ∙ (ap (λ (n : ℕ). get_or initial n 0 + added_in entry.flow.src entry.flow.dst (take (at + 1) entries)) (sym same)
                ∙ (ap (λ (n : ℕ). get_or initial q 0 + added_in n entry.flow.dst (take (at + 1) entries)) (sym parts.0)
                ∙ ap (λ (n : ℕ). get_or initial q 0 + added_in src n (take (at + 1) entries)) (sym parts.1))))
            | inr other ↦
                let apart : (entry.flow.src ≡ src) → (entry.flow.dst ≡ dst) → ⊥ =
                λ e f. other (ap (λ (n : ℕ). place_of endpoints n dst) (sym e) ∙ ap (λ (n : ℕ). place_of endpoints entry.flow.src n) (sym f)) in
                get_or-set_other table p q value 0 other
                ∙ omega (arith, adds.at src dst s d, added_more endpoints entries at entry src dst next, elsewhere src dst entry apart)
          ];
    }
