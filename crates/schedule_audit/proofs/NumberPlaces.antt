-- Places of the table of numbers.
use Rattle.std.proofs.Common.{◌≡◌, ◌<◌, ◌+◌, ◌*◌, ◌==◌, nat_lt, ℕ, List, length, set, get_or, cond, true, false, inl, inr, sym, ap, ◌∙◌, arith}
use Rattle.std.proofs.lemmas.Bool.{cases_Bool, cond-true, cond-false, and_parts, and_from, eqb-true, eq-eqb, lt-ltb, ltb-true, false≢true}
use Rattle.std.proofs.lemmas.List.{get_or-set_same, get_or-set_other}
use Rattle.std.proofs.lemmas.Nat.{same_from_place, mul-add-lt}
use Rattle.greedy_rules.specs.declared.flows.Flow.{Flow}
use Rattle.greedy_rules.specs.Flows.{same_flow}
use Rattle.schedule_audit.specs.FlowNumbers.{Numbers, is_numbered, flow_number_of}

abbrev table : ℕ → List ℕ → Numbers
table endpoints cells = record { endpoints = endpoints; cells = cells }

pub between : (endpoints : ℕ) (flow : Flow) → flow.src < endpoints → flow.dst < endpoints → is_numbered endpoints flow ≡ true
between endpoints flow src dst = and_from (nat_lt flow.src endpoints) (nat_lt flow.dst endpoints) (lt-ltb _ _ src) (lt-ltb _ _ dst)

outside : (numbers : Numbers) (flow : Flow) → is_numbered numbers.endpoints flow ≡ false → flow_number_of numbers flow ≡ 0
outside numbers flow out = cond-false (is_numbered numbers.endpoints flow) (get_or numbers.cells (flow.src * numbers.endpoints + flow.dst) 0) 0 out

inside : (numbers : Numbers) (flow : Flow) → is_numbered numbers.endpoints flow ≡ true → flow_number_of numbers flow ≡ get_or numbers.cells (flow.src * numbers.endpoints + flow.dst) 0
inside numbers flow is = cond-true (is_numbered numbers.endpoints flow) (get_or numbers.cells (flow.src * numbers.endpoints + flow.dst) 0) 0 is

-- the cell of a flow
pub number-at : (endpoints : ℕ) (cells : List ℕ) (flow : Flow) → flow.src < endpoints → flow.dst < endpoints → flow_number_of (table endpoints cells) flow ≡ get_or cells (flow.src * endpoints + flow.dst) 0
number-at endpoints cells flow src dst = inside (table endpoints cells) flow (between endpoints flow src dst)

-- one number is written
pub number-set : (endpoints : ℕ) (cells : List ℕ) (flow : Flow) (number : ℕ) (other : Flow) → length cells ≡ endpoints * endpoints → flow.src < endpoints → flow.dst < endpoints
    → flow_number_of (table endpoints (set cells (flow.src * endpoints + flow.dst) number)) other ≡ cond (same_flow flow other) number (flow_number_of (table endpoints cells) other)
number-set endpoints cells flow number other sized in_src in_dst = elim (cases_Bool (same_flow flow other)) [
  | inl here ↦
      let parts = and_parts (flow.src == other.src) (flow.dst == other.dst) here in
      let of_src : flow.src ≡ other.src = eqb-true flow.src other.src parts.0 in
      let of_dst : flow.dst ≡ other.dst = eqb-true flow.dst other.dst parts.1 in
      let is = between endpoints other (omega (arith, of_src, in_src)) (omega (arith, of_dst, in_dst)) in
      let place : other.src * endpoints + other.dst ≡ flow.src * endpoints + flow.dst =
      ap (λ (n : ℕ). n * endpoints + other.dst) (sym of_src) ∙ ap (λ (n : ℕ). flow.src * endpoints + n) (sym of_dst) in
      inside (table endpoints (set cells (flow.src * endpoints + flow.dst) number)) other is
      ∙ (ap (λ (n : ℕ). get_or (set cells (flow.src * endpoints + flow.dst) number) n 0) place
      ∙ (get_or-set_same cells (flow.src * endpoints + flow.dst) number 0 (omega (arith, sized, mul-add-lt flow.src endpoints flow.dst endpoints in_src in_dst))
      ∙ sym (cond-true (same_flow flow other) number (flow_number_of (table endpoints cells) other) here)))
  | inr apart ↦
      kept apart ∙ sym (cond-false (same_flow flow other) number (flow_number_of (table endpoints cells) other) apart)
]
  where
    differ : same_flow flow other ≡ false → (other.src ≡ flow.src) × (other.dst ≡ flow.dst) → ⊥
    differ apart same = false≢true (sym apart ∙ and_from (flow.src == other.src) (flow.dst == other.dst) (eq-eqb flow.src other.src (sym same.0)) (eq-eqb flow.dst other.dst (sym same.1)))

    kept : same_flow flow other ≡ false → flow_number_of (table endpoints (set cells (flow.src * endpoints + flow.dst) number)) other ≡ flow_number_of (table endpoints cells) other
    kept apart = elim (cases_Bool (is_numbered endpoints other)) [
      | inl is ↦
          let in_d : other.dst < endpoints = ltb-true other.dst endpoints (and_parts (nat_lt other.src endpoints) (nat_lt other.dst endpoints) is).1 in
          inside (table endpoints (set cells (flow.src * endpoints + flow.dst) number)) other is
          ∙ (get_or-set_other cells (flow.src * endpoints + flow.dst) (other.src * endpoints + other.dst) number 0 (λ same. differ apart (same_from_place other.src other.dst flow.src flow.dst endpoints in_d in_dst same))
          ∙ sym (inside (table endpoints cells) other is))
      | inr out ↦ outside (table endpoints (set cells (flow.src * endpoints + flow.dst) number)) other out ∙ sym (outside (table endpoints cells) other out)
    ]
