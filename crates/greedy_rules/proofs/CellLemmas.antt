-- The entries of a table rise, and each is that of its cell.
use Rattle.std.proofs.Common.{◌≡◌, ◌≢◌, ◌<◌, ◌≤◌, ◌+◌, ℕ, zero, suc, List, [], ◌∷◌, true, false, Option, Some, None, All, AllPairs, IsTrue, refl, sym, ap, ◌∙◌, subst, inl, inr, arith}
use Rattle.std.specs.Prelude.{IfSome, filter_map}
use Rattle.std.specs.List.{flat_map, range_with_len, cons_option}
use Rattle.std.specs.Option.{option_or}
use Rattle.std.proofs.lemmas.Bool.{cases_Bool, cases_eq, cond-true, cond-false}
use Rattle.std.proofs.lemmas.Bool.Decides.{nat_tests}
use Rattle.std.proofs.lemmas.List.Folds.{find-append}
use Rattle.std.proofs.lemmas.List.Elements.{All-nil, All-cons, All-head, All-tail, All-append}
use Rattle.greedy_rules.specs.declared.flows.Flow.{Flow}
use Rattle.greedy_rules.specs.declared.flows.Entry.{Entry}
use Rattle.greedy_rules.specs.Flows.{same_flow, flow_below}
use Rattle.greedy_rules.specs.Batches.{IsBatch, entry_of}
use Rattle.greedy_rules.specs.Cells.{Cells, flow_of, AreOfTheirCells, EveryTableMakesABatch}
use Rattle.greedy_rules.proofs.FlowOrder.{same_flow-true, same_flow-refl}
use Rattle.greedy_rules.proofs.BatchLemmas.{Below}
use Rattle.list_facts.proofs.Pairs.{AllPairs-nil, AllPairs-cons, AllPairs-append}
use Rattle.list_facts.proofs.Options.{option_or-none}

-- flows that are not equal are told apart, and equal ones not
pub differs : (f g : Flow) → f ≢ g → same_flow f g ≡ false
differs f g apart = elim (cases_Bool (same_flow f g)) [
  | inl same ↦ absurd (apart (same_flow-true f g same))
  | inr other ↦ other
]

pub is_same : (f g : Flow) → f ≡ g → same_flow f g ≡ true
is_same f g same = subst (λ (h : Flow). same_flow f h ≡ true) same (same_flow-refl f)

pub entry_of-none : (es : List Entry) (flow : Flow) → All (λ e. e.flow ≢ flow) es → entry_of es flow ≡ None
entry_of-none [] flow other = refl
entry_of-none (e ∷ es) flow other =
    let P : Entry → Type 0 = λ x. x.flow ≢ flow in
    cond-false (same_flow e.flow flow) (Some e) (entry_of es flow) (differs e.flow flow (All-head P e es other)) ∙ entry_of-none es flow (All-tail P e es other)

by_destination : (s d t : ℕ) (e f : Entry) → e.flow ≡ flow_of s d → f.flow ≡ flow_of s t → d < t → Below e f
by_destination s d t e f one other lt =
    let below : IsTrue (flow_below (flow_of s d) (flow_of s t)) = grind (arith, nat_tests) in
    subst (λ (x : Flow). IsTrue (flow_below x f.flow)) (sym one) (subst (λ (x : Flow). IsTrue (flow_below (flow_of s d) x)) (sym other) below)

pub by_source : (e f : Entry) → e.flow.src < f.flow.src → Below e f
by_source e f lt = grind (arith, nat_tests)

all_more : (P : Entry → Type 0) (o : Option Entry) (es : List Entry) → IfSome o P → All P es → All P (cons_option o es)
all_more P None es here rest = rest
all_more P (Some e) es here rest = All-cons P e es here rest

module _ (cell : Cells) (of : AreOfTheirCells cell) where
  abbrev pub row : ℕ → ℕ → ℕ → List Entry
  row s a n = filter_map (cell s) (range_with_len a n)

  abbrev pub rows : ℕ → ℕ → ℕ → List Entry
  rows a n width = flat_map (λ s. row s 0 width) (range_with_len a n)

  -- what holds of each cell holds of each entry
  all_row : (P : Entry → Type 0) (s a n : ℕ) → ((d : ℕ) → a ≤ d → d < a + n → IfSome (cell s d) P) → All P (row s a n)
  all_row P s a zero each = All-nil P
  all_row P s a (suc n) each = all_more P (cell s a) (row s (a + 1) n) (each a (omega arith) (omega arith)) (all_row P s (a + 1) n (λ d low high. each d (omega arith) (omega arith)))

  pub all_rows : (P : Entry → Type 0) (a n width : ℕ) → ((s d : ℕ) → a ≤ s → s < a + n → d < width → IfSome (cell s d) P) → All P (rows a n width)
  all_rows P a zero width each = All-nil P
  all_rows P a (suc n) width each =
      All-append P (row a 0 width) (rows (a + 1) n width) (all_row P a 0 width (λ d low high. each a d (omega arith) (omega arith) (omega arith)))
      (all_rows P (a + 1) n width (λ s d low high within. each s d (omega arith) (omega arith) within))

  -- a cell's entry has its flow
  has : (P : Entry → Type 0) (s d : ℕ) → ((e : Entry) → e.flow ≡ flow_of s d → P e) → IfSome (cell s d) P
  has P s d then = weaker (cell s d) (of s d)
    where
      weaker : (o : Option Entry) → IfSome o (λ e. e.flow ≡ flow_of s d) → IfSome o P
      weaker None h = tt
      weaker (Some e) h = then e h

  row_rises : (s a n : ℕ) → AllPairs Below (row s a n)
  row_rises s a zero = AllPairs-nil Below
  row_rises s a (suc n) = more (cell s a) (of s a) (row_rises s (a + 1) n)
    where
      more : (o : Option Entry) → IfSome o (λ e. e.flow ≡ flow_of s a) → AllPairs Below (row s (a + 1) n) → AllPairs Below (cons_option o (row s (a + 1) n))
      more None h rest = rest
      more (Some e) h rest =
          AllPairs-cons Below e (row s (a + 1) n)
          (all_row (Below e) s (a + 1) n (λ d low high. has (Below e) s d (λ f is. by_destination s a d e f h is (omega arith))))
          rest

  pub rows_rise : (a n width : ℕ) → IsBatch (rows a n width)
  rows_rise a zero width = AllPairs-nil Below
  rows_rise a (suc n) width =
      AllPairs-append Below (row a 0 width) (rows (a + 1) n width) (row_rises a 0 width) (rows_rise (a + 1) n width)
      (all_row (λ e. All (Below e) (rows (a + 1) n width)) a 0 width
      (λ d low high. has (λ e. All (Below e) (rows (a + 1) n width)) a d
      (λ e is. all_rows (Below e) (a + 1) n width
      (λ s t low_s high_s within. has (Below e) s t
      (λ f are. let one = ap (λ (x : Flow). x.src) is in let other = ap (λ (x : Flow). x.src) are in by_source e f (omega arith))))))

  -- the entry of a flow is its cell
  row_here : (s a n d : ℕ) → a ≤ d → d < a + n → entry_of (row s a n) (flow_of s d) ≡ cell s d
  row_here s a zero d low high = absurd (omega arith)
  row_here s a (suc n) d low high = elim (cases_eq a d) [
    | inl here ↦ subst (λ (x : ℕ). entry_of (row s a (suc n)) (flow_of s x) ≡ cell s x) here (first (cell s a) (of s a))
    | inr there ↦ later (cell s a) (of s a) there ∙ row_here s (a + 1) n d (omega arith) (omega arith)
  ]
    where
      first : (o : Option Entry) → IfSome o (λ e. e.flow ≡ flow_of s a) → entry_of (cons_option o (row s (a + 1) n)) (flow_of s a) ≡ o
      first None h = entry_of-none (row s (a + 1) n) (flow_of s a)
          (all_row (λ e. e.flow ≢ flow_of s a) s (a + 1) n
          (λ t lower higher. has (λ e. e.flow ≢ flow_of s a) s t (λ e is same. let dst = ap (λ (x : Flow). x.dst) (sym is ∙ same) in absurd (omega arith))))
      first (Some e) h = cond-true (same_flow e.flow (flow_of s a)) (Some e) (entry_of (row s (a + 1) n) (flow_of s a)) (is_same e.flow (flow_of s a) h)

      later : (o : Option Entry) → IfSome o (λ e. e.flow ≡ flow_of s a) → a ≢ d → entry_of (cons_option o (row s (a + 1) n)) (flow_of s d) ≡ entry_of (row s (a + 1) n) (flow_of s d)
      later None h other = refl
      later (Some e) h other =
          cond-false (same_flow e.flow (flow_of s d)) (Some e) (entry_of (row s (a + 1) n) (flow_of s d))
          (differs e.flow (flow_of s d) (λ same. let dst = ap (λ (x : Flow). x.dst) (sym h ∙ same) in other dst))

  pub rows_here : (a n width s d : ℕ) → a ≤ s → s < a + n → d < width → entry_of (rows a n width) (flow_of s d) ≡ cell s d
  rows_here a zero width s d low high within = absurd (omega arith)
  rows_here a (suc n) width s d low high within =
      let flow : Flow = flow_of s d in
      let later : List Entry = rows (a + 1) n width in
      find-append (λ (e : Entry). same_flow e.flow flow) (row a 0 width) later
      ∙ elim (cases_eq a s) [
        | inl here ↦
            let none : entry_of later flow ≡ None = entry_of-none later flow (all_rows (λ e. e.flow ≢ flow) (a + 1) n width
            (λ x t lower higher inside. has (λ e. e.flow ≢ flow) x t (λ e is same. let src = ap (λ (f : Flow). f.src) (sym is ∙ same) in absurd (omega arith)))) in
            ap (λ o. option_or (entry_of (row a 0 width) flow) o) none
            ∙ (option_or-none (entry_of (row a 0 width) flow)
            ∙ subst (λ (x : ℕ). entry_of (row x 0 width) flow ≡ cell s d) (sym here) (row_here s 0 width d (omega arith) (omega arith)))
        | inr there ↦
            let none : entry_of (row a 0 width) flow ≡ None = entry_of-none (row a 0 width) flow (all_row (λ e. e.flow ≢ flow) a 0 width
            (λ t lower higher. has (λ e. e.flow ≢ flow) a t (λ e is same. let src = ap (λ (f : Flow). f.src) (sym is ∙ same) in absurd (there src)))) in
            ap (λ o. option_or o (entry_of later flow)) none ∙ rows_here (a + 1) n width s d (omega arith) (omega arith) within
      ]

-- ---- all cells of so many endpoints

abbrev Stands : Cells → ℕ → Entry → Type 0
Stands cells endpoints entry = (entry.flow.src < endpoints) × (entry.flow.dst < endpoints) × (cells entry.flow.src entry.flow.dst ≡ Some entry)

stands : (cells : Cells) (endpoints src dst : ℕ) → src < endpoints → dst < endpoints → (o : Option Entry) → IfSome o (λ e. e.flow ≡ flow_of src dst) → cells src dst ≡ o → IfSome o (Stands cells endpoints)
stands cells endpoints src dst from to None has is = tt
stands cells endpoints src dst from to (Some e) has is =
    subst (λ (f : Flow). (f.src < endpoints) × (f.dst < endpoints) × (cells f.src f.dst ≡ Some e)) (sym has) (from, to, is)

pub every_table_makes_a_batch : EveryTableMakesABatch
every_table_makes_a_batch cells endpoints of = record {
  rises = rows_rise cells of 0 endpoints endpoints;
  each = λ src dst from to. rows_here cells of 0 endpoints endpoints src dst (omega arith) (omega (arith, from)) to;
  no_other = all_rows cells of (Stands cells endpoints) 0 endpoints endpoints
      (λ src dst low high to. stands cells endpoints src dst (omega (arith, high)) to (cells src dst) (of src dst) refl);
}
