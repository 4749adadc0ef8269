-- A slot as what its sources send: its flows below a source, and the one more of the next source, if it sends.
use Rattle.std.proofs.Common.{◌≡◌, ◌<◌, ◌≤◌, ◌+◌, ℕ, List, [], ◌∷◌, ◌++◌, true, false, ◌==◌, nat_lt, filter, find, Option, Some, None, All, AllPairs, refl, sym, ap, ◌∙◌, subst, arith, inl, inr}
use Rattle.std.specs.Option.{option_map}
use Rattle.std.proofs.lemmas.Bool.{cond-true, cond-false, cases_eq, cases_order, eq-eqb, ne_eqb, lt-ltb, le-ltb}
use Rattle.std.proofs.lemmas.Option.{same_Some, none-some}
use Rattle.std.proofs.lemmas.List.Elements.{All-head, All-tail, All-weaker}
use Rattle.greedy_rules.specs.declared.flows.Flow.{Flow}
use Rattle.greedy_rules.specs.SlotTable.{destination_of}
use Rattle.list_facts.proofs.Pairs.{AllPairs-head, AllPairs-tail}
use Rattle.std.proofs.Common.{Bool, ◌&&◌, ◌||◌, nat_eq}
use Rattle.greedy_rules.specs.Slot.{has_flow}
use Rattle.std.proofs.Math.Bool.{or-false}
use Rattle.std.specs.Option.{option_eq}

-- the flows of a slot whose sources are below this one
abbrev pub before : ℕ → List Flow → List Flow
before source slot = filter (λ flow. nat_lt flow.src source) slot

-- what a source sends
abbrev pub sent : ℕ → Option ℕ → List Flow
sent source None = []
sent source (Some dst) = record { src = source; dst = dst } ∷ []

pub before-none : (source : ℕ) (slot : List Flow) → All (λ flow. source ≤ flow.src) slot → before source slot ≡ []
before-none source [] above = refl
before-none source (flow ∷ slot) above =
    cond-false (nat_lt flow.src source) (flow ∷ before source slot) (before source slot) (le-ltb flow.src source (All-head (λ f. source ≤ f.src) flow slot above))
    ∙ before-none source slot (All-tail (λ f. source ≤ f.src) flow slot above)

pub before-all : (source : ℕ) (slot : List Flow) → All (λ flow. flow.src < source) slot → before source slot ≡ slot
before-all source [] below = refl
before-all source (flow ∷ slot) below =
    cond-true (nat_lt flow.src source) (flow ∷ before source slot) (before source slot) (lt-ltb flow.src source (All-head (λ f. f.src < source) flow slot below))
    ∙ ap (λ (fs : List Flow). flow ∷ fs) (before-all source slot (All-tail (λ f. f.src < source) flow slot below))

abbrev pub Rises : List Flow → Type 0
Rises slot = AllPairs (λ f g. f.src < g.src) slot

pub other_source : (source : ℕ) (flow : Flow) (slot : List Flow) → (flow.src == source) ≡ false → destination_of (flow ∷ slot) source ≡ destination_of slot source
other_source source flow slot other =
    ap (option_map (λ (f : Flow). f.dst)) (cond-false (flow.src == source) (Some flow) (find (λ f. f.src == source) slot) other)

pub this_source : (source : ℕ) (flow : Flow) (slot : List Flow) → (flow.src == source) ≡ true → destination_of (flow ∷ slot) source ≡ Some flow.dst
this_source source flow slot same =
    ap (option_map (λ (f : Flow). f.dst)) (cond-true (flow.src == source) (Some flow) (find (λ f. f.src == source) slot) same)

pub before_more : (source : ℕ) (slot : List Flow) → Rises slot → before (source + 1) slot ≡ before source slot ++ sent source (destination_of slot source)
before_more source [] rises = refl
before_more source (flow ∷ slot) rises =
    let later : All (λ g. flow.src < g.src) slot = AllPairs-head (λ f g. f.src < g.src) flow slot rises in
    let rest : before (source + 1) slot ≡ before source slot ++ sent source (destination_of slot source) =
    before_more source slot (AllPairs-tail (λ f g. f.src < g.src) flow slot rises) in
    elim (cases_order flow.src source) [
      | inl same ↦
          let at : destination_of (flow ∷ slot) source ≡ Some flow.dst = this_source source flow slot (eq-eqb _ _ same) in
          let more : before (source + 1) (flow ∷ slot) ≡ flow ∷ [] =
          cond-true (nat_lt flow.src (source + 1)) (flow ∷ before (source + 1) slot) (before (source + 1) slot) (lt-ltb _ _ (omega arith))
          ∙ ap (λ (fs : List Flow). flow ∷ fs) (before-none (source + 1) slot (All-weaker (λ g. flow.src < g.src) (λ g. source + 1 ≤ g.src) (λ g lt. omega arith) slot later)) in
          let none : before source (flow ∷ slot) ≡ [] =
          cond-false (nat_lt flow.src source) (flow ∷ before source slot) (before source slot) (le-ltb _ _ (omega arith))
          ∙ before-none source slot (All-weaker (λ g. flow.src < g.src) (λ g. source ≤ g.src) (λ g lt. omega arith) slot later) in
          more ∙ (ap (λ (s : ℕ). record { src = s; dst = flow.dst } ∷ []) same
          ∙ (sym (ap (sent source) at) ∙ ap (λ (fs : List Flow). fs ++ sent source (destination_of (flow ∷ slot) source)) (sym none)))
      | inr (inl low) ↦
          let at : destination_of (flow ∷ slot) source ≡ destination_of slot source = other_source source flow slot (ne_eqb _ _ (λ e. omega arith)) in
          cond-true (nat_lt flow.src (source + 1)) (flow ∷ before (source + 1) slot) (before (source + 1) slot) (lt-ltb _ _ (omega arith))
          ∙ (ap (λ (fs : List Flow). flow ∷ fs) rest
          ∙ (ap (λ (fs : List Flow). flow ∷ (before source slot ++ fs)) (sym (ap (sent source) at))
          ∙ ap (λ (fs : List Flow). fs ++ sent source (destination_of (flow ∷ slot) source)) (sym (cond-true (nat_lt flow.src source) (flow ∷ before source slot) (before source slot) (lt-ltb _ _ low)))))
      | inr (inr high) ↦
          let at : destination_of (flow ∷ slot) source ≡ destination_of slot source = other_source source flow slot (ne_eqb _ _ (λ e. omega arith)) in
          cond-false (nat_lt flow.src (source + 1)) (flow ∷ before (source + 1) slot) (before (source + 1) slot) (le-ltb _ _ (omega arith))
          ∙ (rest
          ∙ (ap (λ (fs : List Flow). before source slot ++ fs) (sym (ap (sent source) at))
          ∙ ap (λ (fs : List Flow). fs ++ sent source (destination_of (flow ∷ slot) source)) (sym (cond-false (nat_lt flow.src source) (flow ∷ before source slot) (before source slot) (le-ltb _ _ (omega arith))))))
    ]

-- a source below all of the slot's sends nothing
pub no_source : (source : ℕ) (slot : List Flow) → All (λ flow. source < flow.src) slot → destination_of slot source ≡ None
no_source source [] above = refl
no_source source (flow ∷ slot) above =
    let first : source < flow.src = All-head (λ f. source < f.src) flow slot above in
    other_source source flow slot (ne_eqb _ _ (λ same. omega arith)) ∙ no_source source slot (All-tail (λ f. source < f.src) flow slot above)

-- what a source sends is a flow of the slot
pub sent_flow : (P : Flow → Type 0) (slot : List Flow) (source dst : ℕ) → All P slot → destination_of slot source ≡ Some dst → P (record { src = source; dst = dst })
sent_flow P [] source dst all some = absurd (none-some dst some)
sent_flow P (flow ∷ slot) source dst all some = elim (cases_eq flow.src source) [
  | inl same ↦
      let to : flow.dst ≡ dst = same_Some flow.dst dst (sym (this_source source flow slot (eq-eqb _ _ same)) ∙ some) in
      subst (λ (n : ℕ). P (record { src = source; dst = n })) to (subst (λ (n : ℕ). P (record { src = n; dst = flow.dst })) same (All-head P flow slot all))
  | inr other ↦ sent_flow P slot source dst (All-tail P flow slot all) (sym (other_source source flow slot (ne_eqb _ _ other)) ∙ some)
]

pub none_above : (slot : List Flow) (flow : Flow) → All (λ f. flow.src < f.src) slot → has_flow slot flow ≡ false
none_above [] flow above = refl
none_above (f ∷ slot) flow above =
    let first : flow.src < f.src = All-head (λ g. flow.src < g.src) f slot above in
    let other : (f.src == flow.src) ≡ false = ne_eqb f.src flow.src (λ same. omega arith) in
    ap (λ (c : Bool). (c && (f.dst == flow.dst)) || has_flow slot flow) other
    ∙ none_above slot flow (All-tail (λ g. flow.src < g.src) f slot above)

pub flow_goes : (slot : List Flow) (flow : Flow) → Rises slot → has_flow slot flow ≡ option_eq nat_eq (destination_of slot flow.src) (Some flow.dst)
flow_goes [] flow rises = refl
flow_goes (f ∷ slot) flow rises =
    let later : All (λ g. f.src < g.src) slot = AllPairs-head (λ f g. f.src < g.src) f slot rises in
    let rest = flow_goes slot flow (AllPairs-tail (λ f g. f.src < g.src) f slot rises) in
    elim (cases_eq f.src flow.src) [
      | inl here ↦
          let same : (f.src == flow.src) ≡ true = eq-eqb f.src flow.src here in
          let none : has_flow slot flow ≡ false = none_above slot flow (subst (λ (n : ℕ). All (λ g. n < g.src) slot) here later) in
          ap (λ (c : Bool). (c && (f.dst == flow.dst)) || has_flow slot flow) same
          ∙ (ap (λ (c : Bool). (f.dst == flow.dst) || c) none
          ∙ (or-false (f.dst == flow.dst)
          ∙ sym (ap (λ (o : Option ℕ). option_eq nat_eq o (Some flow.dst)) (this_source flow.src f slot same))))
      | inr there ↦
          let other : (f.src == flow.src) ≡ false = ne_eqb f.src flow.src there in
          ap (λ (c : Bool). (c && (f.dst == flow.dst)) || has_flow slot flow) other
          ∙ (rest ∙ sym (ap (λ (o : Option ℕ). option_eq nat_eq o (Some flow.dst)) (other_source flow.src f slot other)))
    ]
