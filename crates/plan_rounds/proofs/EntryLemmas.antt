-- The entries of a round's batch, flow by flow: what each adds is what the round asks for.
use Rattle.std.proofs.Common.{◌≡◌, ◌≢◌, ◌<◌, ◌+◌, ℕ, zero, suc, List, [], ◌∷◌, ◌++◌, length, get_or, map, false, ◌==◌, ◌&&◌, ◌||◌, cond, Option, Some, None, is_some, All, AllPairs, refl, sym, ap, ◌∙◌, subst, arith, inl, inr}
use Rattle.std.specs.List.{list_any}
use Rattle.std.specs.Option.{option_or}
use Rattle.std.proofs.lemmas.Bool.{cond-true, cond-false, cases_Bool, eqb-true, eq-eqb, ne_eqb}
use Rattle.std.proofs.lemmas.List.Sums.{sum_by-cons, sum_by-append}
use Rattle.std.proofs.lemmas.List.Folds.{find-append}
use Rattle.std.proofs.lemmas.List.Elements.{All-nil, All-head, All-tail, All-append, All-map}
use Rattle.list_facts.proofs.Options.{option_or-none}
use Rattle.greedy_rules.specs.declared.flows.Flow.{Flow}
use Rattle.greedy_rules.specs.declared.flows.Entry.{Entry}
use Rattle.greedy_rules.specs.Flows.{same_flow}
use Rattle.greedy_rules.specs.Batches.{entry_of}
use Rattle.greedy_rules.specs.Demands.{need_with}
use Rattle.trace_text.specs.Valid.{amount_for, IsAskList}
use Rattle.plan_rounds.specs.Tallies.{added_for, added_in}
use Rattle.greedy_rules.specs.Balance.{added_by}
use Rattle.greedy_rules.specs.Cells.{flow_of}
use Rattle.plan_rounds.specs.Batches.{AskedRound, asks_for, asked_entry, asked_entries_from}
use Rattle.plan_rounds.proofs.AskLemmas.{slots_if}

-- what holds of each entry of each source holds of all
pub all_entries : (P : Entry → Type 0) (before : List AskedRound) (start : ℕ) (sources : AskedRound)
    → ((n : ℕ) → n < length sources → All (λ ask. P (asked_entry before (start + n) ask)) (get_or sources n []))
    → All P (asked_entries_from before start sources)
all_entries P before start [] each = All-nil P
all_entries P before start (asks ∷ sources) each =
    All-append P (map (asked_entry before start) asks) (asked_entries_from before (start + 1) sources)
    (All-map P (asked_entry before start) asks (subst (λ (n : ℕ). All (λ ask. P (asked_entry before n ask)) asks) (omega arith) (each 0 (omega arith))))
    (all_entries P before (start + 1) sources
    (λ n below. subst (λ (m : ℕ). All (λ ask. P (asked_entry before m ask)) (get_or sources n [])) (omega arith) (each (suc n) (omega arith))))

differs_src : (e : Entry) (src dst : ℕ) → e.flow.src ≢ src → same_flow e.flow (flow_of src dst) ≡ false
differs_src e src dst other = ap (λ b. b && (e.flow.dst == dst)) (ne_eqb e.flow.src src other)

-- no entry of another source is the flow's
pub entry_of-other : (es : List Entry) (src dst : ℕ) → All (λ e. e.flow.src ≢ src) es → entry_of es (flow_of src dst) ≡ None
entry_of-other [] src dst other = refl
entry_of-other (e ∷ es) src dst other =
    cond-false (same_flow e.flow (flow_of src dst)) (Some e) (entry_of es (flow_of src dst)) (differs_src e src dst (All-head (λ (x : Entry). x.flow.src ≢ src) e es other))
    ∙ entry_of-other es src dst (All-tail (λ (x : Entry). x.flow.src ≢ src) e es other)

pub added_in-other : (es : List Entry) (src dst : ℕ) → All (λ e. e.flow.src ≢ src) es → added_in src dst es ≡ 0
added_in-other [] src dst other = refl
added_in-other (e ∷ es) src dst other =
    let this : added_for src dst e ≡ 0 = cond-false (same_flow e.flow (flow_of src dst)) e.add 0 (differs_src e src dst (All-head (λ (x : Entry). x.flow.src ≢ src) e es other)) in
    let rest = added_in-other es src dst (All-tail (λ (x : Entry). x.flow.src ≢ src) e es other) in
    omega (arith, sum_by-cons (added_for src dst) e es)

later_others : (before : List AskedRound) (start src : ℕ) (sources : AskedRound) → src < start → All (λ e. e.flow.src ≢ src) (asked_entries_from before start sources)
later_others before start src sources lower = all_entries (λ e. e.flow.src ≢ src) before start sources (λ n below k d within same. omega arith)

own_others : (before : List AskedRound) (start src : ℕ) (asks : List (ℕ × ℕ)) → start ≢ src → All (λ e. e.flow.src ≢ src) (map (asked_entry before start) asks)
own_others before start src asks other = All-map (λ (e : Entry). e.flow.src ≢ src) (asked_entry before start) asks (λ k d within. other)

-- a flow's entry is one of its source
pub entry_at : (before : List AskedRound) (start n dst : ℕ) (sources : AskedRound)
    → entry_of (asked_entries_from before start sources) (flow_of (start + n) dst) ≡ entry_of (map (asked_entry before (start + n)) (get_or sources n [])) (flow_of (start + n) dst)
entry_at before start n dst [] = refl
entry_at before start zero dst (asks ∷ sources) =
    let src : ℕ = start + 0 in
    let here : start ≡ src = omega arith in
    let own : List Entry = map (asked_entry before start) asks in
    let later : List Entry = asked_entries_from before (start + 1) sources in
    find-append (λ (e : Entry). same_flow e.flow (flow_of src dst)) own later
    ∙ (ap (λ (o : Option Entry). option_or (entry_of own (flow_of src dst)) o) (entry_of-other later src dst (later_others before (start + 1) src sources (omega arith)))
    ∙ (option_or-none (entry_of own (flow_of src dst))
    ∙ ap (λ (m : ℕ). entry_of (map (asked_entry before m) asks) (flow_of src dst)) here))
entry_at before start (suc n) dst (asks ∷ sources) =
    let src : ℕ = start + suc n in
    let next : start + 1 + n ≡ src = omega arith in
    let own : List Entry = map (asked_entry before start) asks in
    let later : List Entry = asked_entries_from before (start + 1) sources in
    find-append (λ (e : Entry). same_flow e.flow (flow_of src dst)) own later
    ∙ (ap (λ (o : Option Entry). option_or o (entry_of later (flow_of src dst))) (entry_of-other own src dst (own_others before start src asks (λ same. omega arith)))
    ∙ subst (λ (m : ℕ). entry_of later (flow_of m dst) ≡ entry_of (map (asked_entry before m) (get_or sources n [])) (flow_of m dst)) next (entry_at before (start + 1) n dst sources))

pub added_at : (before : List AskedRound) (start n dst : ℕ) (sources : AskedRound)
    → added_in (start + n) dst (asked_entries_from before start sources) ≡ added_in (start + n) dst (map (asked_entry before (start + n)) (get_or sources n []))
added_at before start n dst [] = refl
added_at before start zero dst (asks ∷ sources) =
    let src : ℕ = start + 0 in
    let here : start ≡ src = omega arith in
    let own : List Entry = map (asked_entry before start) asks in
    let later : List Entry = asked_entries_from before (start + 1) sources in
    let none = added_in-other later src dst (later_others before (start + 1) src sources (omega arith)) in
    let all : added_in src dst (own ++ later) ≡ added_in src dst own = omega (arith, sum_by-append (added_for src dst) own later) in
    all ∙ ap (λ (m : ℕ). added_in src dst (map (asked_entry before m) asks)) here
added_at before start (suc n) dst (asks ∷ sources) =
    let src : ℕ = start + suc n in
    let next : start + 1 + n ≡ src = omega arith in
    let own : List Entry = map (asked_entry before start) asks in
    let later : List Entry = asked_entries_from before (start + 1) sources in
    let none = added_in-other own src dst (own_others before start src asks (λ same. omega arith)) in
    let all : added_in src dst (own ++ later) ≡ added_in src dst later = omega (arith, sum_by-append (added_for src dst) own later) in
    all ∙ subst (λ (m : ℕ). added_in m dst later ≡ added_in m dst (map (asked_entry before m) (get_or sources n []))) next (added_at before (start + 1) n dst sources)

-- within a source, the flow's entry is of the ask that names the destination
same_is : (before : List AskedRound) (src dst : ℕ) (ask : ℕ × ℕ) → same_flow (asked_entry before src ask).flow (flow_of src dst) ≡ (ask.0 == dst)
same_is before src dst ask = ap (λ b. b && (ask.0 == dst)) (eq-eqb src src refl)

pub has_own : (before : List AskedRound) (src dst : ℕ) (asks : List (ℕ × ℕ)) → is_some (entry_of (map (asked_entry before src) asks) (flow_of src dst)) ≡ list_any (λ p. p.0 == dst) asks
has_own before src dst [] = refl
has_own before src dst (ask ∷ asks) =
    let e : Entry = asked_entry before src ask in
    let rest : List Entry = map (asked_entry before src) asks in
    elim (cases_Bool (ask.0 == dst)) [
      | inl same ↦
          ap (λ (o : Option Entry). is_some o) (cond-true (same_flow e.flow (flow_of src dst)) (Some e) (entry_of rest (flow_of src dst)) (same_is before src dst ask ∙ same))
          ∙ sym (ap (λ b. b || list_any (λ (p : ℕ × ℕ). p.0 == dst) asks) same)
      | inr other ↦
          ap (λ (o : Option Entry). is_some o) (cond-false (same_flow e.flow (flow_of src dst)) (Some e) (entry_of rest (flow_of src dst)) (same_is before src dst ask ∙ other))
          ∙ (has_own before src dst asks
          ∙ sym (ap (λ b. b || list_any (λ (p : ℕ × ℕ). p.0 == dst) asks) other))
    ]

pub adds_own : (before : List AskedRound) (src dst : ℕ) (asks : List (ℕ × ℕ)) → added_in src dst (map (asked_entry before src) asks) ≡ amount_for dst asks
adds_own before src dst [] = refl
adds_own before src dst (ask ∷ asks) =
    let e : Entry = asked_entry before src ask in
    let rest = adds_own before src dst asks in
    let this : added_for src dst e ≡ slots_if dst ask = ap (λ b. cond b ask.1 0) (same_is before src dst ask) in
    omega (arith, sum_by-cons (added_for src dst) e (map (asked_entry before src) asks), sum_by-cons (slots_if dst) ask asks)

-- no later ask names the destination again
none_later : (dst : ℕ) (asks : List (ℕ × ℕ)) → All (λ p. dst < p.0) asks → amount_for dst asks ≡ 0
none_later dst [] above = refl
none_later dst (ask ∷ asks) above =
    let more : dst < ask.0 = All-head (λ (p : ℕ × ℕ). dst < p.0) ask asks above in
    let this : slots_if dst ask ≡ 0 = cond-false (ask.0 == dst) ask.1 0 (ne_eqb ask.0 dst (λ same. omega arith)) in
    let rest = none_later dst asks (All-tail (λ (p : ℕ × ℕ). dst < p.0) ask asks above) in
    omega (arith, sum_by-cons (slots_if dst) ask asks)

pub added_own : (before : List AskedRound) (src dst : ℕ) (asks : List (ℕ × ℕ)) → AllPairs (λ p q. p.0 < q.0) asks → added_by (entry_of (map (asked_entry before src) asks) (flow_of src dst)) ≡ amount_for dst asks
added_own before src dst [] rising = refl
added_own before src dst (ask ∷ asks) rising =
    let e : Entry = asked_entry before src ask in
    let rest : List Entry = map (asked_entry before src) asks in
    let tail : AllPairs (λ (p q : ℕ × ℕ). p.0 < q.0) asks = λ i j d lt below. rising (suc i) (suc j) d (omega arith) (omega arith) in
    elim (cases_Bool (ask.0 == dst)) [
      | inl same ↦
          let is : ask.0 ≡ dst = eqb-true _ _ same in
          let later = none_later dst asks (λ k d below. let lt : ask.0 < (get_or asks k d).0 = rising 0 (suc k) d (omega arith) (omega arith) in omega arith) in
          let this : slots_if dst ask ≡ ask.1 = cond-true (ask.0 == dst) ask.1 0 same in
          let total : amount_for dst (ask ∷ asks) ≡ ask.1 = omega (arith, sum_by-cons (slots_if dst) ask asks) in
          ap added_by (cond-true (same_flow e.flow (flow_of src dst)) (Some e) (entry_of rest (flow_of src dst)) (same_is before src dst ask ∙ same)) ∙ sym total
      | inr other ↦
          let this : slots_if dst ask ≡ 0 = cond-false (ask.0 == dst) ask.1 0 other in
          let total : amount_for dst (ask ∷ asks) ≡ amount_for dst asks = omega (arith, sum_by-cons (slots_if dst) ask asks) in
          ap added_by (cond-false (same_flow e.flow (flow_of src dst)) (Some e) (entry_of rest (flow_of src dst)) (same_is before src dst ask ∙ other))
          ∙ (added_own before src dst asks tail ∙ sym total)
    ]

-- an entry that doesn't clear adds to the need
pub need_more : (es : List Entry) (flow : Flow) (need : ℕ) → All (λ e. e.clear ≡ false) es → need_with (entry_of es flow) need ≡ need + added_by (entry_of es flow)
need_more [] flow need kept = omega arith
need_more (e ∷ es) flow need kept =
    let rest = need_more es flow need (All-tail (λ (x : Entry). x.clear ≡ false) e es kept) in
    elim (cases_Bool (same_flow e.flow flow)) [
      | inl same ↦
          let found : entry_of (e ∷ es) flow ≡ Some e = cond-true (same_flow e.flow flow) (Some e) (entry_of es flow) same in
          let keeps : (cond e.clear 0 need) ≡ need = cond-false e.clear 0 need (All-head (λ (x : Entry). x.clear ≡ false) e es kept) in
          ap (λ (o : Option Entry). need_with o need) found ∙ (ap (λ (n : ℕ). n + e.add) keeps ∙ sym (ap (λ (o : Option Entry). need + added_by o) found))
      | inr other ↦
          let found : entry_of (e ∷ es) flow ≡ entry_of es flow = cond-false (same_flow e.flow flow) (Some e) (entry_of es flow) other in
          ap (λ (o : Option Entry). need_with o need) found ∙ (rest ∙ sym (ap (λ (o : Option Entry). need + added_by o) found))
    ]

-- the batch of a round, flow by flow
batch_entry : (before : List AskedRound) (round : AskedRound) (src dst : ℕ) → entry_of (asked_entries_from before 0 round) (flow_of src dst) ≡ entry_of (map (asked_entry before src) (get_or round src [])) (flow_of src dst)
batch_entry before round src dst =
    let at : 0 + src ≡ src = omega arith in
    subst (λ (n : ℕ). entry_of (asked_entries_from before 0 round) (flow_of n dst) ≡ entry_of (map (asked_entry before n) (get_or round src [])) (flow_of n dst)) at (entry_at before 0 src dst round)

pub round_has : (before : List AskedRound) (round : AskedRound) (src dst : ℕ) → is_some (entry_of (asked_entries_from before 0 round) (flow_of src dst)) ≡ asks_for src dst round
round_has before round src dst = ap (λ (o : Option Entry). is_some o) (batch_entry before round src dst) ∙ has_own before src dst (get_or round src [])

pub round_adds : (before : List AskedRound) (round : AskedRound) (src dst : ℕ) → added_in src dst (asked_entries_from before 0 round) ≡ amount_for dst (get_or round src [])
round_adds before round src dst =
    let at : 0 + src ≡ src = omega arith in
    subst (λ (n : ℕ). added_in n dst (asked_entries_from before 0 round) ≡ added_in n dst (map (asked_entry before n) (get_or round src []))) at (added_at before 0 src dst round)
    ∙ adds_own before src dst (get_or round src [])

pub round_added : (endpoints : ℕ) (before : List AskedRound) (round : AskedRound) (src dst : ℕ) → IsAskList endpoints (get_or round src []) → added_by (entry_of (asked_entries_from before 0 round) (flow_of src dst)) ≡ amount_for dst (get_or round src [])
round_added endpoints before round src dst asks = ap added_by (batch_entry before round src dst) ∙ added_own before src dst (get_or round src []) asks.rising

pub round_needs : (endpoints : ℕ) (before : List AskedRound) (round : AskedRound) (src dst need : ℕ) → IsAskList endpoints (get_or round src []) → need_with (entry_of (asked_entries_from before 0 round) (flow_of src dst)) need ≡ need + amount_for dst (get_or round src [])
round_needs endpoints before round src dst need asks =
    need_more (asked_entries_from before 0 round) (flow_of src dst) need (all_entries (λ e. e.clear ≡ false) before 0 round (λ n below k d within. refl))
    ∙ ap (λ (n : ℕ). need + n) (round_added endpoints before round src dst asks)
