-- The ledger and the demand list agree.
use Rattle.std.proofs.Common.{◌≡◌, ℕ, zero, suc, ◌+◌, ◌-◌, ◌<◌, ◌≤◌, Bool, true, false, ◌&&◌, ◌||◌, not, cond, nat_lt, List, [], ◌∷◌, ◌++◌, length, Option, Some, None, sym, ◌∙◌, ap, subst, refl, inl, inr, arith}
use Rattle.std.specs.Prelude.{◌⊎◌}
use Rattle.std.proofs.lemmas.Bool.{cases_Bool, cases_lt, lt-ltb, le-ltb, true≢false}
use Rattle.std.proofs.Common.{length-append}
use Rattle.greedy_rules.specs.declared.flows.Entry.{Entry}
use Rattle.greedy_rules.specs.Balance.{clears}
use Rattle.greedy_rules.specs.Demands.{need_with}
use Rattle.endpoint_history.specs.Packets.{Resets, Requests}
use Rattle.endpoint_history.specs.Lane.{LaneHistory, MakesDown, TakesUp, Records, restarts, last_reset}
use Rattle.endpoint_history.specs.Entries.{added, is_reset, had, entry_with, next_entry, rounds_recorded, adds, entries_of_batches}
use Rattle.endpoint_history.specs.Rest.{need_through, need_left, FitNeeds, slots_from, add_of, adds_from, NoEntryClears, EntryClearsAt, EntryOpensFrom}
use Rattle.endpoint_history.specs.Steps.{TakesInRound}
use Rattle.endpoint_history.specs.LedgerLaws.{EntriesSumToOwed, CountsBeginAtTheLastClear, OneRest}
use Rattle.endpoint_history.specs.Windows.{Windows}
use Rattle.endpoint_history.proofs.Ledger.{adds_sum_to_owed}

-- ---- lists of entries

abbrev pub AllNone : List (Option Entry) → Type 0
AllNone [] = Unit {0}
AllNone (entry ∷ entries) = (entry ≡ None) × AllNone entries

kept : (entry : Option Entry) (need : ℕ) → clears entry ≡ false → need_with entry need ≡ need + add_of entry
kept None need h = omega arith
kept (Some entry) need h = rw h refl

cleared : (entry : Option Entry) (need : ℕ) → clears entry ≡ true → need_with entry need ≡ add_of entry
cleared None need h = absurd (cc)
cleared (Some entry) need h = rw h (omega arith)

pub none-allocated : (entries : List (Option Entry)) (need : ℕ) → need_left entries [] need ≡ need_through entries need
none-allocated [] need = refl
none-allocated (entry ∷ entries) need = refl

left-after : (entries : List (Option Entry)) (allocated : List ℕ) (need : ℕ) → NoEntryClears entries → FitNeeds entries allocated need →
    need_left entries allocated need + slots_from zero allocated ≡ need + adds_from zero entries
left-after [] [] need none fits = refl
left-after [] (slots ∷ allocated) need none fits = absurd fits
left-after (entry ∷ entries) [] need none fits =
    let rest = left-after entries [] (need_with entry need) none.1 tt in
    let here = kept entry need none.0 in
    let same = none-allocated entries (need_with entry need) in
    omega arith
left-after (entry ∷ entries) (slots ∷ allocated) need none fits =
    let rest = left-after entries allocated (need_with entry need - slots) none.1 fits.1 in
    let here = kept entry need none.0 in
    let within = fits.0 in
    omega arith

left-cleared : (batch : ℕ) (entries : List (Option Entry)) (allocated : List ℕ) (need : ℕ) → EntryClearsAt batch entries → FitNeeds entries allocated need →
    need_left entries allocated need + slots_from batch allocated ≡ adds_from batch entries
left-cleared batch [] allocated need at_it fits = absurd at_it
left-cleared zero (entry ∷ entries) [] need at_it fits =
    let rest = left-after entries [] (need_with entry need) at_it.1 tt in
    let here = cleared entry need at_it.0 in
    let same = none-allocated entries (need_with entry need) in
    omega arith
left-cleared zero (entry ∷ entries) (slots ∷ allocated) need at_it fits =
    let rest = left-after entries allocated (need_with entry need - slots) at_it.1 fits.1 in
    let here = cleared entry need at_it.0 in
    let within = fits.0 in
    omega arith
left-cleared (suc batch) (entry ∷ entries) [] need at_it fits =
    let rest = left-cleared batch entries [] (need_with entry need) at_it tt in
    let same = none-allocated entries (need_with entry need) in
    omega arith
left-cleared (suc batch) (entry ∷ entries) (slots ∷ allocated) need at_it fits = left-cleared batch entries allocated (need_with entry need - slots) at_it fits.1

left-opened : (batch : ℕ) (entries : List (Option Entry)) (allocated : List ℕ) → EntryOpensFrom batch entries → FitNeeds entries allocated 0 →
    need_left entries allocated 0 + slots_from batch allocated ≡ adds_from batch entries
left-opened batch [] allocated opens fits = absurd opens
left-opened zero (entry ∷ entries) allocated opens fits = left-after (entry ∷ entries) allocated 0 opens fits ∙ omega arith
left-opened (suc batch) (entry ∷ entries) [] opens fits =
    let rest = left-opened batch entries [] opens.1 tt in
    let here : need_with entry 0 ≡ 0 = ap (λ e. need_with e 0) opens.0 in
    let same = none-allocated entries 0 in
    let there = ap (λ n. need_through entries n) here in
    omega arith
left-opened (suc batch) (entry ∷ entries) (slots ∷ allocated) opens fits =
    let here : need_with entry 0 ≡ 0 = ap (λ e. need_with e 0) opens.0 in
    let next : need_with entry 0 - slots ≡ 0 = omega arith in
    let within = fits.0 in
    let none : slots ≡ 0 = omega arith in
    let rest = left-opened batch entries allocated opens.1 (subst (λ (n : ℕ). FitNeeds entries allocated n) next fits.1) in
    let there = ap (λ n. need_left entries allocated n) next in
    omega arith

-- ---- one batch more

NoneClears-more : (entries : List (Option Entry)) (entry : Option Entry) → NoEntryClears entries → clears entry ≡ false → NoEntryClears (entries ++ entry ∷ [])
NoneClears-more [] entry none h = (h, tt)
NoneClears-more (e ∷ entries) entry none h = (none.0, NoneClears-more entries entry none.1 h)

ClearsAt-more : (batch : ℕ) (entries : List (Option Entry)) (entry : Option Entry) → EntryClearsAt batch entries → clears entry ≡ false → EntryClearsAt batch (entries ++ entry ∷ [])
ClearsAt-more batch [] entry at_it h = absurd at_it
ClearsAt-more zero (e ∷ entries) entry at_it h = (at_it.0, NoneClears-more entries entry at_it.1 h)
ClearsAt-more (suc batch) (e ∷ entries) entry at_it h = ClearsAt-more batch entries entry at_it h

OpensFrom-more : (batch : ℕ) (entries : List (Option Entry)) (entry : Option Entry) → EntryOpensFrom batch entries → clears entry ≡ false → EntryOpensFrom batch (entries ++ entry ∷ [])
OpensFrom-more batch [] entry opens h = absurd opens
OpensFrom-more zero (e ∷ entries) entry opens h = (opens.0, NoneClears-more entries entry opens.1 h)
OpensFrom-more (suc batch) (e ∷ entries) entry opens h = (opens.0, OpensFrom-more batch entries entry opens.1 h)

ClearsAt-last : (entries : List (Option Entry)) (entry : Option Entry) → clears entry ≡ true → EntryClearsAt (length entries) (entries ++ entry ∷ [])
ClearsAt-last [] entry h = (h, tt)
ClearsAt-last (e ∷ entries) entry h = ClearsAt-last entries entry h

OpensFrom-last : (entries : List (Option Entry)) (entry : Option Entry) → AllNone entries → clears entry ≡ false → EntryOpensFrom (length entries) (entries ++ entry ∷ [])
OpensFrom-last [] entry none h = (h, tt)
OpensFrom-last (e ∷ entries) entry none h = (none.0, OpensFrom-last entries entry none.1 h)

AllNone-more : (entries : List (Option Entry)) (entry : Option Entry) → AllNone entries → entry ≡ None → AllNone (entries ++ entry ∷ [])
AllNone-more [] entry none h = (h, tt)
AllNone-more (e ∷ entries) entry none h = (none.0, AllNone-more entries entry none.1 h)

adds_from-more : (batch : ℕ) (entries : List (Option Entry)) (entry : Option Entry) → batch ≤ length entries → adds_from batch (entries ++ entry ∷ []) ≡ adds_from batch entries + add_of entry
adds_from-more zero [] entry low = omega arith
adds_from-more (suc batch) [] entry low = absurd (omega arith)
adds_from-more zero (e ∷ entries) entry low = omega (arith, adds_from-more zero entries entry (omega arith))
adds_from-more (suc batch) (e ∷ entries) entry low = adds_from-more batch entries entry (omega arith)

adds_from-end : (entries : List (Option Entry)) → adds_from (length entries) entries ≡ 0
adds_from-end [] = refl
adds_from-end (e ∷ entries) = adds_from-end entries

-- ---- the entries of a history

entry-add : (endpoint dst add : ℕ) (had_it clear : Bool) → add_of (entry_with endpoint dst had_it clear add) ≡ add
entry-add endpoint dst add had_it clear =
    elim (cases_lt 0 add) [
      | inl some ↦ rw (lt-ltb 0 add some) refl
      | inr none ↦
          rw (le-ltb 0 add none)
          (elim clear as (λ b. add_of (cond b (Some (record { flow = record { src = endpoint; dst = dst }; opens = false && not had_it; clear = b; add = add })) None) ≡ add) [ true ↦ refl | false ↦ omega arith ])
    ]

entry-clears : (endpoint dst add : ℕ) (had_it clear : Bool) → clears (entry_with endpoint dst had_it clear add) ≡ clear
entry-clears endpoint dst add had_it true = elim (nat_lt 0 add) as (λ b. clears (cond (b || true) (Some (record { flow = record { src = endpoint; dst = dst }; opens = b && not had_it; clear = true; add = add })) None) ≡ true) [ true ↦ refl | false ↦ refl ]
entry-clears endpoint dst add had_it false = elim (nat_lt 0 add) as (λ b. clears (cond (b || false) (Some (record { flow = record { src = endpoint; dst = dst }; opens = b && not had_it; clear = false; add = add })) None) ≡ false) [ true ↦ refl | false ↦ refl ]

entry-none : (endpoint dst add : ℕ) (had_it clear : Bool) → nat_lt 0 add ≡ false → clear ≡ false → entry_with endpoint dst had_it clear add ≡ None
entry-none endpoint dst add had_it clear none kept_it = rw (none, kept_it) refl

pub record Standing (endpoint g : ℕ) (history : LaneHistory) (dst : ℕ) : Type 0 where
  pub long : length (entries_of_batches endpoint g history dst) ≡ rounds_recorded history
  pub none : had g history dst ≡ false → AllNone (entries_of_batches endpoint g history dst)
  pub reset : is_reset history ≡ true → (last_reset history ≡ rounds_recorded history) × (adds g history dst ≡ 0)
  pub steady : is_reset history ≡ false →
      ((rounds_recorded history ≡ 0) × (last_reset history ≡ 0) × (adds g history dst ≡ 0))
      ⊎ ((last_reset history < rounds_recorded history)
      × (EntryClearsAt (last_reset history) (entries_of_batches endpoint g history dst) ⊎ EntryOpensFrom (last_reset history) (entries_of_batches endpoint g history dst))
      × (adds_from (last_reset history) (entries_of_batches endpoint g history dst) ≡ adds g history dst))

standing-records : (endpoint g round : ℕ) (history : LaneHistory) (dst : ℕ) → Standing endpoint g history dst → Standing endpoint g (Records round ∷ history) dst
standing-records endpoint g round history dst s =
    record { long = longer; none = all_none; reset = λ h. absurd (cc); steady = λ h. inr now }
  where
    es : List (Option Entry)
    es = entries_of_batches endpoint g history dst

    e : Option Entry
    e = next_entry endpoint g history dst

    adds_it : add_of e ≡ added g history dst
    adds_it = entry-add endpoint dst (added g history dst) (had g history dst) (is_reset history && had g history dst)

    clears_it : clears e ≡ (is_reset history && had g history dst)
    clears_it = entry-clears endpoint dst (added g history dst) (had g history dst) (is_reset history && had g history dst)

    longer : length (es ++ e ∷ []) ≡ rounds_recorded history + 1
    longer = length-append es (e ∷ []) ∙ ap (λ n. n + 1) s.long

    all_none : nat_lt 0 (added g history dst) || had g history dst ≡ false → AllNone (es ++ e ∷ [])
    all_none h =
        let none_added : nat_lt 0 (added g history dst) ≡ false = left (nat_lt 0 (added g history dst)) (had g history dst) h in
        let none_had : had g history dst ≡ false = right (nat_lt 0 (added g history dst)) (had g history dst) h in
        AllNone-more es e (s.none none_had)
        (entry-none endpoint dst (added g history dst) (had g history dst) (is_reset history && had g history dst) none_added (ap (λ b. is_reset history && b) none_had ∙ and_false (is_reset history)))
      where
        left : (a b : Bool) → a || b ≡ false → a ≡ false
        left true b h' = h'
        left false b h' = refl

        right : (a b : Bool) → a || b ≡ false → b ≡ false
        right true b h' = absurd (cc)
        right false b h' = h'

        and_false : (a : Bool) → a && false ≡ false
        and_false true = refl
        and_false false = refl

    now : (last_reset history < rounds_recorded history + 1)
        × (EntryClearsAt (last_reset history) (es ++ e ∷ []) ⊎ EntryOpensFrom (last_reset history) (es ++ e ∷ []))
        × (adds_from (last_reset history) (es ++ e ∷ []) ≡ adds g history dst + added g history dst)
    now = elim (cases_Bool (is_reset history)) [
      | inl resets ↦
          let r = s.reset resets in
          let here = r.0 in
          let at_end : last_reset history ≡ length es = r.0 ∙ sym s.long in
          let none_yet = r.1 in
          let grown = adds_from-more (length es) es e (omega arith) in
          let ended = adds_from-end es in
          let adds_now : adds_from (length es) (es ++ e ∷ []) ≡ adds g history dst + added g history dst = omega (arith, adds_it) in (
            omega arith,
            subst (λ (n : ℕ). EntryClearsAt n (es ++ e ∷ []) ⊎ EntryOpensFrom n (es ++ e ∷ [])) (sym at_end)
                (elim (cases_Bool (had g history dst)) [
                  | inl has ↦ inl (ClearsAt-last es e (clears_it ∙ ap (λ b. b && had g history dst) resets ∙ has))
                  | inr has_not ↦ inr (OpensFrom-last es e (s.none has_not) (clears_it ∙ ap (λ b. b && had g history dst) resets ∙ has_not))
                ]),
            subst (λ (n : ℕ). adds_from n (es ++ e ∷ []) ≡ adds g history dst + added g history dst) (sym at_end) adds_now,
          )
      | inr stays ↦
          let keeps : clears e ≡ false = clears_it ∙ ap (λ b. b && had g history dst) stays in
          elim (s.steady stays) [
            | inl first ↦
                let none_recorded = first.0 in
                let none_yet = first.2 in
                let empty : length es ≡ 0 = s.long ∙ first.0 in
                let low = first.1 in
                let at_end : last_reset history ≡ length es = omega arith in
                let grown = adds_from-more (length es) es e (omega arith) in
                let ended = adds_from-end es in
                let adds_now : adds_from (length es) (es ++ e ∷ []) ≡ adds g history dst + added g history dst = omega (arith, adds_it) in (
                  omega arith,
                  subst (λ (n : ℕ). EntryClearsAt n (es ++ e ∷ []) ⊎ EntryOpensFrom n (es ++ e ∷ [])) (sym at_end) (inr (OpensFrom-last es e (no_entries es empty) keeps)),
                  subst (λ (n : ℕ). adds_from n (es ++ e ∷ []) ≡ adds g history dst + added g history dst) (sym at_end) adds_now,
                )
            | inr on ↦
                let below = on.0 in
                let long = s.long in
                let grown = adds_from-more (last_reset history) es e (omega arith) in
                let same = on.2 in (
                  omega arith,
                  elim on.1 [
                    | inl at_it ↦ inl (ClearsAt-more (last_reset history) es e at_it keeps)
                    | inr opens ↦ inr (OpensFrom-more (last_reset history) es e opens keeps)
                  ],
                  omega (arith, adds_it),
                )
          ]
    ]
      where
        no_entries : (xs : List (Option Entry)) → length xs ≡ 0 → AllNone xs
        no_entries [] h = tt
        no_entries (x ∷ xs) h = absurd (omega arith)

pub standing : (endpoint g : ℕ) (history : LaneHistory) (dst : ℕ) → TakesInRound history → Standing endpoint g history dst
standing endpoint g [] dst rounds = record { long = refl; none = λ h. tt; reset = λ h. absurd (cc); steady = λ h. inl (refl, refl, refl) }
standing endpoint g (MakesDown round told ∷ history) dst rounds =
    let s = standing endpoint g history dst rounds in
    record { long = s.long; none = s.none; reset = s.reset; steady = s.steady }
standing endpoint g (TakesUp round (Requests packet) ∷ history) dst rounds =
    let s = standing endpoint g history dst rounds.1 in
    record { long = s.long; none = s.none; reset = s.reset; steady = s.steady }
standing endpoint g (TakesUp round (Resets epoch version) ∷ history) dst rounds =
    let s = standing endpoint g history dst rounds.1 in
    elim (cases_Bool (restarts history epoch)) [
      | inr old ↦ record { long = s.long; none = s.none; reset = rw old s.reset; steady = rw old s.steady }
      | inl new ↦ record { long = s.long; none = s.none; reset = λ h. rw new (rounds.0, refl); steady = λ h. absurd (true≢false (rw new at h)) }
    ]
standing endpoint g (Records round ∷ history) dst rounds = standing-records endpoint g round history dst (standing endpoint g history dst rounds)

pub entries_sum_to_owed : (w : Windows) → EntriesSumToOwed
entries_sum_to_owed w endpoint g round history dst rounds =
    let s = standing endpoint g (Records round ∷ history) dst rounds in
    let sum = adds_sum_to_owed w g history dst in
    elim (s.steady refl) [
      | inl first ↦ let none = first.0 in absurd (omega arith)
      | inr on ↦ let same = on.2 in omega arith
    ]

pub counts_begin_at_the_last_clear : CountsBeginAtTheLastClear
counts_begin_at_the_last_clear endpoint g round history dst rounds =
    let s = standing endpoint g (Records round ∷ history) dst rounds in
    elim (s.steady refl) [
      | inl first ↦ let none = first.0 in absurd (omega arith)
      | inr on ↦ on.1
    ]

pub one_rest : (w : Windows) → OneRest
one_rest w endpoint g round history dst allocated rounds fits =
    let s = standing endpoint g (Records round ∷ history) dst rounds in
    let sum = adds_sum_to_owed w g history dst in
    elim (s.steady refl) [
      | inl first ↦ let none = first.0 in absurd (omega arith)
      | inr on ↦
          let same = on.2 in
          elim on.1 [
            | inl at_it ↦ let left = left-cleared (last_reset history) (entries_of_batches endpoint g (Records round ∷ history) dst) allocated 0 at_it fits in omega arith
            | inr opens ↦ let left = left-opened (last_reset history) (entries_of_batches endpoint g (Records round ∷ history) dst) allocated opens fits in omega arith
          ]
    ]
