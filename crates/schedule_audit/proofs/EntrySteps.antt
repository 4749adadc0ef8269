-- One entry more is entered.
use Rattle.std.proofs.Common.{◌≡◌, ◌<◌, ◌≤◌, ◌+◌, ◌&&◌, ℕ, zero, suc, List, [], ◌∷◌, ◌++◌, length, take, drop, get_or, cond, true, false, Some, None, is_some, All, IsTrue, refl, sym, ap, ◌∙◌, subst, inl, inr, arith}
use Rattle.std.specs.Option.{option_or}
use Rattle.std.proofs.lemmas.Bool.{cases_Bool, cond-true, cond-false}
use Rattle.std.proofs.lemmas.List.{take_more}
use Rattle.std.proofs.lemmas.List.Elements.{All-head, All-tail}
use Rattle.std.proofs.lemmas.List.Folds.{find-append}
use Rattle.std.proofs.Math.Bool.{and-true, and-false}
use Rattle.list_facts.proofs.Options.{option_or-none}
use Rattle.greedy_rules.specs.declared.flows.Flow.{Flow}
use Rattle.greedy_rules.specs.declared.flows.Entry.{Entry}
use Rattle.greedy_rules.specs.Flows.{same_flow, flow_below}
use Rattle.greedy_rules.specs.Batches.{IsBatch, IsAboveLast, entry_of}
use Rattle.greedy_rules.specs.Balance.{added_by, clears}
use Rattle.greedy_rules.proofs.Facts.{same_flow-true}
use Rattle.schedule_audit.specs.declared.ledger.Ledger.{Ledger}
use Rattle.schedule_audit.specs.FlowNumbers.{Numbers, flow_number_of}
use Rattle.schedule_audit.specs.Entered.{Enters}
use Rattle.schedule_audit.proofs.Records.{none_before, pairs_before}

abbrev pub Rises : Entry → Entry → Type 0
Rises x y = IsTrue (flow_below x.flow y.flow)

-- ---- the entries before one

above_last : (front : List Entry) (flow : Flow) → All (λ x. flow_below x.flow flow ≡ true) front → IsAboveLast front flow
above_last [] flow below = tt
above_last (x ∷ []) flow below = All-head (λ (y : Entry). flow_below y.flow flow ≡ true) x [] below
above_last (x ∷ (y ∷ front)) flow below = above_last (y ∷ front) flow (All-tail (λ (z : Entry). flow_below z.flow flow ≡ true) x (y ∷ front) below)

-- an entry and those before it
pub split_at : (entries : List Entry) (at : ℕ) (d : Entry) → at < length entries → entries ≡ take at entries ++ get_or entries at d ∷ drop (suc at) entries
split_at [] at d within = absurd (omega arith)
split_at (e ∷ entries) zero d within = refl
split_at (e ∷ entries) (suc at) d within = ap (λ xs. e ∷ xs) (split_at entries at d (omega arith))

pub below_entry : (entries : List Entry) (at : ℕ) (d : Entry) → IsBatch entries → at < length entries → All (λ x. flow_below x.flow (get_or entries at d).flow ≡ true) (take at entries)
below_entry entries at d rises within = pairs_before (take at entries) (get_or entries at d) (drop (suc at) entries) (subst IsBatch (split_at entries at d within) rises)

pub above_entry : (entries : List Entry) (at : ℕ) (d : Entry) → IsBatch entries → at < length entries → IsAboveLast (take at entries) (get_or entries at d).flow
above_entry entries at d rises within = above_last (take at entries) (get_or entries at d).flow (below_entry entries at d rises within)

-- ---- the entry of a flow, with one entry more

none-yet : (entries : List Entry) (at : ℕ) (d : Entry) → IsBatch entries → at < length entries → entry_of (take at entries) (get_or entries at d).flow ≡ None
none-yet entries at d rises within = none_before (take at entries) (get_or entries at d).flow (below_entry entries at d rises within)

entry-more : (entries : List Entry) (at : ℕ) (d : Entry) (flow : Flow) → at < length entries
    → entry_of (take (at + 1) entries) flow ≡ option_or (entry_of (take at entries) flow) (entry_of (get_or entries at d ∷ []) flow)
entry-more entries at d flow within =
    ap (λ xs. entry_of xs flow) (take_more entries at d within) ∙ find-append (λ (e : Entry). same_flow e.flow flow) (take at entries) (get_or entries at d ∷ [])

pub entry-this : (entries : List Entry) (at : ℕ) (d : Entry) (flow : Flow) → IsBatch entries → at < length entries → same_flow (get_or entries at d).flow flow ≡ true
    → (entry_of (take at entries) flow ≡ None) × (entry_of (take (at + 1) entries) flow ≡ Some (get_or entries at d))
entry-this entries at d flow rises within same =
    let none : entry_of (take at entries) flow ≡ None = ap (λ f. entry_of (take at entries) f) (sym (same_flow-true (get_or entries at d).flow flow same)) ∙ none-yet entries at d rises within in (
      none,
      entry-more entries at d flow within
          ∙ (ap (λ o. option_or o (entry_of (get_or entries at d ∷ []) flow)) none ∙ cond-true (same_flow (get_or entries at d).flow flow) (Some (get_or entries at d)) None same),
    )

pub entry-other : (entries : List Entry) (at : ℕ) (d : Entry) (flow : Flow) → at < length entries → same_flow (get_or entries at d).flow flow ≡ false → entry_of (take (at + 1) entries) flow ≡ entry_of (take at entries) flow
entry-other entries at d flow within other =
    entry-more entries at d flow within
    ∙ (ap (λ o. option_or (entry_of (take at entries) flow) o) (cond-false (same_flow (get_or entries at d).flow flow) (Some (get_or entries at d)) None other) ∙ option_or-none (entry_of (take at entries) flow))

-- ---- one entry more

abbrev Holds : List Entry → ℕ → Numbers → Ledger → Ledger → Flow → Type 0
Holds entries at slots start new flow = (flow_number_of new.seen flow ≡ cond (is_some (entry_of (take (at + 1) entries) flow)) 1 (flow_number_of start.seen flow))
    × (flow_number_of new.added flow ≡ flow_number_of start.added flow + added_by (entry_of (take (at + 1) entries) flow))
    × (flow_number_of new.added flow ≤ flow_number_of start.added flow + 4294967295)
    × (flow_number_of new.cleared flow ≡ cond (clears (entry_of (take (at + 1) entries) flow)) (flow_number_of slots flow) (flow_number_of start.cleared flow))

pub enters-more : (entries : List Entry) (at : ℕ) (d : Entry) (slots : Numbers) (start old new : Ledger) → IsBatch entries → at < length entries → (get_or entries at d).add ≤ 4294967295 → Enters (take at entries) slots start old
    → ((other : Flow) → flow_number_of new.seen other ≡ cond (same_flow (get_or entries at d).flow other) 1 (flow_number_of old.seen other))
    → ((other : Flow) → flow_number_of new.added other ≡ cond (same_flow (get_or entries at d).flow other) (flow_number_of old.added (get_or entries at d).flow + (get_or entries at d).add) (flow_number_of old.added other))
    → ((other : Flow) → flow_number_of new.cleared other ≡ cond ((get_or entries at d).clear && same_flow (get_or entries at d).flow other) (flow_number_of slots (get_or entries at d).flow) (flow_number_of old.cleared other))
    → Enters (take (at + 1) entries) slots start new
enters-more entries at d slots start old new rises within small so seen added cleared = record { seen = λ f. (each f).0; added = λ f. (each f).1; few = λ f. (each f).2; cleared = λ f. (each f).3 }
  where
    e : Entry
    e = get_or entries at d

    each : (flow : Flow) → Holds entries at slots start new flow
    each flow = elim (cases_Bool (same_flow e.flow flow)) [
      | inl same ↦
          let it : e.flow ≡ flow = same_flow-true e.flow flow same in
          let this = entry-this entries at d flow rises within same in
          let before : flow_number_of old.added e.flow ≡ flow_number_of start.added flow =
          ap (λ f. flow_number_of old.added f) it ∙ (so.added flow ∙ (ap (λ o. flow_number_of start.added flow + added_by o) this.0 ∙ plain (flow_number_of start.added flow))) in
          let now : flow_number_of new.added flow ≡ flow_number_of start.added flow + e.add =
          added flow ∙ (cond-true (same_flow e.flow flow) (flow_number_of old.added e.flow + e.add) (flow_number_of old.added flow) same ∙ ap (λ n. n + e.add) before) in (
            seen flow ∙ (cond-true (same_flow e.flow flow) 1 (flow_number_of old.seen flow) same ∙ sym (ap (λ o. cond (is_some o) 1 (flow_number_of start.seen flow)) this.1)),
            now ∙ sym (ap (λ o. flow_number_of start.added flow + added_by o) this.1),
            omega (arith, now, small),
            cleared flow
                ∙ (ap (λ b. cond (e.clear && b) (flow_number_of slots e.flow) (flow_number_of old.cleared flow)) same
                ∙ (ap (λ b. cond b (flow_number_of slots e.flow) (flow_number_of old.cleared flow)) (and-true e.clear)
                ∙ (ap (λ f. cond e.clear (flow_number_of slots f) (flow_number_of old.cleared flow)) it
                ∙ (ap (λ n. cond e.clear (flow_number_of slots flow) n) (so.cleared flow ∙ ap (λ o. cond (clears o) (flow_number_of slots flow) (flow_number_of start.cleared flow)) this.0)
                ∙ sym (ap (λ o. cond (clears o) (flow_number_of slots flow) (flow_number_of start.cleared flow)) this.1))))),
          )
      | inr other ↦
          let same_one = entry-other entries at d flow within other in
          let kept : flow_number_of new.added flow ≡ flow_number_of old.added flow = added flow ∙ cond-false (same_flow e.flow flow) (flow_number_of old.added e.flow + e.add) (flow_number_of old.added flow) other in (
            seen flow ∙ (cond-false (same_flow e.flow flow) 1 (flow_number_of old.seen flow) other ∙ (so.seen flow ∙ sym (ap (λ o. cond (is_some o) 1 (flow_number_of start.seen flow)) same_one))),
            kept ∙ (so.added flow ∙ sym (ap (λ o. flow_number_of start.added flow + added_by o) same_one)),
            (let few = so.few flow in omega (arith, kept, few)),
            cleared flow
                ∙ (ap (λ b. cond (e.clear && b) (flow_number_of slots e.flow) (flow_number_of old.cleared flow)) other
                ∙ (ap (λ b. cond b (flow_number_of slots e.flow) (flow_number_of old.cleared flow)) (and-false e.clear)
                ∙ (so.cleared flow ∙ sym (ap (λ o. cond (clears o) (flow_number_of slots flow) (flow_number_of start.cleared flow)) same_one)))),
          )
    ]
      where
        plain : (n : ℕ) → n + 0 ≡ n
        plain n = omega arith

pub enters-none : (slots : Numbers) (start : Ledger) → Enters [] slots start start
enters-none slots start = record { seen = λ f. refl; added = λ f. omega arith; few = λ f. omega arith; cleared = λ f. refl }
