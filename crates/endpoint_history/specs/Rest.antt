-- The need of one flow in the demand list, while batches are applied and their slots allocated. From this project's own profile.
use Rattle.std.specs.Prelude.{◌≡◌, true, false, ℕ, zero, suc, ◌+◌, ◌-◌, ◌≤◌, List, [], ◌∷◌, Option, Some, None}
use Rattle.greedy_rules.specs.declared.flows.Entry.{Entry}
use Rattle.greedy_rules.specs.Balance.{clears}
use Rattle.greedy_rules.specs.Demands.{need_with}

-- a need once batches with these entries are applied, and none of their slots are allocated
abbrev pub need_through : List (Option Entry) → ℕ → ℕ
need_through [] need = need
need_through (entry ∷ entries) need = need_through entries (need_with entry need)

-- the same where of the first batches so many slots were allocated, each after its batch was applied
abbrev pub need_left : List (Option Entry) → List ℕ → ℕ → ℕ
need_left entries [] need = need_through entries need
need_left [] (slots ∷ allocated) need = need
need_left (entry ∷ entries) (slots ∷ allocated) need = need_left entries allocated (need_with entry need - slots)

-- each batch gives the flow no more slots than it needs
abbrev pub FitNeeds : List (Option Entry) → List ℕ → ℕ → Type 0
FitNeeds entries [] need = Unit {0}
FitNeeds [] (slots ∷ allocated) need = ⊥
FitNeeds (entry ∷ entries) (slots ∷ allocated) need = (slots ≤ need_with entry need) × FitNeeds entries allocated (need_with entry need - slots)

-- the slots of the batches from this one on
abbrev pub slots_from : ℕ → List ℕ → ℕ
slots_from batch [] = 0
slots_from zero (slots ∷ allocated) = slots + slots_from zero allocated
slots_from (suc batch) (slots ∷ allocated) = slots_from batch allocated

-- what an entry adds, and what the entries of the batches from this one on add
abbrev pub add_of : Option Entry → ℕ
add_of None = 0
add_of (Some entry) = entry.add

abbrev pub adds_from : ℕ → List (Option Entry) → ℕ
adds_from batch [] = 0
adds_from zero (entry ∷ entries) = add_of entry + adds_from zero entries
adds_from (suc batch) (entry ∷ entries) = adds_from batch entries

-- none of the entries clears
abbrev pub NoEntryClears : List (Option Entry) → Type 0
NoEntryClears [] = Unit {0}
NoEntryClears (entry ∷ entries) = (clears entry ≡ false) × NoEntryClears entries

-- the last batch that clears is this one
abbrev pub EntryClearsAt : ℕ → List (Option Entry) → Type 0
EntryClearsAt batch [] = ⊥
EntryClearsAt zero (entry ∷ entries) = (clears entry ≡ true) × NoEntryClears entries
EntryClearsAt (suc batch) (entry ∷ entries) = EntryClearsAt batch entries

-- none clears, and the first that has the flow is not before this one
abbrev pub EntryOpensFrom : ℕ → List (Option Entry) → Type 0
EntryOpensFrom batch [] = ⊥
EntryOpensFrom zero (entry ∷ entries) = (clears entry ≡ false) × NoEntryClears entries
EntryOpensFrom (suc batch) (entry ∷ entries) = (entry ≡ None) × EntryOpensFrom batch entries
