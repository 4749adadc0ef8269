-- The records of a round, one after the other.
use Rattle.std.proofs.Common.{◌≡◌, ◌≢◌, ◌<◌, ◌≤◌, ◌+◌, ◌==◌, ℕ, zero, suc, List, [], ◌∷◌, ◌++◌, map, length, take, get_or, refl, sym, ap, ◌∙◌, subst, inl, inr, arith}
use Rattle.std.proofs.lemmas.Bool.{cases_lt}
use Rattle.std.proofs.lemmas.List.{take_more}
use Rattle.greedy_rules.specs.declared.flows.Entry.{Entry}
use Rattle.greedy_rules.specs.Batches.{DemandBatch, IsAboveLast}
use Rattle.schedule_audit.specs.Lines.{Recorded}
use Rattle.schedule_audit.specs.FlowNumbers.{Numbers, flow_number_of}
use Rattle.schedule_audit.specs.Texts.{record_of, records_of}
use Rattle.schedule_audit.specs.Played.{BeginWith}
use Rattle.schedule_audit.proofs.EntrySteps.{above_entry}

-- the entry that a record makes
abbrev pub made_of : Numbers → Recorded → Entry
made_of seen r = record { flow = r.flow; opens = flow_number_of seen r.flow == 0; clear = r.clear; add = r.add }

at-entry : (k : ℕ) (entries : List Entry) (rest : List Recorded) (at : ℕ) (d : Recorded) (e : Entry) → at < length entries → get_or (map (record_of k) entries ++ rest) at d ≡ record_of k (get_or entries at e)
at-entry k [] rest at d e within = absurd (omega arith)
at-entry k (x ∷ entries) rest zero d e within = refl
at-entry k (x ∷ entries) rest (suc at) d e within = at-entry k entries rest at d e (omega arith)

at-rest : (k : ℕ) (entries : List Entry) (rest : List Recorded) (at : ℕ) (d : Recorded) → length entries ≤ at → at ≤ length entries → get_or (map (record_of k) entries ++ rest) at d ≡ get_or rest 0 d
at-rest k [] rest zero d low high = refl
at-rest k [] rest (suc at) d low high = absurd (omega arith)
at-rest k (x ∷ entries) rest zero d low high = absurd (omega arith)
at-rest k (x ∷ entries) rest (suc at) d low high = at-rest k entries rest at d (omega arith) (omega arith)

-- records of later rounds
first-later : (k : ℕ) (entries : List Entry) (rest : List Recorded) (d : Recorded) → (0 < length rest → k + 1 ≤ (get_or rest 0 d).batch) → 0 < length (map (record_of k) entries ++ rest) → k ≤ (get_or (map (record_of k) entries ++ rest) 0 d).batch
first-later k [] rest d next some = let above = next some in omega (arith, above)
first-later k (e ∷ entries) rest d next some = omega arith

head-later : (k : ℕ) (later : List DemandBatch) (d : Recorded) → 0 < length (records_of k later) → k ≤ (get_or (records_of k later) 0 d).batch
head-later k [] d some = absurd (omega arith)
head-later k (batch ∷ later) d some = first-later k batch.entries (records_of (k + 1) later) d (head-later (k + 1) later d) some

module _ (k : ℕ) (seen : Numbers) (entries : List Entry) (later : List DemandBatch) (todo : List Recorded) (begins : BeginWith k seen entries later todo) (d : Recorded) where
  rest-length : (at : ℕ) → at < length todo → length entries ≤ at → 0 < length (records_of (k + 1) later)
  rest-length at within past = some (records_of (k + 1) later) (ap (λ xs. length xs) begins.records)
    where
      lengths : (es : List Entry) (rs : List Recorded) → length (map (record_of k) es ++ rs) ≡ length es + length rs
      lengths [] rs = omega arith
      lengths (e ∷ es) rs = let more = lengths es rs in omega (arith, more)

      some : (rs : List Recorded) → length todo ≡ length (map (record_of k) entries ++ rs) → 0 < length rs
      some rs long = let both = lengths entries rs in omega (arith, long, both, within, past)

  -- a record of the round is one of the entries'
  pub not-past : (at : ℕ) → at ≤ length entries → at < length todo → (get_or todo at d).batch ≡ k → at < length entries
  not-past at low within is = elim (cases_lt at (length entries)) [
    | inl less ↦ less
    | inr past ↦
        let here : get_or todo at d ≡ get_or (records_of (k + 1) later) 0 d = ap (λ xs. get_or xs at d) begins.records ∙ at-rest k entries (records_of (k + 1) later) at d past low in
        let above = head-later (k + 1) later d (rest-length at within past) in
        let eq = ap (λ (r : Recorded). r.batch) here in absurd (omega (arith, above, eq, is))
  ]

  -- it makes that entry
  pub makes-entry : (at : ℕ) (e : Entry) → at < length entries → made_of seen (get_or todo at d) ≡ get_or entries at e
  makes-entry at e within =
      let here : get_or todo at d ≡ record_of k (get_or entries at e) = ap (λ xs. get_or xs at d) begins.records ∙ at-entry k entries (records_of (k + 1) later) at d e within in
      ap (λ r. made_of seen r) here ∙ ap (λ o. record { flow = (get_or entries at e).flow; opens = o; clear = (get_or entries at e).clear; add = (get_or entries at e).add }) (sym (begins.opens at e within))

  pub above-so-far : (at : ℕ) (e : Entry) → at < length entries → IsAboveLast (take at entries) (get_or todo at d).flow
  above-so-far at e within =
      subst (λ f. IsAboveLast (take at entries) f) (sym (ap (λ (x : Entry). x.flow) (makes-entry at e within))) (above_entry entries at e begins.rises within)

  pub one-more : (at : ℕ) (read new : List Entry) (made : Entry) → at < length entries → read ≡ take at entries → made ≡ made_of seen (get_or todo at d) → new ≡ read ++ made ∷ [] → new ≡ take (at + 1) entries
  one-more at read new made within so_far is so =
      so ∙ (ap (λ xs. xs ++ made ∷ []) so_far ∙ (ap (λ x. take at entries ++ x ∷ []) (is ∙ makes-entry at made within) ∙ sym (take_more entries at made within)))

  -- where a record is of a later round, or there is none, all entries are read
  pub reads-all : (at : ℕ) → at ≤ length entries → (at < length todo → (get_or todo at d).batch ≢ k) → length entries ≤ at
  reads-all at low stop = elim (cases_lt at (length entries)) [
    | inl less ↦ absurd (stop (longer less) (is less))
    | inr past ↦ past
  ]
    where
      lengths : (es : List Entry) (rs : List Recorded) → length es ≤ length (map (record_of k) es ++ rs)
      lengths [] rs = omega arith
      lengths (e ∷ es) rs = let more = lengths es rs in omega (arith, more)

      longer : at < length entries → at < length todo
      longer less = let long = ap (λ xs. length xs) begins.records in let most = lengths entries (records_of (k + 1) later) in omega (arith, less, long, most)

      is : at < length entries → (get_or todo at d).batch ≡ k
      is less = ap (λ (r : Recorded). r.batch) (ap (λ xs. get_or xs at d) begins.records ∙ at-entry k entries (records_of (k + 1) later) at d (made_of seen d) less)
