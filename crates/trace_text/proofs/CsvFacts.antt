-- The records of a text one by one: each takes a byte at least, and what stands between two of them ends nothing.
use Rattle.std.proofs.Common.{◌≡◌, ℕ, zero, suc, ◌+◌, ◌<◌, ◌≤◌, List, [], ◌∷◌, ◌++◌, length, Bool, true, false, cond, Option, Some, None, refl, sym, ap, ◌∙◌, arith, add-one}
use Rattle.std.specs.Prelude.{◌==◌, ◌||◌}
use Rattle.std.proofs.lemmas.Bool.{false≢true}
use Rattle.csv.specs.Machine.{Read, next_record, step, in_field, start_field, start_record, is_end, ends_at_end, fields_after, field_after}
use Rattle.csv.specs.Reading.{default_config, records_from, records_next, strip_bom, is_bom}
use Rattle.csv.specs.declared.parser.State.{State}
use Rattle.csv.specs.declared.parser.State.TheVariants as st
use Rattle.csv.specs.declared.parser.Action.{Action}
use Rattle.csv.specs.declared.parser.Action.TheVariants as act

-- where this ends a record, it leads to what ends nothing
abbrev EndsWell : State × Action → Type 0
EndsWell r = is_end r.1 ≡ true → ends_at_end r.0 ≡ false

goes_on : (s : State) (a : Action) → is_end a ≡ false → EndsWell (s, a)
goes_on s a none e = absurd (false≢true (sym none ∙ e))

either : (b : Bool) (x y : State × Action) → EndsWell x → EndsWell y → EndsWell (cond b x y)
either true x y p q = p
either false x y p q = q

in_field-end : (c : ℕ) → EndsWell (in_field default_config c)
in_field-end c =
    either (c == 44) (st.StartField, act.EndField) _ (goes_on st.StartField act.EndField refl)
    (either ((c == 13) || (c == 10)) (cond (c == 13) st.AfterCr st.StartRecord, act.EndRecord) (st.InField, act.Copy) (λ e. by (c == 13)) (goes_on st.InField act.Copy refl))
  where
    by : (b : Bool) → ends_at_end (cond b st.AfterCr st.StartRecord) ≡ false
    by true = refl
    by false = refl

start_field-end : (c : ℕ) → EndsWell (start_field default_config c)
start_field-end c = either (c == 34) (st.InQuoted, act.Skip) _ (goes_on st.InQuoted act.Skip refl) (in_field-end c)

start_record-end : (c : ℕ) → EndsWell (start_record default_config c)
start_record-end c =
    either ((c == 13) || (c == 10)) (st.StartRecord, act.Skip) _ (goes_on st.StartRecord act.Skip refl) (start_field-end c)

step-end : (s : State) (c : ℕ) → EndsWell (step default_config s c)
step-end st.StartRecord c = start_record-end c
step-end st.StartField c = start_field-end c
step-end st.InField c = in_field-end c
step-end st.InQuoted c = either (c == 34) (st.AfterQuote, act.Skip) (st.InQuoted, act.Copy) (goes_on st.AfterQuote act.Skip refl) (goes_on st.InQuoted act.Copy refl)
step-end st.InEscape c = goes_on st.InQuoted act.Copy refl
step-end st.AfterQuote c = either (c == 34) (st.InQuoted, act.Copy) _ (goes_on st.InQuoted act.Copy refl) (in_field-end c)
step-end st.InComment c = either (c == 10) (st.StartRecord, act.Skip) (st.InComment, act.Skip) (goes_on st.StartRecord act.Skip refl) (goes_on st.InComment act.Skip refl)
step-end st.AfterCr c = either (c == 10) (st.StartRecord, act.Skip) _ (goes_on st.StartRecord act.Skip refl) (start_record-end c)

-- the state after a record ends nothing, and no byte is added; from such a state a byte is taken
pub next-facts : (s : State) (fields : List (List ℕ)) (here xs : List ℕ) (p : Read) → next_record default_config s fields here xs ≡ Some p
    → (ends_at_end p.1 ≡ false) × (length p.2 ≤ length xs) × (ends_at_end s ≡ false → length p.2 + 1 ≤ length xs)
unfolding next_record
next-facts s fields here [] p e = by (ends_at_end s) e
  where
    q : Read
    q = (fields ++ (here ∷ []), st.StartRecord, [])

    by : (b : Bool) → cond b (Some q) None ≡ Some p → (ends_at_end p.1 ≡ false) × (length p.2 ≤ 0) × (b ≡ false → length p.2 + 1 ≤ 0)
    by true f = let same : q ≡ p = cc in rw (← same) (refl, omega arith, λ t. absurd (false≢true (sym t)))
    by false f = absurd (cc)
next-facts s fields here (c ∷ xs) p e =
    by (next-facts (step default_config s c).0 (fields_after (step default_config s c).1 fields here) (field_after (step default_config s c).1 c here) xs p) (is_end (step default_config s c).1) refl e
  where
    q : Read
    q = (fields_after (step default_config s c).1 fields here, (step default_config s c).0, xs)

    next : Option Read
    next = next_record default_config (step default_config s c).0 (fields_after (step default_config s c).1 fields here) (field_after (step default_config s c).1 c here) xs

    by : (next ≡ Some p → (ends_at_end p.1 ≡ false) × (length p.2 ≤ length xs) × (ends_at_end (step default_config s c).0 ≡ false → length p.2 + 1 ≤ length xs))
        → (b : Bool) → is_end (step default_config s c).1 ≡ b → cond b (Some q) next ≡ Some p
        → (ends_at_end p.1 ≡ false) × (length p.2 ≤ suc (length xs)) × (ends_at_end s ≡ false → length p.2 + 1 ≤ suc (length xs))
    by more true end f = let same : q ≡ p = cc in rw (← same) (step-end s c end, omega arith, λ t. omega arith)
    by more false end f = let rest = more f in (rest.0, omega arith, λ t. omega arith)

-- more turns than bytes find nothing more
records_from-more : (n m : ℕ) (s : State) (xs : List ℕ) → ends_at_end s ≡ false → length xs < n → length xs < m → records_from default_config n s xs ≡ records_from default_config m s xs
unfolding records_from
records_from-more zero m s xs between p q = absurd (omega arith)
records_from-more (suc n) zero s xs between p q = absurd (omega arith)
records_from-more (suc n) (suc m) s xs between p q = by (λ t ys. records_from-more n m t ys) (next_record default_config s [] [] xs) refl
  where
    by : ((t : State) (ys : List ℕ) → ends_at_end t ≡ false → length ys < n → length ys < m → records_from default_config n t ys ≡ records_from default_config m t ys)
        → (o : Option Read) → next_record default_config s [] [] xs ≡ o → records_next (records_from default_config n) o ≡ records_next (records_from default_config m) o
    by more None e = refl
    by more (Some r) e = let facts = next-facts s [] [] xs r e in let shorter = facts.2 between in
        ap (λ l. r.0 ∷ l) (more r.1 r.2 facts.0 (omega arith) (omega arith))

-- a record, and then those of the rest
pub records_from-next : (s : State) (xs : List ℕ) (r : Read) → ends_at_end s ≡ false → next_record default_config s [] [] xs ≡ Some r
    → records_from default_config (length xs + 1) s xs ≡ r.0 ∷ records_from default_config (length r.2 + 1) r.1 r.2
unfolding records_from
records_from-next s xs r between e =
    let facts = next-facts s [] [] xs r e in
    let shorter = facts.2 between in
    rw (add-one, e) (ap (λ l. r.0 ∷ l) (records_from-more (length xs) (length r.2 + 1) r.1 r.2 facts.0 (omega arith) (omega arith)))

-- no record
pub records_from-none : (s : State) (xs : List ℕ) → next_record default_config s [] [] xs ≡ None → records_from default_config (length xs + 1) s xs ≡ []
unfolding records_from
records_from-none s xs e = rw (add-one, e) refl

-- a record takes a byte at least
pub length-records_from : (n : ℕ) (s : State) (xs : List ℕ) → ends_at_end s ≡ false → length (records_from default_config n s xs) ≤ length xs
unfolding records_from
length-records_from zero s xs between = omega arith
length-records_from (suc n) s xs between = by (λ t ys. length-records_from n t ys) (next_record default_config s [] [] xs) refl
  where
    by : ((t : State) (ys : List ℕ) → ends_at_end t ≡ false → length (records_from default_config n t ys) ≤ length ys)
        → (o : Option Read) → next_record default_config s [] [] xs ≡ o → length (records_next (records_from default_config n) o) ≤ length xs
    by more None e = omega arith
    by more (Some r) e = let facts = next-facts s [] [] xs r e in let shorter = facts.2 between in
        let rest = more r.1 r.2 facts.0 in omega arith

pub length-strip_bom : (text : List ℕ) → length (strip_bom text) ≤ length text
unfolding strip_bom
length-strip_bom [] = omega arith
length-strip_bom (a ∷ []) = omega arith
length-strip_bom (a ∷ b ∷ []) = omega arith
length-strip_bom (a ∷ b ∷ c ∷ rest) = by (is_bom a b c)
  where
    by : (m : Bool) → length (cond m rest (a ∷ b ∷ c ∷ rest)) ≤ length (a ∷ b ∷ c ∷ rest)
    by true = omega arith
    by false = omega arith
