-- What a reader of comma separated values finds in a front of a text it finds in the text.
use Rattle.std.proofs.Common.{◌≡◌, ◌≢◌, ℕ, zero, suc, ◌+◌, ◌<◌, ◌≤◌, List, [], ◌∷◌, ◌++◌, length, get_or, drop, Bool, true, false, cond, Option, Some, None, refl, sym, ap, subst, ◌∙◌, ◌⊎◌, inl, inr, arith, append-nil, length-append}
use Rattle.std.specs.Prelude.{◌==◌, ◌||◌}
use Rattle.std.specs.Bool.{MatchBool}
use Rattle.std.proofs.Math.Seq.{get_or-append_seam}
use Rattle.std.proofs.lemmas.Bool.{false≢true}
use Rattle.std.proofs.lemmas.List.{append_assoc, take-append-le}
use Rattle.std.proofs.lemmas.Bool.Decides.{nat_tests}
use Rattle.csv.specs.Machine.{Read, next_record, step, in_field, start_field, start_record, is_end, ends_at_end, fields_after, field_after}
use Rattle.csv.specs.Reading.{default_config, records_from}
use Rattle.csv.specs.declared.parser.State.{State}
use Rattle.csv.specs.declared.parser.State.TheVariants as st
use Rattle.csv.specs.declared.parser.Action.{Action}
use Rattle.csv.specs.declared.parser.Action.TheVariants as act
use Rattle.trace_text.specs.Fields.{Record, cut}
use Rattle.trace_text.specs.Lines.{BeginsLong, EndsLine, Finds, IsClosed, ReadAlike, begins_blank, ends_line, records_in}
use Rattle.trace_text.specs.declared.records.Found.{Found}
use Rattle.trace_text.specs.declared.records.Found.TheVariants as found
use Rattle.trace_text.proofs.CsvFacts.{next-facts, records_from-next, records_from-none}
use Rattle.trace_text.proofs.LineFacts.{after, one-byte}

-- the states that the default settings reach, and those within a record
abbrev pub is_reached : State → Bool
is_reached st.InComment = false
is_reached st.InEscape = false
is_reached s = true

in-field-reached : (c : ℕ) → is_reached (in_field default_config c).0 ≡ true
in-field-reached c = by (c == 44) (c == 13) (c == 10)
  where
    by : (comma return feed : Bool) → is_reached (cond {A = State × Action} comma (st.StartField, act.EndField) (cond (return || feed) (cond return st.AfterCr st.StartRecord, act.EndRecord) (st.InField, act.Copy))).0 ≡ true
    by true return feed = refl
    by false true feed = refl
    by false false true = refl
    by false false false = refl

-- one of two steps
either-reached : (test : Bool) (one other : State × Action) → is_reached one.0 ≡ true → is_reached other.0 ≡ true → is_reached (cond {A = State × Action} test one other).0 ≡ true
either-reached true one other e f = e
either-reached false one other e f = f

start-field-reached : (c : ℕ) → is_reached (start_field default_config c).0 ≡ true
start-field-reached c = either-reached (c == 34) (st.InQuoted, act.Skip) (in_field default_config c) refl (in-field-reached c)

start-record-reached : (c : ℕ) → is_reached (start_record default_config c).0 ≡ true
start-record-reached c = either-reached ((c == 13) || (c == 10)) (st.StartRecord, act.Skip) (start_field default_config c) refl (start-field-reached c)

step-reached : (s : State) (c : ℕ) → is_reached s ≡ true → is_reached (step default_config s c).0 ≡ true
step-reached st.StartRecord c r = start-record-reached c
step-reached st.StartField c r = start-field-reached c
step-reached st.InField c r = in-field-reached c
step-reached st.InQuoted c r = either-reached (c == 34) (st.AfterQuote, act.Skip) (st.InQuoted, act.Copy) refl refl
step-reached st.AfterQuote c r = either-reached (c == 34) (st.InQuoted, act.Copy) (in_field default_config c) refl (in-field-reached c)
step-reached st.InEscape c r = absurd (false≢true r)
step-reached st.InComment c r = absurd (false≢true r)
step-reached st.AfterCr c r = either-reached (c == 10) (st.StartRecord, act.Skip) (start_record default_config c) refl (start-record-reached c)

-- what no byte more leads to
at-end : (s : State) (fields : Record) (here : List ℕ) → next_record default_config s fields here [] ≡ cond (ends_at_end s) (Some (fields ++ here ∷ [], st.StartRecord, [])) None
unfolding next_record
at-end s fields here = refl

-- a byte ends the record, or leads into a record
abbrev Goes : State × Action → Type 0
Goes r = (is_end r.1 ≡ true) ⊎ (ends_at_end r.0 ≡ true)

in-field-goes : (c : ℕ) → Goes (in_field default_config c)
in-field-goes c = by (c == 44) (c == 13) (c == 10)
  where
    by : (comma return feed : Bool) → Goes (cond {A = State × Action} comma (st.StartField, act.EndField) (cond (return || feed) (cond return st.AfterCr st.StartRecord, act.EndRecord) (st.InField, act.Copy)))
    by true return feed = inr refl
    by false true feed = inl refl
    by false false true = inl refl
    by false false false = inr refl

quote-goes : (c : ℕ) (s : State) (a : Action) (r : State × Action) → ends_at_end s ≡ true → Goes r → Goes (cond (c == 34) (s, a) r)
quote-goes c s a r e goes = by (c == 34)
  where
    by : (quote : Bool) → Goes (cond quote (s, a) r)
    by true = inr e
    by false = goes

step-within : (s : State) (c : ℕ) → is_reached s ≡ true → ends_at_end s ≡ true → Goes (step default_config s c)
step-within st.StartRecord c r e = absurd (false≢true e)
step-within st.StartField c r e = quote-goes c st.InQuoted act.Skip (in_field default_config c) refl (in-field-goes c)
step-within st.InField c r e = in-field-goes c
step-within st.InQuoted c r e = quote-goes c st.AfterQuote act.Skip (st.InQuoted, act.Copy) refl (inr refl)
step-within st.AfterQuote c r e = quote-goes c st.InQuoted act.Copy (in_field default_config c) refl (in-field-goes c)
step-within st.InEscape c r e = absurd (false≢true r)
step-within st.InComment c r e = absurd (false≢true r)
step-within st.AfterCr c r e = absurd (false≢true e)

-- between two records a byte leads into one, or is skipped
line-goes : (end : Bool) (r : State × Action) → Goes r → Goes (cond end (st.StartRecord, act.Skip) r) ⊎ ((cond {A = State × Action} end (st.StartRecord, act.Skip) r).1 ≡ act.Skip)
line-goes true r goes = inr refl
line-goes false r goes = inl goes

start-record-goes : (c : ℕ) → Goes (start_record default_config c) ⊎ ((start_record default_config c).1 ≡ act.Skip)
start-record-goes c = line-goes ((c == 13) || (c == 10)) (start_field default_config c) (quote-goes c st.InQuoted act.Skip (in_field default_config c) refl (in-field-goes c))

step-goes : (s : State) (c : ℕ) → is_reached s ≡ true → Goes (step default_config s c) ⊎ ((step default_config s c).1 ≡ act.Skip)
step-goes st.StartRecord c r = start-record-goes c
step-goes st.StartField c r = inl (step-within st.StartField c refl refl)
step-goes st.InField c r = inl (step-within st.InField c refl refl)
step-goes st.InQuoted c r = inl (step-within st.InQuoted c refl refl)
step-goes st.AfterQuote c r = inl (step-within st.AfterQuote c refl refl)
step-goes st.InEscape c r = absurd (false≢true r)
step-goes st.InComment c r = absurd (false≢true r)
step-goes st.AfterCr c r = by (c == 10) (start_record default_config c) (start-record-goes c)
  where
    by : (feed : Bool) (r : State × Action) → Goes r ⊎ (r.1 ≡ act.Skip) → Goes (cond feed (st.StartRecord, act.Skip) r) ⊎ ((cond {A = State × Action} feed (st.StartRecord, act.Skip) r).1 ≡ act.Skip)
    by true r e = inr refl
    by false r e = e

-- within a record there is one, and it keeps the fields before
abbrev Keeps : Record → Option Read → Type 0
Keeps fields o = (w : Read) × (o ≡ Some w) × (more : Record) × (w.0 ≡ fields ++ more)

fields-more : (a : Action) (fields : Record) (here : List ℕ) → (more : Record) × (fields_after a fields here ≡ fields ++ more)
fields-more act.EndField fields here = (here ∷ [], refl)
fields-more act.Skip fields here = ([], sym (append-nil fields))
fields-more act.Copy fields here = ([], sym (append-nil fields))
fields-more act.EndRecord fields here = (here ∷ [], refl)

within : (s : State) (fields : Record) (here text : List ℕ) → is_reached s ≡ true → ends_at_end s ≡ true → Keeps fields (next_record default_config s fields here text)
within s fields here [] r e = ((fields ++ here ∷ [], st.StartRecord, []), at-end s fields here ∙ ap (λ b. cond b (Some (fields ++ here ∷ [], st.StartRecord, [])) None) e, here ∷ [], refl)
within s fields here (c ∷ text) r e =
    by (is_end (step default_config s c).1) refl (step-within s c r e)
    (λ t. within (step default_config s c).0 (fields_after (step default_config s c).1 fields here) (field_after (step default_config s c).1 c here) text (step-reached s c r) t)
  where
    q : Read
    q = (fields_after (step default_config s c).1 fields here, (step default_config s c).0, text)

    next : Option Read
    next = next_record default_config (step default_config s c).0 (fields_after (step default_config s c).1 fields here) (field_after (step default_config s c).1 c here) text

    one : next_record default_config s fields here (c ∷ text) ≡ cond (is_end (step default_config s c).1) (Some q) next
    one = one-byte s fields here c text

    kept : (more : Record) × (fields_after (step default_config s c).1 fields here ≡ fields ++ more)
    kept = fields-more (step default_config s c).1 fields here

    by : (b : Bool) → is_end (step default_config s c).1 ≡ b → Goes (step default_config s c)
        → (ends_at_end (step default_config s c).0 ≡ true → Keeps (fields_after (step default_config s c).1 fields here) next) → Keeps fields (next_record default_config s fields here (c ∷ text))
    by true end goes rest = (q, one ∙ ap (λ b. cond b (Some q) next) end, kept.0, kept.1)
    by false end (inl t) rest = absurd (false≢true (sym end ∙ t))
    by false end (inr t) rest =
        let (w, is, more, same) = rest t in
        (w, one ∙ ap (λ b. cond b (Some q) next) end ∙ is, kept.0 ++ more, same ∙ ap (λ (l : Record). l ++ more) kept.1 ∙ append_assoc fields kept.0 more)

-- a text that is empty or ends with this byte
abbrev EndsWith : ℕ → List ℕ → Type 0
EndsWith e text = (text ≡ []) ⊎ ((body : List ℕ) × (text ≡ body ++ e ∷ []))

-- how a text that ends with this byte, and a text behind it, read: the record ends in the first; or it has none and the second goes on from between
-- two records; or its last field has the byte last
abbrev Meets : State → Record → List ℕ → List ℕ → ℕ → List ℕ → Type 0
Meets s fields here text e rest =
    ((r : Read) × (next_record default_config s fields here text ≡ Some r) × (next_record default_config s fields here (text ++ rest) ≡ Some (r.0, r.1, r.2 ++ rest)) × EndsWith e r.2)
    ⊎ ((next_record default_config s fields here text ≡ None) × (next_record default_config s fields here (text ++ rest) ≡ next_record default_config st.StartRecord fields here rest))
    ⊎ ((others : Record) × (body : List ℕ) × (next_record default_config s fields here text ≡ Some (others ++ (body ++ e ∷ []) ∷ [], st.StartRecord, [])))

-- the state after a byte that ends a record reads on as between two records
after-return : (fields : Record) (here text : List ℕ) → next_record default_config st.AfterCr fields here text ≡ next_record default_config st.StartRecord fields here text
after-return fields here [] = at-end st.AfterCr fields here ∙ sym (at-end st.StartRecord fields here)
after-return fields here (c ∷ text) = one-byte st.AfterCr fields here c text ∙ ap (after fields here c text) (by (c == 10) (c == 13) _) ∙ sym (one-byte st.StartRecord fields here c text)
  where
    by : (feed return : Bool) (r : State × Action) → cond feed (st.StartRecord, act.Skip) (cond (return || feed) (st.StartRecord, act.Skip) r) ≡ cond (return || feed) (st.StartRecord, act.Skip) r
    by true true r = refl
    by true false r = refl
    by false return r = refl

-- the last byte
ended : (fields : Record) (here rest : List ℕ) (e : ℕ) (s t : State) → step default_config s e ≡ (t, act.EndRecord) → Meets s fields here (e ∷ []) e rest
ended fields here rest e s t is = inl (
  (fields ++ here ∷ [], t, []),
  one-byte s fields here e [] ∙ ap (after fields here e []) is,
  one-byte s fields here e rest ∙ ap (after fields here e rest) is,
  inl refl,
)

passed : (fields : Record) (here rest : List ℕ) (e : ℕ) (s : State) → step default_config s e ≡ (st.StartRecord, act.Skip) → Meets s fields here (e ∷ []) e rest
passed fields here rest e s is = inr (inl (
  one-byte s fields here e [] ∙ ap (after fields here e []) is ∙ at-end st.StartRecord fields here,
  one-byte s fields here e rest ∙ ap (after fields here e rest) is,
))

joined : (fields : Record) (here rest : List ℕ) (e : ℕ) (s : State) → step default_config s e ≡ (st.InQuoted, act.Copy) → Meets s fields here (e ∷ []) e rest
joined fields here rest e s is = inr (inr (fields, here, one-byte s fields here e [] ∙ ap (after fields here e []) is ∙ at-end st.InQuoted fields (here ++ e ∷ [])))

last-feed : (s : State) (fields : Record) (here rest : List ℕ) → is_reached s ≡ true → Meets s fields here (10 ∷ []) 10 rest
last-feed st.StartRecord fields here rest r = passed fields here rest 10 st.StartRecord refl
last-feed st.StartField fields here rest r = ended fields here rest 10 st.StartField st.StartRecord refl
last-feed st.InField fields here rest r = ended fields here rest 10 st.InField st.StartRecord refl
last-feed st.InQuoted fields here rest r = joined fields here rest 10 st.InQuoted refl
last-feed st.AfterQuote fields here rest r = ended fields here rest 10 st.AfterQuote st.StartRecord refl
last-feed st.InEscape fields here rest r = absurd (false≢true r)
last-feed st.InComment fields here rest r = absurd (false≢true r)
last-feed st.AfterCr fields here rest r = passed fields here rest 10 st.AfterCr refl

last-return : (s : State) (fields : Record) (here rest : List ℕ) → is_reached s ≡ true → Meets s fields here (13 ∷ []) 13 rest
last-return st.StartRecord fields here rest r = passed fields here rest 13 st.StartRecord refl
last-return st.StartField fields here rest r = ended fields here rest 13 st.StartField st.AfterCr refl
last-return st.InField fields here rest r = ended fields here rest 13 st.InField st.AfterCr refl
last-return st.InQuoted fields here rest r = joined fields here rest 13 st.InQuoted refl
last-return st.AfterQuote fields here rest r = ended fields here rest 13 st.AfterQuote st.AfterCr refl
last-return st.InEscape fields here rest r = absurd (false≢true r)
last-return st.InComment fields here rest r = absurd (false≢true r)
last-return st.AfterCr fields here rest r = passed fields here rest 13 st.AfterCr refl

last-byte : (s : State) (fields : Record) (here rest : List ℕ) (e : ℕ) → ends_line e ≡ true → is_reached s ≡ true → Meets s fields here (e ∷ []) e rest
last-byte s fields here rest e line r = by (e == 10) refl line
  where
    by : (feed : Bool) → (e == 10) ≡ feed → (feed || (e == 13)) ≡ true → Meets s fields here (e ∷ []) e rest
    by true f l = let same : e ≡ 10 = grind (arith, nat_tests) in subst (λ k. Meets s fields here (k ∷ []) k rest) (sym same) (last-feed s fields here rest r)
    by false f l = let same : e ≡ 13 = grind (arith, nat_tests) in subst (λ k. Meets s fields here (k ∷ []) k rest) (sym same) (last-return s fields here rest r)

meets : (s : State) (fields : Record) (here body : List ℕ) (e : ℕ) (rest : List ℕ) → ends_line e ≡ true → is_reached s ≡ true → Meets s fields here (body ++ e ∷ []) e rest
meets s fields here [] e rest line r = last-byte s fields here rest e line r
meets s fields here (c ∷ body) e rest line r =
    by (is_end (step default_config s c).1) refl
    (meets (step default_config s c).0 (fields_after (step default_config s c).1 fields here) (field_after (step default_config s c).1 c here) body e rest line (step-reached s c r))
  where
    text : List ℕ
    text = body ++ e ∷ []

    next : List ℕ → Option Read
    next xs = next_record default_config (step default_config s c).0 (fields_after (step default_config s c).1 fields here) (field_after (step default_config s c).1 c here) xs

    q : List ℕ → Read
    q xs = (fields_after (step default_config s c).1 fields here, (step default_config s c).0, xs)

    one : (xs : List ℕ) → next_record default_config s fields here (c ∷ xs) ≡ cond (is_end (step default_config s c).1) (Some (q xs)) (next xs)
    one xs = one-byte s fields here c xs

    -- the record that is found is none
    no-record : {A : Type 0} → Keeps (fields_after (step default_config s c).1 fields here) (next text) → next text ≡ None → A
    no-record (w, is, more, same) none = absurd (cc)

    none : Goes (step default_config s c) ⊎ ((step default_config s c).1 ≡ act.Skip) → is_end (step default_config s c).1 ≡ false
        → (next text ≡ None) × (next (text ++ rest) ≡ next_record default_config st.StartRecord (fields_after (step default_config s c).1 fields here) (field_after (step default_config s c).1 c here) rest)
        → Meets s fields here (c ∷ text) e rest
    none (inl (inl t)) end m = absurd (false≢true (sym end ∙ t))
    none (inl (inr t)) end m = no-record (within (step default_config s c).0 _ _ text (step-reached s c r) t) m.0
    none (inr skip) end m = inr (inl (
      one text ∙ ap (λ b. cond b (Some (q text)) (next text)) end ∙ m.0,
      one (text ++ rest) ∙ ap (λ b. cond b (Some (q (text ++ rest))) (next (text ++ rest))) end ∙ m.1
          ∙ ap (λ a. next_record default_config st.StartRecord (fields_after a fields here) (field_after a c here) rest) skip,
    ))

    by : (b : Bool) → is_end (step default_config s c).1 ≡ b
        → Meets (step default_config s c).0 (fields_after (step default_config s c).1 fields here) (field_after (step default_config s c).1 c here) text e rest
        → Meets s fields here (c ∷ text) e rest
    by true end m = inl (q text, one text ∙ ap (λ b. cond b (Some (q text)) (next text)) end, one (text ++ rest) ∙ ap (λ b. cond b (Some (q (text ++ rest))) (next (text ++ rest))) end, inr (body, refl))
    by false end (inl m) = inl (m.0, one text ∙ ap (λ b. cond b (Some (q text)) (next text)) end ∙ m.1, one (text ++ rest) ∙ ap (λ b. cond b (Some (q (text ++ rest))) (next (text ++ rest))) end ∙ m.2, m.3)
    by false end (inr (inl m)) = none (step-goes s c r) end m
    by false end (inr (inr m)) = inr (inr (m.0, m.1, one text ∙ ap (λ b. cond b (Some (q text)) (next text)) end ∙ m.2))

-- two texts whose next records are alike have the same records
alike : (s t : State) (xs ys : List ℕ) → ends_at_end s ≡ false → ends_at_end t ≡ false → next_record default_config s [] [] xs ≡ next_record default_config t [] [] ys
    → records_from default_config (length xs + 1) s xs ≡ records_from default_config (length ys + 1) t ys
alike s t xs ys p q same = by (next_record default_config t [] [] ys) refl same
  where
    by : (o : Option Read) → next_record default_config t [] [] ys ≡ o → next_record default_config s [] [] xs ≡ o → records_from default_config (length xs + 1) s xs ≡ records_from default_config (length ys + 1) t ys
    by None e f = records_from-none s xs f ∙ sym (records_from-none t ys e)
    by (Some r) e f = records_from-next s xs r p f ∙ sym (records_from-next t ys r q e)

-- between two records all states read alike
pub between : (s : State) (xs : List ℕ) → is_reached s ≡ true → ends_at_end s ≡ false → records_from default_config (length xs + 1) s xs ≡ records_in xs
between st.StartRecord xs r e = refl
between st.StartField xs r e = absurd (false≢true (sym e))
between st.InField xs r e = absurd (false≢true (sym e))
between st.InQuoted xs r e = absurd (false≢true (sym e))
between st.AfterQuote xs r e = absurd (false≢true (sym e))
between st.InEscape xs r e = absurd (false≢true r)
between st.InComment xs r e = absurd (false≢true r)
between st.AfterCr xs r e = alike st.AfterCr st.StartRecord xs xs refl refl (after-return [] [] xs)

-- the state that a record leaves is one that is reached
reached-next : (s : State) (fields : Record) (here text : List ℕ) (p : Read) → is_reached s ≡ true → next_record default_config s fields here text ≡ Some p → is_reached p.1 ≡ true
reached-next s fields here [] p r e = by (ends_at_end s) (sym (at-end s fields here) ∙ e)
  where
    by : (b : Bool) → cond b (Some (fields ++ here ∷ [], st.StartRecord, [])) None ≡ Some p → is_reached p.1 ≡ true
    by true f = let same : (fields ++ here ∷ [], st.StartRecord, []) ≡ p = cc in subst (λ (q : Read). is_reached q.1 ≡ true) same refl
    by false f = absurd (cc)
reached-next s fields here (c ∷ text) p r e =
    by (reached-next (step default_config s c).0 (fields_after (step default_config s c).1 fields here) (field_after (step default_config s c).1 c here) text p (step-reached s c r))
    (is_end (step default_config s c).1) (sym (one-byte s fields here c text) ∙ e)
  where
    q : Read
    q = (fields_after (step default_config s c).1 fields here, (step default_config s c).0, text)

    next : Option Read
    next = next_record default_config (step default_config s c).0 (fields_after (step default_config s c).1 fields here) (field_after (step default_config s c).1 c here) text

    by : (next ≡ Some p → is_reached p.1 ≡ true) → (b : Bool) → cond b (Some q) next ≡ Some p → is_reached p.1 ≡ true
    by more true f = let same : q ≡ p = cc in subst (λ (q2 : Read). is_reached q2.1 ≡ true) same (step-reached s c r)
    by more false f = more f

-- the records of a text that ends with a line, where the last field does not have the byte last, are the first of each text that begins with it
abbrev pub LastIsClosed : List Record → Type 0
LastIsClosed records = (before : List Record) (others : Record) (body : List ℕ) (e : ℕ) → ends_line e ≡ true → records ≢ before ++ (others ++ (body ++ e ∷ []) ∷ []) ∷ []

closed-rest : (r : Record) (records : List Record) → LastIsClosed (r ∷ records) → LastIsClosed records
closed-rest r records closed before others body e line same = closed (r ∷ before) others body e line (ap (λ l. r ∷ l) same)

joins : (n : ℕ) (s : State) (text : List ℕ) (e : ℕ) (rest : List ℕ) → length text < n → EndsWith e text → ends_line e ≡ true → is_reached s ≡ true → ends_at_end s ≡ false
    → LastIsClosed (records_from default_config (length text + 1) s text)
    → records_from default_config (length (text ++ rest) + 1) s (text ++ rest) ≡ records_from default_config (length text + 1) s text ++ records_in rest
joins zero s text e rest few ends line r b closed = absurd (omega arith)
joins (suc n) s text e rest few (inl none) line r b closed =
    let empty : records_from default_config (length text + 1) s text ≡ [] = rw none (records_from-none s [] (at-end s [] [] ∙ ap (λ k. cond k (Some ([] ++ [] ∷ [], st.StartRecord, [])) None) b)) in
    rw (empty, none) (between s rest r b)
joins (suc n) s text e rest few (inr (body, is)) line r b closed =
    by (λ t ys more ends reached between shut. joins n t ys e rest more ends line reached between shut) (subst (λ t. Meets s [] [] t e rest) (sym is) (meets s [] [] body e rest line r))
  where
    by : ((t : State) (ys : List ℕ) → length ys < n → EndsWith e ys → is_reached t ≡ true → ends_at_end t ≡ false → LastIsClosed (records_from default_config (length ys + 1) t ys)
        → records_from default_config (length (ys ++ rest) + 1) t (ys ++ rest) ≡ records_from default_config (length ys + 1) t ys ++ records_in rest)
        → Meets s [] [] text e rest → records_from default_config (length (text ++ rest) + 1) s (text ++ rest) ≡ records_from default_config (length text + 1) s text ++ records_in rest
    by again (inl (r2, one, two, ends)) =
        let facts = next-facts s [] [] text r2 one in
        let shorter = facts.2 b in
        let here = records_from-next s text r2 b one in
        let there = records_from-next s (text ++ rest) (r2.0, r2.1, r2.2 ++ rest) b two in
        let reached = reached-next s [] [] text r2 r one in
        let more = again r2.1 r2.2 (omega arith) ends reached facts.0 (closed-rest r2.0 _ (subst LastIsClosed here closed)) in
        there ∙ ap (λ l. r2.0 ∷ l) more ∙ ap (λ (l : List Record). l ++ records_in rest) (sym here)
    by again (inr (inl (one, two))) = rw (records_from-none s text one) (alike s st.StartRecord (text ++ rest) rest b refl two)
    by again (inr (inr (others, last, one))) = absurd (closed [] others last e line (records_from-next s text (others ++ (last ++ e ∷ []) ∷ [], st.StartRecord, []) b one
        ∙ ap (λ (l : List Record). (others ++ (last ++ e ∷ []) ∷ []) ∷ l) (records_from-none st.StartRecord [] (at-end st.StartRecord [] []))))

pub front-whole : (front rest : List ℕ) → EndsLine front → LastIsClosed (records_in front) → records_in (front ++ rest) ≡ records_in front ++ records_in rest
front-whole front rest (body, e, is, line) closed = joins (length front + 1) st.StartRecord front e rest (omega arith) (inr (body, is)) line refl refl closed

-- the first record of a text begins with the fields, but the last, of that of a part
long : (s : State) (fields : Record) (here text rest : List ℕ) (p : Read) → is_reached s ≡ true → next_record default_config s fields here text ≡ Some p → 6 < length p.0
    → (w : Read) × (next_record default_config s fields here (text ++ rest) ≡ Some w) × (cut p.0 ≡ cut w.0)
long s fields here [] rest p r e many = by (ends_at_end s) refl (sym (at-end s fields here) ∙ e)
  where
    by : (b : Bool) → ends_at_end s ≡ b → cond b (Some (fields ++ here ∷ [], st.StartRecord, [])) None ≡ Some p → (w : Read) × (next_record default_config s fields here rest ≡ Some w) × (cut p.0 ≡ cut w.0)
    by true t f =
        let same : (fields ++ here ∷ [], st.StartRecord, []) ≡ p = cc in
        let all : fields ++ here ∷ [] ≡ p.0 = ap (λ (q : Read). q.0) same in
        let six : 6 ≤ length fields = omega (arith, many, ap length all, length-append fields (here ∷ [])) in
        let (w, is, more, begins) = within s fields here rest r t in
        (w, is, ap cut (sym all) ∙ take-append-le 6 fields (here ∷ []) six ∙ sym (ap cut begins ∙ take-append-le 6 fields more six))
    by false t f = absurd (cc)
long s fields here (c ∷ text) rest p r e many =
    by (long (step default_config s c).0 (fields_after (step default_config s c).1 fields here) (field_after (step default_config s c).1 c here) text rest p (step-reached s c r))
    (is_end (step default_config s c).1) (sym (one-byte s fields here c text) ∙ e) (one-byte s fields here c (text ++ rest))
  where
    q : List ℕ → Read
    q xs = (fields_after (step default_config s c).1 fields here, (step default_config s c).0, xs)

    next : List ℕ → Option Read
    next xs = next_record default_config (step default_config s c).0 (fields_after (step default_config s c).1 fields here) (field_after (step default_config s c).1 c here) xs

    by : (next text ≡ Some p → 6 < length p.0 → (w : Read) × (next (text ++ rest) ≡ Some w) × (cut p.0 ≡ cut w.0)) → (b : Bool) → cond b (Some (q text)) (next text) ≡ Some p
        → next_record default_config s fields here (c ∷ (text ++ rest)) ≡ cond b (Some (q (text ++ rest))) (next (text ++ rest))
        → (w : Read) × (next_record default_config s fields here (c ∷ (text ++ rest)) ≡ Some w) × (cut p.0 ≡ cut w.0)
    by more true f g = let same : q text ≡ p = cc in (q (text ++ rest), g, ap (λ (q2 : Read). cut q2.0) (sym same))
    by more false f g = let (w, is, begins) = more f many in (w, g ∙ is, begins)

pub part-long : (part rest : List ℕ) (fields : Record) (others : List Record) → records_in part ≡ fields ∷ others → 6 < length fields → BeginsLong (records_in (part ++ rest)) fields
part-long part rest fields others is many = by (next_record default_config st.StartRecord [] [] part) refl
  where
    by : (o : Option Read) → next_record default_config st.StartRecord [] [] part ≡ o → BeginsLong (records_in (part ++ rest)) fields
    by None e = absurd (no (sym is ∙ records_from-none st.StartRecord part e))
      where
        no : fields ∷ others ≡ [] → ⊥
        no same = absurd (cc)
    by (Some p) e =
        let first : p.0 ∷ records_from default_config (length p.2 + 1) p.1 p.2 ≡ fields ∷ others = sym (records_from-next st.StartRecord part p refl e) ∙ is in
        let same : p.0 ≡ fields = cc in
        let (w, found, begins) = long st.StartRecord [] [] part rest p refl e (subst (λ (l : Record). 6 < length l) (sym same) many) in
        (omega arith, records_from default_config (length w.2 + 1) w.1 w.2, (w.0, subst (λ (l : Record). cut l ≡ cut w.0) same begins, records_from-next st.StartRecord (part ++ rest) w refl found))

-- a blank line is no record
pub blank-line : (c : ℕ) (text : List ℕ) → ends_line c ≡ true → records_in text ≡ records_in (c ∷ text)
blank-line c text line = alike st.StartRecord st.StartRecord text (c ∷ text) refl refl (sym (one-byte st.StartRecord [] [] c text ∙ ap (after [] [] c text) (by (c == 10) (c == 13) line (start_field default_config c))))
  where
    by : (feed return : Bool) → (feed || return) ≡ true → (r : State × Action) → cond (return || feed) (st.StartRecord, act.Skip) r ≡ (st.StartRecord, act.Skip)
    by feed true e r = refl
    by true false e r = refl
    by false false e r = absurd (false≢true e)

-- one record more, whose last field is closed
pub last-closed : (given : List Record) (r : Record) → IsClosed r → LastIsClosed (given ++ r ∷ [])
last-closed given r closed before others body e line same =
    let last : Record = others ++ (body ++ e ∷ []) ∷ [] in
    let many : length given ≡ length before = omega (arith, ap length same, length-append given (r ∷ []), length-append before (last ∷ [])) in
    let is : r ≡ last =
    sym (get_or-append_seam given r [] []) ∙ ap (λ (l : List Record). get_or l (length given) []) same ∙ ap (λ k. get_or (before ++ last ∷ []) k []) many ∙ get_or-append_seam before last [] [] in
    closed others body e line is

pub none-closed : LastIsClosed []
none-closed before others body e line same =
    let few = ap length same in
    let many = length-append before ((others ++ (body ++ e ∷ []) ∷ []) ∷ []) in
    omega arith

-- the text behind the end of a line with which it begins reads alike, however it goes on
pub behind-end : (text : List ℕ) → begins_blank text ≡ true → 0 < length text → ReadAlike text (drop 1 text)
behind-end [] blank some = absurd (omega arith)
behind-end (c ∷ text) blank some = λ more. sym (blank-line c (text ++ more) blank)

-- what a reader of a front finds
pub finds-front : (is_found : Bool) (f : Found) (old new : List Record) (fields : Record) (before after : List Record) → MatchBool is_found (f ≡ found.Fields) (f ≡ found.End)
    → MatchBool is_found (old ≡ fields ∷ new) (old ≡ []) → before ≡ old ++ after → (old ≡ [] → before ≡ []) → Finds f before fields (new ++ after)
finds-front true f old new fields before after is read all none = rw is (fields, refl, all ∙ ap (λ (l : List Record). l ++ after) read)
finds-front false f old new fields before after is read all none = rw is (none read)
