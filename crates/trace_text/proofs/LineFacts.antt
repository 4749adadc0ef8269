-- Plain fields, as the machine that reads comma separated values takes them: a field at a time.
use Rattle.std.proofs.Common.{◌≡◌, ◌≢◌, ℕ, List, [], ◌∷◌, ◌++◌, length, Bool, true, false, cond, Option, Some, None, refl, sym, ap, ◌∙◌, arith, append-nil}
use Rattle.std.specs.Prelude.{◌==◌, ◌||◌, not}
use Rattle.std.specs.List.{list_all}
use Rattle.std.specs.Char.{is_ascii_digit}
use Rattle.std.proofs.lemmas.Bool.{cond-true, false≢true, and_parts}
use Rattle.std.proofs.lemmas.List.{append_assoc}
use Rattle.std.proofs.lemmas.Bool.Decides.{nat_tests}
use Rattle.csv.specs.Machine.{Read, next_record, step, in_field, start_field, is_end, ends_at_end, fields_after, field_after}
use Rattle.csv.specs.Reading.{default_config, records_from, strip_bom, is_bom}
use Rattle.csv.specs.declared.parser.State.{State}
use Rattle.csv.specs.declared.parser.State.TheVariants as st
use Rattle.csv.specs.declared.parser.Action.{Action}
use Rattle.csv.specs.declared.parser.Action.TheVariants as act
use Rattle.trace_text.specs.Fields.{Record, is_number, number_of}
use Rattle.trace_text.specs.Lines.{is_plain, begins_blank, records_in, IsAskRow}
use Rattle.trace_text.specs.declared.plain_ask.PlainAsk.{PlainAsk}
use Rattle.trace_text.proofs.CsvFacts.{records_from-next}

-- what a byte leads to
abbrev pub after : Record → List ℕ → ℕ → List ℕ → State × Action → Option Read
after fields here c text r = cond (is_end r.1) (Some (fields_after r.1 fields here, r.0, text)) (next_record default_config r.0 (fields_after r.1 fields here) (field_after r.1 c here) text)

pub one-byte : (s : State) (fields : Record) (here : List ℕ) (c : ℕ) (text : List ℕ) → next_record default_config s fields here (c ∷ text) ≡ after fields here c text (step default_config s c)
unfolding next_record
one-byte s fields here c text = refl

-- a plain byte joins its field
plain-choice : {A : Type 0} (comma quote feed return : Bool) (x y z : A) → not (comma || quote || feed || return) ≡ true → cond comma x (cond (return || feed) y z) ≡ z
plain-choice true quote feed return x y z plain = absurd (false≢true plain)
plain-choice false true feed return x y z plain = absurd (false≢true plain)
plain-choice false false true return x y z plain = absurd (false≢true plain)
plain-choice false false false true x y z plain = absurd (false≢true plain)
plain-choice false false false false x y z plain = refl

no-quote : {A : Type 0} (comma quote feed return : Bool) (x y : A) → not (comma || quote || feed || return) ≡ true → cond quote x y ≡ y
no-quote true quote feed return x y plain = absurd (false≢true plain)
no-quote false true feed return x y plain = absurd (false≢true plain)
no-quote false false feed return x y plain = refl

in-field : (c : ℕ) → is_plain c ≡ true → in_field default_config c ≡ (st.InField, act.Copy)
in-field c plain = plain-choice (c == 44) (c == 34) (c == 10) (c == 13) _ _ _ plain

pub start-field : (c : ℕ) → is_plain c ≡ true → start_field default_config c ≡ (st.InField, act.Copy)
start-field c plain = no-quote (c == 44) (c == 34) (c == 10) (c == 13) _ _ plain ∙ in-field c plain

pub more-bytes : (fields : Record) (here field text : List ℕ) → list_all is_plain field ≡ true → next_record default_config st.InField fields here (field ++ text) ≡ next_record default_config st.InField fields (here ++ field) text
more-bytes fields here [] text plain = ap (λ h. next_record default_config st.InField fields h text) (sym (append-nil here))
more-bytes fields here (c ∷ field) text plain =
    let p = and_parts (is_plain c) (list_all is_plain field) plain in
    one-byte st.InField fields here c (field ++ text) ∙ ap (after fields here c (field ++ text)) (in-field c p.0) ∙ more-bytes fields (here ++ c ∷ []) field text p.1
    ∙ ap (λ h. next_record default_config st.InField fields h text) (append_assoc here (c ∷ []) field)

-- a field and the comma after it
pub field-comma : (fields : Record) (field text : List ℕ) → list_all is_plain field ≡ true
    → next_record default_config st.StartField fields [] (field ++ 44 ∷ text) ≡ next_record default_config st.StartField (fields ++ field ∷ []) [] text
unfolding next_record
field-comma fields [] text plain = refl
field-comma fields (c ∷ field) text plain =
    let p = and_parts (is_plain c) (list_all is_plain field) plain in
    one-byte st.StartField fields [] c (field ++ 44 ∷ text) ∙ ap (after fields [] c (field ++ 44 ∷ text)) (start-field c p.0) ∙ more-bytes fields (c ∷ []) field (44 ∷ text) p.1

-- a record begins as its first field does
pub begins-field : (text : List ℕ) → begins_blank text ≡ false → next_record default_config st.StartRecord [] [] text ≡ next_record default_config st.StartField [] [] text
begins-field [] blank = absurd (false≢true (sym blank))
begins-field (c ∷ text) blank =
    one-byte st.StartRecord [] [] c text ∙ ap (after [] [] c text) (by (c == 10) (c == 13) _ _ blank) ∙ sym (one-byte st.StartField [] [] c text)
  where
    by : {A : Type 0} (feed return : Bool) (x y : A) → (feed || return) ≡ false → cond (return || feed) x y ≡ y
    by true return x y e = absurd (false≢true (sym e))
    by false true x y e = absurd (false≢true (sym e))
    by false false x y e = refl

-- a text that goes on begins as it does
pub begins-on : (text more : List ℕ) → begins_blank text ≡ false → begins_blank (text ++ more) ≡ false
begins-on [] more blank = absurd (false≢true (sym blank))
begins-on (c ∷ text) more blank = blank

-- a record, and then those of the rest
pub record-more : (text rest : List ℕ) (fields : Record) → next_record default_config st.StartRecord [] [] text ≡ Some (fields, st.StartRecord, rest) → records_in text ≡ fields ∷ records_in rest
record-more text rest fields e = records_from-next st.StartRecord text (fields, st.StartRecord, rest) refl e

-- the digits of a number are plain
digits-plain : (digits : List ℕ) → list_all is_ascii_digit digits ≡ true → list_all is_plain digits ≡ true
digits-plain [] all = refl
digits-plain (c ∷ digits) all =
    let p = and_parts (is_ascii_digit c) (list_all is_ascii_digit digits) all in
    let digit = p.0 in
    let here : is_plain c ≡ true = grind (arith, nat_tests) in
    let rest = digits-plain digits p.1 in
    rw (here, rest) refl

pub number-plain : (digits : List ℕ) → is_number digits ≡ true → list_all is_plain digits ≡ true
unfolding is_number
number-plain digits number = digits-plain digits (and_parts _ (list_all is_ascii_digit digits) (and_parts _ _ number).0).1

-- the fields of an ask
pub ask-fields : (ask : PlainAsk) (a b c d : List ℕ) → is_number a ≡ true → is_number b ≡ true → is_number c ≡ true → is_number d ≡ true
    → ask.round ≡ number_of a → ask.src ≡ number_of b → ask.dst ≡ number_of c → ask.slots ≡ number_of d
    → IsAskRow ask ((97 ∷ 115 ∷ 107 ∷ []) ∷ a ∷ b ∷ c ∷ d ∷ [])
ask-fields ask a b c d p q r s e f g h = record {
  named = refl;
  no_net = refl;
  whole = refl;
  readable = rw (p, q, r, s) refl;
  row = rw (e, f, g, h) refl;
}

pub name-field : (text : List ℕ) → next_record default_config st.StartRecord [] [] (97 ∷ 115 ∷ 107 ∷ 44 ∷ text) ≡ next_record default_config st.StartField ((97 ∷ 115 ∷ 107 ∷ []) ∷ []) [] text
unfolding next_record
name-field text = refl

-- a text with a byte order mark, and one without
pub marked : (text rest : List ℕ) → text ≡ 239 ∷ 187 ∷ 191 ∷ rest → rest ≡ strip_bom text
unfolding strip_bom
marked text rest e = rw e refl

pub unmarked : (text : List ℕ) → ((rest : List ℕ) → text ≢ 239 ∷ 187 ∷ 191 ∷ rest) → text ≡ strip_bom text
unfolding strip_bom
unmarked [] other = refl
unmarked (a ∷ []) other = refl
unmarked (a ∷ b ∷ []) other = refl
unmarked (a ∷ b ∷ c ∷ rest) other = by (is_bom a b c) refl
  where
    by : (m : Bool) → is_bom a b c ≡ m → a ∷ b ∷ c ∷ rest ≡ cond m rest (a ∷ b ∷ c ∷ rest)
    by true e =
        let first : a ≡ 239 = grind (arith, nat_tests) in
        let second : b ≡ 187 = grind (arith, nat_tests) in
        let third : c ≡ 191 = grind (arith, nat_tests) in
        absurd (other rest (rw (first, second, third) refl))
    by false e = refl

-- a text of no bytes has no record
pub none-in-empty : (text : List ℕ) → (length text == 0) ≡ true → records_in text ≡ []
unfolding records_from next_record
none-in-empty [] empty = refl
none-in-empty (c ∷ text) empty = absurd (grind (arith, nat_tests))

-- the last field of a text that ends with no line feed
at-end : (s : State) (fields : Record) (here : List ℕ) → ends_at_end s ≡ true → next_record default_config s fields here [] ≡ Some (fields ++ here ∷ [], st.StartRecord, [])
unfolding next_record
at-end s fields here ends = cond-true (ends_at_end s) (Some (fields ++ (here ∷ []), st.StartRecord, [])) None ends

pub field-end : (fields : Record) (field : List ℕ) → list_all is_plain field ≡ true → next_record default_config st.StartField fields [] field ≡ Some (fields ++ field ∷ [], st.StartRecord, [])
field-end fields [] plain = at-end st.StartField fields [] refl
field-end fields (c ∷ field) plain =
    let p = and_parts (is_plain c) (list_all is_plain field) plain in
    one-byte st.StartField fields [] c field ∙ (ap (after fields [] c field) (start-field c p.0)
    ∙ (ap (next_record default_config st.InField fields (c ∷ [])) (sym (append-nil field)) ∙ (more-bytes fields (c ∷ []) field [] p.1 ∙ at-end st.InField fields (c ∷ field) refl)))
