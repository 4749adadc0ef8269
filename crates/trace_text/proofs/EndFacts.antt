-- Fields and the bytes that end them, as the machine that reads comma separated values takes them: plain ones, those between quotes, and those
-- of an ask.
use Rattle.std.proofs.Common.{◌≡◌, ℕ, ◌+◌, ◌-◌, ◌<◌, ◌≤◌, ◌⊎◌, List, [], ◌∷◌, ◌++◌, length, get_or, take, drop, Bool, true, false, cond, Option, Some, refl, sym, ap, subst, ◌∙◌, inl, inr, arith, append-nil, length-append}
use Rattle.std.specs.Prelude.{◌==◌, ◌||◌, not}
use Rattle.std.specs.List.{list_all}
use Rattle.std.proofs.lemmas.Bool.{false≢true, and_parts}
use Rattle.std.proofs.lemmas.List.{append_assoc, drop_more, take-append-drop, take_rest}
use Rattle.std.proofs.lemmas.Bool.Decides.{nat_tests}
use Rattle.csv.specs.Machine.{Read, next_record, step, ends_at_end}
use Rattle.csv.specs.Reading.{default_config}
use Rattle.csv.specs.declared.parser.State.{State}
use Rattle.csv.specs.declared.parser.State.TheVariants as st
use Rattle.csv.specs.declared.parser.Action.{Action}
use Rattle.csv.specs.declared.parser.Action.TheVariants as act
use Rattle.trace_text.specs.Fields.{Record, is_number}
use Rattle.trace_text.specs.Lines.{BeginsWith, is_plain, is_unquoted, ends_field, ends_line, records_in, IsFieldBefore, IsLineBefore, IsNumberBefore, IsLastNumberBefore, IsEndBefore, IsAskBefore, IsAskHead, ReadAlike, head_digits}
use Rattle.trace_text.specs.declared.plain_ask.PlainAsk.{PlainAsk}
use Rattle.trace_text.proofs.CsvFacts.{records_from-next}
use Rattle.trace_text.proofs.LineFacts.{after, begins-field, one-byte, start-field, more-bytes, field-comma, number-plain, ask-fields, name-field}
use Rattle.trace_text.proofs.FrontFacts.{is_reached, between}

-- the record ended here, and this stands behind it
abbrev pub Ended : Record → List ℕ → Option Read → Type 0
Ended fields rest o = (s : State) × (o ≡ Some (fields, s, rest)) × (is_reached s ≡ true) × (ends_at_end s ≡ false)

pub record-ended : (text rest : List ℕ) (fields : Record) → Ended fields rest (next_record default_config st.StartRecord [] [] text) → records_in text ≡ fields ∷ records_in rest
record-ended text rest fields (s, is, reached, outside) = records_from-next st.StartRecord text (fields, s, rest) refl is ∙ ap (λ (l : List Record). fields ∷ l) (between s rest reached outside)

-- what holds of both bytes that end a line
at-ends : (P : ℕ → Type 0) (e : ℕ) → ends_line e ≡ true → P 10 → P 13 → P e
at-ends P e line feed back = by (e == 10) refl line
  where
    by : (f : Bool) → (e == 10) ≡ f → (f || (e == 13)) ≡ true → P e
    by true f l = let same : e ≡ 10 = grind (arith, nat_tests) in subst P (sym same) feed
    by false f l = let same : e ≡ 13 = grind (arith, nat_tests) in subst P (sym same) back

-- a line that ends where a field begins, within one, and behind the quote that closes one
ends-start : (fields : Record) (here text : List ℕ) (e : ℕ) → ends_line e ≡ true → Ended (fields ++ here ∷ []) text (next_record default_config st.StartField fields here (e ∷ text))
unfolding next_record
ends-start fields here text e line =
    at-ends (λ k. Ended (fields ++ here ∷ []) text (next_record default_config st.StartField fields here (k ∷ text))) e line (st.StartRecord, refl, refl, refl) (st.AfterCr, refl, refl, refl)

ends-field : (fields : Record) (here text : List ℕ) (e : ℕ) → ends_line e ≡ true → Ended (fields ++ here ∷ []) text (next_record default_config st.InField fields here (e ∷ text))
unfolding next_record
ends-field fields here text e line =
    at-ends (λ k. Ended (fields ++ here ∷ []) text (next_record default_config st.InField fields here (k ∷ text))) e line (st.StartRecord, refl, refl, refl) (st.AfterCr, refl, refl, refl)

ends-quoted : (fields : Record) (here text : List ℕ) (e : ℕ) → ends_line e ≡ true → Ended (fields ++ here ∷ []) text (next_record default_config st.AfterQuote fields here (e ∷ text))
unfolding next_record
ends-quoted fields here text e line =
    at-ends (λ k. Ended (fields ++ here ∷ []) text (next_record default_config st.AfterQuote fields here (k ∷ text))) e line (st.StartRecord, refl, refl, refl) (st.AfterCr, refl, refl, refl)

-- a plain field that is the last of its line
plain-last : (fields : Record) (field text : List ℕ) (e : ℕ) → list_all is_plain field ≡ true → ends_line e ≡ true
    → Ended (fields ++ field ∷ []) text (next_record default_config st.StartField fields [] (field ++ e ∷ text))
plain-last fields [] text e plain line = ends-start fields [] text e line
plain-last fields (c ∷ field) text e plain line =
    let p = and_parts (is_plain c) (list_all is_plain field) plain in
    let same : next_record default_config st.StartField fields [] (c ∷ (field ++ e ∷ text)) ≡ next_record default_config st.InField fields (c ∷ field) (e ∷ text) =
    one-byte st.StartField fields [] c (field ++ e ∷ text) ∙ ap (after fields [] c (field ++ e ∷ text)) (start-field c p.0) ∙ more-bytes fields (c ∷ []) field (e ∷ text) p.1 in
    subst (Ended (fields ++ (c ∷ field) ∷ []) text) (sym same) (ends-field fields (c ∷ field) text e line)

-- a byte between quotes joins its field
in-quoted : (c : ℕ) → is_unquoted c ≡ true → step default_config st.InQuoted c ≡ (st.InQuoted, act.Copy)
in-quoted c other = by (c == 34) other
  where
    by : (quote : Bool) → not quote ≡ true → cond {A = State × Action} quote (st.AfterQuote, act.Skip) (st.InQuoted, act.Copy) ≡ (st.InQuoted, act.Copy)
    by true q = absurd (false≢true q)
    by false q = refl

quoted-bytes : (fields : Record) (here field text : List ℕ) → list_all is_unquoted field ≡ true → next_record default_config st.InQuoted fields here (field ++ text) ≡ next_record default_config st.InQuoted fields (here ++ field) text
quoted-bytes fields here [] text other = ap (λ h. next_record default_config st.InQuoted fields h text) (sym (append-nil here))
quoted-bytes fields here (c ∷ field) text other =
    let p = and_parts (is_unquoted c) (list_all is_unquoted field) other in
    one-byte st.InQuoted fields here c (field ++ text) ∙ ap (after fields here c (field ++ text)) (in-quoted c p.0) ∙ quoted-bytes fields (here ++ c ∷ []) field text p.1
    ∙ ap (λ h. next_record default_config st.InQuoted fields h text) (append_assoc here (c ∷ []) field)

opens : (fields : Record) (text : List ℕ) → next_record default_config st.StartField fields [] (34 ∷ text) ≡ next_record default_config st.InQuoted fields [] text
unfolding next_record
opens fields text = refl

closes : (fields : Record) (here text : List ℕ) → next_record default_config st.InQuoted fields here (34 ∷ text) ≡ next_record default_config st.AfterQuote fields here text
unfolding next_record
closes fields here text = refl

quoted-comma : (fields : Record) (here text : List ℕ) → next_record default_config st.AfterQuote fields here (44 ∷ text) ≡ next_record default_config st.StartField (fields ++ here ∷ []) [] text
unfolding next_record
quoted-comma fields here text = refl

quoted : (fields : Record) (field text : List ℕ) → list_all is_unquoted field ≡ true
    → next_record default_config st.StartField fields [] (34 ∷ (field ++ 34 ∷ text)) ≡ next_record default_config st.AfterQuote fields field text
quoted fields field text other = opens fields (field ++ 34 ∷ text) ∙ quoted-bytes fields [] field (34 ∷ text) other ∙ closes fields field text

-- the fields of a line, one by one
pub field-more : (fields : Record) (text field rest : List ℕ) → IsFieldBefore text field false rest → next_record default_config st.StartField fields [] text ≡ next_record default_config st.StartField (fields ++ field ∷ []) [] rest
field-more fields text field rest (inl (e, plain, comma, is)) =
    let same : e ≡ 44 = grind (arith, nat_tests) in
    ap (next_record default_config st.StartField fields []) (is ∙ ap (λ k. field ++ k ∷ rest) same) ∙ field-comma fields field rest plain
field-more fields text field rest (inr (behind, opened, (e, other, comma, is))) =
    let same : e ≡ 44 = grind (arith, nat_tests) in
    ap (next_record default_config st.StartField fields []) (opened ∙ ap (λ (l : List ℕ). 34 ∷ l) (is ∙ ap (λ k. field ++ 34 ∷ k ∷ rest) same)) ∙ quoted fields field (44 ∷ rest) other ∙ quoted-comma fields field rest

pub field-last : (fields : Record) (text field rest : List ℕ) → IsFieldBefore text field true rest → Ended (fields ++ field ∷ []) rest (next_record default_config st.StartField fields [] text)
field-last fields text field rest (inl (e, plain, line, is)) =
    subst (λ t. Ended (fields ++ field ∷ []) rest (next_record default_config st.StartField fields [] t)) (sym is) (plain-last fields field rest e plain line)
field-last fields text field rest (inr (behind, opened, (e, other, line, is))) =
    let same : next_record default_config st.StartField fields [] text ≡ next_record default_config st.AfterQuote fields field (e ∷ rest) =
    ap (next_record default_config st.StartField fields []) (opened ∙ ap (λ (l : List ℕ). 34 ∷ l) is) ∙ quoted fields field (e ∷ rest) other in
    subst (Ended (fields ++ field ∷ []) rest) (sym same) (ends-quoted fields field rest e line)

pub shorter : (text field rest : List ℕ) (last : Bool) → IsFieldBefore text field last rest → length rest + 1 ≤ length text
shorter text field rest last (inl (e, plain, line, is)) = rw is (omega (arith, length-append field (e ∷ rest)))
shorter text field rest last (inr (behind, opened, (e, other, line, is))) = rw (opened, is) (omega (arith, length-append field (34 ∷ e ∷ rest)))

-- a text goes on behind a number and the byte that ends it, and behind a field
abbrev number-on : (text : List ℕ) (e n : ℕ) (rest more : List ℕ) → IsNumberBefore text e n rest → IsNumberBefore (text ++ more) e n (rest ++ more)
number-on text e n rest more p = (p.0, ap (λ (l : List ℕ). l ++ more) p.1 ∙ append_assoc p.0 (e ∷ rest) more, p.2, p.3)

pub field-on : (text field rest more : List ℕ) (last : Bool) → IsFieldBefore text field last rest → IsFieldBefore (text ++ more) field last (rest ++ more)
field-on text field rest more last (inl (e, plain, ends, is)) = inl (e, plain, ends, ap (λ (l : List ℕ). l ++ more) is ∙ append_assoc field (e ∷ rest) more)
field-on text field rest more last (inr (behind, opened, (e, other, ends, is))) =
    inr (behind ++ more, ap (λ (l : List ℕ). l ++ more) opened, (e, other, ends, ap (λ (l : List ℕ). l ++ more) is ∙ append_assoc field (34 ∷ e ∷ rest) more))

-- the fields of an ask that writes these numbers
abbrev asked : List ℕ → List ℕ → List ℕ → List ℕ → Record
asked round src dst slots = (97 ∷ 115 ∷ 107 ∷ []) ∷ round ∷ src ∷ dst ∷ slots ∷ []

-- an ask of four plain numbers
ask-line : (text numbers second third fourth behind : List ℕ) (a b c d e : ℕ) → text ≡ 97 ∷ 115 ∷ 107 ∷ 44 ∷ numbers → (round : IsNumberBefore numbers 44 a second) → (src : IsNumberBefore second 44 b third)
    → (dst : IsNumberBefore third 44 c fourth) → (slots : IsNumberBefore fourth e d behind) → ends_line e ≡ true → records_in text ≡ asked round.0 src.0 dst.0 slots.0 ∷ records_in behind
ask-line text numbers second third fourth behind a b c d e named round src dst slots line =
    record-ended text behind _ (subst (Ended (asked round.0 src.0 dst.0 slots.0) behind) (sym path) (plain-last (name ∷ round.0 ∷ src.0 ∷ dst.0 ∷ []) slots.0 behind e (number-plain slots.0 slots.2) line))
  where
    name : List ℕ
    name = 97 ∷ 115 ∷ 107 ∷ []

    path : next_record default_config st.StartRecord [] [] text ≡ next_record default_config st.StartField (name ∷ round.0 ∷ src.0 ∷ dst.0 ∷ []) [] (slots.0 ++ e ∷ behind)
    path =
        ap (next_record default_config st.StartRecord [] []) named ∙ name-field numbers
        ∙ ap (next_record default_config st.StartField (name ∷ []) []) round.1 ∙ field-comma (name ∷ []) round.0 second (number-plain round.0 round.2)
        ∙ ap (next_record default_config st.StartField (name ∷ round.0 ∷ []) []) src.1 ∙ field-comma (name ∷ round.0 ∷ []) src.0 third (number-plain src.0 src.2)
        ∙ ap (next_record default_config st.StartField (name ∷ round.0 ∷ src.0 ∷ []) []) dst.1 ∙ field-comma (name ∷ round.0 ∷ src.0 ∷ []) dst.0 fourth (number-plain dst.0 dst.2)
        ∙ ap (next_record default_config st.StartField (name ∷ round.0 ∷ src.0 ∷ dst.0 ∷ []) []) slots.1

-- the same behind its head, however the text goes on
pub headed-ask : (text head second third fourth rest : List ℕ) (ask : PlainAsk) → IsAskHead head ask.round → text ≡ head ++ second → IsNumberBefore second 44 ask.src third
    → IsNumberBefore third 44 ask.dst fourth → IsLastNumberBefore fourth ask.slots rest → IsAskBefore text ask rest
headed-ask text head second third fourth rest ask (is, number, value) all src dst (e, behind, slots, line, alike) = (
  asked digits src.0 dst.0 slots.0,
  ask-fields ask digits src.0 dst.0 slots.0 number src.2 dst.2 slots.2 value src.3 dst.3 slots.3,
  λ more.
      ask-line (text ++ more) (digits ++ 44 ∷ (second ++ more)) (second ++ more) (third ++ more) (fourth ++ more) (behind ++ more) ask.round ask.src ask.dst ask.slots e (named more) (digits, refl, number, value)
      (number-on second 44 ask.src third more src) (number-on third 44 ask.dst fourth more dst) (number-on fourth e ask.slots behind more slots) line
      ∙ ap (λ (l : List Record). asked digits src.0 dst.0 slots.0 ∷ l) (alike more),
)
  where
    digits : List ℕ
    digits = head_digits head

    named : (more : List ℕ) → text ++ more ≡ 97 ∷ 115 ∷ 107 ∷ 44 ∷ (digits ++ 44 ∷ (second ++ more))
    named more =
        ap (λ (l : List ℕ). l ++ more) all ∙ append_assoc head second more ∙ ap (λ (l : List ℕ). l ++ (second ++ more)) is
        ∙ ap (λ (l : List ℕ). 97 ∷ 115 ∷ 107 ∷ 44 ∷ l) (append_assoc digits (44 ∷ []) (second ++ more))

-- a plain field has no quote
unquoted-byte : (comma quote feed back : Bool) → not (comma || quote || feed || back) ≡ true → not quote ≡ true
unquoted-byte true quote feed back plain = absurd (false≢true plain)
unquoted-byte false true feed back plain = absurd (false≢true plain)
unquoted-byte false false feed back plain = refl

unquoted : (field : List ℕ) → list_all is_plain field ≡ true → list_all is_unquoted field ≡ true
unquoted [] plain = refl
unquoted (c ∷ field) plain =
    let p = and_parts (is_plain c) (list_all is_plain field) plain in
    let here : is_unquoted c ≡ true = unquoted-byte (c == 44) (c == 34) (c == 10) (c == 13) p.0 in
    let rest = unquoted field p.1 in
    rw (here, rest) refl

-- an ask of four numbers between quotes
quoted-line : (text first second third fourth behind : List ℕ) (a b c d e : ℕ) → text ≡ 34 ∷ 97 ∷ 115 ∷ 107 ∷ 34 ∷ 44 ∷ 34 ∷ first → (round : IsNumberBefore first 34 a (44 ∷ 34 ∷ second))
    → (src : IsNumberBefore second 34 b (44 ∷ 34 ∷ third)) → (dst : IsNumberBefore third 34 c (44 ∷ 34 ∷ fourth)) → (slots : IsNumberBefore fourth 34 d (e ∷ behind)) → ends_line e ≡ true
    → records_in text ≡ asked round.0 src.0 dst.0 slots.0 ∷ records_in behind
quoted-line text first second third fourth behind a b c d e named round src dst slots line =
    record-ended text behind _ (subst (Ended (asked round.0 src.0 dst.0 slots.0) behind) (sym path) last)
  where
    name : List ℕ
    name = 97 ∷ 115 ∷ 107 ∷ []

    other : (digits : List ℕ) → is_number digits ≡ true → list_all is_unquoted digits ≡ true
    other digits number = unquoted digits (number-plain digits number)

    path : next_record default_config st.StartRecord [] [] text ≡ next_record default_config st.StartField (name ∷ round.0 ∷ src.0 ∷ dst.0 ∷ []) [] (34 ∷ fourth)
    path =
        ap (next_record default_config st.StartRecord [] []) named ∙ begins-field (34 ∷ 97 ∷ 115 ∷ 107 ∷ 34 ∷ 44 ∷ 34 ∷ first) refl
        ∙ field-more [] (34 ∷ 97 ∷ 115 ∷ 107 ∷ 34 ∷ 44 ∷ 34 ∷ first) name (34 ∷ first) (inr (97 ∷ 115 ∷ 107 ∷ 34 ∷ 44 ∷ 34 ∷ first, refl, (44, refl, refl, refl)))
        ∙ field-more (name ∷ []) (34 ∷ first) round.0 (34 ∷ second) (inr (first, refl, (44, other round.0 round.2, refl, round.1)))
        ∙ field-more (name ∷ round.0 ∷ []) (34 ∷ second) src.0 (34 ∷ third) (inr (second, refl, (44, other src.0 src.2, refl, src.1)))
        ∙ field-more (name ∷ round.0 ∷ src.0 ∷ []) (34 ∷ third) dst.0 (34 ∷ fourth) (inr (third, refl, (44, other dst.0 dst.2, refl, dst.1)))

    last : Ended (asked round.0 src.0 dst.0 slots.0) behind (next_record default_config st.StartField (name ∷ round.0 ∷ src.0 ∷ dst.0 ∷ []) [] (34 ∷ fourth))
    last = field-last (name ∷ round.0 ∷ src.0 ∷ dst.0 ∷ []) (34 ∷ fourth) slots.0 behind (inr (fourth, refl, (e, other slots.0 slots.2, line, slots.1)))

-- the same however the text goes on
pub quoted-ask : (text first second third fourth end rest : List ℕ) (ask : PlainAsk) → text ≡ 34 ∷ 97 ∷ 115 ∷ 107 ∷ 34 ∷ 44 ∷ 34 ∷ first → IsNumberBefore first 34 ask.round (44 ∷ 34 ∷ second)
    → IsNumberBefore second 34 ask.src (44 ∷ 34 ∷ third) → IsNumberBefore third 34 ask.dst (44 ∷ 34 ∷ fourth) → IsNumberBefore fourth 34 ask.slots end → IsEndBefore end rest → IsAskBefore text ask rest
quoted-ask text first second third fourth end rest ask named round src dst slots (e, behind, ends, line, alike) = (
  asked round.0 src.0 dst.0 slots.0,
  ask-fields ask round.0 src.0 dst.0 slots.0 round.2 src.2 dst.2 slots.2 round.3 src.3 dst.3 slots.3,
  λ more.
      quoted-line (text ++ more) (first ++ more) (second ++ more) (third ++ more) (fourth ++ more) (behind ++ more) ask.round ask.src ask.dst ask.slots e (ap (λ (l : List ℕ). l ++ more) named)
      (number-on first 34 ask.round (44 ∷ 34 ∷ second) more round) (number-on second 34 ask.src (44 ∷ 34 ∷ third) more src) (number-on third 34 ask.dst (44 ∷ 34 ∷ fourth) more dst)
      (number-on fourth 34 ask.slots (e ∷ behind) more (slots.0, slots.1 ∙ ap (λ (l : List ℕ). slots.0 ++ 34 ∷ l) ends, slots.2, slots.3)) line
      ∙ ap (λ (l : List Record). asked round.0 src.0 dst.0 slots.0 ∷ l) (alike more),
)

-- a byte in a text, and the field that it ends
pub split-byte : (text : List ℕ) (at : ℕ) → at < length text → text ≡ take at text ++ get_or text at 0 ∷ take (length text - (at + 1)) (drop (at + 1) text)
split-byte text at lt = sym (take-append-drop at text) ∙ ap (λ (l : List ℕ). take at text ++ l) (drop_more text at 0 lt ∙ ap (λ (l : List ℕ). get_or text at 0 ∷ l) (sym (take_rest text (at + 1))))

pub ends-by : (x : ℕ) → (x ≡ 44) ⊎ (ends_line x ≡ true) → ends_field (not (x == 44)) x ≡ true
ends-by x (inl same) = rw same refl
ends-by x (inr line) = let other : (x == 44) ≡ false = grind (arith, nat_tests) in rw other line

-- a record that a text shows however it goes on, where it does not go on
pub record-here : (text rest : List ℕ) (fields : Record) → ((more : List ℕ) → records_in (text ++ more) ≡ fields ∷ records_in (rest ++ more)) → records_in text ≡ fields ∷ records_in rest
record-here text rest fields all = ap records_in (sym (append-nil text)) ∙ all [] ∙ ap (λ (l : List ℕ). fields ∷ records_in l) (append-nil rest)

-- two texts that read alike, where they do not go on
pub alike-here : (text other : List ℕ) → ReadAlike text other → records_in text ≡ records_in other
alike-here text other alike = ap records_in (sym (append-nil text)) ∙ alike [] ∙ ap records_in (append-nil other)

-- the same of a line
pub line-here : (text : List ℕ) (fields : Record) (rest : List ℕ) → IsLineBefore text fields rest → BeginsWith (records_in text) fields (records_in rest)
line-here text fields rest (whole, same, all) = (whole, same, record-here text rest whole all)
