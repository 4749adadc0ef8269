-- No line has a line feed in it, so a text is read as its lines.
use Rattle.std.specs.Prelude.{IfSome}
use Rattle.std.proofs.Common.{zero, suc, ◌≡◌, ◌≢◌, ◌<◌, ◌≤◌, ◌^◌, ℕ, List, [], ◌∷◌, ◌++◌, map, length, get_or, decimal, codes, Bool, true, false, not, eqb, Option, Some, None, All, refl, sym, ap, ◌∙◌, arith, append-nil}
use Rattle.std.specs.List.{flat_map, list_all, AllZip}
use Rattle.std.proofs.lemmas.Bool.{and_parts, not-true, eqb-false}
use Rattle.std.proofs.lemmas.List.Elements.{All-nil, All-cons, All-append}
use Rattle.report_text.specs.declared.line.Line.{Line}
use Rattle.report_text.specs.declared.line.Line.TheVariants as line
use Rattle.report_text.specs.Names.{answer_names, answer_name}
use Rattle.report_text.specs.Lines.{fields, number_fields, core_field, bit, line_bytes, IsLine}
use Rattle.report_text.proofs.NumberText.{decimal_digits}
use Rattle.schedule_audit.specs.Reading.{Reads}
use Rattle.schedule_audit.specs.Laws.{read}
use Rattle.schedule_audit.specs.ReadLaws.{AreAllLines, text_with_line_feeds, EachTextIsRead}
use Rattle.schedule_audit.proofs.FirstLines.{IsFree}

-- ---- by a test, for written-out bytes

abbrev is_free : List ℕ → Bool
is_free bytes = list_all (λ byte. not (eqb byte 10)) bytes

free : (bytes : List ℕ) → is_free bytes ≡ true → IsFree bytes
free [] all = All-nil (λ (byte : ℕ). byte ≢ 10)
free (b ∷ bytes) all =
    let parts = and_parts (not (eqb b 10)) (is_free bytes) all in
    All-cons (λ (byte : ℕ). byte ≢ 10) b bytes (eqb-false b 10 (not-true (eqb b 10) parts.0)) (free bytes parts.1)

-- ---- number_fields and fields

free-decimal : (n : ℕ) → n < 2 ^ 64 → IsFree (decimal n)
free-decimal n small i d within feed = let digit = decimal_digits n small i within in omega (arith, digit.0, at_default (decimal n) i d within)
  where
    at_default : (bytes : List ℕ) (i d : ℕ) → i < length bytes → get_or bytes i d ≡ get_or bytes i 0
    at_default [] i d within = absurd (omega arith)
    at_default (b ∷ bytes) zero d within = refl
    at_default (b ∷ bytes) (suc i) d within = at_default bytes i d (omega arith)

abbrev AreFree : List (List ℕ) → Type 0
AreFree [] = Unit {0}
AreFree (f ∷ fs) = IsFree f × AreFree fs

free-fields : (fs : List (List ℕ)) → AreFree fs → IsFree (fields fs)
free-fields [] all = All-nil (λ (byte : ℕ). byte ≢ 10)
free-fields (f ∷ fs) all = All-cons (λ (byte : ℕ). byte ≢ 10) 44 (f ++ fields fs) (λ feed. absurd (omega arith)) (All-append (λ (byte : ℕ). byte ≢ 10) f (fields fs) all.0 (free-fields fs all.1))

abbrev AreSmall : List ℕ → Type 0
AreSmall [] = Unit {0}
AreSmall (n ∷ ns) = (n < 2 ^ 64) × AreSmall ns

free-each : (ns : List ℕ) → AreSmall ns → AreFree (map decimal ns)
free-each [] small = tt
free-each (n ∷ ns) small = (free-decimal n small.0, free-each ns small.1)

free-numbers : (ns : List ℕ) → AreSmall ns → IsFree (number_fields ns)
free-numbers ns small = free-fields (map decimal ns) (free-each ns small)

free-line : (name : List ℕ) (ns : List ℕ) → is_free name ≡ true → AreSmall ns → IsFree (name ++ number_fields ns)
free-line name ns named small = All-append (λ (byte : ℕ). byte ≢ 10) name (number_fields ns) (free name named) (free-numbers ns small)

free-core : (core : Option ℕ) → IfSome core (λ c. c ≤ 65535) → IsFree (core_field core)
free-core None small = free (codes "-") refl
free-core (Some c) small = free-decimal c (omega arith)

free-names : (names : List (List ℕ)) (n : ℕ) → list_all is_free names ≡ true → IsFree (get_or names n [])
free-names [] n all = All-nil (λ (byte : ℕ). byte ≢ 10)
free-names (x ∷ names) zero all = free x (and_parts (is_free x) (list_all is_free names) all).0
free-names (x ∷ names) (suc n) all = free-names names n (and_parts (is_free x) (list_all is_free names) all).1

free-name : (n : ℕ) → IsFree (answer_name n)
unfolding answer_name
free-name n = free-names answer_names n refl

small-bit : (b : Bool) → bit b < 2 ^ 64
small-bit true = omega arith
small-bit false = omega arith

-- ---- lines

pub free-bytes : (l : Line) → IsLine l → IsFree (line_bytes l)
free-bytes (line.Batch batch src dst clear add) is =
    free-line (codes "batch") (batch ∷ src ∷ dst ∷ bit clear ∷ add ∷ []) refl (
      (let a = is.0 in omega arith),
      ((let a = is.1.0 in omega arith), ((let a = is.1.1.0 in omega arith), (small-bit clear, ((let a = is.1.1.1.1.0 in omega arith), tt)))),
    )
free-bytes (line.Slot slot src dst core) is =
    All-append (λ (byte : ℕ). byte ≢ 10) (codes "slot") (number_fields (slot ∷ src ∷ dst ∷ []) ++ fields (core_field core ∷ [])) (free (codes "slot") refl)
    (All-append (λ (byte : ℕ). byte ≢ 10) (number_fields (slot ∷ src ∷ dst ∷ [])) (fields (core_field core ∷ []))
    (free-numbers (slot ∷ src ∷ dst ∷ []) ((let a = is.0.0 in omega arith), ((let a = is.0.1.0 in omega arith), ((let a = is.0.1.1.0 in omega arith), tt))))
    (free-fields (core_field core ∷ []) (free-core core is.1, tt)))
free-bytes (line.Sent slot src dst) is =
    free-line (codes "sent") (slot ∷ src ∷ dst ∷ []) refl ((let a = is.0 in omega arith), ((let a = is.1.0 in omega arith), ((let a = is.1.1.0 in omega arith), tt)))
free-bytes (line.Refused round number) is =
    All-append (λ (byte : ℕ). byte ≢ 10) (codes "refused") (number_fields (round ∷ []) ++ fields (answer_name number ∷ [])) (free (codes "refused") refl)
    (All-append (λ (byte : ℕ). byte ≢ 10) (number_fields (round ∷ [])) (fields (answer_name number ∷ []))
    (free-numbers (round ∷ []) ((let a = is.0.0 in omega arith), tt))
    (free-fields (answer_name number ∷ []) (free-name number, tt)))
free-bytes (line.Flow src dst demanded allocated pending) is =
    free-line (codes "flow") (src ∷ dst ∷ demanded ∷ allocated ∷ pending ∷ []) refl (
      (let a = is.0 in omega arith),
      ((let a = is.1.0 in omega arith), ((let a = is.1.1.0 in omega arith), ((let a = is.1.1.1.0 in omega arith), ((let a = is.1.1.1.1.0 in omega arith), tt)))),
    )
free-bytes (line.Count src dst demanded acknowledged flight pending lost sent missed) is =
    free-line (codes "count") (src ∷ dst ∷ demanded ∷ acknowledged ∷ flight ∷ pending ∷ lost ∷ sent ∷ missed ∷ []) refl (
      (let a = is.0 in omega arith),
      (
        (let a = is.1.0 in omega arith),
        (
          (let a = is.1.1.0 in omega arith),
          (
            (let a = is.1.1.1.0 in omega arith),
            (
              (let a = is.1.1.1.1.0 in omega arith),
              (
                (let a = is.1.1.1.1.1.0 in omega arith),
                (
                  (let a = is.1.1.1.1.1.1.0 in omega arith),
                  ((let a = is.1.1.1.1.1.1.1.0 in omega arith), ((let a = is.1.1.1.1.1.1.1.1.0 in omega arith), tt)),
                ),
              ),
            ),
          ),
        ),
      ),
    )
free-bytes (line.End rounds) is = free-line (codes "end") (rounds ∷ []) refl ((let a = is.0 in omega arith), tt)
free-bytes (line.Made number flows demanded acknowledged flight pending lost sent missed) is =
    free-line (codes "made") (number ∷ flows ∷ demanded ∷ acknowledged ∷ flight ∷ pending ∷ lost ∷ sent ∷ missed ∷ []) refl (
      (let a = is.0 in omega arith),
      (
        (let a = is.1.0 in omega arith),
        (
          (let a = is.1.1.0 in omega arith),
          (
            (let a = is.1.1.1.0 in omega arith),
            (
              (let a = is.1.1.1.1.0 in omega arith),
              (
                (let a = is.1.1.1.1.1.0 in omega arith),
                (
                  (let a = is.1.1.1.1.1.1.0 in omega arith),
                  ((let a = is.1.1.1.1.1.1.1.0 in omega arith), ((let a = is.1.1.1.1.1.1.1.1.0 in omega arith), tt)),
                ),
              ),
            ),
          ),
        ),
      ),
    )
free-bytes l is = absurd is

-- ---- texts

pieces-text : (ls : List Line) → text_with_line_feeds ls ≡ flat_map (λ piece. piece ++ 10 ∷ []) (map line_bytes ls)
pieces-text [] = refl
pieces-text (l ∷ ls) = ap (λ xs. (line_bytes l ++ 10 ∷ []) ++ xs) (pieces-text ls)

all-formed : (ls : List Line) → AreAllLines ls → All IsFree (map line_bytes ls)
all-formed [] are = All-nil IsFree
all-formed (l ∷ ls) are = All-cons IsFree (line_bytes l) (map line_bytes ls) (free-bytes l are.0) (all-formed ls are.1)

all-read : (ls : List Line) → AreAllLines ls → AllZip Reads (map line_bytes ls) (read ls)
all-read [] are = tt
all-read (l ∷ ls) are = ((are.0, refl), all-read ls are.1)

pub each_text_is_read : EachTextIsRead
each_text_is_read ls are = (
  map line_bytes ls,
  [],
  read ls,
  record { whole = pieces-text ls ∙ sym (append-nil (flat_map (λ piece. piece ++ 10 ∷ []) (map line_bytes ls))); formed = all-formed ls are; unformed = All-nil (λ (byte : ℕ). byte ≢ 10) },
  all-read ls are,
  sym (append-nil (read ls)),
)
