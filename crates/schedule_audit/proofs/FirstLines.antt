-- The first line of a text and the lines after it.
use Rattle.std.proofs.Common.{◌≡◌, ◌≢◌, ◌<◌, ◌≤◌, ℕ, zero, suc, List, [], ◌∷◌, ◌++◌, length, take, drop, get_or, Option, Some, None, All, refl, sym, ap, ◌∙◌, subst, inl, inr, append_assoc, length-append, arith}
use Rattle.std.specs.List.{flat_map, AllZip}
use Rattle.std.proofs.lemmas.List.Elements.{All-nil, All-cons, All-head, All-tail}
use Rattle.report_text.specs.declared.line.Line.{Line}
use Rattle.report_text.proofs.Spelling.{own_spelling}
use Rattle.schedule_audit.specs.Reading.{Reads, IsCut, unformed_line, ReadsLines, ReadsLine}
use Rattle.schedule_audit.specs.ReadLaws.{EachTextHasOneReading}

abbrev pub IsFree : List ℕ → Type 0
IsFree bytes = All (λ byte. byte ≢ 10) bytes

abbrev fed : List ℕ → List ℕ
fed piece = piece ++ 10 ∷ []

-- ---- a text is cut where a byte stands

pub cut_at : (bytes : List ℕ) (end byte : ℕ) → end < length bytes → get_or bytes end 0 ≡ byte → bytes ≡ take end bytes ++ byte ∷ drop (suc end) bytes
cut_at [] end byte within is = absurd (omega arith)
cut_at (b ∷ bytes) zero byte within is = ap (λ x. x ∷ bytes) is
cut_at (b ∷ bytes) (suc end) byte within is = ap (λ xs. b ∷ xs) (cut_at bytes end byte (omega arith) is)

pub free_front : (bytes : List ℕ) (end : ℕ) → end ≤ length bytes → ((i : ℕ) → i < end → get_or bytes i 0 ≢ 10) → IsFree (take end bytes)
free_front bytes zero within free = All-nil (λ (byte : ℕ). byte ≢ 10)
free_front [] (suc end) within free = absurd (omega arith)
free_front (b ∷ bytes) (suc end) within free =
    All-cons (λ (byte : ℕ). byte ≢ 10) b (take end bytes) (free 0 (omega arith)) (free_front bytes end (omega arith) (λ i lt. free (suc i) (omega arith)))

-- ---- bytes with a line feed, and without one

has_feed : (piece later : List ℕ) → IsFree (piece ++ 10 ∷ later) → ⊥
has_feed [] later free = All-head (λ (byte : ℕ). byte ≢ 10) 10 later free refl
has_feed (b ∷ piece) later free = has_feed piece later (All-tail (λ (byte : ℕ). byte ≢ 10) b (piece ++ 10 ∷ later) free)

same_cut : (p q xs ys : List ℕ) → IsFree p → IsFree q → p ++ 10 ∷ xs ≡ q ++ 10 ∷ ys → (p ≡ q) × (xs ≡ ys)
same_cut [] [] xs ys free_p free_q same = (refl, cc)
same_cut [] (b ∷ q) xs ys free_p free_q same = absurd (All-head (λ (byte : ℕ). byte ≢ 10) b q free_q (cc))
same_cut (a ∷ p) [] xs ys free_p free_q same = absurd (All-head (λ (byte : ℕ). byte ≢ 10) a p free_p (cc))
same_cut (a ∷ p) (b ∷ q) xs ys free_p free_q same =
    let first : a ≡ b = cc in
    let others : p ++ 10 ∷ xs ≡ q ++ 10 ∷ ys = cc in
    let rest = same_cut p q xs ys (All-tail (λ (byte : ℕ). byte ≢ 10) a p free_p) (All-tail (λ (byte : ℕ). byte ≢ 10) b q free_q) others in
    (ap (λ x. x ∷ p) first ∙ ap (λ ys. b ∷ ys) rest.0, rest.1)

-- a cut's first piece comes first
piece_first : (q : List ℕ) (qs : List (List ℕ)) (rest : List ℕ) → flat_map fed (q ∷ qs) ++ rest ≡ q ++ 10 ∷ (flat_map fed qs ++ rest)
piece_first q qs rest = append_assoc (fed q) (flat_map fed qs) rest ∙ append_assoc q (10 ∷ []) (flat_map fed qs ++ rest)

-- ---- one line more

spells_one : (piece : List ℕ) (l k : Option Line) → Reads piece l → Reads piece k → l ≡ k
spells_one piece (Some l) (Some k) one other = ap (λ x. Some x) (own_spelling l k one.0 other.0 (one.1 ∙ sym other.1))
spells_one piece (Some l) None one other = absurd (other l one.0 one.1)
spells_one piece None (Some k) one other = absurd (one k other.0 other.1)
spells_one piece None None one other = refl

none_read : (formed : List (Option Line)) → AllZip Reads [] formed → formed ≡ []
none_read [] all = refl
none_read (l ∷ formed) all = absurd all

pub no_lines : ReadsLines [] []
no_lines = ([], [], [], record { whole = refl; formed = All-nil IsFree; unformed = All-nil (λ (byte : ℕ). byte ≢ 10) }, tt, refl)

pub empty_text : (lines : List (Option Line)) → ReadsLines [] lines → lines ≡ []
empty_text lines ([], [], formed, cut, read, is) = is ∙ ap (λ xs. xs ++ []) (none_read formed read)
empty_text lines ([], b ∷ rest, formed, cut, read, is) = let no : [] ≡ b ∷ rest = cut.whole in absurd (cc)
empty_text lines ([] ∷ qs, rest, formed, cut, read, is) = let no : [] ≡ 10 ∷ (flat_map fed qs ++ rest) = cut.whole ∙ piece_first [] qs rest in absurd (cc)
empty_text lines ((b ∷ q) ∷ qs, rest, formed, cut, read, is) = let no : [] ≡ b ∷ (q ++ 10 ∷ (flat_map fed qs ++ rest)) = cut.whole ∙ piece_first (b ∷ q) qs rest in absurd (cc)

a_rest : (bytes : List ℕ) → bytes ≢ [] → unformed_line bytes ≡ None ∷ []
a_rest [] some = absurd (some refl)
a_rest (b ∷ bytes) some = refl

pub goes_on : (bytes later : List ℕ) (line : Option Line) (after : List (Option Line)) → ReadsLine bytes line later → ReadsLines later after → ReadsLines bytes (line ∷ after)
goes_on bytes later line after (inl (piece, is, free, reads)) (pieces, rest, formed, cut, read, lines) = (
  piece ∷ pieces,
  rest,
  line ∷ formed,
  record {
    whole = is ∙ (ap (λ xs. piece ++ 10 ∷ xs) cut.whole ∙ sym (piece_first piece pieces rest));
    formed = All-cons IsFree piece pieces free cut.formed;
    unformed = cut.unformed;
  },
  (reads, read),
  ap (λ xs. line ∷ xs) lines,
)
goes_on bytes later line after (inr (some, free, none, empty)) are =
    let nothing : after ≡ [] = empty_text after (subst (λ xs. ReadsLines xs after) empty are) in
    let is : line ∷ after ≡ unformed_line bytes = ap (λ l. l ∷ after) none ∙ (ap (λ xs. None ∷ xs) nothing ∙ sym (a_rest bytes some)) in
    ([], bytes, [], record { whole = refl; formed = All-nil IsFree; unformed = free }, tt, is)

pub comes_first : (bytes later : List ℕ) (line : Option Line) (lines : List (Option Line)) → ReadsLine bytes line later → ReadsLines bytes lines
    → (after : List (Option Line)) × (lines ≡ line ∷ after) × ReadsLines later after
comes_first bytes later line lines (inl (piece, is, free, reads)) ([], rest, formed, cut, read, all) =
    absurd (has_feed piece later (subst IsFree (sym cut.whole ∙ is) cut.unformed))
comes_first bytes later line lines (inl (piece, is, free, reads)) (q ∷ qs, rest, [], cut, read, all) = absurd read
comes_first bytes later line lines (inl (piece, is, free, reads)) (q ∷ qs, rest, l ∷ formed, cut, read, all) =
    let same = same_cut piece q later (flat_map fed qs ++ rest) free (All-head IsFree q qs cut.formed) (sym is ∙ (cut.whole ∙ piece_first q qs rest)) in
    let first : l ≡ line = spells_one piece l line (subst (λ xs. Reads xs l) (sym same.0) read.0) reads in (
      formed ++ unformed_line rest,
      all ∙ ap (λ x. x ∷ (formed ++ unformed_line rest)) first,
      (qs, rest, formed, record { whole = same.1; formed = All-tail IsFree q qs cut.formed; unformed = cut.unformed }, read.1, refl),
    )
comes_first bytes later line lines (inr (some, free, none, empty)) ([], rest, formed, cut, read, all) = (
  [],
  all ∙ (ap (λ xs. xs ++ unformed_line rest) (none_read formed read) ∙ (ap unformed_line (sym cut.whole) ∙ (a_rest bytes some ∙ ap (λ l. l ∷ []) (sym none)))),
  subst (λ xs. ReadsLines xs []) (sym empty) no_lines,
)
comes_first bytes later line lines (inr (some, free, none, empty)) (q ∷ qs, rest, formed, cut, read, all) =
    absurd (has_feed q (flat_map fed qs ++ rest) (subst IsFree (cut.whole ∙ piece_first q qs rest) free))

pub shorter : (bytes later : List ℕ) (line : Option Line) → ReadsLine bytes line later → length later < length bytes
shorter bytes later line (inl (piece, is, free, reads)) = omega (arith, ap (λ xs. length xs) is, length-append piece (10 ∷ later))
shorter [] later line (inr (some, free, none, empty)) = absurd (some refl)
shorter (b ∷ bytes) later line (inr (some, free, none, empty)) = omega (arith, ap (λ xs. length xs) empty)

-- ---- one reading

one_reading : (pieces : List (List ℕ)) (bytes rest : List ℕ) (formed others : List (Option Line)) → IsCut bytes pieces rest → AllZip Reads pieces formed → ReadsLines bytes others → formed ++ unformed_line rest ≡ others
one_reading [] bytes [] formed others cut read are =
    ap (λ xs. xs ++ []) (none_read formed read) ∙ sym (empty_text others (subst (λ xs. ReadsLines xs others) cut.whole are))
one_reading [] bytes (b ∷ rest) formed others cut read are =
    let some : bytes ≢ [] = λ none. let no : b ∷ rest ≡ [] = sym cut.whole ∙ none in absurd (cc) in
    let first = comes_first bytes [] None others (inr (some, subst IsFree (sym cut.whole) cut.unformed, refl, refl)) are in
    ap (λ xs. xs ++ None ∷ []) (none_read formed read) ∙ (ap (λ xs. None ∷ xs) (sym (empty_text first.0 first.2)) ∙ sym first.1)
one_reading (q ∷ qs) bytes rest [] others cut read are = absurd read
one_reading (q ∷ qs) bytes rest (l ∷ formed) others cut read are =
    let later = flat_map fed qs ++ rest in
    let first = comes_first bytes later l others (inl (q, cut.whole ∙ piece_first q qs rest, All-head IsFree q qs cut.formed, read.0)) are in
    let behind : IsCut later qs rest = record { whole = refl; formed = All-tail IsFree q qs cut.formed; unformed = cut.unformed } in
    ap (λ xs. l ∷ xs) (one_reading qs later rest formed first.0 behind read.1 first.2) ∙ sym first.1

pub each_text_has_one_reading : EachTextHasOneReading
each_text_has_one_reading bytes one other (pieces, rest, formed, cut, read, is) are = is ∙ one_reading pieces bytes rest formed other cut read are
