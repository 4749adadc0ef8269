-- A line is found again from its spelling.
use Rattle.std.proofs.Common.{◌≤◌, ltb, ◌≡◌, ◌<◌, ◌-◌, ◌^◌, ℕ, List, [], ◌∷◌, ◌++◌, All, true, Option, Some, None, IfSome, length, drop, get_or, decimal, append-nil, length-append, refl, sym, ap, ◌∙◌, arith}
use Rattle.std.specs.List.{list_all}
use Rattle.std.proofs.Math.Seq.{take-append_seam, drop-append_seam}
use Rattle.std.proofs.lemmas.Fmt.{decimal_injective}
use Rattle.std.proofs.lemmas.Grind.{get_or_default_zero}
use Rattle.std.proofs.lemmas.List.{get_or_append_left, get_or-append_right}
use Rattle.std.proofs.lemmas.List.Elements.{All-head, All-tail}
use Rattle.report_text.specs.declared.line.Line.TheVariants as line
use Rattle.report_text.specs.Lines.{fields, number_fields, core_field, bit, AreWithin, endpoint_most, number_most, sum_most}
use Rattle.report_text.specs.Names.{answer_name}
use Rattle.report_text.specs.Laws.{EachLineHasItsOwnSpelling}
use Rattle.report_text.proofs.NumberText.{decimal_no_comma, cut_field, no_core}
use Rattle.report_text.proofs.NumbersRead.{numbers_begin, numbers_first}
use Rattle.report_text.proofs.Within.{all_within, bit_same}
use Rattle.report_text.proofs.RefusalNames.{one_name}
use Rattle.report_text.proofs.LineKinds.{of_kind, Batch, Slot, Sent, Refused, Flow, Count, End, Made}

-- two number_fields, each before a comma or the end
number_same : (m n : ℕ) (xs ys : List ℕ) → m < 2 ^ 64 → n < 2 ^ 64 → get_or xs 0 44 ≡ 44 → get_or ys 0 44 ≡ 44 → decimal m ++ xs ≡ decimal n ++ ys → (m ≡ n) × (xs ≡ ys)
number_same m n xs ys small small' next next' same =
    let field = decimal m in
    let whole = length-append field xs in
    let none_left : length field - length field ≡ 0 = omega arith in
    let at_end = get_or-append_right field xs (length field) (length field) 0 refl (omega arith) ∙ ap (λ (k : ℕ). get_or xs k 0) none_left in
    let cut = cut_field (field ++ xs) (decimal n) ys (length field) same (decimal_no_comma n small') next' (omega (arith, whole))
    (λ i below comma. decimal_no_comma m small i below (sym (get_or_append_left field xs 0 i below) ∙ comma))
    (λ below. at_end ∙ (sym (get_or_default_zero xs 0 44 (omega (arith, whole, below))) ∙ next)) in
    (decimal_injective m n (omega arith) (omega arith) (sym (take-append_seam field xs) ∙ cut.0), sym (drop-append_seam field xs) ∙ cut.1)

numbers_same : (ms ns xs ys : List ℕ) → length ms ≡ length ns → All (λ n. n < 2 ^ 64) ms → All (λ n. n < 2 ^ 64) ns → get_or xs 0 44 ≡ 44 → get_or ys 0 44 ≡ 44 → number_fields ms ++ xs ≡ number_fields ns ++ ys → (ms ≡ ns) × (xs ≡ ys)
numbers_same [] [] xs ys len fits fits' next next' same = (refl, same)
numbers_same [] (n ∷ ns) xs ys len fits fits' next next' same = absurd (omega arith)
numbers_same (m ∷ ms) [] xs ys len fits fits' next next' same = absurd (omega arith)
numbers_same (m ∷ ms) (n ∷ ns) xs ys len fits fits' next next' same =
    let firsts = sym (numbers_first m ms xs) ∙ (same ∙ numbers_first n ns ys) in
    let first = number_same m n (number_fields ms ++ xs) (number_fields ns ++ ys) (All-head (λ n. n < 2 ^ 64) m ms fits) (All-head (λ n. n < 2 ^ 64) n ns fits') (numbers_begin ms xs next) (numbers_begin ns ys next') (ap (drop 1) firsts) in
    let more = numbers_same ms ns xs ys (omega arith) (All-tail (λ n. n < 2 ^ 64) m ms fits) (All-tail (λ n. n < 2 ^ 64) n ns fits') next next' first.1 in
    ((λ i. first.0 i ∷ more.0 i), more.1)

-- number_fields that are the fields of one kind of line, before what follows
front_same : (mosts ms ns xs ys : List ℕ) → length ms ≡ length mosts → length ns ≡ length mosts → list_all (λ (most : ℕ). ltb most (2 ^ 64)) mosts ≡ true → AreWithin mosts ms → AreWithin mosts ns
    → get_or xs 0 44 ≡ 44 → get_or ys 0 44 ≡ 44 → number_fields ms ++ xs ≡ number_fields ns ++ ys → (ms ≡ ns) × (xs ≡ ys)
front_same mosts ms ns xs ys few few' small within within' next next' same =
    numbers_same ms ns xs ys (few ∙ sym few') (all_within mosts ms few small within) (all_within mosts ns few' small within') next next' same

all_same : (mosts ms ns : List ℕ) → length ms ≡ length mosts → length ns ≡ length mosts → list_all (λ (most : ℕ). ltb most (2 ^ 64)) mosts ≡ true → AreWithin mosts ms → AreWithin mosts ns → number_fields ms ≡ number_fields ns → ms ≡ ns
all_same mosts ms ns few few' small within within' same =
    (front_same mosts ms ns [] [] few few' small within within' refl refl (append-nil (number_fields ms) ∙ (same ∙ sym (append-nil (number_fields ns))))).0

core_same : (a b : Option ℕ) → IfSome a (λ c. c ≤ endpoint_most) → IfSome b (λ c. c ≤ endpoint_most) → fields (core_field a ∷ []) ≡ fields (core_field b ∷ []) → a ≡ b
core_same None b small small' same = no_core b small' (sym same)
core_same (Some m) None small small' same = sym (no_core (Some m) small same)
core_same (Some m) (Some n) small small' same =
    ap (λ (c : ℕ). Some c) (decimal_injective m n (omega arith) (omega arith) (sym (append-nil (decimal m)) ∙ (ap (drop 1) same ∙ append-nil (decimal n))))

pub own_spelling : EachLineHasItsOwnSpelling
own_spelling (line.Batch batch src dst clear add) other ok ok' same = of_kind Batch (number_fields (batch ∷ src ∷ dst ∷ bit clear ∷ add ∷ [])) (λ l. line.Batch batch src dst clear add ≡ l) (λ f known is.
    let s = all_same (number_most ∷ endpoint_most ∷ endpoint_most ∷ 1 ∷ number_most ∷ []) (batch ∷ src ∷ dst ∷ bit clear ∷ add ∷ []) (f.0 ∷ f.1 ∷ f.2 ∷ bit f.3 ∷ f.4 ∷ []) refl refl refl ok known (ap (drop 5) is) in
    let cleared = bit_same clear f.3 (ap (λ (vs : List ℕ). get_or vs 3 0) s) in
    λ i. line.Batch (get_or (s i) 0 0) (get_or (s i) 1 0) (get_or (s i) 2 0) (cleared i) (get_or (s i) 4 0)) other ok' same
own_spelling (line.Slot slot src dst core) other ok ok' same = of_kind Slot (number_fields (slot ∷ src ∷ dst ∷ []) ++ fields (core_field core ∷ [])) (λ l. line.Slot slot src dst core ≡ l) (λ f known is.
    let s = front_same (number_most ∷ endpoint_most ∷ endpoint_most ∷ []) (slot ∷ src ∷ dst ∷ []) (f.0 ∷ f.1 ∷ f.2 ∷ []) (fields (core_field core ∷ [])) (fields (core_field f.3 ∷ [])) refl refl refl ok.0 known.0 refl refl (ap (drop 4) is) in
    let through = core_same core f.3 ok.1 known.1 s.1 in
    λ i. line.Slot (get_or (s.0 i) 0 0) (get_or (s.0 i) 1 0) (get_or (s.0 i) 2 0) (through i)) other ok' same
own_spelling (line.Sent slot src dst) other ok ok' same = of_kind Sent (number_fields (slot ∷ src ∷ dst ∷ [])) (λ l. line.Sent slot src dst ≡ l) (λ f known is.
    ap (λ (vs : List ℕ). line.Sent (get_or vs 0 0) (get_or vs 1 0) (get_or vs 2 0)) (all_same (number_most ∷ endpoint_most ∷ endpoint_most ∷ []) (slot ∷ src ∷ dst ∷ []) (f.0 ∷ f.1 ∷ f.2 ∷ []) refl refl refl ok known (ap (drop 4) is))) other ok' same
own_spelling (line.Refused round number) other ok ok' same = of_kind Refused (number_fields (round ∷ []) ++ fields (answer_name number ∷ [])) (λ l. line.Refused round number ≡ l) (λ f known is.
    let s = front_same (number_most ∷ []) (round ∷ []) (f.0 ∷ []) (fields (answer_name number ∷ [])) (fields (answer_name f.1 ∷ [])) refl refl refl ok.0 known.0 refl refl (ap (drop 7) is) in
    let names : answer_name number ≡ answer_name f.1 = sym (append-nil (answer_name number)) ∙ ap (drop 1) s.1 ∙ append-nil (answer_name f.1) in
    let named = one_name number f.1 ok.1 known.1 names in
    λ i. line.Refused (get_or (s.0 i) 0 0) (named i)) other ok' same
own_spelling (line.Flow src dst demanded allocated pending) other ok ok' same = of_kind Flow (number_fields (src ∷ dst ∷ demanded ∷ allocated ∷ pending ∷ [])) (λ l. line.Flow src dst demanded allocated pending ≡ l) (λ f known is.
    ap (λ (vs : List ℕ). line.Flow (get_or vs 0 0) (get_or vs 1 0) (get_or vs 2 0) (get_or vs 3 0) (get_or vs 4 0)) (all_same (endpoint_most ∷ endpoint_most ∷ number_most ∷ number_most ∷ number_most ∷ []) (src ∷ dst ∷ demanded ∷ allocated ∷ pending ∷ []) (f.0 ∷ f.1 ∷ f.2 ∷ f.3 ∷ f.4 ∷ []) refl refl refl ok known (ap (drop 4) is))) other ok' same
own_spelling (line.Count src dst demanded acknowledged flight pending lost sent missed) other ok ok' same = of_kind Count (number_fields (src ∷ dst ∷ demanded ∷ acknowledged ∷ flight ∷ pending ∷ lost ∷ sent ∷ missed ∷ [])) (λ l. line.Count src dst demanded acknowledged flight pending lost sent missed ≡ l) (λ f known is.
    ap (λ (vs : List ℕ). line.Count (get_or vs 0 0) (get_or vs 1 0) (get_or vs 2 0) (get_or vs 3 0) (get_or vs 4 0) (get_or vs 5 0) (get_or vs 6 0) (get_or vs 7 0) (get_or vs 8 0)) (all_same (endpoint_most ∷ endpoint_most ∷ number_most ∷ number_most ∷ number_most ∷ number_most ∷ number_most ∷ number_most ∷ number_most ∷ []) (src ∷ dst ∷ demanded ∷ acknowledged ∷ flight ∷ pending ∷ lost ∷ sent ∷ missed ∷ []) (f.0 ∷ f.1 ∷ f.2 ∷ f.3 ∷ f.4 ∷ f.5 ∷ f.6 ∷ f.7 ∷ f.8 ∷ []) refl refl refl ok known (ap (drop 5) is))) other ok' same
own_spelling (line.End rounds) other ok ok' same = of_kind End (number_fields (rounds ∷ [])) (λ l. line.End rounds ≡ l) (λ f known is.
    ap (λ (vs : List ℕ). line.End (get_or vs 0 0)) (all_same (number_most ∷ []) (rounds ∷ []) (f ∷ []) refl refl refl ok known (ap (drop 3) is))) other ok' same
own_spelling (line.Made number flows demanded acknowledged flight pending lost sent missed) other ok ok' same = of_kind Made (number_fields (number ∷ flows ∷ demanded ∷ acknowledged ∷ flight ∷ pending ∷ lost ∷ sent ∷ missed ∷ [])) (λ l. line.Made number flows demanded acknowledged flight pending lost sent missed ≡ l) (λ f known is.
    ap (λ (vs : List ℕ). line.Made (get_or vs 0 0) (get_or vs 1 0) (get_or vs 2 0) (get_or vs 3 0) (get_or vs 4 0) (get_or vs 5 0) (get_or vs 6 0) (get_or vs 7 0) (get_or vs 8 0)) (all_same (number_most ∷ number_most ∷ sum_most ∷ sum_most ∷ sum_most ∷ sum_most ∷ sum_most ∷ sum_most ∷ sum_most ∷ []) (number ∷ flows ∷ demanded ∷ acknowledged ∷ flight ∷ pending ∷ lost ∷ sent ∷ missed ∷ []) (f.0 ∷ f.1 ∷ f.2 ∷ f.3 ∷ f.4 ∷ f.5 ∷ f.6 ∷ f.7 ∷ f.8 ∷ []) refl refl refl ok known (ap (drop 4) is))) other ok' same
own_spelling one other ok ok' same = absurd ok
