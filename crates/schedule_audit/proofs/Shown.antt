-- A text without a bad line shows its schedule.
use Rattle.std.proofs.Common.{◌≡◌, ◌≤◌, ◌+◌, nat_lt, ◌==◌, ◌||◌, not, ℕ, zero, suc, List, [], ◌∷◌, ◌++◌, map, drop, length, Bool, true, false, Option, Some, None, All, AllPairs, refl, sym, ap, ◌∙◌, inl, inr, arith}
use Rattle.std.specs.List.{list_any, slice_get}
use Rattle.std.proofs.lemmas.Bool.{cases_Bool, cond-false, or_parts, eqb-true, and_parts, ltb-false, not-false, false≢true}
use Rattle.std.proofs.lemmas.Option.{same_Some}
use Rattle.std.proofs.lemmas.List.{append-nil}
use Rattle.std.proofs.lemmas.List.Elements.{All-nil, All-cons}
use Rattle.list_facts.proofs.Pairs.{AllPairs-nil, AllPairs-cons}
use Rattle.clos_topology.specs.Network.{Network, endpoints_of}
use Rattle.greedy_rules.specs.declared.flows.Flow.{Flow}
use Rattle.greedy_rules.specs.Flows.{same_flow}
use Rattle.greedy_rules.proofs.Facts.{same_flow-true}
use Rattle.report_text.specs.declared.line.Line.{Line}
use Rattle.report_text.specs.declared.line.Line.TheVariants as line
use Rattle.schedule_audit.specs.Lines.{Place, Path, paths, places, ends}
use Rattle.schedule_audit.specs.Misplaced.{is_any, has_end, is_misplaced}
use Rattle.schedule_audit.specs.Wrong.{Expected, expected_of, same_place, is_at, share_a_link, has_wrong_core, is_wrong}
use Rattle.schedule_audit.specs.BadLines.{first_from, or_else, after_last, first_misplaced, first_wrong}
use Rattle.schedule_audit.specs.Laws.{GoodPaths}
use Rattle.schedule_audit.specs.Shown.{NoBadLineIsItsSchedule}
use Rattle.schedule_audit.proofs.Walk.{AllGood}
use Rattle.schedule_audit.proofs.Places.{NoShare}

-- ---- walks that find nothing

pub or_else-none : (one other : Option ℕ) → or_else one other ≡ None → (one ≡ None) × (other ≡ None)
or_else-none None other is = (refl, is)
or_else-none (Some n) other is = absurd (cc)

pub all_good : (bad : List (Option Line) → Option Line → Bool) (number : ℕ) (before lines : List (Option Line)) → first_from bad number before lines ≡ None → AllGood bad before lines
all_good bad number before [] none = tt
all_good bad number before (l ∷ later) none = elim (cases_Bool (bad before l)) [
  | inl is ↦ let some : Some number ≡ None = rw is at none in absurd (cc)
  | inr fine ↦ (fine, all_good bad (number + 1) (l ∷ before) later (rw fine at none))
]

pub ended : (lines : List (Option Line)) → after_last lines ≡ None → has_end lines ≡ true
ended lines none = elim (cases_Bool (has_end lines)) [
  | inl is ↦ is
  | inr never ↦ let some : Some (length lines + 1) ≡ None = sym (cond-false (has_end lines) None (Some (length lines + 1)) never) ∙ none in absurd (cc)
]

-- ---- the lines that allocate

good_paths : (net : Network) (b : ℕ) (expected : Expected) (whole before lines : List (Option Line)) → AllGood (is_wrong net b expected whole) before lines → GoodPaths net expected (paths before) (paths lines)
good_paths net b expected whole before [] all = tt
good_paths net b expected whole before (None ∷ lines) all = good_paths net b expected whole (None ∷ before) lines all.1
good_paths net b expected whole before (Some (line.Slot slot src dst core) ∷ lines) all = (all.0, good_paths net b expected whole (Some (line.Slot slot src dst core) ∷ before) lines all.1)
good_paths net b expected whole before (Some l ∷ lines) all = good_paths net b expected whole (Some l ∷ before) lines all.1

-- ---- and the end

enough : (net : Network) (b : ℕ) (expected : Expected) (whole before lines : List (Option Line)) → AllGood (is_wrong net b expected whole) before lines → is_any (ends lines) ≡ true → nat_lt (length (paths whole)) (length expected.places) ≡ false
enough net b expected whole before [] all some = absurd (false≢true some)
enough net b expected whole before (None ∷ lines) all some = enough net b expected whole (None ∷ before) lines all.1 some
enough net b expected whole before (Some (line.End rounds) ∷ lines) all some = all.0
enough net b expected whole before (Some l ∷ lines) all some = enough net b expected whole (Some l ∷ before) lines all.1 some

-- ---- what good paths are

pub place-true : (p q : Place) → same_place p q ≡ true → p ≡ q
place-true p q same =
    let parts = and_parts (p.slot == q.slot) (same_flow p.flow q.flow) same in
    ap (λ (n : ℕ). record { slot = n; flow = p.flow }) (eqb-true p.slot q.slot parts.0) ∙ ap (λ (f : Flow). record { slot = q.slot; flow = f }) (same_flow-true p.flow q.flow parts.1)

at-true : (o : Option Place) (p : Place) → is_at o p ≡ true → o ≡ Some p
at-true None p none = absurd (false≢true none)
at-true (Some q) p same = ap (λ (x : Place). Some x) (place-true q p same)

drop-get : (n : ℕ) (xs : List Place) (x : Place) → slice_get xs n ≡ Some x → drop n xs ≡ x ∷ drop (suc n) xs
drop-get n [] x is = absurd (cc)
drop-get zero (y ∷ xs) x is = ap (λ (z : Place). z ∷ xs) (same_Some y x is)
drop-get (suc n) (y ∷ xs) x is = drop-get n xs x is

-- the next of the places, one after the other
in_order : (net : Network) (expected : Expected) (before ps : List Path) → GoodPaths net expected before ps → drop (length before) expected.places ≡ map (λ (p : Path). p.place) ps ++ drop (length before + length ps) expected.places
in_order net expected before [] good = ap (λ n. drop n expected.places) (omega arith)
in_order net expected before (p ∷ ps) good =
    let parts = or_parts (not (is_at (slice_get expected.places (length before)) p.place)) (has_wrong_core net p.place.flow p.core || list_any (share_a_link net p) before) good.0 in
    let here : slice_get expected.places (length before) ≡ Some p.place = at-true (slice_get expected.places (length before)) p.place (not-false (is_at (slice_get expected.places (length before)) p.place) parts.0) in
    let same : suc (length before) + length ps ≡ length before + suc (length ps) = omega arith in
    drop-get (length before) expected.places p.place here
    ∙ (ap (λ xs. p.place ∷ xs) (in_order net expected (p ∷ before) ps good.1)
    ∙ ap (λ n. p.place ∷ (map (λ (x : Path). x.place) ps ++ drop n expected.places)) same)

drop-past : (n : ℕ) (xs : List Place) → length xs ≤ n → drop n xs ≡ []
drop-past zero [] le = refl
drop-past (suc n) [] le = refl
drop-past zero (x ∷ xs) le = absurd (omega arith)
drop-past (suc n) (x ∷ xs) le = drop-past n xs (omega arith)

with_cores : (net : Network) (expected : Expected) (before ps : List Path) → GoodPaths net expected before ps → All (λ (p : Path). has_wrong_core net p.place.flow p.core ≡ false) ps
with_cores net expected before [] good = All-nil (λ (p : Path). has_wrong_core net p.place.flow p.core ≡ false)
with_cores net expected before (p ∷ ps) good =
    let parts = or_parts (not (is_at (slice_get expected.places (length before)) p.place)) (has_wrong_core net p.place.flow p.core || list_any (share_a_link net p) before) good.0 in
    All-cons (λ (x : Path). has_wrong_core net x.place.flow x.core ≡ false) p ps (or_parts (has_wrong_core net p.place.flow p.core) (list_any (share_a_link net p) before) parts.1).0 (with_cores net expected (p ∷ before) ps good.1)

none-of : (f : Path → Bool) (xs : List Path) → list_any f xs ≡ false → All (λ x. f x ≡ false) xs
none-of f [] none = All-nil (λ (x : Path). f x ≡ false)
none-of f (x ∷ xs) none = let parts = or_parts (f x) (list_any f xs) none in All-cons (λ (y : Path). f y ≡ false) x xs parts.0 (none-of f xs parts.1)

-- no path shares a link with those before it
after_all : (net : Network) (expected : Expected) (p : Path) (before ps : List Path) → GoodPaths net expected before ps → ((q : Path) → list_any (share_a_link net q) before ≡ false → NoShare net p q) → All (NoShare net p) ps
after_all net expected p before [] good from = All-nil (NoShare net p)
after_all net expected p before (q ∷ ps) good from =
    let parts = or_parts (not (is_at (slice_get expected.places (length before)) q.place)) (has_wrong_core net q.place.flow q.core || list_any (share_a_link net q) before) good.0 in
    let none = (or_parts (has_wrong_core net q.place.flow q.core) (list_any (share_a_link net q) before) parts.1).1 in
    All-cons (NoShare net p) q ps (from q none)
    (after_all net expected p (q ∷ before) ps good.1 (λ x share. from x (or_parts (share_a_link net x q) (list_any (share_a_link net x) before) share).1))

apart : (net : Network) (expected : Expected) (before ps : List Path) → GoodPaths net expected before ps → AllPairs (NoShare net) ps
apart net expected before [] good = AllPairs-nil (NoShare net)
apart net expected before (p ∷ ps) good =
    AllPairs-cons (NoShare net) p ps
    (after_all net expected p (p ∷ before) ps good.1 (λ q share. (or_parts (share_a_link net q p) (list_any (share_a_link net q) before) share).0))
    (apart net expected (p ∷ before) ps good.1)

-- ---- all of it

pub shows_its_schedule : NoBadLineIsItsSchedule
shows_its_schedule net b lines none =
    let expected : Expected = expected_of net b lines in
    let two = or_else-none (first_misplaced (endpoints_of net) lines) (first_wrong net b lines) none in
    let one = or_else-none (first_from (is_misplaced (endpoints_of net) lines) 1 [] lines) (after_last lines) two.0 in
    let all = all_good (is_wrong net b expected lines) 1 [] lines two.1 in
    let good : GoodPaths net expected [] (paths lines) = good_paths net b expected lines [] lines all in
    let many = enough net b expected lines [] lines all (ended lines one.1) in
    let long : length expected.places ≤ length (paths lines) = ltb-false (length (paths lines)) (length expected.places) many in
    record {
      scheduled = sym (in_order net expected [] (paths lines) good
          ∙ (ap (λ (n : ℕ). places lines ++ drop n expected.places) (omega arith)
          ∙ (ap (λ (xs : List Place). places lines ++ xs) (drop-past (length (paths lines)) expected.places long) ∙ append-nil (places lines))));
      cores = with_cores net expected [] (paths lines) good;
      apart = apart net expected [] (paths lines) good;
    }
