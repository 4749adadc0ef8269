-- The first wrong line is the first of the first wrong `slot` line, the first missed `sent` line and the first wrong total.
use Rattle.std.proofs.Common.{◌≡◌, ◌≤◌, ◌+◌, ◌==◌, ◌&&◌, ◌||◌, not, nat_lt, ℕ, zero, suc, List, [], ◌∷◌, ◌++◌, length, drop, cond, Bool, true, false, Option, Some, None, refl, sym, ap, ◌∙◌, subst, inl, inr, arith}
use Rattle.std.specs.Prelude.{option_map}
use Rattle.std.specs.List.{list_any, slice_get, cons_option}
use Rattle.std.proofs.Math.Nat.{min-eq_left, min-eq_right}
use Rattle.std.proofs.lemmas.Bool.{cases_lt, cond-true, cond-false, eq-eqb, eqb-true, and_from, and_parts}
use Rattle.std.proofs.lemmas.List.Folds.{list_any-append}
use Rattle.greedy_rules.specs.Cells.{flow_of}
use Rattle.clos_topology.specs.Network.{Network}
use Rattle.report_text.specs.declared.line.Line.{Line}
use Rattle.report_text.specs.declared.line.Line.TheVariants as line
use Rattle.schedule_audit.specs.Lines.{Place, Path, path_of, sent_by_line, paths, sends_in_lines}
use Rattle.schedule_audit.specs.Wrong.{Expected, same_place, is_at, share_a_link, has_wrong_core, is_bad_path, is_bad_send, is_bad_flow, is_bad_count, is_wrong}
use Rattle.schedule_audit.specs.BadLines.{first_from}
use Rattle.schedule_audit.specs.Numbered.{Numbered, at_line, numbered_lines}
use Rattle.schedule_audit.specs.Totals.{Total, total_in_line, is_wrong_total, first_total}
use Rattle.schedule_audit.specs.Judged.{is_off, first_path, order_of, has_order, is_missed, earlier, line_if, first_missed}
use Rattle.schedule_audit.specs.Judging.{AreSmall}

-- ---- lines from a number on

abbrev AtLeast : ℕ → Option ℕ → Type 0
AtLeast n None = Unit {0}
AtLeast n (Some m) = n ≤ m

abbrev From : {X : Type 0} → ℕ → List (Numbered X) → Type 0
From n [] = Unit {0}
From n (l ∷ ls) = (n ≤ l.line) × From n ls

from-lower : {X : Type 0} (n m : ℕ) (ls : List (Numbered X)) → n ≤ m → From m ls → From n ls
from-lower n m [] le all = tt
from-lower n m (l ∷ ls) le all = ((let a = all.0 in omega (arith, le, a)), from-lower n m ls le all.1)

one-from : {X : Type 0} (n : ℕ) (o : Option X) (rest : List (Numbered X)) → From n rest → From n (cons_option (option_map (at_line n) o) rest)
one-from n None rest later = later
one-from n (Some x) rest later = (omega arith, later)

numbered-from : {X : Type 0} (says : Option Line → Option X) (n : ℕ) (lines : List (Option Line)) → From n (numbered_lines says n lines)
numbered-from says n [] = tt
numbered-from says n (l ∷ lines) = one-from n (says l) (numbered_lines says (n + 1) lines) (from-lower n (n + 1) (numbered_lines says (n + 1) lines) (omega arith) (numbered-from says (n + 1) lines))

cond-least : (n : ℕ) (b : Bool) (o p : Option ℕ) → AtLeast n o → AtLeast n p → AtLeast n (cond b o p)
cond-least n true o p one other = one
cond-least n false o p one other = other

path-least : (net : Network) (n : ℕ) (places : List Place) (before : List Path) (ps : List (Numbered Path)) → From n ps → AtLeast n (first_path net places before ps)
path-least net n places before [] all = tt
path-least net n [] before (p ∷ ps) all = all.0
path-least net n (place ∷ places) before (p ∷ ps) all =
    cond-least n (is_off net place before p.said) (Some p.line) (first_path net places (p.said ∷ before) ps) all.0 (path-least net n places (p.said ∷ before) ps all.1)

total-least : (wrong : Total → Bool) (n : ℕ) (ts : List (Numbered Total)) → From n ts → AtLeast n (first_total wrong ts)
total-least wrong n [] all = tt
total-least wrong n (t ∷ ts) all = cond-least n (wrong t.said) (Some t.line) (first_total wrong ts) all.0 (total-least wrong n ts all.1)

earlier-least : (n : ℕ) (o p : Option ℕ) → AtLeast n o → AtLeast n p → AtLeast n (earlier o p)
earlier-least n None p one other = other
earlier-least n (Some a) None one other = one
earlier-least n (Some a) (Some b) one other = elim (cases_lt a b) [
  | inl less ↦ subst (λ m. n ≤ m) (sym (min-eq_left (omega (arith, less)))) one
  | inr not_less ↦ subst (λ m. n ≤ m) (sym (min-eq_right not_less)) other
]

if-least : (n : ℕ) (b : Bool) (line : ℕ) → n ≤ line → AtLeast n (line_if b line)
if-least n true line le = le
if-least n false line le = tt

missed-least : (places : List Place) (n : ℕ) (front ss : List (Numbered Place)) → From n ss → AtLeast n (first_missed places front ss)
missed-least places n front [] all = tt
missed-least places n front (s ∷ ss) all =
    earlier-least n (line_if (is_missed places front s.said) s.line) (first_missed places (front ++ s ∷ []) ss) (if-least n (is_missed places front s.said) s.line all.0) (missed-least places n (front ++ s ∷ []) ss all.1)

-- one that comes first
comes-first : (n : ℕ) (o : Option ℕ) → AtLeast n o → earlier (Some n) o ≡ Some n
comes-first n None least = refl
comes-first n (Some m) least = ap (λ k. Some k) (min-eq_left least)

comes-last : (n : ℕ) (o : Option ℕ) → AtLeast n o → earlier o (Some n) ≡ Some n
comes-last n None least = refl
comes-last n (Some m) least = ap (λ k. Some k) (min-eq_right least)

lower-least : (n : ℕ) (o : Option ℕ) → AtLeast (n + 1) o → AtLeast n o
lower-least n None least = tt
lower-least n (Some m) least = omega (arith, least)

-- ---- the next place

off-there : (net : Network) (expected : Expected) (before : List Path) (p : Path) (k : ℕ) (places : List Place) → drop k expected.places ≡ places → k ≡ length before → (line : ℕ) (ps : List (Numbered Path))
    → first_path net places before (record { line = line; said = p } ∷ ps) ≡ cond (is_bad_path net expected before p) (Some line) (first_path net (drop (suc k) expected.places) (p ∷ before) ps)
off-there net expected before p k places is at line ps = subst (λ xs. first_path net xs before (record { line = line; said = p } ∷ ps) ≡ cond (is_bad_path net expected before p) (Some line) (first_path net (drop (suc k) expected.places) (p ∷ before) ps)) is
    (subst (λ n. first_path net (drop n expected.places) before (record { line = line; said = p } ∷ ps) ≡ cond (not (is_at (slice_get expected.places (length before)) p.place) || (has_wrong_core net p.place.flow p.core || list_any (share_a_link net p) before)) (Some line) (first_path net (drop (suc n) expected.places) (p ∷ before) ps)) (sym at)
    (by expected.places (length before)))
  where
    by : (xs : List Place) (n : ℕ) → first_path net (drop n xs) before (record { line = line; said = p } ∷ ps)
        ≡ cond (not (is_at (slice_get xs n) p.place) || (has_wrong_core net p.place.flow p.core || list_any (share_a_link net p) before)) (Some line) (first_path net (drop (suc n) xs) (p ∷ before) ps)
    by [] zero = refl
    by [] (suc n) = refl
    by (x ∷ xs) zero = refl
    by (x ∷ xs) (suc n) = by xs n

-- ---- the sends_in_lines so far

abbrev AreSame : List (Numbered Place) → List Place → Type 0
AreSame front before = (place : Place) → place.flow.src ≤ 65535 → has_order front place ≡ list_any (λ other. (other.slot == place.slot) && (other.flow.src == place.flow.src)) before

pub same-truth : (a b : Bool) → (a ≡ true → b ≡ true) → (b ≡ true → a ≡ true) → a ≡ b
same-truth true b there back = sym (there refl)
same-truth false true there back = back refl
same-truth false false there back = refl

order-same : (s p : Place) → s.flow.src ≤ 65535 → p.flow.src ≤ 65535 → (order_of s == order_of p) ≡ ((s.slot == p.slot) && (s.flow.src == p.flow.src))
order-same s p small_s small_p = same-truth (order_of s == order_of p) ((s.slot == p.slot) && (s.flow.src == p.flow.src))
    (λ is. let eq = eqb-true (order_of s) (order_of p) is in and_from (s.slot == p.slot) (s.flow.src == p.flow.src) (eq-eqb s.slot p.slot (omega (arith, eq, small_s, small_p))) (eq-eqb s.flow.src p.flow.src (omega (arith, eq, small_s, small_p))))
    (λ is. let parts = and_parts (s.slot == p.slot) (s.flow.src == p.flow.src) is in
    let slot = eqb-true s.slot p.slot parts.0 in
    let src = eqb-true s.flow.src p.flow.src parts.1 in eq-eqb (order_of s) (order_of p) (omega (arith, slot, src)))

turn : (a b : Bool) → (a || (b || false)) ≡ (b || a)
turn true true = refl
turn true false = refl
turn false true = refl
turn false false = refl

same-more : (front : List (Numbered Place)) (before : List Place) (line : ℕ) (s : Place) → s.flow.src ≤ 65535 → AreSame front before → AreSame (front ++ record { line = line; said = s } ∷ []) (s ∷ before)
same-more front before line s small same = λ place low.
    list_any-append (λ (l : Numbered Place). order_of l.said == order_of place) front (record { line = line; said = s } ∷ [])
    ∙ (ap (λ b. b || ((order_of s == order_of place) || false)) (same place low)
    ∙ (ap (λ b. list_any (λ (other : Place). (other.slot == place.slot) && (other.flow.src == place.flow.src)) before || (b || false)) (order-same s place small low)
    ∙ turn (list_any (λ (other : Place). (other.slot == place.slot) && (other.flow.src == place.flow.src)) before) ((s.slot == place.slot) && (s.flow.src == place.flow.src))))

bad-is-missed : (expected : Expected) (front : List (Numbered Place)) (before : List Place) (s : Place) → s.flow.src ≤ 65535 → AreSame front before → is_bad_send expected before s ≡ is_missed expected.places front s
bad-is-missed expected front before s small same =
    both (list_any (same_place s) expected.places) (list_any (λ (other : Place). (other.slot == s.slot) && (other.flow.src == s.flow.src)) before)
    ∙ ap (λ b. not (not b && list_any (same_place s) expected.places)) (sym (same s small))
  where
    both : (there had : Bool) → (not there || had) ≡ not (not had && there)
    both true true = refl
    both true false = refl
    both false true = refl
    both false false = refl

-- ---- the first wrong line

module _ (net : Network) (b : ℕ) (expected : Expected) (whole : List (Option Line)) where
  abbrev count : ℕ
  count = length (paths whole)

  abbrev path_from : List (Option Line) → ℕ → List (Option Line) → Option ℕ
  path_from before number lines = first_path net (drop (length (paths before)) expected.places) (paths before) (numbered_lines path_of number lines)

  abbrev send_from : List (Numbered Place) → ℕ → List (Option Line) → Option ℕ
  send_from front number lines = first_missed expected.places front (numbered_lines sent_by_line number lines)

  abbrev total_from : ℕ → List (Option Line) → Option ℕ
  total_from number lines = first_total (is_wrong_total b expected count) (numbered_lines total_in_line number lines)

  path-later : (places : List Place) (before : List Path) (number : ℕ) (lines : List (Option Line)) → AtLeast number (first_path net places before (numbered_lines path_of (number + 1) lines))
  path-later places before number lines = lower-least number _ (path-least net (number + 1) places before (numbered_lines path_of (number + 1) lines) (numbered-from path_of (number + 1) lines))

  send-later : (front : List (Numbered Place)) (number : ℕ) (lines : List (Option Line)) → AtLeast number (first_missed expected.places front (numbered_lines sent_by_line (number + 1) lines))
  send-later front number lines = lower-least number _ (missed-least expected.places (number + 1) front (numbered_lines sent_by_line (number + 1) lines) (numbered-from sent_by_line (number + 1) lines))

  total-later : (number : ℕ) (lines : List (Option Line)) → AtLeast number (total_from (number + 1) lines)
  total-later number lines = lower-least number _ (total-least (is_wrong_total b expected count) (number + 1) (numbered_lines total_in_line (number + 1) lines) (numbered-from total_in_line (number + 1) lines))

  abbrev Splits : List (Option Line) → List (Numbered Place) → ℕ → List (Option Line) → Type 0
  Splits before front number lines = first_from (is_wrong net b expected whole) number before lines ≡ earlier (path_from before number lines) (earlier (send_from front number lines) (total_from number lines))

  slot-line : (before lines : List (Option Line)) (front : List (Numbered Place)) (number : ℕ) (p : Path) (wrong : Bool) → is_bad_path net expected (paths before) p ≡ wrong → (then : Option ℕ)
      → then ≡ earlier (first_path net (drop (suc (length (paths before))) expected.places) (p ∷ paths before) (numbered_lines path_of (number + 1) lines)) (earlier (send_from front (number + 1) lines) (total_from (number + 1) lines))
      → cond (is_bad_path net expected (paths before) p) (Some number) then
      ≡ earlier (first_path net (drop (length (paths before)) expected.places) (paths before) (at_line number p ∷ numbered_lines path_of (number + 1) lines)) (earlier (send_from front (number + 1) lines) (total_from (number + 1) lines))
  slot-line before lines front number p true is then so =
      let step = off-there net expected (paths before) p (length (paths before)) (drop (length (paths before)) expected.places) refl refl number (numbered_lines path_of (number + 1) lines) in
      cond-true (is_bad_path net expected (paths before) p) (Some number) then is
      ∙ sym (ap (λ o. earlier o (earlier (send_from front (number + 1) lines) (total_from (number + 1) lines)))
      (step ∙ cond-true (is_bad_path net expected (paths before) p) (Some number) (first_path net (drop (suc (length (paths before))) expected.places) (p ∷ paths before) (numbered_lines path_of (number + 1) lines)) is)
      ∙ comes-first number (earlier (send_from front (number + 1) lines) (total_from (number + 1) lines)) (earlier-least number (send_from front (number + 1) lines) (total_from (number + 1) lines) (send-later front number lines) (total-later number lines)))
  slot-line before lines front number p false is then so =
      let step = off-there net expected (paths before) p (length (paths before)) (drop (length (paths before)) expected.places) refl refl number (numbered_lines path_of (number + 1) lines) in
      cond-false (is_bad_path net expected (paths before) p) (Some number) then is
      ∙ (so ∙ sym (ap (λ o. earlier o (earlier (send_from front (number + 1) lines) (total_from (number + 1) lines)))
      (step ∙ cond-false (is_bad_path net expected (paths before) p) (Some number) (first_path net (drop (suc (length (paths before))) expected.places) (p ∷ paths before) (numbered_lines path_of (number + 1) lines)) is)))

  sent-line : (before lines : List (Option Line)) (front : List (Numbered Place)) (number : ℕ) (s : Place) (wrong : Bool) → is_bad_send expected (sends_in_lines before) s ≡ wrong → s.flow.src ≤ 65535 → AreSame front (sends_in_lines before) → (then : Option ℕ)
      → then ≡ earlier (path_from before (number + 1) lines) (earlier (send_from (front ++ at_line number s ∷ []) (number + 1) lines) (total_from (number + 1) lines))
      → cond (is_bad_send expected (sends_in_lines before) s) (Some number) then
      ≡ earlier (path_from before (number + 1) lines) (earlier (earlier (line_if (is_missed expected.places front s) number) (send_from (front ++ at_line number s ∷ []) (number + 1) lines)) (total_from (number + 1) lines))
  sent-line before lines front number s true is small same then so =
      let P = path_from before (number + 1) lines in
      let S = send_from (front ++ at_line number s ∷ []) (number + 1) lines in
      let T = total_from (number + 1) lines in
      let missed : is_missed expected.places front s ≡ true = sym (bad-is-missed expected front (sends_in_lines before) s small same) ∙ is in
      cond-true (is_bad_send expected (sends_in_lines before) s) (Some number) then is
      ∙ sym (ap (λ x. earlier P (earlier (earlier (line_if x number) S) T)) missed
      ∙ (ap (λ o. earlier P (earlier o T)) (comes-first number S (send-later (front ++ at_line number s ∷ []) number lines))
      ∙ (ap (λ o. earlier P o) (comes-first number T (total-later number lines))
      ∙ comes-last number P (path-later (drop (length (paths before)) expected.places) (paths before) number lines))))
  sent-line before lines front number s false is small same then so =
      let P = path_from before (number + 1) lines in
      let S = send_from (front ++ at_line number s ∷ []) (number + 1) lines in
      let T = total_from (number + 1) lines in
      let missed : is_missed expected.places front s ≡ false = sym (bad-is-missed expected front (sends_in_lines before) s small same) ∙ is in
      cond-false (is_bad_send expected (sends_in_lines before) s) (Some number) then is ∙ (so ∙ sym (ap (λ x. earlier P (earlier (earlier (line_if x number) S) T)) missed))

  total-line : (before lines : List (Option Line)) (front : List (Numbered Place)) (number : ℕ) (wrong : Bool) (then : Option ℕ) → then ≡ earlier (path_from before (number + 1) lines) (earlier (send_from front (number + 1) lines) (total_from (number + 1) lines))
      → cond wrong (Some number) then ≡ earlier (path_from before (number + 1) lines) (earlier (send_from front (number + 1) lines) (cond wrong (Some number) (total_from (number + 1) lines)))
  total-line before lines front number true then so =
      sym (ap (λ o. earlier (path_from before (number + 1) lines) o) (comes-last number (send_from front (number + 1) lines) (send-later front number lines))
      ∙ comes-last number (path_from before (number + 1) lines) (path-later (drop (length (paths before)) expected.places) (paths before) number lines))
  total-line before lines front number false then so = so

  splits : (before lines : List (Option Line)) (front : List (Numbered Place)) (number : ℕ) → AreSmall lines → AreSame front (sends_in_lines before) → Splits before front number lines
  splits before [] front number small same = refl
  splits before (None ∷ lines) front number small same = splits (None ∷ before) lines front (number + 1) small.1 same
  splits before (Some (line.Slot slot src dst core) ∷ lines) front number small same =
      let p : Path = record { place = record { slot = slot; flow = flow_of src dst }; core = core } in
      slot-line before lines front number p (is_bad_path net expected (paths before) p) refl (first_from (is_wrong net b expected whole) (number + 1) (Some (line.Slot slot src dst core) ∷ before) lines)
      (splits (Some (line.Slot slot src dst core) ∷ before) lines front (number + 1) small.1 same)
  splits before (Some (line.Sent slot src dst) ∷ lines) front number small same =
      let s : Place = record { slot = slot; flow = flow_of src dst } in
      sent-line before lines front number s (is_bad_send expected (sends_in_lines before) s) refl small.0 same (first_from (is_wrong net b expected whole) (number + 1) (Some (line.Sent slot src dst) ∷ before) lines)
      (splits (Some (line.Sent slot src dst) ∷ before) lines (front ++ at_line number s ∷ []) (number + 1) small.1 (same-more front (sends_in_lines before) number s small.0 same))
  splits before (Some (line.Flow src dst demanded allocated pending) ∷ lines) front number small same =
      total-line before lines front number (is_bad_flow expected (flow_of src dst) demanded allocated pending) (first_from (is_wrong net b expected whole) (number + 1) (Some (line.Flow src dst demanded allocated pending) ∷ before) lines)
      (splits (Some (line.Flow src dst demanded allocated pending) ∷ before) lines front (number + 1) small.1 same)
  splits before (Some (line.Count src dst demanded acknowledged flight pending lost sent missed) ∷ lines) front number small same =
      total-line before lines front number (is_bad_count b expected (flow_of src dst) demanded acknowledged flight pending lost)
      (first_from (is_wrong net b expected whole) (number + 1) (Some (line.Count src dst demanded acknowledged flight pending lost sent missed) ∷ before) lines)
      (splits (Some (line.Count src dst demanded acknowledged flight pending lost sent missed) ∷ before) lines front (number + 1) small.1 same)
  splits before (Some (line.End rounds) ∷ lines) front number small same =
      total-line before lines front number (nat_lt count (length expected.places)) (first_from (is_wrong net b expected whole) (number + 1) (Some (line.End rounds) ∷ before) lines)
      (splits (Some (line.End rounds) ∷ before) lines front (number + 1) small.1 same)
  splits before (Some l ∷ lines) front number small same = splits (Some l ∷ before) lines front (number + 1) small.1 same

  pub first-of-all : AreSmall whole → first_from (is_wrong net b expected whole) 1 [] whole
      ≡ earlier (first_path net expected.places [] (numbered_lines path_of 1 whole)) (earlier (first_missed expected.places [] (numbered_lines sent_by_line 1 whole)) (first_total (is_wrong_total b expected count) (numbered_lines total_in_line 1 whole)))
  first-of-all small = splits [] whole [] 1 small (λ place low. refl)
