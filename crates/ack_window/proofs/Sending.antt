-- What a send and a reading change of the unresolved numbers.
use Rattle.std.proofs.Common.{◌≡◌, ◌≢◌, ℕ, suc, ◌+◌, ◌-◌, ◌<◌, ◌≤◌, Bool, true, false, ◌&&◌, not, cond, nat_lt, List, [], ◌∷◌, ◌++◌, length, take, drop, get_or, filter, Option, Some, None, is_none, sym, ◌∙◌, ap, subst, refl, inl, inr, arith, append_assoc, append-nil, drop-drop}
use Rattle.std.specs.List.{All}
use Rattle.std.specs.Option.{option_map}
use Rattle.std.proofs.lemmas.Bool.{cases_lt, cases_eq, cond-true, cond-false, leb-true, le-leb, lt-ltb, le-ltb, ne_eqb}
use Rattle.std.proofs.lemmas.List.{take-append-drop}
use Rattle.std.proofs.lemmas.List.Elements.{All-push, All-filter, filter-append, filter_map-append}
use Rattle.ack_window.specs.declared.send_window.Decided.{Decided}
use Rattle.ack_window.specs.declared.send_window.Unresolved.{Unresolved}
use Rattle.ack_window.specs.declared.acknowledgement.Acknowledgement.{Acknowledgement}
use Rattle.ack_window.specs.declared.acknowledgement.Decision.{Decision}
use Rattle.ack_window.specs.declared.acknowledgement.Decision.TheVariants.{Acknowledged, Lost}
use Rattle.ack_window.specs.Acknowledgement.{is_lost, shows, finds_lost, decision_by, decision_read}
use Rattle.ack_window.specs.Kept.{RisesWithin, last_number, IsKept}
use Rattle.ack_window.specs.Outstanding.{Outstanding, may_send_new, decided_in, left_in}
use Rattle.ack_window.specs.Sends.{Event, Sends, Reads, first_decision, newest_of, newest_content, numbers_sent, decided_by, decision_of, open_numbers, StandsForSends}

-- ---- numbers that rise

pub RisesWithin-length : {T : Type 0} (low high : ℕ) (xs : List (Unresolved T)) → low ≤ high + 1 → RisesWithin low high xs → length xs + low ≤ high + 1
RisesWithin-length low high [] room rises = omega arith
RisesWithin-length low high (s ∷ rest) room rises =
    let after : length rest + (s.number + 1) ≤ high + 1 = RisesWithin-length (s.number + 1) high rest (let last = rises.1 in omega arith) rises.2 in
    let first = rises.0 in
    omega arith

pub RisesWithin-weaker : {T : Type 0} (low high low' high' : ℕ) (xs : List (Unresolved T)) → low' ≤ low → high ≤ high' → RisesWithin low high xs → RisesWithin low' high' xs
RisesWithin-weaker low high low' high' [] below above rises = tt
RisesWithin-weaker low high low' high' (s ∷ rest) below above rises =
    (let first = rises.0 in omega arith, let last = rises.1 in omega arith, RisesWithin-weaker (s.number + 1) high (s.number + 1) high' rest (omega arith) above rises.2)

pub RisesWithin-push : {T : Type 0} (low high number : ℕ) (content : T) (xs : List (Unresolved T)) → low ≤ number → high < number → RisesWithin low high xs →
    RisesWithin low number (xs ++ record { number = number; content = content } ∷ [])
RisesWithin-push low high number content [] below above rises = (below, omega arith, tt)
RisesWithin-push low high number content (s ∷ rest) below above rises =
    (rises.0, let last = rises.1 in omega arith, RisesWithin-push (s.number + 1) high number content rest (let last = rises.1 in omega arith) above rises.2)

pub RisesWithin-filter : {T : Type 0} (test : Unresolved T → Bool) (low high : ℕ) (xs : List (Unresolved T)) → RisesWithin low high xs → RisesWithin low high (filter test xs)
RisesWithin-filter test low high [] rises = tt
RisesWithin-filter test low high (s ∷ rest) rises =
    let after = RisesWithin-filter test (s.number + 1) high rest rises.2 in
    let first = rises.0 in
    elim (test s) as (λ b. RisesWithin low high (cond b (s ∷ filter test rest) (filter test rest))) [
      | true ↦ (rises.0, rises.1, after)
      | false ↦ RisesWithin-weaker (s.number + 1) high low high (filter test rest) (omega arith) (omega arith) after
    ]

pub RisesWithin-tail : {T : Type 0} (low high : ℕ) (xs : List (Unresolved T)) → RisesWithin low high xs → RisesWithin low high (drop 1 xs)
RisesWithin-tail low high [] rises = tt
RisesWithin-tail low high (s ∷ rest) rises = RisesWithin-weaker (s.number + 1) high low high rest (let first = rises.0 in omega arith) (omega arith) rises.2

pub last_number-push : {T : Type 0} (xs : List (Unresolved T)) (x : Unresolved T) → last_number (xs ++ x ∷ []) ≡ x.number
last_number-push [] x = refl
last_number-push (s ∷ []) x = refl
last_number-push (s ∷ t ∷ rest) x = last_number-push (t ∷ rest) x

-- ---- a new number

pub within_span : {T : Type 0} (span newest : ℕ) (xs : List (Unresolved T)) → may_send_new span newest xs ≡ true → RisesWithin (newest - span) newest xs → RisesWithin (newest + 1 - span) newest xs
within_span span newest [] may rises = tt
within_span span newest (s ∷ rest) may rises =
    let near = leb-true (newest + 1) (s.number + span) may in
    (omega arith, rises.1, rises.2)

pub IsKept-push : {T : Type 0} (reorder span newest : ℕ) (content : T) (xs : List (Unresolved T)) → IsKept reorder span newest xs → may_send_new span newest xs ≡ true →
    IsKept reorder span (newest + 1) (xs ++ record { number = newest + 1; content = content } ∷ [])
IsKept-push reorder span newest content xs kept may = record {
  within = RisesWithin-push (newest + 1 - span) newest (newest + 1) content xs (omega arith) (omega arith) (within_span span newest xs may kept.within);
  once_resolved = λ other. absurd (other (last_number-push xs (record { number = newest + 1; content = content })));
}

pub length-may_send : {T : Type 0} (span newest : ℕ) (xs : List (Unresolved T)) → 1 ≤ span → may_send_new span newest xs ≡ true → RisesWithin (newest - span) newest xs → length xs ≤ span
length-may_send span newest xs some may rises =
    let few = RisesWithin-length (newest + 1 - span) newest xs (omega arith) (within_span span newest xs may rises) in
    omega arith

-- ---- the numbers above an acknowledgement's high

pub decision_by-above : (reorder span : ℕ) (a : Acknowledgement) (number : ℕ) → a.high < number → decision_by reorder span a number ≡ None
decision_by-above reorder span a number above =
    let hidden : shows span a number ≡ false = grind (arith, ne_eqb number a.high, le-ltb number a.high) in
    let kept : finds_lost reorder span a number ≡ false = ap (λ b. b && not (shows span a number)) (le-ltb (number + reorder) a.high (omega arith)) in
    cond-false (shows span a number) (Some Acknowledged) (cond (finds_lost reorder span a number) (Some Lost) None) hidden
    ∙ cond-false (finds_lost reorder span a number) (Some Lost) None kept

pub decided_in-above : {T : Type 0} (reorder span : ℕ) (a : Acknowledgement) (low high : ℕ) (xs : List (Unresolved T)) → a.high < low → RisesWithin low high xs →
    decided_in (decision_by reorder span a) xs ≡ []
decided_in-above reorder span a low high [] above rises = refl
decided_in-above reorder span a low high (s ∷ rest) above rises =
    let first = rises.0 in
    rw (decision_by-above reorder span a s.number (omega arith)) (decided_in-above reorder span a (s.number + 1) high rest (omega arith) rises.2)

pub left_in-above : {T : Type 0} (reorder span : ℕ) (a : Acknowledgement) (low high : ℕ) (xs : List (Unresolved T)) → a.high < low → RisesWithin low high xs →
    left_in (decision_by reorder span a) xs ≡ xs
left_in-above reorder span a low high [] above rises = refl
left_in-above reorder span a low high (s ∷ rest) above rises =
    let first = rises.0 in
    rw (decision_by-above reorder span a s.number (omega arith)) (ap (λ ys. s ∷ ys) (left_in-above reorder span a (s.number + 1) high rest (omega arith) rises.2))

-- ---- one number after the other

-- what decided_in makes of each number, and which ones left_in keeps
abbrev decided : {T : Type 0} → (ℕ → Option Decision) → Unresolved T → Option (Decided T)
decided decision s = option_map (λ d. record { number = s.number; lost = is_lost d; content = s.content }) (decision s.number)

abbrev undecided : {T : Type 0} → (ℕ → Option Decision) → Unresolved T → Bool
undecided decision s = is_none (decision s.number)

-- of all numbers, those before a place are judged
pub record HasJudged {T : Type 0} (decision : ℕ → Option Decision) (before found : List (Decided T)) (all unresolved : List (Unresolved T)) (at : ℕ) : Type 0 where
  pub told : found ++ decided_in decision (drop at unresolved) ≡ before ++ decided_in decision all
  pub kept : take at unresolved ++ left_in decision (drop at unresolved) ≡ left_in decision all

pub HasJudged-more : {T : Type 0} (decision : ℕ → Option Decision) (before found found' : List (Decided T)) (all unresolved unresolved' : List (Unresolved T)) (at at' : ℕ) →
    HasJudged decision before found all unresolved at →
    found' ≡ found ++ decided_in decision (take 1 (drop at unresolved)) →
    take at' unresolved' ≡ take at unresolved ++ left_in decision (take 1 (drop at unresolved)) →
    drop at' unresolved' ≡ drop (at + 1) unresolved →
    HasJudged decision before found' all unresolved' at'
HasJudged-more decision before found found' all unresolved unresolved' at at' judged finds keeps rest =
    let ahead = drop at unresolved in
    let rest' : drop at' unresolved' ≡ drop 1 ahead = rest ∙ sym (drop-drop 1 at unresolved) in
    let whole : take 1 ahead ++ drop 1 ahead ≡ ahead = take-append-drop 1 ahead in
    record {
      told =
          ap (λ xs. xs ++ decided_in decision (drop at' unresolved')) finds
          ∙ ap (λ xs. (found ++ decided_in decision (take 1 ahead)) ++ decided_in decision xs) rest'
          ∙ append_assoc found (decided_in decision (take 1 ahead)) (decided_in decision (drop 1 ahead))
          ∙ ap (λ ys. found ++ ys) (sym (filter_map-append (decided decision) (take 1 ahead) (drop 1 ahead)))
          ∙ ap (λ xs. found ++ decided_in decision xs) whole
          ∙ judged.told;
      kept =
          ap (λ xs. xs ++ left_in decision (drop at' unresolved')) keeps
          ∙ ap (λ xs. (take at unresolved ++ left_in decision (take 1 ahead)) ++ left_in decision xs) rest'
          ∙ append_assoc (take at unresolved) (left_in decision (take 1 ahead)) (left_in decision (drop 1 ahead))
          ∙ ap (λ ys. take at unresolved ++ ys) (sym (filter-append (undecided decision) (take 1 ahead) (drop 1 ahead)))
          ∙ ap (λ xs. take at unresolved ++ left_in decision xs) whole
          ∙ judged.kept;
    }

pub HasJudged-all : {T : Type 0} (reorder span : ℕ) (a : Acknowledgement) (before found : List (Decided T)) (all unresolved : List (Unresolved T)) (at high : ℕ) →
    HasJudged (decision_by reorder span a) before found all unresolved at → RisesWithin (a.high + 1) high (drop at unresolved) →
    (found ≡ before ++ decided_in (decision_by reorder span a) all) × (unresolved ≡ left_in (decision_by reorder span a) all)
HasJudged-all reorder span a before found all unresolved at high judged past = (
  sym (append-nil found) ∙ ap (λ ys. found ++ ys) (sym (decided_in-above reorder span a (a.high + 1) high (drop at unresolved) (omega arith) past)) ∙ judged.told,
  sym (take-append-drop at unresolved) ∙ ap (λ ys. take at unresolved ++ ys) (sym (left_in-above reorder span a (a.high + 1) high (drop at unresolved) (omega arith) past)) ∙ judged.kept,
)

-- ---- what is left unresolved

pub decided_in-none : {T : Type 0} (decision : ℕ → Option Decision) (none : (n : ℕ) → decision n ≡ None) (xs : List (Unresolved T)) → decided_in decision xs ≡ []
decided_in-none decision none [] = refl
decided_in-none decision none (s ∷ rest) = rw (none s.number) (decided_in-none decision none rest)

pub left_in-none : {T : Type 0} (decision : ℕ → Option Decision) (none : (n : ℕ) → decision n ≡ None) (xs : List (Unresolved T)) → left_in decision xs ≡ xs
left_in-none decision none [] = refl
left_in-none decision none (s ∷ rest) = rw (none s.number) (ap (λ ys. s ∷ ys) (left_in-none decision none rest))

pub decided_in-same : {T : Type 0} (d e : ℕ → Option Decision) (same : (n : ℕ) → d n ≡ e n) (xs : List (Unresolved T)) → decided_in d xs ≡ decided_in e xs
decided_in-same d e same [] = refl
decided_in-same d e same (s ∷ rest) = rw (same s.number, decided_in-same d e same rest)

pub left_in-same : {T : Type 0} (d e : ℕ → Option Decision) (same : (n : ℕ) → d n ≡ e n) (xs : List (Unresolved T)) → left_in d xs ≡ left_in e xs
left_in-same d e same [] = refl
left_in-same d e same (s ∷ rest) = rw (same s.number, left_in-same d e same rest)

-- a number further below the high is decided
decided-far : (reorder span : ℕ) (a : Acknowledgement) (number : ℕ) → number + reorder < a.high → is_none (decision_by reorder span a number) ≡ false
decided-far reorder span a number far = rw (lt-ltb (number + reorder) a.high far) (either_way (shows span a number))
  where
    either_way : (shown : Bool) → is_none (cond shown (Some Acknowledged) (cond (not shown) (Some Lost) None)) ≡ false
    either_way true = refl
    either_way false = refl

-- what is left is at most reorder below the high
pub left_in-near : {T : Type 0} (reorder span : ℕ) (a : Acknowledgement) (low high : ℕ) (xs : List (Unresolved T)) → RisesWithin low high xs →
    RisesWithin (a.high - reorder) high (left_in (decision_by reorder span a) xs)
left_in-near reorder span a low high [] rises = tt
left_in-near reorder span a low high (s ∷ rest) rises =
    let after = left_in-near reorder span a (s.number + 1) high rest rises.2 in
    let tail = RisesWithin-filter (undecided (decision_by reorder span a)) (s.number + 1) high rest rises.2 in
    elim (cases_lt (s.number + reorder) a.high) [
      | inl far ↦ rw (decided-far reorder span a s.number far) after
      | inr near ↦
          elim (undecided (decision_by reorder span a) s) as (λ b. RisesWithin (a.high - reorder) high (cond b (s ∷ left_in (decision_by reorder span a) rest) (left_in (decision_by reorder span a) rest))) [
            | true ↦ (omega arith, rises.1, tail)
            | false ↦ after
          ]
    ]

-- a decided number isn't above the high
pub high-decided : (reorder span : ℕ) (a : Acknowledgement) (number : ℕ) (decision : Decision) → decision_by reorder span a number ≡ Some decision → number ≤ a.high
high-decided reorder span a number decision decided =
    elim (cases_lt a.high number) [
      | inl above ↦ let none = decision_by-above reorder span a number above in absurd (cc)
      | inr below ↦ below
    ]

last_number-cons : {T : Type 0} (s : Unresolved T) (xs : List (Unresolved T)) (n : ℕ) → 1 ≤ n → last_number xs ≡ n → last_number (s ∷ xs) ≡ n
last_number-cons s [] n some last = absurd (omega arith)
last_number-cons s (t ∷ rest) n some last = last

-- the last number stays last where nothing is decided of it
pub last_number-left : {T : Type 0} (decision : ℕ → Option Decision) (xs : List (Unresolved T)) (n : ℕ) → 1 ≤ n → last_number xs ≡ n → decision n ≡ None → last_number (left_in decision xs) ≡ n
last_number-left decision [] n some last none = last
last_number-left decision (s ∷ []) n some last none =
    let here : decision s.number ≡ None = ap decision last ∙ none in
    rw here last
last_number-left decision (s ∷ t ∷ rest) n some last none =
    let after = last_number-left decision (t ∷ rest) n some last none in
    elim (is_none (decision s.number)) as (λ b. last_number (cond b (s ∷ left_in decision (t ∷ rest)) (left_in decision (t ∷ rest))) ≡ n) [
      | true ↦ last_number-cons s (left_in decision (t ∷ rest)) n some after
      | false ↦ after
    ]

pub IsKept-read : {T : Type 0} (reorder span newest : ℕ) (a : Acknowledgement) (xs : List (Unresolved T)) → IsKept reorder span newest xs → a.high ≤ newest →
    IsKept reorder span newest (left_in (decision_by reorder span a) xs)
IsKept-read reorder span newest a xs kept known = record {
  within = RisesWithin-filter (undecided (decision_by reorder span a)) (newest - span) newest xs kept.within;
  once_resolved = λ other.
      elim (cases_eq (last_number xs) newest) [
        | inr resolved ↦ RisesWithin-filter (undecided (decision_by reorder span a)) (newest - reorder) newest xs (kept.once_resolved resolved)
        | inl last ↦
            elim (cases_lt 0 newest) [
              | inr nothing ↦ RisesWithin-weaker (newest - span) newest (newest - reorder) newest _ (omega arith) (omega arith) (RisesWithin-filter (undecided (decision_by reorder span a)) (newest - span) newest xs kept.within)
              | inl some ↦ now other last some (decision_by reorder span a newest) refl
            ]
      ];
}
  where
    now : last_number (left_in (decision_by reorder span a) xs) ≢ newest → last_number xs ≡ newest → 0 < newest → (o : Option Decision) → decision_by reorder span a newest ≡ o →
        RisesWithin (newest - reorder) newest (left_in (decision_by reorder span a) xs)
    now other last some None is = absurd (other (last_number-left (decision_by reorder span a) xs newest (omega arith) last is))
    now other last some (Some d) is =
        let reached = high-decided reorder span a newest d is in
        RisesWithin-weaker (a.high - reorder) newest (newest - reorder) newest _ (omega arith) (omega arith) (left_in-near reorder span a (newest - span) newest xs kept.within)

-- ---- histories

-- no number above the newest is decided
pub decision_of-above : {T : Type 0} (reorder span : ℕ) (history : List (Event T)) (number : ℕ) → newest_of history < number → decision_of reorder span history number ≡ None
decision_of-above reorder span [] number above = refl
decision_of-above reorder span (Sends content ∷ earlier) number above = decision_of-above reorder span earlier number (omega arith)
decision_of-above reorder span (Reads a ∷ earlier) number above =
    rw (decision_of-above reorder span earlier number above)
    (elim (cases_lt (newest_of earlier) a.high) [
      | inl passed ↦ cond-true (nat_lt (newest_of earlier) a.high) None (decision_by reorder span a number) (lt-ltb (newest_of earlier) a.high passed)
      | inr read ↦
          cond-false (nat_lt (newest_of earlier) a.high) None (decision_by reorder span a number) (le-ltb (newest_of earlier) a.high read)
          ∙ decision_by-above reorder span a number (omega arith)
    ])

pub open_numbers-Sends : {T : Type 0} (reorder span : ℕ) (content : T) (history : List (Event T)) →
    open_numbers reorder span (Sends content ∷ history) ≡ open_numbers reorder span history ++ record { number = newest_of history + 1; content = content } ∷ []
open_numbers-Sends {T} reorder span content history =
    let number = newest_of history + 1 in
    let new : List (Unresolved T) = record { number = number; content = content } ∷ [] in
    filter-append (undecided (decision_of reorder span history)) (numbers_sent history) new
    ∙ ap (λ b. open_numbers reorder span history ++ cond b new []) (ap is_none (decision_of-above reorder span history number (omega arith)))

filter-both : {X : Type 0} (p q both : X → Bool) (same : (x : X) → both x ≡ (p x && q x)) (xs : List X) → filter both xs ≡ filter q (filter p xs)
filter-both p q both same [] = refl
filter-both p q both same (x ∷ xs) =
    rw (same x, filter-both p q both same xs) (by_tests (p x))
  where
    by_tests : (here : Bool) → cond (here && q x) (x ∷ filter q (filter p xs)) (filter q (filter p xs)) ≡ filter q (cond here (x ∷ filter p xs) (filter p xs))
    by_tests true = refl
    by_tests false = refl

is_none-first : (d later : Option Decision) → is_none (first_decision d later) ≡ (is_none d && is_none later)
is_none-first None later = refl
is_none-first (Some d) later = refl

pub open_numbers-Reads : {T : Type 0} (reorder span : ℕ) (a : Acknowledgement) (history : List (Event T)) →
    open_numbers reorder span (Reads a ∷ history) ≡ left_in (decision_read reorder span (newest_of history) a) (open_numbers reorder span history)
open_numbers-Reads reorder span a history =
    filter-both (undecided (decision_of reorder span history)) (undecided (decision_read reorder span (newest_of history) a)) _
    (λ s. is_none-first (decision_of reorder span history s.number) (decision_read reorder span (newest_of history) a s.number))
    (numbers_sent history)

pub decision_read-passed : (reorder span newest : ℕ) (a : Acknowledgement) → newest < a.high → (n : ℕ) → decision_read reorder span newest a n ≡ None
decision_read-passed reorder span newest a passed n = cond-true (nat_lt newest a.high) None (decision_by reorder span a n) (lt-ltb newest a.high passed)

pub decision_read-read : (reorder span newest : ℕ) (a : Acknowledgement) → a.high ≤ newest → (n : ℕ) → decision_by reorder span a n ≡ decision_read reorder span newest a n
decision_read-read reorder span newest a read n = sym (cond-false (nat_lt newest a.high) None (decision_by reorder span a n) (le-ltb newest a.high read))

pub StandsForSends-send : {T : Type 0} (reorder span : ℕ) (window : Outstanding T) (content : T) (history : List (Event T)) → StandsForSends reorder span window history →
    may_send_new span window.newest window.unresolved ≡ true →
    StandsForSends reorder span (record { newest = window.newest + 1; unresolved = window.unresolved ++ record { number = window.newest + 1; content = content } ∷ [] }) (Sends content ∷ history)
StandsForSends-send {T} reorder span window content history stands may = record {
  newest = ap (λ n. n + 1) stands.newest;
  unresolved =
      ap (λ n. window.unresolved ++ record { number = n + 1; content = content } ∷ []) stands.newest
      ∙ ap (λ xs. xs ++ record { number = newest_of history + 1; content = content } ∷ []) stands.unresolved
      ∙ sym (open_numbers-Sends reorder span content history);
  allowed =
      (sym (ap (λ n. may_send_new span n window.unresolved) stands.newest ∙ ap (λ xs. may_send_new span (newest_of history) xs) stands.unresolved) ∙ may, stands.allowed);
}

pub StandsForSends-read : {T : Type 0} (reorder span : ℕ) (window : Outstanding T) (a : Acknowledgement) (history : List (Event T)) → StandsForSends reorder span window history →
    a.high ≤ window.newest →
    StandsForSends reorder span (record { newest = window.newest; unresolved = left_in (decision_by reorder span a) window.unresolved }) (Reads a ∷ history)
StandsForSends-read reorder span window a history stands read =
    let top = stands.newest in
    record {
      newest = stands.newest;
      allowed = stands.allowed;
      unresolved =
          ap (λ xs. left_in (decision_by reorder span a) xs) stands.unresolved
          ∙ left_in-same (decision_by reorder span a) (decision_read reorder span (newest_of history) a) (decision_read-read reorder span (newest_of history) a (omega arith)) (open_numbers reorder span history)
          ∙ sym (open_numbers-Reads reorder span a history);
    }

pub StandsForSends-passed : {T : Type 0} (reorder span : ℕ) (window : Outstanding T) (a : Acknowledgement) (history : List (Event T)) → StandsForSends reorder span window history →
    window.newest < a.high → StandsForSends reorder span window (Reads a ∷ history)
StandsForSends-passed reorder span window a history stands passed =
    let top = stands.newest in
    record {
      newest = stands.newest;
      allowed = stands.allowed;
      unresolved =
          stands.unresolved
          ∙ sym (open_numbers-Reads reorder span a history
          ∙ left_in-none (decision_read reorder span (newest_of history) a) (decision_read-passed reorder span (newest_of history) a (omega arith)) (open_numbers reorder span history));
    }

-- ---- what is answered

pub decided_by-read : {T : Type 0} (reorder span : ℕ) (window : Outstanding T) (a : Acknowledgement) (history : List (Event T)) → StandsForSends reorder span window history →
    a.high ≤ window.newest → decided_in (decision_by reorder span a) window.unresolved ≡ decided_by reorder span history a
decided_by-read reorder span window a history stands read =
    let top = stands.newest in
    ap (λ xs. decided_in (decision_by reorder span a) xs) stands.unresolved
    ∙ decided_in-same (decision_by reorder span a) (decision_read reorder span (newest_of history) a) (decision_read-read reorder span (newest_of history) a (omega arith)) (open_numbers reorder span history)

pub decided_by-passed : {T : Type 0} (reorder span : ℕ) (window : Outstanding T) (a : Acknowledgement) (history : List (Event T)) → StandsForSends reorder span window history →
    window.newest < a.high → decided_by reorder span history a ≡ []
decided_by-passed reorder span window a history stands passed =
    let top = stands.newest in
    decided_in-none (decision_read reorder span (newest_of history) a) (decision_read-passed reorder span (newest_of history) a (omega arith)) (open_numbers reorder span history)

numbers_sent-below : {T : Type 0} (history : List (Event T)) → All (λ s. s.number ≤ newest_of history) (numbers_sent history)
numbers_sent-below [] = λ k d past. absurd (omega arith)
numbers_sent-below (Sends content ∷ earlier) =
    All-push (λ s. s.number ≤ newest_of earlier + 1) (numbers_sent earlier) _ (λ k d within. let below = numbers_sent-below earlier k d within in omega arith) (omega arith)
numbers_sent-below (Reads a ∷ earlier) = numbers_sent-below earlier

-- the newest number was sent with the newest content
numbers_sent-newest : {T : Type 0} (history : List (Event T)) → All (λ s. s.number ≡ newest_of history → newest_content history ≡ Some s.content) (numbers_sent history)
numbers_sent-newest [] = λ k d past. absurd (omega arith)
numbers_sent-newest (Sends content ∷ earlier) =
    All-push (λ s. s.number ≡ newest_of earlier + 1 → Some content ≡ Some s.content) (numbers_sent earlier) _
    (λ k d within. λ is. let below = numbers_sent-below earlier k d within in absurd (omega arith))
    (λ _. refl)
numbers_sent-newest (Reads a ∷ earlier) = numbers_sent-newest earlier

pub newest_content-at : {T : Type 0} (reorder span : ℕ) (window : Outstanding T) (history : List (Event T)) → StandsForSends reorder span window history →
    (at : ℕ) (x : Unresolved T) → at < length window.unresolved → x ≡ get_or window.unresolved at x → x.number ≡ window.newest → newest_content history ≡ Some x.content
newest_content-at {T} reorder span window history stands at x within here is =
    let P : Unresolved T → Type 0 = λ s. s.number ≡ newest_of history → newest_content history ≡ Some s.content in
    let open_ones : All P (open_numbers reorder span history) = All-filter (undecided (decision_of reorder span history)) P (numbers_sent history) (numbers_sent-newest history) in
    let all : All P window.unresolved = subst (λ (xs : List (Unresolved T)). All P xs) (sym stands.unresolved) open_ones in
    let it : P x = subst P (sym here) (all at x within) in
    it (is ∙ stands.newest)

pub last_number-at : {T : Type 0} (xs : List (Unresolved T)) (d : Unresolved T) → 1 ≤ length xs → (get_or xs (length xs - 1) d).number ≡ last_number xs
last_number-at [] d some = absurd (omega arith)
last_number-at (s ∷ []) d some = refl
last_number-at (s ∷ t ∷ rest) d some =
    let here : length (s ∷ t ∷ rest) - 1 ≡ suc (length (t ∷ rest) - 1) = omega arith in
    ap (λ k. (get_or (s ∷ t ∷ rest) k d).number) here ∙ last_number-at (t ∷ rest) d (omega arith)

-- where no new number may be sent, the newest is unresolved
pub last_number-full : {T : Type 0} (reorder span newest : ℕ) (xs : List (Unresolved T)) → reorder < span → IsKept reorder span newest xs → (may_send_new span newest xs ≡ true → ⊥) → last_number xs ≡ newest
last_number-full reorder span newest [] less kept full = absurd (full refl)
last_number-full reorder span newest (s ∷ rest) less kept full =
    elim (cases_eq (last_number (s ∷ rest)) newest) [
      | inl last ↦ last
      | inr resolved ↦
          let near = (kept.once_resolved resolved).0 in
          absurd (full (le-leb (newest + 1) (s.number + span) (omega arith)))
    ]
