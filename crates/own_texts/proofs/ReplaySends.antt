-- What the lines of a replay send is scheduled, and no endpoint sends_in_lines twice in a slot.
use Rattle.std.proofs.Common.{◌≡◌, ◌≢◌, ◌<◌, ◌≤◌, ◌+◌, ◌-◌, ◌==◌, ◌&&◌, ◌||◌, ℕ, zero, suc, List, [], ◌∷◌, ◌++◌, map, cond, count_by, Bool, true, false, All, AllPairs, refl, sym, ap, ◌∙◌, subst, inl, inr, arith}
use Rattle.std.specs.List.{list_any}
use Rattle.std.proofs.lemmas.Bool.{cond-true, and_from, or_left, or_right, or_cases, eq-eqb, false≢true}
use Rattle.std.proofs.lemmas.List.Elements.{All-nil, All-cons, All-head, All-tail}
use Rattle.std.proofs.lemmas.List.Sums.{sum_by-cons}
use Rattle.list_facts.proofs.Pairs.{AllPairs-nil, AllPairs-cons}
use Rattle.greedy_rules.specs.declared.flows.Flow.{Flow}
use Rattle.greedy_rules.specs.Flows.{same_flow}
use Rattle.greedy_rules.specs.Slot.{has_flow}
use Rattle.greedy_rules.specs.Schedule.{schedule, slot_in, slot_at}
use Rattle.greedy_rules.proofs.Facts.{same_flow-refl, same_flow-true}
use Rattle.report_text.specs.declared.line.Line.{Line}
use Rattle.report_text.specs.declared.line.Line.TheVariants as line
use Rattle.schedule_audit.specs.declared.packets.Place.{Place}
use Rattle.schedule_audit.specs.Lines.{sends_in_lines}
use Rattle.schedule_audit.specs.Wrong.{slot_places_from, same_place}
use Rattle.schedule_audit.specs.Laws.{read}
use Rattle.schedule_audit.proofs.Places.{Once}
use Rattle.trace_run.specs.Run.{Setting, replayed}
use Rattle.run_text.specs.Sends.{IsScheduledSend, is_send_in}

-- ---- a flow of a slot is a place of the schedule

any_left : (f : Place → Bool) (xs ys : List Place) → list_any f xs ≡ true → list_any f (xs ++ ys) ≡ true
any_left f [] ys some = absurd (false≢true some)
any_left f (x ∷ xs) ys some = elim (or_cases (f x) (list_any f xs) some) [
  | inl here ↦ or_left (f x) (list_any f (xs ++ ys)) here
  | inr there ↦ or_right (f x) (list_any f (xs ++ ys)) (any_left f xs ys there)
]

any_right : (f : Place → Bool) (xs ys : List Place) → list_any f ys ≡ true → list_any f (xs ++ ys) ≡ true
any_right f [] ys some = some
any_right f (x ∷ xs) ys some = or_right (f x) (list_any f (xs ++ ys)) (any_right f xs ys some)

abbrev place : ℕ → Flow → Place
place number flow = record { slot = number; flow = flow }

in_slot : (number : ℕ) (flow : Flow) (slot : List Flow) → has_flow slot flow ≡ true → list_any (same_place (place number flow)) (map (place number) slot) ≡ true
in_slot number flow [] none = absurd (false≢true none)
in_slot number flow (x ∷ slot) some = elim (or_cases (same_flow x flow) (has_flow slot flow) some) [
  | inl here ↦
      let same : x ≡ flow = same_flow-true x flow here in
      or_left (same_place (place number flow) (place number x)) (list_any (same_place (place number flow)) (map (place number) slot))
      (and_from (number == number) (same_flow flow x) (eq-eqb number number refl) (subst (λ (f : Flow). same_flow flow f ≡ true) (sym same) (same_flow-refl flow)))
  | inr there ↦ or_right (same_place (place number flow) (place number x)) (list_any (same_place (place number flow)) (map (place number) slot)) (in_slot number flow slot there)
]

in_places : (number at : ℕ) (flow : Flow) (slots : List (List Flow)) → has_flow (slot_in slots at) flow ≡ true → list_any (same_place (place (number + at) flow)) (slot_places_from number slots) ≡ true
in_places number at flow [] none = absurd (false≢true none)
in_places number zero flow (slot ∷ slots) some =
    let same : number ≡ number + 0 = omega arith in
    any_left (same_place (place (number + 0) flow)) (map (place number) slot) (slot_places_from (number + 1) slots)
    (subst (λ (n : ℕ). list_any (same_place (place n flow)) (map (place number) slot) ≡ true) same (in_slot number flow slot some))
in_places number (suc at) flow (slot ∷ slots) some =
    let same : number + 1 + at ≡ number + suc at = omega arith in
    any_right (same_place (place (number + suc at) flow)) (map (place number) slot) (slot_places_from (number + 1) slots)
    (subst (λ (n : ℕ). list_any (same_place (place n flow)) (slot_places_from (number + 1) slots) ≡ true) same (in_places (number + 1) at flow slots some))

-- ---- the sends_in_lines of lines

module _ (setting : Setting) (rounds : ℕ) where
  abbrev slots : List (List Flow)
  slots = schedule setting.b (replayed setting rounds).batches

  scheduled_place : (s : Place) → (0 < s.slot) × (has_flow (slot_at slots s.slot) s.flow ≡ true) → list_any (same_place s) (slot_places_from 1 slots) ≡ true
  scheduled_place s is =
      let there : 1 + (s.slot - 1) ≡ s.slot = let some = is.0 in omega arith in
      subst (λ (n : ℕ). list_any (same_place (place n s.flow)) (slot_places_from 1 slots) ≡ true) there (in_places 1 (s.slot - 1) s.flow slots is.1)

  pub sends_scheduled : (ls : List Line) → All (IsScheduledSend setting rounds) ls → All (λ s. list_any (same_place s) (slot_places_from 1 slots) ≡ true) (sends_in_lines (read ls))
  sends_scheduled [] all = All-nil (λ (s : Place). list_any (same_place s) (slot_places_from 1 slots) ≡ true)
  sends_scheduled (line.Sent slot src dst ∷ ls) all =
      let s : Place = place slot (record { src = src; dst = dst }) in
      All-cons (λ (t : Place). list_any (same_place t) (slot_places_from 1 slots) ≡ true) s (sends_in_lines (read ls)) (scheduled_place s (All-head (IsScheduledSend setting rounds) (line.Sent slot src dst) ls all))
      (sends_scheduled ls (All-tail (IsScheduledSend setting rounds) (line.Sent slot src dst) ls all))
  sends_scheduled (l ∷ ls) all = sends_scheduled ls (All-tail (IsScheduledSend setting rounds) l ls all)

-- the test of a line, as a number
abbrev one_of : ℕ → ℕ → Line → ℕ
one_of slot src l = cond (is_send_in slot src l) 1 0

counted : (slot src : ℕ) (l : Line) (ls : List Line) → count_by (is_send_in slot src) (l ∷ ls) ≡ one_of slot src l + count_by (is_send_in slot src) ls
counted slot src l ls = sum_by-cons (one_of slot src) l ls

own_send : (slot src dst : ℕ) → one_of slot src (line.Sent slot src dst) ≡ 1
own_send slot src dst = cond-true ((slot == slot) && (src == src)) 1 0 (and_from (slot == slot) (src == src) (eq-eqb slot slot refl) (eq-eqb src src refl))

-- where no line sends_in_lines so, no send is so
none_so : (s : Place) (ls : List Line) → count_by (is_send_in s.slot s.flow.src) ls ≡ 0 → All (Once s) (sends_in_lines (read ls))
none_so s [] none = All-nil (Once s)
none_so s (line.Sent slot src dst ∷ ls) none =
    let sum = counted s.slot s.flow.src (line.Sent slot src dst) ls in
    All-cons (Once s) (place slot (record { src = src; dst = dst })) (sends_in_lines (read ls))
    (λ same_slot same_src.
    let one : one_of s.slot s.flow.src (line.Sent slot src dst) ≡ 1 =
    cond-true ((slot == s.slot) && (src == s.flow.src)) 1 0 (and_from (slot == s.slot) (src == s.flow.src) (eq-eqb slot s.slot (sym same_slot)) (eq-eqb src s.flow.src (sym same_src))) in
    absurd (omega (arith, sum, none, one)))
    (none_so s ls (omega (arith, sum, none)))
none_so s (l ∷ ls) none = none_so s ls (omega (arith, none, counted s.slot s.flow.src l ls))

later_once : (l : Line) (ls : List Line) → ((slot src : ℕ) → count_by (is_send_in slot src) (l ∷ ls) ≤ 1) → (slot src : ℕ) → count_by (is_send_in slot src) ls ≤ 1
later_once l ls once slot src = omega (arith, once slot src, counted slot src l ls)

pub sends_once : (ls : List Line) → ((slot src : ℕ) → count_by (is_send_in slot src) ls ≤ 1) → AllPairs (λ (s t : Place). s.slot ≡ t.slot → s.flow.src ≢ t.flow.src) (sends_in_lines (read ls))
sends_once [] once = AllPairs-nil Once
sends_once (line.Sent slot src dst ∷ ls) once =
    let s : Place = place slot (record { src = src; dst = dst }) in
    AllPairs-cons Once s (sends_in_lines (read ls)) (none_so s ls (omega (arith, once slot src, counted slot src (line.Sent slot src dst) ls, own_send slot src dst)))
    (sends_once ls (later_once (line.Sent slot src dst) ls once))
sends_once (l ∷ ls) once = sends_once ls (later_once l ls once)
