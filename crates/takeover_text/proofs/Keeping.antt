-- What the lines of a takeover keep.
use Rattle.std.proofs.Common.{◌≡◌, ◌≢◌, ◌<◌, ◌≤◌, ◌+◌, ◌==◌, ◌&&◌, nat_lt, ℕ, zero, suc, Bool, true, false, List, [], ◌∷◌, ◌++◌, length, get_or, map, filter, cond, count_by, All, refl, sym, ap, ◌∙◌, subst, arith, inl, inr}
use Rattle.std.specs.Bool.{⊤}
use Rattle.std.specs.List.{AllPairs, list_any, range_with_len}
use Rattle.std.specs.Prelude.{reverse}
use Rattle.std.proofs.lemmas.Bool.{cond-true, cond-false, cond_both, cases_Bool, eqb-true, eq-eqb, and_from}
use Rattle.std.proofs.lemmas.List.Elements.{All-nil, All-cons, All-append, All-map, All-weaker}
use Rattle.list_facts.proofs.Pairs.{AllPairs-head, AllPairs-tail}
use Rattle.list_facts.proofs.Lists.{all_back, All-front, All-flat}
use Rattle.list_facts.proofs.Counting.{count-append, one_of, count-cons, count-none, count-map}
use Rattle.greedy_rules.specs.declared.flows.Flow.{Flow}
use Rattle.greedy_rules.specs.declared.flows.Entry.{Entry}
use Rattle.greedy_rules.specs.Flows.{same_flow}
use Rattle.greedy_rules.specs.Schedule.{first_slot, slot_in}
use Rattle.greedy_rules.specs.Slot.{has_flow}
use Rattle.greedy_rules.specs.Cells.{flow_of}
use Rattle.report_text.specs.declared.line.Line.{Line}
use Rattle.report_text.specs.declared.line.Line.TheVariants as line
use Rattle.text_output.specs.Text.{entry_line, slot_line, slots_lines}
use Rattle.text_output.proofs.TextLemmas.{IsNoSend}
use Rattle.takeover_history.specs.declared.event.Event.{Event}
use Rattle.takeover_history.specs.Events.{PairSetting, BatchIssue, Fact, Log}
use Rattle.takeover_history.specs.Events as fact
use Rattle.takeover_history.specs.Endpoints.{asked_of_flow, issues, Send, sends_of_flow, sends_at, sent}
use Rattle.takeover_history.specs.Laws.{flows_sent_in, IsPublished}
use Rattle.takeover_history.specs.Steps.{log_of}
use Rattle.takeover_history.proofs.Sends.{found}
use Rattle.takeover_core.specs.Promised.{IsPromised}
use Rattle.takeover_text.specs.Lines.{no_cores, send_line, lines_of, takeover_lines, total_line, totals_of, total_lines, shown}
use Rattle.takeover_text.specs.Kept.{is_publishing, is_packet, is_send_from, is_send_to, is_send_of, LineIsKept, KeepPromises}

-- ---- how many elements pass

-- those that pass two tests, and those among the ones that pass the first
count-filter : {X Y : Type 0} (q : X → Bool) (p : Y → Bool) (f : X → Y) (xs : List X) → count_by (λ x. q x && p (f x)) xs ≡ count_by p (map f (filter q xs))
count-filter q p f [] = refl
count-filter q p f (x ∷ xs) = elim (cases_Bool (q x)) [
  | inl here ↦
      let one : one_of (λ y. q y && p (f y)) x ≡ one_of p (f x) = ap (λ (b : Bool). cond (b && p (f x)) 1 0) here in
      let kept : filter q (x ∷ xs) ≡ x ∷ filter q xs = cond-true (q x) (x ∷ filter q xs) (filter q xs) here in
      omega (arith, count-cons (λ y. q y && p (f y)) x xs, one, count-filter q p f xs, count-cons p (f x) (map f (filter q xs)), ap (λ ys. count_by p (map f ys)) kept)
  | inr other ↦
      let none : one_of (λ y. q y && p (f y)) x ≡ 0 = ap (λ (b : Bool). cond (b && p (f x)) 1 0) other in
      let left : filter q (x ∷ xs) ≡ filter q xs = cond-false (q x) (x ∷ filter q xs) (filter q xs) other in
      omega (arith, count-cons (λ y. q y && p (f y)) x xs, none, count-filter q p f xs, ap (λ ys. count_by p (map f ys)) left)
]

-- where no two elements that stand so and_from pass, one passes at most
at_most_one : {X : Type 0} (R : X → X → Type 0) (p : X → Bool) → ((x y : X) → R x y → p x ≡ true → p y ≡ true → ⊥) → (xs : List X) → AllPairs R xs → count_by p xs ≤ 1
at_most_one R p apart [] pairs = omega arith
at_most_one R p apart (x ∷ xs) pairs = elim (cases_Bool (p x)) [
  | inl here ↦
      let others : All (λ y. p y ≡ false) xs = All-weaker (R x) (λ y. p y ≡ false) (λ y stands. fails y (apart x y stands here)) xs (AllPairs-head R x xs pairs) in
      let one : one_of p x ≡ 1 = cond-true (p x) 1 0 here in
      omega (arith, count-cons p x xs, one, count-none p xs others)
  | inr other ↦
      let none : one_of p x ≡ 0 = cond-false (p x) 1 0 other in
      omega (arith, count-cons p x xs, none, at_most_one R p apart xs (AllPairs-tail R x xs pairs))
]
  where
    fails : (y : _) → (p y ≡ true → ⊥) → p y ≡ false
    fails y never = elim (cases_Bool (p y)) [
      | inl passes ↦ absurd (never passes)
      | inr is ↦ is
    ]

any_passes : {X : Type 0} (q p : X → Bool) → ((x : X) → q x ≡ true → p x ≡ true) → (xs : List X) → list_any q xs ≡ true → 0 < count_by p xs
any_passes q p so [] is = absurd (cc)
any_passes q p so (x ∷ xs) is = elim (cases_Bool (q x)) [
  | inl here ↦
      let one : one_of p x ≡ 1 = cond-true (p x) 1 0 (so x here) in
      omega (arith, count-cons p x xs, one)
  | inr other ↦
      let later : list_any q xs ≡ true = rw other at is in
      omega (arith, count-cons p x xs, any_passes q p so xs later)
]

-- ---- the lines of a kind

slots_all : (P : Line → Type 0) (number : ℕ) (slots : List (List Flow)) → ((n : ℕ) (flow : Flow) → P (slot_line n (no_cores n) flow)) → All P (slots_lines no_cores number slots)
slots_all P number [] each = All-nil P
slots_all P number (slot ∷ slots) each =
    All-append P (map (slot_line number (no_cores number)) slot) (slots_lines no_cores (number + 1) slots)
    (All-map P (slot_line number (no_cores number)) slot (λ i d below. each number (get_or slot i d))) (slots_all P (number + 1) slots each)

-- what a publishing shows behind its first line
batch_all : (P : Line → Type 0) (setting : PairSetting) (issue : BatchIssue) → ((k : ℕ) (entry : Entry) → P (entry_line k entry)) → ((n : ℕ) (flow : Flow) → P (slot_line n (no_cores n) flow))
    → All P (map (entry_line issue.number) issue.batch.entries ++ slots_lines no_cores (first_slot setting.b issue.number) issue.slots)
batch_all P setting issue entry slot =
    All-append P (map (entry_line issue.number) issue.batch.entries) (slots_lines no_cores (first_slot setting.b issue.number) issue.slots)
    (All-map P (entry_line issue.number) issue.batch.entries (λ i d below. entry issue.number (get_or issue.batch.entries i d))) (slots_all P (first_slot setting.b issue.number) issue.slots slot)

totals_all : (P : Line → Type 0) (setting : PairSetting) (log : Log) → ((src dst : ℕ) → P (line.Total src dst (asked_of_flow log (flow_of src dst)) (sends_of_flow setting log (flow_of src dst)))) → All P (total_lines setting log)
totals_all P setting log each =
    All-flat P (totals_of setting log) (range_with_len 0 setting.endpoints)
    (λ src. All-flat P (total_line setting log src) (range_with_len 0 setting.endpoints)
    (λ dst.
    let it : Line = line.Total src dst (asked_of_flow log (flow_of src dst)) (sends_of_flow setting log (flow_of src dst)) in
    cond_both (nat_lt 0 (asked_of_flow log (flow_of src dst))) (it ∷ []) [] (All P) (λ some. All-cons P it [] (each src dst) (All-nil P)) (λ none. All-nil P)))

-- ---- sends_of_flow

-- a test of sends_of_flow alone passes the lines of those that are sent
sends_counted : (p : Line → Bool) → ((l : Line) → IsNoSend l → p l ≡ false) → (setting : PairSetting) (log : Log) → count_by p (takeover_lines setting log) ≡ count_by (λ (s : Send). p (send_line s)) (sent setting log)
sends_counted p other setting [] = refl
sends_counted p other setting (fact.Heard src issue ∷ log) =
    let new : List Send = sends_at setting log src issue in
    omega (arith, count-append p (takeover_lines setting log) (map send_line new), count-map p send_line new, count-append (λ (s : Send). p (send_line s)) (sent setting log) new, sends_counted p other setting log)
sends_counted p other setting (fact.Published issue ∷ log) =
    let ls : List Line = lines_of setting log (fact.Published issue) in
    let first : Line = line.Published issue.lease.holder.node issue.number in
    let none : count_by p ls ≡ 0 = count-none p ls (All-cons (λ l. p l ≡ false) first _ (other first tt) (batch_all (λ l. p l ≡ false) setting issue (λ k entry. other (entry_line k entry) tt) (λ n flow. other (slot_line n (no_cores n) flow) tt))) in
    omega (arith, count-append p (takeover_lines setting log) ls, none, sends_counted p other setting log)
sends_counted p other setting (fact.Granted lease ∷ log) =
    let none : count_by p (lines_of setting log (fact.Granted lease)) ≡ 0 = count-none p (lines_of setting log (fact.Granted lease)) (All-cons (λ l. p l ≡ false) _ [] (other _ tt) (All-nil (λ l. p l ≡ false))) in
    omega (arith, count-append p (takeover_lines setting log) (lines_of setting log (fact.Granted lease)), none, sends_counted p other setting log)
sends_counted p other setting (fact.Refused why ∷ log) =
    let none : count_by p (lines_of setting log (fact.Refused why)) ≡ 0 = count-none p (lines_of setting log (fact.Refused why)) (All-cons (λ l. p l ≡ false) _ [] (other _ tt) (All-nil (λ l. p l ≡ false))) in
    omega (arith, count-append p (takeover_lines setting log) (lines_of setting log (fact.Refused why)), none, sends_counted p other setting log)
sends_counted p other setting (fact.Asked flow slots ∷ log) = omega (arith, count-append p (takeover_lines setting log) [], sends_counted p other setting log)
sends_counted p other setting (fact.Requested holder ∷ log) = omega (arith, count-append p (takeover_lines setting log) [], sends_counted p other setting log)
sends_counted p other setting (fact.Took lease ∷ log) = omega (arith, count-append p (takeover_lines setting log) [], sends_counted p other setting log)
sends_counted p other setting (fact.Told src generation ∷ log) = omega (arith, count-append p (takeover_lines setting log) [], sends_counted p other setting log)
sends_counted p other setting (fact.Crashed node ∷ log) = omega (arith, count-append p (takeover_lines setting log) [], sends_counted p other setting log)

-- ---- batches

abbrev IsNoPublishing : Line → Type 0
IsNoPublishing (line.Published node batch) = ⊥
IsNoPublishing _ = ⊤

no_publishing : (batch : ℕ) (l : Line) → IsNoPublishing l → is_publishing batch l ≡ false
no_publishing batch (line.Published node number) is = absurd is
no_publishing batch l is = refl

batches_counted : (batch : ℕ) (setting : PairSetting) (log : Log) → count_by (is_publishing batch) (takeover_lines setting log) ≡ count_by (λ (i : BatchIssue). i.number == batch) (issues log)
batches_counted batch setting [] = refl
batches_counted batch setting (fact.Published issue ∷ log) =
    let p : Line → Bool = is_publishing batch in
    let first : Line = line.Published issue.lease.holder.node issue.number in
    let later : List Line = map (entry_line issue.number) issue.batch.entries ++ slots_lines no_cores (first_slot setting.b issue.number) issue.slots in
    let none : count_by p later ≡ 0 = count-none p later (batch_all (λ l. p l ≡ false) setting issue (λ k entry. refl) (λ n flow. refl)) in
    omega (arith, count-append p (takeover_lines setting log) (first ∷ later), count-cons p first later, none, count-cons (λ (i : BatchIssue). i.number == batch) issue (issues log), batches_counted batch setting log)
batches_counted batch setting (fact.Heard src issue ∷ log) =
    let p : Line → Bool = is_publishing batch in
    let new : List Send = sends_at setting log src issue in
    let none : count_by p (map send_line new) ≡ 0 = count-none p (map send_line new) (All-map (λ l. p l ≡ false) send_line new (λ i d below. refl)) in
    omega (arith, count-append p (takeover_lines setting log) (map send_line new), none, batches_counted batch setting log)
batches_counted batch setting (fact.Granted lease ∷ log) = omega (arith, count-append (is_publishing batch) (takeover_lines setting log) (lines_of setting log (fact.Granted lease)), batches_counted batch setting log)
batches_counted batch setting (fact.Refused why ∷ log) = omega (arith, count-append (is_publishing batch) (takeover_lines setting log) (lines_of setting log (fact.Refused why)), batches_counted batch setting log)
batches_counted batch setting (fact.Asked flow slots ∷ log) = omega (arith, count-append (is_publishing batch) (takeover_lines setting log) [], batches_counted batch setting log)
batches_counted batch setting (fact.Requested holder ∷ log) = omega (arith, count-append (is_publishing batch) (takeover_lines setting log) [], batches_counted batch setting log)
batches_counted batch setting (fact.Took lease ∷ log) = omega (arith, count-append (is_publishing batch) (takeover_lines setting log) [], batches_counted batch setting log)
batches_counted batch setting (fact.Told src generation ∷ log) = omega (arith, count-append (is_publishing batch) (takeover_lines setting log) [], batches_counted batch setting log)
batches_counted batch setting (fact.Crashed node ∷ log) = omega (arith, count-append (is_publishing batch) (takeover_lines setting log) [], batches_counted batch setting log)

-- ---- packets

slots_count : (flow : Flow) (number first offset : ℕ) (slots : List (List Flow)) → number ≡ first + offset → has_flow (slot_in slots offset) flow ≡ true → 0 < count_by (is_packet number flow.src flow.dst) (slots_lines no_cores first slots)
slots_count flow number first offset [] at has = absurd (cc)
slots_count flow number first zero (slot ∷ slots) at has =
    let p : Line → Bool = is_packet number flow.src flow.dst in
    let here : List Line = map (slot_line first (no_cores first)) slot in
    let same : first ≡ number = omega arith in
    let some : 0 < count_by (λ (f : Flow). p (slot_line first (no_cores first) f)) slot =
    any_passes (λ (f : Flow). same_flow f flow) (λ (f : Flow). p (slot_line first (no_cores first) f)) (λ f is. and_from (same_flow f flow) (first == number) is (eq-eqb first number same)) slot has in
    omega (arith, count-append p here (slots_lines no_cores (first + 1) slots), count-map p (slot_line first (no_cores first)) slot, some)
slots_count flow number first (suc offset) (slot ∷ slots) at has =
    let p : Line → Bool = is_packet number flow.src flow.dst in
    omega (arith, count-append p (map (slot_line first (no_cores first)) slot) (slots_lines no_cores (first + 1) slots), slots_count flow number (first + 1) offset slots (omega arith) has)

-- the packets of a published batch are among the lines
abbrev HasLines : PairSetting → List Line → BatchIssue → Type 0
HasLines setting lines issue =
    (offset : ℕ) (flow : Flow) → has_flow (slot_in issue.slots offset) flow ≡ true → 0 < count_by (is_packet (first_slot setting.b issue.number + offset) flow.src flow.dst) lines

have_more : (setting : PairSetting) (log : Log) (new : Fact) → All (HasLines setting (takeover_lines setting log)) (issues log) → All (HasLines setting (takeover_lines setting (new ∷ log))) (issues log)
have_more setting log new all =
    All-weaker (HasLines setting (takeover_lines setting log)) (HasLines setting (takeover_lines setting (new ∷ log)))
    (λ issue has offset flow in_slot.
    let p : Line → Bool = is_packet (first_slot setting.b issue.number + offset) flow.src flow.dst in
    omega (arith, count-append p (takeover_lines setting log) (lines_of setting log new), has offset flow in_slot))
    (issues log) all

batches_have : (setting : PairSetting) (log : Log) → All (HasLines setting (takeover_lines setting log)) (issues log)
batches_have setting [] = All-nil (HasLines setting [])
batches_have setting (fact.Published issue ∷ log) =
    All-cons (HasLines setting (takeover_lines setting (fact.Published issue ∷ log))) issue (issues log)
    (λ offset flow has.
    let p : Line → Bool = is_packet (first_slot setting.b issue.number + offset) flow.src flow.dst in
    let first : Line = line.Published issue.lease.holder.node issue.number in
    let entries : List Line = map (entry_line issue.number) issue.batch.entries in
    let slots : List Line = slots_lines no_cores (first_slot setting.b issue.number) issue.slots in
    let some : 0 < count_by p slots = slots_count flow (first_slot setting.b issue.number + offset) (first_slot setting.b issue.number) offset issue.slots refl has in
    omega (arith, count-append p (takeover_lines setting log) (first ∷ (entries ++ slots)), count-cons p first (entries ++ slots), count-append p entries slots, some))
    (have_more setting log (fact.Published issue) (batches_have setting log))
batches_have setting (fact.Heard src issue ∷ log) = have_more setting log (fact.Heard src issue) (batches_have setting log)
batches_have setting (fact.Granted lease ∷ log) = have_more setting log (fact.Granted lease) (batches_have setting log)
batches_have setting (fact.Refused why ∷ log) = have_more setting log (fact.Refused why) (batches_have setting log)
batches_have setting (fact.Asked flow slots ∷ log) = have_more setting log (fact.Asked flow slots) (batches_have setting log)
batches_have setting (fact.Requested holder ∷ log) = have_more setting log (fact.Requested holder) (batches_have setting log)
batches_have setting (fact.Took lease ∷ log) = have_more setting log (fact.Took lease) (batches_have setting log)
batches_have setting (fact.Told src generation ∷ log) = have_more setting log (fact.Told src generation) (batches_have setting log)
batches_have setting (fact.Crashed node ∷ log) = have_more setting log (fact.Crashed node) (batches_have setting log)

send_has : (setting : PairSetting) (log : Log) (send : Send) → IsPublished setting log send → 0 < count_by (is_packet send.slot send.flow.src send.flow.dst) (takeover_lines setting log)
send_has setting log send (issue, offset, at, within, is, has) =
    let stands : HasLines setting (takeover_lines setting log) issue = found (HasLines setting (takeover_lines setting log)) (λ i. i.number == issue.number) (issues log) issue (batches_have setting log) at in
    subst (λ (n : ℕ). 0 < count_by (is_packet n send.flow.src send.flow.dst) (takeover_lines setting log)) (sym is) (stands offset send.flow has)

-- ---- each line

lines_kept : (lines : List Line) (setting : PairSetting) (log : Log) → All (λ (s : Send). LineIsKept lines (send_line s)) (sent setting log) → All (LineIsKept lines) (takeover_lines setting log)
lines_kept lines setting [] all = All-nil (LineIsKept lines)
lines_kept lines setting (fact.Heard src issue ∷ log) all =
    let new : List Send = sends_at setting log src issue in
    All-append (LineIsKept lines) (takeover_lines setting log) (map send_line new) (lines_kept lines setting log (All-front (λ (s : Send). LineIsKept lines (send_line s)) (sent setting log) new all))
    (All-map (LineIsKept lines) send_line new (all_back (λ (s : Send). LineIsKept lines (send_line s)) (sent setting log) new all))
lines_kept lines setting (fact.Published issue ∷ log) all =
    let first : Line = line.Published issue.lease.holder.node issue.number in
    All-append (LineIsKept lines) (takeover_lines setting log) (lines_of setting log (fact.Published issue)) (lines_kept lines setting log all)
    (All-cons (LineIsKept lines) first _ tt (batch_all (LineIsKept lines) setting issue (λ k entry. tt) (λ n flow. tt)))
lines_kept lines setting (fact.Granted lease ∷ log) all =
    All-append (LineIsKept lines) (takeover_lines setting log) (lines_of setting log (fact.Granted lease)) (lines_kept lines setting log all) (All-cons (LineIsKept lines) _ [] tt (All-nil (LineIsKept lines)))
lines_kept lines setting (fact.Refused why ∷ log) all =
    All-append (LineIsKept lines) (takeover_lines setting log) (lines_of setting log (fact.Refused why)) (lines_kept lines setting log all) (All-cons (LineIsKept lines) _ [] tt (All-nil (LineIsKept lines)))
lines_kept lines setting (fact.Asked flow slots ∷ log) all = All-append (LineIsKept lines) (takeover_lines setting log) [] (lines_kept lines setting log all) (All-nil (LineIsKept lines))
lines_kept lines setting (fact.Requested holder ∷ log) all = All-append (LineIsKept lines) (takeover_lines setting log) [] (lines_kept lines setting log all) (All-nil (LineIsKept lines))
lines_kept lines setting (fact.Took lease ∷ log) all = All-append (LineIsKept lines) (takeover_lines setting log) [] (lines_kept lines setting log all) (All-nil (LineIsKept lines))
lines_kept lines setting (fact.Told src generation ∷ log) all = All-append (LineIsKept lines) (takeover_lines setting log) [] (lines_kept lines setting log all) (All-nil (LineIsKept lines))
lines_kept lines setting (fact.Crashed node ∷ log) all = All-append (LineIsKept lines) (takeover_lines setting log) [] (lines_kept lines setting log all) (All-nil (LineIsKept lines))

-- ---- the whole

module _ (setting : PairSetting) (events : List Event) (promised : IsPromised setting (log_of setting (reverse events))) where
  abbrev log : Log
  log = log_of setting (reverse events)

  abbrev by : List Line
  by = takeover_lines setting log

  -- what passes no total and no end is counted event by event
  counted : (p : Line → Bool) → ((src dst asks sends_of_flow : ℕ) → p (line.Total src dst asks sends_of_flow) ≡ false) → ((row : ℕ) → p (line.End row) ≡ false) → count_by p (shown setting events) ≡ count_by p by
  unfolding shown
  counted p total end =
      let totals : List Line = total_lines setting log in
      let ended : Line = line.End (length log + 2) in
      let none : count_by p totals ≡ 0 = count-none p totals (totals_all (λ l. p l ≡ false) setting log (λ src dst. total src dst (asked_of_flow log (flow_of src dst)) (sends_of_flow setting log (flow_of src dst)))) in
      let last : count_by p (ended ∷ []) ≡ 0 = count-none p (ended ∷ []) (All-cons (λ l. p l ≡ false) ended [] (end _) (All-nil (λ l. p l ≡ false))) in
      omega (arith, count-append p (by ++ totals) (ended ∷ []), count-append p by totals, none, last)

  no_send_from : (slot src : ℕ) (l : Line) → IsNoSend l → is_send_from slot src l ≡ false
  no_send_from slot src (line.Sent number source destination) is = absurd is
  no_send_from slot src l is = refl

  no_send_to : (slot dst : ℕ) (l : Line) → IsNoSend l → is_send_to slot dst l ≡ false
  no_send_to slot dst (line.Sent number source destination) is = absurd is
  no_send_to slot dst l is = refl

  no_send_of : (src dst : ℕ) (l : Line) → IsNoSend l → is_send_of src dst l ≡ false
  no_send_of src dst (line.Sent number source destination) is = absurd is
  no_send_of src dst l is = refl

  batches : (batch : ℕ) → count_by (is_publishing batch) (shown setting events) ≤ 1
  batches batch =
      omega (
        arith,
        counted (is_publishing batch) (λ src dst asks sends_of_flow. refl) (λ row. refl),
        batches_counted batch setting log,
        at_most_one (λ (i j : BatchIssue). i.number ≢ j.number) (λ (i : BatchIssue). i.number == batch) (λ i j apart one other. apart (eqb-true i.number batch one ∙ sym (eqb-true j.number batch other))) (issues log) promised.once,
      )

  -- of the flows that are sent in a slot one has an endpoint on this side
  one_of_slot : (end : Flow → ℕ) (slot endpoint : ℕ) → ((f g : Flow) → (f.src ≢ g.src) × (f.dst ≢ g.dst) → end f ≢ end g) → count_by (λ (s : Send). (s.slot == slot) && (end s.flow == endpoint)) (sent setting log) ≤ 1
  one_of_slot end slot endpoint apart =
      omega (
        arith,
        count-filter (λ (s : Send). s.slot == slot) (λ (f : Flow). end f == endpoint) (λ (s : Send). s.flow) (sent setting log),
        at_most_one (λ (f g : Flow). (f.src ≢ g.src) × (f.dst ≢ g.dst)) (λ (f : Flow). end f == endpoint) (λ f g stand one other. apart f g stand (eqb-true (end f) endpoint one ∙ sym (eqb-true (end g) endpoint other)))
            (flows_sent_in setting log slot) (promised.matching slot),
      )

  froms : (slot src : ℕ) → count_by (is_send_from slot src) (shown setting events) ≤ 1
  froms slot src =
      omega (arith, counted (is_send_from slot src) (λ s d asks sends_of_flow. refl) (λ row. refl), sends_counted (is_send_from slot src) (no_send_from slot src) setting log, one_of_slot (λ (f : Flow). f.src) slot src (λ f g apart. apart.0))

  tos : (slot dst : ℕ) → count_by (is_send_to slot dst) (shown setting events) ≤ 1
  tos slot dst =
      omega (arith, counted (is_send_to slot dst) (λ s d asks sends_of_flow. refl) (λ row. refl), sends_counted (is_send_to slot dst) (no_send_to slot dst) setting log, one_of_slot (λ (f : Flow). f.dst) slot dst (λ f g apart. apart.1))

  -- the sends_of_flow of a flow are its lines
  of_flow : (src dst : ℕ) → sends_of_flow setting log (flow_of src dst) ≡ count_by (is_send_of src dst) (shown setting events)
  of_flow src dst = omega (arith, counted (is_send_of src dst) (λ s d asks sends_of_flow. refl) (λ row. refl), sends_counted (is_send_of src dst) (no_send_of src dst) setting log)

  is_sent : All (λ (s : Send). LineIsKept (shown setting events) (send_line s)) (sent setting log)
  is_sent =
      All-weaker (IsPublished setting log) (λ (s : Send). LineIsKept (shown setting events) (send_line s))
      (λ s stands. omega (arith, counted (is_packet s.slot s.flow.src s.flow.dst) (λ src dst asks sends_of_flow. refl) (λ row. refl), send_has setting log s stands)) (sent setting log) promised.published

  total_kept : (src dst : ℕ) → LineIsKept (shown setting events) (line.Total src dst (asked_of_flow log (flow_of src dst)) (sends_of_flow setting log (flow_of src dst)))
  total_kept src dst = (of_flow src dst, promised.asks (flow_of src dst))

  -- the parts of the lines, each in all of them
  parts_kept : (lines : List Line) → All (LineIsKept lines) by → All (LineIsKept lines) (total_lines setting log) → All (LineIsKept lines) (shown setting events)
  unfolding shown
  parts_kept lines events_kept totals_kept =
      All-append (LineIsKept lines) (by ++ total_lines setting log) (line.End (length log + 2) ∷ []) (All-append (LineIsKept lines) by (total_lines setting log) events_kept totals_kept) (All-cons (LineIsKept lines) (line.End (length log + 2)) [] tt (All-nil (LineIsKept lines)))

  all_kept : All (LineIsKept (shown setting events)) (shown setting events)
  all_kept = parts_kept (shown setting events) (lines_kept (shown setting events) setting log is_sent) (totals_all (LineIsKept (shown setting events)) setting log total_kept)

  pub keep_promises : KeepPromises (shown setting events)
  keep_promises = record { published = batches; sources = froms; destinations = tos; each = all_kept }
