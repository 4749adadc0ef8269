-- What holds of every flow's counts in the log of any events: no more is sent than was asked_of_flow for.
use Rattle.std.proofs.Common.{◌≡◌, ◌≢◌, ◌<◌, ◌≤◌, ◌+◌, ◌-◌, ◌==◌, nat_lt, ◌&&◌, ◌||◌, not, ℕ, List, [], ◌∷◌, ◌++◌, cond, find, Bool, true, false, Option, Some, None, refl, sym, ap, ◌∙◌, subst, inl, inr, arith}
use Rattle.std.specs.Prelude.{sum_by, count_by}
use Rattle.std.proofs.lemmas.Bool.{cases_Bool, cases_eq, cases_lt, cond-true, cond-false, cond_both, eq-eqb, ne_eqb, and_from, and_left, and_right, lt-ltb, le-ltb, eqb-true}
use Rattle.std.proofs.lemmas.List.{append-nil}
use Rattle.std.proofs.lemmas.List.Sums.{sum_by-cons, sum_by-append, sum_by-le-sum_by}
use Rattle.std.proofs.lemmas.Option.{same_Some}
use Rattle.greedy_rules.specs.declared.flows.Flow.{Flow}
use Rattle.greedy_rules.specs.declared.flows.Item.{Item}
use Rattle.greedy_rules.specs.Flows.{same_flow}
use Rattle.greedy_rules.specs.Batches.{DemandBatch, entry_of}
use Rattle.greedy_rules.specs.Demands.{item_of, need_in, need_with}
use Rattle.greedy_rules.specs.Slot.{has_flow}
use Rattle.greedy_rules.specs.SlotTable.{destination_of}
use Rattle.greedy_rules.specs.Allocation.{slots_of}
use Rattle.greedy_rules.specs.Schedule.{first_slot, slots_then, list_then}
use Rattle.greedy_rules.specs.Balance.{EveryBatchBalances}
use Rattle.takeover_history.specs.Events.{PairSetting, Event, Lease, BatchIssue, Fact, Asked, Requested, Granted, Took, Told, Published, Heard, Crashed, Refused, Log}
use Rattle.takeover_history.specs.Endpoints.{asked_of_flow, generation_of, issues, issue_at, has_heard, Send, send_to, own_sends, sends_at, sent, is_of, sends_of_flow, base_of, total_of, recorded_of_flow}
use Rattle.takeover_history.specs.Batches.{published_batches, list_by, list_of, published, rise, batch_for, issue_for, entries_for}
use Rattle.takeover_history.specs.Steps.{log_of, IsLog}
use Rattle.takeover_history.specs.Laws.{EverySendIsAsked}
use Rattle.takeover_history.proofs.Follow.{is_log}
use Rattle.takeover_history.proofs.Counts.{Counts, sends_are_asked, at, tells_new, tells_again, publishes, hears_new, hears_own}
use Rattle.takeover_history.proofs.Lists.{IsListOf, lists, applies, adds, list_by-append}

-- ---- what is allocated in a generation, and what of it an endpoint has not heard yet

abbrev pub share : ℕ → Flow → BatchIssue → ℕ
share k flow issue = cond (issue.lease.generation == k) (slots_of flow issue.slots) 0

abbrev pub allocated : ℕ → Flow → List BatchIssue → ℕ
allocated k flow xs = sum_by (share k flow) xs

abbrev pub unheard_share : Log → ℕ → Flow → BatchIssue → ℕ
unheard_share log k flow issue = cond ((issue.lease.generation == k) && not (has_heard log flow.src issue.number)) (slots_of flow issue.slots) 0

abbrev pub unheard : Log → ℕ → Flow → List BatchIssue → ℕ
unheard log k flow xs = sum_by (unheard_share log k flow) xs

-- what holds of a flow
abbrev pub Holds : PairSetting → Log → Flow → Type 0
Holds setting log flow =
    Counts (generation_of log flow.src) (base_of setting log flow) (asked_of_flow log flow) (sends_of_flow setting log flow)
    (λ k. allocated k flow (issues log))
    (λ k. need_in (item_of (list_of setting k log) flow))
    (λ k. published setting k log flow)
    (λ k. recorded_of_flow setting k log flow)
    (λ k. unheard log k flow (issues log))

-- ---- hearing

hears_more : (a x h : Bool) (n : ℕ) → cond (a && not (x || h)) n 0 ≤ cond (a && not h) n 0
hears_more false x h n = omega arith
hears_more true true true n = omega arith
hears_more true true false n = omega arith
hears_more true false true n = omega arith
hears_more true false false n = omega arith

fewer : (log : Log) (src : ℕ) (issue : BatchIssue) (flow : Flow) (k : ℕ) (xs : List BatchIssue) → unheard (Heard src issue ∷ log) k flow xs ≤ unheard log k flow xs
fewer log src issue flow k xs =
    sum_by-le-sum_by (unheard_share (Heard src issue ∷ log) k flow) (unheard_share log k flow) xs
    (λ i. hears_more (i.lease.generation == k) ((src == flow.src) && (issue.number == i.number)) (has_heard log flow.src i.number) (slots_of flow i.slots))

-- a sum of which one term falls by so much
pub falls : (f g : BatchIssue → ℕ) (test : BatchIssue → Bool) (by : ℕ) (issue : BatchIssue) (xs : List BatchIssue) → ((x : BatchIssue) → f x ≤ g x) → find test xs ≡ Some issue → f issue + by ≤ g issue → sum_by f xs + by ≤ sum_by g xs
falls f g test by issue [] less is here = absurd (cc)
falls f g test by issue (x ∷ xs) less is here = elim (cases_Bool (test x)) [
  | inl passes ↦
      let same : x ≡ issue = same_Some x issue (rw passes at is) in
      let first : f x + by ≤ g x = subst (λ (y : BatchIssue). f y + by ≤ g y) (sym same) here in
      omega (arith, sum_by-cons f x xs, sum_by-cons g x xs, sum_by-le-sum_by f g xs less)
  | inr fails ↦ omega (arith, sum_by-cons f x xs, sum_by-cons g x xs, less x, falls f g test by issue xs less (rw fails at is) here)
]

less : (log : Log) (issue : BatchIssue) (flow : Flow) → issue_at log issue.number ≡ Some issue → has_heard log flow.src issue.number ≡ false
    → unheard (Heard flow.src issue ∷ log) issue.lease.generation flow (issues log) + slots_of flow issue.slots ≤ unheard log issue.lease.generation flow (issues log)
less log issue flow is first =
    let k : ℕ = issue.lease.generation in
    let now : List Fact = Heard flow.src issue ∷ log in
    let of_k = eq-eqb k k refl in
    let of_src = eq-eqb flow.src flow.src refl in
    let of_number = eq-eqb issue.number issue.number refl in
    let heard : has_heard now flow.src issue.number ≡ true = ap (λ (b : Bool). b || has_heard log flow.src issue.number) (and_from (flow.src == flow.src) (issue.number == issue.number) of_src of_number) in
    let gone : unheard_share now k flow issue ≡ 0 = cond-false ((k == k) && not (has_heard now flow.src issue.number)) (slots_of flow issue.slots) 0 (and_right (k == k) (not (has_heard now flow.src issue.number)) (ap not heard)) in
    let there : unheard_share log k flow issue ≡ slots_of flow issue.slots = cond-true ((k == k) && not (has_heard log flow.src issue.number)) (slots_of flow issue.slots) 0 (and_from (k == k) (not (has_heard log flow.src issue.number)) of_k (ap not first)) in
    falls (unheard_share now k flow) (unheard_share log k flow) (λ i. i.number == issue.number) (slots_of flow issue.slots) issue (issues log)
    (λ i. hears_more (i.lease.generation == k) ((flow.src == flow.src) && (issue.number == i.number)) (has_heard log flow.src i.number) (slots_of flow i.slots))
    is (omega arith)

-- ---- sending

one_at_most : (a b c : Bool) → count_by (λ (x : Bool). x) ((a && b) ∷ []) ≤ cond (b || c) 1 0
one_at_most true true c = omega arith
one_at_most true false c = omega arith
one_at_most false true c = omega arith
one_at_most false false c = omega arith

one_send : (flow : Flow) (number : ℕ) (slot : List Flow) → count_by (is_of flow) (send_to flow.src number (destination_of slot flow.src)) ≤ cond (has_flow slot flow) 1 0
one_send flow number [] = omega arith
one_send flow number (f ∷ slot) = elim (cases_Bool (f.src == flow.src)) [
  | inl here ↦ rw here (one_at_most (flow.src == flow.src) (f.dst == flow.dst) (has_flow slot flow))
  | inr other ↦ rw other (one_send flow number slot)
]

own : (flow : Flow) (number : ℕ) (slots : List (List Flow)) → count_by (is_of flow) (own_sends flow.src number slots) ≤ slots_of flow slots
own flow number [] = omega arith
own flow number (slot ∷ slots) =
    let here = send_to flow.src number (destination_of slot flow.src) in
    omega (
      arith,
      sum_by-append (λ (s : Send). cond (is_of flow s) 1 0) here (own_sends flow.src (number + 1) slots),
      sum_by-cons (λ (s : List Flow). cond (has_flow s flow) 1 0) slot slots,
      one_send flow number slot,
      own flow (number + 1) slots,
    )

none_one : (flow : Flow) (src number : ℕ) (o : Option ℕ) → (src ≡ flow.src → ⊥) → count_by (is_of flow) (send_to src number o) ≡ 0
none_one flow src number None other = refl
none_one flow src number (Some dst) other = rw (ne_eqb src flow.src other) refl

none : (flow : Flow) (src number : ℕ) (slots : List (List Flow)) → (src ≡ flow.src → ⊥) → count_by (is_of flow) (own_sends src number slots) ≡ 0
none flow src number [] other = refl
none flow src number (slot ∷ slots) other =
    let here = send_to src number (destination_of slot src) in
    omega (
      arith,
      sum_by-append (λ (s : Send). cond (is_of flow s) 1 0) here (own_sends src (number + 1) slots),
      none_one flow src number (destination_of slot src) other,
      none flow src (number + 1) slots other,
    )

-- the sends_of_flow once more are made
sends-more : (setting : PairSetting) (log : Log) (src : ℕ) (issue : BatchIssue) (flow : Flow) → sends_of_flow setting (Heard src issue ∷ log) flow ≡ sends_of_flow setting log flow + count_by (is_of flow) (sends_at setting log src issue)
sends-more setting log src issue flow = sum_by-append (λ (s : Send). cond (is_of flow s) 1 0) (sent setting log) (sends_at setting log src issue)

-- ---- each kind of fact

tells-own : (setting : PairSetting) (log : Log) (flow : Flow) (k : ℕ) → generation_of log flow.src ≤ k → Holds setting log flow → Holds setting (Told flow.src k ∷ log) flow
tells-own setting log flow k le c =
    let src : ℕ = flow.src in
    let g : ℕ = generation_of log src in
    let now : List Fact = Told src k ∷ log in
    let of_src = eq-eqb src src refl in
    let is_g : generation_of now src ≡ k = cond-true (src == src) k g of_src in
    let alloc : ℕ → ℕ = λ n. allocated n flow (issues log) in
    let need : ℕ → ℕ = λ n. need_in (item_of (list_of setting n log) flow) in
    let pubs : ℕ → ℕ = λ n. published setting n log flow in
    let rec : ℕ → ℕ = λ n. recorded_of_flow setting n log flow in
    let rec' : ℕ → ℕ = λ n. recorded_of_flow setting n now flow in
    let un : ℕ → ℕ = λ n. unheard log n flow (issues log) in
    let base : ℕ = base_of setting log flow in
    let asks : ℕ = asked_of_flow log flow in
    let so_far : ℕ = sends_of_flow setting log flow in
    let told : rec' k ≡ asks - base_of setting now flow = cond-true ((k == k) && (src == src)) (total_of setting now flow) (rec k) (and_from (k == k) (src == src) (eq-eqb k k refl) of_src) in
    let others : (n : ℕ) → (k ≡ n → ⊥) → rec' n ≡ rec n = λ n other. cond-false ((k == n) && (src == src)) (total_of setting now flow) (rec n) (and_left (k == n) (src == src) (ne_eqb k n other)) in
    elim (cases_lt g k) [
      | inl above ↦
          let is_base : base_of setting now flow ≡ so_far = cond-true ((src == src) && nat_lt g k) so_far base (and_from (src == src) (nat_lt g k) of_src (lt-ltb g k above)) in
          let then : Counts k so_far asks so_far alloc need pubs rec' un = tells_new g base asks so_far alloc need pubs rec un c k rec' above (told ∙ ap (λ (n : ℕ). asks - n) is_base) others in
          at k so_far asks so_far alloc need pubs rec' un then (generation_of now src) (base_of setting now flow) asks so_far rec' un is_g is_base (omega arith) refl (λ n. refl) (λ n. omega arith)
      | inr below ↦
          let is_base : base_of setting now flow ≡ base = cond-false ((src == src) && nat_lt g k) so_far base (and_right (src == src) (nat_lt g k) (le-ltb g k below)) in
          let same : k ≡ g = omega arith in
          let then : Counts g base asks so_far alloc need pubs rec' un = tells_again g base asks so_far alloc need pubs rec un c rec' (ap rec' (sym same) ∙ (told ∙ ap (λ (n : ℕ). asks - n) is_base)) (λ n other. others n (λ is. other (sym same ∙ is))) in
          at g base asks so_far alloc need pubs rec' un then (generation_of now src) (base_of setting now flow) asks so_far rec' un (is_g ∙ same) is_base (omega arith) refl (λ n. refl) (λ n. omega arith)
    ]

tells-other : (setting : PairSetting) (log : Log) (flow : Flow) (src k : ℕ) → (src ≡ flow.src → ⊥) → Holds setting log flow → Holds setting (Told src k ∷ log) flow
tells-other setting log flow src k other c =
    let no = ne_eqb src flow.src other in
    let now : List Fact = Told src k ∷ log in
    at (generation_of log flow.src) (base_of setting log flow) (asked_of_flow log flow) (sends_of_flow setting log flow)
    (λ n. allocated n flow (issues log)) (λ n. need_in (item_of (list_of setting n log) flow)) (λ n. published setting n log flow) (λ n. recorded_of_flow setting n log flow) (λ n. unheard log n flow (issues log)) c
    (generation_of now flow.src) (base_of setting now flow) (asked_of_flow log flow) (sends_of_flow setting log flow) (λ n. recorded_of_flow setting n now flow) (λ n. unheard log n flow (issues log))
    (cond-false (src == flow.src) k (generation_of log flow.src) no)
    (cond-false ((src == flow.src) && nat_lt (generation_of log src) k) (sends_of_flow setting log flow) (base_of setting log flow) (and_left (src == flow.src) (nat_lt (generation_of log src) k) no))
    (omega arith) refl
    (λ n. cond-false ((k == n) && (src == flow.src)) (total_of setting now flow) (recorded_of_flow setting n log flow) (and_right (k == n) (src == flow.src) no))
    (λ n. omega arith)

publishes-next : (setting : PairSetting) (log : Log) (flow : Flow) (lease : Lease) → EveryBatchBalances → IsListOf setting lease.generation log → Holds setting log flow → Holds setting (Published (issue_for setting log lease) ∷ log) flow
publishes-next setting log flow lease balances is c =
    let k : ℕ = lease.generation in
    let issue : BatchIssue = issue_for setting log lease in
    let now : List Fact = Published issue ∷ log in
    let of_k = eq-eqb k k refl in
    let balanced = (applies balances setting k log issue.number is).balance flow in
    publishes (generation_of log flow.src) (base_of setting log flow) (asked_of_flow log flow) (sends_of_flow setting log flow)
    (λ n. allocated n flow (issues log)) (λ n. need_in (item_of (list_of setting n log) flow)) (λ n. published setting n log flow) (λ n. recorded_of_flow setting n log flow) (λ n. unheard log n flow (issues log)) c
    k (slots_of flow issue.slots)
    (λ n. allocated n flow (issues now)) (λ n. need_in (item_of (list_of setting n now) flow)) (λ n. published setting n now flow) (λ n. unheard now n flow (issues now))
    (sum_by-cons (share k flow) issue (issues log) ∙ ap (λ (n : ℕ). n + allocated k flow (issues log)) (cond-true (k == k) (slots_of flow issue.slots) 0 of_k))
    (λ n other. sum_by-cons (share n flow) issue (issues log) ∙ (ap (λ (m : ℕ). m + allocated n flow (issues log)) (cond-false (k == n) (slots_of flow issue.slots) 0 (ne_eqb k n other)) ∙ omega arith))
    (
    let left : list_of setting k now ≡ list_then setting.b issue.number issue.batch (list_of setting k log) =
    ap (λ (ys : List (ℕ × DemandBatch)). list_by setting.b [] (published_batches k log ++ ys)) (cond-true (k == k) ((issue.number, issue.batch) ∷ []) [] of_k)
    ∙ list_by-append setting.b [] (published_batches k log) ((issue.number, issue.batch) ∷ []) in
    let needs = ap (λ (l : List Item). need_in (item_of l flow)) left in
    omega (arith, needs, balanced, adds setting k log flow (need_in (item_of (list_of setting k log) flow)))
    )
    (λ n other.
    ap (λ (ys : List (ℕ × DemandBatch)). need_in (item_of (list_by setting.b [] (published_batches n log ++ ys)) flow)) (cond-false (k == n) ((issue.number, issue.batch) ∷ []) [] (ne_eqb k n other))
    ∙ ap (λ (ys : List (ℕ × DemandBatch)). need_in (item_of (list_by setting.b [] ys) flow)) (append-nil (published_batches n log)))
    (cond-true (k == k) (recorded_of_flow setting k log flow) (published setting k log flow) of_k)
    (λ n other. cond-false (k == n) (recorded_of_flow setting n log flow) (published setting n log flow) (ne_eqb k n other))
    (omega (
      arith,
      sum_by-cons (unheard_share now k flow) issue (issues log),
      cond_both ((k == k) && not (has_heard now flow.src issue.number)) (slots_of flow issue.slots) 0 (λ (m : ℕ). m ≤ slots_of flow issue.slots) (λ yes. omega arith) (λ no. omega arith),
    ))
    (λ n other. omega (
      arith,
      sum_by-cons (unheard_share now n flow) issue (issues log),
      cond-false ((k == n) && not (has_heard now flow.src issue.number)) (slots_of flow issue.slots) 0 (and_left (k == n) (not (has_heard now flow.src issue.number)) (ne_eqb k n other)),
    ))

hears-other : (setting : PairSetting) (log : Log) (flow : Flow) (src : ℕ) (issue : BatchIssue) → (src ≡ flow.src → ⊥) → Holds setting log flow → Holds setting (Heard src issue ∷ log) flow
hears-other setting log flow src issue other c =
    let no = ne_eqb src flow.src other in
    let now : List Fact = Heard src issue ∷ log in
    let k : ℕ = issue.lease.generation in
    let nothing : count_by (is_of flow) (sends_at setting log src issue) ≡ 0 =
    cond_both (nat_lt (generation_of log src) k) [] (own_sends src (first_slot setting.b issue.number) issue.slots) (λ (xs : List Send). count_by (is_of flow) xs ≡ 0) (λ yes. refl) (λ not_new. none flow src (first_slot setting.b issue.number) issue.slots other) in
    at (generation_of log flow.src) (base_of setting log flow) (asked_of_flow log flow) (sends_of_flow setting log flow)
    (λ n. allocated n flow (issues log)) (λ n. need_in (item_of (list_of setting n log) flow)) (λ n. published setting n log flow) (λ n. recorded_of_flow setting n log flow) (λ n. unheard log n flow (issues log)) c
    (generation_of now flow.src) (base_of setting now flow) (asked_of_flow log flow) (sends_of_flow setting now flow) (λ n. recorded_of_flow setting n log flow) (λ n. unheard now n flow (issues log))
    (cond-false (src == flow.src) k (generation_of log flow.src) no)
    (cond-false ((src == flow.src) && nat_lt (generation_of log src) k) (sends_of_flow setting log flow) (base_of setting log flow) (and_left (src == flow.src) (nat_lt (generation_of log src) k) no))
    (omega arith)
    (sends-more setting log src issue flow ∙ (ap (λ (n : ℕ). sends_of_flow setting log flow + n) nothing ∙ omega arith))
    (λ n. refl)
    (λ n. fewer log src issue flow n (issues log))

hears-own-batch : (setting : PairSetting) (log : Log) (flow : Flow) (issue : BatchIssue) → issue_at log issue.number ≡ Some issue → generation_of log flow.src ≤ issue.lease.generation → has_heard log flow.src issue.number ≡ false
    → Holds setting log flow → Holds setting (Heard flow.src issue ∷ log) flow
hears-own-batch setting log flow issue is le first c =
    let src : ℕ = flow.src in
    let g : ℕ = generation_of log src in
    let k : ℕ = issue.lease.generation in
    let now : List Fact = Heard src issue ∷ log in
    let of_src = eq-eqb src src refl in
    let is_g : generation_of now src ≡ k = cond-true (src == src) k g of_src in
    let alloc : ℕ → ℕ = λ n. allocated n flow (issues log) in
    let need : ℕ → ℕ = λ n. need_in (item_of (list_of setting n log) flow) in
    let pubs : ℕ → ℕ = λ n. published setting n log flow in
    let rec : ℕ → ℕ = λ n. recorded_of_flow setting n log flow in
    let un : ℕ → ℕ = λ n. unheard log n flow (issues log) in
    let un' : ℕ → ℕ = λ n. unheard now n flow (issues log) in
    let base : ℕ = base_of setting log flow in
    let asks : ℕ = asked_of_flow log flow in
    let so_far : ℕ = sends_of_flow setting log flow in
    let then_sent : ℕ = sends_of_flow setting now flow in
    let own_list : List Send = own_sends src (first_slot setting.b issue.number) issue.slots in
    let fewer' : (n : ℕ) → un' n ≤ un n = λ n. fewer log src issue flow n (issues log) in
    elim (cases_lt g k) [
      | inl above ↦
          let is_base : base_of setting now flow ≡ so_far = cond-true ((src == src) && nat_lt g k) so_far base (and_from (src == src) (nat_lt g k) of_src (lt-ltb g k above)) in
          let nothing : count_by (is_of flow) (sends_at setting log src issue) ≡ 0 = ap (λ (xs : List Send). count_by (is_of flow) xs) (cond-true (nat_lt g k) [] own_list (lt-ltb g k above)) in
          let is_sent : then_sent ≡ so_far = sends-more setting log src issue flow ∙ (ap (λ (n : ℕ). so_far + n) nothing ∙ omega arith) in
          let then : Counts k so_far asks so_far alloc need pubs rec un' = hears_new g base asks so_far alloc need pubs rec un c k un' above fewer' in
          at k so_far asks so_far alloc need pubs rec un' then (generation_of now src) (base_of setting now flow) asks then_sent rec un' is_g is_base (omega arith) is_sent (λ n. refl) (λ n. omega arith)
      | inr below ↦
          let is_base : base_of setting now flow ≡ base = cond-false ((src == src) && nat_lt g k) so_far base (and_right (src == src) (nat_lt g k) (le-ltb g k below)) in
          let same : k ≡ g = omega arith in
          let here : count_by (is_of flow) (sends_at setting log src issue) ≡ count_by (is_of flow) own_list = ap (λ (xs : List Send). count_by (is_of flow) xs) (cond-false (nat_lt g k) [] own_list (le-ltb g k below)) in
          let more : then_sent ≤ so_far + slots_of flow issue.slots = omega (arith, sends-more setting log src issue flow, here, own flow (first_slot setting.b issue.number) issue.slots) in
          let falls_by : un' g + slots_of flow issue.slots ≤ un g = subst (λ (n : ℕ). un' n + slots_of flow issue.slots ≤ un n) same (less log issue flow is first) in
          let then : Counts g base asks then_sent alloc need pubs rec un' = hears_own g base asks so_far alloc need pubs rec un c (slots_of flow issue.slots) then_sent un' more falls_by fewer' in
          at g base asks then_sent alloc need pubs rec un' then (generation_of now src) (base_of setting now flow) asks then_sent rec un' (is_g ∙ same) is_base (omega arith) refl (λ n. refl) (λ n. omega arith)
    ]

-- ---- every log

module _ (balances : EveryBatchBalances) where
  pub holds : (setting : PairSetting) (log : Log) (flow : Flow) → IsLog setting log → Holds setting log flow
  holds setting [] flow is = record { left = λ k. omega arith; grows = λ k. omega arith; later = λ k above. refl; within = λ k. omega arith; now = omega arith; part = λ k. omega arith; sent = omega arith }
  holds setting (Asked of slots ∷ log) flow is =
      at (generation_of log flow.src) (base_of setting log flow) (asked_of_flow log flow) (sends_of_flow setting log flow)
      (λ n. allocated n flow (issues log)) (λ n. need_in (item_of (list_of setting n log) flow)) (λ n. published setting n log flow) (λ n. recorded_of_flow setting n log flow) (λ n. unheard log n flow (issues log)) (holds setting log flow is.1)
      (generation_of log flow.src) (base_of setting log flow) (asked_of_flow (Asked of slots ∷ log) flow) (sends_of_flow setting log flow) (λ n. recorded_of_flow setting n log flow) (λ n. unheard log n flow (issues log))
      refl refl (omega arith) refl (λ n. refl) (λ n. omega arith)
  holds setting (Requested holder ∷ log) flow is = let c = holds setting log flow is.1 in record { left = c.left; grows = c.grows; later = c.later; within = c.within; now = c.now; part = c.part; sent = c.sent }
  holds setting (Granted lease ∷ log) flow is = let c = holds setting log flow is.1 in record { left = c.left; grows = c.grows; later = c.later; within = c.within; now = c.now; part = c.part; sent = c.sent }
  holds setting (Took lease ∷ log) flow is = let c = holds setting log flow is.1 in record { left = c.left; grows = c.grows; later = c.later; within = c.within; now = c.now; part = c.part; sent = c.sent }
  holds setting (Told src k ∷ log) flow is = elim (cases_eq src flow.src) [
    | inl here ↦ subst (λ (s : ℕ). Holds setting (Told s k ∷ log) flow) (sym here) (tells-own setting log flow k (subst (λ (s : ℕ). generation_of log s ≤ k) here is.0.4) (holds setting log flow is.1))
    | inr other ↦ tells-other setting log flow src k other (holds setting log flow is.1)
  ]
  holds setting (Published issue ∷ log) flow is =
      subst (λ (i : BatchIssue). Holds setting (Published i ∷ log) flow) (sym is.0.2)
      (publishes-next setting log flow issue.lease balances (lists balances setting log is.1 issue.lease.generation) (holds setting log flow is.1))
  holds setting (Heard src issue ∷ log) flow is = elim (cases_eq src flow.src) [
    | inl here ↦
        subst (λ (s : ℕ). Holds setting (Heard s issue ∷ log) flow) (sym here)
        (hears-own-batch setting log flow issue is.0.0 (subst (λ (s : ℕ). generation_of log s ≤ issue.lease.generation) here is.0.1) (subst (λ (s : ℕ). has_heard log s issue.number ≡ false) here is.0.2) (holds setting log flow is.1))
    | inr other ↦ hears-other setting log flow src issue other (holds setting log flow is.1)
  ]
  holds setting (Crashed node ∷ log) flow is = let c = holds setting log flow is.1 in record { left = c.left; grows = c.grows; later = c.later; within = c.within; now = c.now; part = c.part; sent = c.sent }
  holds setting (Refused why ∷ log) flow is = let c = holds setting log flow is.1 in record { left = c.left; grows = c.grows; later = c.later; within = c.within; now = c.now; part = c.part; sent = c.sent }

  pub sends_within_asks : EverySendIsAsked
  sends_within_asks setting events flow =
      let log : List Fact = log_of setting events in
      sends_are_asked (generation_of log flow.src) (base_of setting log flow) (asked_of_flow log flow) (sends_of_flow setting log flow)
      (λ n. allocated n flow (issues log)) (λ n. need_in (item_of (list_of setting n log) flow)) (λ n. published setting n log flow) (λ n. recorded_of_flow setting n log flow) (λ n. unheard log n flow (issues log))
      (holds setting log flow (is_log setting events))
