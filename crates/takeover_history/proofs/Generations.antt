-- A generation is one holder's, and its batches are scheduled in rising numbers.
use Rattle.std.proofs.Common.{get_or, ◌≡◌, ◌≢◌, ◌<◌, ◌≤◌, ◌+◌, ◌==◌, ◌&&◌, ℕ, List, [], ◌∷◌, ◌++◌, map, length, cond, find, Bool, true, false, Option, Some, None, All, AllPairs, refl, sym, ap, ◌∙◌, subst, inl, inr, arith}
use Rattle.std.proofs.lemmas.Bool.{cases_Bool, cases_eq, cond-true, cond-false, cond_both, eq-eqb, ne_eqb, eqb-true, and_parts}
use Rattle.std.proofs.lemmas.Option.{same_Some}
use Rattle.std.proofs.lemmas.List.{append-nil, append_assoc}
use Rattle.std.proofs.lemmas.List.Elements.{All-nil, All-cons, All-head, All-tail, All-append, All-weaker}
use Rattle.greedy_rules.specs.declared.flows.Flow.{Flow}
use Rattle.greedy_rules.specs.declared.flows.Item.{Item}
use Rattle.greedy_rules.specs.Batches.{DemandBatch}
use Rattle.greedy_rules.specs.Schedule.{slots_then, list_then, schedule_from, rest_from}
use Rattle.list_facts.proofs.Pairs.{AllPairs-nil, AllPairs-cons, AllPairs-append}
use Rattle.takeover_history.specs.Events.{PairSetting, Event, Holder, Lease, BatchIssue, Fact, Asked, Requested, Granted, Took, Told, Published, Heard, Crashed, Refused, Log}
use Rattle.takeover_history.specs.Leases.{boot_of, leases, same_holder, changes, lease_for, lease_of, used_of}
use Rattle.takeover_history.specs.Endpoints.{issues}
use Rattle.takeover_history.specs.Batches.{published_batches, slots_by, list_by, list_of, issue_for}
use Rattle.takeover_history.specs.Steps.{log_of, IsLog}
use Rattle.takeover_history.specs.Laws.{slots_published, EachGenerationIsScheduled, NumbersRise, EachGenerationIsOneNodes, NumbersInARowAreASchedule}
use Rattle.takeover_history.proofs.Follow.{is_log}
use Rattle.takeover_history.proofs.Leases.{has_batch, owner, IsUsed, Leased, leased}
use Rattle.takeover_history.proofs.Lists.{list_by-append}

-- ---- schedules by numbers

pub in_a_row : NumbersInARowAreASchedule
in_a_row b k list [] = (refl, refl)
in_a_row b k list (batch ∷ batches) =
    let later = in_a_row b (k + 1) (list_then b k batch list) batches in
    (ap (λ (xs : List (List Flow)). slots_then b k batch list ++ xs) later.0, later.1)

slots_by-append : (b : ℕ) (list : List Item) (xs ys : List (ℕ × DemandBatch)) → slots_by b list (xs ++ ys) ≡ slots_by b list xs ++ slots_by b (list_by b list xs) ys
slots_by-append b list [] ys = refl
slots_by-append b list (x ∷ xs) ys =
    let then : List Item = list_then b x.0 x.1 list in
    ap (λ (s : List (List Flow)). slots_then b x.0 x.1 list ++ s) (slots_by-append b then xs ys)
    ∙ sym (append_assoc (slots_then b x.0 x.1 list) (slots_by b then xs) (slots_by b (list_by b then xs) ys))

scheduled-more : (setting : PairSetting) (k : ℕ) (log : Log) (lease : Lease) → slots_published k log ≡ slots_by setting.b [] (published_batches k log)
    → slots_published k (Published (issue_for setting log lease) ∷ log) ≡ slots_by setting.b [] (published_batches k (Published (issue_for setting log lease) ∷ log))
scheduled-more setting k log lease before =
    let issue : BatchIssue = issue_for setting log lease in
    let x : ℕ × DemandBatch = (issue.number, issue.batch) in
    elim (cases_eq lease.generation k) [
      | inl here ↦
          let test = eq-eqb lease.generation k here in
          let list : issue.slots ≡ slots_then setting.b issue.number issue.batch (list_of setting k log) = ap (λ (n : ℕ). slots_then setting.b issue.number issue.batch (list_of setting n log)) here in
          ap (λ (s : List (List Flow)). slots_published k log ++ s) (cond-true (lease.generation == k) issue.slots [] test)
          ∙ (ap (λ (s : List (List Flow)). s ++ issue.slots) before
          ∙ (ap (λ (s : List (List Flow)). slots_by setting.b [] (published_batches k log) ++ s) (list ∙ sym (append-nil (slots_then setting.b issue.number issue.batch (list_of setting k log))))
          ∙ (sym (slots_by-append setting.b [] (published_batches k log) (x ∷ []))
          ∙ ap (λ (ys : List (ℕ × DemandBatch)). slots_by setting.b [] (published_batches k log ++ ys)) (sym (cond-true (lease.generation == k) (x ∷ []) [] test)))))
      | inr there ↦
          let test = ne_eqb lease.generation k there in
          ap (λ (s : List (List Flow)). slots_published k log ++ s) (cond-false (lease.generation == k) issue.slots [] test)
          ∙ (append-nil (slots_published k log)
          ∙ (before
          ∙ (ap (λ (ys : List (ℕ × DemandBatch)). slots_by setting.b [] ys) (sym (append-nil (published_batches k log)))
          ∙ ap (λ (ys : List (ℕ × DemandBatch)). slots_by setting.b [] (published_batches k log ++ ys)) (sym (cond-false (lease.generation == k) (x ∷ []) [] test)))))
    ]

scheduled : (setting : PairSetting) (k : ℕ) (log : Log) → IsLog setting log → slots_published k log ≡ slots_by setting.b [] (published_batches k log)
scheduled setting k [] is = refl
scheduled setting k (Asked flow slots ∷ log) is = scheduled setting k log is.1
scheduled setting k (Requested holder ∷ log) is = scheduled setting k log is.1
scheduled setting k (Granted lease ∷ log) is = scheduled setting k log is.1
scheduled setting k (Took lease ∷ log) is = scheduled setting k log is.1
scheduled setting k (Told src generation ∷ log) is = scheduled setting k log is.1
scheduled setting k (Published issue ∷ log) is =
    subst (λ (i : BatchIssue). slots_published k (Published i ∷ log) ≡ slots_by setting.b [] (published_batches k (Published i ∷ log))) (sym is.0.2) (scheduled-more setting k log issue.lease (scheduled setting k log is.1))
scheduled setting k (Heard src issue ∷ log) is = scheduled setting k log is.1
scheduled setting k (Crashed node ∷ log) is = scheduled setting k log is.1
scheduled setting k (Refused why ∷ log) is = scheduled setting k log is.1

pub each_is_scheduled : EachGenerationIsScheduled
each_is_scheduled setting events generation = scheduled setting generation (log_of setting events) (is_log setting events)

-- ---- a generation is one holder's

-- a later lease has no lower generation, and the same one only for the same holder
abbrev pub Later : Lease → Lease → Type 0
Later new old = (old.generation ≤ new.generation) × (old.generation ≡ new.generation → old.holder ≡ new.holder)

same-true : (one other : Holder) → same_holder one other ≡ true → other ≡ one
same-true one other same =
    let p = and_parts (one.node == other.node) (one.boot == other.boot) same in
    let node : other.node ≡ one.node = sym (eqb-true one.node other.node p.0) in
    let boot : other.boot ≡ one.boot = sym (eqb-true one.boot other.boot p.1) in
    ap (λ (n : ℕ). record { node = n; boot = other.boot }) node ∙ ap (λ (n : ℕ). record { node = one.node; boot = n }) boot

later-more : (new last : Lease) (ls : List Lease) → new.generation ≡ cond (same_holder new.holder last.holder) 0 1 + last.generation → All (Later last) ls → All (Later new) (last ∷ ls)
later-more new last ls is later = elim (cases_Bool (same_holder new.holder last.holder)) [
  | inl same ↦
      let to : last.holder ≡ new.holder = same-true new.holder last.holder same in
      let none : ◌≡◌ {A = ℕ} (cond (same_holder new.holder last.holder) 0 1) 0 = cond-true (same_holder new.holder last.holder) 0 1 same in
      let equal : new.generation ≡ last.generation = omega arith in
      All-cons (Later new) last ls (omega arith, λ of. to)
      (All-weaker (Later last) (Later new) (λ old before. (omega (arith, before.0), λ of. before.1 (of ∙ equal) ∙ to)) ls later)
  | inr other ↦
      let one : ◌≡◌ {A = ℕ} (cond (same_holder new.holder last.holder) 0 1) 1 = cond-false (same_holder new.holder last.holder) 0 1 other in
      All-cons (Later new) last ls (omega arith, λ of. absurd (omega arith))
      (All-weaker (Later last) (Later new) (λ old before. (omega (arith, before.0), λ of. absurd (omega (arith, before.0)))) ls later)
]

-- leases as they are granted
abbrev pub AreGranted : List Lease → Type 0
AreGranted [] = Unit {0}
AreGranted (lease ∷ before) = (lease.generation ≡ changes lease.holder before) × AreGranted before

pub granted : (setting : PairSetting) (log : Log) → IsLog setting log → AreGranted (leases log)
granted setting [] is = tt
granted setting (Asked flow slots ∷ log) is = granted setting log is.1
granted setting (Requested holder ∷ log) is = granted setting log is.1
granted setting (Granted lease ∷ log) is = (ap (λ (l : Lease). l.generation) is.0, granted setting log is.1)
granted setting (Took lease ∷ log) is = granted setting log is.1
granted setting (Told src generation ∷ log) is = granted setting log is.1
granted setting (Published issue ∷ log) is = granted setting log is.1
granted setting (Heard src issue ∷ log) is = granted setting log is.1
granted setting (Crashed node ∷ log) is = granted setting log is.1
granted setting (Refused why ∷ log) is = granted setting log is.1

pub all_later : (lease : Lease) (ls : List Lease) → AreGranted (lease ∷ ls) → All (Later lease) ls
all_later lease [] are = All-nil (Later lease)
all_later lease (last ∷ ls) are = later-more lease last ls (are.0 ∙ ap (λ (n : ℕ). cond (same_holder lease.holder last.holder) 0 1 + n) (sym are.1.0)) (all_later last ls are.1)

abbrev pub Agree : Lease → Lease → Type 0
Agree one other = one.generation ≡ other.generation → one.holder ≡ other.holder

pub all_agree : (ls : List Lease) → AreGranted ls → All (λ one. All (Agree one) ls) ls
all_agree [] are = All-nil (λ (one : Lease). All (Agree one) [])
all_agree (lease ∷ ls) are =
    let later = all_later lease ls are in
    All-cons (λ (one : Lease). All (Agree one) (lease ∷ ls)) lease ls
    (All-cons (Agree lease) lease ls (λ same. refl) (All-weaker (Later lease) (Agree lease) (λ old l same. sym (l.1 (sym same))) ls later))
    (λ k d within. All-cons (Agree (get_or ls k d)) lease ls (λ same. (later k d within).1 same) (all_agree ls are.1 k d within))

-- what holds of all leases holds of an owner
owned : (P : Lease → Type 0) (setting : PairSetting) (number : ℕ) (ls : List Lease) (lease : Lease) → All P ls → owner setting number ls ≡ Some lease → P lease
owned P setting number [] lease all is = absurd (cc)
owned P setting number (x ∷ ls) lease all is = elim (cases_Bool (has_batch setting number x)) [
  | inl here ↦ subst P (same_Some x lease (rw here at is)) (All-head P x ls all)
  | inr other ↦ owned P setting number ls lease (All-tail P x ls all) (rw other at is)
]

-- two batches of one generation are of one holder
pub one_holder : (setting : PairSetting) (log : Log) (i j : BatchIssue) → AreGranted (leases log) → IsUsed setting log i → IsUsed setting log j → i.lease.generation ≡ j.lease.generation → i.lease.holder ≡ j.lease.holder
one_holder setting log i j are one other same =
    let agrees : All (Agree i.lease) (leases log) = owned (λ (l : Lease). All (Agree l) (leases log)) setting i.number (leases log) i.lease (all_agree (leases log) are) one.0 in
    owned (Agree i.lease) setting j.number (leases log) j.lease agrees other.0 same

pub one_nodes : EachGenerationIsOneNodes
one_nodes setting events =
    let log : List Fact = log_of setting events in
    let l = leased setting log (is_log setting events) in
    λ m n d lt within.
    let xs = issues log in
    one_holder setting log (get_or xs m d) (get_or xs n d) (granted setting log (is_log setting events)) (l.used m d (omega arith)) (l.used n d within)

-- ---- numbers rise

abbrev Below : ℕ × DemandBatch → ℕ × DemandBatch → Type 0
Below x y = x.0 < y.0

-- what holds of all issues of a generation holds of its batches
batches_are : (P : ℕ → Type 0) (k : ℕ) (log : Log) → All (λ (i : BatchIssue). i.lease.generation ≡ k → P i.number) (issues log) → All (λ (x : ℕ × DemandBatch). P x.0) (published_batches k log)
batches_are P k [] all = All-nil (λ (x : ℕ × DemandBatch). P x.0)
batches_are P k (Asked flow slots ∷ log) all = batches_are P k log all
batches_are P k (Requested holder ∷ log) all = batches_are P k log all
batches_are P k (Granted lease ∷ log) all = batches_are P k log all
batches_are P k (Took lease ∷ log) all = batches_are P k log all
batches_are P k (Told src generation ∷ log) all = batches_are P k log all
batches_are P k (Published issue ∷ log) all =
    let Q : ℕ × DemandBatch → Type 0 = λ x. P x.0 in
    let R : BatchIssue → Type 0 = λ i. i.lease.generation ≡ k → P i.number in
    All-append Q (published_batches k log) (cond (issue.lease.generation == k) ((issue.number, issue.batch) ∷ []) []) (batches_are P k log (All-tail R issue (issues log) all))
    (cond_both (issue.lease.generation == k) ((issue.number, issue.batch) ∷ []) [] (All Q)
    (λ here. All-cons Q (issue.number, issue.batch) [] (All-head R issue (issues log) all (eqb-true issue.lease.generation k here)) (All-nil Q))
    (λ other. All-nil Q))
batches_are P k (Heard src issue ∷ log) all = batches_are P k log all
batches_are P k (Crashed node ∷ log) all = batches_are P k log all
batches_are P k (Refused why ∷ log) all = batches_are P k log all

-- earlier batches of the generation of the next one have lower numbers
below_next : (setting : PairSetting) (log : Log) (new : BatchIssue) → IsLog setting (Published new ∷ log) → All (λ (i : BatchIssue). i.lease.generation ≡ new.lease.generation → i.number < new.number) (issues log)
below_next setting log new is =
    let l = leased setting log is.1 in
    let now = leased setting (Published new ∷ log) is in
    let mine : IsUsed setting (Published new ∷ log) new = All-head (IsUsed setting (Published new ∷ log)) new (issues log) now.used in
    let node : ℕ = new.lease.holder.node in
    let number : new.number ≡ new.lease.first + used_of log node = ap (λ (i : BatchIssue). i.number) is.0.2 in
    let t = l.taken node new.lease is.0.0 in
    All-weaker (IsUsed setting log) (λ i. i.lease.generation ≡ new.lease.generation → i.number < new.number)
    (λ i u same.
    let agrees : All (Agree i.lease) (leases log) = owned (λ (x : Lease). All (Agree x) (leases log)) setting i.number (leases log) i.lease (all_agree (leases log) (granted setting log is.1)) u.0 in
    let holder : i.lease.holder ≡ new.lease.holder = owned (Agree i.lease) setting new.number (leases log) new.lease agrees mine.0 same in
    let of_node : i.lease.holder.node ≡ node = ap (λ (h : Holder). h.node) holder in
    let boot : i.lease.holder.boot ≡ boot_of log i.lease.holder.node = ap (λ (h : Holder). h.boot) holder ∙ (t.1 ∙ ap (λ (n : ℕ). boot_of log n) (sym of_node)) in
    let passed = u.3 boot in
    let cur : passed.0 ≡ new.lease = same_Some passed.0 new.lease (sym passed.1 ∙ (ap (λ (n : ℕ). lease_of log n) of_node ∙ is.0.0)) in
    let first = ap (λ (x : Lease). x.first) cur in
    let used = ap (λ (n : ℕ). used_of log n) of_node in
    omega (arith, passed.2, first, used, number))
    (issues log) l.used

rising : (setting : PairSetting) (k : ℕ) (log : Log) → IsLog setting log → AllPairs Below (published_batches k log)
rising setting k [] is = AllPairs-nil Below
rising setting k (Asked flow slots ∷ log) is = rising setting k log is.1
rising setting k (Requested holder ∷ log) is = rising setting k log is.1
rising setting k (Granted lease ∷ log) is = rising setting k log is.1
rising setting k (Took lease ∷ log) is = rising setting k log is.1
rising setting k (Told src generation ∷ log) is = rising setting k log is.1
rising setting k (Published issue ∷ log) is =
    let x : ℕ × DemandBatch = (issue.number, issue.batch) in
    let xs = published_batches k log in
    let before = rising setting k log is.1 in
    cond_both (issue.lease.generation == k) (x ∷ []) [] (λ (ys : List (ℕ × DemandBatch)). AllPairs Below (xs ++ ys))
    (λ here.
    let same : issue.lease.generation ≡ k = eqb-true issue.lease.generation k here in
    let lower : All (λ (y : ℕ × DemandBatch). y.0 < issue.number) xs = batches_are (λ (n : ℕ). n < issue.number) k log
    (All-weaker (λ (i : BatchIssue). i.lease.generation ≡ issue.lease.generation → i.number < issue.number) (λ i. i.lease.generation ≡ k → i.number < issue.number) (λ i less of. less (of ∙ sym same)) (issues log) (below_next setting log issue is)) in
    AllPairs-append Below xs (x ∷ []) before (AllPairs-cons Below x [] (All-nil (Below x)) (AllPairs-nil Below))
    (All-weaker (λ (y : ℕ × DemandBatch). y.0 < issue.number) (λ y. All (Below y) (x ∷ [])) (λ y less. All-cons (Below y) x [] less (All-nil (Below y))) xs lower))
    (λ other. subst (AllPairs Below) (sym (append-nil xs)) before)
rising setting k (Heard src issue ∷ log) is = rising setting k log is.1
rising setting k (Crashed node ∷ log) is = rising setting k log is.1
rising setting k (Refused why ∷ log) is = rising setting k log is.1

pub numbers_rise : NumbersRise
numbers_rise setting events generation = rising setting generation (log_of setting events) (is_log setting events)
