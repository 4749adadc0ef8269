-- Leases have no batch in common, and each batch is published once under its lease.
use Rattle.std.proofs.Common.{◌≡◌, ◌≢◌, ◌<◌, ◌≤◌, ◌+◌, ◌*◌, ◌==◌, nat_lt, nat_le, ◌&&◌, ℕ, List, [], ◌∷◌, length, cond, find, Bool, true, false, Option, Some, None, All, AllPairs, refl, sym, ap, ◌∙◌, subst, inl, inr, arith}
use Rattle.std.proofs.Math.Nat.{mul-suc}
use Rattle.std.proofs.lemmas.Bool.{cases_Bool, cases_eq, cond-true, cond-false, eq-eqb, ne_eqb, and_from, and_left, lt-ltb, ltb-true, le-leb, lt-leb, eqb-true}
use Rattle.std.proofs.lemmas.List.Elements.{All-nil, All-cons, All-weaker}
use Rattle.std.proofs.lemmas.Option.{same_Some}
use Rattle.list_facts.proofs.Pairs.{AllPairs-nil, AllPairs-cons}
use Rattle.takeover_history.specs.Events.{PairSetting, Event, Holder, Lease, BatchIssue, Fact, Asked, Requested, Granted, Took, Told, Published, Heard, Crashed, Refused, Log}
use Rattle.takeover_history.specs.Leases.{boot_of, sent_messages, grant_at, leases, lease_for, lease_of, used_of, begins_above}
use Rattle.takeover_history.specs.Endpoints.{issues}
use Rattle.takeover_history.specs.Batches.{issue_for}
use Rattle.takeover_history.specs.Steps.{log_of, FactFollows, IsLog}
use Rattle.takeover_history.specs.Laws.{NoBatchIsPublishedTwice}
use Rattle.takeover_history.proofs.Follow.{is_log}

-- the batch is one of the lease's
abbrev pub has_batch : PairSetting → ℕ → Lease → Bool
has_batch setting number lease = nat_le lease.first number && nat_lt number (lease.first + setting.span)

abbrev pub owner : PairSetting → ℕ → List Lease → Option Lease
owner setting number ls = find (has_batch setting number) ls

-- the lease was granted: its batches are no other lease's
abbrev pub IsOwned : PairSetting → List Lease → Lease → Type 0
IsOwned setting ls lease =
    (lease.first + setting.span ≤ setting.span * length ls)
    × ((number : ℕ) → lease.first ≤ number → number < lease.first + setting.span → owner setting number ls ≡ Some lease)

-- the batch was published under its lease, and where the node is still in that boot it has passed it
abbrev pub IsUsed : PairSetting → Log → BatchIssue → Type 0
IsUsed setting log issue =
    (owner setting issue.number (leases log) ≡ Some issue.lease)
    × (issue.number < setting.span * length (leases log))
    × (issue.lease.holder.boot ≤ boot_of log issue.lease.holder.node)
    × (issue.lease.holder.boot ≡ boot_of log issue.lease.holder.node → (lease : Lease) × (lease_of log issue.lease.holder.node ≡ Some lease) × (issue.number < lease.first + used_of log issue.lease.holder.node))

abbrev Apart : BatchIssue → BatchIssue → Type 0
Apart i j = i.number ≢ j.number

pub record Leased (setting : PairSetting) (log : Log) : Type 0 where
  pub grants : (message : ℕ) (lease : Lease) → grant_at log message ≡ Some lease → IsOwned setting (leases log) lease
  pub taken : (node : ℕ) (lease : Lease) → lease_of log node ≡ Some lease → IsOwned setting (leases log) lease × (lease.holder.boot ≡ boot_of log node) × (used_of log node ≤ setting.span)
  pub used : All (IsUsed setting log) (issues log)
  pub once : AllPairs Apart (issues log)

-- ---- a grant

above_is_new : (setting : PairSetting) (ls : List Lease) (lease : Lease) (number : ℕ) → number < lease.first → owner setting number (lease ∷ ls) ≡ owner setting number ls
above_is_new setting ls lease number below =
    cond-false (has_batch setting number lease) (Some lease) (owner setting number ls) (and_left (nat_le lease.first number) (nat_lt number (lease.first + setting.span)) (lt-leb lease.first number below))

owned-before : (setting : PairSetting) (ls : List Lease) (new lease : Lease) → new.first ≡ setting.span * length ls → IsOwned setting ls lease → IsOwned setting (new ∷ ls) lease
owned-before setting ls new lease first owned = (
  omega (arith, owned.0, mul-suc setting.span (length ls)),
  λ number low high. above_is_new setting ls new number (omega (arith, owned.0)) ∙ owned.1 number low high,
)

owned-new : (setting : PairSetting) (ls : List Lease) (new : Lease) → new.first ≡ setting.span * length ls → IsOwned setting (new ∷ ls) new
owned-new setting ls new first = (
  omega (arith, mul-suc setting.span (length ls)),
  λ number low high. cond-true (has_batch setting number new) (Some new) (owner setting number ls) (and_from (nat_le new.first number) (nat_lt number (new.first + setting.span)) (le-leb new.first number low) (lt-ltb number (new.first + setting.span) high)),
)

granted : (setting : PairSetting) (log : Log) (new : Lease) → new.first ≡ setting.span * length (leases log) → Leased setting log → Leased setting (Granted new ∷ log)
granted setting log new first l = record {
  grants = λ message lease is. elim (cases_Bool (sent_messages log == message)) [
    | inl here ↦ subst (λ (x : Lease). IsOwned setting (new ∷ leases log) x) (same_Some new lease (rw here at is)) (owned-new setting (leases log) new first)
    | inr other ↦ owned-before setting (leases log) new lease first (l.grants message lease (rw other at is))
  ];
  taken = λ node lease is. let t = l.taken node lease is in (owned-before setting (leases log) new lease first t.0, t.1, t.2);
  used = All-weaker (IsUsed setting log) (IsUsed setting (Granted new ∷ log))
      (λ issue u. (
        above_is_new setting (leases log) new issue.number (omega (arith, u.1)) ∙ u.0,
        omega (arith, u.1, mul-suc setting.span (length (leases log))),
        u.2,
        u.3,
      ))
      (issues log) l.used;
  once = l.once;
}

-- ---- a lease is taken

pub above-last : (setting : PairSetting) (log : Log) (new last : Lease) → begins_above setting (lease_of log new.holder.node) new ≡ true → lease_of log new.holder.node ≡ Some last → last.first + setting.span ≤ new.first
above-last setting log new last above is =
    let then : nat_lt (last.first + setting.span) (new.first + 1) ≡ true = subst (λ (o : Option Lease). begins_above setting o new ≡ true) is above in
    omega (arith, ltb-true (last.first + setting.span) (new.first + 1) then)

took : (setting : PairSetting) (log : Log) (new : Lease) → FactFollows setting log (Took new) → Leased setting log → Leased setting (Took new ∷ log)
took setting log new f l = record {
  grants = l.grants;
  taken = λ node lease is. elim (cases_Bool (new.holder.node == node)) [
    | inl here ↦
        let same : new ≡ lease = same_Some new lease (rw here at is) in
        let of_node : new.holder.node ≡ node = eqb-true new.holder.node node here in
        let none : used_of (Took new ∷ log) node ≡ 0 = cond-true (new.holder.node == node) 0 (used_of log node) here in (
          subst (λ (x : Lease). IsOwned setting (leases log) x) same (l.grants f.0 new f.1),
          subst (λ (x : Lease). x.holder.boot ≡ boot_of log node) same (f.2 ∙ ap (λ (n : ℕ). boot_of log n) of_node),
          omega (arith, none),
        )
    | inr other ↦
        let t = l.taken node lease (rw other at is) in
        let used : used_of (Took new ∷ log) node ≡ used_of log node = cond-false (new.holder.node == node) 0 (used_of log node) other in
        (t.0, t.1, omega (arith, used, t.2))
  ];
  used = All-weaker (IsUsed setting log) (IsUsed setting (Took new ∷ log))
      (λ issue u. (
        u.0,
        u.1,
        u.2,
        λ boot.
            let node : ℕ = issue.lease.holder.node in
            let before = u.3 boot in
            elim (cases_Bool (new.holder.node == node)) [
              | inl here ↦
                  let of_node : new.holder.node ≡ node = eqb-true new.holder.node node here in
                  let t = l.taken node before.0 before.1 in
                  let above = above-last setting log new before.0 f.3 (subst (λ (n : ℕ). lease_of log n ≡ Some before.0) (sym of_node) before.1) in
                  let none : used_of (Took new ∷ log) node ≡ 0 = cond-true (new.holder.node == node) 0 (used_of log node) here in
                  (new, cond-true (new.holder.node == node) (Some new) (lease_of log node) here, omega (arith, none, t.2, above, before.2))
              | inr other ↦
                  let used : used_of (Took new ∷ log) node ≡ used_of log node = cond-false (new.holder.node == node) 0 (used_of log node) other in
                  (before.0, cond-false (new.holder.node == node) (Some new) (lease_of log node) other ∙ before.1, omega (arith, used, before.2))
            ],
      ))
      (issues log) l.used;
  once = l.once;
}

-- ---- a crash

crashed : (setting : PairSetting) (log : Log) (gone : ℕ) → Leased setting log → Leased setting (Crashed gone ∷ log)
crashed setting log gone l = record {
  grants = l.grants;
  taken = λ node lease is. elim (cases_Bool (gone == node)) [
    | inl here ↦ let none : None ≡ Some lease = rw here at is in absurd (cc)
    | inr other ↦
        let t = l.taken node lease (rw other at is) in
        let boot : boot_of (Crashed gone ∷ log) node ≡ boot_of log node = ap (λ (n : ℕ). n + boot_of log node) (cond-false (gone == node) 1 0 other) ∙ omega arith in
        let used : used_of (Crashed gone ∷ log) node ≡ used_of log node = cond-false (gone == node) 0 (used_of log node) other in
        (t.0, t.1 ∙ sym boot, omega (arith, used, t.2))
  ];
  used = All-weaker (IsUsed setting log) (IsUsed setting (Crashed gone ∷ log))
      (λ issue u.
      let node : ℕ = issue.lease.holder.node in (
        u.0,
        u.1,
        omega (arith, u.2),
        λ is. elim (cases_Bool (gone == node)) [
          | inl here ↦
              let boot : boot_of (Crashed gone ∷ log) node ≡ 1 + boot_of log node = ap (λ (n : ℕ). n + boot_of log node) (cond-true (gone == node) 1 0 here) in
              absurd (omega (arith, u.2, is, boot))
          | inr other ↦
              let boot : boot_of (Crashed gone ∷ log) node ≡ boot_of log node = ap (λ (n : ℕ). n + boot_of log node) (cond-false (gone == node) 1 0 other) ∙ omega arith in
              let used : used_of (Crashed gone ∷ log) node ≡ used_of log node = cond-false (gone == node) 0 (used_of log node) other in
              let before = u.3 (is ∙ boot) in
              (before.0, cond-false (gone == node) None (lease_of log node) other ∙ before.1, omega (arith, used, before.2))
        ],
      ))
      (issues log) l.used;
  once = l.once;
}

-- ---- a batch is published

-- no batch before it has its number
apart : (setting : PairSetting) (log : Log) (new : BatchIssue) → FactFollows setting log (Published new) → Leased setting log → All (Apart new) (issues log)
apart setting log new f l =
    let node : ℕ = new.lease.holder.node in
    let t = l.taken node new.lease f.0 in
    let number : new.number ≡ new.lease.first + used_of log node = ap (λ (i : BatchIssue). i.number) f.2 in
    let mine : owner setting new.number (leases log) ≡ Some new.lease = t.0.1 new.number (omega arith) (omega (arith, f.1)) in
    All-weaker (IsUsed setting log) (Apart new)
    (λ issue u same.
    let lease : issue.lease ≡ new.lease = same_Some issue.lease new.lease (sym u.0 ∙ (ap (λ (n : ℕ). owner setting n (leases log)) (sym same) ∙ mine)) in
    let of_node : issue.lease.holder.node ≡ node = ap (λ (x : Lease). x.holder.node) lease in
    let boot : issue.lease.holder.boot ≡ boot_of log issue.lease.holder.node =
    ap (λ (x : Lease). x.holder.boot) lease ∙ (t.1 ∙ ap (λ (n : ℕ). boot_of log n) (sym of_node)) in
    let passed = u.3 boot in
    let is : passed.0 ≡ new.lease = same_Some passed.0 new.lease (sym passed.1 ∙ (ap (λ (n : ℕ). lease_of log n) of_node ∙ f.0)) in
    let first = ap (λ (x : Lease). x.first) is in
    let used = ap (λ (n : ℕ). used_of log n) of_node in
    absurd (omega (arith, passed.2, first, used, number, same)))
    (issues log) l.used

published : (setting : PairSetting) (log : Log) (new : BatchIssue) → FactFollows setting log (Published new) → Leased setting log → Leased setting (Published new ∷ log)
published setting log new f l =
    let by : ℕ = new.lease.holder.node in
    let now : List Fact = Published new ∷ log in
    let t = l.taken by new.lease f.0 in
    let number : new.number ≡ new.lease.first + used_of log by = ap (λ (i : BatchIssue). i.number) f.2 in
    let more : used_of now by ≡ 1 + used_of log by = ap (λ (n : ℕ). n + used_of log by) (cond-true (by == by) 1 0 (eq-eqb by by refl)) in
    record {
      grants = l.grants;
      taken = λ node lease is.
          let before = l.taken node lease is in (
            before.0,
            before.1,
            elim (cases_eq by node) [
              | inl here ↦ subst (λ (n : ℕ). used_of now n ≤ setting.span) here (omega (arith, more, f.1))
              | inr other ↦
                  let same : used_of now node ≡ used_of log node = ap (λ (n : ℕ). n + used_of log node) (cond-false (by == node) 1 0 (ne_eqb by node other)) ∙ omega arith in
                  omega (arith, same, before.2)
            ],
          );
      used = All-cons (IsUsed setting now) new (issues log) (
        t.0.1 new.number (omega arith) (omega (arith, f.1)),
        omega (arith, t.0.0, f.1),
        omega (arith, t.1),
        λ boot. (new.lease, f.0, omega (arith, more)),
      )
          (All-weaker (IsUsed setting log) (IsUsed setting now)
          (λ issue u. (
            u.0,
            u.1,
            u.2,
            λ boot. let before = u.3 boot in (before.0, before.1, omega (arith, before.2)),
          ))
          (issues log) l.used);
      once = AllPairs-cons Apart new (issues log) (apart setting log new f l) l.once;
    }

-- ---- every log

pub leased : (setting : PairSetting) (log : Log) → IsLog setting log → Leased setting log
leased setting [] is = record {
  grants = λ message lease none. absurd (cc);
  taken = λ node lease none. absurd (cc);
  used = All-nil (IsUsed setting []);
  once = AllPairs-nil Apart;
}
leased setting (Asked flow slots ∷ log) is = let l = leased setting log is.1 in record { grants = l.grants; taken = l.taken; used = l.used; once = l.once }
leased setting (Requested holder ∷ log) is = let l = leased setting log is.1 in record { grants = l.grants; taken = l.taken; used = l.used; once = l.once }
leased setting (Granted lease ∷ log) is = granted setting log lease (ap (λ (x : Lease). x.first) is.0) (leased setting log is.1)
leased setting (Took lease ∷ log) is = took setting log lease is.0 (leased setting log is.1)
leased setting (Told src generation ∷ log) is = let l = leased setting log is.1 in record { grants = l.grants; taken = l.taken; used = l.used; once = l.once }
leased setting (Published issue ∷ log) is = published setting log issue is.0 (leased setting log is.1)
leased setting (Heard src issue ∷ log) is = let l = leased setting log is.1 in record { grants = l.grants; taken = l.taken; used = l.used; once = l.once }
leased setting (Crashed node ∷ log) is = crashed setting log node (leased setting log is.1)
leased setting (Refused why ∷ log) is = let l = leased setting log is.1 in record { grants = l.grants; taken = l.taken; used = l.used; once = l.once }

pub no_batch_twice : NoBatchIsPublishedTwice
no_batch_twice setting events = (leased setting (log_of setting events) (is_log setting events)).once
