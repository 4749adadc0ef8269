-- The log of any events follows the table, fact by fact.
use Rattle.std.proofs.Common.{◌≡◌, ◌<◌, ◌≤◌, ℕ, find, inl, inr, ◌==◌, nat_lt, true, false, List, [], ◌∷◌, Option, Some, None, cond, refl, sym, ap, ◌∙◌, subst, arith}
use Rattle.std.proofs.lemmas.Bool.{cond_both, cases_Bool, eqb-true, ltb-true, ltb-false, eq-eqb}
use Rattle.std.proofs.lemmas.Option.{same_Some}
use Rattle.takeover_history.specs.Events.{PairSetting, Event, Ask, Request, Grant, Take, Tell, Publish, Hear, Crash, Holder, Lease, BatchIssue, Fact, Asked, Requested, Granted, Took, Told, Published, Heard, Crashed, Refused, Log, NoMessage, OldBoot, OldLease, NoLease, Stale, Unpublished, Repeat}
use Rattle.takeover_history.specs.Leases.{boot_of, request_at, grant_at, lease_for, lease_of, used_of, begins_above}
use Rattle.takeover_history.specs.Endpoints.{generation_of, issues, issue_at, has_heard}
use Rattle.takeover_history.specs.Batches.{issue_for}
use Rattle.takeover_history.specs.Steps.{granted, taken_fact, told_fact, issued_fact, heard, done, log_of, FactFollows, IsLog}

follows-granted : (setting : PairSetting) (log : Log) (o : Option Holder) → FactFollows setting log (granted setting log o)
follows-granted setting log None = tt
follows-granted setting log (Some holder) = refl

follows-taken : (setting : PairSetting) (log : Log) (node message : ℕ) (o : Option Lease) → grant_at log message ≡ o → FactFollows setting log (taken_fact setting log node o)
follows-taken setting log node message None is = tt
follows-taken setting log node message (Some lease) is =
    cond_both (lease.holder.node == node)
    (cond (lease.holder.boot == boot_of log node) (cond (begins_above setting (lease_of log node) lease) (Took lease) (Refused OldLease)) (Refused OldBoot))
    (Refused NoMessage)
    (FactFollows setting log)
    (λ of_node. cond_both (lease.holder.boot == boot_of log node)
    (cond (begins_above setting (lease_of log node) lease) (Took lease) (Refused OldLease))
    (Refused OldBoot)
    (FactFollows setting log)
    (λ of_boot. cond_both (begins_above setting (lease_of log node) lease) (Took lease) (Refused OldLease) (FactFollows setting log)
    (λ above.
    let same : lease.holder.node ≡ node = eqb-true lease.holder.node node of_node in (
      message,
      is,
      subst (λ (n : ℕ). lease.holder.boot ≡ boot_of log n) (sym same) (eqb-true lease.holder.boot (boot_of log node) of_boot),
      subst (λ (n : ℕ). begins_above setting (lease_of log n) lease ≡ true) (sym same) above,
    ))
    (λ old. tt))
    (λ old. tt))
    (λ other. tt)

follows-told : (setting : PairSetting) (log : Log) (src node : ℕ) (o : Option Lease) → lease_of log node ≡ o → FactFollows setting log (told_fact log src o)
follows-told setting log src node None is = tt
follows-told setting log src node (Some lease) is =
    cond_both (nat_lt lease.generation (generation_of log src)) (Refused Stale) (Told src lease.generation) (FactFollows setting log)
    (λ stale. tt)
    (λ fresh. (node, lease, is, refl, ltb-false lease.generation (generation_of log src) fresh))

-- a node's lease is its own
pub lease-node : (setting : PairSetting) (log : Log) (node : ℕ) (lease : Lease) → lease_of log node ≡ Some lease → lease.holder.node ≡ node
lease-node setting [] node lease is = absurd (cc)
lease-node setting (Asked flow slots ∷ log) node lease is = lease-node setting log node lease is
lease-node setting (Requested holder ∷ log) node lease is = lease-node setting log node lease is
lease-node setting (Granted granted ∷ log) node lease is = lease-node setting log node lease is
lease-node setting (Took taken_fact ∷ log) node lease is = elim (cases_Bool (taken_fact.holder.node == node)) [
  | inl here ↦
      let same : taken_fact ≡ lease = same_Some taken_fact lease (rw here at is) in
      subst (λ (l : Lease). l.holder.node ≡ node) same (eqb-true taken_fact.holder.node node here)
  | inr other ↦ lease-node setting log node lease (rw other at is)
]
lease-node setting (Told src generation ∷ log) node lease is = lease-node setting log node lease is
lease-node setting (Published issue ∷ log) node lease is = lease-node setting log node lease is
lease-node setting (Heard src issue ∷ log) node lease is = lease-node setting log node lease is
lease-node setting (Crashed crashed ∷ log) node lease is = elim (cases_Bool (crashed == node)) [
  | inl here ↦ let none : None ≡ Some lease = rw here at is in absurd (cc)
  | inr other ↦ lease-node setting log node lease (rw other at is)
]
lease-node setting (Refused why ∷ log) node lease is = lease-node setting log node lease is

follows-issued : (setting : PairSetting) (log : Log) (node : ℕ) (o : Option Lease) → lease_of log node ≡ o → FactFollows setting log (issued_fact setting log node o)
follows-issued setting log node None is = tt
follows-issued setting log node (Some lease) is =
    cond_both (nat_lt (used_of log node) setting.span) (Published (issue_for setting log lease)) (Refused NoLease) (FactFollows setting log)
    (λ room.
    let same = lease-node setting log node lease is in (
      subst (λ (n : ℕ). lease_of log n ≡ Some lease) (sym same) is,
      subst (λ (n : ℕ). used_of log n < setting.span) (sym same) (ltb-true (used_of log node) setting.span room),
      refl,
    ))
    (λ full. tt)

-- a batch is found by its number
pub find-number : (number : ℕ) (xs : List BatchIssue) (issue : BatchIssue) → find (λ (i : BatchIssue). i.number == number) xs ≡ Some issue → issue.number ≡ number
find-number number [] issue is = absurd (cc)
find-number number (x ∷ xs) issue is = elim (cases_Bool (x.number == number)) [
  | inl here ↦
      let same : x ≡ issue = same_Some x issue (rw here at is) in
      subst (λ (i : BatchIssue). i.number ≡ number) same (eqb-true x.number number here)
  | inr other ↦ find-number number xs issue (rw other at is)
]

follows-heard : (setting : PairSetting) (log : Log) (src batch : ℕ) (o : Option BatchIssue) → issue_at log batch ≡ o → FactFollows setting log (heard log src o)
follows-heard setting log src batch None is = tt
follows-heard setting log src batch (Some issue) is =
    cond_both (nat_lt issue.lease.generation (generation_of log src)) (Refused Stale) (cond (has_heard log src issue.number) (Refused Repeat) (Heard src issue)) (FactFollows setting log)
    (λ stale. tt)
    (λ fresh. cond_both (has_heard log src issue.number) (Refused Repeat) (Heard src issue) (FactFollows setting log)
    (λ again. tt)
    (λ first. (
      subst (λ (n : ℕ). issue_at log n ≡ Some issue) (sym (find-number batch (issues log) issue is)) is,
      ltb-false issue.lease.generation (generation_of log src) fresh,
      first,
    )))

pub follows : (setting : PairSetting) (log : Log) (event : Event) → FactFollows setting log (done setting log event)
follows setting log (Ask src dst slots) = tt
follows setting log (Request node) = tt
follows setting log (Grant message) = follows-granted setting log (request_at log message)
follows setting log (Take node message) = follows-taken setting log node message (grant_at log message) refl
follows setting log (Tell src node) = follows-told setting log src node (lease_of log node) refl
follows setting log (Publish node) = follows-issued setting log node (lease_of log node) refl
follows setting log (Hear src batch) = follows-heard setting log src batch (issue_at log batch) refl
follows setting log (Crash node) = tt

pub is_log : (setting : PairSetting) (events : List Event) → IsLog setting (log_of setting events)
is_log setting [] = tt
is_log setting (event ∷ events) = (follows setting (log_of setting events) event, is_log setting events)
