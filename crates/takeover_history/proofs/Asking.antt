-- What an event adds to the asks, and whose batch it publishes.
use Rattle.std.proofs.Common.{◌≡◌, ◌+◌, nat_lt, ◌==◌, ℕ, ◌∷◌, cond, Option, Some, None, inl, inr, refl, sym, ap, ◌∙◌, subst, arith}
use Rattle.std.proofs.lemmas.Bool.{cond_both, cond-true, cond-false, cases_Bool}
use Rattle.greedy_rules.specs.declared.flows.Flow.{Flow}
use Rattle.takeover_history.specs.declared.event.Event.{Event}
use Rattle.takeover_history.specs.declared.event.Event.TheVariants.{Ask, Request, Grant, Take, Tell, Publish, Hear, Crash}
use Rattle.takeover_history.specs.declared.event.Refusal.TheVariants.{NoMessage, OldBoot, OldLease, NoLease, Stale, Repeat}
use Rattle.takeover_history.specs.declared.lease.Holder.{Holder}
use Rattle.takeover_history.specs.declared.lease.Lease.{Lease}
use Rattle.takeover_history.specs.Events.{PairSetting, BatchIssue, Fact, Took, Told, Published, Heard, Refused, Log}
use Rattle.takeover_history.specs.Leases.{boot_of, request_at, grant_at, lease_of, used_of, begins_above}
use Rattle.takeover_history.specs.Endpoints.{asked_of_flow, generation_of, issue_at, has_heard}
use Rattle.takeover_history.specs.Batches.{issue_for}
use Rattle.takeover_history.specs.Steps.{granted, taken_fact, told_fact, issued_fact, heard, done}
use Rattle.takeover_history.specs.Laws.{EachBatchIsItsNodes, asked_in_event, AsksAreCounted}
use Rattle.takeover_history.proofs.Follow.{lease-node}

module _ (setting : PairSetting) (log : Log) (flow : Flow) where
  abbrev Keeps : Fact → Type 0
  Keeps fact = asked_of_flow (fact ∷ log) flow ≡ asked_of_flow log flow

  granting : (o : Option Holder) → Keeps (granted setting log o)
  granting None = omega arith
  granting (Some holder) = omega arith

  taking : (node : ℕ) (o : Option Lease) → Keeps (taken_fact setting log node o)
  taking node None = omega arith
  taking node (Some lease) =
      cond_both (lease.holder.node == node) (cond (lease.holder.boot == boot_of log node) (cond (begins_above setting (lease_of log node) lease) (Took lease) (Refused OldLease)) (Refused OldBoot)) (Refused NoMessage) Keeps
      (λ here. cond_both (lease.holder.boot == boot_of log node) (cond (begins_above setting (lease_of log node) lease) (Took lease) (Refused OldLease)) (Refused OldBoot) Keeps
      (λ boot. cond_both (begins_above setting (lease_of log node) lease) (Took lease) (Refused OldLease) Keeps (λ above. omega arith) (λ below. omega arith)) (λ other. omega arith)) (λ other. omega arith)

  telling : (src : ℕ) (o : Option Lease) → Keeps (told_fact log src o)
  telling src None = omega arith
  telling src (Some lease) = cond_both (nat_lt lease.generation (generation_of log src)) (Refused Stale) (Told src lease.generation) Keeps (λ stale. omega arith) (λ fresh. omega arith)

  publishing : (node : ℕ) (o : Option Lease) → Keeps (issued_fact setting log node o)
  publishing node None = omega arith
  publishing node (Some lease) = cond_both (nat_lt (used_of log node) setting.span) (Published (issue_for setting log lease)) (Refused NoLease) Keeps (λ room. omega arith) (λ full. omega arith)

  hearing : (src : ℕ) (o : Option BatchIssue) → Keeps (heard log src o)
  hearing src None = omega arith
  hearing src (Some issue) =
      cond_both (nat_lt issue.lease.generation (generation_of log src)) (Refused Stale) (cond (has_heard log src issue.number) (Refused Repeat) (Heard src issue)) Keeps
      (λ stale. omega arith) (λ fresh. cond_both (has_heard log src issue.number) (Refused Repeat) (Heard src issue) Keeps (λ again. omega arith) (λ first. omega arith))

  counted : (event : Event) → asked_of_flow (done setting log event ∷ log) flow ≡ asked_in_event event flow + asked_of_flow log flow
  counted (Ask src dst slots) = refl
  counted (Request node) = omega arith
  counted (Grant m) = omega (arith, granting (request_at log m))
  counted (Take node m) = omega (arith, taking node (grant_at log m))
  counted (Tell src node) = omega (arith, telling src (lease_of log node))
  counted (Publish node) = omega (arith, publishing node (lease_of log node))
  counted (Hear src batch) = omega (arith, hearing src (issue_at log batch))
  counted (Crash node) = omega arith

pub are_counted : AsksAreCounted
are_counted setting log event flow = counted setting log flow event

-- ---- whose batch

own : (setting : PairSetting) (log : Log) (node : ℕ) (o : Option Lease) (issue : BatchIssue) → lease_of log node ≡ o → issued_fact setting log node o ≡ Published issue → issue.lease.holder.node ≡ node
own setting log node None issue is published = absurd cc
own setting log node (Some lease) issue is published = elim (cases_Bool (nat_lt (used_of log node) setting.span)) [
  | inl room ↦
      let same : issue_for setting log lease ≡ issue = same_issue (issue_for setting log lease) issue (sym (cond-true (nat_lt (used_of log node) setting.span) (Published (issue_for setting log lease)) (Refused NoLease) room) ∙ published) in
      subst (λ (i : BatchIssue). i.lease.holder.node ≡ node) same (lease-node setting log node lease is)
  | inr full ↦
      let none : Refused NoLease ≡ Published issue = sym (cond-false (nat_lt (used_of log node) setting.span) (Published (issue_for setting log lease)) (Refused NoLease) full) ∙ published in
      absurd cc
]
  where
    issue_in : BatchIssue → Fact → BatchIssue
    issue_in other (Published issue) = issue
    issue_in other _ = other

    same_issue : (i j : BatchIssue) → Published i ≡ Published j → i ≡ j
    same_issue i j same = ap (issue_in i) same

pub its_nodes : EachBatchIsItsNodes
its_nodes setting log node issue published = own setting log node (lease_of log node) issue refl published
