-- Two arbiters that publish batches under leases: the events that come to them, to the keeper and to the endpoints, and what each
-- event did. A log is the list of what was done, the latest first. From this project's own profile.
use Rattle.std.specs.Prelude.{ℕ, List}
use Rattle.greedy_rules.specs.declared.flows.Flow.{Flow}
use Rattle.greedy_rules.specs.Batches.{DemandBatch}
pub use Rattle.takeover_history.specs.declared.event.Event.{Event}
pub use Rattle.takeover_history.specs.declared.event.Event.TheVariants.{Ask, Request, Grant, Take, Tell, Publish, Hear, Crash}
pub use Rattle.takeover_history.specs.declared.event.Refusal.{Refusal}
pub use Rattle.takeover_history.specs.declared.event.Refusal.TheVariants.{NoMessage, OldBoot, OldLease, NoLease, Stale, Unpublished, Repeat}
pub use Rattle.takeover_history.specs.declared.lease.Holder.{Holder}
pub use Rattle.takeover_history.specs.declared.lease.Lease.{Lease}

-- so many endpoints in one rack, b slots in a batch, and so many batches in a lease
pub record PairSetting : Type 0 where
  pub endpoints : ℕ
  pub b : ℕ
  pub span : ℕ

-- a batch that was published: under which lease, its number, its entries and its slots
pub record BatchIssue : Type 0 where
  pub lease : Lease
  pub number : ℕ
  pub batch : DemandBatch
  pub slots : List (List Flow)

-- what an event did; of a telling and a hearing, also the generation in which they were done
pub data Fact : Type 0 where
  Asked : (flow : Flow) (slots : ℕ) → Fact
  Requested : (holder : Holder) → Fact
  Granted : (lease : Lease) → Fact
  Took : (lease : Lease) → Fact
  Told : (src generation : ℕ) → Fact
  Published : (issue : BatchIssue) → Fact
  Heard : (src : ℕ) (issue : BatchIssue) → Fact
  Crashed : (node : ℕ) → Fact
  Refused : (why : Refusal) → Fact

abbrev pub Log : Type 0
Log = List Fact
