-- What a node publishes next, and when it may.
use Rattle.std.specs.Prelude.{◌≡◌, ◌≢◌, ◌<◌, ◌≤◌, ◌+◌, ◌^◌, ℕ, ◌++◌, length, ◌==◌, nat_lt, Bool, false, not, Option, Some, None, All, if◌then◌else◌}
use Rattle.takeover_history.specs.declared.event.Refusal.{Refusal}
use Rattle.takeover_history.specs.declared.event.Refusal.TheVariants.{NoMessage, OldBoot, OldLease}
use Rattle.greedy_rules.specs.Batches.{DemandBatch, entry_of}
use Rattle.greedy_rules.specs.Demands.{HasEachFlowOnce, AreBelow, OpensNewFlows, need_with, opened}
use Rattle.takeover_history.specs.declared.lease.Lease.{Lease}
use Rattle.takeover_core.specs.Entries.{entries_between}
use Rattle.takeover_core.specs.declared.node.Node.{Node}

-- the last lease, if there is one, is of another generation
abbrev pub IsOfNewGeneration : Option Lease → Lease → Type 0
IsOfNewGeneration before lease = (last : Lease) → before ≡ Some last → last.generation ≢ lease.generation

-- the lease begins below the end of the last one
abbrev pub begins_below : ℕ → Option Lease → Lease → Bool
begins_below span None lease = false
begins_below span (Some last) lease = nat_lt lease.first (last.first + span)

-- why the node of this number, in this boot and with this lease, does not take a lease
abbrev pub lease_refusal_of : ℕ → ℕ → Option Lease → Lease → ℕ → Option Refusal
lease_refusal_of number boot last lease span =
    if not (lease.holder.node == number) then Some NoMessage
    else (if not (lease.holder.boot == boot) then Some OldBoot
    else (if begins_below span last lease then Some OldLease else None))

-- the batch of the totals that rose, in one rack with one core
abbrev pub next_of : ℕ → Node → DemandBatch
next_of endpoints node = record { entries = entries_between node.told node.published endpoints; limits = record { hosts = endpoints; cores = 1 } }

-- the batch may be applied to the list
pub record MayPublish (endpoints : ℕ) (node : Node) : Type 0 where
  pub some : 0 < endpoints
  pub few : endpoints ≤ 64
  pub told : node.told.endpoints ≡ endpoints
  pub published : node.published.endpoints ≡ endpoints
  pub once : HasEachFlowOnce node.list.items
  pub below : AreBelow endpoints (node.list.items ++ opened (next_of endpoints node).entries)
  pub opens : OpensNewFlows (next_of endpoints node).entries node.list.items
  pub room : length (opened (next_of endpoints node).entries) ≤ node.list.spare
  pub needs : All (λ item. need_with (entry_of (next_of endpoints node).entries item.flow) item.need < 2 ^ 32) node.list.items
