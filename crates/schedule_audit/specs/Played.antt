-- The rounds of a text, played one after the other (this project's own profile).
use Rattle.std.specs.Prelude.{◌≡◌, ◌≤◌, ℕ, ◌+◌, ◌*◌, ◌==◌, List, ◌++◌, length, drop, map, All}
use Rattle.greedy_rules.specs.declared.flows.Entry.{Entry}
use Rattle.greedy_rules.specs.Batches.{DemandBatch, IsBatch}
use Rattle.greedy_rules.specs.Recorded.{AreRecorded}
use Rattle.greedy_rules.specs.Schedule.{schedule, rest}
use Rattle.slot_batches.specs.NextList.{IsListBefore}
use Rattle.clos_topology.specs.Network.{Network, endpoints_of}
use Rattle.schedule_audit.specs.declared.rounds.Rounds.{Rounds}
use Rattle.schedule_audit.specs.declared.judges.Judges.{Judges}
use Rattle.schedule_audit.specs.Lines.{Recorded}
use Rattle.schedule_audit.specs.FlowNumbers.{Numbers, flow_number_of}
use Rattle.schedule_audit.specs.Texts.{record_of, records_of}
use Rattle.schedule_audit.specs.Wrong.{slot_places_from}
use Rattle.schedule_audit.specs.Entered.{AreSized, LedgerStands}
use Rattle.schedule_audit.specs.Walked.{JudgesStand}

-- the records begin with those of round k, which record these entries; where a flow was seen tells which of them open
pub record BeginWith (k : ℕ) (seen : Numbers) (entries : List Entry) (later : List DemandBatch) (todo : List Recorded) : Type 0 where
  pub records : todo ≡ map (record_of k) entries ++ records_of (k + 1) later
  pub rises : IsBatch entries
  pub opens : All (λ entry. entry.opens ≡ (flow_number_of seen entry.flow == 0)) entries

-- these batches went by, and those are still to come
pub record RoundsStand (net : Network) (b : ℕ) (front later : List DemandBatch) (rounds : Rounds) : Type 0 where
  pub recorded : AreRecorded (endpoints_of net) (record { hosts = net.hosts; cores = net.cores }) (front ++ later)
  pub within : rounds.next ≤ length rounds.records.items
  pub todo : drop rounds.next rounds.records.items ≡ records_of (length front) later
  pub ledger : LedgerStands b front rounds.ledger
  pub sized : AreSized (endpoints_of net) rounds.ledger
  pub list : rounds.demand.items ≡ rest b front
  pub before : IsListBefore (length front * b + 1) rounds.demand.items
  pub slots : rounds.demand.b ≡ b
  pub endpoints : rounds.demand.endpoints ≡ endpoints_of net

-- and their schedule
pub record AuditIsPlayed (net : Network) (b : ℕ) (front later : List DemandBatch) (rounds : Rounds) (judges : Judges) : Type 0 where
  pub net_is : judges.net ≡ net
  pub played : RoundsStand net b front later rounds
  pub judged : JudgesStand (slot_places_from 1 (schedule b front)) judges
