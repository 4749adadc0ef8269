-- Texts of recorded batches, and that they have no bad line (this project's own profile).
use Rattle.std.specs.Prelude.{◌≡◌, ◌≢◌, ◌≤◌, ℕ, ◌+◌, true, false, not, ◌==◌, ◌&&◌, List, [], ◌∷◌, ◌++◌, map, length, All, AllPairs, None}
use Rattle.std.specs.List.{list_any}
use Rattle.greedy_rules.specs.declared.flows.Flow.{Flow}
use Rattle.greedy_rules.specs.declared.flows.Entry.{Entry}
use Rattle.greedy_rules.specs.Batches.{DemandBatch, entry_of}
use Rattle.greedy_rules.specs.Demands.{need_with}
use Rattle.greedy_rules.specs.Schedule.{schedule}
use Rattle.greedy_rules.specs.Recorded.{demand_of, AreRecorded}
use Rattle.clos_topology.specs.Network.{Network, endpoints_of}
use Rattle.report_text.specs.declared.line.Line.{Line}
use Rattle.schedule_audit.specs.Lines as Lines
use Rattle.schedule_audit.specs.Lines.{Recorded, Place, Path}
use Rattle.schedule_audit.specs.Misplaced.{most_added}
use Rattle.schedule_audit.specs.Wrong.{slot_places_from, expected_of_batches, has_wrong_core, share_a_link, same_place}
use Rattle.schedule_audit.specs.BadLines.{first_bad_line}
use Rattle.schedule_audit.specs.Laws.{read, ended_lines, AreInner, AreGoodLines}

-- what the entries of batches record, the first of which is batch k
abbrev pub record_of : ℕ → Entry → Recorded
record_of k e = record { batch = k; flow = e.flow; clear = e.clear; add = e.add }

abbrev pub records_of : ℕ → List DemandBatch → List Recorded
records_of k [] = []
records_of k (batch ∷ batches) = map (record_of k) batch.entries ++ records_of (k + 1) batches

-- an entry adds or clears
abbrev pub Says : Entry → Type 0
Says e = ((e.add == 0) && not e.clear) ≡ false

-- no flow's entries add more since its last clear than a trace can ask for
abbrev pub FewAfter : List DemandBatch → List DemandBatch → Type 0
FewAfter earlier [] = Unit {0}
FewAfter earlier (batch ∷ later) = ((flow : Flow) → need_with (entry_of batch.entries flow) (demand_of earlier flow) ≤ most_added) × FewAfter (earlier ++ batch ∷ []) later

-- the text has these batches, and what it shows beside them is what they come to
pub record IsTextOf (net : Network) (b : ℕ) (batches : List DemandBatch) (body : List Line) : Type 0 where
  pub inner : AreInner body
  pub recorded : AreRecorded (endpoints_of net) (record { hosts = net.hosts; cores = net.cores }) batches
  pub some_round : 1 ≤ length batches
  pub most_rounds : length batches ≤ 100000
  pub say : All (λ batch. All Says batch.entries) batches
  pub few : FewAfter [] batches
  pub records : Lines.records (read body) ≡ records_of 0 batches
  pub places : Lines.places (read body) ≡ slot_places_from 1 (schedule b batches)
  pub cores : All (λ (p : Path). has_wrong_core net p.place.flow p.core ≡ false) (Lines.paths (read body))
  pub apart : AllPairs (λ (p q : Path). share_a_link net q p ≡ false) (Lines.paths (read body))
  pub scheduled : All (λ (s : Place). list_any (same_place s) (slot_places_from 1 (schedule b batches)) ≡ true) (Lines.sends_in_lines (read body))
  pub once : AllPairs (λ (s t : Place). s.slot ≡ t.slot → s.flow.src ≢ t.flow.src) (Lines.sends_in_lines (read body))
  pub lines : AreGoodLines b (expected_of_batches b (records_of 0 batches) batches) body

abbrev pub ATextOfBatchesHasNoBadLine : Type 0
ATextOfBatchesHasNoBadLine = (net : Network) (b : ℕ) (batches : List DemandBatch) (body : List Line) → IsTextOf net b batches body → first_bad_line net b (ended_lines body (length batches)) ≡ None
