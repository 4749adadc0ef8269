-- Lines that are not what the batches of the text come to (this project's own profile).
use Rattle.std.specs.Prelude.{ℕ, ◌+◌, ◌*◌, Bool, false, not, ◌==◌, ◌&&◌, ◌||◌, nat_lt, nat_le, List, [], ◌∷◌, ◌++◌, length, map, filter, drop, sum_by, Option, Some, None, unwrap_or, if◌then◌else◌}
use Rattle.std.specs.List.{list_any, range_with_len, slice_get}
use Rattle.greedy_rules.specs.declared.flows.Flow.{Flow}
use Rattle.greedy_rules.specs.declared.flows.Entry.{Entry}
use Rattle.greedy_rules.specs.declared.flows.Item.{Item}
use Rattle.greedy_rules.specs.Flows.{same_flow}
use Rattle.greedy_rules.specs.Batches.{DemandBatch}
use Rattle.greedy_rules.specs.Demands.{item_of, need_in}
use Rattle.greedy_rules.specs.Limits.{rack_of}
use Rattle.greedy_rules.specs.Allocation.{slots_of}
use Rattle.greedy_rules.specs.Schedule.{schedule, rest}
use Rattle.greedy_rules.specs.Cells.{flow_of}
use Rattle.clos_topology.specs.Network.{Network}
use Rattle.clos_topology.specs.Links.{Link, up, rise, fall, down, links}
use Rattle.report_text.specs.declared.line.Line.{Line}
use Rattle.report_text.specs.declared.line.Line.TheVariants as line
use Rattle.schedule_audit.specs.Lines.{Recorded, Place, Path, records, paths, sends_in_lines, rounds_in_lines}

-- ---- the schedule of the lines

-- an entry opens where no earlier batch has its flow
abbrev pub had_before : List Recorded → ℕ → Flow → Bool
had_before all batch flow = list_any (λ r. nat_lt r.batch batch && same_flow r.flow flow) all

abbrev pub entry_of_record : List Recorded → Recorded → Entry
entry_of_record all r = record { flow = r.flow; opens = not (had_before all r.batch r.flow); clear = r.clear; add = r.add }

abbrev pub batch_of_records : Network → List Recorded → ℕ → DemandBatch
batch_of_records net all k = record {
  entries = map (entry_of_record all) (filter (λ r. r.batch == k) all);
  limits = record { hosts = net.hosts; cores = net.cores };
}

abbrev pub batches_of_records : Network → ℕ → List Recorded → List DemandBatch
batches_of_records net rounds all = map (batch_of_records net all) (range_with_len 0 rounds)

-- slots with their numbers, by slot and source
abbrev pub slot_places_from : ℕ → List (List Flow) → List Place
slot_places_from number [] = []
slot_places_from number (slot ∷ slots) = map (λ flow. record { slot = number; flow = flow }) slot ++ slot_places_from (number + 1) slots

-- what a text with these lines is held against
pub record Expected : Type 0 where
  pub all : List Recorded
  pub slots : List (List Flow)
  pub left : List Item
  pub places : List Place

abbrev pub expected_of_batches : ℕ → List Recorded → List DemandBatch → Expected
expected_of_batches b all batches = record { all = all; slots = schedule b batches; left = rest b batches; places = slot_places_from 1 (schedule b batches) }

abbrev pub expected_of : Network → ℕ → List (Option Line) → Expected
expected_of net b lines = expected_of_batches b (records lines) (batches_of_records net (rounds_in_lines lines) (records lines))

-- ---- slots and sends_in_lines

abbrev pub same_place : Place → Place → Bool
same_place one other = (one.slot == other.slot) && same_flow one.flow other.flow

abbrev pub is_at : Option Place → Place → Bool
is_at None place = false
is_at (Some there) place = same_place there place

abbrev pub same_link : Link → Link → Bool
same_link (up a) (up b) = a == b
same_link (rise a c) (rise b d) = (a == b) && (c == d)
same_link (fall a c) (fall b d) = (a == b) && (c == d)
same_link (down a) (down b) = a == b
same_link _ _ = false

abbrev pub links_of_path : Network → Path → List Link
links_of_path net path = links net.hosts path.place.flow.src path.place.flow.dst (unwrap_or path.core 0)

abbrev pub share_a_link : Network → Path → Path → Bool
share_a_link net one other = (one.place.slot == other.place.slot) && list_any (λ l. list_any (same_link l) (links_of_path net other)) (links_of_path net one)

-- the core is named exactly between racks, and is one of the net's
abbrev pub has_wrong_core : Network → Flow → Option ℕ → Bool
has_wrong_core net flow None = not (rack_of net.hosts flow.src == rack_of net.hosts flow.dst)
has_wrong_core net flow (Some core) = (rack_of net.hosts flow.src == rack_of net.hosts flow.dst) || nat_le net.cores core

abbrev pub is_bad_path : Network → Expected → List Path → Path → Bool
is_bad_path net expected before path =
    not (is_at (slice_get expected.places (length before)) path.place) || (has_wrong_core net path.place.flow path.core || list_any (share_a_link net path) before)

abbrev pub is_bad_send : Expected → List Place → Place → Bool
is_bad_send expected before place =
    not (list_any (same_place place) expected.places) || list_any (λ other. (other.slot == place.slot) && (other.flow.src == place.flow.src)) before

-- ---- flows

abbrev pub added_in_all : Flow → List Recorded → ℕ
added_in_all flow all = sum_by (λ r. if same_flow r.flow flow then r.add else 0) all

-- the batch that cleared it last, 0 for none; records rise
abbrev pub last_clear : Flow → List Recorded → ℕ
last_clear flow [] = 0
last_clear flow (r ∷ later) = if list_any (λ s. s.clear && same_flow s.flow flow) later then last_clear flow later else (if r.clear && same_flow r.flow flow then r.batch else 0)

abbrev pub allocated_in_all : Expected → Flow → ℕ
allocated_in_all expected flow = slots_of flow expected.slots

abbrev pub allocated_since : ℕ → Expected → Flow → ℕ
allocated_since b expected flow = slots_of flow (drop (last_clear flow expected.all * b) expected.slots)

abbrev pub left_of : Expected → Flow → ℕ
left_of expected flow = need_in (item_of expected.left flow)

abbrev pub is_bad_flow : Expected → Flow → ℕ → ℕ → ℕ → Bool
is_bad_flow expected flow demanded allocated pending =
    not (demanded == added_in_all flow expected.all) || (not (allocated == allocated_in_all expected flow) || not (pending == left_of expected flow))

abbrev pub is_bad_count : ℕ → Expected → Flow → ℕ → ℕ → ℕ → ℕ → ℕ → Bool
is_bad_count b expected flow demanded acknowledged flight pending lost =
    not (demanded == acknowledged + flight + pending) || (not (pending == left_of expected flow) || not (acknowledged + flight + lost == allocated_since b expected flow))

-- the line, after these, which stand the latest first, among all the lines of the text
abbrev pub is_wrong : Network → ℕ → Expected → List (Option Line) → List (Option Line) → Option Line → Bool
is_wrong net b expected whole before (Some (line.Slot slot src dst core)) =
    is_bad_path net expected (paths before) (record { place = record { slot = slot; flow = flow_of src dst }; core = core })
is_wrong net b expected whole before (Some (line.Sent slot src dst)) = is_bad_send expected (sends_in_lines before) (record { slot = slot; flow = flow_of src dst })
is_wrong net b expected whole before (Some (line.Flow src dst demanded allocated pending)) = is_bad_flow expected (flow_of src dst) demanded allocated pending
is_wrong net b expected whole before (Some (line.Count src dst demanded acknowledged flight pending lost sent missed)) =
    is_bad_count b expected (flow_of src dst) demanded acknowledged flight pending lost
is_wrong net b expected whole before (Some (line.End rounds)) = nat_lt (length (paths whole)) (length expected.places)
is_wrong net b expected whole before _ = false
