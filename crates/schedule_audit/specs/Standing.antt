-- What is kept of records, the latest first, to judge the next one by.
use Rattle.std.specs.Prelude.{◌≡◌, ◌<◌, ℕ, zero, suc, ◌+◌, ◌*◌, Bool, true, List, [], ◌∷◌, Option, Some, None, if◌then◌else◌}
use Rattle.std.specs.List.{slice_index_or}
use Rattle.greedy_rules.specs.declared.flows.Flow.{Flow}
use Rattle.greedy_rules.specs.Cells.{flow_of}
use Rattle.schedule_audit.specs.Lines.{Recorded, has_record}
use Rattle.schedule_audit.specs.Misplaced.{record_below, added_since}

-- a cell of the table: one more than its sum, or 0 for none
abbrev pub sum_in : ℕ → Option ℕ
sum_in zero = None
sum_in (suc sum) = Some sum

-- what contracts see of a table with a sum, or none, for each flow
pub record Sums : Type 0 where
  pub endpoints : ℕ
  pub cells : List (Option ℕ)

abbrev pub sum_of : Sums → ℕ → ℕ → Option ℕ
sum_of sums src dst = slice_index_or sums.cells (src * sums.endpoints + dst) None

-- the last record
abbrev pub last_record : List Recorded → Option Recorded
last_record [] = None
last_record (r ∷ earlier) = Some r

abbrev pub is_above_last : Option Recorded → Recorded → Bool
is_above_last None r = true
is_above_last (Some last) r = record_below last r

-- what is added since a flow's last clear, and with one record more
abbrev pub sum_through : List Recorded → Flow → Option ℕ
sum_through earlier flow = if has_record flow earlier then Some (added_since flow earlier) else None

abbrev pub sum_with : Option ℕ → Recorded → ℕ
sum_with None r = r.add
sum_with (Some before) r = if r.clear then r.add else r.add + before

-- the last of these records, and the sum of each flow
pub record SumsStand (last : Option Recorded) (sums : Sums) (earlier : List Recorded) : Type 0 where
  pub last_one : last ≡ last_record earlier
  pub each : (src dst : ℕ) → dst < sums.endpoints → sum_of sums src dst ≡ sum_through earlier (flow_of src dst)
