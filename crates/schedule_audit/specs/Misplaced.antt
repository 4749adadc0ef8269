-- Lines that cannot stand where they stand, whatever is scheduled (this project's own profile).
use Rattle.std.specs.Prelude.{ℕ, ◌+◌, Bool, true, false, not, ◌==◌, ◌&&◌, ◌||◌, nat_lt, nat_le, List, [], ◌∷◌, Option, Some, None, if◌then◌else◌}
use Rattle.greedy_rules.specs.declared.flows.Flow.{Flow}
use Rattle.greedy_rules.specs.Flows.{same_flow, flow_below}
use Rattle.greedy_rules.specs.Cells.{flow_of}
use Rattle.report_text.specs.declared.line.Line.{Line}
use Rattle.report_text.specs.declared.line.Line.TheVariants as line
use Rattle.schedule_audit.specs.Lines.{Recorded, records, ends, has_record, reaches}

-- the most that a flow's entries add since its last clear: 200,000,000 for what is asked for, and one for each of the 64 slots of
-- each of 100,000 rounds
unfoldable pub most_added : ℕ
most_added = 206400000

-- strictly by batch, then flow
abbrev pub record_below : Recorded → Recorded → Bool
record_below r s = nat_lt r.batch s.batch || ((r.batch == s.batch) && flow_below r.flow s.flow)

-- above the last one of these, which stand the latest first
abbrev pub is_above : List Recorded → Recorded → Bool
is_above [] r = true
is_above (last ∷ earlier) r = record_below last r

-- what a flow's entries add since its last clear; the latest stands first
abbrev pub added_since : Flow → List Recorded → ℕ
added_since flow [] = 0
added_since flow (r ∷ earlier) = if same_flow r.flow flow then (if r.clear then r.add else r.add + added_since flow earlier) else added_since flow earlier

abbrev pub has_wrong_ends : ℕ → Flow → Bool
has_wrong_ends endpoints flow = nat_le endpoints flow.src || (nat_le endpoints flow.dst || (flow.src == flow.dst))

abbrev pub says_nothing : Recorded → Bool
says_nothing r = (r.add == 0) && not r.clear

-- it clears a flow that no earlier one has
abbrev pub clears_none : List Recorded → Recorded → Bool
clears_none earlier r = r.clear && not (has_record r.flow earlier)

abbrev pub adds_too_much : List Recorded → Recorded → Bool
adds_too_much earlier r = nat_lt most_added (added_since r.flow (r ∷ earlier))

abbrev pub is_bad_record : ℕ → List Recorded → Recorded → Bool
is_bad_record endpoints earlier r =
    not (is_above earlier r) || (has_wrong_ends endpoints r.flow || (says_nothing r || (clears_none earlier r || adds_too_much earlier r)))

abbrev pub is_bad_end : List Recorded → ℕ → Bool
is_bad_end all rounds = nat_lt rounds 1 || (nat_lt 100000 rounds || reaches rounds all)

-- the line, after these, which stand the latest first, among all the lines of the text
abbrev pub is_misplaced_line : ℕ → List (Option Line) → List (Option Line) → Line → Bool
is_misplaced_line endpoints whole before (line.Batch batch src dst clear add) = is_bad_record endpoints (records before) (record { batch = batch; flow = flow_of src dst; clear = clear; add = add })
is_misplaced_line endpoints whole before (line.End rounds) = is_bad_end (records whole) rounds
is_misplaced_line endpoints whole before (line.Slot slot src dst core) = false
is_misplaced_line endpoints whole before (line.Sent slot src dst) = false
is_misplaced_line endpoints whole before (line.Refused round number) = false
is_misplaced_line endpoints whole before (line.Flow src dst demanded allocated pending) = false
is_misplaced_line endpoints whole before (line.Count src dst demanded acknowledged flight pending lost sent missed) = false
-- no other line is of a plan or a replay
is_misplaced_line endpoints whole before _ = true

abbrev pub is_any : List ℕ → Bool
is_any [] = false
is_any (n ∷ ns) = true

abbrev pub has_end : List (Option Line) → Bool
has_end lines = is_any (ends lines)

abbrev pub cannot_stand : ℕ → List (Option Line) → List (Option Line) → Option Line → Bool
cannot_stand endpoints whole before None = true
cannot_stand endpoints whole before (Some l) = is_misplaced_line endpoints whole before l

abbrev pub is_misplaced : ℕ → List (Option Line) → List (Option Line) → Option Line → Bool
is_misplaced endpoints whole before None = true
is_misplaced endpoints whole before (Some l) = has_end before || is_misplaced_line endpoints whole before l
