-- The text of a takeover: what each event shows, and the totals at its end. From this project's own profile.
use Rattle.std.specs.Prelude.{ℕ, ◌+◌, nat_lt, List, [], ◌∷◌, ◌++◌, map, length, reverse, None, if◌then◌else◌}
use Rattle.std.specs.List.{flat_map, range_with_len}
use Rattle.greedy_rules.specs.Schedule.{first_slot}
use Rattle.greedy_rules.specs.Cells.{flow_of}
use Rattle.clos_topology.specs.Links.{CoreOf}
use Rattle.report_text.specs.declared.line.Line.{Line}
use Rattle.report_text.specs.declared.line.Line.TheVariants as line
use Rattle.text_output.specs.Text.{entry_line, slots_lines, text_of}
use Rattle.takeover_history.specs.declared.event.Event.{Event}
use Rattle.takeover_history.specs.declared.event.Refusal.{Refusal}
use Rattle.takeover_history.specs.declared.event.Refusal.TheVariants.{NoMessage, OldBoot, OldLease, NoLease, Stale, Unpublished, Repeat}
use Rattle.takeover_history.specs.Events.{PairSetting, Fact, Granted, Published, Heard, Refused, Log}
use Rattle.takeover_history.specs.Leases.{sent_messages}
use Rattle.takeover_history.specs.Endpoints.{asked_of_flow, sends_of_flow, sends_at, Send}
use Rattle.takeover_history.specs.Steps.{log_of}
use Rattle.script_text.specs.Content.{ScriptContent}

-- the place of a refusal among all of them
abbrev pub refusal_place : Refusal → ℕ
refusal_place NoMessage = 0
refusal_place OldBoot = 1
refusal_place OldLease = 2
refusal_place NoLease = 3
refusal_place Stale = 4
refusal_place Unpublished = 5
refusal_place Repeat = 6

-- in one rack no packet takes a core
abbrev pub no_cores : ℕ → CoreOf
no_cores number src = None

abbrev pub send_line : Send → Line
send_line send = line.Sent send.slot send.flow.src send.flow.dst

-- what an event shows, by what it did after the earlier ones; its row is the one after theirs, and the row of the pair is 1
abbrev pub lines_of : PairSetting → Log → Fact → List Line
lines_of setting earlier (Granted lease) = line.Granted (sent_messages earlier) lease.holder.node lease.generation lease.first ∷ []
lines_of setting earlier (Published issue) =
    line.Published issue.lease.holder.node issue.number ∷ (map (entry_line issue.number) issue.batch.entries ++ slots_lines no_cores (first_slot setting.b issue.number) issue.slots)
lines_of setting earlier (Heard src issue) = map send_line (sends_at setting earlier src issue)
lines_of setting earlier (Refused why) = line.Declined (length earlier + 2) (refusal_place why) ∷ []
lines_of setting earlier (_) = []

abbrev pub takeover_lines : PairSetting → Log → List Line
takeover_lines setting [] = []
takeover_lines setting (fact ∷ earlier) = takeover_lines setting earlier ++ lines_of setting earlier fact

-- what is asked_of_flow for of a flow over the script, and sent, where something is asked_of_flow for
abbrev pub total_line : PairSetting → Log → ℕ → ℕ → List Line
total_line setting log src dst =
    if nat_lt 0 (asked_of_flow log (flow_of src dst)) then line.Total src dst (asked_of_flow log (flow_of src dst)) (sends_of_flow setting log (flow_of src dst)) ∷ [] else []

abbrev pub totals_of : PairSetting → Log → ℕ → List Line
totals_of setting log src = flat_map (total_line setting log src) (range_with_len 0 setting.endpoints)

abbrev pub total_lines : PairSetting → Log → List Line
total_lines setting log = flat_map (totals_of setting log) (range_with_len 0 setting.endpoints)

-- the lines of a script with these events, in order
unfoldable pub shown : PairSetting → List Event → List Line
shown setting events =
    let log = log_of setting (reverse events) in
    (takeover_lines setting log ++ total_lines setting log) ++ line.End (length log + 2) ∷ []

abbrev pub takeover_text : ScriptContent → List ℕ
takeover_text script = text_of (shown script.pair script.events)
