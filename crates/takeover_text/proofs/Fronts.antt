-- The events of a script, one after the other, and the lines that they show.
use Rattle.std.proofs.Common.{◌≡◌, ◌<◌, ◌+◌, ℕ, List, [], ◌∷◌, ◌++◌, length, get_or, take, drop, Some, slice_get, sym, ap, ◌∙◌}
use Rattle.std.specs.Prelude.{reverse}
use Rattle.std.proofs.Math.Seq.{take-length}
use Rattle.std.proofs.lemmas.List.{append_assoc, append-nil, take_more, take-append-drop, reverse-append}
use Rattle.std.proofs.lemmas.List.Concat.{flat_map-append}
use Rattle.std.proofs.lemmas.Option.{slice_get-get_or, slice_get_within, get_or_from_slice_get}
use Rattle.report_text.specs.declared.line.Line.{Line}
use Rattle.report_text.specs.declared.line.Line.TheVariants as line
use Rattle.text_output.specs.Text.{line_text, text_of}
use Rattle.takeover_history.specs.declared.event.Event.{Event}
use Rattle.takeover_history.specs.Events.{PairSetting, Log}
use Rattle.takeover_history.specs.Steps.{done, log_of}
use Rattle.script_text.specs.Content.{ScriptContent}
use Rattle.takeover_text.specs.Lines.{takeover_lines, lines_of, total_lines, shown, takeover_text}
use Rattle.takeover_text.specs.Progress.{first_events, log_after, latest_lines}

-- the event at a place
pub event_at : (script : ScriptContent) (events : List Event) (at : ℕ) (d : Event) → events ≡ script.events → at < length script.events → slice_get script.events at ≡ Some (get_or events at d)
event_at script events at d are below = slice_get-get_or script.events at d below ∙ ap (λ (es : List Event). Some (get_or es at d)) (sym are)

-- one event more
pub events_more : (script : ScriptContent) (at : ℕ) (event : Event) → slice_get script.events at ≡ Some event → first_events script (at + 1) ≡ event ∷ first_events script at
events_more script at event is =
    let here : get_or script.events at event ≡ event = get_or_from_slice_get script.events at event event is in
    ap reverse (take_more script.events at event (slice_get_within script.events at event is))
    ∙ (reverse-append (take at script.events) (get_or script.events at event ∷ []) ∙ ap (λ (e : Event). e ∷ reverse (take at script.events)) here)

pub events_all : (script : ScriptContent) → first_events script (length script.events) ≡ reverse script.events
events_all script = ap reverse (take-length script.events)

pub lines_more : (script : ScriptContent) (at : ℕ) (event : Event) → slice_get script.events at ≡ Some event
    → text_of (takeover_lines script.pair (log_after script (at + 1))) ≡ text_of (takeover_lines script.pair (log_after script at)) ++ text_of (latest_lines script.pair (log_after script (at + 1)))
lines_more script at event is =
    let before : List Line = takeover_lines script.pair (log_after script at) in
    let more = events_more script at event is in
    ap (λ (es : List Event). text_of (takeover_lines script.pair (log_of script.pair es))) more
    ∙ (flat_map-append line_text before (lines_of script.pair (log_after script at) (done script.pair (log_after script at) event))
    ∙ ap (λ (es : List Event). text_of before ++ text_of (latest_lines script.pair (log_of script.pair es))) (sym more))

-- what later events show comes behind what earlier ones do
lines_then : (setting : PairSetting) (earlier later : List Event) → (rest : List Line) × (takeover_lines setting (log_of setting (later ++ earlier)) ≡ takeover_lines setting (log_of setting earlier) ++ rest)
lines_then setting earlier [] = ([], sym (append-nil (takeover_lines setting (log_of setting earlier))))
lines_then setting earlier (event ∷ later) =
    let (rest, is) = lines_then setting earlier later in
    let log : Log = log_of setting (later ++ earlier) in
    let last : List Line = lines_of setting log (done setting log event) in (
      rest ++ last,
      ap (λ (ls : List Line). ls ++ last) is ∙ append_assoc (takeover_lines setting (log_of setting earlier)) rest last,
    )

pub lines_whole : (script : ScriptContent) (at : ℕ)
    → (rest : List ℕ) × (text_of (takeover_lines script.pair (log_after script (length script.events))) ≡ text_of (takeover_lines script.pair (log_after script at)) ++ rest)
lines_whole script at =
    let early : List Event = first_events script at in
    let late : List Event = reverse (drop at script.events) in
    let (rest, is) = lines_then script.pair early late in
    let parts : reverse script.events ≡ late ++ early = ap reverse (sym (take-append-drop at script.events)) ∙ reverse-append (take at script.events) (drop at script.events) in (
      text_of rest,
      ap (λ (es : List Event). text_of (takeover_lines script.pair (log_of script.pair es))) (events_all script ∙ parts)
          ∙ (ap text_of is ∙ flat_map-append line_text (takeover_lines script.pair (log_after script at)) rest),
    )

-- the text of a takeover, in its three parts
pub text_parts : (script : ScriptContent)
    → takeover_text script
    ≡ text_of (takeover_lines script.pair (log_after script (length script.events)))
    ++ (text_of (total_lines script.pair (log_after script (length script.events))) ++ line_text (line.End (length (log_after script (length script.events)) + 2)))
unfolding shown
text_parts script =
    let log : Log = log_after script (length script.events) in
    let by : List Line = takeover_lines script.pair log in
    let totals : List Line = total_lines script.pair log in
    let ended : Line = line.End (length log + 2) in
    ap (λ (es : List Event). text_of ((takeover_lines script.pair (log_of script.pair es) ++ total_lines script.pair (log_of script.pair es)) ++ line.End (length (log_of script.pair es) + 2) ∷ [])) (sym (events_all script))
    ∙ (flat_map-append line_text (by ++ totals) (ended ∷ [])
    ∙ (ap (λ (t : List ℕ). t ++ text_of (ended ∷ [])) (flat_map-append line_text by totals)
    ∙ (append_assoc (text_of by) (text_of totals) (text_of (ended ∷ [])) ∙ ap (λ (t : List ℕ). text_of by ++ (text_of totals ++ t)) (append-nil (line_text ended)))))
