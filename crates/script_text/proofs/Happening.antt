-- A script without faulty row may happen.
use Rattle.std.proofs.Common.{◌≡◌, ◌<◌, ◌≤◌, ◌+◌, ◌==◌, ◌&&◌, ◌||◌, not, nat_lt, nat_le, ℕ, zero, suc, List, [], ◌∷◌, ◌++◌, length, take, reverse, slice_get, cond, Bool, true, false, Option, Some, None, is_some, Result, Ok, Err, ◌⊎◌, inl, inr, refl, sym, ap, ◌∙◌, subst, arith, length-append}
use Rattle.std.proofs.lemmas.Bool.{cases_Bool, cases_lt, and_parts, or_parts, not-true, ltb-true, ltb-false, leb-true, leb-false, eqb-false, ne_eqb, not_from_false, true≢false}
use Rattle.std.specs.List.{cons_option}
use Rattle.std.proofs.lemmas.List.{reverse-append, length-reverse, append-nil}
use Rattle.std.proofs.lemmas.List.Sums.{sum_by-append, sum_by-cons}
use Rattle.std.proofs.lemmas.Option.{same_Some}
use Rattle.greedy_rules.specs.declared.flows.Flow.{Flow}
use Rattle.greedy_rules.specs.Cells.{flow_of}
use Rattle.takeover_history.specs.declared.event.Event.{Event}
use Rattle.takeover_history.specs.declared.event.Event.TheVariants as event
use Rattle.takeover_history.specs.Events.{PairSetting, Log}
use Rattle.takeover_history.specs.Endpoints.{asked_of_flow}
use Rattle.takeover_history.specs.Laws.{asked_in_event, AsksAreCounted}
use Rattle.takeover_history.specs.Steps.{done, log_of}
use Rattle.takeover_core.specs.Outcomes.{IsEvent, AsksFit, MayFollow}
use Rattle.takeover_core.specs.Standing.{IsPairSetting}
use Rattle.trace_text.specs.Fields.{Record}
use Rattle.trace_text.specs.Faults.{is_between}
use Rattle.trace_text.specs.Trace.{FaultyRow, records_of_text}
use Rattle.trace_text.specs.declared.fault.Fault.{Fault}
use Rattle.script_text.specs.Content.{ScriptContent}
use Rattle.script_text.specs.Rows.{event_of}
use Rattle.script_text.specs.Earlier.{pair_of, is_ended, events_in_rows, script_row_slots, total_in_rows}
use Rattle.script_text.specs.Faults.{is_row_in_range, asks_for_itself, is_pair, is_first_row, asks_too_much, read_script_row}
use Rattle.script_text.specs.Script.{ended_script, script_row_more, script_rows_after, script_of, IsScript}
use Rattle.script_text.specs.declared.row.Row.{Row}
use Rattle.script_text.specs.declared.row.Row.TheVariants as row
use Rattle.script_text.proofs.Adding.{events-append, pair-same}
use Rattle.script_text.proofs.Allowing.{Allowed, allowed}

-- the events of these rows may happen, one after the other, and no more is asked_of_flow for than the rows say
record MayHappen (rows : List Row) : Type 0 where
  pair : is_first_row rows ≡ false → IsPairSetting (pair_of rows)
  few : length (events_in_rows rows) ≤ 10000
  may : (at : ℕ) (e : Event) → slice_get (events_in_rows rows) at ≡ Some e → MayFollow (pair_of rows) (reverse (take at (events_in_rows rows))) e
  asks : (flow : Flow) → asked_of_flow (log_of (pair_of rows) (reverse (events_in_rows rows))) flow ≤ total_in_rows flow.src flow.dst rows

-- ---- one event more

-- an element of a list with one more is one of the list, or this one
last-or : (xs : List Event) (last e : Event) (at : ℕ) → slice_get (xs ++ last ∷ []) at ≡ Some e
    → ((slice_get xs at ≡ Some e) × (take at (xs ++ last ∷ []) ≡ take at xs)) ⊎ ((last ≡ e) × (take at (xs ++ last ∷ []) ≡ xs))
last-or [] last e zero is = inr (same_Some last e is, refl)
last-or [] last e (suc at) is = absurd cc
last-or (x ∷ xs) last e zero is = inl (is, refl)
last-or (x ∷ xs) last e (suc at) is = elim (last-or xs last e at is) [
  | inl here ↦ inl (here.0, ap (λ ys. x ∷ ys) here.1)
  | inr end ↦ inr (end.0, ap (λ ys. x ∷ ys) end.1)
]

-- an event of a row that is in range and asks for no flow to itself
is-event : (n : ℕ) (this : Row) (e : Event) → event_of this ≡ Some e → is_row_in_range n this ≡ true → asks_for_itself this ≡ false → IsEvent n e
is-event n (row.Pair endpoints b span) e is range apart = absurd cc
is-event n (row.Ask src dst slots) e is range apart =
    let parts = and_parts (nat_lt src n && nat_lt dst n) (is_between 1 100000000 slots) range in
    let ends = and_parts (nat_lt src n) (nat_lt dst n) parts.0 in
    subst (IsEvent n) (same_Some _ e is) (ltb-true src n ends.0, ltb-true dst n ends.1, eqb-false src dst apart)
is-event n (row.Request node) e is range apart = subst (IsEvent n) (same_Some _ e is) (let m = leb-true node 1 range in omega arith)
is-event n (row.Grant m) e is range apart = subst (IsEvent n) (same_Some _ e is) tt
is-event n (row.Take node m) e is range apart = subst (IsEvent n) (same_Some _ e is) (let l = leb-true node 1 range in omega arith)
is-event n (row.Tell src node) e is range apart =
    let parts = and_parts (nat_lt src n) (nat_le node 1) range in
    subst (IsEvent n) (same_Some _ e is) (ltb-true src n parts.0, (let l = leb-true node 1 parts.1 in omega arith))
is-event n (row.Publish node) e is range apart = subst (IsEvent n) (same_Some _ e is) (let l = leb-true node 1 range in omega arith)
is-event n (row.Hear src batch) e is range apart = subst (IsEvent n) (same_Some _ e is) (ltb-true src n range)
is-event n (row.Crash node) e is range apart = subst (IsEvent n) (same_Some _ e is) (let l = leb-true node 1 range in omega arith)
is-event n row.End e is range apart = absurd cc

-- and its asks fit
asks-fit : (before : List Row) (log : Log) (this : Row) (e : Event) → event_of this ≡ Some e → ((flow : Flow) → asked_of_flow log flow ≤ total_in_rows flow.src flow.dst before) → asks_too_much before this ≡ false → AsksFit log e
asks-fit before log (row.Pair endpoints b span) e is asks sum = absurd cc
asks-fit before log (row.Ask src dst slots) e is asks sum =
    subst (AsksFit log) (same_Some _ e is) (let few = ltb-false 100000000 (total_in_rows src dst before + slots) sum in omega (arith, asks (flow_of src dst)))
asks-fit before log (row.Request node) e is asks sum = subst (AsksFit log) (same_Some _ e is) tt
asks-fit before log (row.Grant m) e is asks sum = subst (AsksFit log) (same_Some _ e is) tt
asks-fit before log (row.Take node m) e is asks sum = subst (AsksFit log) (same_Some _ e is) tt
asks-fit before log (row.Tell src node) e is asks sum = subst (AsksFit log) (same_Some _ e is) tt
asks-fit before log (row.Publish node) e is asks sum = subst (AsksFit log) (same_Some _ e is) tt
asks-fit before log (row.Hear src batch) e is asks sum = subst (AsksFit log) (same_Some _ e is) tt
asks-fit before log (row.Crash node) e is asks sum = subst (AsksFit log) (same_Some _ e is) tt
asks-fit before log row.End e is asks sum = absurd cc

-- the rows say what an event asks for
said : (this : Row) (e : Event) (flow : Flow) → event_of this ≡ Some e → asked_in_event e flow ≤ script_row_slots flow.src flow.dst this
said (row.Pair endpoints b span) e flow is = absurd cc
said (row.Ask src dst slots) e flow is = subst (λ (x : Event). asked_in_event x flow ≤ script_row_slots flow.src flow.dst (row.Ask src dst slots)) (same_Some _ e is) (omega arith)
said (row.Request node) e flow is = subst (λ (x : Event). asked_in_event x flow ≤ 0) (same_Some _ e is) (omega arith)
said (row.Grant m) e flow is = subst (λ (x : Event). asked_in_event x flow ≤ 0) (same_Some _ e is) (omega arith)
said (row.Take node m) e flow is = subst (λ (x : Event). asked_in_event x flow ≤ 0) (same_Some _ e is) (omega arith)
said (row.Tell src node) e flow is = subst (λ (x : Event). asked_in_event x flow ≤ 0) (same_Some _ e is) (omega arith)
said (row.Publish node) e flow is = subst (λ (x : Event). asked_in_event x flow ≤ 0) (same_Some _ e is) (omega arith)
said (row.Hear src batch) e flow is = subst (λ (x : Event). asked_in_event x flow ≤ 0) (same_Some _ e is) (omega arith)
said (row.Crash node) e flow is = subst (λ (x : Event). asked_in_event x flow ≤ 0) (same_Some _ e is) (omega arith)
said row.End e flow is = absurd cc

no-pair : (this : Row) (e : Event) → event_of this ≡ Some e → is_pair this ≡ false
no-pair (row.Pair endpoints b span) e is = absurd cc
no-pair this e is = refl

total-more : (before : List Row) (this : Row) (src dst : ℕ) → total_in_rows src dst (before ++ this ∷ []) ≡ total_in_rows src dst before + script_row_slots src dst this
total-more before this src dst = omega (arith, sum_by-append (script_row_slots src dst) before (this ∷ []), sum_by-cons (script_row_slots src dst) this [])

not-first : (x : Row) (rows : List Row) → is_first_row (x ∷ rows) ≡ false
not-first x rows = ne_eqb (length (x ∷ rows)) 0 (λ none. omega arith)

-- the rows before are some, where this one is no pair
leading : (before : List Row) (this : Row) → Allowed before this → is_pair this ≡ false → is_first_row before ≡ false
leading before this ok other = elim (cases_Bool (is_first_row before)) [
  | inl first ↦ absurd (true≢false (sym (ok.leads first) ∙ other))
  | inr some ↦ some
]

-- ---- one row more

with-events : (before : List Row) (this : Row) (setting : PairSetting) (events : List Event) → pair_of (before ++ this ∷ []) ≡ setting → events_in_rows (before ++ this ∷ []) ≡ events
    → IsPairSetting setting → length events ≤ 10000
    → ((at : ℕ) (e : Event) → slice_get events at ≡ Some e → MayFollow setting (reverse (take at events)) e)
    → ((flow : Flow) → asked_of_flow (log_of setting (reverse events)) flow ≤ total_in_rows flow.src flow.dst (before ++ this ∷ []))
    → MayHappen (before ++ this ∷ [])
with-events before this setting events pair_is events_are sound few may asks = record {
  pair = λ some. subst IsPairSetting (sym pair_is) sound;
  few = subst (λ (es : List Event). length es ≤ 10000) (sym events_are) few;
  may = λ at e there.
      subst (λ (s : PairSetting). MayFollow s (reverse (take at (events_in_rows (before ++ this ∷ [])))) e) (sym pair_is)
      (subst (λ (es : List Event). MayFollow setting (reverse (take at es)) e) (sym events_are) (may at e (ap (λ (es : List Event). slice_get es at) (sym events_are) ∙ there)));
  asks = λ flow.
      subst (λ (s : PairSetting). asked_of_flow (log_of s (reverse (events_in_rows (before ++ this ∷ [])))) flow ≤ total_in_rows flow.src flow.dst (before ++ this ∷ [])) (sym pair_is)
      (subst (λ (es : List Event). asked_of_flow (log_of setting (reverse es)) flow ≤ total_in_rows flow.src flow.dst (before ++ this ∷ [])) (sym events_are) (asks flow));
}

-- the first row tells the pair
pair-row : (before : List Row) (endpoints b span : ℕ) → Allowed before (row.Pair endpoints b span) → MayHappen (before ++ row.Pair endpoints b span ∷ [])
pair-row [] endpoints b span ok =
    let parts = and_parts (is_between 2 64 endpoints && is_between 1 64 b) (is_between 1 100 span) ok.range in
    let ends = and_parts (is_between 2 64 endpoints) (is_between 1 64 b) parts.0 in
    let n = and_parts (nat_le 2 endpoints) (nat_le endpoints 64) ends.0 in
    let s = and_parts (nat_le 1 b) (nat_le b 64) ends.1 in
    let l = and_parts (nat_le 1 span) (nat_le span 100) parts.1 in
    record {
      pair = λ some. record {
        some = leb-true 2 endpoints n.0;
        most = leb-true endpoints 64 n.1;
        slot = leb-true 1 b s.0;
        slots = leb-true b 64 s.1;
        batch = leb-true 1 span l.0;
        batches = leb-true span 100 l.1;
      };
      few = omega arith;
      may = λ at e there. absurd cc;
      asks = λ flow. omega arith;
    }
pair-row (x ∷ before) endpoints b span ok =
    let outer = or_parts ((is_pair (row.Pair endpoints b span) && not (is_first_row (x ∷ before))) || is_ended (x ∷ before)) (is_some (event_of (row.Pair endpoints b span)) && nat_le 10000 (length (events_in_rows (x ∷ before)))) ok.order in
    let inner = or_parts (is_pair (row.Pair endpoints b span) && not (is_first_row (x ∷ before))) (is_ended (x ∷ before)) outer.0 in
    absurd (true≢false (sym (not_from_false (is_first_row (x ∷ before)) (not-first x before)) ∙ inner.0))

-- an event comes behind the others
event-row : (before : List Row) (this : Row) (e : Event) → event_of this ≡ Some e → AsksAreCounted → Allowed before this → MayHappen before → MayHappen (before ++ this ∷ [])
event-row before this e is law ok so_far =
    let setting = pair_of before in
    let events = events_in_rows before in
    let other = no-pair this e is in
    let outer = or_parts ((is_pair this && not (is_first_row before)) || is_ended before) (is_some (event_of this) && nat_le 10000 (length events)) ok.order in
    let full : nat_le 10000 (length events) ≡ false = ap (λ (o : Option Event). is_some o && nat_le 10000 (length events)) (sym is) ∙ outer.1 in
    let room = leb-false 10000 (length events) full in
    let all : events_in_rows (before ++ this ∷ []) ≡ events ++ e ∷ [] = events-append before (this ∷ []) ∙ ap (λ (o : Option Event). events ++ cons_option o []) is in
    let back : reverse (events ++ e ∷ []) ≡ e ∷ reverse events = reverse-append events (e ∷ []) in
    let next : MayFollow setting (reverse events) e = record {
      few = omega (arith, room, length-reverse events);
      is_event = is-event setting.endpoints this e is ok.range ok.apart;
      fits = asks-fit before (log_of setting (reverse events)) this e is so_far.asks ok.sum;
    } in
    with-events before this setting (events ++ e ∷ []) (pair-same before this other) all (so_far.pair (leading before this ok other)) (omega (arith, room, length-append events (e ∷ [])))
    (λ at x there. elim (last-or events e x at there) [
      | inl earlier ↦ subst (λ (es : List Event). MayFollow setting (reverse es) x) (sym earlier.1) (so_far.may at x earlier.0)
      | inr last ↦ subst (λ (es : List Event). MayFollow setting (reverse es) x) (sym last.1) (subst (MayFollow setting (reverse events)) last.0 next)
    ])
    (λ flow.
    subst (λ (es : List Event). asked_of_flow (log_of setting es) flow ≤ total_in_rows flow.src flow.dst (before ++ this ∷ [])) (sym back)
    (omega (arith, law setting (log_of setting (reverse events)) e flow, so_far.asks flow, said this e flow is, total-more before this flow.src flow.dst)))

end-row : (before : List Row) → Allowed before row.End → MayHappen before → MayHappen (before ++ row.End ∷ [])
end-row before ok so_far =
    with-events before row.End (pair_of before) (events_in_rows before) (pair-same before row.End refl) (events-append before (row.End ∷ []) ∙ append-nil (events_in_rows before)) (so_far.pair (leading before row.End ok refl)) so_far.few so_far.may
    (λ flow. omega (arith, so_far.asks flow, total-more before row.End flow.src flow.dst))

row-more : (before : List Row) (this : Row) → AsksAreCounted → Allowed before this → MayHappen before → MayHappen (before ++ this ∷ [])
row-more before (row.Pair endpoints b span) law ok so_far = pair-row before endpoints b span ok
row-more before row.End law ok so_far = end-row before ok so_far
row-more before (row.Ask src dst slots) law ok so_far = event-row before (row.Ask src dst slots) _ refl law ok so_far
row-more before (row.Request node) law ok so_far = event-row before (row.Request node) _ refl law ok so_far
row-more before (row.Grant m) law ok so_far = event-row before (row.Grant m) _ refl law ok so_far
row-more before (row.Take node m) law ok so_far = event-row before (row.Take node m) _ refl law ok so_far
row-more before (row.Tell src node) law ok so_far = event-row before (row.Tell src node) _ refl law ok so_far
row-more before (row.Publish node) law ok so_far = event-row before (row.Publish node) _ refl law ok so_far
row-more before (row.Hear src batch) law ok so_far = event-row before (row.Hear src batch) _ refl law ok so_far
row-more before (row.Crash node) law ok so_far = event-row before (row.Crash node) _ refl law ok so_far

-- ---- all rows

abbrev script_in : ScriptContent → Result ScriptContent FaultyRow → ScriptContent
script_in other (Ok script) = script
script_in other (Err faulty) = other

at-end : (before : List Row) (end : Bool) (script : ScriptContent) → ended_script before end ≡ Ok script → MayHappen before → IsScript script
at-end [] end script is so_far = absurd cc
at-end (x ∷ before) false script is so_far = absurd cc
at-end (x ∷ before) true script is so_far =
    subst IsScript (ap (script_in script) is) (record { pair = so_far.pair (not-first x before); few = so_far.few; may = so_far.may })

after : (records : List Record) (before : List Row) (script : ScriptContent) → AsksAreCounted → script_rows_after records before ≡ Ok script → MayHappen before → IsScript script
unfolding script_rows_after
after [] before script law is so_far = at-end before (is_ended before) script is so_far
after (fields ∷ records) before script law is so_far =
    go (λ this read more. after records (before ++ this ∷ []) script law more (row-more before this law (allowed before fields this read) so_far)) (read_script_row before fields) refl is
  where
    go : ((this : Row) → read_script_row before fields ≡ Ok this → script_rows_after records (before ++ this ∷ []) ≡ Ok script → IsScript script)
        → (r : Result Row Fault) → read_script_row before fields ≡ r → script_row_more (script_rows_after records) before r ≡ Ok script → IsScript script
    go on (Err why) read more = absurd cc
    go on (Ok this) read more = on this read more

pub every_script_happens : (text : List ℕ) (script : ScriptContent) → AsksAreCounted → script_of text ≡ Ok script → IsScript script
every_script_happens text script law is =
    after (records_of_text text) [] script law is (record { pair = λ some. absurd (true≢false some); few = omega arith; may = λ at e there. absurd cc; asks = λ flow. omega arith })
