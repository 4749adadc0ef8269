-- The asks of a round, and the entries of its batch.
use Rattle.std.proofs.Common.{◌≡◌, ◌<◌, ◌+◌, ℕ, suc, List, [], ◌∷◌, ◌++◌, length, get_or, map, take, IsTrue, refl, sym, ap, ◌∙◌, subst, arith}
use Rattle.std.specs.List.{flat_map, range_with_len}
use Rattle.std.proofs.lemmas.List.{map-append, length-map, length-take, get_or-map, get_or-take, get_or_default}
use Rattle.greedy_rules.specs.declared.flows.Entry.{Entry}
use Rattle.greedy_rules.specs.Flows.{flow_below}
use Rattle.greedy_rules.specs.Batches.{IsBatch}
use Rattle.greedy_rules.specs.Matching.{AreAmong}
use Rattle.clos_topology.specs.Network.{endpoints_of}
use Rattle.trace_text.specs.Asks.{ask_for, asks_in}
use Rattle.trace_text.specs.Trace.{TraceContent, asked_at}
use Rattle.trace_text.specs.Valid.{IsTrace}
use Rattle.trace_text.specs.declared.ask.Ask.{Ask}
use Rattle.plan_rounds.specs.Batches.{AskedRound, asked_entry, asked_entries_from}
use Rattle.plan_rounds.proofs.TallyLemmas.{IsEntryAt}
use Rattle.plan_rounds.proofs.PlanBatches.{among, long, rise_from, round_of}

-- the entry of an ask
abbrev pub entry_by : List AskedRound → Ask → Entry
entry_by before ask = asked_entry before ask.src (ask.dst, ask.slots)

own_entries : (before : List AskedRound) (round src : ℕ) (asks : List (ℕ × ℕ)) → map (entry_by before) (map (ask_for round src) asks) ≡ map (asked_entry before src) asks
own_entries before round src [] = refl
own_entries before round src (ask ∷ asks) = ap (λ (es : List Entry). asked_entry before src ask ∷ es) (own_entries before round src asks)

-- the entries of the asks of sources in turn
entries_by : (before : List AskedRound) (round src : ℕ) (rows : AskedRound) (asked : ℕ → List (ℕ × ℕ)) → ((n : ℕ) → n < length rows → asked (src + n) ≡ get_or rows n [])
    → map (entry_by before) (flat_map (λ s. map (ask_for round s) (asked s)) (range_with_len src (length rows))) ≡ asked_entries_from before src rows
entries_by before round src [] asked are = refl
entries_by before round src (row ∷ rows) asked are =
    let later : List Ask = flat_map (λ s. map (ask_for round s) (asked s)) (range_with_len (src + 1) (length rows)) in
    let here : asked src ≡ row = ap asked (omega arith) ∙ are 0 (omega arith) in
    let rest : map (entry_by before) later ≡ asked_entries_from before (src + 1) rows = entries_by before round (src + 1) rows asked (λ n below. ap asked (omega arith) ∙ are (suc n) (omega arith)) in
    map-append (entry_by before) (map (ask_for round src) (asked src)) later
    ∙ (ap (λ (es : List Entry). es ++ map (entry_by before) later) (own_entries before round src (asked src) ∙ ap (map (asked_entry before src)) here)
    ∙ ap (λ (es : List Entry). map (asked_entry before src) row ++ es) rest)

-- the entries of a round's asks
pub asks_entries : (trace : TraceContent) (round : ℕ) (before : List AskedRound) (asks : List Ask) → IsTrace trace → round < trace.rounds → asks ≡ asks_in trace round
    → map (entry_by before) asks ≡ asked_entries_from before 0 (round_of trace round)
asks_entries trace round before asks sound below is =
    let rows : AskedRound = round_of trace round in
    let wide : length rows ≡ endpoints_of trace.net = sound.sources round [] (long trace round sound below) in
    ap (map (entry_by before)) is ∙
    ap (λ (n : ℕ). map (entry_by before) (flat_map (λ s. map (ask_for round s) (asked_at trace round s)) (range_with_len 0 n))) (sym wide)
    ∙ entries_by before round 0 rows (asked_at trace round) (λ n within. ap (λ (m : ℕ). get_or rows m []) (omega arith))

-- the entry of an ask of the round, among those of all
pub entry_at_ask : (trace : TraceContent) (round : ℕ) (asks : List Ask) (i : ℕ) (d : Ask) → IsTrace trace → round < trace.rounds → asks ≡ asks_in trace round → i < length asks
    → IsEntryAt (endpoints_of trace.net) (map (entry_by (take round trace.asked)) asks) i (entry_by (take round trace.asked) (get_or asks i d))
entry_at_ask trace round asks i d sound below is within =
    let endpoints = endpoints_of trace.net in
    let before : List AskedRound = take round trace.asked in
    let there = long trace round sound below in
    let entries : List Entry = map (entry_by before) asks in
    let entry : Entry = entry_by before (get_or asks i d) in
    let whole : asked_entries_from before 0 (round_of trace round) ≡ entries = sym (asks_entries trace round before asks sound below is) in
    let inside : i < length entries = omega (arith, within, length-map asks (entry_by before)) in
    let here : get_or entries i entry ≡ entry = get_or_default entries i entry (entry_by before d) inside ∙ get_or-map (entry_by before) asks i d (entry_by before d) within in
    let all : AreAmong endpoints entries = subst (AreAmong endpoints) whole (among endpoints before (round_of trace round) (sound.sources round [] there) (sound.asks round [] there)) in
    let range : (entry.flow.src < endpoints) × (entry.flow.dst < endpoints) = subst (λ (e : Entry). (e.flow.src < endpoints) × (e.flow.dst < endpoints)) here (all i entry inside) in
    let rising : IsBatch entries = subst IsBatch whole (rise_from endpoints before 0 (round_of trace round) (sound.asks round [] there)) in
    record {
      inside = inside;
      is = here;
      src = range.0;
      dst = range.1;
      lower = λ k e under.
          let first : k < i = omega (arith, under, length-take i entries) in
          subst (λ (x : Entry). IsTrue (flow_below x.flow entry.flow)) (sym (get_or-take i entries k e first))
          (subst (λ (x : Entry). IsTrue (flow_below (get_or entries k e).flow x.flow)) (get_or_default entries i e entry inside ∙ here) (rising k i e first inside));
    }
