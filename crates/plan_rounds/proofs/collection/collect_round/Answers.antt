use Rattle.std.proofs.Common.{◌≡◌, ◌<◌, ◌+◌, ◌^◌, ◌++◌, ◌==◌, ℕ, Bool, false, not, List, [], ◌∷◌, map, set, take, get_or, sym, ap, ◌∙◌, subst, arith}
use Rattle.std.proofs.lemmas.List.{take_more, take_all, length-map}
use Rattle.greedy_rules.specs.declared.flows.Entry.{Entry}
use Rattle.greedy_rules.specs.declared.limits.Limits.{Limits}
use Rattle.greedy_rules.specs.Batches.{DemandBatch, IsAboveLast}
use Rattle.clos_topology.specs.Network.{endpoints_of}
use Rattle.trace_text.specs.declared.ask.Ask.{Ask}
use Rattle.plan_rounds.specs.Batches.{is_asked_for}
use Rattle.plan_rounds.specs.Tallies.{added_in, Adds}
use Rattle.window_allocation.specs.Needs.{place_of}
use Rattle.plan_rounds.proofs.AskLemmas.{above_last, opens_is}
use Rattle.plan_rounds.proofs.PlanBatches.{batch_fits, tallies_more}
use Rattle.plan_rounds.proofs.RoundAsks.{entry_by, asks_entries, entry_at_ask}
use Rattle.plan_rounds.proofs.TallyLemmas.{not_yet_added, next_fits, adds_more}
use Rattle.plan_rounds.proofs.collection.collect_round.Goals as goal

abbrev none : Ask
none = record { round = 0; src = 0; dst = 0; slots = 0 }

pub place-at-requires-clause-src : goal.place-at-requires-clause-src
place-at-requires-clause-src c =
    let next = entry_at_ask c.args.trace.now c.args.round c.asks_in-ask-items.result.now c.loop-ask.ask-index none c.net.ensures.sound c.requires.round c.asks_in-ask-items.ensures c.loop-ask-test.true in
    omega (arith, next.src, c.endpoints-endpoints.ensures.number)

pub place-at-requires-clause-dst : goal.place-at-requires-clause-dst
place-at-requires-clause-dst c =
    let next = entry_at_ask c.args.trace.now c.args.round c.asks_in-ask-items.result.now c.loop-ask.ask-index none c.net.ensures.sound c.requires.round c.asks_in-ask-items.ensures c.loop-ask-test.true in
    omega (arith, next.dst, c.endpoints-endpoints.ensures.number)

pub push-requires : goal.push-requires
push-requires c =
    let ask : Ask = get_or c.asks_in-ask-items.result.now c.loop-ask.ask-index none in
    let entries : List Entry = map (entry_by (take c.args.round c.args.trace.now.asked)) c.asks_in-ask-items.result.now in
    let next = entry_at_ask c.args.trace.now c.args.round c.asks_in-ask-items.result.now c.loop-ask.ask-index none c.net.ensures.sound c.requires.round c.asks_in-ask-items.ensures c.loop-ask-test.true in
    subst (λ (es : List Entry). IsAboveLast es (record { src = ask.src; dst = ask.dst })) (sym c.loop-ask.invariant.entries)
    (above_last (take c.loop-ask.ask-index entries) (record { src = ask.src; dst = ask.dst }) next.lower)

pub overflow_add-asked : goal.overflow_add-asked
overflow_add-asked c =
    let trace = c.args.trace.now in
    let asks : List Ask = c.asks_in-ask-items.result.now in
    let i = c.loop-ask.ask-index in
    let ask : Ask = get_or asks i none in
    let before = take c.args.round trace.asked in
    let entries : List Entry = map (entry_by before) asks in
    let endpoints = endpoints_of trace.net in
    let at : ℕ = place_of endpoints ask.src ask.dst in
    let next = entry_at_ask trace c.args.round asks i none c.net.ensures.sound c.requires.round c.asks_in-ask-items.ensures c.loop-ask-test.true in
    let place : c.place-at.result ≡ at = c.place-at.ensures.place ∙ ap (λ (n : ℕ). place_of n ask.src ask.dst) c.endpoints-endpoints.ensures.number in
    let all : get_or c.args.asked.now at 0 + added_in ask.src ask.dst entries < 2 ^ 32 =
    subst (λ (es : List Entry). get_or c.args.asked.now at 0 + added_in ask.src ask.dst es < 2 ^ 32) (sym (asks_entries trace c.args.round before asks c.net.ensures.sound c.requires.round c.asks_in-ask-items.ensures))
    (batch_fits trace c.args.round c.args.asked.now c.net.ensures.sound c.requires.round c.requires.tallies ask.src ask.dst next.src next.dst) in
    let fits : get_or c.loop-ask.asked at 0 + ask.slots < 2 ^ 32 = next_fits endpoints entries i (entry_by before ask) c.args.asked.now c.loop-ask.asked next c.loop-ask.invariant.adds all in
    let here : get_or c.loop-ask.asked c.place-at.result 0 + ask.slots < 2 ^ 32 = subst (λ (n : ℕ). get_or c.loop-ask.asked n 0 + ask.slots < 2 ^ 32) (sym place) fits in
    omega arith

pub loop-ask-preserved : goal.loop-ask-preserved
loop-ask-preserved c =
    let trace = c.args.trace.now in
    let asks : List Ask = c.asks_in-ask-items.result.now in
    let i = c.loop-ask.ask-index in
    let ask : Ask = get_or asks i none in
    let before = take c.args.round trace.asked in
    let entries : List Entry = map (entry_by before) asks in
    let endpoints = endpoints_of trace.net in
    let asked : List ℕ = c.loop-ask.asked in
    let next = entry_at_ask trace c.args.round asks i none c.net.ensures.sound c.requires.round c.asks_in-ask-items.ensures c.loop-ask-test.true in
    let place : c.place-at.result ≡ place_of endpoints ask.src ask.dst = c.place-at.ensures.place ∙ ap (λ (n : ℕ). place_of n ask.src ask.dst) c.endpoints-endpoints.ensures.number in
    let opens : (get_or asked c.place-at.result 0 == 0) ≡ not (is_asked_for before ask.src ask.dst) =
    ap (λ (n : ℕ). get_or asked n 0 == 0) place
    ∙ (ap (λ (n : ℕ). n == 0) (not_yet_added endpoints entries i (entry_by before ask) c.args.asked.now asked next c.loop-ask.invariant.adds)
    ∙ opens_is trace c.args.round ask.src ask.dst c.args.asked.now c.net.ensures.sound next.src next.dst c.requires.tallies) in
    let entry : Bool → Entry = λ b. record { flow = record { src = ask.src; dst = ask.dst }; opens = b; clear = false; add = ask.slots } in
    record {
      entries = c.in_ok-push.ensures.ok
          ∙ (ap (λ (b : Bool). c.loop-ask.batch.entries ++ entry b ∷ []) opens
          ∙ (ap (λ (es : List Entry). es ++ entry_by before ask ∷ []) c.loop-ask.invariant.entries
          ∙ (ap (λ (e : Entry). take i entries ++ e ∷ []) (sym next.is)
          ∙ sym (take_more entries i (entry_by before ask) next.inside))));
      limits = c.in_ok-push.ensures.limits ∙ c.loop-ask.invariant.limits;
      adds = subst (λ (n : ℕ). Adds endpoints (take (i + 1) entries) c.args.asked.now (set asked n (get_or asked n 0 + ask.slots))) (sym place)
          (adds_more endpoints entries i (entry_by before ask) c.args.asked.now asked c.requires.tallies.long next c.loop-ask.invariant.adds);
    }

pub returns-clause-batch : goal.returns-clause-batch
returns-clause-batch c =
    let trace = c.args.trace.now in
    let asks : List Ask = c.asks_in-ask-items.result.now in
    let before = take c.args.round trace.asked in
    let entries : List Entry = map (entry_by before) asks in
    let whole = c.loop-ask.invariant.entries
    ∙ (take_all c.loop-ask.ask-index entries (omega (arith, c.loop-ask-test.false, length-map asks (entry_by before)))
    ∙ asks_entries trace c.args.round before asks c.net.ensures.sound c.requires.round c.asks_in-ask-items.ensures) in
    let made : List Entry → Limits → DemandBatch = λ es limits. record { entries = es; limits = limits } in
    ap (λ (es : List Entry). made es c.loop-ask.batch.limits) whole ∙ ap (made _) c.loop-ask.invariant.limits

pub returns-clause-tallies : goal.returns-clause-tallies
returns-clause-tallies c =
    let trace = c.args.trace.now in
    let asks : List Ask = c.asks_in-ask-items.result.now in
    let before = take c.args.round trace.asked in
    let entries : List Entry = map (entry_by before) asks in
    let whole = take_all c.loop-ask.ask-index entries (omega (arith, c.loop-ask-test.false, length-map asks (entry_by before)))
    ∙ asks_entries trace c.args.round before asks c.net.ensures.sound c.requires.round c.asks_in-ask-items.ensures in
    tallies_more trace c.args.round c.args.asked.now c.loop-ask.asked c.net.ensures.sound c.requires.round c.requires.tallies
    (subst (λ (es : List Entry). Adds (endpoints_of trace.net) es c.args.asked.now c.loop-ask.asked) whole c.loop-ask.invariant.adds)
