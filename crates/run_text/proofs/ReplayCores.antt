-- Cores for the slots of a replay: none is 64 or more, and those of one window can be put in place of others.
use Rattle.std.proofs.Common.{◌≡◌, ◌≢◌, ◌<◌, ◌≤◌, ◌+◌, ◌-◌, ◌*◌, ℕ, List, [], ◌∷◌, length, get_or, take, drop, Option, Some, None, IfSome, ◌&&◌, ◌==◌, nat_lt, nat_le, All, refl, sym, ap, ◌∙◌, subst, arith, inl, inr}
use Rattle.std.specs.Option.{MatchOption}
use Rattle.std.proofs.lemmas.Bool.{cond-true, cond-false, cases_Bool, ltb-true, ltb-false}
use Rattle.std.proofs.lemmas.Nat.{mul-le}
use Rattle.std.proofs.lemmas.List.{get_or-take, get_or-drop, length-drop, length-take, take-append-drop}
use Rattle.std.proofs.lemmas.List.Elements.{All-nil, All-cons, All-head, All-tail}
use Rattle.greedy_rules.specs.declared.flows.Flow.{Flow}
use Rattle.greedy_rules.specs.Batches.{DemandBatch}
use Rattle.greedy_rules.specs.Fronts.{FrontsAreFronts, EveryBatchHasItsSlots}
use Rattle.greedy_rules.specs.Schedule.{first_slot, schedule, slot_in, slot_at}
use Rattle.clos_topology.specs.declared.graph.Edge.{Edge}
use Rattle.greedy_rules.specs.Limits.{rack_of}
use Rattle.clos_topology.specs.Links.{CoreOf, IsClean}
use Rattle.clos_topology.specs.RackGraph.{rack_edges}
use Rattle.clos_topology.specs.NetSlots.{SlotCores, AreSlotCores}
use Rattle.window_engine.specs.Coloured.{NamesNoOther}
use Rattle.trace_text.specs.Trace.{TraceContent}
use Rattle.trace_text.specs.Valid.{IsTrace}
use Rattle.trace_run.specs.Run.{Setting, replayed}
use Rattle.trace_run.specs.Fronts.{EveryRoundHasABatch, ARunBeginsWithEach}
use Rattle.replay_rounds.specs.Setting.{byte_of, setting_of}
use Rattle.replay_rounds.specs.Standing.{slots_between}
use Rattle.window_engine.specs.Scheduled.{EverySlotIsScheduled, AreClean, HasCores}
use Rattle.trace_run.specs.Cores.{CoresDecideNothing}
use Rattle.window_engine.specs.Replay.{EveryReplayHasCores}
use Rattle.replay_rounds.proofs.ReplayCores.{between-length}
use Rattle.window_engine.proofs.ReplayScheduled.{below_64, below_64-below, clean_limited}
use Rattle.run_text.specs.ReplayScheduled.{replay_batches, AreReplayCores, WithReplayCores}
use Rattle.run_text.proofs.CoreLemmas.{spliced, scheduled_between}

-- the same cores, but for those that are 64 or more
abbrev pub limited : SlotCores → SlotCores
limited cores number source = below_64 (cores number source)

pub limited-named : (cores : SlotCores) → AreSlotCores (limited cores)
limited-named cores number source = below_64-below (cores number source)

-- ---- clean slots

core_small : (hosts cores src dst : ℕ) (o : Option ℕ) → cores ≤ 64 → MatchOption o (rack_of hosts src ≡ rack_of hosts dst) (λ core. (rack_of hosts src ≢ rack_of hosts dst) × (core < cores)) → IfSome o (λ core. core < 64)
core_small hosts cores src dst None few named = tt
core_small hosts cores src dst (Some core) few named = omega (arith, named.1)

clean_small : (hosts cores : ℕ) (slot : List Flow) (core_of : CoreOf) → cores ≤ 64 → IsClean hosts cores slot core_of → All (λ flow. IfSome (core_of flow.src) (λ core. core < 64)) slot
clean_small hosts cores slot core_of few clean i d below =
    let flow : Flow = get_or slot i d in
    core_small hosts cores flow.src flow.dst (core_of flow.src) few (clean.named i d below)

-- the sources of a slot's edges are those of its flows
edges_of : (hosts source : ℕ) (slot : List Flow) → All (λ flow. flow.src ≢ source) slot → All (λ edge. edge.source ≢ source) (rack_edges hosts slot)
edges_of hosts source [] others = All-nil (λ edge. edge.source ≢ source)
edges_of hosts source (flow ∷ slot) others =
    let P : Edge → Type 0 = λ edge. edge.source ≢ source in
    let same = rack_of hosts flow.src == rack_of hosts flow.dst in
    let edge : Edge = record { source = flow.src; left = rack_of hosts flow.src; right = rack_of hosts flow.dst } in
    let later = edges_of hosts source slot (All-tail (λ (f : Flow). f.src ≢ source) flow slot others) in
    elim (cases_Bool same) [
      | inl is ↦ subst (All P) (sym (cond-true same (rack_edges hosts slot) (edge ∷ rack_edges hosts slot) is)) later
      | inr other ↦ subst (All P) (sym (cond-false same (rack_edges hosts slot) (edge ∷ rack_edges hosts slot) other)) (All-cons P edge (rack_edges hosts slot) (All-head (λ (f : Flow). f.src ≢ source) flow slot others) later)
    ]

large_other : (core_of : CoreOf) (source other core : ℕ) → core_of source ≡ Some core → 64 ≤ core → IfSome (core_of other) (λ c. c < 64) → other ≢ source
large_other core_of source other core is large small same =
    let P : Option ℕ → Type 0 = λ o. IfSome o (λ c. c < 64) in
    let below : core < 64 = subst P is (subst (λ (n : ℕ). P (core_of n)) same small) in
    absurd (omega (arith, below, large))

source_small : (hosts cores source : ℕ) (slot : List Flow) (core_of : CoreOf) (o : Option ℕ) → core_of source ≡ o → cores ≤ 64 → IsClean hosts cores slot core_of → NamesNoOther hosts slot core_of → IfSome o (λ core. core < 64)
source_small hosts cores source slot core_of None is few clean others = tt
source_small hosts cores source slot core_of (Some core) is few clean others =
    elim (cases_Bool (nat_lt core 64)) [
      | inl small ↦ ltb-true core 64 small
      | inr large ↦
          let none : core_of source ≡ None = others source (edges_of hosts source slot (λ i d below. large_other core_of source (get_or slot i d).src core is (ltb-false core 64 large) (clean_small hosts cores slot core_of few clean i d below))) in
          subst (λ (o : Option ℕ). IfSome o (λ c. c < 64)) (sym none ∙ is) tt
    ]

-- a slot whose cores are named for its packets between racks alone has none that is 64 or more
pub cores_small : (hosts cores source : ℕ) (slot : List Flow) (core_of : CoreOf) → cores ≤ 64 → IsClean hosts cores slot core_of → NamesNoOther hosts slot core_of → IfSome (core_of source) (λ core. core < 64)
cores_small hosts cores source slot core_of few clean others = source_small hosts cores source slot core_of (core_of source) refl few clean others

-- ---- the batches of a replay

pub same_batches : CoresDecideNothing → (trace : TraceContent) (b g rounds : ℕ) (one other : SlotCores) → (replayed (setting_of trace b g one) rounds).batches ≡ (replayed (setting_of trace b g other) rounds).batches
same_batches nothing trace b g rounds one other = nothing (setting_of trace b g other) (λ number source. byte_of (one number source)) rounds

pub has_replay_cores : (trace : TraceContent) (b g : ℕ) → CoresDecideNothing → EveryReplayHasCores → IsTrace trace → b ≤ 64 → 0 < g → WithReplayCores b g trace (λ cores. Unit {0})
has_replay_cores trace b g nothing has sound size some =
    let none : SlotCores = λ number source. None in
    let found : HasCores b trace.net (replay_batches trace b g none) = has b g trace none sound size some in
    let cores : SlotCores = limited found.0 in
    let Scheduled : List DemandBatch → Type 0 = λ batches. EverySlotIsScheduled b trace.net batches cores in
    let scheduled : Scheduled (replay_batches trace b g none) = λ number positive within.
    let old = found.1 number positive within in
    record {
      matching = old.matching;
      maximal = old.maximal;
      within_cores = old.within_cores;
      clean = clean_limited trace.net.hosts trace.net.cores (slot_at (schedule b (replay_batches trace b g none)) number) (found.0 number) sound.net.most_cores old.clean;
    } in
    (cores, record { named = limited-named found.0; scheduled = subst Scheduled (same_batches nothing trace b g trace.rounds none cores) scheduled }, tt)

-- a slot of the batches of so many rounds is one of the whole run
pub slot_between : (setting : Setting) (first rounds all at : ℕ) → ARunBeginsWithEach → EveryRoundHasABatch → FrontsAreFronts → rounds ≤ all → at < length (slots_between setting first rounds)
    → slot_in (slots_between setting first rounds) at ≡ slot_at (schedule setting.b (replayed setting all).batches) (first * setting.b + 1 + at)
slot_between setting first rounds all at begins counts fronts within below =
    let batches : List DemandBatch = (replayed setting all).batches in
    let slots : List (List Flow) = schedule setting.b batches in
    let low : ℕ = first * setting.b in
    let size : ℕ = rounds * setting.b in
    let some : ℕ = length (take rounds batches) in
    let front : (replayed setting rounds).batches ≡ take rounds batches = sym (begins setting rounds all within) in
    let counted : some ≡ rounds = ap length (sym front) ∙ counts setting rounds in
    let is : schedule setting.b (replayed setting rounds).batches ≡ take size slots =
    ap (schedule setting.b) front
    ∙ (sym (fronts setting.b (take rounds batches) (drop rounds batches)).2
    ∙ (ap (λ (bs : List DemandBatch). take (some * setting.b) (schedule setting.b bs)) (take-append-drop rounds batches) ∙ ap (λ (n : ℕ). take (n * setting.b) slots) counted)) in
    let long : low + at < length (take size slots) = omega (arith, length-drop low (schedule setting.b (replayed setting rounds).batches), ap length is) in
    let place : low + at ≡ low + 1 + at - 1 = omega arith in
    get_or-drop low (schedule setting.b (replayed setting rounds).batches) at []
    ∙ (ap (λ (xs : List (List Flow)). get_or xs (low + at) []) is
    ∙ (get_or-take size slots (low + at) [] (omega (arith, length-take size slots, long)) ∙ ap (λ (m : ℕ). get_or slots m []) place))

sum_times : (k n b : ℕ) → k * b + n * b ≡ (k + n) * b
sum_times k n b = grind arith

pub places : (first rounds b : ℕ) → first ≤ rounds → first * b + (rounds - first) * b ≡ rounds * b
places first rounds b le = sum_times first (rounds - first) b ∙ ap (λ (n : ℕ). n * b) (omega arith)

pub spliced_named : (low size number source : ℕ) (here there : SlotCores) → AreSlotCores here → AreSlotCores there → IfSome (spliced low size here there number source) (λ core. core < 64)
spliced_named low size number source here there small small' =
    let test = nat_lt low number && nat_le number (low + size) in
    let P : CoreOf → Type 0 = λ core_of. IfSome (core_of source) (λ core. core < 64) in
    elim (cases_Bool test) [
      | inl is ↦ subst P (sym (cond-true test (here number) (there number) is)) (small number source)
      | inr other ↦ subst P (sym (cond-false test (here number) (there number) other)) (small' number source)
    ]

-- cores of a window in place of others
pub replay_spliced : (trace : TraceContent) (b g first rounds : ℕ) (here there : SlotCores) → CoresDecideNothing → ARunBeginsWithEach → EveryRoundHasABatch → FrontsAreFronts → EveryBatchHasItsSlots
    → first ≤ rounds → rounds ≤ trace.rounds → AreReplayCores b g trace there → AreSlotCores here → AreClean trace.net here (first_slot b first) (slots_between (setting_of trace b g there) first rounds)
    → AreReplayCores b g trace (spliced (first * b) ((rounds - first) * b) here there)
replay_spliced trace b g first rounds here there nothing begins counts fronts each some within old named clean =
    let low : ℕ = first * b in
    let size : ℕ = (rounds - first) * b in
    let cores : SlotCores = spliced low size here there in
    let setting : Setting = setting_of trace b g there in
    let batches : List DemandBatch = replay_batches trace b g there in
    let new : EverySlotIsScheduled b trace.net batches cores =
    scheduled_between b trace.net batches low size here there old.scheduled (λ number above below within_all.
    let at : ℕ = number - (low + 1) in
    let inside : at < length (slots_between setting first rounds) = omega (arith, between-length setting first rounds counts each, places first rounds b some) in
    let is : low + 1 + at ≡ number = omega arith in
    subst (λ (m : ℕ). IsClean trace.net.hosts trace.net.cores (slot_at (schedule b batches) m) (here m)) is
    (subst (λ (slot : List Flow). IsClean trace.net.hosts trace.net.cores slot (here (low + 1 + at))) (slot_between setting first rounds trace.rounds at begins counts fronts within inside) (clean at inside))) in
    record {
      named = λ number source. spliced_named low size number source here there named old.named;
      scheduled = subst (λ (bs : List DemandBatch). EverySlotIsScheduled b trace.net bs cores) (same_batches nothing trace b g trace.rounds there cores) new;
    }

-- the cores of a whole replay are clean in each part of it
pub clean_between : (trace : TraceContent) (b g first rounds : ℕ) (there : SlotCores) → ARunBeginsWithEach → EveryRoundHasABatch → FrontsAreFronts → EveryBatchHasItsSlots
    → rounds ≤ trace.rounds → AreReplayCores b g trace there → AreClean trace.net there (first_slot b first) (slots_between (setting_of trace b g there) first rounds)
clean_between trace b g first rounds there begins counts fronts each within old at below =
    let setting : Setting = setting_of trace b g there in
    let batches : List DemandBatch = replay_batches trace b g there in
    let number : ℕ = first * b + 1 + at in
    let all : length (schedule b batches) ≡ trace.rounds * b = each b 0 [] batches ∙ ap (λ (n : ℕ). n * b) (counts setting trace.rounds) in
    let most : rounds * b ≤ trace.rounds * b = mul-le rounds b trace.rounds b within (omega arith) in
    let inside : number ≤ length (schedule b batches) = omega (arith, all, most, between-length setting first rounds counts each, below) in
    subst (λ (slot : List Flow). IsClean trace.net.hosts trace.net.cores slot (there number)) (sym (slot_between setting first rounds trace.rounds at begins counts fronts within below)) (old.scheduled number (omega arith) inside).clean
