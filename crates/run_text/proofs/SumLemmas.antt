-- The sums of the counts of a replay's flows: one more, the same for all cores, and balanced.
use Rattle.std.proofs.Common.{◌≡◌, ◌<◌, ◌≤◌, ◌+◌, ◌*◌, ℕ, zero, suc, Bool, cond, List, [], ◌∷◌, ◌++◌, drop, Option, Some, None, All, refl, sym, ap, ◌∙◌, subst, arith, inl, inr}
use Rattle.std.specs.List.{flat_map, filter_map, cons_option, range_with_len}
use Rattle.std.proofs.lemmas.Bool.{cond-true, cond-false, cases_Bool}
use Rattle.std.proofs.lemmas.List.{append-nil}
use Rattle.std.proofs.lemmas.List.Concat.{flat_map-append}
use Rattle.std.proofs.lemmas.List.Elements.{filter_map-append, All-nil, All-cons, All-head, All-tail, All-append}
use Rattle.std.proofs.lemmas.List.Sums.{sum_by-cons}
use Rattle.list_facts.proofs.Lists.{range_both}
use Rattle.greedy_rules.specs.declared.flows.Flow.{Flow}
use Rattle.greedy_rules.specs.Batches.{DemandBatch}
use Rattle.greedy_rules.specs.Demands.{item_of, need_in}
use Rattle.greedy_rules.specs.Allocation.{slots_of}
use Rattle.greedy_rules.specs.Schedule.{schedule, rest}
use Rattle.endpoint_history.specs.Entries.{had}
use Rattle.endpoint_history.specs.Lane.{last_reset}
use Rattle.trace_run.specs.Run.{Setting}
use Rattle.trace_run.specs.Counts.{EveryFlowIsCounted}
use Rattle.trace_run.specs.Cores.{CoresDecideNothing, CoresDecideNoCount}
use Rattle.trace_run.specs.Histories.{lane_after}
use Rattle.trace_run.specs.Rest.{allocated_from, left_after}
use Rattle.window_engine.specs.declared.counts.Counts.{Counts}
use Rattle.window_engine.specs.Replay.{replay_counts}
use Rattle.run_lines.specs.Text.{in_flight_of}
use Rattle.run_text.specs.Made.{counts_to, counts_from, counts_of_run, sums_of, SumsBalance}
use Rattle.run_text.specs.Sums.{counts_listed}

-- ---- one more

listed : (o : Option Counts) → cons_option o [] ≡ counts_listed o
listed None = refl
listed (Some counts) = refl

pub counts_more : (setting : Setting) (rounds src dst : ℕ) → counts_to setting rounds src (dst + 1) ≡ counts_to setting rounds src dst ++ counts_listed (replay_counts setting rounds (record { src = src; dst = dst }))
counts_more setting rounds src dst =
    let h : ℕ → Option Counts = λ d. replay_counts setting rounds (record { src = src; dst = d }) in
    let before : List Counts = filter_map h (range_with_len 0 dst) in
    let at : 0 + dst ≡ dst = omega arith in
    ap (filter_map h) (range_both 0 dst 1)
    ∙ (filter_map-append h (range_with_len 0 dst) (range_with_len (0 + dst) 1)
    ∙ (ap (λ (k : ℕ). before ++ cons_option (h k) []) at ∙ ap (λ (cs : List Counts). before ++ cs) (listed (h dst))))

pub sources_more : (setting : Setting) (rounds src : ℕ)
    → flat_map (counts_from setting rounds) (range_with_len 0 (src + 1)) ≡ flat_map (counts_from setting rounds) (range_with_len 0 src) ++ counts_from setting rounds src
sources_more setting rounds src =
    let f : ℕ → List Counts = counts_from setting rounds in
    let before : List Counts = flat_map f (range_with_len 0 src) in
    let at : 0 + src ≡ src = omega arith in
    ap (flat_map f) (range_both 0 src 1)
    ∙ (flat_map-append f (range_with_len 0 src) (range_with_len (0 + src) 1) ∙ ap (λ (cs : List Counts). before ++ cs) (append-nil (f (0 + src)) ∙ ap f at))

items_same : (f h : ℕ → Option Counts) (ks : List ℕ) → ((k : ℕ) → f k ≡ h k) → filter_map f ks ≡ filter_map h ks
items_same f h [] same = refl
items_same f h (k ∷ ks) same = ap (λ (o : Option Counts). cons_option o (filter_map f ks)) (same k) ∙ ap (cons_option (h k)) (items_same f h ks same)

lists_same : (f h : ℕ → List Counts) (ks : List ℕ) → ((k : ℕ) → f k ≡ h k) → flat_map f ks ≡ flat_map h ks
lists_same f h [] same = refl
lists_same f h (k ∷ ks) same = ap (λ (cs : List Counts). cs ++ flat_map f ks) (same k) ∙ ap (λ (cs : List Counts). h k ++ cs) (lists_same f h ks same)

-- ---- the same for all cores

abbrev counts_with : Bool → ℕ → ℕ → ℕ → ℕ → ℕ → ℕ → ℕ → Option Counts
counts_with known demanded allocated acknowledged lost pending sent missed =
    cond known
    (Some (record { demanded = demanded; allocated = allocated; acknowledged = acknowledged; lost = lost; pending = pending; sent = sent; missed = missed }))
    None

same_with : (k k' : Bool) (a a' b b' c c' d d' e e' f f' h h' : ℕ) → k ≡ k' → a ≡ a' → b ≡ b' → c ≡ c' → d ≡ d' → e ≡ e' → f ≡ f' → h ≡ h' → counts_with k a b c d e f h ≡ counts_with k' a' b' c' d' e' f' h'
same_with k k' a a' b b' c c' d d' e e' f f' h h' known one two three four five six seven =
    ap (λ (x : Bool). counts_with x a b c d e f h) known
    ∙ (ap (λ (x : ℕ). counts_with k' x b c d e f h) one
    ∙ (ap (λ (x : ℕ). counts_with k' a' x c d e f h) two
    ∙ (ap (λ (x : ℕ). counts_with k' a' b' x d e f h) three
    ∙ (ap (λ (x : ℕ). counts_with k' a' b' c' x e f h) four
    ∙ (ap (λ (x : ℕ). counts_with k' a' b' c' d' x f h) five
    ∙ (ap (λ (x : ℕ). counts_with k' a' b' c' d' e' x h) six ∙ ap (λ (x : ℕ). counts_with k' a' b' c' d' e' f' x) seven))))))

same_counts : (setting : Setting) (cores : (slot source : ℕ) → ℕ) (rounds : ℕ) (flow : Flow) → CoresDecideNothing → CoresDecideNoCount
    → replay_counts (record setting { cores = cores }) rounds flow ≡ replay_counts setting rounds flow
same_counts setting cores rounds flow nothing no_count =
    let other : Setting = record setting { cores = cores } in
    let (agents, lanes) = no_count setting cores rounds flow.src flow.dst in
    let batches = nothing setting cores rounds in
    let reset : ℕ = last_reset (lane_after setting rounds flow.src) in
    let allocated : allocated_from other rounds (last_reset (lane_after other rounds flow.src)) flow.src flow.dst ≡ allocated_from setting rounds reset flow.src flow.dst =
    ap (λ (n : ℕ). allocated_from other rounds n flow.src flow.dst) lanes.last_reset
    ∙ ap (λ (bs : List DemandBatch). slots_of flow (drop (reset * setting.b) (schedule setting.b bs))) batches in
    let left : left_after other rounds flow.src flow.dst ≡ left_after setting rounds flow.src flow.dst = ap (λ (bs : List DemandBatch). need_in (item_of (rest setting.b bs) flow)) batches in
    same_with _ _ _ _ _ _ _ _ _ _ _ _ _ _ _ _ lanes.had lanes.recorded allocated lanes.acknowledged lanes.lost left agents.sends agents.missed

same_to : (setting : Setting) (cores : (slot source : ℕ) → ℕ) (rounds src count : ℕ) → CoresDecideNothing → CoresDecideNoCount
    → counts_to (record setting { cores = cores }) rounds src count ≡ counts_to setting rounds src count
same_to setting cores rounds src count nothing no_count = items_same _ _ (range_with_len 0 count) (λ dst. same_counts setting cores rounds (record { src = src; dst = dst }) nothing no_count)

pub same_counts_of_run : (setting : Setting) (cores : (slot source : ℕ) → ℕ) (rounds : ℕ) → CoresDecideNothing → CoresDecideNoCount
    → counts_of_run (record setting { cores = cores }) rounds ≡ counts_of_run setting rounds
same_counts_of_run setting cores rounds nothing no_count = lists_same _ _ (range_with_len 0 setting.endpoints) (λ src. same_to setting cores rounds src setting.endpoints nothing no_count)

-- ---- balance

abbrev IsBalanced : Counts → Type 0
IsBalanced c = c.demanded ≡ c.acknowledged + in_flight_of c + c.pending

sums_balance : (counts : List Counts) → All IsBalanced counts → SumsBalance (sums_of counts)
sums_balance [] all = refl
sums_balance (c ∷ counts) all =
    let later = sums_balance counts (All-tail IsBalanced c counts all) in
    omega (arith, All-head IsBalanced c counts all, later, sum_by-cons (λ (k : Counts). k.demanded) c counts, sum_by-cons (λ (k : Counts). k.acknowledged) c counts, sum_by-cons in_flight_of c counts, sum_by-cons (λ (k : Counts). k.pending) c counts)

flow_balances : (setting : Setting) (rounds : ℕ) (flow : Flow) → EveryFlowIsCounted → 0 < setting.g → flow.src < setting.endpoints → flow.dst < setting.endpoints → All IsBalanced (counts_listed (replay_counts setting rounds flow))
flow_balances setting rounds flow counted some src dst =
    let test = had setting.g (lane_after setting rounds flow.src) flow.dst in
    let P : Option Counts → Type 0 = λ o. All IsBalanced (counts_listed o) in
    elim (cases_Bool test) [
      | inl holds ↦ subst P (sym (cond-true test _ _ holds)) (All-cons IsBalanced _ [] (counted setting some rounds flow.src flow.dst src dst).counted (All-nil IsBalanced))
      | inr other ↦ subst P (sym (cond-false test _ _ other)) (All-nil IsBalanced)
    ]

source_balances : (setting : Setting) (rounds src count : ℕ) → EveryFlowIsCounted → 0 < setting.g → src < setting.endpoints → count ≤ setting.endpoints → All IsBalanced (counts_to setting rounds src count)
source_balances setting rounds src zero counted some below within = All-nil IsBalanced
source_balances setting rounds src (suc count) counted some below within =
    let flow : Flow = record { src = src; dst = count } in
    let one : count + 1 ≡ suc count = omega arith in
    subst (λ (n : ℕ). All IsBalanced (counts_to setting rounds src n)) one
    (subst (All IsBalanced) (sym (counts_more setting rounds src count))
    (All-append IsBalanced (counts_to setting rounds src count) (counts_listed (replay_counts setting rounds flow)) (source_balances setting rounds src count counted some below (omega (arith, within))) (flow_balances setting rounds flow counted some below (omega (arith, within)))))

sources_balance : (setting : Setting) (rounds count : ℕ) → EveryFlowIsCounted → 0 < setting.g → count ≤ setting.endpoints → All IsBalanced (flat_map (counts_from setting rounds) (range_with_len 0 count))
sources_balance setting rounds zero counted some within = All-nil IsBalanced
sources_balance setting rounds (suc count) counted some within =
    let one : count + 1 ≡ suc count = omega arith in
    subst (λ (n : ℕ). All IsBalanced (flat_map (counts_from setting rounds) (range_with_len 0 n))) one
    (subst (All IsBalanced) (sym (sources_more setting rounds count))
    (All-append IsBalanced (flat_map (counts_from setting rounds) (range_with_len 0 count)) (counts_from setting rounds count) (sources_balance setting rounds count counted some (omega (arith, within))) (source_balances setting rounds count setting.endpoints counted some (omega (arith, within)) (omega arith))))

pub run_balances : (setting : Setting) (rounds : ℕ) → EveryFlowIsCounted → 0 < setting.g → SumsBalance (sums_of (counts_of_run setting rounds))
run_balances setting rounds counted some = sums_balance (counts_of_run setting rounds) (sources_balance setting rounds setting.endpoints counted some (omega arith))
