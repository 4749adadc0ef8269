-- The text of batches with their slots, one after another.
use Rattle.std.proofs.Common.{◌≡◌, ◌<◌, ◌≤◌, ◌+◌, ◌-◌, ◌*◌, ℕ, suc, List, [], ◌∷◌, ◌++◌, length, get_or, take, drop, sym, ap, ◌∙◌, arith}
use Rattle.std.proofs.lemmas.List.{append-nil, append_assoc, take-take, take_all, length-take, drop-drop, drop-take, drop_more}
use Rattle.std.proofs.lemmas.List.Concat.{flat_map-append}
use Rattle.list_facts.proofs.Lists.{take_on}
use Rattle.list_facts.proofs.Numbers.{rows_on}
use Rattle.greedy_rules.specs.declared.flows.Flow.{Flow}
use Rattle.greedy_rules.specs.Batches.{DemandBatch}
use Rattle.greedy_rules.specs.Schedule.{schedule}
use Rattle.greedy_rules.proofs.FrontLemmas.{times_more}
use Rattle.clos_topology.specs.NetSlots.{SlotCores}
use Rattle.report_text.specs.declared.line.Line.{Line}
use Rattle.trace_text.specs.Trace.{TraceContent}
use Rattle.window_engine.specs.Batches.{plan_batches}
use Rattle.run_lines.specs.Text.{text_of, no_batch, batch_lines, line_text}
use Rattle.run_text.specs.PlanText.{batches_lines}
use Rattle.run_text.specs.Progress.{window_lines, rounds_lines}

batches_lines-append : (cores : SlotCores) (b k : ℕ) (xs ys : List DemandBatch) (slots : List (List Flow))
    → batches_lines cores b k (xs ++ ys) slots ≡ batches_lines cores b k xs (take (length xs * b) slots) ++ batches_lines cores b (k + length xs) ys (drop (length xs * b) slots)
batches_lines-append cores b k [] ys slots =
    let none : 0 * b ≡ 0 = omega arith in
    ap (λ (n : ℕ). batches_lines cores b n ys slots) (omega arith) ∙ ap (λ (n : ℕ). batches_lines cores b (k + 0) ys (drop n slots)) (sym none)
batches_lines-append cores b k (x ∷ xs) ys slots =
    let n : ℕ = length xs * b in
    let on : k + 1 + length xs ≡ k + suc (length xs) = omega arith in
    let all : suc (length xs) * b ≡ b + n = times_more (length xs) b in
    let own : List (List Flow) = take (suc (length xs) * b) slots in
    let first : take b own ≡ take b slots = take-take b (suc (length xs) * b) slots (omega arith) in
    let others : drop b own ≡ take n (drop b slots) = ap (λ (m : ℕ). drop b (take m slots)) all ∙ drop-take b n slots in
    let later : drop n (drop b slots) ≡ drop (suc (length xs) * b) slots = drop-drop n b slots ∙ ap (λ (m : ℕ). drop m slots) (sym all) in
    let tail : List Line = batches_lines cores b (k + suc (length xs)) ys (drop (suc (length xs) * b) slots) in
    ap (λ (ls : List Line). batch_lines cores b k x (take b slots) ++ ls)
    (batches_lines-append cores b (k + 1) xs ys (drop b slots)
    ∙ (ap (λ (xss : List (List Flow)). batches_lines cores b (k + 1) xs xss ++ batches_lines cores b (k + 1 + length xs) ys (drop n (drop b slots))) (sym others)
    ∙ (ap (λ (m : ℕ). batches_lines cores b (k + 1) xs (drop b own) ++ batches_lines cores b m ys (drop n (drop b slots))) on
    ∙ ap (λ (xss : List (List Flow)). batches_lines cores b (k + 1) xs (drop b own) ++ batches_lines cores b (k + suc (length xs)) ys xss) later)))
    ∙ (sym (append_assoc (batch_lines cores b k x (take b slots)) (batches_lines cores b (k + 1) xs (drop b own)) tail)
    ∙ ap (λ (xss : List (List Flow)). (batch_lines cores b k x xss ++ batches_lines cores b (k + 1) xs (drop b own)) ++ tail) (sym first))

pub front_more : (cores : SlotCores) (b j k n : ℕ) (batches : List DemandBatch) (slots : List (List Flow)) → k + n ≤ length batches
    → batches_lines cores b j (take (k + n) batches) (take ((k + n) * b) slots)
    ≡ batches_lines cores b j (take k batches) (take (k * b) slots) ++ batches_lines cores b (j + k) (take n (drop k batches)) (take (n * b) (drop (k * b) slots))
front_more cores b j k n batches slots within =
    let xs : List DemandBatch = take k batches in
    let ys : List DemandBatch = take n (drop k batches) in
    let here : List (List Flow) = take ((k + n) * b) slots in
    let count : length xs ≡ k = omega (arith, length-take k batches) in
    let size : length xs * b ≡ k * b = ap (λ (m : ℕ). m * b) count in
    let all : (k + n) * b ≡ k * b + n * b = rows_on k n b in
    let at : j + length xs ≡ j + k = omega arith in
    let first : take (k * b) here ≡ take (k * b) slots = take-take (k * b) ((k + n) * b) slots (omega arith) in
    let rest : drop (k * b) here ≡ take (n * b) (drop (k * b) slots) = ap (λ (m : ℕ). drop (k * b) (take m slots)) all ∙ drop-take (k * b) (n * b) slots in
    ap (λ (bs : List DemandBatch). batches_lines cores b j bs here) (take_on k n batches)
    ∙ (batches_lines-append cores b j xs ys here
    ∙ (ap (λ (m : ℕ). batches_lines cores b j xs (take m here) ++ batches_lines cores b (j + length xs) ys (drop m here)) size
    ∙ (ap (λ (m : ℕ). batches_lines cores b j xs (take (k * b) here) ++ batches_lines cores b m ys (drop (k * b) here)) at
    ∙ (ap (λ (s : List (List Flow)). batches_lines cores b j xs s ++ batches_lines cores b (j + k) ys (drop (k * b) here)) first
    ∙ ap (λ (s : List (List Flow)). batches_lines cores b j xs (take (k * b) slots) ++ batches_lines cores b (j + k) ys s) rest))))

pub rounds_more : (cores : SlotCores) (b k n : ℕ) (trace : TraceContent) → k + n ≤ length (plan_batches trace)
    → text_of (rounds_lines cores b (k + n) trace) ≡ text_of (rounds_lines cores b k trace) ++ text_of (window_lines cores b k n trace)
rounds_more cores b k n trace within =
    let same : 0 + k ≡ k = omega arith in
    let slots : List (List Flow) = schedule b (plan_batches trace) in
    ap text_of (front_more cores b 0 k n (plan_batches trace) slots within
    ∙ ap (λ (m : ℕ). rounds_lines cores b k trace ++ batches_lines cores b m (take n (drop k (plan_batches trace))) (take (n * b) (drop (k * b) slots))) same)
    ∙ flat_map-append line_text (rounds_lines cores b k trace) (window_lines cores b k n trace)

-- all rounds, of which these are done
pub rounds_whole : (cores : SlotCores) (b k n all : ℕ) (trace : TraceContent) → k + n ≤ all → all ≤ length (plan_batches trace)
    → text_of (rounds_lines cores b all trace) ≡ (text_of (rounds_lines cores b k trace) ++ text_of (window_lines cores b k n trace)) ++ text_of (window_lines cores b (k + n) (all - (k + n)) trace)
rounds_whole cores b k n all trace more within =
    let rest : ℕ = all - (k + n) in
    let parts : all ≡ (k + n) + rest = omega arith in
    ap (λ (m : ℕ). text_of (rounds_lines cores b m trace)) parts
    ∙ (rounds_more cores b (k + n) rest trace (omega arith)
    ∙ ap (λ (t : List ℕ). t ++ text_of (window_lines cores b (k + n) rest trace)) (rounds_more cores b k n trace (omega arith)))

-- one batch more of a step
one_batch : (cores : SlotCores) (b j k : ℕ) (batches : List DemandBatch) (slots : List (List Flow)) → k < length batches
    → batches_lines cores b (j + k) (take 1 (drop k batches)) (take (1 * b) (drop (k * b) slots)) ≡ batch_lines cores b (j + k) (get_or batches k no_batch) (take b (drop (k * b) slots))
one_batch cores b j k batches slots below =
    let none : DemandBatch = no_batch in
    let rest : List (List Flow) = drop (k * b) slots in
    let size : 1 * b ≡ b = omega arith in
    ap (λ (bs : List DemandBatch). batches_lines cores b (j + k) (take 1 bs) (take (1 * b) rest)) (drop_more batches k none below)
    ∙ (append-nil (batch_lines cores b (j + k) (get_or batches k none) (take b (take (1 * b) rest)))
    ∙ ap (batch_lines cores b (j + k) (get_or batches k none)) (ap (λ (m : ℕ). take b (take m rest)) size ∙ take-take b b rest (omega arith)))

pub batches_more : (cores : SlotCores) (b j k : ℕ) (batches : List DemandBatch) (slots : List (List Flow)) → k < length batches
    → text_of (batches_lines cores b j (take (k + 1) batches) (take ((k + 1) * b) slots))
    ≡ text_of (batches_lines cores b j (take k batches) (take (k * b) slots)) ++ text_of (batch_lines cores b (j + k) (get_or batches k no_batch) (take b (drop (k * b) slots)))
batches_more cores b j k batches slots below =
    let before : List Line = batches_lines cores b j (take k batches) (take (k * b) slots) in
    ap text_of (front_more cores b j k 1 batches slots (omega arith) ∙ ap (λ (ls : List Line). before ++ ls) (one_batch cores b j k batches slots below))
    ∙ flat_map-append line_text before (batch_lines cores b (j + k) (get_or batches k no_batch) (take b (drop (k * b) slots)))

pub batches_whole : (cores : SlotCores) (b j k : ℕ) (batches : List DemandBatch) (slots : List (List Flow)) → k < length batches → length slots ≡ length batches * b
    → text_of (batches_lines cores b j batches slots)
    ≡ (text_of (batches_lines cores b j (take k batches) (take (k * b) slots)) ++ text_of (batch_lines cores b (j + k) (get_or batches k no_batch) (take b (drop (k * b) slots))))
    ++ text_of (batches_lines cores b (j + (k + 1)) (take (length batches - (k + 1)) (drop (k + 1) batches)) (take ((length batches - (k + 1)) * b) (drop ((k + 1) * b) slots)))
batches_whole cores b j k batches slots below long =
    let n : ℕ = length batches in
    let size : ℕ = n * b in
    let rest : ℕ = n - (k + 1) in
    let parts : n ≡ (k + 1) + rest = omega arith in
    let all_batches : batches ≡ take n batches = sym (take_all n batches (omega arith)) in
    let all_slots : slots ≡ take size slots = sym (take_all size slots (omega arith)) in
    let later : List Line = batches_lines cores b (j + (k + 1)) (take rest (drop (k + 1) batches)) (take (rest * b) (drop ((k + 1) * b) slots)) in
    ap (λ (bs : List DemandBatch). text_of (batches_lines cores b j bs slots)) all_batches
    ∙ (ap (λ (xs : List (List Flow)). text_of (batches_lines cores b j (take n batches) xs)) all_slots
    ∙ (ap (λ (m : ℕ). text_of (batches_lines cores b j (take m batches) (take (m * b) slots))) parts
    ∙ (ap text_of (front_more cores b j (k + 1) rest batches slots (omega arith))
    ∙ (flat_map-append line_text (batches_lines cores b j (take (k + 1) batches) (take ((k + 1) * b) slots)) later
    ∙ ap (λ (t : List ℕ). t ++ text_of later) (batches_more cores b j k batches slots below)))))
