-- How many flows open in the stages that are left.
use Rattle.std.proofs.Common.{◌≡◌, ◌<◌, ◌≤◌, ◌+◌, ◌-◌, ◌*◌, ℕ, zero, suc, List, [], ◌∷◌, length, Some, slice_get, refl, sym, ap, ◌∙◌, subst, arith}
use Rattle.std.specs.Prelude.{slice_index_or}
use Rattle.std.proofs.lemmas.Nat.{mul-le}
use Rattle.greedy_rules.specs.declared.flows.Item.{Item}
use Rattle.greedy_rules.specs.Batches.{DemandBatch}
use Rattle.greedy_rules.specs.Demands.{opened}
use Rattle.greedy_rules.specs.Limits.{is_barred}
use Rattle.greedy_rules.specs.Room.{FlowsFitPairs}
use Rattle.greedy_rules.proofs.TableLemmas.{next_row}
use Rattle.slot_batches.specs.NextList.{EveryBatchKeepsItsFlows}
use Rattle.ring_core.specs.States.{WorkerState}
use Rattle.ring_core.specs.Windows.{Window, MayBePlayed, batch_of, first_slot_in, list_before_stage}
use Rattle.ring_core.specs.Workers.{own_stage}
use Rattle.ring_core.specs.Openings.{openings, own_openings, crew_openings}
use Rattle.ring_core.proofs.WindowLemmas.{first_list, one_list_on}

past : (batches : List DemandBatch) (at : ℕ) (d : DemandBatch) → length batches ≤ at → slice_index_or batches at d ≡ d
past [] at d over = refl
past (batch ∷ batches) zero d over = absurd (omega (arith, over))
past (batch ∷ batches) (suc at) d over = past batches at d (omega (arith, over))

pub own_more : (places at : ℕ) (batches : List DemandBatch) (workers stage : ℕ) → at < places
    → own_openings (places - at) batches workers stage ≡ openings batches stage + own_openings (places - (at + 1)) batches workers (stage + workers)
own_more places at batches workers stage below =
    let one : places - at ≡ suc (places - (at + 1)) = omega (arith, below) in
    ap (λ (n : ℕ). own_openings n batches workers stage) one

pub own_none : (places : ℕ) (batches : List DemandBatch) (workers stage : ℕ) → length batches ≤ stage → own_openings places batches workers stage ≡ 0
own_none zero batches workers stage over = refl
own_none (suc places) batches workers stage over =
    let none : openings batches stage ≡ 0 = ap (λ (batch : DemandBatch). length (opened batch.entries)) (past batches stage (record { entries = []; limits = record { hosts = 0; cores = 0 } }) over) in
    omega (arith, none, own_none places batches workers (stage + workers) (omega (arith, over)))

none_past : (batches : List DemandBatch) (stage : ℕ) → length batches ≤ stage → openings batches stage ≡ 0
none_past batches stage over = ap (λ (batch : DemandBatch). length (opened batch.entries)) (past batches stage (record { entries = []; limits = record { hosts = 0; cores = 0 } }) over)

-- in so many stages one after the other, from this one on
abbrev pub total : List DemandBatch → ℕ → ℕ → ℕ
total batches zero stage = 0
total batches (suc count) stage = openings batches stage + total batches count (stage + 1)

total_split : (batches : List DemandBatch) (a b stage : ℕ) → total batches (a + b) stage ≡ total batches a stage + total batches b (stage + a)
total_split batches zero b stage =
    let none = ap (λ (n : ℕ). total batches n stage) (let q : 0 + b ≡ b = omega arith in q) in
    let here = ap (total batches b) (let q : stage + 0 ≡ stage = omega arith in q) in
    omega (arith, none, here)
total_split batches (suc a) b stage =
    let more = ap (λ (n : ℕ). total batches n stage) (let q : suc a + b ≡ suc (a + b) = omega arith in q) in
    let on = ap (λ (n : ℕ). total batches b n) (let q : stage + 1 + a ≡ stage + suc a = omega arith in q) in
    omega (arith, more, total_split batches a b (stage + 1), on)

total_none : (batches : List DemandBatch) (count stage : ℕ) → length batches ≤ stage → total batches count stage ≡ 0
total_none batches zero stage over = refl
total_none batches (suc count) stage over = omega (arith, none_past batches stage over, total_none batches count (stage + 1) (omega (arith, over)))

-- stages past the last batch open nothing
own_stable : (batches : List DemandBatch) (workers places more stage : ℕ) → length batches ≤ places * workers + stage → own_openings (places + more) batches workers stage ≡ own_openings places batches workers stage
own_stable batches workers zero more stage over = own_none (0 + more) batches workers stage (omega (arith, over))
own_stable batches workers (suc places) more stage over =
    let one = ap (λ (n : ℕ). own_openings n batches workers stage) (let q : suc places + more ≡ suc (places + more) = omega arith in q) in
    let row = next_row places workers in
    let same = ap (λ (n : ℕ). n * workers) (let q : suc places ≡ places + 1 = omega arith in q) in
    omega (arith, one, own_stable batches workers places more (stage + workers) (omega (arith, over, row, same)))

own_enough : (batches : List DemandBatch) (workers a b stage : ℕ) → length batches ≤ a * workers + stage → length batches ≤ b * workers + stage → own_openings a batches workers stage ≡ own_openings b batches workers stage
own_enough batches workers a b stage one other =
    sym (own_stable batches workers a b stage one)
    ∙ (ap (λ (n : ℕ). own_openings n batches workers stage) (let q : a + b ≡ b + a = omega arith in q) ∙ own_stable batches workers b a stage other)

-- so many workers, from one on, each with so many places
abbrev pub block : List DemandBatch → ℕ → ℕ → ℕ → ℕ → ℕ
block batches workers places zero stage = 0
block batches workers places (suc count) stage = own_openings places batches workers stage + block batches workers places count (stage + 1)

block_none : (batches : List DemandBatch) (workers count stage : ℕ) → block batches workers 0 count stage ≡ 0
block_none batches workers zero stage = refl
block_none batches workers (suc count) stage = omega (arith, block_none batches workers count (stage + 1))

block_row : (batches : List DemandBatch) (workers places count stage : ℕ) → block batches workers (suc places) count stage ≡ total batches count stage + block batches workers places count (stage + workers)
block_row batches workers places zero stage = omega arith
block_row batches workers places (suc count) stage =
    let on = ap (λ (n : ℕ). block batches workers places count n) (let q : stage + 1 + workers ≡ stage + workers + 1 = omega arith in q) in
    omega (arith, block_row batches workers places count (stage + 1), on)

block_all : (batches : List DemandBatch) (workers places stage : ℕ) → block batches workers places workers stage ≡ total batches (places * workers) stage
block_all batches workers zero stage = block_none batches workers workers stage ∙ ap (λ (n : ℕ). total batches n stage) (let q : 0 ≡ 0 * workers = omega arith in q)
block_all batches workers (suc places) stage =
    let row : workers + places * workers ≡ suc places * workers = omega (arith, next_row places workers, ap (λ (n : ℕ). n * workers) (let q : suc places ≡ places + 1 = omega arith in q)) in
    let all = ap (λ (n : ℕ). total batches n stage) row in
    omega (arith, block_row batches workers places workers stage, block_all batches workers places (stage + workers), total_split batches workers (places * workers) stage, all)

-- the workers from one on, each with a stage for each of its batches
abbrev HaveStages : List DemandBatch → ℕ → ℕ → List WorkerState → Type 0
HaveStages batches workers from crew = (number : ℕ) (w : WorkerState) → slice_get crew number ≡ Some w → (w.workers ≡ workers) × (w.number ≡ from + number) × (length batches ≤ own_stage w.workers w.number (length w.stages))

crew_block : (batches : List DemandBatch) (workers from : ℕ) (crew : List WorkerState) → 0 < workers → HaveStages batches workers from crew → crew_openings batches crew ≡ block batches workers (length batches) (length crew) from
crew_block batches workers from [] some have = refl
crew_block batches workers from (w ∷ crew) some have =
    let it = have 0 w refl in
    let number_is : w.number ≡ from = omega (arith, it.1) in
    let wide : length batches ≤ length batches * workers + w.number = omega (arith, mul-le (length batches) 1 (length batches) workers (omega arith) (omega (arith, some))) in
    let here : own_openings (length w.stages) batches w.workers w.number ≡ own_openings (length batches) batches workers from =
    ap (λ (n : ℕ). own_openings (length w.stages) batches n w.number) it.0
    ∙ (own_enough batches workers (length w.stages) (length batches) w.number (subst (λ (n : ℕ). length batches ≤ own_stage n w.number (length w.stages)) it.0 it.2) wide
    ∙ ap (own_openings (length batches) batches workers) number_is) in
    let rest = crew_block batches workers (from + 1) crew some (λ number v is. let there = have (suc number) v is in (there.0, omega (arith, there.1), there.2)) in
    omega (arith, here, rest)

-- all the workers of a ring
pub crew_total : (batches : List DemandBatch) (workers : ℕ) (crew : List WorkerState) → 0 < workers → length crew ≡ workers → HaveStages batches workers 0 crew → crew_openings batches crew ≡ total batches (length batches) 0
crew_total batches workers crew some count have =
    let n : ℕ = length batches in
    let most : n * 1 ≤ n * workers = mul-le n 1 n workers (omega arith) (omega (arith, some)) in
    let left : ℕ = n * workers - n in
    let all : n + left ≡ n * workers = omega (arith, most) in
    let whole = ap (λ (m : ℕ). total batches m 0) all in
    let crewed = crew_block batches workers 0 crew some have ∙ ap (λ (m : ℕ). block batches workers n m 0) count in
    omega (arith, crewed, block_all batches workers n 0, whole, total_split batches n left 0, total_none batches left (0 + n) (omega arith))

-- the lists grow by them
pub list_grows : (window : Window) → EveryBatchKeepsItsFlows → (played : ℕ) → played ≤ length window.batches → length (list_before_stage window played) ≡ length window.list + total window.batches played 0
list_grows window keeps zero within = let q = ap length (first_list window) in omega (arith, q)
list_grows window keeps (suc played) within =
    let batch : DemandBatch = batch_of window played in
    let list : List Item = list_before_stage window played in
    let next : played + 1 ≡ suc played = omega arith in
    let here = ap (λ (n : ℕ). length (list_before_stage window n)) next in
    let one = ap length (one_list_on window played (omega (arith, within))) in
    let more = keeps (is_barred batch.limits) (first_slot_in window played) window.b batch.entries list in
    let last = ap (λ (n : ℕ). total window.batches n 0) next in
    let at = ap (total window.batches 1) (let q : 0 + played ≡ played = omega arith in q) in
    let this : total window.batches 1 played ≡ length (opened batch.entries) + 0 = refl in
    omega (arith, here, one, more, last, list_grows window keeps played (omega (arith, within)), total_split window.batches played 1 0, at, this)

pub crew_and_list : (window : Window) (crew : List WorkerState) → 0 < window.workers → length crew ≡ window.workers → HaveStages window.batches window.workers 0 crew → EveryBatchKeepsItsFlows
    → crew_openings window.batches crew + length window.list ≡ length (list_before_stage window (length window.batches))
crew_and_list window crew some count have keeps =
    omega (arith, crew_total window.batches window.workers crew some count have, list_grows window keeps (length window.batches) (omega arith))

-- and none has more items than there are flows
pub lists_fit : (endpoints : ℕ) (window : Window) → MayBePlayed endpoints window → EveryBatchKeepsItsFlows → FlowsFitPairs → length window.list ≤ endpoints * (endpoints - 1) → (stage : ℕ) → stage ≤ length window.batches
    → length (list_before_stage window stage) ≤ endpoints * (endpoints - 1)
lists_fit endpoints window may keeps pairs fits zero within = let q = ap length (first_list window) in omega (arith, q, fits)
lists_fit endpoints window may keeps pairs fits (suc stage) within =
    let applies = may.applies stage (omega (arith, within)) in
    let batch : DemandBatch = batch_of window stage in
    let list : List Item = list_before_stage window stage in
    let all = pairs endpoints batch.entries list applies.rises applies.opens applies.once applies.below applies.apart in
    let here = ap (λ (n : ℕ). length (list_before_stage window n)) (let q : stage + 1 ≡ suc stage = omega arith in q) in
    let one = ap length (one_list_on window stage (omega (arith, within))) in
    omega (arith, here, one, keeps (is_barred batch.limits) (first_slot_in window stage) window.b batch.entries list, all)
