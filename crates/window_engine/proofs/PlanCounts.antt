-- What a plan comes to for each flow.
use Rattle.std.proofs.Common.{◌≡◌, ◌+◌, ◌*◌, ℕ, List, [], ◌∷◌, drop, false, refl, ap, arith}
use Rattle.std.proofs.lemmas.List.Sums.{sum_by-cons}
use Rattle.std.proofs.lemmas.List.Elements.{All-head, All-tail}
use Rattle.greedy_rules.specs.declared.flows.Flow.{Flow}
use Rattle.greedy_rules.specs.Batches.{DemandBatch, entry_of}
use Rattle.greedy_rules.specs.Demands.{item_of, need_in}
use Rattle.greedy_rules.specs.Allocation.{slots_of}
use Rattle.greedy_rules.specs.Schedule.{schedule, rest}
use Rattle.greedy_rules.specs.Balance.{AreInOrder, clears, added_by, added_of, NoneClears, EveryScheduleBalances}
use Rattle.greedy_rules.proofs.RecordedLemmas.{first_need}
use Rattle.trace_text.specs.Trace.{TraceContent}
use Rattle.trace_text.specs.Valid.{IsTrace}
use Rattle.plan_rounds.specs.Asked.{EveryPlanAddsWhatIsAsked}
use Rattle.plan_rounds.specs.Batches.{plan_batches}
use Rattle.window_engine.specs.Counts.{AllIsAllocatedOrPending}

balanced : (b : ℕ) (batches : List DemandBatch) (flow : Flow) → EveryScheduleBalances → AreInOrder [] batches → NoneClears flow batches
    → added_of flow batches ≡ slots_of flow (schedule b batches) + need_in (item_of (rest b batches) flow)
balanced b [] flow law order none = refl
balanced b (batch ∷ later) flow law order none =
    let Keeps : DemandBatch → Type 0 = λ x. clears (entry_of x.entries flow) ≡ false in
    let start : 0 * b ≡ 0 = omega arith in
    let sum = law b [] batch later flow order (All-tail Keeps batch later none) in
    let first = first_need (entry_of batch.entries flow) (All-head Keeps batch later none) in
    omega (
      arith,
      sum,
      ap (λ (n : ℕ). slots_of flow (drop n (schedule b (batch ∷ later)))) start,
      first,
      sum_by-cons (λ (x : DemandBatch). added_by (entry_of x.entries flow)) batch later,
    )

pub plan_balances : (b : ℕ) (trace : TraceContent) → EveryScheduleBalances → EveryPlanAddsWhatIsAsked → IsTrace trace → AreInOrder [] (plan_batches trace)
    → AllIsAllocatedOrPending b (plan_batches trace)
plan_balances b trace law adds sound order flow = balanced b (plan_batches trace) flow law order (adds trace flow sound).kept
