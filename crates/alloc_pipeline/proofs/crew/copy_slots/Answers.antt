use Rattle.std.proofs.Common.{◌≡◌, ◌<◌, ◌≤◌, ◌+◌, ◌-◌, ◌*◌, ◌%◌, ℕ, List, [], ◌++◌, length, take, drop, replicate, refl, sym, ap, ◌∙◌, subst, arith}
use Rattle.std.proofs.lemmas.Nat.{mul-le}
use Rattle.std.proofs.lemmas.List.{take_all}
use Rattle.greedy_rules.specs.declared.flows.Flow.{Flow}
use Rattle.greedy_rules.specs.Schedule.{schedule_from}
use Rattle.greedy_rules.proofs.TableLemmas.{next_row}
use Rattle.ring_core.specs.States.{WorkerState}
use Rattle.ring_core.specs.Windows.{Window, slots_of_stage}
use Rattle.ring_core.proofs.TakeLemmas.{scheduled_behind, none_copied, stage_copied}
use Rattle.alloc_pipeline.specs.Crews.{HavePlayedOut}
use Rattle.alloc_pipeline.proofs.Copied.{ring_of, worker_here, ended_stage}
use Rattle.alloc_pipeline.proofs.crew.copy_slots.Goals as goal

pub slots-requires : goal.slots-requires
slots-requires c =
    let p = c.requires.played in
    let window : Window = p.2 in
    let all = p.3 in
    let stage : ℕ = c.loop-stage.stage in
    let v : WorkerState = c.index-workers-stage.result in
    let here = worker_here window.workers (length c.args.workers.now) stage c.args.workers.now v all.some all.count all.count c.index-workers-stage.is in
    let out = all.played (stage % window.workers) v here in
    let it = all.crewed (stage % window.workers) v here in
    let below : stage < length window.batches = omega (arith, c.loop-stage-test.true, all.stages_are) in
    (window.batches, out.ends, out.plays, ended_stage window stage v out below it.number_is it.workers_is)

pub copy-requires-clause-endpoints : goal.copy-requires-clause-endpoints
copy-requires-clause-endpoints c =
    let p = c.requires.played in
    let window : Window = p.2 in
    let all = p.3 in
    let stage : ℕ = c.loop-stage.stage in
    let v : WorkerState = c.index-workers-stage.result in
    let here = worker_here window.workers (length c.args.workers.now) stage c.args.workers.now v all.some all.count all.count c.index-workers-stage.is in
    let it = all.crewed (stage % window.workers) v here in
    let serves = p.4 in
    omega (arith, c.slots.ensures.endpoints, it.endpoints_is, serves, c.loop-stage.invariant.endpoints)

pub copy-requires-clause-places : goal.copy-requires-clause-places
copy-requires-clause-places c =
    let p = c.requires.played in
    let window : Window = p.2 in
    let all = p.3 in
    let stage : ℕ = c.loop-stage.stage in
    let v : WorkerState = c.index-workers-stage.result in
    let here = worker_here window.workers (length c.args.workers.now) stage c.args.workers.now v all.some all.count all.count c.index-workers-stage.is in
    let it = all.crewed (stage % window.workers) v here in
    let place : ℕ = c.args.passed + stage in
    let most = mul-le (place + 1) c.args.b (c.args.passed + c.args.stages) c.args.b (omega (arith, c.loop-stage-test.true)) (omega arith) in
    omega (arith, c.slots.ensures.count, it.b_is, next_row place c.args.b, most, c.requires.places, c.loop-stage.invariant.places)

pub loop-stage-init : goal.loop-stage-init
loop-stage-init c =
    let none : List Flow = [] in
    let passed : ℕ = c.args.passed in
    let slots : List (List Flow) = c.args.out.now.slots in
    let fits : passed * c.args.b ≤ length slots = omega (arith, mul-le passed c.args.b (passed + c.args.stages) c.args.b (omega arith) (omega arith), c.requires.places) in
    let before = λ (endpoints most : ℕ) (window : Window) (all : HavePlayedOut endpoints most c.args.b c.args.stages window c.args.workers.now).
    none_copied passed window.batches (ring_of window) slots (subst (λ (n : ℕ). passed * n ≤ length slots) (sym all.b_is) fits)
    (subst (λ (n : ℕ). drop (passed * n) slots ≡ replicate (length slots - passed * n) none) (sym all.b_is) c.requires.empty) in
    record {
      slots = λ endpoints most window all. (before endpoints most window all).0;
      count = λ endpoints most window all. (before endpoints most window all).1;
      places = refl;
      endpoints = refl;
    }

pub loop-stage-preserved : goal.loop-stage-preserved
loop-stage-preserved c =
    let was = c.loop-stage.invariant in
    let stage : ℕ = c.loop-stage.stage in
    let v : WorkerState = c.index-workers-stage.result in
    let passed : ℕ = c.args.passed in
    let slots : List (List Flow) = c.args.out.now.slots in
    let most = mul-le (passed + stage + 1) c.args.b (passed + c.args.stages) c.args.b (omega (arith, c.loop-stage-test.true)) (omega arith) in
    let copied = λ (endpoints most_batches : ℕ) (window : Window) (all : HavePlayedOut endpoints most_batches c.args.b c.args.stages window c.args.workers.now).
    let here = worker_here window.workers (length c.args.workers.now) stage c.args.workers.now v all.some all.count all.count c.index-workers-stage.is in
    let out = all.played (stage % window.workers) v here in
    let it = all.crewed (stage % window.workers) v here in
    let fits : (passed + stage + 1) * window.b ≤ length slots = omega (arith, ap (λ (n : ℕ). (passed + stage + 1) * n) all.b_is, most, c.requires.places) in
    stage_copied (take (passed * window.b) slots) passed window.batches (ring_of window) stage c.slots.result.now.slots c.loop-stage.out.slots c.copy.new.self.slots ((passed + stage) * c.args.b) (length slots) (omega (arith, c.loop-stage-test.true, all.stages_are))
    (c.slots.ensures.slots window.batches out.ends out.plays ∙ ap (λ (w : Window). slots_of_stage w stage) out.in_window) (c.slots.ensures.count ∙ (it.b_is ∙ sym all.b_is)) (ap (λ (n : ℕ). (passed + stage) * n) (sym all.b_is)) fits
    (was.slots endpoints most_batches window all) (was.count endpoints most_batches window all) c.copy.ensures.slots in
    let p = c.requires.played in
    record {
      slots = λ endpoints most_batches window all. (copied endpoints most_batches window all).0;
      count = λ endpoints most_batches window all. (copied endpoints most_batches window all).1;
      places = (copied p.0 p.1 p.2 p.3).2;
      endpoints = c.copy.ensures.endpoints ∙ was.endpoints;
    }

pub returns-clause-slots : goal.returns-clause-slots
returns-clause-slots c = λ endpoints most window all.
    let none : List Flow = [] in
    let passed : ℕ = c.args.passed in
    let slots : List (List Flow) = c.args.out.now.slots in
    let at : c.loop-stage.stage ≡ c.args.stages = omega (arith, c.loop-stage-test.false, c.loop-stage.auto.stage-end) in
    let whole : take c.args.stages window.batches ≡ window.batches = take_all c.args.stages window.batches (omega (arith, all.stages_are)) in
    c.loop-stage.invariant.slots endpoints most window all
    ∙ (ap (λ (n : ℕ). scheduled_behind (take (passed * window.b) slots) window.batches (ring_of window) n ++ replicate (length slots - (passed + n) * window.b) none) at
    ∙ (λ i. (take (passed * all.b_is i) slots ++ schedule_from (all.b_is i) window.first_batch window.list (whole i)) ++ replicate (length slots - (passed + c.args.stages) * all.b_is i) none))
