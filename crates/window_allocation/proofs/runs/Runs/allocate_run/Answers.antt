use Rattle.std.proofs.Common.{◌≡◌, ◌≤◌, ◌+◌, ◌*◌, ℕ, List, [], length, take, replicate, true, false, refl, sym, ap, ◌∙◌, subst, arith}
use Rattle.std.proofs.lemmas.Nat.{mul-le}
use Rattle.std.proofs.lemmas.Bool.{both_ways}
use Rattle.std.proofs.lemmas.List.{length-take-le}
use Rattle.greedy_rules.specs.declared.flows.Flow.{Flow}
use Rattle.greedy_rules.specs.declared.flows.Item.{Item}
use Rattle.greedy_rules.specs.Schedule.{schedule_from}
use Rattle.window_allocation.specs.Idle.{AreIdle}
use Rattle.window_allocation.proofs.IdleLemmas.{idle_stay, places_stay}
use Rattle.window_allocation.proofs.RunLemmas.{run_may, run_room}
use Rattle.window_allocation.proofs.runs.Runs.allocate_run.Goals as goal

pub returns-then-idle-gt0-clause-list : goal.returns-then-idle-gt0-clause-list
returns-then-idle-gt0-clause-list g c =
    let list : List Item = c.args.list.now.items in
    let front = take c.count_idle-idle.result c.args.batches.now in
    let idle = subst (λ (xs : List Item). AreIdle xs front) c.items.ensures c.count_idle-idle.ensures.idle in
    sym (idle_stay c.args.self.now.ring.b c.args.first_batch list front c.idle_lists_stay.ensures c.requires.may.before.in_order idle).1

pub returns-then-idle-gt0-clause-slots : goal.returns-then-idle-gt0-clause-slots
returns-then-idle-gt0-clause-slots g c =
    let list : List Item = c.args.list.now.items in
    let none : List Flow = [] in
    let b : ℕ = c.args.self.now.ring.b in
    let count : ℕ = c.count_idle-idle.result in
    let front = take count c.args.batches.now in
    let idle = subst (λ (xs : List Item). AreIdle xs front) c.items.ensures c.count_idle-idle.ensures.idle in
    let long : length front ≡ count = length-take-le count c.args.batches.now c.count_idle-idle.ensures.count in
    let fits : (c.args.passed + count) * b ≤ length c.args.out.now.slots = omega (arith, mul-le (c.args.passed + count) b (c.args.passed + length c.args.batches.now) b (omega (arith, c.count_idle-idle.ensures.count)) (omega arith), c.requires.places) in
    places_stay c.args.passed count b c.args.out.now.slots (schedule_from b c.args.first_batch list front) fits c.requires.empty
    ((idle_stay b c.args.first_batch list front c.idle_lists_stay.ensures c.requires.may.before.in_order idle).0 ∙ ap (λ (n : ℕ). replicate (n * b) none) long)

pub allocate_behind-requires-clause-may : goal.allocate_behind-requires-clause-may
allocate_behind-requires-clause-may g c κs within =
    let ring = c.args.self.now.ring in
    let list : List Item = c.args.list.now.items in
    let batches = c.args.batches.now in
    let run : ℕ = c.count_run-run.result in
    let first : ℕ = c.args.first_batch in
    let may = c.requires.may in
    let long : length (take run batches) ≡ run = length-take-le run batches c.count_run-run.ensures.count in
    let fewer : length (take run batches) ≤ length batches = omega (arith, long, c.count_run-run.ensures.count) in
    record {
      count = omega (arith, fewer, may.count);
      may = run_may ring.endpoints ring.b first run list batches may.may;
      before = may.before;
      numbers = omega (arith, mul-le (first + length (take run batches)) ring.b (first + length batches) ring.b (omega (arith, fewer)) (omega arith), may.numbers);
      fits = may.fits;
      room = omega (arith, run_room ring.b first run list batches c.schedules_go_on.ensures.more c.every_batch_leaves_a_list.ensures.flows, may.room);
      serves = may.serves;
      places = omega (arith, mul-le (length (take run batches)) ring.b (length batches) ring.b fewer (omega arith), may.places);
    }

pub returns-then-idle-gt0-clause-played : goal.returns-then-idle-gt0-clause-played
returns-then-idle-gt0-clause-played g c =
    let list : List Item = c.args.list.now.items in
    let front = take c.count_idle-idle.result c.args.batches.now in
    let idle = subst (λ (xs : List Item). AreIdle xs front) c.items.ensures c.count_idle-idle.ensures.idle in
    record {
      part = record { batches = front; to_ring = false };
      are = refl;
      passed = λ _. idle.no_entries;
      given = sym (idle_stay c.args.self.now.ring.b c.args.first_batch list front c.idle_lists_stay.ensures c.requires.may.before.in_order idle).0;
      moved = refl;
    }

pub returns-clause-played : goal.returns-clause-played
returns-clause-played g c = record {
  part = record { batches = take c.count_run-run.result c.args.batches.now; to_ring = true };
  are = refl;
  passed = λ not. absurd (both_ways _ not refl);
  given = refl;
  moved = c.allocate_behind.ensures.allocates.moved;
}
