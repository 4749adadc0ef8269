use Rattle.std.proofs.Common.{◌≡◌, ◌+◌, ◌*◌, List, [], length, sym, ap, ◌∙◌, subst, arith}
use Rattle.std.proofs.lemmas.List.{length-replicate}
use Rattle.greedy_rules.specs.declared.flows.Flow.{Flow}
use Rattle.greedy_rules.specs.declared.limits.Limits.{Limits}
use Rattle.greedy_rules.specs.Batches.{DemandBatch}
use Rattle.greedy_rules.specs.Recorded.{AreRecorded}
use Rattle.greedy_rules.specs.Schedule.{first_slot}
use Rattle.ring_core.specs.Cores.{IsPlaying}
use Rattle.rules_rows.proofs.AskLemmas.{asks_apply, none_before}
use Rattle.rules_rows.proofs.tests.ring_core_rows.two_workers_take_forty_six_turns.Goals as goal

pub begin-requires-clause-rest : goal.begin-requires-clause-rest
begin-requires-clause-rest g c = c.in_ok-core.ensures.rest

pub begin-requires-clause-may : goal.begin-requires-clause-may
begin-requires-clause-may g c =
    let core = c.in_ok-core.core in
    let made = c.in_ok-core.ensures in
    let limits : Limits = record { hosts = 44; cores = 44 } in
    let count : length c.deref.result.now ≡ 8 = ap length c.deref.ensures.value ∙ c.in_ok-batches.ensures.count in
    let last : first_slot core.b (0 + length c.deref.result.now) ≡ 65 = λ i. first_slot (made.b i) (0 + count i) in
    let none = ap length c.in_ok-list.ensures.empty in
    record {
      few_endpoints = omega (arith, made.endpoints);
      count = omega (arith, count, made.batches);
      may = asks_apply core.endpoints core.b limits c.in_ok-list.list.items c.deref.result.now c.recorded_batches_may_be_applied.ensures.all made.endpoints c.in_ok-list.ensures.empty
          (subst (AreRecorded 132 limits) (sym c.deref.ensures.value) c.in_ok-batches.ensures.recorded);
      before = none_before (first_slot core.b 0) c.in_ok-list.list.items c.in_ok-list.ensures.empty;
      numbers = omega (arith, last);
      fits = omega (arith, none);
      room = omega (arith, none, made.room);
    }

pub run_out-requires-clause-playing : goal.run_out-requires-clause-playing
run_out-requires-clause-playing g c = subst (λ (ds : List DemandBatch). IsPlaying ds c.begin.new.self) (c.deref.ensures.value ∙ sym c.deref-2.ensures.value) c.begin.ensures.playing

pub run_out-requires-clause-begun : goal.run_out-requires-clause-begun
run_out-requires-clause-begun g c = c.begin.ensures.begun

pub run_out-requires-clause-room : goal.run_out-requires-clause-room
run_out-requires-clause-room g c =
    let playing : IsPlaying c.deref-2.result.now c.begin.new.self = subst (λ (ds : List DemandBatch). IsPlaying ds c.begin.new.self) (c.deref.ensures.value ∙ sym c.deref-2.ensures.value) c.begin.ensures.playing in
    c.every_window_is_small.ensures.room c.deref-2.result.now c.begin.new.self playing (omega (arith, c.begin.ensures.same.same_room, c.in_ok-core.ensures.room))

pub take-requires-clause-finished : goal.take-requires-clause-finished
take-requires-clause-finished g c = c.run_out.ensures.finished

pub take-requires-clause-room : goal.take-requires-clause-room
take-requires-clause-room g c =
    let left = c.every_window_is_small.ensures.left c.deref-2.result.now c.run_out.new.self c.run_out.ensures.playing in
    (c.deref-2.result.now, c.run_out.ensures.playing, omega (arith, left, c.begin.ensures.spare, c.in_ok-list.ensures.spare))

pub take-requires-clause-places : goal.take-requires-clause-places
take-requires-clause-places g c =
    let stages : c.run_out.new.self.stages ≡ 8 = c.run_out.ensures.playing.stages ∙ (ap length c.deref-2.ensures.value ∙ c.in_ok-batches.ensures.count) in
    let b : c.run_out.new.self.b ≡ 8 = c.run_out.ensures.same.same_b ∙ (c.begin.ensures.same.same_b ∙ c.in_ok-core.ensures.b) in
    let none : List Flow = [] in
    let product : c.run_out.new.self.stages * c.run_out.new.self.b ≡ 64 = λ i. stages i * b i in
    omega (arith, product, ap length c.in_ok-out.ensures.slots, length-replicate 64 none)

pub take-requires-clause-serves : goal.take-requires-clause-serves
take-requires-clause-serves g c = omega (arith, c.in_ok-out.ensures.endpoints, c.run_out.ensures.same.same_endpoints, c.begin.ensures.same.same_endpoints, c.in_ok-core.ensures.endpoints)
