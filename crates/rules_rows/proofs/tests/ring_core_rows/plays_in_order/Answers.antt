use Rattle.std.proofs.Common.{◌≡◌, ◌+◌, ◌*◌, List, [], length, refl, sym, ap, ◌∙◌, subst, arith}
use Rattle.std.proofs.lemmas.List.{length-replicate}
use Rattle.greedy_rules.specs.declared.flows.Flow.{Flow}
use Rattle.greedy_rules.specs.declared.limits.Limits.{Limits}
use Rattle.greedy_rules.specs.Batches.{DemandBatch}
use Rattle.greedy_rules.specs.Recorded.{AreRecorded}
use Rattle.greedy_rules.specs.Schedule.{first_slot}
use Rattle.ring_core.specs.Cores.{IsPlaying}
use Rattle.rules_rows.proofs.AskLemmas.{asks_apply, none_before}
use Rattle.rules_rows.proofs.tests.ring_core_rows.plays_in_order.Goals as goal

pub begin-requires-clause-rest : goal.begin-requires-clause-rest
begin-requires-clause-rest g c = c.in_ok-core.ensures.rest

pub begin-requires-clause-may : goal.begin-requires-clause-may
begin-requires-clause-may g c =
    let core = c.in_ok-core.core in
    let made = c.in_ok-core.ensures in
    let limits : Limits = record { hosts = 44; cores = 44 } in
    let count : length c.deref.result.now ≡ 3 = ap length c.deref.ensures.value ∙ c.in_ok-batches.ensures.count in
    let last : first_slot core.b (0 + length c.deref.result.now) ≡ 25 = λ i. first_slot (made.b i) (0 + count i) in
    let none = ap length c.in_ok-list.ensures.empty in
    record {
      few_endpoints = omega (arith, made.endpoints);
      count = omega (arith, count, made.batches);
      may = asks_apply core.endpoints core.b limits c.in_ok-list.list.items c.deref.result.now c.recorded_batches_may_be_applied.ensures.all made.endpoints c.in_ok-list.ensures.empty
          (subst (AreRecorded 132 limits) (sym c.deref.ensures.value) c.in_ok-batches.ensures.recorded);
      before = none_before (first_slot core.b 0) c.in_ok-list.list.items c.in_ok-list.ensures.empty;
      numbers = omega (arith, last);
      fits = omega (arith, none);
      room = omega (arith, none, made.room);
    }

pub loop-init : goal.loop-init
loop-init g c = record {
  playing = subst (λ (ds : List DemandBatch). IsPlaying ds c.begin.new.self) c.deref.ensures.value c.begin.ensures.playing;
  same = record { same_workers = refl; same_endpoints = refl; same_batches = refl; same_b = refl; same_room = refl };
}

pub loop-preserved : goal.loop-preserved
loop-preserved g c =
    let was = c.loop.invariant.same in
    let same = c.round.ensures.same in
    record {
      playing = subst (λ (ds : List DemandBatch). IsPlaying ds c.round.new.core) c.deref-in-loop.ensures.value c.round.ensures.playing;
      same = record {
        same_workers = same.same_workers ∙ was.same_workers;
        same_endpoints = same.same_endpoints ∙ was.same_endpoints;
        same_batches = same.same_batches ∙ was.same_batches;
        same_b = same.same_b ∙ was.same_b;
        same_room = same.same_room ∙ was.same_room;
      };
    }

pub round-requires-clause-playing : goal.round-requires-clause-playing
round-requires-clause-playing g c = subst (λ (ds : List DemandBatch). IsPlaying ds c.loop.core) (sym c.deref-in-loop.ensures.value) c.loop.invariant.playing

pub round-requires-clause-first : goal.round-requires-clause-first
round-requires-clause-first g c = omega (arith, c.requires.first, c.loop.invariant.same.same_workers, c.begin.ensures.same.same_workers, c.in_ok-core.ensures.workers)

pub round-requires-clause-second : goal.round-requires-clause-second
round-requires-clause-second g c = omega (arith, c.requires.second, c.loop.invariant.same.same_workers, c.begin.ensures.same.same_workers, c.in_ok-core.ensures.workers)

pub round-requires-clause-third : goal.round-requires-clause-third
round-requires-clause-third g c = omega (arith, c.requires.third, c.loop.invariant.same.same_workers, c.begin.ensures.same.same_workers, c.in_ok-core.ensures.workers)

pub take-requires-clause-finished : goal.take-requires-clause-finished
take-requires-clause-finished g c = c.finished.ensures.ended.0 c.if-assert.false

pub take-requires-clause-room : goal.take-requires-clause-room
take-requires-clause-room g c =
    let playing = c.loop.invariant.playing in
    let left = c.every_window_is_small.ensures.left c.in_ok-batches.batches.items c.loop.core playing in
    (c.in_ok-batches.batches.items, playing, omega (arith, left, c.begin.ensures.spare, c.in_ok-list.ensures.spare))

pub take-requires-clause-places : goal.take-requires-clause-places
take-requires-clause-places g c =
    let stages : c.loop.core.stages ≡ 3 = c.loop.invariant.playing.stages ∙ c.in_ok-batches.ensures.count in
    let b : c.loop.core.b ≡ 8 = c.loop.invariant.same.same_b ∙ (c.begin.ensures.same.same_b ∙ c.in_ok-core.ensures.b) in
    let none : List Flow = [] in
    let product : c.loop.core.stages * c.loop.core.b ≡ 24 = λ i. stages i * b i in
    omega (arith, product, ap length c.in_ok-out.ensures.slots, length-replicate 24 none)

pub take-requires-clause-serves : goal.take-requires-clause-serves
take-requires-clause-serves g c = omega (arith, c.in_ok-out.ensures.endpoints, c.loop.invariant.same.same_endpoints, c.begin.ensures.same.same_endpoints, c.in_ok-core.ensures.endpoints)
