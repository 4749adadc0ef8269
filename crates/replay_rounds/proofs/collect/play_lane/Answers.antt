use Rattle.std.proofs.Common.{◌≡◌, ◌+◌, ◌<◌, ℕ, List, length, map, sym, ap, ◌∙◌, subst, refl, arith}
use Rattle.std.specs.List.{slice_index_or}
use Rattle.std.proofs.lemmas.List.{length-set, take_all}
use Rattle.std.proofs.lemmas.List.FromFn.{get_or-map-range_with_len, length-map-range_with_len}
use Rattle.greedy_rules.specs.Batches.{IsAboveLast}
use Rattle.clos_topology.specs.NetSlots.{SlotCores}
use Rattle.replay_rounds.specs.Standing.{LaneStands}
use Rattle.replay_rounds.specs.Collecting.{named_in, published_by, raw_part, run_told, with_endpoint, MayBeTold, MayPlayLane, RawPart, RoundPart}
use Rattle.list_facts.proofs.Turns.{left_at, done_more, left_more}
use Rattle.replay_rounds.proofs.collect.play_lane.Goals as goal

pub loop-at-init : goal.loop-at-init
loop-at-init c = record {
  many = search;
  left = search;
  stands = λ cores begun.
      let setting = run_told c.args.window.now cores in
      let none : c.args.window.now.first ≡ c.args.window.now.first + 0 = omega arith in
      subst (λ (k : ℕ). LaneStands setting k (published_by c.args.window.now.publisher.now) c.args.endpoint c.count_lane.new.lane) none
      (c.count_lane.ensures.stands setting c.args.window.now.first begun.may.may.published begun.stands);
  played = λ cores begun. search;
}

pub bounds-raws-at : goal.bounds-raws-at
bounds-raws-at c =
    let (cores, begun) = c.requires.may in
    let window = c.args.window.now in
    let wide : length c.args.raws.now ≡ window.count = ap length begun.read ∙ length-map-range_with_len (raw_part window.trace.now) window.first window.count in
    omega (arith, wide, begun.many, c.loop-at-test.true, c.loop-at.invariant.many)

pub play-requires-clause-may : goal.play-requires-clause-may
play-requires-clause-may c =
    let i = c.loop-at.at in
    let d : RoundPart = c.index-rounds-at.result in
    let window = c.args.window.now in
    let rounds = c.loop-at.rounds in
    let (cores, begun) = c.requires.may in
    let within : i < length c.args.rounds.now = omega (arith, c.loop-at-test.true, c.loop-at.invariant.many) in
    let same : slice_index_or rounds i d ≡ slice_index_or c.args.rounds.now i d = left_at rounds c.args.rounds.now i d c.loop-at.invariant.left in
    let number : (slice_index_or rounds i d).round ≡ window.first + i = ap (λ (p : RoundPart). p.round) same ∙ begun.rounds i d within in (
      cores,
      subst (λ (k : ℕ). MayBeTold window.trace.now window.g cores window.publisher.now k) (sym number) (begun.may.may.told (window.first + i) (omega arith) (omega (arith, within, begun.many))),
      subst (λ (k : ℕ). LaneStands (run_told window cores) k (published_by window.publisher.now) c.args.endpoint c.loop-at.lane) (sym number) (c.loop-at.invariant.stands cores begun),
    )

pub play-requires-clause-named : goal.play-requires-clause-named
play-requires-clause-named c =
    let i = c.loop-at.at in
    let d : RoundPart = c.index-rounds-at.result in
    let window = c.args.window.now in
    let rounds = c.loop-at.rounds in
    let (cores, begun) = c.requires.may in
    let within : i < length c.args.rounds.now = omega (arith, c.loop-at-test.true, c.loop-at.invariant.many) in
    let same : slice_index_or rounds i d ≡ slice_index_or c.args.rounds.now i d = left_at rounds c.args.rounds.now i d c.loop-at.invariant.left in
    let number : (slice_index_or rounds i d).round ≡ window.first + i = ap (λ (p : RoundPart). p.round) same ∙ begun.rounds i d within in
    let raw : RawPart = c.index-raws-at.result in
    let of_round : raw ≡ raw_part window.trace.now (window.first + i) =
    c.index-raws-at.is ∙ (ap (λ (raws : List RawPart). slice_index_or raws i raw) begun.read
    ∙ get_or-map-range_with_len (raw_part window.trace.now) window.first window.count i (window.first + i) raw (omega (arith, within, begun.many)) refl) in
    ap (λ (r : RawPart). r.named) of_round ∙ ap (named_in window.trace.now) (sym number)

pub play-requires-clause-above : goal.play-requires-clause-above
play-requires-clause-above c =
    let i = c.loop-at.at in
    let d : RoundPart = c.index-rounds-at.result in
    subst (λ (p : RoundPart). IsAboveLast p.batch.entries (record { src = c.args.endpoint; dst = 0 }))
    (sym (left_at c.loop-at.rounds c.args.rounds.now i d c.loop-at.invariant.left)) (c.requires.above i d (omega (arith, c.loop-at-test.true, c.loop-at.invariant.many)))

pub loop-at-preserved : goal.loop-at-preserved
loop-at-preserved c =
    let i = c.loop-at.at in
    let d : RoundPart = c.index-rounds-at.result in
    let window = c.args.window.now in
    let trace = window.trace.now in
    let endpoint = c.args.endpoint in
    let published = published_by window.publisher.now in
    let rounds = c.loop-at.rounds in
    let first = c.args.rounds.now in
    let inv = c.loop-at.invariant in
    let within : i < length first = omega (arith, c.loop-at-test.true, inv.many) in
    let below : i < length rounds = omega (arith, within, inv.many) in
    let same : slice_index_or rounds i d ≡ slice_index_or first i d = left_at rounds first i d inv.left in
    let number : (cores : SlotCores) → MayPlayLane window cores endpoint c.args.raws.now c.args.lane.now first → (slice_index_or rounds i d).round ≡ window.first + i =
    λ cores begun. ap (λ (p : RoundPart). p.round) same ∙ begun.rounds i d within in
    let told : (cores : SlotCores) → MayPlayLane window cores endpoint c.args.raws.now c.args.lane.now first → MayBeTold trace window.g cores window.publisher.now (slice_index_or rounds i d).round =
    λ cores begun. subst (λ (k : ℕ). MayBeTold trace window.g cores window.publisher.now k) (sym (number cores begun)) (begun.may.may.told (window.first + i) (omega arith) (omega (arith, within, begun.many))) in
    let stood : (cores : SlotCores) → MayPlayLane window cores endpoint c.args.raws.now c.args.lane.now first → LaneStands (run_told window cores) (slice_index_or rounds i d).round published endpoint c.loop-at.lane =
    λ cores begun. subst (λ (k : ℕ). LaneStands (run_told window cores) k published endpoint c.loop-at.lane) (sym (number cores begun)) (inv.stands cores begun) in
    record {
      many = length-set rounds i c.play.new.self ∙ inv.many;
      left = left_more rounds first i c.play.new.self below within inv.left;
      stands = λ cores begun.
          let next : (slice_index_or rounds i d).round + 1 ≡ window.first + (i + 1) = omega (arith, number cores begun) in
          subst (λ (k : ℕ). LaneStands (run_told window cores) k published endpoint c.play.new.lane) next
          (c.in_ok-play.ensures.lane cores (told cores begun) (stood cores begun));
      played = λ cores begun.
          done_more (with_endpoint (run_told window cores) trace endpoint) rounds first i d c.play.new.self below within (inv.played cores begun) inv.left
          (c.in_ok-play.ensures.part cores (told cores begun) (stood cores begun));
    }

pub returns-clause-lane : goal.returns-clause-lane
returns-clause-lane c = λ cores begun.
    let window = c.args.window.now in
    let end : window.first + c.loop-at.at ≡ window.first + window.count = omega (arith, begun.many, c.loop-at-test.false) in
    subst (λ (k : ℕ). LaneStands (run_told window cores) k (published_by window.publisher.now) c.args.endpoint c.loop-at.lane) end (c.loop-at.invariant.stands cores begun)

pub returns-clause-rounds : goal.returns-clause-rounds
returns-clause-rounds c = λ cores begun.
    let i = c.loop-at.at in
    let window = c.args.window.now in
    let inv = c.loop-at.invariant in
    sym (take_all i c.loop-at.rounds (omega (arith, inv.many, c.loop-at-test.false)))
    ∙ (inv.played cores begun ∙ ap (map (with_endpoint (run_told window cores) window.trace.now c.args.endpoint)) (take_all i c.args.rounds.now (omega (arith, c.loop-at-test.false))))
