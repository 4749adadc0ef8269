use Rattle.std.proofs.Common.{◌≡◌, ◌+◌, ◌<◌, ℕ, List, length, map, All, sym, ap, ◌∙◌, subst, arith, inl, inr}
use Rattle.std.specs.List.{range_with_len, slice_index_or}
use Rattle.std.proofs.lemmas.Bool.{cases_eq}
use Rattle.std.proofs.lemmas.List.{get_or-set_other, length-set}
use Rattle.std.proofs.lemmas.List.FromFn.{length-map-range_with_len}
use Rattle.std.proofs.lemmas.Grind.{get_or-set_at}
use Rattle.greedy_rules.specs.Batches.{IsAboveLast}
use Rattle.clos_topology.specs.NetSlots.{SlotCores}
use Rattle.lane_rounds.specs.State.{RoundsState}
use Rattle.replay_rounds.specs.Standing.{LaneStands}
use Rattle.replay_rounds.specs.Collecting.{round_part, published_by, run_told, with_endpoint, AreRoundsFrom, MayPlayLane, MayPlayLanes, RoundPart}
use Rattle.replay_rounds.proofs.PartLemmas.{parts_above, parts_from, parts_more}
use Rattle.replay_rounds.proofs.collect.play_lanes.Goals as goal

pub overflow_cast-endpoint : goal.overflow_cast-endpoint
overflow_cast-endpoint c =
    let (cores, begun) = c.requires.may in
    omega (arith, begun.within, begun.may.few_endpoints, c.loop-at-test.true, c.loop-at.invariant.many)

pub overflow_add-endpoint : goal.overflow_add-endpoint
overflow_add-endpoint c =
    let (cores, begun) = c.requires.may in
    omega (arith, begun.within, begun.may.few_endpoints, c.loop-at-test.true, c.loop-at.invariant.many)

pub play_lane-requires-clause-may : goal.play_lane-requires-clause-may
play_lane-requires-clause-may c =
    let inv = c.loop-at.invariant in
    let at = c.loop-at.at in
    let window = c.args.window.now in
    let lanes = c.loop-at.lanes in
    let (cores, begun) = c.requires.may in
    let setting = run_told window cores in
    let below : at < length c.args.lanes.now = omega (arith, c.loop-at-test.true, inv.many) in
    let played = inv.played cores begun in
    let d : RoundsState = c.index-lanes-at.result in (
      cores,
      record {
        may = begun.may;
        read = begun.read;
        many = ap length played ∙ length-map-range_with_len (round_part setting window.trace.now c.args.from at) window.first window.count;
        rounds = subst (AreRoundsFrom window.first) (sym played) (parts_from setting window.trace.now c.args.from at window.first window.count);
        stands = subst (λ (lane : RoundsState). LaneStands setting window.first window.counted (c.args.from + at) lane) (sym (inv.left at d (omega arith))) (begun.stand at d below);
      },
    )

pub play_lane-requires-clause-endpoint : goal.play_lane-requires-clause-endpoint
play_lane-requires-clause-endpoint c =
    let (cores, begun) = c.requires.may in
    omega (arith, begun.within, c.loop-at-test.true, c.loop-at.invariant.many)

pub play_lane-requires-clause-above : goal.play_lane-requires-clause-above
play_lane-requires-clause-above c =
    let at = c.loop-at.at in
    let window = c.args.window.now in
    let (cores, begun) = c.requires.may in
    subst (λ (parts : List RoundPart). All (λ part. IsAboveLast part.batch.entries (record { src = c.args.from + at; dst = 0 })) parts)
    (sym (c.loop-at.invariant.played cores begun)) (parts_above (run_told window cores) window.trace.now c.args.from at window.first window.count)

pub loop-at-preserved : goal.loop-at-preserved
loop-at-preserved c =
    let inv = c.loop-at.invariant in
    let at = c.loop-at.at in
    let window = c.args.window.now in
    let trace = window.trace.now in
    let from = c.args.from in
    let published = published_by window.publisher.now in
    let lanes = c.loop-at.lanes in
    let first = c.args.lanes.now in
    let now = c.play_lane.new.lane in
    let below : at < length first = omega (arith, c.loop-at-test.true, inv.many) in
    let here : at < length lanes = omega (arith, below, inv.many) in
    let d : RoundsState = c.index-lanes-at.result in
    let may : (cores : SlotCores) → MayPlayLanes window cores from c.args.raws.now first
    → MayPlayLane window cores (from + at) c.args.raws.now (slice_index_or lanes at d) c.loop-at.rounds =
    λ cores begun.
    let setting = run_told window cores in
    let played = inv.played cores begun in
    record {
      may = begun.may;
      read = begun.read;
      many = ap length played ∙ length-map-range_with_len (round_part setting trace from at) window.first window.count;
      rounds = subst (AreRoundsFrom window.first) (sym played) (parts_from setting trace from at window.first window.count);
      stands = subst (λ (lane : RoundsState). LaneStands setting window.first window.counted (from + at) lane) (sym (inv.left at d (omega arith))) (begun.stand at d below);
    } in
    record {
      many = length-set lanes at now ∙ inv.many;
      wide = c.play_lane.auto.rounds ∙ inv.wide;
      done = λ cores begun k e within reached.
          let setting = run_told window cores in
          elim (cases_eq k at) [
            | inl same ↦
                let at_place : LaneStands setting (window.first + window.count) published (from + k) now =
                subst (λ (n : ℕ). LaneStands setting (window.first + window.count) published (from + n) now) (sym same) (c.in_ok-play_lane.ensures.lane cores (may cores begun)) in
                subst (λ (lane : RoundsState). LaneStands setting (window.first + window.count) published (from + k) lane) (sym (get_or-set_at lanes at k now e same here)) at_place
            | inr other ↦
                subst (λ (lane : RoundsState). LaneStands setting (window.first + window.count) published (from + k) lane) (sym (get_or-set_other lanes at k now e other))
                (inv.done cores begun k e within (omega (arith, other, reached)))
          ];
      left = λ k e past. get_or-set_other lanes at k now e (λ same. omega (arith, same, past)) ∙ inv.left k e (omega (arith, past));
      played = λ cores begun.
          let setting = run_told window cores in
          c.in_ok-play_lane.ensures.rounds cores (may cores begun)
          ∙ (ap (map (with_endpoint setting trace (from + at))) (inv.played cores begun)
          ∙ parts_more setting trace from at (range_with_len window.first window.count));
    }

pub returns-clause-lanes : goal.returns-clause-lanes
returns-clause-lanes c = λ cores begun k d within.
    let inv = c.loop-at.invariant in
    inv.done cores begun k d (omega (arith, within, inv.many)) (omega (arith, within, inv.many, c.loop-at-test.false))

pub returns-clause-rounds : goal.returns-clause-rounds
returns-clause-rounds c = λ cores begun.
    let window = c.args.window.now in
    let end : c.loop-at.at ≡ length c.args.lanes.now = omega (arith, c.loop-at-test.false) in
    subst (λ (n : ℕ). c.loop-at.rounds ≡ map (round_part (run_told window cores) window.trace.now c.args.from n) (range_with_len window.first window.count)) end
    (c.loop-at.invariant.played cores begun)
