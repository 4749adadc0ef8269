use Rattle.std.proofs.Common.{◌+◌, ℕ, List, length, map, Result, Ok, Err, OnOk, sym, ap, ◌∙◌, arith}
use Rattle.std.specs.List.{range_with_len}
use Rattle.std.proofs.lemmas.List.FromFn.{length-map-range_with_len}
use Rattle.std.proofs.lemmas.Result.{IfOk-weaker}
use Rattle.clos_topology.specs.NetSlots.{SlotCores}
use Rattle.lane_rounds.specs.State.{RoundsState}
use Rattle.replay_rounds.specs.declared.collect.WindowInPlay.{WindowInPlay}
use Rattle.replay_rounds.specs.Collecting.{played_of, published_by, raw_part, round_part, run_told, AreRaws, MayCollectRounds, MayPlayLanes, RawPart, RoundPart}
use Rattle.replay_rounds.proofs.Halves.{all_stand, from_first}
use Rattle.replay_rounds.proofs.WindowLemmas.{rounds_give}
use Rattle.replay_rounds.proofs.collect.collect.Goals as goal

on_ok_always : {T E P : Type 0} (r : Result T E) → P → OnOk r P
on_ok_always (Ok x) holds = holds
on_ok_always (Err e) holds = tt

may_play : (window : WindowInPlay) (cores : SlotCores) (raws : List RawPart) (lanes : List RoundsState) → AreRaws window raws → MayCollectRounds window cores lanes → MayPlayLanes window cores 0 raws lanes
may_play window cores raws lanes read may = record {
  may = may.may;
  read = read;
  within = omega (arith, may.stand.wide);
  stand = from_first (run_told window cores) window.first window.counted lanes may.stand;
}

pub play_beside-requires-clause-may : goal.play_beside-requires-clause-may
play_beside-requires-clause-may g c κs within =
    let (cores, begun) = c.requires.may in
    (cores, may_play c.args.window.now cores c.deref.result.now c.args.lanes.now (c.deref.ensures.value ∙ c.in_ok-raws.ensures) begun)

pub gather-requires : goal.gather-requires
gather-requires g c =
    let (cores, begun) = c.requires.may in
    let window = c.args.window.now in
    let raws_are = c.deref.ensures.value ∙ c.in_ok-raws.ensures in
    let rounds_are = c.in_ok-rounds.ensures.rounds cores (may_play window cores c.deref.result.now c.args.lanes.now raws_are begun) in
    ap length (c.deref-2.ensures.value ∙ c.in_ok-raws.ensures) ∙ (length-map-range_with_len (raw_part window.trace.now) window.first window.count
    ∙ sym (ap length rounds_are ∙ length-map-range_with_len (round_part (run_told window cores) window.trace.now 0 (length c.args.lanes.now)) window.first window.count))

pub returns-clause-lanes : goal.returns-clause-lanes
returns-clause-lanes g c =
    on_ok_always c.gather.result
    (λ cores begun.
    let window = c.args.window.now in
    let raws_are = c.deref.ensures.value ∙ c.in_ok-raws.ensures in
    all_stand (run_told window cores) (window.first + window.count) (published_by window.publisher.now) c.play_beside.new.lanes (c.play_beside.auto.lanes ∙ begun.stand.wide)
    (c.in_ok-rounds.ensures.lanes cores (may_play window cores c.deref.result.now c.args.lanes.now raws_are begun)))

pub returns-clause-played : goal.returns-clause-played
returns-clause-played g c =
    IfOk-weaker c.gather.result _ _
    (λ played gathered cores begun.
    let window = c.args.window.now in
    let trace = window.trace.now in
    let raws_are = c.deref.ensures.value ∙ c.in_ok-raws.ensures in
    let lent = c.deref-2.ensures.value ∙ c.in_ok-raws.ensures in
    let part : ℕ → ℕ → RoundPart = λ n. round_part (run_told window cores) trace 0 n in
    let rounds_are = c.in_ok-rounds.ensures.rounds cores (may_play window cores c.deref.result.now c.args.lanes.now raws_are begun) in
    let numbers = range_with_len window.first window.count in
    gathered
    ∙ (ap (λ (raws : List RawPart). played_of raws c.in_ok-rounds.rounds.items) lent
    ∙ (ap (played_of (map (raw_part trace) numbers)) (rounds_are ∙ ap (λ (n : ℕ). map (part n) numbers) begun.stand.wide)
    ∙ rounds_give trace window.publisher.now.b window.g cores window.first window.count)))
    c.gather.ensures
