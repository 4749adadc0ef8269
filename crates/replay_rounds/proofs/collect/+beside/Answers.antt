use Rattle.std.proofs.Common.{◌≡◌, ◌+◌, ℕ, List, length, map, Result, Ok, OnOk, IfOk, refl, sym, ap, ◌∙◌, subst, arith}
use Rattle.std.specs.List.{range_with_len}
use Rattle.std.proofs.lemmas.List.{length-append, with_items_is}
use Rattle.std.proofs.lemmas.List.FromFn.{length-map-range_with_len}
use Rattle.lane_rounds.specs.State.{RoundsState}
use Rattle.replay_rounds.specs.Collecting.{published_by, round_part, run_told, LanesStandFrom, RoundPart}
use Rattle.replay_rounds.proofs.PartLemmas.{rounds_below, rounds_both}
use Rattle.replay_rounds.proofs.Halves.{back_may, both_stand, front_may}
use Rattle.replay_rounds.proofs.collect.+beside.Goals as goal

ok_holds : {T E : Type 0} (r : Result T E) (x : T) (P : T → Type 0) → r ≡ Ok x → IfOk r P → P x
ok_holds r x P is holds = subst (λ q. IfOk q P) is holds

on_ok : {T E : Type 0} (r : Result T E) (x : T) (P : Type 0) → r ≡ Ok x → OnOk r P → P
on_ok r x P is holds = subst (λ q. OnOk q P) is holds

pub play_halves-overflow_cast-behind : goal.play_halves-overflow_cast-behind
play_halves-overflow_cast-behind g t c = let (cores, begun) = c.requires.front in omega (arith, begun.within, begun.may.few_endpoints)

pub play_halves-overflow_add-behind : goal.play_halves-overflow_add-behind
play_halves-overflow_add-behind g t c = let (cores, begun) = c.requires.front in omega (arith, begun.within, begun.may.few_endpoints)

pub play_beside-play_halves-rounds-requires-clause-front : goal.play_beside-play_halves-rounds-requires-clause-front
play_beside-play_halves-rounds-requires-clause-front g t c κs within =
    let (cores, begun) = c.requires.may in
    let cut = c.split_at_mut-front in
    (cores, front_may c.args.window.now cores c.args.from c.args.raws.now c.args.lanes.now cut.result.0.now cut.result.1.now cut.ensures.value begun)

pub play_beside-play_halves-rounds-requires-clause-back : goal.play_beside-play_halves-rounds-requires-clause-back
play_beside-play_halves-rounds-requires-clause-back g t c κs within =
    let (cores, begun) = c.requires.may in
    let cut = c.split_at_mut-front in
    (cores, back_may c.args.window.now cores c.args.from c.args.raws.now c.args.lanes.now cut.result.0.now cut.result.1.now cut.ensures.value _ refl begun)

pub play_beside-append_rounds-requires-clause-same : goal.play_beside-append_rounds-requires-clause-same
play_beside-append_rounds-requires-clause-same g t c =
    let (cores, begun) = c.requires.may in
    let window = c.args.window.now in
    let cut = c.split_at_mut-front in
    let front : List RoundsState = cut.result.0.now in
    let back : List RoundsState = cut.result.1.now in
    let one = ok_holds c.play_halves-rounds.result.0 c.in_ok-rounds.rounds _ c.in_ok-rounds.was c.play_halves-rounds.ensures.front_rounds cores
    (front_may window cores c.args.from c.args.raws.now c.args.lanes.now front back cut.ensures.value begun) in
    let other = ok_holds c.play_halves-rounds.result.1 c.in_ok-behind.field-0 _ c.in_ok-behind.was c.play_halves-rounds.ensures.back_rounds cores
    (back_may window cores c.args.from c.args.raws.now c.args.lanes.now front back cut.ensures.value _ refl begun) in
    ap length (c.deref_mut.ensures.value ∙ one) ∙ (length-map-range_with_len (round_part (run_told window cores) window.trace.now c.args.from (length front)) window.first window.count
    ∙ sym (ap length (c.deref.ensures.value ∙ other) ∙ length-map-range_with_len (round_part (run_told window cores) window.trace.now (c.args.from + length front) (length back)) window.first window.count))

pub play_beside-append_rounds-requires-clause-below : goal.play_beside-append_rounds-requires-clause-below
play_beside-append_rounds-requires-clause-below g t c =
    let (cores, begun) = c.requires.may in
    let window = c.args.window.now in
    let cut = c.split_at_mut-front in
    let front : List RoundsState = cut.result.0.now in
    let back : List RoundsState = cut.result.1.now in
    let one = ok_holds c.play_halves-rounds.result.0 c.in_ok-rounds.rounds _ c.in_ok-rounds.was c.play_halves-rounds.ensures.front_rounds cores
    (front_may window cores c.args.from c.args.raws.now c.args.lanes.now front back cut.ensures.value begun) in
    let other = ok_holds c.play_halves-rounds.result.1 c.in_ok-behind.field-0 _ c.in_ok-behind.was c.play_halves-rounds.ensures.back_rounds cores
    (back_may window cores c.args.from c.args.raws.now c.args.lanes.now front back cut.ensures.value _ refl begun) in
    rounds_below (run_told window cores) window.trace.now c.args.from (length front) (length back) window.first window.count c.deref_mut.result.now c.deref.result.now
    (c.deref_mut.ensures.value ∙ one) (c.deref.ensures.value ∙ other)

pub play_beside-returns-clause-lanes : goal.play_beside-returns-clause-lanes
play_beside-returns-clause-lanes g t c = λ cores begun.
    let window = c.args.window.now in
    let from = c.args.from in
    let cut = c.split_at_mut-front in
    let front : List RoundsState = cut.result.0.now in
    let back : List RoundsState = cut.result.1.now in
    let front_now : List RoundsState = c.play_halves-rounds.new.front in
    let back_now : List RoundsState = c.play_halves-rounds.new.back in
    let setting = run_told window cores in
    let collected = window.first + window.count in
    let batches = published_by window.publisher.now in
    let one = on_ok c.play_halves-rounds.result.0 c.in_ok-rounds.rounds _ c.in_ok-rounds.was c.play_halves-rounds.ensures.front cores
    (front_may window cores from c.args.raws.now c.args.lanes.now front back cut.ensures.value begun) in
    let other = on_ok c.play_halves-rounds.result.1 c.in_ok-behind.field-0 _ c.in_ok-behind.was c.play_halves-rounds.ensures.back cores
    (back_may window cores from c.args.raws.now c.args.lanes.now front back cut.ensures.value _ refl begun) in
    both_stand setting collected batches from front_now back_now one
    (subst (λ (n : ℕ). LanesStandFrom setting collected batches (from + n) back_now) (sym c.play_halves-rounds.auto.front) other)

pub play_beside-returns-clause-rounds : goal.play_beside-returns-clause-rounds
play_beside-returns-clause-rounds g t c = λ cores begun.
    let window = c.args.window.now in
    let from = c.args.from in
    let trace = window.trace.now in
    let setting = run_told window cores in
    let cut = c.split_at_mut-front in
    let front : List RoundsState = cut.result.0.now in
    let back : List RoundsState = cut.result.1.now in
    let one = ok_holds c.play_halves-rounds.result.0 c.in_ok-rounds.rounds _ c.in_ok-rounds.was c.play_halves-rounds.ensures.front_rounds cores
    (front_may window cores from c.args.raws.now c.args.lanes.now front back cut.ensures.value begun) in
    let other = ok_holds c.play_halves-rounds.result.1 c.in_ok-behind.field-0 _ c.in_ok-behind.was c.play_halves-rounds.ensures.back_rounds cores
    (back_may window cores from c.args.raws.now c.args.lanes.now front back cut.ensures.value _ refl begun) in
    let after : List RoundPart = c.append_rounds.new.rounds in
    let both = rounds_both setting trace from (length front) (length back) window.first window.count c.deref_mut.result.now c.deref.result.now after
    (c.deref_mut.ensures.value ∙ one) (c.deref.ensures.value ∙ other) c.append_rounds.auto.rounds c.in_ok-append_rounds.ensures in
    let kept : length after ≡ c.in_ok-rounds.rounds.len = c.append_rounds.auto.rounds ∙ (ap length c.deref_mut.ensures.value ∙ sym c.in_ok-rounds.rounds.ok.0) in
    let wide : length front + length back ≡ length c.args.lanes.now = sym (ap length cut.ensures.value ∙ length-append front back) in
    with_items_is c.in_ok-rounds.rounds after kept
    ∙ (both ∙ ap (λ (n : ℕ). map (round_part setting trace from n) (range_with_len window.first window.count)) wide)
