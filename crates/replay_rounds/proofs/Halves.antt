-- The lanes of endpoints that follow each other, in two parts.
use Rattle.std.proofs.Common.{◌≡◌, ◌+◌, ◌-◌, ℕ, List, ◌++◌, length, get_or, refl, sym, ap, ◌∙◌, subst, arith, inl, inr}
use Rattle.std.proofs.lemmas.Bool.{cases_lt}
use Rattle.std.proofs.lemmas.List.{length-append, get_or_append_left, get_or-append_right}
use Rattle.clos_topology.specs.NetSlots.{SlotCores}
use Rattle.lane_rounds.specs.State.{RoundsState}
use Rattle.trace_run.specs.Run.{Setting}
use Rattle.replay_rounds.specs.declared.collect.WindowInPlay.{WindowInPlay}
use Rattle.replay_rounds.specs.Standing.{LaneStands}
use Rattle.replay_rounds.specs.Collecting.{run_told, LanesStand, LanesStandFrom, MayPlayLanes, RawPart}

module _ (setting : Setting) (collected batches : ℕ) where
  -- the lanes of all endpoints are those from the first one on
  pub from_first : (lanes : List RoundsState) → LanesStand setting collected batches lanes → LanesStandFrom setting collected batches 0 lanes
  from_first lanes stand at d below =
      let here : at ≡ 0 + at = omega arith in
      subst (λ (endpoint : ℕ). LaneStands setting collected batches endpoint (get_or lanes at d)) here (stand.each at d below)

  pub all_stand : (lanes : List RoundsState) → length lanes ≡ setting.endpoints → LanesStandFrom setting collected batches 0 lanes → LanesStand setting collected batches lanes
  all_stand lanes wide stand = record {
    wide = wide;
    each = λ at d below.
        let here : 0 + at ≡ at = omega arith in
        subst (λ (endpoint : ℕ). LaneStands setting collected batches endpoint (get_or lanes at d)) here (stand at d below);
  }

  pub front_stands : (from : ℕ) (front back : List RoundsState) → LanesStandFrom setting collected batches from (front ++ back) → LanesStandFrom setting collected batches from front
  front_stands from front back stand at d below =
      subst (λ (lane : RoundsState). LaneStands setting collected batches (from + at) lane) (get_or_append_left front back d at below)
      (stand at d (omega (arith, below, length-append front back)))

  pub back_stands : (from : ℕ) (front back : List RoundsState) → LanesStandFrom setting collected batches from (front ++ back) → LanesStandFrom setting collected batches (from + length front) back
  back_stands from front back stand at d below =
      let there : from + (length front + at) ≡ from + length front + at = omega arith in
      let place : length front + at - length front ≡ at = omega arith in
      let read : get_or (front ++ back) (length front + at) d ≡ get_or back at d =
      get_or-append_right front back (length front) (length front + at) d refl (omega arith) ∙ ap (λ (k : ℕ). get_or back k d) place in
      subst (λ (endpoint : ℕ). LaneStands setting collected batches endpoint (get_or back at d)) there
      (subst (λ (lane : RoundsState). LaneStands setting collected batches (from + (length front + at)) lane) read
      (stand (length front + at) d (omega (arith, below, length-append front back))))

  pub both_stand : (from : ℕ) (front back : List RoundsState) → LanesStandFrom setting collected batches from front → LanesStandFrom setting collected batches (from + length front) back
      → LanesStandFrom setting collected batches from (front ++ back)
  both_stand from front back one other at d below =
      elim (cases_lt at (length front)) [
        | inl low ↦
            subst (λ (lane : RoundsState). LaneStands setting collected batches (from + at) lane) (sym (get_or_append_left front back d at low)) (one at d low)
        | inr high ↦
            let there : from + length front + (at - length front) ≡ from + at = omega (arith, high) in
            subst (λ (endpoint : ℕ). LaneStands setting collected batches endpoint (get_or (front ++ back) at d)) there
            (subst (λ (lane : RoundsState). LaneStands setting collected batches (from + length front + (at - length front)) lane) (sym (get_or-append_right front back (length front) at d refl high))
            (other (at - length front) d (omega (arith, below, high, length-append front back))))
      ]

module _ (window : WindowInPlay) (cores : SlotCores) (from : ℕ) (raws : List RawPart) (lanes front back : List RoundsState) (are : lanes ≡ front ++ back) where
  pub front_may : MayPlayLanes window cores from raws lanes → MayPlayLanes window cores from raws front
  front_may may = record {
    may = may.may;
    read = may.read;
    within = omega (arith, may.within, ap length are, length-append front back);
    stand = front_stands (run_told window cores) window.first window.counted from front back (subst (LanesStandFrom (run_told window cores) window.first window.counted from) are may.stand);
  }

  pub back_may : (behind : ℕ) → behind ≡ from + length front → MayPlayLanes window cores from raws lanes → MayPlayLanes window cores behind raws back
  back_may behind is may = record {
    may = may.may;
    read = may.read;
    within = omega (arith, is, may.within, ap length are, length-append front back);
    stand = subst (λ (n : ℕ). LanesStandFrom (run_told window cores) window.first window.counted n back) (sym is)
        (back_stands (run_told window cores) window.first window.counted from front back (subst (LanesStandFrom (run_told window cores) window.first window.counted from) are may.stand));
  }
