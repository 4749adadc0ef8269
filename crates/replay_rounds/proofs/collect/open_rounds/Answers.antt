use Rattle.std.proofs.Common.{◌≡◌, ◌+◌, List, [], ◌∷◌, ◌++◌, map, sym, ap, ◌∙◌, refl}
use Rattle.std.specs.List.{range_with_len}
use Rattle.std.proofs.lemmas.List.FromFn.{map-range_with_len_more}
use Rattle.replay_rounds.specs.Collecting.{blank_round, RoundPart}
use Rattle.replay_rounds.proofs.collect.open_rounds.Goals as goal

pub loop-at-preserved : goal.loop-at-preserved
loop-at-preserved c =
    let blank = blank_round c.args.window.now.trace.now in
    let first = c.args.window.now.first in
    let at = c.loop-at.at in
    let part : RoundPart = c.in_ok-open.field-0 in
    let before : List RoundPart = c.loop-at.rounds.items in
    let after : List RoundPart = c.push.new.self.items in
    let pushed : after ≡ before ++ part ∷ [] = c.in_ok-push.ensures.items in
    pushed
    ∙ (ap (λ (parts : List RoundPart). parts ++ part ∷ []) c.loop-at.invariant
    ∙ (ap (λ (p : RoundPart). map blank (range_with_len first at) ++ p ∷ []) c.in_ok-open.ensures
    ∙ sym (map-range_with_len_more blank first at (first + at) refl)))
