use Rattle.std.proofs.Common.{◌≡◌, ◌+◌, List, [], ◌∷◌, ◌++◌, map, sym, ap, ◌∙◌, refl}
use Rattle.std.specs.List.{range_with_len}
use Rattle.std.proofs.lemmas.List.FromFn.{map-range_with_len_more}
use Rattle.replay_rounds.specs.Collecting.{raw_part, RawPart}
use Rattle.replay_rounds.proofs.collect.read_raws.Goals as goal

pub loop-at-preserved : goal.loop-at-preserved
loop-at-preserved c =
    let blank = raw_part c.args.window.now.trace.now in
    let first = c.args.window.now.first in
    let at = c.loop-at.at in
    let part : RawPart = c.in_ok-read.field-0 in
    let before : List RawPart = c.loop-at.raws.items in
    let after : List RawPart = c.push.new.self.items in
    let pushed : after ≡ before ++ part ∷ [] = c.in_ok-push.ensures.items in
    pushed
    ∙ (ap (λ (parts : List RawPart). parts ++ part ∷ []) c.loop-at.invariant
    ∙ (ap (λ (p : RawPart). map blank (range_with_len first at) ++ p ∷ []) c.in_ok-read.ensures
    ∙ sym (map-range_with_len_more blank first at (first + at) refl)))
