use Rattle.std.proofs.Common.{◌≡◌, not, ◌||◌, ◌∷◌, true, false, sym, ap, ◌∙◌, subst}
use Rattle.std.specs.List.{list_any}
use Rattle.std.proofs.Math.Bool.{not-not}
use Rattle.schedule_audit.specs.Lines.{Path}
use Rattle.schedule_audit.specs.Wrong.{same_place, share_a_link, has_wrong_core}
use Rattle.schedule_audit.specs.Marks.{PathsAreMarked}
use Rattle.schedule_audit.proofs.PathSteps.{off-here, off-marked}
use Rattle.schedule_audit.proofs.path_lines.is_off.Goals as goal

pub returns-clause-off : goal.returns-clause-off
returns-clause-off c = λ before upto marked.
    let net = c.args.net.now in
    let place = c.args.place in
    let path = c.args.path in
    let p : Path = record { place = place; core = path.core } in
    let same : same_place place path.place ≡ true = sym c.same_place.ensures ∙ c.if-not-same_place.false in
    let right : has_wrong_core net place.flow path.core ≡ false = sym c.has_wrong_core.ensures ∙ c.if-has_wrong_core.false in
    ap not (c.take.ensures.free before upto marked)
    ∙ (not-not (list_any (share_a_link net p) before)
    ∙ sym (off-here net place before path same ∙ ap (λ b. b || list_any (share_a_link net p) before) right))

pub returns-clause-marked : goal.returns-clause-marked
returns-clause-marked c = λ before upto marked fine.
    let same : same_place c.args.place c.args.path.place ≡ true = sym c.same_place.ensures ∙ c.if-not-same_place.false in
    subst (λ (p : Path). PathsAreMarked c.args.net.now c.take.new.self (p ∷ before)) (off-marked c.args.place c.args.path same) (c.take.ensures.taken before upto marked)
