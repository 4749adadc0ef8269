use Rattle.std.proofs.Common.{◌≡◌, ◌∷◌, suc, drop, false, None, refl, sym, ap, ◌∙◌, arith}
use Rattle.greedy_rules.proofs.WalkLemmas.{none_is}
use Rattle.schedule_audit.specs.Judged.{is_off}
use Rattle.schedule_audit.proofs.PathSteps.{stays-bad, stays-done, turns-bad, goes-right, off-same, is-not-none, drop-here}
use Rattle.schedule_audit.proofs.path_lines.PathLines.visit.Goals as goal

pub returns-then-is_some-clause-stands : goal.returns-then-is_some-clause-stands
returns-then-is_some-clause-stands c = λ visited low stands.
    let old = c.args.self.now in
    stays-bad c.args.net.now visited c.args.place old _ stands refl (is-not-none old.bad (sym c.is_some.ensures ∙ c.if-is_some.true)) refl

pub returns-then-self-len-clause-stands : goal.returns-then-self-len-clause-stands
returns-then-self-len-clause-stands c = λ visited low stands.
    stays-done c.args.net.now visited c.args.place c.args.self.now _ stands refl (omega (arith, c.if-self-len.true, c.len.ensures)) refl refl refl

pub returns-then-is_off-clause-stands : goal.returns-then-is_off-clause-stands
returns-then-is_off-clause-stands c = λ visited low stands.
    let old = c.args.self.now in
    let line = c.index-line.result.now in
    let none : old.bad ≡ None = none_is old.bad (sym c.is_some.ensures ∙ c.if-is_some.false) in
    let here : drop old.next old.lines.items ≡ line ∷ drop (suc old.next) old.lines.items =
    drop-here old.next old.lines.items line (omega (arith, c.if-self-len.false, c.len.ensures)) ∙ ap (λ l. l ∷ drop (suc old.next) old.lines.items) (sym c.index-line.ensures) in
    turns-bad c.args.net.now visited c.args.place old _ stands refl line none here
    (sym (c.is_off.ensures.off stands.before (stands.upto c.args.place.slot low) (stands.marked none)) ∙ c.if-is_off.true) refl

pub returns-else-is_off-clause-stands : goal.returns-else-is_off-clause-stands
returns-else-is_off-clause-stands c = λ visited low stands.
    let old = c.args.self.now in
    let line = c.index-line.result.now in
    let none : old.bad ≡ None = none_is old.bad (sym c.is_some.ensures ∙ c.if-is_some.false) in
    let upto = stands.upto c.args.place.slot low in
    let marked = stands.marked none in
    let here : drop old.next old.lines.items ≡ line ∷ drop (suc old.next) old.lines.items =
    drop-here old.next old.lines.items line (omega (arith, c.if-self-len.false, c.len.ensures)) ∙ ap (λ l. l ∷ drop (suc old.next) old.lines.items) (sym c.index-line.ensures) in
    let right : is_off c.args.net.now c.args.place stands.before line.said ≡ false = sym (c.is_off.ensures.off stands.before upto marked) ∙ c.if-is_off.false in
    goes-right c.args.net.now visited c.args.place old _ stands refl line none here right (off-same c.args.net.now c.args.place stands.before line.said right) refl refl
    (c.is_off.ensures.marked stands.before upto marked c.if-is_off.false)
