use Rattle.std.proofs.Common.{◌<◌, ℕ, List, length, get_or, set, sym, ap, ◌∙◌, subst, arith, inl, inr}
use Rattle.std.proofs.lemmas.Bool.{cases_eq}
use Rattle.std.proofs.Math.Seq.{map-set_same}
use Rattle.std.proofs.lemmas.List.{get_or-set_same, get_or-set_other}
use Rattle.path_workers.specs.declared.painter.Painter.{Painter}
use Rattle.path_workers.specs.Painters.{IsPainter, HasPainted}
use Rattle.path_workers.proofs.paths.forget.Goals as goal

pub loop-painter-preserved : goal.loop-painter-preserved
loop-painter-preserved c =
    let items : List Painter = c.loop-painter.painter-items in
    let at : ℕ = c.loop-painter.painter-index in
    let new : Painter = c.forget.new.self in
    let inside : at < length items = omega (arith, c.loop-painter-test.true, c.loop-painter.auto.painter-items) in
    record {
      before = λ net room slots all k d below. elim (cases_eq k at) [
        | inl here ↦
            let sized : IsPainter net room (get_or items at c.painter-item.result) = subst (IsPainter net room) (sym (c.loop-painter.invariant.later at c.painter-item.result (omega arith))) (all at c.painter-item.result c.loop-painter-test.true) in
            subst (HasPainted net room slots) (sym (ap (λ (j : ℕ). get_or (set items at new) j d) here ∙ get_or-set_same items at new d inside)) (c.forget.ensures.painted net room slots sized)
        | inr other ↦ subst (HasPainted net room slots) (sym (get_or-set_other items at k new d other)) (c.loop-painter.invariant.before net room slots all k d (omega (arith, below)))
      ];
      numbers = map-set_same (λ (painter : Painter). painter.number) items at new c.painter-item.result c.forget.ensures.number ∙ c.loop-painter.invariant.numbers;
      later = λ k d after. get_or-set_other items at k new d (λ same. omega (arith, after)) ∙ c.loop-painter.invariant.later k d (omega (arith, after));
    }

pub returns-clause-painted : goal.returns-clause-painted
returns-clause-painted c net room slots all k d below = c.loop-painter.invariant.before net room slots all k d (omega (arith, below, c.loop-painter.auto.painter-items, c.loop-painter-test.false))
