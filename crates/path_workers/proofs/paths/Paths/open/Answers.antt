use Rattle.std.proofs.Common.{◌≡◌, ◌+◌, [], ◌∷◌, ◌++◌, All, sym, ap, ◌∙◌, subst, arith}
use Rattle.std.proofs.lemmas.List.{map-append}
use Rattle.std.proofs.lemmas.List.Elements.{All-push}
use Rattle.list_facts.proofs.Lists.{next_number}
use Rattle.path_workers.specs.declared.painter.Painter.{Painter}
use Rattle.path_workers.specs.Painters.{numbers_of, IsPainter}
use Rattle.path_workers.proofs.paths.Paths.open.Goals as goal

pub loop-number-preserved : goal.loop-number-preserved
loop-number-preserved c =
    let P : Painter → Type 0 = IsPainter c.args.net.now c.args.slots in
    let here : c.loop-number.number ≡ 0 + c.loop-number.number = omega arith in
    record {
      count = omega (arith, c.push_reserved.ensures.len, c.loop-number.invariant.count);
      room = c.push_reserved.ensures.capacity ∙ c.loop-number.invariant.room;
      painters = subst (All P) (sym c.push_reserved.ensures.items) (All-push P c.loop-number.painters.items c.in_ok-open.field-0 c.loop-number.invariant.painters c.in_ok-open.ensures.sized);
      numbers = ap numbers_of c.push_reserved.ensures.items
          ∙ (map-append (λ (painter : Painter). painter.number) c.loop-number.painters.items (c.in_ok-open.field-0 ∷ [])
          ∙ ((λ i. c.loop-number.invariant.numbers i ++ (c.in_ok-open.ensures.number ∙ here) i ∷ [])
          ∙ sym (next_number 0 c.loop-number.number)));
    }
