use Rattle.std.proofs.Common.{◌≡◌, ◌==◌, not, ℕ, List, ◌∷◌, get_or, false, Option, Some, refl, sym, ap, ◌∙◌, subst, arith}
use Rattle.std.proofs.lemmas.List.Elements.{All-cons}
use Rattle.schedule_audit.specs.Lines.{Path}
use Rattle.schedule_audit.specs.Wrong.{has_wrong_core}
use Rattle.schedule_audit.specs.Marks.{AreMarks, up_link, down_link, rise_of, fall_of, link_at}
use Rattle.schedule_audit.proofs.MarkLemmas.{mark-more, mark-none}
use Rattle.schedule_audit.proofs.SharedLinks.{leave-free, stay-free}
use Rattle.schedule_audit.proofs.links.Links.take.Goals as goal

pub returns-in-Some-clause-free : goal.returns-in-Some-clause-free
returns-in-Some-clause-free c = λ before upto marked.
    let net = c.args.net.now in
    let p = c.args.path in
    let slot = p.place.slot in
    leave-free net c.args.self.now p c.in-Some.core before _ _ _ _ c.in-Some.is c.requires.core c.requires.slot upto marked
    c.take-up.ensures.free
    c.take-down.ensures.free
    (c.take-rise.ensures.free ∙ (ap (λ (n : ℕ). not (get_or c.args.self.now.rise.items n 0 == slot)) c.place_of-from.ensures.place))
    (c.take-fall.ensures.free ∙ (ap (λ (n : ℕ). not (get_or c.args.self.now.fall.items n 0 == slot)) c.place_of-to.ensures.place))

pub returns-in-Some-clause-taken : goal.returns-in-Some-clause-taken
returns-in-Some-clause-taken c = λ before upto marked.
    let net = c.args.net.now in
    let p = c.args.path in
    let slot = p.place.slot in
    let links = c.args.self.now in
    let rises : rise_of net p ≡ Some c.place_of-from.result = ap (λ (o : Option ℕ). link_at net p.place.flow.src o) c.in-Some.is ∙ ap (λ (n : ℕ). Some n) (sym c.place_of-from.ensures.place) in
    let falls : fall_of net p ≡ Some c.place_of-to.result = ap (λ (o : Option ℕ). link_at net p.place.flow.dst o) c.in-Some.is ∙ ap (λ (n : ℕ). Some n) (sym c.place_of-to.ensures.place) in
    record {
      up = subst (λ (ms : List ℕ). AreMarks up_link ms (p ∷ before)) (sym c.take-up.ensures.marks)
          (mark-more up_link links.up.items before p p.place.flow.src refl (omega (arith, c.requires.marks.up, c.requires.src)) upto marked.up);
      down = subst (λ (ms : List ℕ). AreMarks down_link ms (p ∷ before)) (sym c.take-down.ensures.marks)
          (mark-more down_link links.down.items before p p.place.flow.dst refl (omega (arith, c.requires.marks.down, c.requires.dst)) upto marked.down);
      rise = subst (λ (ms : List ℕ). AreMarks (rise_of net) ms (p ∷ before)) (sym c.take-rise.ensures.marks)
          (mark-more (rise_of net) links.rise.items before p c.place_of-from.result rises (omega (arith, c.requires.marks.rise, c.place_of-from.ensures.within)) upto marked.rise);
      fall = subst (λ (ms : List ℕ). AreMarks (fall_of net) ms (p ∷ before)) (sym c.take-fall.ensures.marks)
          (mark-more (fall_of net) links.fall.items before p c.place_of-to.result falls (omega (arith, c.requires.marks.fall, c.place_of-to.ensures.within)) upto marked.fall);
      cores = All-cons (λ (q : Path). has_wrong_core net q.place.flow q.core ≡ false) p before c.requires.core marked.cores;
    }

pub returns-in-None-clause-free : goal.returns-in-None-clause-free
returns-in-None-clause-free c = λ before upto marked.
    let p = c.args.path in
    let slot = p.place.slot in
    stay-free c.args.net.now c.args.self.now p before _ _ c.in-None.is c.requires.core c.requires.slot upto marked
    c.take-up.ensures.free
    c.take-down.ensures.free

pub returns-in-None-clause-taken : goal.returns-in-None-clause-taken
returns-in-None-clause-taken c = λ before upto marked.
    let net = c.args.net.now in
    let p = c.args.path in
    let slot = p.place.slot in
    let links = c.args.self.now in
    record {
      up = subst (λ (ms : List ℕ). AreMarks up_link ms (p ∷ before)) (sym c.take-up.ensures.marks)
          (mark-more up_link links.up.items before p p.place.flow.src refl (omega (arith, c.requires.marks.up, c.requires.src)) upto marked.up);
      down = subst (λ (ms : List ℕ). AreMarks down_link ms (p ∷ before)) (sym c.take-down.ensures.marks)
          (mark-more down_link links.down.items before p p.place.flow.dst refl (omega (arith, c.requires.marks.down, c.requires.dst)) upto marked.down);
      rise = mark-none (rise_of net) links.rise.items before p (ap (λ (o : Option ℕ). link_at net p.place.flow.src o) c.in-None.is) marked.rise;
      fall = mark-none (fall_of net) links.fall.items before p (ap (λ (o : Option ℕ). link_at net p.place.flow.dst o) c.in-None.is) marked.fall;
      cores = All-cons (λ (q : Path). has_wrong_core net q.place.flow q.core ≡ false) p before c.requires.core marked.cores;
    }
