use Rattle.std.proofs.Common.{refl, sym, subst, arith, length}
use Rattle.path_workers.specs.Painters.{AreListed}
use Rattle.path_workers.proofs.PainterLemmas.{placed, listed_idle, listed_more}
use Rattle.path_workers.proofs.painter.Painter.note.Goals as goal

pub returns-then-place-eq-IDLE-clause-painted : goal.returns-then-place-eq-IDLE-clause-painted
returns-then-place-eq-IDLE-clause-painted c net room slots below painted row =
    let painter = c.args.self.now in
    placed net room slots painter _ c.args.slot c.args.place painted below (omega (arith, c.requires.slot, painted.sized.places)) row refl refl refl refl refl refl (omega arith)
    (listed_idle (length slots) painter.places.items painter.made.items c.args.slot c.args.place (omega (arith, c.requires.slot, painter.places.ok.0)) c.requires.new c.if-place-eq-IDLE.true painted.listed)

pub returns-clause-painted : goal.returns-clause-painted
returns-clause-painted c net room slots below painted row =
    let painter = c.args.self.now in
    let more = listed_more (length slots) painter.places.items painter.made.items c.args.slot c.args.place (omega (arith, c.requires.slot, painter.places.ok.0)) c.requires.new below painted.listed in
    placed net room slots painter _ c.args.slot c.args.place painted below (omega (arith, c.requires.slot, painted.sized.places)) row refl refl refl refl refl refl (omega (arith, c.push_reserved.ensures.capacity))
    (subst (AreListed (length slots) _) (sym c.push_reserved.ensures.items) more)
