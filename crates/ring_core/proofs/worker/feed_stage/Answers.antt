use Rattle.std.proofs.Common.{◌++◌, Bool, sym, subst}
use Rattle.slot_batches.specs.Stands.{Stands}
use Rattle.ring_core.proofs.worker.feed_stage.Goals as goal

pub finish-requires : goal.finish-requires
finish-requires c =
    let may = c.requires.may in
    (may.0 ++ c.args.piece.items, may.1, c.feed_all.ensures.stands may.0 may.1 may.2 may.3)

pub returns-then-piece-clause-stands : goal.returns-then-piece-clause-stands
returns-then-piece-clause-stands c = λ fed given stands may.
    subst (λ (b : Bool). Stands c.args.batch.now (fed ++ c.args.piece.items) b given c.finish.new.self) (sym c.if-piece.true)
    (c.finish.ensures.stands (fed ++ c.args.piece.items) given (c.feed_all.ensures.stands fed given stands may))

pub returns-clause-stands : goal.returns-clause-stands
returns-clause-stands c = λ fed given stands may.
    subst (λ (b : Bool). Stands c.args.batch.now (fed ++ c.args.piece.items) b given c.feed_all.new.self) (sym c.if-piece.false) (c.feed_all.ensures.stands fed given stands may)
