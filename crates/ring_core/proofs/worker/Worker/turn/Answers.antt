use Rattle.std.proofs.Common.{◌<◌, length, Option, sym, subst, arith}
use Rattle.slot_batches.specs.Pieces.{Part}
use Rattle.ring_core.specs.States.{WorkerState}
use Rattle.ring_core.specs.Workers.{Plays}
use Rattle.ring_core.proofs.TurnLemmas.{answers_same, done_ended}
use Rattle.ring_core.proofs.worker.Worker.turn.Goals as goal

pub hand_on-requires-clause-plays : goal.hand_on-requires-clause-plays
hand_on-requires-clause-plays g c =
    let below : c.args.self.now.stage < length c.args.batches.now = subst (λ (v : WorkerState). v.stage < length c.args.batches.now) c.self.view_is c.if-self-batches.false in
    (c.args.batches.now, c.in-Some.ensures.plays c.args.batches.now (g.L.Link.ends c.args.link.now) c.requires.plays below, omega (arith, c.next_piece.ensures.same.same_stage, below))

pub take_up-requires-clause-plays : goal.take_up-requires-clause-plays
take_up-requires-clause-plays g c =
    let below : c.args.self.now.stage < length c.args.batches.now = subst (λ (v : WorkerState). v.stage < length c.args.batches.now) c.self.view_is c.if-self-batches.false in
    subst (λ (h : Option Part). Plays c.args.batches.now (g.L.Link.ends c.args.link.now) (record c.next_piece.new.self { held = h })) (sym c.next_piece.ensures.held)
    (c.in-None.ensures.plays c.args.batches.now (g.L.Link.ends c.args.link.now) c.requires.plays below)

pub returns-in-Some-clause-plays : goal.returns-in-Some-clause-plays
returns-in-Some-clause-plays g c =
    let below : c.args.self.now.stage < length c.args.batches.now = subst (λ (v : WorkerState). v.stage < length c.args.batches.now) c.self.view_is c.if-self-batches.false in
    c.hand_on.ensures.plays c.args.batches.now (c.in-Some.ensures.plays c.args.batches.now (g.L.Link.ends c.args.link.now) c.requires.plays below)

pub returns-in-Some-clause-answer : goal.returns-in-Some-clause-answer
returns-in-Some-clause-answer g c =
    let below : c.args.self.now.stage < length c.args.batches.now = subst (λ (v : WorkerState). v.stage < length c.args.batches.now) c.self.view_is c.if-self-batches.false in
    answers_same c.args.batches.now c.args.self.now c.next_piece.new.self c.next_piece.ensures.same _ _ _ _ c.hand_on.result
    (c.hand_on.ensures.answer c.args.batches.now (c.in-Some.ensures.plays c.args.batches.now (g.L.Link.ends c.args.link.now) c.requires.plays below))

pub returns-in-Some-clause-done : goal.returns-in-Some-clause-done
returns-in-Some-clause-done g c = λ is.
    let below : c.args.self.now.stage < length c.args.batches.now = subst (λ (v : WorkerState). v.stage < length c.args.batches.now) c.self.view_is c.if-self-batches.false in
    let told = c.hand_on.ensures.answer c.args.batches.now (c.in-Some.ensures.plays c.args.batches.now (g.L.Link.ends c.args.link.now) c.requires.plays below) in
    absurd (omega (arith, done_ended c.args.batches.now c.next_piece.new.self _ _ _ _ c.hand_on.result told is, c.next_piece.ensures.same.same_stage, below))
