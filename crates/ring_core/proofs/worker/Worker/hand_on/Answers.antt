use Rattle.std.proofs.Common.{◌≡◌, ◌∙◌, inr, refl, sym, ap, subst}
use Rattle.std.specs.Prelude.{is_some}
use Rattle.slot_batches.specs.Pieces.{part_of}
use Rattle.ring_core.specs.States.{WorkerState}
use Rattle.ring_core.specs.Ends.{WorkerEnds}
use Rattle.ring_core.specs.Workers.{Plays}
use Rattle.ring_core.proofs.PlayLemmas.{held_is, to_push}
use Rattle.ring_core.proofs.PushLemmas.{pushes_next}
use Rattle.ring_core.proofs.worker.Worker.hand_on.Goals as goal

pub push-requires-clause-next : goal.push-requires-clause-next
push-requires-clause-next g c =
    let plays = c.requires.plays.1 in
    pushes_next c.requires.plays.0 _ _ plays.0 plays.1 (part_of c.args.piece) plays.2 refl c.every_batch_leaves_a_list.ensures.next c.early_pieces_are_of_the_list.ensures.settled c.early_pieces_are_of_the_list.ensures.pieces

pub returns-in-Ok-clause-plays : goal.returns-in-Ok-clause-plays
returns-in-Ok-clause-plays g c = λ batches plays.
    subst (λ (e : WorkerEnds). Plays batches e c.count_sent.new.self) (sym c.in-Ok.ensures.pushed) (c.count_sent.ensures.plays batches (g.L.Link.ends c.args.link.now) (part_of c.args.piece) plays refl)

pub returns-in-Ok-clause-answer : goal.returns-in-Ok-clause-answer
returns-in-Ok-clause-answer g c = λ batches plays.
    let held = held_is batches _ _ plays.0 plays.1 plays.2 (part_of c.args.piece) refl in
    (held.0, inr (ap is_some (to_push batches _ _ plays.0 plays.1 plays.2 ∙ held.1), c.in-Ok.ensures.pushed))

pub returns-in-Err-clause-answer : goal.returns-in-Err-clause-answer
returns-in-Err-clause-answer g c = λ batches plays.
    let held = held_is batches _ _ plays.0 plays.1 plays.2 (part_of c.args.piece) refl in
    let is = c.in-Err.ensures.pushed in
    let sent : (g.L.Link.ends c.args.link.now).sent ≡ c.self.inside.sent = plays.2.sent ∙ sym (ap (λ (v : WorkerState). v.sent) c.self.view_is) in
    (held.0, ap is_some (to_push batches _ _ plays.0 plays.1 plays.2 ∙ held.1), sym sent, is.1, subst (g.L.Link.found_full c.push.new.self) sent is.2)
