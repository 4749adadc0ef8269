use Rattle.std.proofs.Common.{◌≡◌, ◌∙◌, ◌+◌, None, Some, refl, sym, ap, subst, arith}
use Rattle.ring_core.specs.contracts.worker.Worker.{the_view}
use Rattle.ring_core.specs.States.{WorkerState}
use Rattle.ring_core.specs.Workers.{Plays}
use Rattle.ring_core.proofs.PushLemmas.{sent_short, stage_short, place_short, sent_on, sent_last}
use Rattle.ring_core.proofs.worker.Worker.count_sent.Goals as goal

pub overflow_add-self : goal.overflow_add-self
overflow_add-self c =
    let plays = c.requires.plays.3 in
    let short = sent_short c.requires.plays.0 c.requires.plays.1 _ plays.0 plays.1 c.requires.plays.2 plays.2 refl c.every_batch_leaves_a_list.ensures.flows c.flows_fit_pairs.ensures in
    omega (arith, short, ap (λ (w : WorkerState). w.sent) c.self.view_is)

pub overflow_add-self-then-end : goal.overflow_add-self-then-end
overflow_add-self-then-end c =
    let plays = c.requires.plays.3 in
    let short = stage_short c.requires.plays.0 c.requires.plays.1 _ plays.0 plays.1 c.requires.plays.2 plays.2 refl in
    omega (arith, short, c.from.ensures, ap (λ (w : WorkerState). w.stage) c.self.view_is, ap (λ (w : WorkerState). w.workers) c.self.view_is)

pub overflow_add-self-then-end-2 : goal.overflow_add-self-then-end-2
overflow_add-self-then-end-2 c =
    let plays = c.requires.plays.3 in
    let short = place_short c.requires.plays.0 c.requires.plays.1 _ plays.0 plays.1 c.requires.plays.2 plays.2 refl in
    omega (arith, short, ap (λ (w : WorkerState). w.place) c.self.view_is)

pub returns-then-end-clause-plays : goal.returns-then-end-clause-plays
returns-then-end-clause-plays c = λ batches ends part plays is.
    let w : WorkerState = the_view c.self.inside in
    let here : Plays batches ends (record w { held = Some part }) = subst (λ (v : WorkerState). Plays batches ends (record v { held = Some part })) (sym c.self.view_is) plays in
    let none : w.held ≡ None = ap (λ (v : WorkerState). v.held) c.self.view_is ∙ c.requires.held in
    rw c.from.ensures (0, 0, sent_last batches ends (record w { held = Some part }) here.0 here.1 part here.2 refl c.every_batch_leaves_a_list.ensures.next c.early_pieces_are_of_the_list.ensures.settled c.early_pieces_are_of_the_list.ensures.pieces (is ∙ c.if-end.true) w.held none)

pub returns-else-end-clause-plays : goal.returns-else-end-clause-plays
returns-else-end-clause-plays c = λ batches ends part plays is.
    let w : WorkerState = the_view c.self.inside in
    let here : Plays batches ends (record w { held = Some part }) = subst (λ (v : WorkerState). Plays batches ends (record v { held = Some part })) (sym c.self.view_is) plays in
    let none : w.held ≡ None = ap (λ (v : WorkerState). v.held) c.self.view_is ∙ c.requires.held in
    (here.0, here.1 + 1, sent_on batches ends (record w { held = Some part }) here.0 here.1 part here.2 refl c.every_batch_leaves_a_list.ensures.next c.early_pieces_are_of_the_list.ensures.settled c.early_pieces_are_of_the_list.ensures.pieces (is ∙ c.if-end.false) w.held none)
