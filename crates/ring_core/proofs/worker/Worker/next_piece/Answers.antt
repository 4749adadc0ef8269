use Rattle.std.proofs.Common.{◌≡◌, ◌<◌, ◌+◌, length, true, false, Option, None, Some, option_map, refl, sym, ap, ◌∙◌, subst}
use Rattle.std.specs.Prelude.{IsSome, is_some}
use Rattle.std.proofs.lemmas.Bool.{true≢false, false≢true}
use Rattle.slot_batches.specs.declared.piece.Piece.{Piece}
use Rattle.slot_batches.specs.Pieces.{Part, part_of}
use Rattle.slot_batches.specs.Stands.{StageState}
use Rattle.ring_core.specs.contracts.worker.Worker.{the_view}
use Rattle.ring_core.specs.States.{WorkerState}
use Rattle.ring_core.specs.Windows.{batch_of, items_fed, is_fed}
use Rattle.ring_core.specs.Workers.{StageIsAt, HasPlayed, Plays}
use Rattle.ring_core.proofs.PlayLemmas.{held_is, to_push, idle_state, with_stage, stage_gives, gave_or_not}
use Rattle.ring_core.proofs.worker.Worker.next_piece.Goals as goal

is_none : (o : Option Piece) → is_some o ≡ false → o ≡ None
is_none None is = refl
is_none (Some piece) is = absurd (true≢false is)

some_piece : (o : Option Piece) → is_some o ≡ true → (piece : Piece) × (o ≡ Some piece)
some_piece None is = absurd (false≢true is)
some_piece (Some piece) is = (piece, refl)

pub emit-requires : goal.emit-requires
emit-requires c =
    let w : WorkerState = the_view c.self.inside in
    let batches = c.requires.0 in
    let ends = c.requires.1 in
    let plays : Plays batches ends w = subst (λ (v : WorkerState). Plays batches ends v) (sym c.self.view_is) c.requires.2 in
    let below : w.stage < length batches = subst (λ (v : WorkerState). v.stage < length batches) (sym c.self.view_is) c.requires.3 in
    let none : w.held ≡ None = ap (option_map part_of) (is_none c.self.inside.held (sym c.is_some.ensures ∙ c.if-is_some.false)) in
    let window = ends.before.window in
    let at = idle_state batches ends w plays.0 plays.1 plays.2 c.index_mut.result.now below none c.index_mut.ensures.value in
    (batch_of window w.stage, items_fed window w.stage plays.0, is_fed window w.stage plays.0, plays.1, at.stands)

pub returns-then-is_some-clause-piece : goal.returns-then-is_some-clause-piece
returns-then-is_some-clause-piece c =
    rw (← c.self.view_is) (λ batches ends plays below.
    let w : WorkerState = the_view c.self.inside in
    let piece = some_piece c.self.inside.held (sym c.is_some.ensures ∙ c.if-is_some.true) in
    let held : w.held ≡ Some (part_of piece.0) = ap (option_map part_of) piece.1 in
    ap (option_map part_of) c.take.ensures.value
    ∙ (held ∙ (sym (held_is batches ends w plays.0 plays.1 plays.2 (part_of piece.0) held).1 ∙ sym (to_push batches ends w plays.0 plays.1 plays.2))))

pub returns-then-is_some-clause-plays : goal.returns-then-is_some-clause-plays
returns-then-is_some-clause-plays c =
    rw (← c.self.view_is) (λ batches ends plays below.
    let w : WorkerState = the_view c.self.inside in
    (plays.0, plays.1, subst (λ (h : Option Part). HasPlayed batches ends (record w { held = h }) plays.0 plays.1) (ap (option_map part_of) (sym c.take.ensures.value)) plays.2))

pub returns-clause-piece : goal.returns-clause-piece
returns-clause-piece c =
    rw (← c.self.view_is) (λ batches ends plays below.
    let w : WorkerState = the_view c.self.inside in
    let none : w.held ≡ None = ap (option_map part_of) (is_none c.self.inside.held (sym c.is_some.ensures ∙ c.if-is_some.false)) in
    let at = idle_state batches ends w plays.0 plays.1 plays.2 c.index_mut.result.now below none c.index_mut.ensures.value in
    let window = ends.before.window in
    c.emit.ensures.piece (batch_of window w.stage) (items_fed window w.stage plays.0) (is_fed window w.stage plays.0) plays.1 at.stands
    ∙ (stage_gives w.endpoints window w.stage plays.0 plays.1 c.index_mut.result.now at ∙ sym (to_push batches ends w plays.0 plays.1 plays.2)))

pub returns-clause-plays : goal.returns-clause-plays
returns-clause-plays c =
    rw (← c.self.view_is) (λ batches ends plays below.
    let w : WorkerState = the_view c.self.inside in
    let none : w.held ≡ None = ap (option_map part_of) (is_none c.self.inside.held (sym c.is_some.ensures ∙ c.if-is_some.false)) in
    let fed = plays.0 in
    let given = plays.1 in
    let window = ends.before.window in
    let old : StageState = c.index_mut.result.now in
    let new : StageState = c.emit.new.self in
    let at = idle_state batches ends w fed given plays.2 old below none c.index_mut.ensures.value in
    let is = c.emit.ensures.piece (batch_of window w.stage) (items_fed window w.stage fed) (is_fed window w.stage fed) given at.stands ∙ stage_gives w.endpoints window w.stage fed given old at in
    let some : IsSome c.emit.result → StageIsAt w.endpoints window w.stage fed (given + 1) new = λ s. record {
      work = record {
        same_endpoints = c.emit.ensures.work.same_endpoints ∙ at.work.same_endpoints;
        same_size = c.emit.ensures.work.same_size ∙ at.work.same_size;
        same_number = c.emit.ensures.work.same_number ∙ at.work.same_number;
        same_first = c.emit.ensures.work.same_first ∙ at.work.same_first;
      };
      stands = c.emit.ensures.more (batch_of window w.stage) (items_fed window w.stage fed) (is_fed window w.stage fed) given at.stands s;
    } in
    let both = gave_or_not (w.stage < length batches) w.endpoints window w.stage fed given new c.emit.result below is some (λ none. subst (StageIsAt w.endpoints window w.stage fed given) (sym (c.emit.ensures.none none)) at) in
    (fed, given, with_stage batches ends w fed given plays.2 (option_map part_of c.emit.result) ends.taken w.taken fed new below plays.2.taken plays.2.taken_is plays.2.fed_within both.0 both.1))
