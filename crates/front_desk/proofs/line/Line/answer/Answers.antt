use Rattle.std.proofs.Common.{◌≡◌, ℕ, List, length, Some, slice_get, refl, subst, arith}
use Rattle.std.proofs.lemmas.Option.{slice_get_read}
use Rattle.rtrb.specs.Ring.{received}
use Rattle.front_desk.proofs.Reading.{as_many_answers}
use Rattle.front_desk.proofs.line.Line.answer.Goals as goal

pub index-requires : goal.index-requires
index-requires c =
    let line = c.args.self.now in
    let it = c.requires.line in
    omega (arith, line.answers.ok.0, as_many_answers it.0 it.1 (received line.ring) line.answers.items it.2.answers_are, c.requires.taken)

pub returns : goal.returns
returns c = λ endpoint endpoints it.
    let line = c.args.self.now in
    let long = as_many_answers endpoint endpoints (received line.ring) line.answers.items it.answers_are in
    subst (λ (xs : List ℕ). slice_get xs c.args.at ≡ Some c.index.result.now) it.answers_are
    (slice_get_read line.answers.items (length line.answers.items) c.args.at c.index.result.now refl (omega (arith, long, c.requires.taken)) c.index.ensures)
