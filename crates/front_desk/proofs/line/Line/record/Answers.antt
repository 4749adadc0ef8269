use Rattle.std.proofs.lemmas.Result.{on_ok_weaker}
use Rattle.rtrb.specs.Ring.{received}
use Rattle.front_desk.proofs.Reading.{closed_is_not, entries-read}
use Rattle.front_desk.proofs.line.Line.record.Goals as goal

pub returns-clause-entries : goal.returns-clause-entries
returns-clause-entries c =
    let line = c.args.self.now in
    on_ok_weaker c.record.result
    (λ entries endpoint endpoints it. entries-read endpoint endpoints line.lane (received line.ring) line.answers.items c.args.batch.now.entries c.record.new.batch.entries (it.reads (closed_is_not line.progress c.requires.progress)) entries)
    c.record.ensures.entries
