use Rattle.std.proofs.Common.{ℕ, List, sym, subst}
use Rattle.fastpass_run.specs.Audits.{AuditEnds}
use Rattle.fastpass_run.specs.Outside.{Outside, outside}
use Rattle.fastpass_run.specs.Run.{Completes, TellsFaults, TellsExcess, ReadsNothing, status_of}
use Rattle.fastpass_run.specs.Words.{texts}
use Rattle.fastpass_run.proofs.RunLemmas.{noted, completes, tells_faults, tells_excess}
use Rattle.fastpass_run.proofs.AuditLemmas.{audit_ends}
use Rattle.fastpass_run.proofs.run.Goals as goal

pub returns : goal.returns
returns g c =
    let words : List (List ℕ) = texts c.args.words.now in
    let old : Outside = outside g.S.Source g.O.Sink c.args.src.now c.args.out.now in
    let new : Outside = outside g.S.Source g.O.Sink c.perform-outcome.new.src c.perform-outcome.new.out in
    let ends = c.perform-outcome.ensures.ends in
    let told : (P : ℕ → Type 0) → P (status_of c.perform-outcome.result) → P c.status.result = λ P p. subst P (sym c.status.ensures) p in
    record {
      ending = c.perform-outcome.result;
      status_is = c.status.ensures;
      tells = ends;
      noted = noted c.note.result c.note.ensures.told c.note.ensures.failed;
      completes = told (Completes words old) (completes words old new c.perform-outcome.result ends);
      tells_faults = told (TellsFaults words old) (tells_faults words old new c.perform-outcome.result ends);
      tells_excess = told (TellsExcess words old) (tells_excess words old new c.perform-outcome.result ends);
      reads_nothing = told (ReadsNothing words old new) c.perform-outcome.ensures.reads_nothing;
      audit_ends = told (AuditEnds words old) (audit_ends c.each_text_has_one_reading.ensures words old new c.perform-outcome.result ends);
    }
