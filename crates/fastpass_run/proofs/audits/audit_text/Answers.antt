use Rattle.std.proofs.Common.{inl, inr, ◌∙◌}
use Rattle.std.specs.Io.KnownBytes.{Appends}
use Rattle.text_output.specs.Transfer.{AppendsFront}
use Rattle.fastpass_run.specs.Outside.{outside}
use Rattle.fastpass_run.proofs.AuditLemmas.{audited}
use Rattle.fastpass_run.proofs.audits.audit_text.Goals as goal

pub returns-in-Ok : goal.returns-in-Ok
returns-in-Ok g c = λ words accepted.
    let (long, took, ended) = c.in_ok-text.ensures.read in
    inr (inr (inr (inr (inl (audited Appends c.each_text_has_one_reading.ensures words (outside g.S.Source g.O.Sink c.args.src.now c.args.out.now) (outside g.S.Source g.O.Sink c.read_all.new.source c.write_all.new.sink) c.args.net c.args.b
    c.in_ok-text.text.items c.deref.result.now c.deref-2.result.now c.in_ok-lines.lines accepted took ended long c.deref.ensures.value c.in_ok-lines.ensures.verdict c.in_ok-lines.ensures.shows (c.deref-2.ensures.value ∙ c.in_ok-line.ensures) c.in-Ok.ensures.written)))))

pub returns : goal.returns
returns g c = λ words accepted.
    let (long, took, ended) = c.in_ok-text.ensures.read in (
      c.in-Err.ensures.failed,
      inr (inr (inr (inr (inl (audited AppendsFront c.each_text_has_one_reading.ensures words (outside g.S.Source g.O.Sink c.args.src.now c.args.out.now) (outside g.S.Source g.O.Sink c.read_all.new.source c.write_all.new.sink) c.args.net c.args.b
          c.in_ok-text.text.items c.deref.result.now c.deref-2.result.now c.in_ok-lines.lines accepted took ended long c.deref.ensures.value c.in_ok-lines.ensures.verdict c.in_ok-lines.ensures.shows (c.deref-2.ensures.value ∙ c.in_ok-line.ensures) c.in-Err.ensures.front))))),
    )
