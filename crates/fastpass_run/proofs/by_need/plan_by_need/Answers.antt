use Rattle.std.proofs.Common.{inl, inr, refl}
use Rattle.text_output.specs.Content.{sink_content}
use Rattle.fastpass_run.specs.Outside.{outside}
use Rattle.fastpass_run.specs.Run.{EndsBy}
use Rattle.fastpass_run.specs.Words.Asked.{plans_by_need}
use Rattle.fastpass_run.proofs.RunLemmas.{by_failure, stopped}
use Rattle.fastpass_run.proofs.by_need.plan_by_need.Goals as goal

pub returns-in_err-trace : goal.returns-in_err-trace
returns-in_err-trace g c = λ words accepted.
    by_failure (EndsBy words (outside g.S.Source g.O.Sink c.args.src.now c.args.out.now) (outside g.S.Source g.O.Sink c.read_trace.new.src c.args.out.now)) c.in_err-trace.field-0.0 c.from_residual.result
    c.from_residual.ensures.1 (c.in_err-trace.ensures.refused words (sink_content g.O.Sink c.args.out.now) (plans_by_need c.args.sizes, accepted, refl))

pub returns-in_err-write_fewest : goal.returns-in_err-write_fewest
returns-in_err-write_fewest g c = λ words accepted.
    let (bytes, took, ended, few, is) = c.in_ok-trace.ensures.read in
    let plan = c.in_err-write_fewest.ensures in
    let (cores, scheduled, written) = plan.writes in
    stopped words (outside g.S.Source g.O.Sink c.args.src.now c.args.out.now) (outside g.S.Source g.O.Sink c.read_trace.new.src c.write_fewest.new.sink) c.in_err-write_fewest.field-0.0
    c.from_residual-in_err-write_fewest.result c.from_residual-in_err-write_fewest.ensures.1
    (inr (inl (record {
      sizes = c.args.sizes;
      accepted = accepted;
      trace = c.in_ok-trace.trace;
      read = c.in_ok-trace.ensures.read;
      cores = cores;
      written = written.front;
      slots = scheduled;
      barred = plan.barred;
      ledger = plan.ledger;
      balanced = plan.balanced cores;
    })))
    (plans_by_need c.args.sizes, accepted) (bytes, took, few) written.cause

pub returns : goal.returns
returns g c = λ words accepted.
    let plan = c.in_ok-write_fewest.ensures in
    let (cores, scheduled, written) = plan.writes in
    inr (inl (record {
      sizes = c.args.sizes;
      accepted = accepted;
      trace = c.in_ok-trace.trace;
      read = c.in_ok-trace.ensures.read;
      cores = cores;
      written = written.all;
      slots = scheduled;
      barred = plan.barred;
      ledger = plan.ledger;
      balanced = plan.balanced cores;
    }))
