use Rattle.std.proofs.Common.{None, inl, inr, refl, ap, ◌∙◌}
use Rattle.trace_text.specs.declared.command.Command.TheVariants.{Plan, Replay, Receive}
use Rattle.text_output.specs.Content.{sink_content}
use Rattle.fastpass_run.specs.Outside.{Outside, outside}
use Rattle.fastpass_run.specs.Words.{asked_by_input}
use Rattle.fastpass_run.specs.Words.Asked.{writes}
use Rattle.fastpass_run.specs.declared.words.Input.TheVariants.{Read}
use Rattle.fastpass_run.specs.Rows.{rows_of_input}
use Rattle.fastpass_run.specs.Run.{EndsBy}
use Rattle.fastpass_run.proofs.RunLemmas.{by_failure, stopped, takes_none, read_for}
use Rattle.fastpass_run.proofs.write_text.Goals as goal

pub returns-in_err-write_made-in-Made-clause-ends : goal.returns-in_err-write_made-in-Made-clause-ends
returns-in_err-write_made-in-Made-clause-ends g c = λ words accepted.
    let old : Outside = outside g.S.Source g.O.Sink c.args.src.now c.args.out.now in
    let made = c.in_err-write_made-in-Made.ensures in
    stopped words old (outside g.S.Source g.O.Sink c.args.src.now c.write_made.new.sink) c.in_err-write_made-in-Made.field-0.0 c.from_residual.result c.from_residual.ensures.1
    (inr (inr (inr (inl (record {
      asked = asked_by_input c.args.input c.args.sizes;
      number = c.in-Made.number;
      accepted = accepted;
      command = c.in-Made.is;
      unread = record { same_bytes = refl; same_faults = refl };
      written = λ cores. (made.writes cores).front;
      balanced = made.balanced;
      shown = made.shown;
    })))))
    (writes (asked_by_input c.args.input c.args.sizes), accepted) (takes_none old.left old.left refl) (made.writes (λ number source. None)).cause

pub returns-in_err-write_plan-in-Plan-clause-ends : goal.returns-in_err-write_plan-in-Plan-clause-ends
returns-in_err-write_plan-in-Plan-clause-ends g c = λ words accepted.
    let (bytes, took, ended, few, is) = c.in_ok-trace.ensures.read in
    let plan = c.in_err-write_plan-in-Plan.ensures in
    let (cores, scheduled, written) = plan.writes in
    stopped words (outside g.S.Source g.O.Sink c.args.src.now c.args.out.now) (outside g.S.Source g.O.Sink c.read_trace.new.src c.write_plan.new.sink) c.in_err-write_plan-in-Plan.field-0.0
    c.from_residual-in_err-write_plan-in-Plan.result c.from_residual-in_err-write_plan-in-Plan.ensures.1
    (inl (record {
      asked = asked_by_input c.args.input c.args.sizes;
      accepted = accepted;
      command = c.in-Read.is ∙ ap Read c.in-Plan.is;
      trace = c.in_ok-trace.trace;
      read = read_for (g.S.Source.left c.args.src.now) (g.S.Source.left c.read_trace.new.src) c.in_ok-trace.trace c.in-Read.command Plan c.in-Plan.is c.in_ok-trace.ensures.read;
      cores = cores;
      written = written.front;
      slots = scheduled;
      ledger = plan.ledger;
      balanced = plan.balanced cores;
    }))
    (writes (asked_by_input c.args.input c.args.sizes), accepted) (bytes, took, few) written.cause

pub returns-in_err-write_replay-in-Replay-clause-ends : goal.returns-in_err-write_replay-in-Replay-clause-ends
returns-in_err-write_replay-in-Replay-clause-ends g c = λ words accepted.
    let (bytes, took, ended, few, is) = c.in_ok-trace.ensures.read in
    let replay = c.in_err-write_replay-in-Replay.ensures in
    let (cores, makes, written) = replay.writes in
    stopped words (outside g.S.Source g.O.Sink c.args.src.now c.args.out.now) (outside g.S.Source g.O.Sink c.read_trace.new.src c.write_replay.new.sink) c.in_err-write_replay-in-Replay.field-0.0
    c.from_residual-in_err-write_replay-in-Replay.result c.from_residual-in_err-write_replay-in-Replay.ensures.1
    (inr (inr (inl (record {
      asked = asked_by_input c.args.input c.args.sizes;
      accepted = accepted;
      command = c.in-Read.is ∙ ap Read c.in-Replay.is;
      trace = c.in_ok-trace.trace;
      read = read_for (g.S.Source.left c.args.src.now) (g.S.Source.left c.read_trace.new.src) c.in_ok-trace.trace c.in-Read.command Replay c.in-Replay.is c.in_ok-trace.ensures.read;
      cores = cores;
      written = written.front;
      slots = makes.scheduled;
      shown = replay.shown cores;
      sends = replay.sends cores;
      ledger = replay.ledger cores;
    }))))
    (writes (asked_by_input c.args.input c.args.sizes), accepted) (bytes, took, few) written.cause

pub returns-in-Replay-clause-ends : goal.returns-in-Replay-clause-ends
returns-in-Replay-clause-ends g c = λ words accepted.
    let replay = c.in_ok-write_replay-in-Replay.ensures in
    let (cores, makes, written) = replay.writes in
    inr (inr (inl (record {
      asked = asked_by_input c.args.input c.args.sizes;
      accepted = accepted;
      command = c.in-Read.is ∙ ap Read c.in-Replay.is;
      trace = c.in_ok-trace.trace;
      read = read_for (g.S.Source.left c.args.src.now) (g.S.Source.left c.read_trace.new.src) c.in_ok-trace.trace c.in-Read.command Replay c.in-Replay.is c.in_ok-trace.ensures.read;
      cores = cores;
      written = written.all;
      slots = makes.scheduled;
      shown = replay.shown cores;
      sends = replay.sends cores;
      ledger = replay.ledger cores;
    })))

pub returns-in_err-trace-clause-ends : goal.returns-in_err-trace-clause-ends
returns-in_err-trace-clause-ends g c = λ words accepted.
    by_failure (EndsBy words (outside g.S.Source g.O.Sink c.args.src.now c.args.out.now) (outside g.S.Source g.O.Sink c.read_trace.new.src c.args.out.now)) c.in_err-trace.field-0.0 c.from_residual-in_err-trace.result
    c.from_residual-in_err-trace.ensures.1
    (c.in_err-trace.ensures.refused words (sink_content g.O.Sink c.args.out.now) (writes (asked_by_input c.args.input c.args.sizes), accepted, ap rows_of_input c.in-Read.is))

pub returns-in-Plan-clause-ends : goal.returns-in-Plan-clause-ends
returns-in-Plan-clause-ends g c = λ words accepted.
    let plan = c.in_ok-write_plan-in-Plan.ensures in
    let (cores, scheduled, written) = plan.writes in
    inl (record {
      asked = asked_by_input c.args.input c.args.sizes;
      accepted = accepted;
      command = c.in-Read.is ∙ ap Read c.in-Plan.is;
      trace = c.in_ok-trace.trace;
      read = read_for (g.S.Source.left c.args.src.now) (g.S.Source.left c.read_trace.new.src) c.in_ok-trace.trace c.in-Read.command Plan c.in-Plan.is c.in_ok-trace.ensures.read;
      cores = cores;
      written = written.all;
      slots = scheduled;
      ledger = plan.ledger;
      balanced = plan.balanced cores;
    })

pub returns-in_err-write_receive-in-Receive-clause-ends : goal.returns-in_err-write_receive-in-Receive-clause-ends
returns-in_err-write_receive-in-Receive-clause-ends g c = λ words accepted.
    let (bytes, took, ended, few, is) = c.in_ok-trace.ensures.read in
    let written = c.in_err-write_receive-in-Receive.ensures in
    stopped words (outside g.S.Source g.O.Sink c.args.src.now c.args.out.now) (outside g.S.Source g.O.Sink c.read_trace.new.src c.write_receive.new.sink) c.in_err-write_receive-in-Receive.field-0.0
    c.from_residual-in_err-write_receive-in-Receive.result c.from_residual-in_err-write_receive-in-Receive.ensures.1
    (inr (inr (inr (inr (inr (inl (record {
      asked = asked_by_input c.args.input c.args.sizes;
      accepted = accepted;
      command = c.in-Read.is ∙ ap Read c.in-Receive.is;
      trace = c.in_ok-trace.trace;
      read = read_for (g.S.Source.left c.args.src.now) (g.S.Source.left c.read_trace.new.src) c.in_ok-trace.trace c.in-Read.command Receive c.in-Receive.is c.in_ok-trace.ensures.read;
      written = written.front;
    })))))))
    (writes (asked_by_input c.args.input c.args.sizes), accepted) (bytes, took, few) written.cause
