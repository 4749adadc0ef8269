use Rattle.std.proofs.Common.{ℕ, List, Err, IfErr, refl, arith}
use Rattle.text_output.specs.Content.{SinkContent}
use Rattle.fastpass_run.specs.Failures.{failure_of_trace}
use Rattle.fastpass_run.specs.Outside.{Outside, beside}
use Rattle.fastpass_run.specs.Rows.{AsksToRead, of_trace}
use Rattle.fastpass_run.specs.Run.{EndsBy}
use Rattle.fastpass_run.proofs.RunLemmas.{by_failure, trace_refused}
use Rattle.fastpass_run.proofs.traces.read_trace.Goals as goal

pub returns-in_err-finish-clause-refused : goal.returns-in_err-finish-clause-refused
returns-in_err-finish-clause-refused g c =
    let (bytes, took, ended, few, given) = c.in_ok-give_all.ensures.read in
    let before : SinkContent → Outside = λ sink. beside g.S.Source sink c.args.src.now in
    let after : SinkContent → Outside = λ sink. beside g.S.Source sink c.give_all.new.source in
    by_failure (λ r. IfErr r (λ failure. (words : List (List ℕ)) (sink : SinkContent) → AsksToRead words (of_trace c.args.command) → EndsBy words (before sink) (after sink) (Err failure)))
    (failure_of_trace c.in_err-finish.field-0.0) c.from_residual-in_err-finish.result c.from_residual-in_err-finish.ensures.1
    (λ words sink asks. trace_refused words (before sink) (after sink) c.args.command c.in_err-finish.field-0.0 asks (record { same_bytes = refl; same_faults = refl })
    (bytes, took, ended, few, c.in_err-finish.ensures.refused c.args.command bytes (given c.args.command c.in_ok-reader.ensures)))

pub finish-requires : goal.finish-requires
finish-requires g c =
    let (bytes, took, ended, few, given) = c.in_ok-give_all.ensures.read in
    (c.args.command, bytes, given c.args.command c.in_ok-reader.ensures, omega (arith, few))

pub returns-clause-read : goal.returns-clause-read
returns-clause-read g c =
    let (bytes, took, ended, few, given) = c.in_ok-give_all.ensures.read in
    (bytes, took, ended, few, c.in_ok-finish.ensures.accepted c.args.command bytes (given c.args.command c.in_ok-reader.ensures))
