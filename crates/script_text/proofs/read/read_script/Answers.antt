use Rattle.std.proofs.Common.{◌≡◌, ℕ, ◌∷◌, [], ◌++◌, List, ap, ◌∙◌, sym}
use Rattle.std.proofs.lemmas.Result.{err_from_is_err_and}
use Rattle.csv.specs.Records.{fields_of}
use Rattle.trace_text.specs.Fields.{Record}
use Rattle.std.specs.Prelude.{Result, Ok, Err, IfOk}
use Rattle.trace_text.specs.declared.fault.TraceRefused.{TraceRefused}
use Rattle.script_text.specs.Content.{ScriptContent}
use Rattle.script_text.specs.Script.{script_rows_after, script_of, IsScript}
use Rattle.script_text.proofs.Happening.{every_script_happens}
use Rattle.script_text.proofs.Telling.{rows_after-none, rows_after-ok, told, finished}
use Rattle.script_text.proofs.read.read_script.Goals as goal

pub loop-rows-preserved : goal.loop-rows-preserved
loop-rows-preserved c =
    let before = c.loop-rows.invariant.0 in
    let next = rw c.if-branch.true at c.in_ok-read.ensures in
    let taken = c.in_ok-take.ensures before c.loop-rows.invariant.1 in (
      before ++ taken.0 ∷ [],
      taken.2,
      c.loop-rows.invariant.2
          ∙ (ap (λ (l : List Record). script_rows_after l before) (sym c.deref_mut.ensures.value ∙ next)
          ∙ rows_after-ok (fields_of c.read.new.fields) c.read.new.self before taken.0 taken.1),
    )

pub returns-in_err-take-clause-refused : goal.returns-in_err-take-clause-refused
returns-in_err-take-clause-refused c =
    let before = c.loop-rows.invariant.0 in
    let next = rw c.if-branch.true at c.in_ok-read.ensures in
    let same = c.loop-rows.invariant.2 ∙ ap (λ (l : List Record). script_rows_after l before) (sym c.deref_mut.ensures.value ∙ next) in
    let p = err_from_is_err_and c.from_residual-in_err-take.result c.from_residual-in_err-take.ensures.1 in
    rw (p.1, p.2)
    (told c.args.bytes.now (fields_of c.read.new.fields) c.read.new.self before c.take.new.self c.in_err-take.field-0.0 same (c.in_err-take.ensures before c.loop-rows.invariant.1))

pub returns-clause-accepted : goal.returns-clause-accepted
returns-clause-accepted c =
    let before = c.loop-rows.invariant.0 in
    let none = rw c.if-branch.false at c.in_ok-read.ensures in
    let all = c.loop-rows.invariant.2 ∙ (ap (λ (l : List Record). script_rows_after l before) (sym c.deref_mut.ensures.value ∙ none) ∙ rows_after-none before) in
    (finished c.args.bytes.now before c.loop-rows.rows c.finish.result all c.loop-rows.invariant.1 c.finish.ensures).0

pub returns-clause-refused : goal.returns-clause-refused
returns-clause-refused c =
    let before = c.loop-rows.invariant.0 in
    let none = rw c.if-branch.false at c.in_ok-read.ensures in
    let all = c.loop-rows.invariant.2 ∙ (ap (λ (l : List Record). script_rows_after l before) (sym c.deref_mut.ensures.value ∙ none) ∙ rows_after-none before) in
    (finished c.args.bytes.now before c.loop-rows.rows c.finish.result all c.loop-rows.invariant.1 c.finish.ensures).1

pub returns-clause-happens : goal.returns-clause-happens
returns-clause-happens c = happens c.finish.result (returns-clause-accepted c)
  where
    happens : (answer : Result ScriptContent TraceRefused) → IfOk answer (λ script. script_of c.args.bytes.now ≡ Ok script) → IfOk answer IsScript
    happens (Ok script) is = every_script_happens c.args.bytes.now script c.asks_are_counted.ensures is
    happens (Err why) is = tt
