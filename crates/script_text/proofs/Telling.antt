-- What a text's rows tell, one after the other.
use Rattle.std.proofs.Common.{◌≡◌, ℕ, ◌+◌, List, [], ◌∷◌, ◌++◌, length, Result, Ok, Err, refl, sym, ap, ◌∙◌, subst}
use Rattle.trace_text.specs.Fields.{Record}
use Rattle.trace_text.specs.Trace.{FaultyRow}
use Rattle.trace_text.specs.declared.fault.Fault.{Fault}
use Rattle.script_text.specs.Content.{ScriptContent}
use Rattle.script_text.specs.Earlier.{is_ended}
use Rattle.script_text.specs.Faults.{read_script_row}
use Rattle.script_text.specs.Script.{ended_script, script_row_more, script_rows_after, script_of, IsScriptFaultOf}
use Rattle.script_text.specs.Standing.{ScriptStandsFor, TakesScriptRow, ScriptFinishes}
use Rattle.script_text.specs.declared.rows.Rows.{Rows}
use Rattle.trace_text.specs.declared.fault.TraceRefused.{TraceRefused}
use Rattle.trace_text.specs.declared.fault.TraceRefused.TheVariants as refused
use Rattle.std.specs.Prelude.{IfOk, IfErr}
use Rattle.script_text.specs.declared.row.Row.{Row}

pub rows_after-none : (before : List Row) → script_rows_after [] before ≡ ended_script before (is_ended before)
unfolding script_rows_after
rows_after-none before = refl

pub rows_after-ok : (fields : Record) (records : List Record) (before : List Row) (this : Row) → read_script_row before fields ≡ Ok this → script_rows_after (fields ∷ records) before ≡ script_rows_after records (before ++ this ∷ [])
unfolding script_rows_after
rows_after-ok fields records before this is = ap (λ (r : Result Row Fault). script_row_more (script_rows_after records) before r) is

pub rows_after-err : (fields : Record) (records : List Record) (before : List Row) (fault : Fault) → read_script_row before fields ≡ Err fault → script_rows_after (fields ∷ records) before ≡ Err (record { row = length before + 1; fault = fault })
unfolding script_rows_after
rows_after-err fields records before fault is = ap (λ (r : Result Row Fault). script_row_more (script_rows_after records) before r) is

-- a faulty row is told
pub told : (text : List ℕ) (fields : Record) (records : List Record) (before : List Row) (rows : Rows) (why : TraceRefused) → script_of text ≡ script_rows_after (fields ∷ records) before → TakesScriptRow before fields rows (Err why)
    → IsScriptFaultOf (script_of text) why
told text fields records before rows (refused.Row number fault) same is =
    same ∙ (rows_after-err fields records before fault is.0 ∙ ap (λ (n : ℕ). Err (record { row = n; fault = fault })) (sym is.1))
told text fields records before rows refused.Memory same is = tt

-- and what stands after the last row
pub finished : (text : List ℕ) (before : List Row) (rows : Rows) (answer : Result ScriptContent TraceRefused) → script_of text ≡ ended_script before (is_ended before) → ScriptStandsFor before rows → ScriptFinishes rows answer
    → IfOk answer (λ script. script_of text ≡ Ok script) × IfErr answer (IsScriptFaultOf (script_of text))
finished text before rows (Ok script) all stands ends = (all ∙ ends before stands, tt)
finished text before rows (Err why) all stands ends = (tt, subst (λ (r : Result ScriptContent FaultyRow). IsScriptFaultOf r why) (sym all) (ends before stands))
