-- A text of recorded batches, each line of which fits its fields, passes each audit.
use Rattle.std.proofs.Common.{◌≡◌, ◌⊎◌, ◌≤◌, ◌+◌, ℕ, List, [], ◌∷◌, ◌++◌, map, length, Option, Some, None, Result, Ok, Err, refl, sym, ap, ◌∙◌, subst, inl, inr, arith}
use Rattle.std.proofs.lemmas.List.{length-map, map-append}
use Rattle.std.proofs.lemmas.Option.{none-some}
use Rattle.greedy_rules.specs.Batches.{DemandBatch}
use Rattle.clos_topology.specs.Network.{Network}
use Rattle.report_text.specs.declared.line.Line.{Line}
use Rattle.report_text.specs.declared.line.Line.TheVariants as line
use Rattle.report_text.specs.Lines.{IsLine}
use Rattle.schedule_audit.specs.declared.auditor.AuditRefused.{AuditRefused}
use Rattle.schedule_audit.specs.declared.auditor.AuditRefused.TheVariants.{Bad, Memory}
use Rattle.schedule_audit.specs.Laws.{read, ended_lines}
use Rattle.schedule_audit.specs.BadLines.{first_bad_line}
use Rattle.schedule_audit.specs.Reading.{ReadsLines}
use Rattle.schedule_audit.specs.ReadLaws.{AreAllLines, EachTextIsRead, EachTextHasOneReading}
use Rattle.schedule_audit.specs.Texts.{IsTextOf, ATextOfBatchesHasNoBadLine}
use Rattle.schedule_audit.specs.Audited.{IsVerdict}
use Rattle.run_lines.specs.Text.{text_of}
use Rattle.own_texts.specs.Passing.{HasNoBadLine}

all_lines-append : (xs ys : List Line) → AreAllLines xs → AreAllLines ys → AreAllLines (xs ++ ys)
all_lines-append [] ys first second = second
all_lines-append (x ∷ xs) ys first second = (first.0, all_lines-append xs ys first.1 second)

verdict : (net : Network) (b : ℕ) (body : List Line) (lines : List (Option Line)) (result : Result ℕ AuditRefused) → lines ≡ read body → first_bad_line net b (read body) ≡ None
    → IsVerdict net b lines result → (result ≡ Ok (length body)) ⊎ (result ≡ Err Memory)
verdict net b body lines (Ok count) same none is =
    inl (ap (λ (n : ℕ). Ok n) (is.1 ∙ (ap (λ (xs : List (Option Line)). length xs) same ∙ length-map body (λ (l : Line). Some l))))
verdict net b body lines (Err (Bad number)) same none is =
    absurd (none-some number (sym none ∙ (ap (first_bad_line net b) (sym same) ∙ is)))
verdict net b body lines (Err Memory) same none is = inr refl

pub passes : EachTextIsRead → EachTextHasOneReading → ATextOfBatchesHasNoBadLine → (net : Network) (b rounds : ℕ) (batches : List DemandBatch) (body : List Line) → IsTextOf net b batches body
    → AreAllLines body → length batches ≡ rounds → HasNoBadLine net b (text_of (body ++ line.End rounds ∷ [])) (body ++ line.End rounds ∷ [])
passes is_read one_reading no_bad_line net b rounds batches body text formed long =
    let whole : List Line = body ++ line.End rounds ∷ [] in
    let all : AreAllLines whole = all_lines-append body (line.End rounds ∷ []) formed ((let most = text.most_rounds in omega arith, tt), tt) in
    let reads : ReadsLines (text_of whole) (read whole) = is_read whole all in
    let is : read whole ≡ ended_lines body rounds = map-append (λ (l : Line). Some l) body (line.End rounds ∷ []) in
    let none : first_bad_line net b (read whole) ≡ None =
    ap (first_bad_line net b) (is ∙ ap (ended_lines body) (sym long)) ∙ no_bad_line net b batches body text in
    record {
      reads = reads;
      only = λ lines other. one_reading (text_of whole) lines (read whole) other reads;
      none = none;
      passes = λ lines result other is_verdict. verdict net b whole lines result (one_reading (text_of whole) lines (read whole) other reads) none is_verdict;
    }
