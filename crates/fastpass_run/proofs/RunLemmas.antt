-- What a run tells by the way it ends.
use Rattle.std.proofs.Common.{◌≡◌, ◌≤◌, ◌<◌, ◌+◌, ℕ, List, [], ◌++◌, length, length-append, Option, Some, None, Result, Ok, Err, IsErrAnd, OnOk, OnErr, refl, sym, ap, ◌∙◌, subst, arith, inl, inr}
use Rattle.std.specs.Option.{is_some, unwrap_or}
use Rattle.std.specs.Io.KnownBytes.{Appends, Consumes, IsAtEnd}
use Rattle.std.proofs.KnownBytes.{Consumes-nil}
use Rattle.std.proofs.lemmas.Bool.{false≢true}
use Rattle.std.proofs.lemmas.List.{append-nil}
use Rattle.trace_text.specs.declared.command.Command.TheVariants.{Plan, Replay, Receive}
use Rattle.trace_text.specs.declared.fault.Fault.{Fault}
use Rattle.trace_text.specs.declared.fault.TraceRefused.{TraceRefused}
use Rattle.trace_text.specs.declared.fault.TraceRefused.TheVariants as trace
use Rattle.trace_text.specs.declared.command.Command.{Command}
use Rattle.trace_text.specs.Trace.{TraceContent, FaultyRow, trace_of, IsFaultOf}
use Rattle.fp_edge.specs.declared.source.Failed.{Failed}
use Rattle.text_output.specs.Output.{IsCaused}
use Rattle.text_output.specs.Transfer.{AppendsFront}
use Rattle.text_output.specs.declared.output.Stop.{Stop}
use Rattle.text_output.specs.declared.output.Stop.TheVariants.{Write, Memory}
use Rattle.fastpass_run.specs.Failures.{failure_of_stop, failure_of_trace}
use Rattle.fastpass_run.specs.Outside.{Outside, Growth, IsUnwritten}
use Rattle.fastpass_run.specs.Rows.{Rows, of_trace, of_script, fault_in, first_faulty, rows_of_input, rows_of, AsksToRead, IsReadAs}
use Rattle.fastpass_run.specs.Run.{Ending, EndsBy, Performs, HasWords, HasFaultyRow, GivesBytes, Completes, TellsFaults, TellsExcess, status_of}
use Rattle.fastpass_run.specs.Transfer.{Takes, TakesAll, input_limit}
use Rattle.fastpass_run.specs.Words.{Asked, asked_by_words}
use Rattle.fastpass_run.specs.Words.Asked.{writes, plans_by_need, audits, takes_over}
use Rattle.fastpass_run.specs.declared.outcome.Failure.{Failure}
use Rattle.fastpass_run.specs.declared.outcome.Failure.TheVariants as failure

-- ---- where a text stops, and the note

-- what holds of a failure holds of what passes it on
pub by_failure : {A : Type 0} (P : Result A Failure → Type 0) (failed : Failure) (r : Result A Failure) → IsErrAnd r (λ e. e ≡ failed) → P (Err failed) → P r
by_failure P failed (Ok done) is p = absurd is
by_failure P failed (Err e) is p = subst (λ (f : Failure). P (Err f)) (sym is) p

-- what a front of the text comes to, by what stopped it
front_ends : (words : List (List ℕ)) (old new : Outside) (stop : Stop) → Performs AppendsFront words old new → HasWords words → Takes old.left new.left (λ n. n ≤ input_limit) → IsCaused old.sink.faults new.sink.faults stop
    → EndsBy words old new (Err (failure_of_stop stop))
front_ends words old new Write performs asked took cause = (cause, performs)
front_ends words old new Memory performs asked took cause = (asked, took, inr performs)

pub stopped : (words : List (List ℕ)) (old new : Outside) (stop : Stop) (r : Ending) → IsErrAnd r (λ e. e ≡ failure_of_stop stop) → Performs AppendsFront words old new → HasWords words → Takes old.left new.left (λ n. n ≤ input_limit)
    → IsCaused old.sink.faults new.sink.faults stop → EndsBy words old new r
stopped words old new stop r is performs asked took cause = by_failure (EndsBy words old new) (failure_of_stop stop) r is (front_ends words old new stop performs asked took cause)

-- what a refused trace comes to, whose bytes were all read
pub trace_refused : (words : List (List ℕ)) (old new : Outside) (command : Command) (refused : TraceRefused) → AsksToRead words (of_trace command) → IsUnwritten old new
    → TakesAll old.left new.left (λ bytes. IsFaultOf (trace_of command bytes) refused) → EndsBy words old new (Err (failure_of_trace refused))
trace_refused words old new command (trace.Row row fault) asks unwritten (bytes, took, ended, few, is) =
    (record { rows = of_trace command; accepted = asks; read = (bytes, took, ended, few, ap fault_in is) }, unwritten)
trace_refused words old new command trace.Memory asks unwritten (bytes, took, ended, few, is) = ((asks.0, asks.1), (bytes, took, few), inl unwritten)

-- a trace that was read for a command was read for the same one
pub read_for : (left left' : Option (List ℕ)) (content : TraceContent) (one other : Command) → one ≡ other → TakesAll left left' (λ bytes. trace_of one bytes ≡ Ok content) → TakesAll left left' (λ bytes. trace_of other bytes ≡ Ok content)
read_for left left' content one other same read = subst (λ (command : Command). TakesAll left left' (λ bytes. trace_of command bytes ≡ Ok content)) same read

-- where nothing is read
pub takes_none : (left left' : Option (List ℕ)) → left' ≡ left → Takes left left' (λ n. n ≤ input_limit)
takes_none left left' same = subst (λ (l : Option (List ℕ)). Takes left l (λ n. n ≤ input_limit)) (sym same) ([], Consumes-nil left, omega arith)

-- a note without a fault was written
pub noted : {A B : Type 0} (r : Result (Unit {0}) Failed) → OnOk r A → OnErr r B → ¬ B → A
noted (Ok done) told failed quiet = told
noted (Err e) told failed quiet = absurd (quiet failed)

-- ---- what the words ask for

pub same_asked : (words : List (List ℕ)) (one other : Asked) → asked_by_words words ≡ Some one → asked_by_words words ≡ Some other → one ≡ other
same_asked words one other is so = ap (λ (o : Option Asked). unwrap_or o one) (sym is ∙ so)

pub refused_or_asked : (words : List (List ℕ)) (asked : Asked) → asked_by_words words ≡ None → asked_by_words words ≡ Some asked → ⊥
refused_or_asked words asked refused accepted = false≢true (ap (λ (o : Option Asked). is_some o) (sym refused ∙ accepted))

-- what asks for rows asks for these alone
same_rows : (words : List (List ℕ)) (asked : Asked) (rows : Rows) → asked_by_words words ≡ Some asked → AsksToRead words rows → rows_of asked ≡ Some rows
same_rows words asked rows accepted (other, is, reads) = ap rows_of (same_asked words asked other accepted is) ∙ reads

-- and what asks for none reads none
pub reads_none : (words : List (List ℕ)) (asked : Asked) (rows : Rows) → asked_by_words words ≡ Some asked → rows_of asked ≡ None → AsksToRead words rows → ⊥
reads_none words asked rows accepted none reads = false≢true (ap (λ (o : Option Rows). is_some o) (sym none ∙ same_rows words asked rows accepted reads))

the_rows : (words : List (List ℕ)) (asked : Asked) (one other : Rows) → asked_by_words words ≡ Some asked → rows_of asked ≡ Some one → AsksToRead words other → one ≡ other
the_rows words asked one other accepted is reads = ap (λ (o : Option Rows). unwrap_or o one) (sym is ∙ same_rows words asked other accepted reads)

-- ---- what was read

pub whole : (left : Option (List ℕ)) (bytes taken : List ℕ) → Consumes (Some bytes) left taken → IsAtEnd left → bytes ≡ taken
whole None bytes taken took ended = absurd took
whole (Some rest) bytes taken took ended = took ∙ (ap (λ (r : List ℕ). taken ++ r) ended ∙ append-nil taken)

-- bytes that were read to their end
record WasRead (rows : Rows) (bytes : List ℕ) (faulty : Option FaultyRow) : Type 0 where
  pub few : length bytes ≤ input_limit
  pub read : first_faulty rows bytes ≡ faulty

was_read : (one rows : Rows) (old new : Outside) (bytes : List ℕ) (faulty : Option FaultyRow) → one ≡ rows → old.left ≡ Some bytes → IsReadAs (λ taken. first_faulty one taken ≡ faulty) old new → WasRead rows bytes faulty
was_read one rows old new bytes faulty same told (taken, took, ended, few, is) =
    let all : bytes ≡ taken = whole new.left bytes taken (subst (λ (l : Option (List ℕ)). Consumes l new.left taken) told took) ended in
    record {
      few = omega (arith, ap (λ (bs : List ℕ). length bs) all, few);
      read = ap (λ (r : Rows). first_faulty r bytes) (sym same) ∙ (ap (first_faulty one) all ∙ is);
    }

performed : (grew : Growth) (words : List (List ℕ)) (old new : Outside) (rows : Rows) (bytes : List ℕ) → Performs grew words old new → GivesBytes words old rows bytes → WasRead rows bytes None
performed grew words old new rows bytes (inl plans) gives =
    let (taken, took, ended, few, is) = plans.read in
    was_read (of_trace Plan) rows old new bytes None (the_rows words (writes plans.asked) (of_trace Plan) rows plans.accepted (ap rows_of_input plans.command) gives.accepted) gives.told (taken, took, ended, few, ap fault_in is)
performed grew words old new rows bytes (inr (inl plans)) gives =
    let (taken, took, ended, few, is) = plans.read in
    was_read (of_trace Plan) rows old new bytes None (the_rows words (plans_by_need plans.sizes) (of_trace Plan) rows plans.accepted refl gives.accepted) gives.told (taken, took, ended, few, ap fault_in is)
performed grew words old new rows bytes (inr (inr (inl replays))) gives =
    let (taken, took, ended, few, is) = replays.read in
    was_read (of_trace Replay) rows old new bytes None (the_rows words (writes replays.asked) (of_trace Replay) rows replays.accepted (ap rows_of_input replays.command) gives.accepted) gives.told
    (taken, took, ended, few, ap fault_in is)
performed grew words old new rows bytes (inr (inr (inr (inl makes)))) gives = absurd (reads_none words (writes makes.asked) rows makes.accepted (ap rows_of_input makes.command) gives.accepted)
performed grew words old new rows bytes (inr (inr (inr (inr (inl audit))))) gives = absurd (reads_none words (audits audit.net audit.b) rows audit.accepted refl gives.accepted)
performed grew words old new rows bytes (inr (inr (inr (inr (inr (inl receives)))))) gives =
    let (taken, took, ended, few, is) = receives.read in
    was_read (of_trace Receive) rows old new bytes None (the_rows words (writes receives.asked) (of_trace Receive) rows receives.accepted (ap rows_of_input receives.command) gives.accepted) gives.told
    (taken, took, ended, few, ap fault_in is)
performed grew words old new rows bytes (inr (inr (inr (inr (inr (inr takeover)))))) gives =
    let (taken, took, ended, few, is) = takeover.read in
    was_read of_script rows old new bytes None (the_rows words takes_over of_script rows takeover.accepted refl gives.accepted) gives.told (taken, took, ended, few, ap fault_in is)

faulty : (words : List (List ℕ)) (old new : Outside) (row : ℕ) (fault : Fault) (rows : Rows) (bytes : List ℕ) → HasFaultyRow words old new row fault → GivesBytes words old rows bytes
    → WasRead rows bytes (Some (record { row = row; fault = fault }))
faulty words old new row fault rows bytes has gives =
    let (asked, accepted, reads) = has.accepted in
    was_read has.rows rows old new bytes (Some (record { row = row; fault = fault })) (the_rows words asked has.rows rows accepted reads gives.accepted) gives.told has.read

pub too_many : (old new : Outside) (bytes : List ℕ) → old.left ≡ Some bytes → Takes old.left new.left (λ n. n ≡ input_limit + 1) → input_limit < length bytes
too_many old new bytes told (taken, took, many) = omega (arith, fits new.left (subst (λ (l : Option (List ℕ)). Consumes l new.left taken) told took), many)
  where
    fits : (left : Option (List ℕ)) → Consumes (Some bytes) left taken → length taken ≤ length bytes
    fits None took = absurd took
    fits (Some rest) took = omega (arith, ap (λ (bs : List ℕ). length bs) took, length-append taken rest)

none_or_some : (r : Option FaultyRow) (at : FaultyRow) → r ≡ None → r ≡ Some at → ⊥
none_or_some r at none some = false≢true (ap (λ (o : Option FaultyRow). is_some o) (sym none ∙ some))

-- ---- which ends there may be

pub completes : (words : List (List ℕ)) (old new : Outside) (ending : Ending) → EndsBy words old new ending → Completes words old (status_of ending)
completes words old new (Ok done) ends rows bytes gives few is = inl refl
completes words old new (Err failure.Words) ends rows bytes gives few is = absurd (refused_or_asked words gives.accepted.0 ends.0 gives.accepted.1)
completes words old new (Err (failure.Row row fault)) ends rows bytes gives few is =
    absurd (none_or_some (first_faulty rows bytes) (record { row = row; fault = fault }) is (faulty words old new row fault rows bytes ends.0 gives).read)
completes words old new (Err failure.Read) ends rows bytes gives few is = inr (inl refl)
completes words old new (Err failure.Write) ends rows bytes gives few is = inr (inr (inl refl))
completes words old new (Err failure.Memory) ends rows bytes gives few is = inr (inr (inr (inl refl)))
completes words old new (Err failure.Big) ends rows bytes gives few is = let many = too_many old new bytes gives.told ends.1 in absurd (omega (arith, many, few))
completes words old new (Err (failure.Bad line)) ends rows bytes gives few is = absurd (reads_none words (audits ends.0.net ends.0.b) rows ends.0.accepted refl gives.accepted)

pub tells_faults : (words : List (List ℕ)) (old new : Outside) (ending : Ending) → EndsBy words old new ending → TellsFaults words old (status_of ending)
tells_faults words old new (Ok done) ends rows bytes at gives few is = absurd (none_or_some (first_faulty rows bytes) at (performed Appends words old new rows bytes ends gives).read is)
tells_faults words old new (Err failure.Words) ends rows bytes at gives few is = absurd (refused_or_asked words gives.accepted.0 ends.0 gives.accepted.1)
tells_faults words old new (Err (failure.Row row fault)) ends rows bytes at gives few is = inl refl
tells_faults words old new (Err failure.Read) ends rows bytes at gives few is = inr (inl refl)
tells_faults words old new (Err failure.Write) ends rows bytes at gives few is = absurd (none_or_some (first_faulty rows bytes) at (performed AppendsFront words old new rows bytes ends.1 gives).read is)
tells_faults words old new (Err failure.Memory) ends rows bytes at gives few is = inr (inr (inl refl))
tells_faults words old new (Err failure.Big) ends rows bytes at gives few is = let many = too_many old new bytes gives.told ends.1 in absurd (omega (arith, many, few))
tells_faults words old new (Err (failure.Bad line)) ends rows bytes at gives few is = absurd (reads_none words (audits ends.0.net ends.0.b) rows ends.0.accepted refl gives.accepted)

pub tells_excess : (words : List (List ℕ)) (old new : Outside) (ending : Ending) → EndsBy words old new ending → TellsExcess words old (status_of ending)
tells_excess words old new (Ok done) ends rows bytes gives many =
    let few = (performed Appends words old new rows bytes ends gives).few in
    absurd (omega (arith, many, few))
tells_excess words old new (Err failure.Words) ends rows bytes gives many = absurd (refused_or_asked words gives.accepted.0 ends.0 gives.accepted.1)
tells_excess words old new (Err (failure.Row row fault)) ends rows bytes gives many =
    let few = (faulty words old new row fault rows bytes ends.0 gives).few in
    absurd (omega (arith, many, few))
tells_excess words old new (Err failure.Read) ends rows bytes gives many = inr (inl refl)
tells_excess words old new (Err failure.Write) ends rows bytes gives many =
    let few = (performed AppendsFront words old new rows bytes ends.1 gives).few in
    absurd (omega (arith, many, few))
tells_excess words old new (Err failure.Memory) ends rows bytes gives many = inr (inr (inl refl))
tells_excess words old new (Err failure.Big) ends rows bytes gives many = inl refl
tells_excess words old new (Err (failure.Bad line)) ends rows bytes gives many = absurd (reads_none words (audits ends.0.net ends.0.b) rows ends.0.accepted refl gives.accepted)
